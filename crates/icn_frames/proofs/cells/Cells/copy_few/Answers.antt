use Rattle.std.proofs.Common.{◌≡◌, ◌<◌, ◌+◌, ◌-◌, ℕ, List, ◌∷◌, ◌++◌, take, length, sym, ap, ◌∙◌, arith}
use Rattle.icn_frames.specs.Heights.{cut, with_copy}
use Rattle.icn_frames.specs.declared.layout.Cell.{Cell}
use Rattle.icn_frames.proofs.Numbered.{copy_next}
use Rattle.icn_frames.proofs.Beside.{there}
use Rattle.icn_frames.proofs.cells.Cells.copy_few.Goals as goal

pub copy_bare-requires-clause-there : goal.copy_bare-requires-clause-there
copy_bare-requires-clause-there g c = omega (arith, c.requires.within, c.if-to-from-eq1.true)

pub copy_bare-requires-clause-room : goal.copy_bare-requires-clause-room
copy_bare-requires-clause-room g c = omega (arith, c.requires.room, c.if-to-from-eq1.true)

pub returns-then-copy_bare-clause-cells : goal.returns-then-copy_bare-clause-cells
returns-then-copy_bare-clause-cells g c =
    let s : List Cell = c.args.self.now.cells in
    let from : ℕ = c.args.from in
    let one : c.args.to ≡ from + 1 = omega (arith, c.requires.order, c.if-to-from-eq1.true) in
    let p : from < length s = omega (arith, c.requires.within, one) in
    let t = there s from p in
    let none : from - from ≡ 0 = omega arith in
    c.copy_bare.ensures.cells c.if-copy_bare.true t.0 t.1
    ∙ ap (λ (n : ℕ). t.0 ∷ (take n (cut from s) ++ s)) (sym none)
    ∙ sym (copy_next s from from t.0 (omega arith) p t.1)
    ∙ ap (λ (n : ℕ). with_copy from n s) (sym one)

pub returns-then-copy_bare-clause-spare : goal.returns-then-copy_bare-clause-spare
returns-then-copy_bare-clause-spare g c =
    let one : c.args.to ≡ c.args.from + 1 = omega (arith, c.requires.order, c.if-to-from-eq1.true) in
    omega (arith, one, c.copy_bare.ensures.spare c.if-copy_bare.true)
