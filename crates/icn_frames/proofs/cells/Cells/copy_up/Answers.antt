use Rattle.std.proofs.Common.{◌≡◌, ◌<◌, ◌+◌, ℕ, List, ◌∷◌, length, Some, sym, ap, ◌∙◌, arith}
use Rattle.icn_frames.specs.Heights.{cell_at}
use Rattle.icn_frames.specs.declared.layout.Cell.{Cell}
use Rattle.icn_frames.proofs.Numbered.{copy_next, copied_at, copied_within}
use Rattle.icn_frames.proofs.Beside.{there}
use Rattle.icn_frames.proofs.cells.Cells.copy_up.Goals as goal

pub copy_one-requires-clause-there : goal.copy_one-requires-clause-there
copy_one-requires-clause-there g c =
    let p : c.loop-i.i < length c.args.self.now.cells = omega (arith, c.requires.within) in
    rw c.loop-i.invariant.cells (copied_within c.args.self.now.cells c.args.from c.loop-i.i p)

pub copy_one-requires-clause-room : goal.copy_one-requires-clause-room
copy_one-requires-clause-room g c = omega (arith, c.requires.room, c.loop-i.invariant.spare)

pub loop-i-preserved : goal.loop-i-preserved
loop-i-preserved g c =
    let s : List Cell = c.args.self.now.cells in
    let i : ℕ = c.loop-i.i in
    let p : i < length s = omega (arith, c.requires.within) in
    let t = there s i p in
    let e : cell_at (i + 1) c.loop-i.self.cells ≡ Some t.0
    = ap (λ (w : List Cell). cell_at (i + 1) w) c.loop-i.invariant.cells ∙ copied_at s c.args.from i p ∙ t.1 in
    record {
      cells = c.copy_one.ensures.cells t.0 e ∙ ap (λ (w : List Cell). t.0 ∷ w) c.loop-i.invariant.cells
          ∙ sym (copy_next s c.args.from i t.0 c.loop-i.auto.i p t.1);
      spare = omega (arith, c.copy_one.ensures.spare, c.loop-i.invariant.spare, c.loop-i.auto.i);
    }
