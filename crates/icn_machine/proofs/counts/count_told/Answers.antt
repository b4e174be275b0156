use Rattle.std.proofs.Common.{◌≡◌, ◌∙◌, FitsSigned, ap, false, pos, rules, sym, ℤ}
use Rattle.std.proofs.lemmas.Int.{to_z-of_z}
use Rattle.std.specs.Int.{w64}
use Rattle.std.specs.Ordering.{int_eq}
use Rattle.icn_frames.specs.Stacks as held
use Rattle.icn_machine.proofs.BegunCounts.{count_is}
use Rattle.icn_machine.proofs.counts.count_told.Goals as goal

pub returns : goal.returns
returns g c =
    let a = c.in_ok-from.from in
    let b = c.in_ok-to.to in
    let d = c.in_ok-by.by in
    let a_fits : FitsSigned w64 a = search rules in
    let b_fits : FitsSigned w64 b = search rules in
    let d_fits : FitsSigned w64 d = search rules in
    let counts : int_eq d (pos 0) ≡ false
    = ap (λ (i : ℤ). int_eq i (pos 0)) (sym (to_z-of_z w64 d d_fits)) ∙ sym c.is_zero.ensures ∙ c.if-is_zero.false in
    count_is (held.locals c.args.frames.now.flat) c.args.first c.args.last c.args.step a b d _ _ _ (to_z-of_z w64 a a_fits) (to_z-of_z w64 b b_fits)
    (to_z-of_z w64 d d_fits) c.in_ok-from.ensures c.in_ok-to.ensures c.in_ok-by.ensures counts
