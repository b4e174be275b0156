use Rattle.std.proofs.Common.{◌<◌, ◌^◌, ◌∙◌, Option, IfSome, ap, subst, sym, ℕ, ℤ}
use Rattle.std.proofs.lemmas.Int.{to_z_pos}
use Rattle.std.specs.Int.{w64}
use Rattle.icn_value.specs.declared.val.Val.TheVariants as Vals
use Rattle.icn_vars.specs.declared.outcome.ValueOutcome.{ValueOutcome}
use Rattle.icn_vars.specs.declared.outcome.ValueOutcome.TheVariants as ValueOutcomes
use Rattle.icn_machine.specs.PlainScans.{place_outcome}
use Rattle.icn_machine.proofs.scanning.place_outcome.Goals as goal

pub returns-in-Some : goal.returns-in-Some
returns-in-Some c =
    let F : ℤ → ValueOutcome = λ i. ValueOutcomes.Gives (Vals.Integer i) in
    ap F (to_z_pos w64 c.in-Some.place (subst (λ (found : Option ℕ). IfSome found (λ place. place < 2 ^ 63)) c.in-Some.is c.requires))
    ∙ sym (ap place_outcome c.in-Some.is)

pub returns-in-None : goal.returns-in-None
returns-in-None c = sym (ap place_outcome c.in-None.is)
