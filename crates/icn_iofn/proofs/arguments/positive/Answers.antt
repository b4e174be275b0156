use Rattle.std.proofs.Common.{ℕ, nat_lt, subst, Some}
use Rattle.std.specs.Int.{w64}
use Rattle.std.proofs.lemmas.Int.{to_z-of_z}
use Rattle.icn_vars.specs.Stops.{StopsFinding}
use Rattle.icn_defs.specs.Rows.{check, natural}
use Rattle.icn_heap.specs.Extents.{value_in}
use Rattle.icn_args.proofs.RowAnswers.{first_stops}
use Rattle.icn_iofn.proofs.ReadSteps.{err_lives}
use Rattle.icn_iofn.proofs.arguments.positive.Goals as goal

pub returns-in_err-count-clause-found : goal.returns-in_err-count-clause-found
returns-in_err-count-clause-found c = λ all setting.
    first_stops all (natural c.args.n (value_in all c.args.val))
    (λ count next. check (nat_lt 0 count) 205 (Some (value_in all c.args.val)) (next count)) setting setting (λ (n : ℕ). n)
    c.in_err-count.field-0.0 c.from_residual.result c.from_residual.ensures.1
    (subst (λ m. StopsFinding all (natural m (value_in all c.args.val)) setting setting c.in_err-count.field-0.0) (to_z-of_z w64 c.args.n c.ranges.n)
    (c.in_err-count.ensures.found all setting))

pub returns-in_err-count-clause-stops : goal.returns-in_err-count-clause-stops
returns-in_err-count-clause-stops c =
    λ all live. err_lives all c.in_err-count.field-0.0 c.from_residual.result c.from_residual.ensures.1 (c.in_err-count.ensures.stops all live)
