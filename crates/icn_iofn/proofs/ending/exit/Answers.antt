use Rattle.std.proofs.Common.{◌∙◌, ap, sym, map, pos, rules}
use Rattle.std.specs.Int.{w64, int_rem_euclid}
use Rattle.std.specs.Prelude.{unsigned_abs, FitsSigned}
use Rattle.std.proofs.lemmas.Int.{to_z-of_z}
use Rattle.icn_value.specs.Values.{Integer}
use Rattle.icn_defs.specs.Arguments.{arg_or, integer}
use Rattle.icn_defs.specs.Rows.{Ends, ends}
use Rattle.icn_heap.specs.Extents.{value_in}
use Rattle.icn_heap.specs.Heaps.{extent_of}
use Rattle.icn_args.proofs.RowAnswers.{value_row_stops}
use Rattle.icn_iofn.proofs.ending.exit.Goals as goal

pub returns-in_err-n-clause-row : goal.returns-in_err-n-clause-row
returns-in_err-n-clause-row c = λ setting.
    value_row_stops (extent_of c.args.heap.now) (integer (arg_or (Integer (pos 0)) (map (value_in (extent_of c.args.heap.now)) c.args.vals.now) 0))
    (λ n. ends (unsigned_abs (int_rem_euclid n (pos 256))))
    setting setting c.in_err-n.field-0.0 c.from_residual.result c.from_residual.ensures.1 (c.in_err-n.ensures.found setting)

pub returns-clause-row : goal.returns-clause-row
returns-clause-row c = λ setting.
    let n_fits : FitsSigned w64 c.in_ok-n.n = search rules in
    let r_fits : FitsSigned w64 c.rem_euclid.result = search rules in
    c.in_ok-n.ensures.found setting (λ m. ends (unsigned_abs (int_rem_euclid m (pos 256))))
    ∙ ap (λ m. Ends (unsigned_abs m) setting)
    (sym (to_z-of_z w64 c.rem_euclid.result r_fits ∙ (c.rem_euclid.ensures.value ∙ ap (λ m. int_rem_euclid m (pos 256)) (to_z-of_z w64 c.in_ok-n.n n_fits))))
