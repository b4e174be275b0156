use Rattle.std.proofs.Common.{◌∙◌, sym, ap, subst, map, rules, FitsSigned}
use Rattle.icn_defs.specs.Arguments.{arg, integer}
use Rattle.icn_heap.specs.Extents.{value_in}
use Rattle.icn_heap.specs.Heaps.{extent_of}
use Rattle.icn_vars.specs.Stops.{StopsFinding}
use Rattle.icn_vars.specs.Worlds.{setting_of}
use Rattle.icn_args.proofs.RowAnswers.{value_row_stops}
use Rattle.std.specs.Int.{w64}
use Rattle.icn_scanfn.proofs.Moves.{held_integer}
use Rattle.icn_scanfn.specs.Moves.{tests_position}
use Rattle.icn_scanfn.proofs.moving.pos_row.Goals as goal

pub returns-in_err-n-clause-row : goal.returns-in_err-n-clause-row
returns-in_err-n-clause-row g c = λ outside.
    let s = setting_of outside c.args.w.now (g.L.Locals.items c.args.l.now) in
    let all = extent_of c.args.w.now.heap in
    value_row_stops all
    (integer (arg (map (value_in all) c.args.args.now) 0)) tests_position s s c.in_err-n.field-0.0 c.from_residual.result c.from_residual.ensures.1
    (subst (λ v. StopsFinding all (integer v) s s c.in_err-n.field-0.0) (c.arg.ensures.value all) (c.in_err-n.ensures.found s))

pub returns-clause-row : goal.returns-clause-row
returns-clause-row g c = λ outside.
    let s = setting_of outside c.args.w.now (g.L.Locals.items c.args.l.now) in
    let all = extent_of c.args.w.now.heap in
    sym (ap (λ v. integer v tests_position s) (c.arg.ensures.value all)) ∙ (c.in_ok-n.ensures.found s tests_position
    ∙ (sym (held_integer (λ n. tests_position n s) c.in_ok-n.n (let fits : FitsSigned w64 c.in_ok-n.n = search rules in fits))
    ∙ c.position_tested.ensures.row outside))
