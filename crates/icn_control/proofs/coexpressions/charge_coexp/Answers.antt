use Rattle.std.proofs.Common.{ℕ, List, refl, ap, ◌∙◌, arith}
use Rattle.std.specs.Prelude.{slice_index}
use Rattle.icn_heap.specs.Heaps.{heap_of}
use Rattle.icn_vars.specs.Stops.{stop_of}
use Rattle.icn_control.proofs.ChargeSteps.{at_stop, bounds_stay, counted_more, fields_stay, makes, one_more, refuses}
use Rattle.icn_control.proofs.CountedSteps.{index_more}
use Rattle.icn_control.proofs.coexpressions.charge_coexp.Goals as goal

pub returns-in_err-charge_coexp-clause-row : goal.returns-in_err-charge_coexp-clause-row
returns-in_err-charge_coexp-clause-row c = λ outside locals live.
    let w = c.args.world.now in
    at_stop c.from_residual.result (stop_of c.in_err-charge_coexp.field-0.0) _ _ c.from_residual.ensures.1
    (refuses w.heap c.charge_coexp.new.self w.pair w.words w.globals.items w.statics.items c.charge_coexp.ensures.kept w.sound c.args.locals
    c.in_err-charge_coexp.ensures.unchanged c.in_err-charge_coexp.field-0.0
    c.in_err-charge_coexp.ensures.step outside locals live)

pub returns-clause-row : goal.returns-clause-row
returns-clause-row c = λ outside locals live.
    let w = c.args.world.now in
    makes w.heap c.charge_coexp.new.self w.pair w.words w.globals.items w.statics.items c.charge_coexp.ensures.kept w.sound c.args.locals
    c.in_ok-charge_coexp.ensures.step outside locals live

pub returns-clause-few : goal.returns-clause-few
returns-clause-few c =
    let more = counted_more (heap_of c.args.world.now.heap) (heap_of c.charge_coexp.new.self) c.args.locals c.in_ok-charge_coexp.ensures.step in
    omega (arith, c.few_coexps.ensures, more)

pub returns-clause-kept : goal.returns-clause-kept
returns-clause-kept c = record {
  extent = c.charge_coexp.ensures.kept;
  fields = fields_stay (heap_of c.args.world.now.heap) (heap_of c.charge_coexp.new.self) c.args.locals c.in_ok-charge_coexp.ensures.step;
  globals = refl;
  statics = refl;
  locals = refl;
}

pub returns-clause-bounds : goal.returns-clause-bounds
returns-clause-bounds c = bounds_stay (heap_of c.args.world.now.heap) (heap_of c.charge_coexp.new.self) c.args.locals c.in_ok-charge_coexp.ensures.step

pub returns-clause-more : goal.returns-clause-more
returns-clause-more c = counted_more (heap_of c.args.world.now.heap) (heap_of c.charge_coexp.new.self) c.args.locals c.in_ok-charge_coexp.ensures.step

pub returns-clause-counts : goal.returns-clause-counts
returns-clause-counts c = λ n.
    ap (λ (cs : List ℕ). slice_index cs n)
    (one_more (heap_of c.args.world.now.heap) (heap_of c.charge_coexp.new.self) c.args.locals c.in_ok-charge_coexp.ensures.step)
    ∙ index_more (heap_of c.args.world.now.heap).coexps n
