use Rattle.std.proofs.Common.{List, map, sym, ap, ◌∙◌, subst}
use Rattle.std.specs.Prelude.{string_bytes}
use Rattle.std.specs.List.{All}
use Rattle.icn_value.specs.declared.val.Val.{Val}
use Rattle.icn_value.specs.Limited.{limits_of}
use Rattle.icn_heap.specs.Extents.{IsLive, value_in}
use Rattle.icn_heap.specs.Heaps.{extent_of, heap_of}
use Rattle.icn_heap.specs.declared.heap.Heap.{Heap as HeldHeap}
use Rattle.icn_code.specs.CodeTables.{tables_of}
use Rattle.icn_run.specs.Step.{static_count}
use Rattle.icn_vars.specs.declared.stop.Stop.TheVariants as Stops
use Rattle.icn_machine.proofs.StartLoops.{nulls_live_any, words_fit, words_fit_err, words_fit_ok, world_is}
use Rattle.icn_machine.proofs.starting.world_with_words.Goals as goal

pub word_values-requires : goal.word_values-requires
word_values-requires c = ap (λ h. h.strings) c.in_ok-heap.ensures

pub returns-in_err-heap-clause-step : goal.returns-in_err-heap-clause-step
returns-in_err-heap-clause-step c =
    words_fit_err c.from_residual.result (limits_of c.args.limits) (map string_bytes c.args.words.now) Stops.NoMemory c.from_residual.ensures.1 tt

pub returns-in_err-vals-clause-step : goal.returns-in_err-vals-clause-step
returns-in_err-vals-clause-step c =
    words_fit_err c.from_residual-in_err-vals.result (limits_of c.args.limits) (map string_bytes c.args.words.now) c.in_err-vals.field-0.0
    c.from_residual-in_err-vals.ensures.1
    (words_fit Unit Unit (heap_of c.in_ok-heap.heap) (heap_of c.word_values.new.heap) (limits_of c.args.limits) (map string_bytes c.args.words.now)
    c.in_err-vals.field-0.0 c.in_ok-heap.ensures c.in_err-vals.ensures.step)

pub returns-in_err-globals-clause-step : goal.returns-in_err-globals-clause-step
returns-in_err-globals-clause-step c =
    words_fit_err c.from_residual-in_err-globals.result (limits_of c.args.limits) (map string_bytes c.args.words.now) Stops.NoMemory
    c.from_residual-in_err-globals.ensures.1 tt

pub returns-in_err-statics-clause-step : goal.returns-in_err-statics-clause-step
returns-in_err-statics-clause-step c =
    words_fit_err c.from_residual-in_err-statics.result (limits_of c.args.limits) (map string_bytes c.args.words.now) Stops.NoMemory
    c.from_residual-in_err-statics.ensures.1 tt

pub new-requires-2-clause-globals : goal.new-requires-2-clause-globals
new-requires-2-clause-globals c = c.in_ok-globals.ensures.live (extent_of c.word_values.new.heap)

pub new-requires-2-clause-statics : goal.new-requires-2-clause-statics
new-requires-2-clause-statics c =
    let all = extent_of c.word_values.new.heap in
    subst (λ (xs : List Val). All (IsLive all) xs) (sym c.in_ok-statics.ensures) (nulls_live_any all (static_count (tables_of c.args.code.now)))

pub returns-clause-world : goal.returns-clause-world
returns-clause-world c =
    c.new-2.ensures.world
    ∙ world_is (tables_of c.args.code.now) (limits_of c.args.limits) (map string_bytes c.args.words.now) c.in_ok-heap.heap c.word_values.new.heap
    c.in_ok-globals.globals.items c.in_ok-statics.statics.items c.in_ok-heap.ensures
    c.in_ok-vals.ensures.step.1 (c.in_ok-globals.ensures.values (extent_of c.word_values.new.heap)) c.in_ok-statics.ensures

pub returns-clause-live : goal.returns-clause-live
returns-clause-live c = subst (λ (h : HeldHeap). All (IsLive (extent_of h)) c.in_ok-vals.vals.items) (sym c.new-2.ensures.heap) c.in_ok-vals.ensures.live

pub returns-clause-values : goal.returns-clause-values
returns-clause-values c =
    ap (λ (h : HeldHeap). map (value_in (extent_of h)) c.in_ok-vals.vals.items) c.new-2.ensures.heap ∙ c.in_ok-vals.ensures.values

pub returns-clause-step : goal.returns-clause-step
returns-clause-step c =
    words_fit_ok (heap_of c.in_ok-heap.heap) (limits_of c.args.limits) (map string_bytes c.args.words.now) c.in_ok-heap.ensures c.in_ok-vals.ensures.step.0
