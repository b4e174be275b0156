use Rattle.std.proofs.Common.{◌≡◌, ◌∙◌, refl, sym, ap, ◌∷◌, ◌+◌, List, map, length, arith}
use Rattle.std.proofs.lemmas.List.Elements.{All-rest, All-head, All-same}
use Rattle.icn_structs.specs.Numbered.{with_right}
use Rattle.icn_value.specs.declared.val.Val.{Val}
use Rattle.icn_value.specs.Values.{Value}
use Rattle.icn_heap.specs.Extents.{IsLive, value_in}
use Rattle.icn_heap.specs.Heaps.{extent_of, heap_of}
use Rattle.icn_heap.proofs.GrowingHeaps.{keeps_refl, keeps_trans}
use Rattle.icn_structfn.specs.AddedElements.{added_to}
use Rattle.icn_structfn.proofs.AddedElements.{adds_next, adds_nothing, bounds_stay, cells_more, no_refusal, records_stay}
use Rattle.icn_value.specs.declared.full.Full.TheVariants.{NoMemory}
use Rattle.icn_structfn.proofs.KeptFields.{list_there}
use Rattle.icn_structfn.proofs.RowAnswers.{if_err_known, nothing_left}
use Rattle.icn_structfn.proofs.adding.put_each.Goals as goal

pub loop-first-init : goal.loop-first-init
loop-first-init c = record { kept = keeps_refl (extent_of c.args.heap.now); left = c.requires.vals; room = c.requires.room; records = refl; is = refl }

pub loop-first-preserved : goal.loop-first-preserved
loop-first-preserved c =
    let first : Val = c.in-Some.first.now in
    let others : List Val = c.in-Some.others.now in
    let here : IsLive (extent_of c.args.heap.now) first = All-head (IsLive (extent_of c.args.heap.now)) first others
    (All-same (IsLive (extent_of c.args.heap.now)) _ _ (sym c.in-Some.ensures.cases.0) c.loop-first.invariant.left) in
    let more = cells_more with_right c.args.list (heap_of c.loop-first.heap) (heap_of c.put.new.self)
    (value_in (extent_of c.loop-first.heap) first) c.in_ok-put.ensures.step in
    let bound = bounds_stay with_right c.args.list (heap_of c.loop-first.heap) (heap_of c.put.new.self)
    (value_in (extent_of c.loop-first.heap) first) c.in_ok-put.ensures.step in
    let long : length c.loop-first.rest.now ≡ 1 + length others = ap length c.in-Some.ensures.cases.0 ∙ omega arith in
    record {
      kept = keeps_trans c.loop-first.invariant.kept c.put.ensures.kept;
      left = All-rest (IsLive (extent_of c.args.heap.now)) _ _ _ c.in-Some.ensures.cases.0 c.loop-first.invariant.left;
      room = (let room = c.loop-first.invariant.room in omega arith);
      records = records_stay with_right c.args.list (heap_of c.loop-first.heap) (heap_of c.put.new.self)
          (value_in (extent_of c.loop-first.heap) first) c.in_ok-put.ensures.step ∙ c.loop-first.invariant.records;
      is =
          adds_next with_right c.args.list (heap_of c.loop-first.heap) (heap_of c.put.new.self) (value_in (extent_of c.loop-first.heap) first)
          (map (value_in (extent_of c.args.heap.now)) others)
          (list_there c.loop-first.heap c.args.list (c.loop-first.invariant.kept.live _ c.requires.list)) c.in_ok-put.ensures.step
          ∙ (ap (λ (v : Value). added_to with_right c.args.list (v ∷ map (value_in (extent_of c.args.heap.now)) others) (heap_of c.loop-first.heap))
          (c.loop-first.invariant.kept.value first here)
          ∙ (ap (λ vals. added_to with_right c.args.list (map (value_in (extent_of c.args.heap.now)) vals) (heap_of c.loop-first.heap))
          (sym c.in-Some.ensures.cases.0) ∙ c.loop-first.invariant.is));
    }

pub put-requires-clause-list : goal.put-requires-clause-list
put-requires-clause-list c = c.loop-first.invariant.kept.live _ c.requires.list

pub returns-in_err-put-clause-error : goal.returns-in_err-put-clause-error
returns-in_err-put-clause-error c =
    let long : length c.loop-first.rest.now ≡ 1 + length c.in-Some.others.now = ap length c.in-Some.ensures.cases.0 ∙ omega arith in
    let room = c.loop-first.invariant.room in
    if_err_known c.in_err-put.field-0.0 NoMemory c.from_residual.result c.from_residual.ensures.1
    (no_refusal with_right c.args.list (heap_of c.loop-first.heap) (value_in (extent_of c.loop-first.heap) c.in-Some.first.now) c.in_err-put.field-0.0
    (omega arith) c.in_err-put.ensures.step)

pub returns-clause-step : goal.returns-clause-step
returns-clause-step c =
    sym (adds_nothing with_right c.args.list (heap_of c.loop-first.heap))
    ∙ (ap (λ vals. added_to with_right c.args.list (map (value_in (extent_of c.args.heap.now)) vals) (heap_of c.loop-first.heap))
    (sym (nothing_left c.loop-first.rest.now c.in_default.ensures.cases)) ∙ c.loop-first.invariant.is)
