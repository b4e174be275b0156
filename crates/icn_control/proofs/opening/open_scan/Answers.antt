use Rattle.std.proofs.Common.{[], Ok, Err, refl, sym, ap, ◌∙◌, subst, rules}
use Rattle.icn_value.specs.declared.val.Span.{Span}
use Rattle.icn_value.specs.declared.val.Val.TheVariants.{Text as TextVal}
use Rattle.icn_defs.specs.StepRows.{text_row}
use Rattle.icn_heap.specs.declared.heap.Heap.{Heap as HeldHeap}
use Rattle.icn_heap.specs.Extents.{value_in}
use Rattle.icn_heap.specs.Heaps.{extent_of, heap_of}
use Rattle.icn_vars.proofs.KeptItems.{keeps_items_refl}
use Rattle.icn_vars.specs.Worlds.{KeepsItems, Reach, reach_of}
use Rattle.icn_frames.specs.Stacks.{FlatStack}
use Rattle.icn_control.specs.LiveStacks.{IsLiveStack}
use Rattle.icn_control.specs.TakenOperands.{KeepsCounts}
use Rattle.icn_control.proofs.Halts.{unless_ended, unless_stopped}
use Rattle.icn_control.proofs.KeptItems.{stack_stays}
use Rattle.icn_control.proofs.LiveCalls.{live_pop}
use Rattle.icn_control.proofs.OpenedScans.{bscan_err, bscan_runs, bscan_unmade}
use Rattle.icn_control.proofs.TakenOperandSteps.{made_at}
use Rattle.icn_control.proofs.opening.open_scan.Goals as goal

pub returns-in_err-v-clause-step : goal.returns-in_err-v-clause-step
returns-in_err-v-clause-step g c =
    bscan_err c.from_residual.result c.args.world.now c.args.frames.now.flat c.pop-x.new.self.flat c.value_of.new.frames.flat c.pop-x.result
    c.in_err-v.field-0.0 c.from_residual.ensures.1 c.pop-x.ensures.flat c.value_of.ensures.same c.in_err-v.ensures.value

pub returns-in_err-v-clause-live : goal.returns-in_err-v-clause-live
returns-in_err-v-clause-live g c t k =
    unless_ended c.from_residual.result (IsLiveStack t (reach_of c.args.world.now []) c.value_of.new.frames.flat)
    (subst (λ (x : FlatStack). IsLiveStack t (reach_of c.args.world.now []) x) (sym c.value_of.ensures.same)
    (live_pop t (reach_of c.args.world.now []) c.args.frames.now.flat c.pop-x.new.self.flat c.pop-x.result c.pop-x.ensures.flat k).rest)

pub returns-in_err-v-clause-leaves : goal.returns-in_err-v-clause-leaves
returns-in_err-v-clause-leaves g c = record {
  kept = keeps_items_refl (reach_of c.args.world.now []);
  counts = unless_ended c.from_residual.result (KeepsCounts c.args.world.now c.args.world.now) (record { bounds = refl; coexps = refl });
  halt = search rules;
}

pub subject_of-requires-clause-stack : goal.subject_of-requires-clause-stack
subject_of-requires-clause-stack g c =
    let t = c.requires.live.0 in (
      t,
      subst (λ (x : FlatStack). IsLiveStack t (reach_of c.args.world.now []) x) (sym c.value_of.ensures.same)
          (live_pop t (reach_of c.args.world.now []) c.args.frames.now.flat c.pop-x.new.self.flat c.pop-x.result c.pop-x.ensures.flat c.requires.live.1).rest,
    )

pub returns-in_err-text-clause-step : goal.returns-in_err-text-clause-step
returns-in_err-text-clause-step g c =
    let w = c.args.world.now in
    bscan_unmade c.from_residual-in_err-text.result w c.subject_of.new.world c.args.frames.now.flat c.pop-x.new.self.flat c.subject_of.new.frames.flat
    c.pop-x.result c.in_ok-v.v c.in_err-text.field-0.0 c.from_residual-in_err-text.ensures.1 c.pop-x.ensures.flat
    c.in_ok-v.ensures.value (made_at (text_row (value_in (extent_of w.heap) c.in_ok-v.v)) w c.subject_of.new.world c.pop-x.new.self.flat
    c.value_of.new.frames.flat (Err c.in_err-text.field-0.0) c.value_of.ensures.same c.in_err-text.ensures.made)
    (c.subject_of.ensures.same ∙ c.value_of.ensures.same)

pub returns-in_err-text-clause-live : goal.returns-in_err-text-clause-live
returns-in_err-text-clause-live g c t k =
    let old : Reach = reach_of c.args.world.now [] in
    let new : Reach = reach_of c.subject_of.new.world [] in
    let rest = (live_pop t old c.args.frames.now.flat c.pop-x.new.self.flat c.pop-x.result c.pop-x.ensures.flat k).rest in
    unless_ended c.from_residual-in_err-text.result (IsLiveStack t new c.subject_of.new.frames.flat)
    (subst (λ (x : FlatStack). IsLiveStack t new x) (sym (c.subject_of.ensures.same ∙ c.value_of.ensures.same))
    (stack_stays t old new c.pop-x.new.self.flat c.subject_of.ensures.kept rest))

pub returns-in_err-text-clause-leaves : goal.returns-in_err-text-clause-leaves
returns-in_err-text-clause-leaves g c = record {
  kept = c.subject_of.ensures.kept;
  counts = unless_stopped Span c.from_residual-in_err-text.result c.in_err-text.field-0.0 (KeepsCounts c.args.world.now c.subject_of.new.world)
      c.from_residual-in_err-text.ensures.1 c.in_err-text.ensures.counts;
  halt = search rules;
}

pub returns-in-Ok-clause-step : goal.returns-in-Ok-clause-step
returns-in-Ok-clause-step g c =
    let w = c.args.world.now in
    bscan_runs w c.subject_of.new.world c.open_over.new.world c.args.frames.now.flat c.pop-x.new.self.flat c.subject_of.new.frames.flat
    c.open_over.new.frames.flat c.pop-x.result c.in_ok-v.v c.in_ok-text.text c.pop-x.ensures.flat c.in_ok-v.ensures.value
    (made_at (text_row (value_in (extent_of w.heap) c.in_ok-v.v)) w c.subject_of.new.world c.pop-x.new.self.flat c.value_of.new.frames.flat
    (Ok (TextVal c.in_ok-text.text)) c.value_of.ensures.same c.in_ok-text.ensures.made)
    (c.subject_of.ensures.same ∙ c.value_of.ensures.same) c.in-Ok.ensures.step

pub returns-in-Ok-clause-live : goal.returns-in-Ok-clause-live
returns-in-Ok-clause-live g c t k =
    let old : Reach = reach_of c.args.world.now [] in
    let new : Reach = reach_of c.subject_of.new.world [] in
    let rest = (live_pop t old c.args.frames.now.flat c.pop-x.new.self.flat c.pop-x.result c.pop-x.ensures.flat k).rest in
    let grown : IsLiveStack t new c.pop-x.new.self.flat = stack_stays t old new c.pop-x.new.self.flat c.subject_of.ensures.kept rest in
    c.in-Ok.ensures.live t (subst (λ (x : FlatStack). IsLiveStack t new x) (sym (c.subject_of.ensures.same ∙ c.value_of.ensures.same)) grown)

pub returns-in-Ok-clause-leaves : goal.returns-in-Ok-clause-leaves
returns-in-Ok-clause-leaves g c = record {
  kept = subst (λ (r : Reach). KeepsItems (reach_of c.args.world.now []) r) (sym c.open_over.ensures.same.reach) c.subject_of.ensures.kept;
  counts = (
      record {
        bounds = ap (λ (h : HeldHeap). (heap_of h).bounds) c.open_over.ensures.same.heap ∙ c.in_ok-text.ensures.counts.bounds;
        coexps = ap (λ (h : HeldHeap). (heap_of h).coexps) c.open_over.ensures.same.heap ∙ c.in_ok-text.ensures.counts.coexps;
      });
  halt = search rules;
}

pub returns-in-Err-clause-leaves : goal.returns-in-Err-clause-leaves
returns-in-Err-clause-leaves g c = record {
  kept = subst (λ (r : Reach). KeepsItems (reach_of c.args.world.now []) r) (sym c.open_over.ensures.same.reach) c.subject_of.ensures.kept;
  counts = search rules;
  halt = search rules;
}
