use Rattle.std.proofs.Common.{[], sym, subst}
use Rattle.icn_heap.specs.Extents.{IsLive}
use Rattle.icn_heap.specs.Heaps.{extent_of}
use Rattle.icn_vars.specs.Stops.{halt_of}
use Rattle.icn_vars.specs.Worlds.{reach_of}
use Rattle.icn_value.specs.declared.item.Item.TheVariants.{Var}
use Rattle.icn_value.specs.declared.item.VarRef.TheVariants.{Whole}
use Rattle.icn_value.specs.declared.item.Root.TheVariants.{Field}
use Rattle.icn_frames.specs.Stacks.{FlatStack}
use Rattle.icn_code.specs.CodeTables.{tables_of}
use Rattle.icn_control.specs.LiveStacks.{IsLiveStack}
use Rattle.icn_control.proofs.Halts.{unless_ended}
use Rattle.icn_control.proofs.LiveCalls.{live_push, own_locals}
use Rattle.icn_control.proofs.StackAndWorldSteps.{match_halt}
use Rattle.icn_calls.specs.Calling.{field_count}
use Rattle.icn_calls.proofs.RecordSteps.{field_live, field_runs, field_unfound, no_such_field, not_a_record}
use Rattle.icn_calls.proofs.record_fields.push_field.Goals as goal

pub returns-in_err-val-clause-step : goal.returns-in_err-val-clause-step
returns-in_err-val-clause-step g c st same =
    match_halt c.from_residual.result (halt_of c.in_err-val.field-0.0) _ _ c.from_residual.ensures.1
    (field_unfound c.args.world.now (tables_of c.args.code.now) c.args.field c.args.item c.args.frames.now.flat c.value_of.new.frames.flat
    c.in_err-val.field-0.0 st same (c.in_err-val.ensures.value st same) c.value_of.ensures.same)

pub returns-in_err-val-clause-live : goal.returns-in_err-val-clause-live
returns-in_err-val-clause-live g c t k =
    unless_ended c.from_residual.result (IsLiveStack t (reach_of c.args.world.now []) c.value_of.new.frames.flat)
    (subst (λ (x : FlatStack). IsLiveStack t (reach_of c.args.world.now []) x) (sym c.value_of.ensures.same) k)

pub returns-in_default : goal.returns-in_default
returns-in_default g c =
    record {
      step =
          λ st same. not_a_record c.args.world.now (tables_of c.args.code.now) c.args.field c.args.item c.args.frames.now.flat c.value_of.new.frames.flat
          c.in_ok-val.val st same (c.in_ok-val.ensures.value st same) c.in_default.not-Rec c.value_of.ensures.same;
      live = λ t k. subst (λ (x : FlatStack). IsLiveStack t (reach_of c.args.world.now []) x) (sym c.value_of.ensures.same) k;
      halt = c.in_ok-val.ensures.live;
    }

pub returns-in_default-field_index-clause-step : goal.returns-in_default-field_index-clause-step
returns-in_default-field_index-clause-step g c st same =
    no_such_field c.args.world.now (tables_of c.args.code.now) c.args.field c.args.item c.args.frames.now.flat c.value_of.new.frames.flat c.in_ok-val.val
    c.in-Rec.rec c.kind.result c.field_index.result st same (c.in_ok-val.ensures.value st same) c.in-Rec.is
    c.kind.ensures c.field_index.ensures.place c.in_default-field_index.is c.value_of.ensures.same

pub returns-in_default-field_index-clause-live : goal.returns-in_default-field_index-clause-live
returns-in_default-field_index-clause-live g c t k =
    subst (λ (x : FlatStack). IsLiveStack t (reach_of c.args.world.now []) x) (sym c.value_of.ensures.same) k

pub returns-in-Ok-clause-step : goal.returns-in-Ok-clause-step
returns-in-Ok-clause-step g c st same =
    field_runs c.args.world.now (tables_of c.args.code.now) c.args.field c.args.item c.args.frames.now.flat c.value_of.new.frames.flat c.push.new.self.flat
    c.in_ok-val.val c.in-Rec.rec c.kind.result c.in-Some.place c.field_index.result st same
    (c.in_ok-val.ensures.value st same) c.in-Rec.is c.kind.ensures c.field_index.ensures.place c.in-Some.is c.value_of.ensures.same c.in-Ok.ensures.ok

pub returns-in-Ok-clause-live : goal.returns-in-Ok-clause-live
returns-in-Ok-clause-live g c t k =
    let here : IsLiveStack t (reach_of c.args.world.now []) c.value_of.new.frames.flat
    = subst (λ (x : FlatStack). IsLiveStack t (reach_of c.args.world.now []) x) (sym c.value_of.ensures.same) k in
    subst (λ (x : FlatStack). IsLiveStack t (reach_of c.args.world.now []) x) (sym c.in-Ok.ensures.ok)
    (live_push t (reach_of c.args.world.now []) c.value_of.new.frames.flat (Var (Whole (Field c.in-Rec.rec c.in-Some.place))) here
    (field_live (field_count (tables_of c.args.code.now)) c.args.world.now (own_locals c.value_of.new.frames.flat) c.in-Rec.rec c.in-Some.place c.kind.result
    c.requires.sizes
    (subst (IsLive (extent_of c.args.world.now.heap)) c.in-Rec.is c.in_ok-val.ensures.live) c.kind.ensures c.in-Some.ensures.within))
