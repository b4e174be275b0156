-- Calls, on a stack in a world, by what is called.
use Rattle.std.proofs.Common.{◌≡◌, List, ◌∷◌, map, Result, Ok, Err, sym, ap, ◌∙◌, subst}
use Rattle.std.specs.Prelude.{IsErrAnd}
use Rattle.icn_text.specs.declared.func.Func.{Func}
use Rattle.icn_value.specs.declared.val.Val.{Val}
use Rattle.icn_value.specs.declared.item.Item.{Item}
use Rattle.icn_value.specs.Store.{Names}
use Rattle.icn_defs.specs.StepRows as step_rows
use Rattle.icn_heap.specs.Extents.{Extent, value_in}
use Rattle.icn_heap.specs.Heaps.{extent_of}
use Rattle.icn_vars.specs.declared.outcome.Halt.{Halt}
use Rattle.icn_vars.specs.declared.stop.Stop.{Stop}
use Rattle.icn_vars.specs.Stops.{halt_of}
use Rattle.icn_vars.specs.declared.world.World.{World}
use Rattle.icn_vars.specs.Worlds.{item_in, world_of}
use Rattle.icn_frames.specs.Stacks.{FlatStack}
use Rattle.icn_code.specs.Codes.{Tables}
use Rattle.icn_run.specs.Rows as rows
use Rattle.icn_run.specs.Stacks.{Frames, flat}
use Rattle.icn_run.specs.Step.{State, Store, all_names, here, invoke_value, invoked_with, outcome}
use Rattle.icn_streams.specs.Handed.{CallStreams}
use Rattle.icn_control.specs.StackAndWorld.{FindsValue, HaltsWith, StandsWith}
use Rattle.icn_control.specs.StackViews.{stack_in}
use Rattle.icn_control.specs.declared.machine.RunState.{RunState}
use Rattle.icn_control.proofs.StackAndWorldSteps.{match_halt, value_goes, value_halts}
use Rattle.icn_machine.specs.Invoking.{PerformsEvent}
use Rattle.icn_machine.specs.Performing.{PerformsRow, row_on}
use Rattle.icn_machine.proofs.PerformEvents.{event_as, row_event, still_event}

-- a function is performed
pub function_event : (tables : Tables) (names : Names) (func : Func) (callee : Val) (w v : World) (m n : FlatStack) (items : List rows.Item)
    (before after : CallStreams) (result : Result RunState Halt)
    → names ≡ all_names tables
    → ((all : Extent) (xs : List rows.Item) (a : Frames) (st : Store Frames)
    → invoke_value flat tables (value_in all callee) xs a st ≡ outcome flat (step_rows.apply st.names (step_rows.Function func) xs (here flat a st)) a st)
    → PerformsRow (step_rows.apply names (step_rows.Function func) items) w m before v n after result
    → PerformsEvent (all_names tables) (λ st. invoke_value flat tables (value_in (extent_of w.heap) callee) items (stack_in (extent_of w.heap) m)
    st) w before v n after result
function_event tables names func callee w v m n items before after result known is p =
    let M : Frames = stack_in (extent_of w.heap) m in
    let row = step_rows.apply names (step_rows.Function func) items in
    event_as (all_names tables) (λ st. invoke_value flat tables (value_in (extent_of w.heap) callee) items M st) (λ st. row_on row w m st st.outside) w v n
    before after result
    (λ st same names_same.
    is (extent_of w.heap) items M st
    ∙ ap (λ (x : Names). outcome flat (step_rows.apply x (step_rows.Function func) items (here flat M st)) M st) (names_same ∙ sym known))
    (row_event (all_names tables) row w v m n before after result p)

-- the value of the first item is called with the others
pub first_event : (tables : Tables) (names : Names) (w v : World) (m k n : FlatStack) (items others : List Item) (first : Item) (callee : Val)
    (before after : CallStreams) (result : Result RunState Halt)
    → items ≡ first ∷ others → k ≡ m
    → ((st : Store Frames) → st.world ≡ world_of w
    → FindsValue (extent_of w.heap) (item_in (extent_of w.heap) first) (here flat (stack_in (extent_of w.heap) m) st) (Ok callee))
    → PerformsEvent names (λ st. invoke_value flat tables (value_in (extent_of w.heap) callee) (map (item_in (extent_of w.heap)) others)
    (stack_in (extent_of w.heap) k) st) w before v n after result
    → PerformsEvent names (λ st. invoked_with flat tables (map (item_in (extent_of w.heap)) items) (stack_in (extent_of w.heap) m) st) w before v n after result
first_event tables names w v m k n items others first callee before after result is e found p =
    let all : Extent = extent_of w.heap in
    event_as names (λ st. invoked_with flat tables (map (item_in all) items) (stack_in all m) st)
    (λ st. invoke_value flat tables (value_in all callee) (map (item_in all) others) (stack_in all k) st)
    w v n before after result
    (λ st same names_same.
    ap (λ (xs : List Item). invoked_with flat tables (map (item_in all) xs) (stack_in all m) st) is
    ∙ value_goes all (item_in all first) (stack_in all m) st callee (λ value. invoke_value flat tables value (map (item_in all) others) (stack_in all m) st)
    (found st same)
    ∙ ap (λ (x : FlatStack). invoke_value flat tables (value_in all callee) (map (item_in all) others) (stack_in all x) st) (sym e))
    p

-- the first item has no value
pub first_stops : (tables : Tables) (names : Names) (w : World) (m n : FlatStack) (items : List Item) (first : Item) (others : List Item) (stop : Stop)
    (before : CallStreams) (result : Result RunState Halt)
    → items ≡ first ∷ others → n ≡ m
    → IsErrAnd result (λ h. h ≡ halt_of stop)
    → ((st : Store Frames) → st.world ≡ world_of w
    → FindsValue (extent_of w.heap) (item_in (extent_of w.heap) first) (here flat (stack_in (extent_of w.heap) m) st) (Err stop))
    → PerformsEvent names (λ st. invoked_with flat tables (map (item_in (extent_of w.heap)) items) (stack_in (extent_of w.heap) m)
    st) w before w n before result
first_stops tables names w m n items first others stop before result is e err found =
    let all : Extent = extent_of w.heap in
    let event : Store Frames → State Frames Frames = λ st. invoked_with flat tables (map (item_in all) items) (stack_in all m) st in
    still_event names event w w n before result
    (λ st same.
    match_halt result (halt_of stop) (StandsWith (event st) st w n) (HaltsWith (event st) st w (stack_in all n)) err
    (subst (λ (x : FlatStack). HaltsWith (event st) st w (stack_in all x) (halt_of stop)) (sym e)
    (subst (λ (s : State Frames Frames). HaltsWith s st w (stack_in all m) (halt_of stop))
    (sym (ap (λ (xs : List Item). invoked_with flat tables (map (item_in all) xs) (stack_in all m) st) is))
    (value_halts w (item_in all first) (stack_in all m) st stop (λ value. invoke_value flat tables value (map (item_in all) others) (stack_in all m) st)
    same (found st same)))))
