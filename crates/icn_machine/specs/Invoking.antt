-- Calls, on a stack in a world and on a machine.
use Rattle.std.specs.Prelude.{◌≡◌, List, map, Result, MatchResult}
use Rattle.icn_value.specs.declared.item.Item.{Item as HeldItem}
use Rattle.icn_value.specs.declared.val.Val.{Val}
use Rattle.icn_value.specs.Values.{Value}
use Rattle.icn_value.specs.Store.{Names}
use Rattle.icn_heap.specs.Extents.{value_in}
use Rattle.icn_heap.specs.Heaps.{extent_of}
use Rattle.icn_vars.specs.declared.outcome.Halt.{Halt}
use Rattle.icn_vars.specs.declared.world.World.{World}
use Rattle.icn_vars.specs.Worlds.{item_in, world_of}
use Rattle.icn_frames.specs.Stacks.{FlatStack}
use Rattle.icn_code.specs.Codes.{Tables}
use Rattle.icn_run.specs.Stacks.{Frames, flat}
use Rattle.icn_run.specs.Step.{State, Store, elements_called, invoke_value}
use Rattle.icn_streams.specs.Handed.{CallStreams}
use Rattle.icn_control.specs.StackAndWorld.{HaltsWith}
use Rattle.icn_control.specs.declared.machine.RunState.{RunState}
use Rattle.icn_machine.specs.InstructionAnswers.{Performs}
use Rattle.icn_machine.specs.Performing.{StandsOver, over_outside}

-- What comes of a store with these names is performed on a stack in a world.
abbrev pub PerformsEvent : Names → (Store Frames → State Frames Frames) → World → CallStreams → World
    → FlatStack → CallStreams → Result RunState Halt → Type 0
PerformsEvent names event w before v n after result =
    (st : Store Frames) → st.world ≡ world_of w → st.names ≡ names
    → Performs (λ was. event (over_outside was st))
    (λ was now answer. StandsOver (event (over_outside was st)) st v n now answer) before after result

-- The elements of a value are these items, or why it has none: what it is called with is called with them.
abbrev pub FindsElements : {A : Type 0} → World → Val → List HeldItem → Result A Halt → Type 0
FindsElements w from items result =
    (tables : Tables) (callee : Value) (m : Frames) (st : Store Frames) → st.world ≡ world_of w
    → MatchResult result (λ _. elements_called flat tables callee (value_in (extent_of w.heap) from) m st
    ≡ invoke_value flat tables callee (map (item_in (extent_of w.heap)) items) m st)
    (HaltsWith (elements_called flat tables callee (value_in (extent_of w.heap) from) m st) st w m)
