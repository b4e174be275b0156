-- What is of a world and names only what has a name.
use Rattle.std.specs.Prelude.{[], List, map}
use Rattle.std.specs.List.{All}
use Rattle.icn_value.specs.Store.{Names}
use Rattle.icn_value.specs.declared.item.Item.{Item}
use Rattle.icn_heap.specs.Heaps.{extent_of}
use Rattle.law_names.specs.NamedSettings.{ItemNamed, WorldNamed}
use Rattle.icn_vars.specs.declared.world.World.{World}
use Rattle.icn_vars.specs.Worlds.{IsLiveItem, item_in, reach_of, world_of}
use Rattle.icn_frames.specs.Stacks.{FlatStack, local_count}
use Rattle.icn_code.specs.Codes.{Tables}
use Rattle.icn_run.specs.Stacks.{Frames}
use Rattle.icn_run.specs.Step.{Coexp}
use Rattle.law_steps.specs.StateNames.{StackNamed}
use Rattle.icn_control.specs.LiveStacks.{IsLiveStack, with_locals}
use Rattle.icn_control.specs.Machines.{coexp_in, extent, stack_seen}
use Rattle.icn_control.specs.StackViews.{stack_in}
use Rattle.icn_control.specs.declared.machine.Machine.{Machine}

-- what stands on the stack is of the world, and both name only what has a name
pub record HoldsNamed (names : Names) (world : World) (m : FlatStack) : Type 0 where
  pub stack : (tables : Tables) × IsLiveStack tables (reach_of world []) m
  pub stack_named : StackNamed names (stack_in (extent_of world.heap) m)
  pub world_named : WorldNamed names (world_of world)

-- operands of a call from that stack are of the world or locals there, and name only what has a name
pub record AreNamed (names : Names) (world : World) (m : FlatStack) (operands : List Item) : Type 0 where
  pub items : All (IsLiveItem (with_locals (local_count m) (reach_of world []))) operands
  pub items_named : All (ItemNamed names) (map (item_in (extent_of world.heap)) operands)

-- the stack that a machine runs, and its world, name only what has a name
pub record MachineNamed {K : Type 0} (names : Names) (m : Machine K) : Type 0 where
  pub stack_named : StackNamed names (stack_seen m)
  pub world_named : WorldNamed names (world_of m.world)

-- the co-expressions of a machine, as its run has them
abbrev pub coexps_seen : {K : Type 0} → Machine K → List (Coexp Frames)
coexps_seen m = map (coexp_in (extent m)) m.stacks.table.coexps
