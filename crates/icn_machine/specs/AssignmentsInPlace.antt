-- Assignments to variables of the world, which are done on the stack and in the world at once.
use Rattle.std.specs.Prelude.{◌≡◌, List, true, is_some, ⊤}
use Rattle.std.specs.List.{All}
use Rattle.icn_structs.specs.Numbered.{item_numbered}
use Rattle.icn_value.specs.declared.item.Root.{Root}
use Rattle.icn_value.specs.declared.item.Root.TheVariants as Roots
use Rattle.icn_value.specs.declared.val.Val.{Val}
use Rattle.icn_value.specs.Store.{Outside, list_at}
use Rattle.icn_defs.specs.ReadAndAssign.{assigns_root}
use Rattle.icn_defs.specs.Rows.{Row}
use Rattle.icn_heap.specs.Extents.{IsLive, value_in}
use Rattle.icn_heap.specs.Heaps.{extent_of, heap_of}
use Rattle.icn_vars.specs.declared.world.World.{World}
use Rattle.icn_vars.specs.Worlds.{root_in, setting_of}

-- a variable that stands in the world, and is there: a global, a static, an element of a list, a field, or
-- a key of a table
abbrev pub IsInWorld : World → Root → Type 0
IsInWorld w (Roots.Global index) = ⊤
IsInWorld w (Roots.Static index) = ⊤
IsInWorld w (Roots.Local index) = ⊥
IsInWorld w (Roots.Element list number) =
    is_some (item_numbered (list_at (heap_of w.heap) list) number) ≡ true
IsInWorld w (Roots.Field rec place) = ⊤
IsInWorld w (Roots.Key table key) = ⊤
IsInWorld w (Roots.Keyword word) = ⊥

-- the variable gets a value in the world, whatever the locals are
abbrev pub PutsInto : World → Root → Val → World → Type 0
PutsInto w root val v = (outside : Outside) (locals : List Val) → All (IsLive (extent_of w.heap)) locals
    → (refused next : Row) → assigns_root refused (root_in (extent_of w.heap) root)
    (value_in (extent_of w.heap) val) next (setting_of outside w locals) ≡ next (setting_of outside v locals)
