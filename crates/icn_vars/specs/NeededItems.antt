-- The values that items and a world have, which are to stay as memory is given back.
use Rattle.std.specs.Prelude.{ℕ, ◌+◌, List, [], ◌∷◌, ◌++◌, Option, Some, None}
use Rattle.std.specs.Option.{option_to_list}
use Rattle.icn_value.specs.declared.val.Val.{Val}
use Rattle.icn_value.specs.declared.val.Val.TheVariants.{Text as TextVal, Rec as RecVal, List as ListVal, Table as TableVal}
use Rattle.icn_value.specs.declared.item.Root.{Root as HeldRoot}
use Rattle.icn_value.specs.declared.item.Root.TheVariants.{Global as HeldGlobal, Static as HeldStatic, Local as HeldLocal, Element as HeldElement, Field as HeldField, Key as HeldKey, Keyword as HeldKeyword}
use Rattle.icn_value.specs.declared.item.VarRef.{VarRef}
use Rattle.icn_value.specs.declared.item.VarRef.TheVariants.{Whole as HeldWhole, Part as HeldPart}
use Rattle.icn_value.specs.declared.item.Item.{Item as HeldItem}
use Rattle.icn_value.specs.declared.item.Item.TheVariants.{Val as HeldVal, Var as HeldVar}
use Rattle.icn_heap.specs.Heaps.{parts_of}
use Rattle.icn_heap.specs.NeededValues.{held_vals, length_of_vals}
use Rattle.icn_vars.specs.declared.words.HeldError.{HeldError}
use Rattle.icn_vars.specs.declared.world.World.{World}

-- the structure that an element, a field or a key is of, and the key; no other root has a value
abbrev pub root_vals : HeldRoot → List Val
root_vals (HeldGlobal place) = []
root_vals (HeldStatic place) = []
root_vals (HeldLocal place) = []
root_vals (HeldElement list number) = ListVal list ∷ []
root_vals (HeldField rec place) = RecVal rec ∷ []
root_vals (HeldKey table key) = TableVal table ∷ key ∷ []
root_vals (HeldKeyword word) = []

-- the values of its root
abbrev pub variable_vals : VarRef → List Val
variable_vals (HeldWhole root) = root_vals root
variable_vals (HeldPart root place len) = root_vals root

-- the value, or the values of the variable
abbrev pub item_vals : HeldItem → List Val
item_vals (HeldVal val) = val ∷ []
item_vals (HeldVar variable) = variable_vals variable

-- the value that an error is about, if one is kept and is about a value
abbrev pub kept_vals : Option HeldError → List Val
kept_vals None = []
kept_vals (Some error) = option_to_list error.value

-- the subject, the value of the error that is kept, and the values of globals and statics
abbrev pub world_vals : World → List Val
world_vals world = TextVal world.pair.subject
    ∷ (kept_vals world.words.kept ++ (world.globals.items ++ world.statics.items))

-- how many bytes the texts have together that a world reaches, by what it has and by what its structures hold that are there
abbrev pub reached_length : World → ℕ
reached_length world = length_of_vals (world_vals world) + length_of_vals (held_vals (parts_of world.heap))
