-- What a program's world stands for, and which variables and items are of it.
use Rattle.std.specs.Prelude.{◌≡◌, ℕ, pos, ◌<◌, ◌≤◌, ◌^◌, List, [], map, length, slice_index, Option, None, ⊤}
use Rattle.std.specs.List.{All}
use Rattle.std.specs.Option.{option_map}
use Rattle.icn_value.specs.declared.val.Val.{Val}
use Rattle.icn_value.specs.declared.val.Val.TheVariants.{List as ListVal, Table as TableVal, Rec as RecVal}
use Rattle.icn_value.specs.declared.item.KeywordVariable.{KeywordVariable as HeldWord}
use Rattle.icn_value.specs.declared.item.KeywordVariable.TheVariants.{Subject as HeldSubject, Position as HeldPosition, Random as HeldRandom, ErrorCount as HeldErrorCount}
use Rattle.icn_value.specs.declared.item.Root.{Root as HeldRoot}
use Rattle.icn_value.specs.declared.item.Root.TheVariants.{Global as HeldGlobal, Static as HeldStatic, Local as HeldLocal, Element as HeldElement, Field as HeldField, Key as HeldKey, Keyword as HeldKeyword}
use Rattle.icn_value.specs.declared.item.VarRef.{VarRef}
use Rattle.icn_value.specs.declared.item.VarRef.TheVariants.{Whole as HeldWhole, Part as HeldPart}
use Rattle.icn_value.specs.declared.item.Item.{Item as HeldItem}
use Rattle.icn_value.specs.declared.item.Item.TheVariants.{Val as HeldVal, Var as HeldVar}
use Rattle.icn_value.specs.Values.{KeywordVariable, Subject, Position, Random, ErrorCount, Root, Global, Static, Local, Element, Field, Key, Keyword, Variable, Whole, Part, Item, Val as ItemVal, Var as ItemVar}
use Rattle.icn_value.specs.Store.{Heap, Record, KeptError, Outside, Setting, World as StoreWorld}
use Rattle.icn_heap.specs.declared.heap.Heap.{Heap as HeldHeap}
use Rattle.icn_heap.specs.Extents.{Extent, IsLive, KeepsValues, text_in, value_in}
use Rattle.icn_heap.specs.Heaps.{extent_of, heap_of}
use Rattle.icn_vars.specs.declared.words.HeldError.{HeldError}
use Rattle.icn_vars.specs.declared.world.World.{World}

-- the error that is kept, if any, whose value holds its bytes
abbrev pub kept_in : Extent → Option HeldError → Option KeptError
kept_in all kept =
    option_map (λ error. let one : KeptError =
    record { number = error.number; value = option_map (value_in all) error.value } in one) kept

-- the world, whose values hold their bytes
abbrev pub world_of : World → StoreWorld
world_of world = record {
  heap = heap_of world.heap;
  subject = text_in (extent_of world.heap) world.pair.subject;
  position = world.pair.position;
  random = world.words.random;
  globals = map (value_in (extent_of world.heap)) world.globals.items;
  statics = map (value_in (extent_of world.heap)) world.statics.items;
  error = world.words.error;
  kept = kept_in (extent_of world.heap) world.words.kept;
}

-- the world of a heap with these globals and statics, as a run begins with it
abbrev pub new_world : HeldHeap → List Val → List Val → StoreWorld
new_world heap globals statics = record {
  heap = heap_of heap;
  subject = [];
  position = 1;
  random = 0;
  globals = map (value_in (extent_of heap)) globals;
  statics = map (value_in (extent_of heap)) statics;
  error = pos 0;
  kept = None;
}

-- the setting of this world, these locals, and an outside
abbrev pub setting_of : Outside → World → List Val → Setting
setting_of outside world locals = record {
  world = world_of world;
  locals = map (value_in (extent_of world.heap)) locals;
  outside = outside;
}

-- Variables and items as values that hold their bytes

-- the keyword that a variable is
abbrev pub word_of : HeldWord → KeywordVariable
word_of HeldSubject = Subject
word_of HeldPosition = Position
word_of HeldRandom = Random
word_of HeldErrorCount = ErrorCount

-- the root of a variable; the key of a table holds its bytes
abbrev pub root_in : Extent → HeldRoot → Root
root_in all (HeldGlobal place) = Global place
root_in all (HeldStatic place) = Static place
root_in all (HeldLocal place) = Local place
root_in all (HeldElement list number) = Element list number
root_in all (HeldField rec place) = Field rec place
root_in all (HeldKey table key) = Key table (value_in all key)
root_in all (HeldKeyword word) = Keyword (word_of word)

-- the variable that a reference stands for
abbrev pub variable_in : Extent → VarRef → Variable
variable_in all (HeldWhole root) = Whole (root_in all root)
variable_in all (HeldPart root place len) = Part (root_in all root) place len

-- the value or the variable that an item stands for
abbrev pub item_in : Extent → HeldItem → Item
item_in all (HeldVal val) = ItemVal (value_in all val)
item_in all (HeldVar variable) = ItemVar (variable_in all variable)

-- Which of them are of a world

-- how many fields each record has
abbrev pub field_counts : Heap → List ℕ
field_counts heap = map (λ (structure : Record). length structure.fields) heap.records

-- what items may name: the values of a heap, the fields of its records, and so many globals, statics and locals
pub record Reach : Type 0 where
  pub extent : Extent
  pub fields : List ℕ
  pub globals : ℕ
  pub statics : ℕ
  pub locals : ℕ

-- what the items of a world and of these locals may name
abbrev pub reach_of : World → List Val → Reach
reach_of world locals = record {
  extent = extent_of world.heap;
  fields = field_counts (heap_of world.heap);
  globals = length world.globals.items;
  statics = length world.statics.items;
  locals = length locals;
}

-- a place is below the count of what it counts, and a structure, a field or a key is of the heap
abbrev pub RootBy : Reach → HeldRoot → Type 0
RootBy reach (HeldGlobal place) = place < reach.globals
RootBy reach (HeldStatic place) = place < reach.statics
RootBy reach (HeldLocal place) = place < reach.locals
RootBy reach (HeldElement list number) = IsLive reach.extent (ListVal list)
RootBy reach (HeldField rec place) = IsLive reach.extent (RecVal rec) × (place < slice_index reach.fields rec)
RootBy reach (HeldKey table key) = IsLive reach.extent (TableVal table) × IsLive reach.extent key
RootBy reach (HeldKeyword word) = ⊤

-- the root of a variable is of the world
pub record IsLiveRoot (reach : Reach) (root : HeldRoot) : Type 0 where
  pub live : RootBy reach root

-- the root is of the world, and the place of a part counts from 1
abbrev pub VariableBy : Reach → VarRef → Type 0
VariableBy reach (HeldWhole root) = IsLiveRoot reach root
VariableBy reach (HeldPart root place len) = IsLiveRoot reach root × (1 ≤ place)

-- the variable is of the world
pub record IsLiveVariable (reach : Reach) (variable : VarRef) : Type 0 where
  pub live : VariableBy reach variable

-- the value is of the heap, or the variable of the world
abbrev pub ItemBy : Reach → HeldItem → Type 0
ItemBy reach (HeldVal val) = IsLive reach.extent val
ItemBy reach (HeldVar variable) = IsLiveVariable reach variable

-- the item is of the world
pub record IsLiveItem (reach : Reach) (item : HeldItem) : Type 0 where
  pub live : ItemBy reach item

-- a record keeps its fields
pub record KeepsFields (old new : List ℕ) : Type 0 where
  pub more : (id : ℕ) → slice_index old id ≤ slice_index new id

-- every item stays of the world, and stands for the same
pub record KeepsItems (old new : Reach) : Type 0 where
  pub extent : KeepsValues old.extent new.extent
  pub fields : KeepsFields old.fields new.fields
  pub globals : new.globals ≡ old.globals
  pub statics : new.statics ≡ old.statics
  pub locals : new.locals ≡ old.locals

-- the locals behind a call are of the world that it leaves; every item stays, and stands for the same
pub record KeepsLive (old : World) (before : List Val) (new : World) (after : List Val) : Type 0 where
  pub locals : All (IsLive (extent_of new.heap)) after
  pub items : KeepsItems (reach_of old before) (reach_of new after)

-- What a row asks for

-- the locals and the arguments at hand are of the world
pub record AreLiveArguments (world : World) (vals given : List Val) : Type 0 where
  pub locals : All (IsLive (extent_of world.heap)) vals
  pub args : All (IsLive (extent_of world.heap)) given

-- the locals and the operand are of the world
pub record IsLiveOperand (world : World) (vals : List Val) (x : HeldItem) : Type 0 where
  pub locals : All (IsLive (extent_of world.heap)) vals
  pub first : IsLiveItem (reach_of world vals) x

-- the locals and both operands are of the world
pub record AreLiveTwo (world : World) (vals : List Val) (x y : HeldItem) : Type 0 where
  pub locals : All (IsLive (extent_of world.heap)) vals
  pub first : IsLiveItem (reach_of world vals) x
  pub second : IsLiveItem (reach_of world vals) y

-- the locals and all three operands are of the world
pub record AreLiveThree (world : World) (vals : List Val) (x y z : HeldItem) : Type 0 where
  pub locals : All (IsLive (extent_of world.heap)) vals
  pub first : IsLiveItem (reach_of world vals) x
  pub second : IsLiveItem (reach_of world vals) y
  pub third : IsLiveItem (reach_of world vals) z

-- Places of parts that were read or assigned

-- a part begins where a text may have a byte, and is no longer than one
abbrev pub IsShort : VarRef → Type 0
IsShort (HeldWhole root) = ⊤
IsShort (HeldPart root place len) = (place < 2 ^ 63) × (len < 2 ^ 63)

-- so is the variable that an item is, if it is one
abbrev pub IsShortItem : HeldItem → Type 0
IsShortItem (HeldVal val) = ⊤
IsShortItem (HeldVar variable) = IsShort variable
