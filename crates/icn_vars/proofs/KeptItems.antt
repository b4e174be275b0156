-- What stays of items, variables and their roots as a world changes.
use Rattle.std.proofs.Common.{◌≡◌, ◌∙◌, refl, ap, ℕ, List, [], ◌∷◌, map, arith}
use Rattle.std.specs.List.{All}
use Rattle.std.specs.Prelude.{slice_index}
use Rattle.std.proofs.lemmas.List.Elements.{All-head, All-tail, All-weaker}
use Rattle.icn_value.specs.declared.val.Val.{Val as HeldValue}
use Rattle.icn_value.specs.declared.val.Val.TheVariants.{List as ListVal, Table as TableVal, Rec as RecVal}
use Rattle.icn_value.specs.declared.item.Root.{Root as HeldRoot}
use Rattle.icn_value.specs.declared.item.Root.TheVariants.{Global as HeldGlobal, Static as HeldStatic, Local as HeldLocal, Element as HeldElement, Field as HeldField, Key as HeldKey, Keyword as HeldKeyword}
use Rattle.icn_value.specs.declared.item.VarRef.{VarRef}
use Rattle.icn_value.specs.declared.item.VarRef.TheVariants.{Whole as HeldWhole, Part as HeldPart}
use Rattle.icn_value.specs.declared.item.Item.{Item as HeldItem}
use Rattle.icn_value.specs.declared.item.Item.TheVariants.{Val as ValItem, Var as VarItem}
use Rattle.icn_value.specs.Values.{Key, Whole, Part, Val, Var}
use Rattle.icn_heap.specs.Extents.{KeepsValues}
use Rattle.icn_heap.proofs.GrowingHeaps.{keeps_refl, keeps_trans}
use Rattle.icn_vars.specs.declared.world.World.{World}
use Rattle.icn_vars.specs.Worlds.{IsLiveItem, IsLiveRoot, IsLiveVariable, ItemBy, KeepsFields, KeepsItems, KeepsLive, Reach, RootBy, VariableBy, item_in, root_in, variable_in}

-- How worlds keep items

-- a record has as many fields, where all have
pub same_fields : (old new : List ℕ) → new ≡ old → KeepsFields old new
same_fields old new is = record { more = λ id. (let same : slice_index new id ≡ slice_index old id = ap (λ counts. slice_index counts id) is in omega arith) }

pub fields_then : (a b c : List ℕ) → KeepsFields a b → KeepsFields b c → KeepsFields a c
fields_then a b c first second = record { more = λ id. (let low = first.more id in let high = second.more id in omega arith) }

-- a world keeps its items where its heap and its records keep theirs, and there are as many globals, statics and locals
pub keeps_items : (old new : Reach) → KeepsValues old.extent new.extent → KeepsFields old.fields new.fields → new.globals ≡ old.globals
    → new.statics ≡ old.statics
    → new.locals ≡ old.locals → KeepsItems old new
keeps_items old new extent fields globals statics locals = record { extent = extent; fields = fields; globals = globals; statics = statics; locals = locals }

-- a world keeps its own items
pub keeps_items_refl : (a : Reach) → KeepsItems a a
keeps_items_refl a = record { extent = keeps_refl a.extent; fields = same_fields a.fields a.fields refl; globals = refl; statics = refl; locals = refl }

-- items that two changes keep one after the other are kept by both
pub keeps_items_trans : (a b c : Reach) → KeepsItems a b → KeepsItems b c → KeepsItems a c
keeps_items_trans a b c first second = record {
  extent = keeps_trans first.extent second.extent;
  fields = fields_then a.fields b.fields c.fields first.fields second.fields;
  globals = second.globals ∙ first.globals;
  statics = second.statics ∙ first.statics;
  locals = second.locals ∙ first.locals;
}

-- what two changes keep live one after the other is kept live by both
pub keeps_live_then : {a b c : World} {first second third : List HeldValue} → KeepsLive a first b second
    → KeepsLive b second c third → KeepsLive a first c third
keeps_live_then one two = record { locals = two.locals; items = keeps_items_trans _ _ _ one.items two.items }

-- What stays of each item

module _ {old new : Reach} (keeps : KeepsItems old new) where
  root_by : (root : HeldRoot) → RootBy old root → RootBy new root
  root_by (HeldGlobal place) is = let same = keeps.globals in omega arith
  root_by (HeldStatic place) is = let same = keeps.statics in omega arith
  root_by (HeldLocal place) is = let same = keeps.locals in omega arith
  root_by (HeldElement list number) is = keeps.extent.live (ListVal list) is
  root_by (HeldField rec place) is = (keeps.extent.live (RecVal rec) is.0, (let more = keeps.fields.more rec in let there = is.1 in omega arith))
  root_by (HeldKey table key) is = (keeps.extent.live (TableVal table) is.0, keeps.extent.live key is.1)
  root_by (HeldKeyword word) is = tt

  pub root_stays : (root : HeldRoot) → IsLiveRoot old root → IsLiveRoot new root
  root_stays root is = record { live = root_by root is.live }

  variable_by : (variable : VarRef) → VariableBy old variable → VariableBy new variable
  variable_by (HeldWhole root) is = root_stays root is
  variable_by (HeldPart root place len) is = (root_stays root is.0, is.1)

  pub variable_stays : (variable : VarRef) → IsLiveVariable old variable → IsLiveVariable new variable
  variable_stays variable is = record { live = variable_by variable is.live }

  item_by : (item : HeldItem) → ItemBy old item → ItemBy new item
  item_by (ValItem val) is = keeps.extent.live val is
  item_by (VarItem variable) is = variable_stays variable is

  -- an item of the world before is one of the world after
  pub item_stays : (item : HeldItem) → IsLiveItem old item → IsLiveItem new item
  item_stays item is = record { live = item_by item is.live }

  pub items_stay : (items : List HeldItem) → All (IsLiveItem old) items → All (IsLiveItem new) items
  items_stay items are = All-weaker (IsLiveItem old) (IsLiveItem new) item_stays items are

  -- What each stands for

  same_root_by : (root : HeldRoot) → RootBy old root → root_in new.extent root ≡ root_in old.extent root
  same_root_by (HeldGlobal place) is = refl
  same_root_by (HeldStatic place) is = refl
  same_root_by (HeldLocal place) is = refl
  same_root_by (HeldElement list number) is = refl
  same_root_by (HeldField rec place) is = refl
  same_root_by (HeldKey table key) is = ap (Key table) (keeps.extent.value key is.1)
  same_root_by (HeldKeyword word) is = refl

  pub root_kept : (root : HeldRoot) → IsLiveRoot old root → root_in new.extent root ≡ root_in old.extent root
  root_kept root is = same_root_by root is.live

  same_variable_by : (variable : VarRef) → VariableBy old variable → variable_in new.extent variable ≡ variable_in old.extent variable
  same_variable_by (HeldWhole root) is = ap Whole (root_kept root is)
  same_variable_by (HeldPart root place len) is = ap (λ whole. Part whole place len) (root_kept root is.0)

  pub variable_kept : (variable : VarRef) → IsLiveVariable old variable → variable_in new.extent variable ≡ variable_in old.extent variable
  variable_kept variable is = same_variable_by variable is.live

  same_item_by : (item : HeldItem) → ItemBy old item → item_in new.extent item ≡ item_in old.extent item
  same_item_by (ValItem val) is = ap Val (keeps.extent.value val is)
  same_item_by (VarItem variable) is = ap Var (variable_kept variable is)

  -- and it stands for the same item
  pub item_kept : (item : HeldItem) → IsLiveItem old item → item_in new.extent item ≡ item_in old.extent item
  item_kept item is = same_item_by item is.live

  pub items_kept : (items : List HeldItem) → All (IsLiveItem old) items → map (item_in new.extent) items ≡ map (item_in old.extent) items
  items_kept [] are = refl
  items_kept (item ∷ items) are =
      let first : item_in new.extent item ≡ item_in old.extent item = item_kept item (All-head (IsLiveItem old) item items are) in
      let rest : map (item_in new.extent) items ≡ map (item_in old.extent) items = items_kept items (All-tail (IsLiveItem old) item items are) in
      cc
