-- What stays of items and of a world as memory is given back.
use Rattle.std.proofs.Common.{◌≡◌, ◌∙◌, refl, ap, subst, ℕ, ℤ, List, [], ◌∷◌, ◌++◌, length, get_or, Option, Some, None, arith}
use Rattle.std.specs.Option.{option_to_list}
use Rattle.std.specs.List.{All}
use Rattle.std.specs.Prelude.{slice_index}
use Rattle.std.proofs.lemmas.List.Elements.{All-append, All-cons, All-head, All-tail}
use Rattle.icn_value.specs.declared.item.Pair.{Pair}
use Rattle.icn_value.specs.declared.val.Val.{Val}
use Rattle.icn_value.specs.declared.val.Val.TheVariants.{Text as TextVal, List as ListVal, Table as TableVal, Rec as RecVal}
use Rattle.icn_value.specs.declared.item.Root.{Root as HeldRoot}
use Rattle.icn_value.specs.declared.item.Root.TheVariants.{Global as HeldGlobal, Static as HeldStatic, Local as HeldLocal, Element as HeldElement, Field as HeldField, Key as HeldKey, Keyword as HeldKeyword}
use Rattle.icn_value.specs.declared.item.VarRef.{VarRef}
use Rattle.icn_value.specs.declared.item.VarRef.TheVariants.{Whole as HeldWhole, Part as HeldPart}
use Rattle.icn_value.specs.declared.item.Item.{Item as HeldItem}
use Rattle.icn_value.specs.declared.item.Item.TheVariants.{Val as HeldVal, Var as HeldVar}
use Rattle.icn_value.specs.Values.{Value, Key, Whole, Part, Val as ItemVal, Var as ItemVar}
use Rattle.icn_value.specs.Store.{Heap, KeptError, World as StoreWorld}
use Rattle.icn_heap.specs.declared.heap.Heap.{Heap as HeldHeap}
use Rattle.icn_heap.specs.declared.needed_values.NeededValues.{NeededValues}
use Rattle.icn_heap.specs.Extents.{Extent, IsLive, KeepsMeaning, text_in, value_in}
use Rattle.icn_heap.specs.Heaps.{extent_of, heap_of}
use Rattle.icn_heap.specs.NeededValues.{IsNeeded}
use Rattle.icn_heap.proofs.GrowingHeaps.{values_same}
use Rattle.icn_heap.proofs.NeededSteps.{all_behind, all_front}
use Rattle.icn_heap.proofs.HeldElements.{text_made, value_made}
use Rattle.icn_vars.specs.declared.words.HeldError.{HeldError}
use Rattle.icn_vars.specs.declared.words.Words.{Words}
use Rattle.icn_vars.specs.NeededItems.{item_vals, kept_vals, root_vals, variable_vals}
use Rattle.icn_vars.specs.WorldFacts.{IsSoundWorld}
use Rattle.icn_vars.specs.Worlds.{IsLiveItem, IsLiveRoot, IsLiveVariable, ItemBy, Reach, RootBy, VariableBy, item_in, root_in, variable_in}
use Rattle.icn_vars.proofs.GrowingWorlds.{kept_same, world_over}

no_vals : (P : Val → Type 0) → All P []
no_vals P = λ k d within. absurd (omega (arith, within))

-- Which items are of a world still: those whose values are needed

module _ (old new : Reach) (texts : NeededValues) (live : (val : Val) → IsLive old.extent val → IsNeeded texts val → IsLive new.extent val)
    (same : new ≡ (let reach : Reach = record old { extent = new.extent } in reach)) where
  root_by : (root : HeldRoot) → RootBy old root → All (IsNeeded texts) (root_vals root) → RootBy new root
  root_by (HeldGlobal place) is needed = (let count : new.globals ≡ old.globals = ap (λ (r : Reach). r.globals) same in omega arith)
  root_by (HeldStatic place) is needed = (let count : new.statics ≡ old.statics = ap (λ (r : Reach). r.statics) same in omega arith)
  root_by (HeldLocal place) is needed = (let count : new.locals ≡ old.locals = ap (λ (r : Reach). r.locals) same in omega arith)
  root_by (HeldElement list number) is needed = live (ListVal list) is (All-head (IsNeeded texts) (ListVal list) [] needed)
  root_by (HeldField rec place) is needed = (
    live (RecVal rec) is.0 (All-head (IsNeeded texts) (RecVal rec) [] needed),
    (let count : slice_index new.fields rec ≡ slice_index old.fields rec = ap (λ (r : Reach). slice_index r.fields rec) same in
        let there = is.1 in omega arith),
  )
  root_by (HeldKey table key) is needed = (
    live (TableVal table) is.0 (All-head (IsNeeded texts) (TableVal table) (key ∷ []) needed),
    live key is.1 (All-head (IsNeeded texts) key [] (All-tail (IsNeeded texts) (TableVal table) (key ∷ []) needed)),
  )
  root_by (HeldKeyword word) is needed = tt

  root_lives : (root : HeldRoot) → IsLiveRoot old root → All (IsNeeded texts) (root_vals root) → IsLiveRoot new root
  root_lives root is needed = record { live = root_by root is.live needed }

  variable_by : (variable : VarRef) → VariableBy old variable → All (IsNeeded texts) (variable_vals variable) → VariableBy new variable
  variable_by (HeldWhole root) is needed = root_lives root is needed
  variable_by (HeldPart root place len) is needed = (root_lives root is.0 needed, is.1)

  pub variable_lives : (variable : VarRef) → IsLiveVariable old variable → All (IsNeeded texts) (variable_vals variable) → IsLiveVariable new variable
  variable_lives variable is needed = record { live = variable_by variable is.live needed }

  item_by : (item : HeldItem) → ItemBy old item → All (IsNeeded texts) (item_vals item) → ItemBy new item
  item_by (HeldVal val) is needed = live val is (All-head (IsNeeded texts) val [] needed)
  item_by (HeldVar variable) is needed = variable_lives variable is needed

  pub item_lives : (item : HeldItem) → IsLiveItem old item → All (IsNeeded texts) (item_vals item) → IsLiveItem new item
  item_lives item is needed = record { live = item_by item is.live needed }

-- What items stand for stays

module _ (reach : Reach) (new : Extent) (means : KeepsMeaning reach.extent new) where
  value_means : (val : Val) → IsLive reach.extent val → value_in new val ≡ value_in reach.extent val
  value_means val is = means.value val (value_made reach.extent val is)

  same_root_by : (root : HeldRoot) → RootBy reach root → root_in new root ≡ root_in reach.extent root
  same_root_by (HeldGlobal place) is = refl
  same_root_by (HeldStatic place) is = refl
  same_root_by (HeldLocal place) is = refl
  same_root_by (HeldElement list number) is = refl
  same_root_by (HeldField rec place) is = refl
  same_root_by (HeldKey table key) is = ap (Key table) (value_means key is.1)
  same_root_by (HeldKeyword word) is = refl

  same_variable_by : (variable : VarRef) → VariableBy reach variable → variable_in new variable ≡ variable_in reach.extent variable
  same_variable_by (HeldWhole root) is = ap Whole (same_root_by root is.live)
  same_variable_by (HeldPart root place len) is = ap (λ whole. Part whole place len) (same_root_by root is.0.live)

  pub variable_means : (variable : VarRef) → IsLiveVariable reach variable → variable_in new variable ≡ variable_in reach.extent variable
  variable_means variable is = same_variable_by variable is.live

  same_item_by : (item : HeldItem) → ItemBy reach item → item_in new item ≡ item_in reach.extent item
  same_item_by (HeldVal val) is = ap ItemVal (value_means val is)
  same_item_by (HeldVar variable) is = ap ItemVar (variable_means variable is)

  pub item_means : (item : HeldItem) → IsLiveItem reach item → item_in new item ≡ item_in reach.extent item
  item_means item is = same_item_by item is.live

-- The values of a world

module _ (P : Val → Type 0) where
  optional_are : (val : Option Val) → ((one : Val) → val ≡ Some one → P one) → All P (option_to_list val)
  optional_are None is = no_vals P
  optional_are (Some val) is = All-cons P val [] (is val refl) (no_vals P)

  kept_are : (kept : Option HeldError) → ((error : HeldError) (val : Val) → kept ≡ Some error → error.value ≡ Some val → P val) → All P (kept_vals kept)
  kept_are None is = no_vals P
  kept_are (Some error) is = optional_are error.value (λ val about. is error val refl about)

  kept_is : (kept : Option HeldError) (error : HeldError) (val : Val) → kept ≡ Some error → error.value ≡ Some val → All P (kept_vals kept) → P val
  kept_is kept error val is about are = All-head P val [] (subst (All P) (ap kept_vals is ∙ ap option_to_list about) are)

-- all of them are of its heap
pub world_live : (all : Extent) (pair : Pair) (words : Words) (globals statics : List Val) → IsSoundWorld all pair words globals statics
    → All (IsLive all) (TextVal pair.subject ∷ (kept_vals words.kept ++ (globals ++ statics)))
world_live all pair words globals statics sound =
    All-cons (IsLive all) (TextVal pair.subject) (kept_vals words.kept ++ (globals ++ statics)) (record { live = sound.subject })
    (All-append (IsLive all) (kept_vals words.kept) (globals ++ statics) (kept_are (IsLive all) words.kept sound.kept)
    (All-append (IsLive all) globals statics sound.live_globals sound.live_statics))

module _ (a b : Extent) (texts : NeededValues) (means : KeepsMeaning a b) (live : (val : Val) → IsLive a val → IsNeeded texts val → IsLive b val) where
  all_live : (vals : List Val) → All (IsLive a) vals → All (IsNeeded texts) vals → All (IsLive b) vals
  all_live vals are needed = λ k d within. live (get_or vals k d) (are k d within) (needed k d within)

  -- where all of them are needed, the world is sound
  pub collected_sound : (pair : Pair) (words : Words) (globals statics : List Val) → IsSoundWorld a pair words globals statics
      → All (IsNeeded texts) (TextVal pair.subject ∷ (kept_vals words.kept ++ (globals ++ statics))) → IsSoundWorld b pair words globals statics
  collected_sound pair words globals statics sound needed =
      let subject = All-head (IsNeeded texts) (TextVal pair.subject) (kept_vals words.kept ++ (globals ++ statics)) needed in
      let rest = All-tail (IsNeeded texts) (TextVal pair.subject) (kept_vals words.kept ++ (globals ++ statics)) needed in
      let about = all_front (IsNeeded texts) (kept_vals words.kept) (globals ++ statics) rest in
      let both = all_behind (IsNeeded texts) (kept_vals words.kept) (globals ++ statics) rest in
      record {
        live_globals = all_live globals sound.live_globals (all_front (IsNeeded texts) globals statics both);
        live_statics = all_live statics sound.live_statics (all_behind (IsNeeded texts) globals statics both);
        subject = (live (TextVal pair.subject) (record { live = sound.subject }) subject).live;
        low = sound.low;
        high = (let same : length (text_in b pair.subject) ≡ length (text_in a pair.subject) =
            ap length (means.bytes pair.subject (text_made a pair.subject sound.subject)) in
            let high = sound.high in omega arith);
        state = sound.state;
        kept = λ error val is of. live val (sound.kept error val is of) (kept_is (IsNeeded texts) words.kept error val is of about);
        known = sound.known;
      }

world_by : (position random : ℕ) (error : ℤ) {heap heap' : Heap} {subject subject' : List ℕ} {globals globals' statics statics' : List Value}
    {kept kept' : Option KeptError} → heap' ≡ heap → subject' ≡ subject → globals' ≡ globals → statics' ≡ statics → kept' ≡ kept
    → (let w : StoreWorld =
    record { heap = heap'; subject = subject'; position = position; random = random; globals = globals'; statics = statics'; error = error; kept = kept' }
    in w)
    ≡ (let w : StoreWorld =
    record { heap = heap; subject = subject; position = position; random = random; globals = globals; statics = statics; error = error; kept = kept }
    in w)
world_by position random error a b c d e = cc

-- the world stands for the same
pub collected_same : (old new : HeldHeap) (pair : Pair) (words : Words) (globals statics : List Val) → KeepsMeaning (extent_of old) (extent_of new)
    → heap_of new ≡ heap_of old → IsSoundWorld (extent_of old) pair words globals statics
    → world_over new pair words globals statics ≡ world_over old pair words globals statics
collected_same old new pair words globals statics means same sound =
    let value : (val : Val) → IsLive (extent_of old) val → value_in (extent_of new) val ≡ value_in (extent_of old) val =
    λ val is. means.value val (value_made (extent_of old) val is) in
    world_by pair.position words.random words.error same (means.bytes pair.subject (text_made (extent_of old) pair.subject sound.subject))
    (values_same (extent_of old) (extent_of new) value globals sound.live_globals)
    (values_same (extent_of old) (extent_of new) value statics sound.live_statics)
    (kept_same (extent_of old) (extent_of new) words.kept value sound.kept)
