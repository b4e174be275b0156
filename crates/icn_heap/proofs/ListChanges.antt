-- Lists that join a heap and change in it.
use Rattle.std.proofs.Common.{◌≡◌, ◌∙◌, refl, sym, ap, ℕ, zero, suc, ◌+◌, ◌-◌, ◌≤◌, ℤ, pos, negsuc, ◌-ℤ◌, ◌+ℤ◌, ◌≤ℤ◌, FitsSigned, w64, Option, None, Some, is_some, slice_get, unwrap_or, IfSome, List, [], ◌∷◌, ◌++◌, map, take, length, slice_set, slice_index_or, arith, length-append, replicate, subst}
use Rattle.std.proofs.Math.Nat.{le_refl}
use Rattle.std.proofs.lemmas.Int.{ints}
use Rattle.std.specs.List.{All}
use Rattle.std.specs.Option.{option_map}
use Rattle.std.proofs.lemmas.Option.{slice_get-map, unwrap_or-slice_get}
use Rattle.std.proofs.lemmas.List.{map-set, map-append, length-map, length-set, length-take, length-replicate}
use Rattle.std.proofs.lemmas.List.Elements.{All-push, All-set, All-cons, All-head, All-tail, All-take, All-replicate}
use Rattle.std.proofs.Math.ListN.{get_or-map}
use Rattle.icn_strings.specs.declared.region.Region.{Region}
use Rattle.icn_strings.specs.Regions.{KeepsRanges as KeepsTexts}
use Rattle.icn_structs.specs.Shelves.{IsSet, things_there, with_new, with_other}
use Rattle.icn_structs.proofs.ShelvedThings.{all_new, all_other, at_there, more_set, same_set, set_below}
use Rattle.icn_structs.specs.Numbered.{NumberedList, number_after, with_right, with_left, without_left, without_right, with_numbered, items_with, item_at, item_numbered, leftmost, rightmost, after_first}
use Rattle.icn_value.specs.declared.val.Val.{Val}
use Rattle.icn_value.specs.Values.{Value}
use Rattle.icn_value.specs.Store.{Heap, new_list, list_at, with_list}
use Rattle.icn_value.specs.Changes.{having_list}
use Rattle.icn_heap.specs.ElementValues.{list_vals}
use Rattle.icn_heap.specs.Extents.{Extent, IsLive, value_in, KeepsValues}
use Rattle.icn_heap.specs.HeapParts.{Parts, list_in, heap_over, extent_in, no_vals, IsSoundList, IsCharged, IsSoundHeap}
use Rattle.icn_heap.specs.Heaps.{with_cells}
use Rattle.icn_heap.proofs.GrowingHeaps.{lists_later, optional_kept, Becomes, becomes}
use Rattle.icn_heap.proofs.HeldElements.{list_made, made_new, made_other}

pub texts_stay : (region : Region) → KeepsTexts region region
texts_stay region =
    record {
      means = record { limit = refl; written = λ place is. is; bytes = λ place is. refl };
      limit = refl;
      of = λ place is. is;
      bytes = λ place is. refl;
    }

-- an element that is made something of
pub at_view : {X Y : Type 0} (f : X → Y) (xs : List X) (k : ℕ) (d : X) → unwrap_or (slice_get (map f xs) k) (f d) ≡ f (slice_index_or xs k d)
at_view f xs k d = unwrap_or-slice_get (map f xs) k (f d) ∙ get_or-map f xs k d

-- a list by its number
pub list_view : (all : Extent) (parts : Parts) (id : ℕ) → list_at (heap_over all parts) id ≡ list_in all (slice_index_or parts.lists.things id no_vals)
list_view all parts id = at_view (list_in all) parts.lists.things id no_vals

pub list_sound : (parts : Parts) → IsSoundHeap parts → (id : ℕ) → IsSet parts.lists.held id
    → IsSoundList (extent_in parts) parts.cells (slice_index_or parts.lists.things id no_vals)
list_sound parts is id there =
    let within = set_below parts.lists.held id there in
    let long = is.structures.made_lists.long in
    at_there (IsSoundList (extent_in parts) parts.cells) parts.lists.held parts.lists.things id no_vals there (omega (arith, within, long)) is.structures.lists

-- Lists that stay sound

module _ (all : Extent) (cells : ℕ) (list : NumberedList Val) (is : IsSoundList all cells list) where
  pub sound_right : (sum : ℕ) → sum ≡ cells + (1 + 0) → (val : Val) → IsLive all val → IsSoundList all sum (with_right list val)
  sound_right sum more val live = record {
    live = All-push (IsLive all) list.items val is.live live;
    low = let low = is.low in omega (arith, ints);
    high = let high = is.high in rw length-append (omega (arith, ints));
  }

  pub sound_left : (sum : ℕ) → sum ≡ cells + (1 + 0) → (val : Val) → IsLive all val → IsSoundList all sum (with_left list val)
  sound_left sum more val live = record {
    live = All-cons (IsLive all) val list.items live is.live;
    low = let low = is.low in omega (arith, ints);
    high = let high = is.high in omega (arith, ints);
  }

  pub sound_after : IsSoundList all cells (without_left list)
  sound_after = record {
    live = left_live list.items list.number is.live;
    low = let low = is.low in let up = left_number list.items list.number in omega (arith, ints);
    high = let high = is.high in let same = left_after list.items list.number in omega (arith, ints);
  }
    where
      left_live : (items : List Val) (number : ℤ) → All (IsLive all) items → All (IsLive all) (after_first items number).items
      left_live [] number live = live
      left_live (val ∷ items) number live = All-tail (IsLive all) val items live

      left_number : (items : List Val) (number : ℤ) → number ≤ℤ (after_first items number).number
      left_number [] number = omega (arith, ints)
      left_number (val ∷ items) number = omega (arith, ints)

      left_after : (items : List Val) (number : ℤ) → number_after (after_first items number) ≤ℤ (number +ℤ pos (length items))
      left_after [] number = omega (arith, ints)
      left_after (val ∷ items) number = omega (arith, ints)

  pub sound_before : IsSoundList all cells (without_right list)
  sound_before = record {
    live = All-take (IsLive all) (length list.items - 1) list.items is.live;
    low = is.low;
    high = let high = is.high in rw length-take (omega (arith, ints));
  }

  pub sound_numbered : (n : ℤ) (val : Val) → IsLive all val → IsSoundList all cells (with_numbered list n val)
  sound_numbered n val live = record {
    live = at_live (n -ℤ list.number);
    low = is.low;
    high = let high = is.high in rw (at_length (n -ℤ list.number)) high;
  }
    where
      at_live : (place : ℤ) → All (IsLive all) (items_with list.items place val)
      at_live (pos place) = All-set (IsLive all) list.items place val live is.live
      at_live (negsuc place) = is.live

      at_length : (place : ℤ) → length (items_with list.items place val) ≡ length list.items
      at_length (pos place) = length-set list.items place val
      at_length (negsuc place) = refl

  pub put_fits : cells ≤ 4294967295 → FitsSigned w64 (number_after list +ℤ pos 1)
  put_fits few = let low = is.low in let high = is.high in search (arith, ints)

  pub push_fits : cells ≤ 4294967295 → FitsSigned w64 (list.number -ℤ pos 1)
  push_fits few = let low = is.low in let high = is.high in search (arith, ints)

-- What is done to a list is done to the values of its items

pub right_in : (all : Extent) (list : NumberedList Val) (val : Val) → list_in all (with_right list val) ≡ with_right (list_in all list) (value_in all val)
right_in all list val =
    ap (λ items. let it : NumberedList Value = record { items = items; number = list.number } in it) (map-append (value_in all) list.items (val ∷ []))

after_in : (all : Extent) (items : List Val) (number : ℤ) → list_in all (after_first items number) ≡ after_first (map (value_in all) items) number
after_in all [] number = refl
after_in all (val ∷ items) number = refl

pub rest_in : (all : Extent) (list : NumberedList Val) → list_in all (without_left list) ≡ without_left (list_in all list)
rest_in all list = after_in all list.items list.number

map-take : (all : Extent) (n : ℕ) (items : List Val) → map (value_in all) (take n items) ≡ take n (map (value_in all) items)
map-take all zero items = refl
map-take all (suc n) [] = refl
map-take all (suc n) (val ∷ items) = ap (λ rest. value_in all val ∷ rest) (map-take all n items)

pub front_in : (all : Extent) (list : NumberedList Val) → list_in all (without_right list) ≡ without_right (list_in all list)
front_in all list =
    let size : length list.items ≡ length (map (value_in all) list.items) = rw length-map refl in
    ap (λ items. let it : NumberedList Value = record { items = items; number = list.number } in it)
    (map-take all (length list.items - 1) list.items ∙ ap (λ n. take (n - 1) (map (value_in all) list.items)) size)

items_with_in : (all : Extent) (items : List Val) (place : ℤ) (val : Val)
    → map (value_in all) (items_with items place val) ≡ items_with (map (value_in all) items) place (value_in all val)
items_with_in all items (pos place) val = map-set (value_in all) items place val
items_with_in all items (negsuc place) val = refl

pub numbered_in : (all : Extent) (list : NumberedList Val) (n : ℤ) (val : Val)
    → list_in all (with_numbered list n val) ≡ with_numbered (list_in all list) n (value_in all val)
numbered_in all list n val =
    ap (λ items. let it : NumberedList Value = record { items = items; number = list.number } in it) (items_with_in all list.items (n -ℤ list.number) val)

pub item_in : (all : Extent) (list : NumberedList Val) (n : ℤ) → item_numbered (list_in all list) n ≡ option_map (value_in all) (item_numbered list n)
item_in all list n = at_place (n -ℤ list.number)
  where
    at_place : (place : ℤ) → item_at (map (value_in all) list.items) place ≡ option_map (value_in all) (item_at list.items place)
    at_place (pos place) = slice_get-map (value_in all) list.items place
    at_place (negsuc place) = refl

pub first_in : (all : Extent) (list : NumberedList Val) → leftmost (list_in all list) ≡ option_map (value_in all) (leftmost list)
first_in all list = slice_get-map (value_in all) list.items 0

pub last_in : (all : Extent) (list : NumberedList Val) → rightmost (list_in all list) ≡ option_map (value_in all) (rightmost list)
last_in all list = rw length-map (slice_get-map (value_in all) list.items (length list.items - 1))

pub is_some_map : {X Y : Type 0} (f : X → Y) (found : Option X) → is_some (option_map f found) ≡ is_some found
is_some_map f None = refl
is_some_map f (Some x) = refl

-- an element that is found is live
pub get_live : {X : Type 0} (P : X → Type 0) (xs : List X) (k : ℕ) → All P xs → IfSome (slice_get xs k) P
get_live P [] k are = tt
get_live P (x ∷ xs) zero are = All-head P x xs are
get_live P (x ∷ xs) (suc k) are = get_live P xs k (All-tail P x xs are)

-- A list of a heap that changes, and one that joins it

module _ (parts : Parts) (is : IsSoundHeap parts) {sum : ℕ} (more : parts.cells ≤ sum) (within : sum ≤ parts.limits.cells) where
  lists_more : All (IsSoundList (extent_in parts) sum) (things_there parts.lists)
  lists_more = lists_later (extent_in parts) parts.cells sum more (things_there parts.lists) is.structures.lists

  pub list_changes : (id : ℕ) {list : NumberedList Val} {value : NumberedList Value} → IsSoundList (extent_in parts) sum list
      → list_in (extent_in parts) list ≡ value
      → Becomes parts (record parts { lists = with_other parts.lists id list; cells = sum })
      (with_list id value (with_cells sum (heap_over (extent_in parts) parts)))
  list_changes id {list} {value} sound same =
      let size : length (slice_set parts.lists.things id list) ≡ length parts.lists.things = length-set parts.lists.things id list in
      let charged : IsCharged parts = is.charged in
      becomes
      (record {
        texts = texts_stay parts.strings;
        lists = same_set _;
        sets = same_set _;
        tables = same_set _;
        records = same_set _;
        coexps = le_refl _;
        files = le_refl _;
      })
      (record {
        lists = all_other (IsSoundList (extent_in parts) sum) parts.lists.held parts.lists.things id list sound lists_more;
        sets = is.structures.sets;
        tables = is.structures.tables;
        records = is.structures.records;
        made_lists = made_other (extent_in parts) list_vals parts.lists is.structures.made_lists id list (list_made (extent_in parts) sum list sound);
        made_sets = is.structures.made_sets;
        made_tables = is.structures.made_tables;
        made_records = is.structures.made_records;
        coexps = is.structures.coexps;
        files = is.structures.files;
      })
      (record { limit = charged.limit; within = within; counted = (let few = charged.counted in omega arith); main = charged.main })
      (ap (λ lists. let heap : Heap = record (with_cells sum (heap_over (extent_in parts) parts)) { lists = lists } in heap)
      (map-set (list_in (extent_in parts)) parts.lists.things id list ∙ ap (slice_set (map (list_in (extent_in parts)) parts.lists.things) id) same))

  pub list_joins : {list : NumberedList Val} {items : List Val} → sum ≡ parts.cells + (1 + length items) → list.items ≡ items → list.number ≡ pos 1
      → All (IsLive (extent_in parts)) items
      → Becomes parts (record parts { lists = with_new parts.lists list; cells = sum })
      (having_list (map (value_in (extent_in parts)) items) (with_cells sum (heap_over (extent_in parts) parts)))
  list_joins {list} {items} paid are number live =
      let size : length (parts.lists.things ++ list ∷ []) ≡ length parts.lists.things + 1 = length-append parts.lists.things (list ∷ []) in
      let charged : IsCharged parts = is.charged in
      let made : list_in (extent_in parts) list
      ≡ new_list (map (value_in (extent_in parts)) items) = new_by (ap (map (value_in (extent_in parts))) are) number in
      let sound : IsSoundList (extent_in parts) sum list =
      record { live = rw are live; low = rw number (omega (arith, ints)); high = rw (number, are) (omega (arith, ints)) } in
      becomes
      (record {
        texts = texts_stay parts.strings;
        lists = more_set _;
        sets = same_set _;
        tables = same_set _;
        records = same_set _;
        coexps = le_refl _;
        files = le_refl _;
      })
      (record {
        lists = all_new (IsSoundList (extent_in parts) sum) parts.lists.held parts.lists.things list is.structures.made_lists.long lists_more sound;
        sets = is.structures.sets;
        tables = is.structures.tables;
        records = is.structures.records;
        made_lists = made_new (extent_in parts) list_vals parts.lists is.structures.made_lists list (list_made (extent_in parts) sum list sound);
        made_sets = is.structures.made_sets;
        made_tables = is.structures.made_tables;
        made_records = is.structures.made_records;
        coexps = is.structures.coexps;
        files = is.structures.files;
      })
      (record { limit = charged.limit; within = within; counted = (let few = charged.counted in omega arith); main = charged.main })
      (ap (λ lists. let heap : Heap = record (with_cells sum (heap_over (extent_in parts) parts)) { lists = lists } in heap)
      (map-append (list_in (extent_in parts)) parts.lists.things (list ∷ [])
      ∙ ap (λ (it : NumberedList Value). map (list_in (extent_in parts)) parts.lists.things ++ it ∷ []) made))
    where
      new_by : {a b : List Value} {n m : ℤ} → a ≡ b → n ≡ m
          → (let x : NumberedList Value = record { items = a; number = n } in x) ≡ (let y : NumberedList Value = record { items = b; number = m } in y)
      new_by a b = cc

-- The calls on one list

module _ (parts : Parts) (is : IsSoundHeap parts) (id : ℕ) (there : IsSet parts.lists.held id) where
  found_sound : IsSoundList (extent_in parts) parts.cells (slice_index_or parts.lists.things id no_vals)
  found_sound = list_sound parts is id there

  view : list_in (extent_in parts) (slice_index_or parts.lists.things id no_vals) ≡ list_at (heap_over (extent_in parts) parts) id
  view = sym (list_view (extent_in parts) parts id)

  pub list_puts : {sum : ℕ} → sum ≡ parts.cells + (1 + 0) → sum ≤ parts.limits.cells → (val : Val) → IsLive (extent_in parts) val
      → Becomes parts (record parts { lists = with_other parts.lists id (with_right (slice_index_or parts.lists.things id no_vals) val); cells = sum })
      (with_list id (with_right (list_at (heap_over (extent_in parts) parts) id) (value_in (extent_in parts) val))
      (with_cells sum (heap_over (extent_in parts) parts)))
  list_puts {sum} paid within val live =
      list_changes parts is (omega arith) within id (sound_right _ _ _ found_sound sum paid val live)
      (right_in (extent_in parts) (slice_index_or parts.lists.things id no_vals) val
      ∙ ap (λ (list : NumberedList Value). with_right list (value_in (extent_in parts) val)) view)

  pub list_pushes : {sum : ℕ} → sum ≡ parts.cells + (1 + 0) → sum ≤ parts.limits.cells → (val : Val) → IsLive (extent_in parts) val
      → Becomes parts (record parts { lists = with_other parts.lists id (with_left (slice_index_or parts.lists.things id no_vals) val); cells = sum })
      (with_list id (with_left (list_at (heap_over (extent_in parts) parts) id) (value_in (extent_in parts) val))
      (with_cells sum (heap_over (extent_in parts) parts)))
  list_pushes {sum} paid within val live =
      list_changes parts is (omega arith) within id (sound_left _ _ _ found_sound sum paid val live)
      (ap (λ (list : NumberedList Value). with_left list (value_in (extent_in parts) val)) view)

  pub list_gets : Becomes parts (record parts { lists = with_other parts.lists id (without_left (slice_index_or parts.lists.things id no_vals)) })
      (with_list id (without_left (list_at (heap_over (extent_in parts) parts) id)) (heap_over (extent_in parts) parts))
  list_gets =
      list_changes parts is (le_refl _) is.charged.within id (sound_after _ _ _ found_sound)
      (rest_in (extent_in parts) (slice_index_or parts.lists.things id no_vals) ∙ ap without_left view)

  pub list_pulls : Becomes parts (record parts { lists = with_other parts.lists id (without_right (slice_index_or parts.lists.things id no_vals)) })
      (with_list id (without_right (list_at (heap_over (extent_in parts) parts) id)) (heap_over (extent_in parts) parts))
  list_pulls =
      list_changes parts is (le_refl _) is.charged.within id (sound_before _ _ _ found_sound)
      (front_in (extent_in parts) (slice_index_or parts.lists.things id no_vals) ∙ ap without_right view)

  pub list_sets : (n : ℤ) (val : Val) → IsLive (extent_in parts) val
      → Becomes parts (record parts { lists = with_other parts.lists id (with_numbered (slice_index_or parts.lists.things id no_vals) n val) })
      (with_list id (with_numbered (list_at (heap_over (extent_in parts) parts) id) n (value_in (extent_in parts) val)) (heap_over (extent_in parts) parts))
  list_sets n val live =
      list_changes parts is (le_refl _) is.charged.within id (sound_numbered _ _ _ found_sound n val live)
      (numbered_in (extent_in parts) (slice_index_or parts.lists.things id no_vals) n val
      ∙ ap (λ (list : NumberedList Value). with_numbered list n (value_in (extent_in parts) val)) view)

  -- what is found there
  pub first_live : IfSome (leftmost (slice_index_or parts.lists.things id no_vals)) (IsLive (extent_in parts))
  first_live = get_live _ _ 0 found_sound.live

  pub last_live : IfSome (rightmost (slice_index_or parts.lists.things id no_vals)) (IsLive (extent_in parts))
  last_live = get_live _ _ _ found_sound.live

  pub first_is : option_map (value_in (extent_in parts)) (leftmost (slice_index_or parts.lists.things id no_vals))
      ≡ leftmost (list_at (heap_over (extent_in parts) parts) id)
  first_is = sym (first_in (extent_in parts) (slice_index_or parts.lists.things id no_vals)) ∙ ap leftmost view

  pub last_is : option_map (value_in (extent_in parts)) (rightmost (slice_index_or parts.lists.things id no_vals))
      ≡ rightmost (list_at (heap_over (extent_in parts) parts) id)
  last_is = sym (last_in (extent_in parts) (slice_index_or parts.lists.things id no_vals)) ∙ ap rightmost view

  pub numbered_is : (n : ℤ)
      → is_some (item_numbered (slice_index_or parts.lists.things id no_vals) n) ≡ is_some (item_numbered (list_at (heap_over (extent_in parts) parts) id) n)
  numbered_is n =
      sym (is_some_map (value_in (extent_in parts)) (item_numbered (slice_index_or parts.lists.things id no_vals) n))
      ∙ (ap is_some (sym (item_in (extent_in parts) (slice_index_or parts.lists.things id no_vals) n))
      ∙ ap (λ (list : NumberedList Value). is_some (item_numbered list n)) view)

-- an item that was found, as the heap afterwards sees it
pub item_kept : {a b : Extent} {item : Option Value} (found : Option Val) → KeepsValues a b → IfSome found (IsLive a) → option_map (value_in a) found ≡ item
    → option_map (value_in b) found ≡ item
item_kept found keeps live same = optional_kept keeps found live ∙ same

pub item_stays : {a b : Extent} (found : Option Val) → KeepsValues a b → IfSome found (IsLive a) → IfSome found (IsLive b)
item_stays None keeps live = tt
item_stays (Some val) keeps live = keeps.live val live

map-replicate : (all : Extent) (n : ℕ) (fill : Val) → map (value_in all) (replicate n fill) ≡ replicate n (value_in all fill)
map-replicate all zero fill = refl
map-replicate all (suc n) fill = ap (λ rest. value_in all fill ∷ rest) (map-replicate all n fill)

-- a list of one value so many times joins a heap
pub list_repeats : (parts : Parts) → IsSoundHeap parts → {sum : ℕ} {list : NumberedList Val} (n : ℕ) (fill : Val) → sum ≡ parts.cells + (1 + n)
    → sum ≤ parts.limits.cells
    → list.items ≡ replicate n fill → list.number ≡ pos 1 → IsLive (extent_in parts) fill
    → Becomes parts (record parts { lists = with_new parts.lists list; cells = sum })
    (having_list (replicate n (value_in (extent_in parts) fill)) (with_cells sum (heap_over (extent_in parts) parts)))
list_repeats parts is {sum} {list} n fill paid within are number live =
    let size : length (replicate n fill) ≡ n = length-replicate n fill in
    subst (λ items. Becomes parts (record parts { lists = with_new parts.lists list; cells = sum })
    (having_list items (with_cells sum (heap_over (extent_in parts) parts))))
    (map-replicate (extent_in parts) n fill)
    (list_joins parts is (omega arith) within (omega arith) are number (All-replicate (IsLive (extent_in parts)) n fill live))
