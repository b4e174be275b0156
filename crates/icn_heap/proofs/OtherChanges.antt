-- Sets, tables, records, counts and texts that join a heap and change in it.
use Rattle.std.proofs.Common.{◌≡◌, ◌∙◌, refl, sym, ap, ℕ, ◌+◌, ◌<◌, ◌≤◌, ◌^◌, true, false, not, is_some, slice_get, IfSome, Option, None, Some, Result, Ok, List, [], ◌∷◌, ◌++◌, map, filter, length, slice_set, slice_index, slice_index_or, arith, length-append}
use Rattle.std.proofs.Math.Nat.{le_refl}
use Rattle.std.specs.List.{All}
use Rattle.std.specs.Option.{option_map}
use Rattle.std.proofs.lemmas.Option.{slice_get-map, unwrap_or-slice_get}
use Rattle.std.proofs.lemmas.List.{map-set, map-append, length-map, length-set, set-get_or}
use Rattle.std.proofs.lemmas.List.Elements.{All-push, All-set}
use Rattle.icn_strings.specs.declared.region.Region.{Region}
use Rattle.icn_strings.specs.Regions.{KeepsRanges as KeepsTexts, sum_of}
use Rattle.icn_structs.specs.Numbered.{NumberedList}
use Rattle.icn_structs.specs.Shelves.{IsSet, things_there, with_new, with_other}
use Rattle.icn_structs.proofs.ShelvedThings.{all_new, all_other, at_there, more_set, same_set, set_below}
use Rattle.icn_structs.specs.PairLists.{value_of, with_value_of, without, KeysDiffer}
use Rattle.icn_value.specs.declared.full.Full.{Full}
use Rattle.icn_value.specs.declared.val.Val.{Val}
use Rattle.icn_value.specs.declared.val.Val.TheVariants.{Null as NullVal}
use Rattle.icn_value.specs.Values.{Value}
use Rattle.icn_value.specs.Sameness.{same, has_value, with_member}
use Rattle.icn_value.proofs.SameValues.{same_is, same_self}
use Rattle.icn_value.specs.Store.{Heap, Table, Record, set_at, table_at, record_at, value_at, with_set, with_table, with_record}
use Rattle.icn_value.specs.Changes.{having_coexp, having_member, added_in, and_then, charged_unless, with_pair, value_at_key, with_field, with_result}
use Rattle.icn_heap.specs.declared.key.Key.{Key}
use Rattle.icn_heap.specs.declared.entries.Entry.{Entry}
use Rattle.icn_heap.specs.declared.entries.Entries.{Entries}
use Rattle.icn_heap.specs.ElementValues.{member_val, set_vals, table_vals, record_vals}
use Rattle.icn_heap.specs.Extents.{Extent, IsLive, value_in, values_in}
use Rattle.icn_heap.specs.Keys.{key_value, IsKey}
use Rattle.icn_heap.specs.KeyTests.{key_eq}
use Rattle.icn_heap.specs.Records.{HeldRecord, held_record, no_fields}
use Rattle.icn_heap.specs.HeapParts.{list_in, Parts, member_in, set_in, pair_in, table_in, record_in, heap_over, extent_in, no_entries, entry_of, entry_value, entry_vals, table_with, table_without, IsSoundList, IsSoundMember, IsSoundPair, IsSoundTable, IsSoundRecord, IsCharged, IsSoundHeap}
use Rattle.icn_heap.specs.Heaps.{with_cells}
use Rattle.icn_heap.proofs.GrowingHeaps.{lists_later, Becomes, becomes}
use Rattle.icn_heap.proofs.HeldElements.{made_new, made_other, record_made, set_made, table_made}
use Rattle.icn_heap.proofs.ListChanges.{texts_stay, at_view, get_live, is_some_map}
use Rattle.icn_heap.proofs.PairViews.{stored_new, all_without, member_found, member_removed, value_found, found_live, pair_stored, pair_removed, stored_sound}

-- Sets

pub set_view : (all : Extent) (parts : Parts) (id : ℕ) → set_at (heap_over all parts) id ≡ set_in (slice_index_or parts.sets.things id [])
set_view all parts id = at_view set_in parts.sets.things id []

-- One structure of a heap changes, or joins it

module _ (parts : Parts) (is : IsSoundHeap parts) {sum : ℕ} (more : parts.cells ≤ sum) (within : sum ≤ parts.limits.cells) where
  lists_more : All (IsSoundList (extent_in parts) sum) (things_there parts.lists)
  lists_more = lists_later (extent_in parts) parts.cells sum more (things_there parts.lists) is.structures.lists

  pub set_changes : (id : ℕ) (one : List (Key × Val)) {value : List Value} → All (IsSoundMember (extent_in parts)) one → set_in one ≡ value
      → Becomes parts (record parts { sets = with_other parts.sets id one; cells = sum })
      (with_set id value (with_cells sum (heap_over (extent_in parts) parts)))
  set_changes id one {value} sound alike =
      let size : length (slice_set parts.sets.things id one) ≡ length parts.sets.things = length-set parts.sets.things id one in
      let charged : IsCharged parts = is.charged in
      becomes (record {
        texts = texts_stay parts.strings;
        lists = same_set _;
        sets = same_set _;
        tables = same_set _;
        records = same_set _;
        coexps = le_refl _;
        files = le_refl _;
      })
      (record {
        lists = lists_more;
        sets = all_other (All (IsSoundMember (extent_in parts))) parts.sets.held parts.sets.things id one sound is.structures.sets;
        tables = is.structures.tables;
        records = is.structures.records;
        made_lists = is.structures.made_lists;
        made_sets = made_other (extent_in parts) set_vals parts.sets is.structures.made_sets id one (set_made (extent_in parts) one sound);
        made_tables = is.structures.made_tables;
        made_records = is.structures.made_records;
        coexps = is.structures.coexps;
        files = is.structures.files;
      })
      (record { limit = charged.limit; within = within; counted = (let few = charged.counted in omega arith); main = charged.main })
      (ap (λ structures. let heap : Heap = record (with_cells sum (heap_over (extent_in parts) parts)) { sets = structures } in heap)
      (map-set (set_in) parts.sets.things id one ∙ ap (slice_set (map (set_in) parts.sets.things) id) alike))

  -- a set joins the heap
  pub set_joins : (one : List (Key × Val)) {value : List Value} → parts.cells + 1 ≤ sum → All (IsSoundMember (extent_in parts)) one → set_in one ≡ value
      → Becomes parts (record parts { sets = with_new parts.sets one; cells = sum })
      (let heap : Heap = record (with_cells sum (heap_over (extent_in parts) parts)) { sets = map (set_in) parts.sets.things ++ value ∷ [] } in heap)
  set_joins one {value} paid sound alike =
      let size : length (parts.sets.things ++ one ∷ []) ≡ length parts.sets.things + 1 = length-append parts.sets.things (one ∷ []) in
      let charged : IsCharged parts = is.charged in
      becomes (record {
        texts = texts_stay parts.strings;
        lists = same_set _;
        sets = more_set _;
        tables = same_set _;
        records = same_set _;
        coexps = le_refl _;
        files = le_refl _;
      })
      (record {
        lists = lists_more;
        sets = all_new (All (IsSoundMember (extent_in parts))) parts.sets.held parts.sets.things one is.structures.made_sets.long is.structures.sets sound;
        tables = is.structures.tables;
        records = is.structures.records;
        made_lists = is.structures.made_lists;
        made_sets = made_new (extent_in parts) set_vals parts.sets is.structures.made_sets one (set_made (extent_in parts) one sound);
        made_tables = is.structures.made_tables;
        made_records = is.structures.made_records;
        coexps = is.structures.coexps;
        files = is.structures.files;
      })
      (record { limit = charged.limit; within = within; counted = (let few = charged.counted in omega arith); main = charged.main })
      (ap (λ structures. let heap : Heap = record (with_cells sum (heap_over (extent_in parts) parts)) { sets = structures } in heap)
      (map-append (set_in) parts.sets.things (one ∷ []) ∙ ap (λ (it : List Value). map (set_in) parts.sets.things ++ it ∷ []) alike))

  pub table_changes : (id : ℕ) {one : Entries} {value : Table} → IsSoundTable (extent_in parts) one → table_in (extent_in parts) one ≡ value
      → Becomes parts (record parts { tables = with_other parts.tables id one; cells = sum })
      (with_table id value (with_cells sum (heap_over (extent_in parts) parts)))
  table_changes id {one} {value} sound alike =
      let size : length (slice_set parts.tables.things id one) ≡ length parts.tables.things = length-set parts.tables.things id one in
      let charged : IsCharged parts = is.charged in
      becomes (record {
        texts = texts_stay parts.strings;
        lists = same_set _;
        sets = same_set _;
        tables = same_set _;
        records = same_set _;
        coexps = le_refl _;
        files = le_refl _;
      })
      (record {
        lists = lists_more;
        sets = is.structures.sets;
        tables = all_other (IsSoundTable (extent_in parts)) parts.tables.held parts.tables.things id one sound is.structures.tables;
        records = is.structures.records;
        made_lists = is.structures.made_lists;
        made_sets = is.structures.made_sets;
        made_tables = made_other (extent_in parts) table_vals parts.tables is.structures.made_tables id one (table_made (extent_in parts) one sound);
        made_records = is.structures.made_records;
        coexps = is.structures.coexps;
        files = is.structures.files;
      })
      (record { limit = charged.limit; within = within; counted = (let few = charged.counted in omega arith); main = charged.main })
      (ap (λ structures. let heap : Heap = record (with_cells sum (heap_over (extent_in parts) parts)) { tables = structures } in heap)
      (map-set (table_in (extent_in parts)) parts.tables.things id one ∙ ap (slice_set (map (table_in (extent_in parts)) parts.tables.things) id) alike))

  -- a table joins the heap
  pub table_joins : {one : Entries} {value : Table} → parts.cells + 1 ≤ sum → IsSoundTable (extent_in parts) one → table_in (extent_in parts) one ≡ value
      → Becomes parts (record parts { tables = with_new parts.tables one; cells = sum })
      (let heap : Heap = record (with_cells sum (heap_over (extent_in parts) parts))
      { tables = map (table_in (extent_in parts)) parts.tables.things ++ value ∷ [] } in
      heap)
  table_joins {one} {value} paid sound alike =
      let size : length (parts.tables.things ++ one ∷ []) ≡ length parts.tables.things + 1 = length-append parts.tables.things (one ∷ []) in
      let charged : IsCharged parts = is.charged in
      becomes (record {
        texts = texts_stay parts.strings;
        lists = same_set _;
        sets = same_set _;
        tables = more_set _;
        records = same_set _;
        coexps = le_refl _;
        files = le_refl _;
      })
      (record {
        lists = lists_more;
        sets = is.structures.sets;
        tables = all_new (IsSoundTable (extent_in parts)) parts.tables.held parts.tables.things one is.structures.made_tables.long is.structures.tables sound;
        records = is.structures.records;
        made_lists = is.structures.made_lists;
        made_sets = is.structures.made_sets;
        made_tables = made_new (extent_in parts) table_vals parts.tables is.structures.made_tables one (table_made (extent_in parts) one sound);
        made_records = is.structures.made_records;
        coexps = is.structures.coexps;
        files = is.structures.files;
      })
      (record { limit = charged.limit; within = within; counted = (let few = charged.counted in omega arith); main = charged.main })
      (ap (λ structures. let heap : Heap = record (with_cells sum (heap_over (extent_in parts) parts)) { tables = structures } in heap)
      (map-append (table_in (extent_in parts)) parts.tables.things (one ∷ [])
      ∙ ap (λ (it : Table). map (table_in (extent_in parts)) parts.tables.things ++ it ∷ []) alike))

  pub record_changes : (id : ℕ) {one : HeldRecord} {value : Record} → IsSoundRecord (extent_in parts) one → record_in (extent_in parts) one ≡ value
      → Becomes parts (record parts { records = with_other parts.records id one; cells = sum })
      (with_record id value (with_cells sum (heap_over (extent_in parts) parts)))
  record_changes id {one} {value} sound alike =
      let size : length (slice_set parts.records.things id one) ≡ length parts.records.things = length-set parts.records.things id one in
      let charged : IsCharged parts = is.charged in
      becomes (record {
        texts = texts_stay parts.strings;
        lists = same_set _;
        sets = same_set _;
        tables = same_set _;
        records = same_set _;
        coexps = le_refl _;
        files = le_refl _;
      })
      (record {
        lists = lists_more;
        sets = is.structures.sets;
        tables = is.structures.tables;
        records = all_other (IsSoundRecord (extent_in parts)) parts.records.held parts.records.things id one sound is.structures.records;
        made_lists = is.structures.made_lists;
        made_sets = is.structures.made_sets;
        made_tables = is.structures.made_tables;
        made_records = made_other (extent_in parts) record_vals parts.records is.structures.made_records id one (record_made (extent_in parts) one sound);
        coexps = is.structures.coexps;
        files = is.structures.files;
      })
      (record { limit = charged.limit; within = within; counted = (let few = charged.counted in omega arith); main = charged.main })
      (ap (λ structures. let heap : Heap = record (with_cells sum (heap_over (extent_in parts) parts)) { records = structures } in heap)
      (map-set (record_in (extent_in parts)) parts.records.things id one ∙ ap (slice_set (map (record_in (extent_in parts)) parts.records.things) id) alike))

  pub record_joins : {one : HeldRecord} {value : Record} → parts.cells + 1 ≤ sum → IsSoundRecord (extent_in parts) one → record_in (extent_in parts) one ≡ value
      → Becomes parts (record parts { records = with_new parts.records one; cells = sum })
      (let heap : Heap =
      record (with_cells sum (heap_over (extent_in parts) parts)) { records = map (record_in (extent_in parts)) parts.records.things ++ value ∷ [] } in heap)
  record_joins {one} {value} paid sound alike =
      let size : length (parts.records.things ++ one ∷ []) ≡ length parts.records.things + 1 = length-append parts.records.things (one ∷ []) in
      let charged : IsCharged parts = is.charged in
      becomes (record {
        texts = texts_stay parts.strings;
        lists = same_set _;
        sets = same_set _;
        tables = same_set _;
        records = more_set _;
        coexps = le_refl _;
        files = le_refl _;
      })
      (record {
        lists = lists_more;
        sets = is.structures.sets;
        tables = is.structures.tables;
        records =
            all_new (IsSoundRecord (extent_in parts)) parts.records.held parts.records.things one is.structures.made_records.long is.structures.records sound;
        made_lists = is.structures.made_lists;
        made_sets = is.structures.made_sets;
        made_tables = is.structures.made_tables;
        made_records = made_new (extent_in parts) record_vals parts.records is.structures.made_records one (record_made (extent_in parts) one sound);
        coexps = is.structures.coexps;
        files = is.structures.files;
      })
      (record { limit = charged.limit; within = within; counted = (let few = charged.counted in omega arith); main = charged.main })
      (ap (λ structures. let heap : Heap = record (with_cells sum (heap_over (extent_in parts) parts)) { records = structures } in heap)
      (map-append (record_in (extent_in parts)) parts.records.things (one ∷ [])
      ∙ ap (λ (it : Record). map (record_in (extent_in parts)) parts.records.things ++ it ∷ []) alike))

  pub coexp_joins : parts.cells + 1 ≤ sum
      → Becomes parts (record parts { coexps = parts.coexps ++ 0 ∷ []; cells = sum }) (having_coexp (with_cells sum (heap_over (extent_in parts) parts)))
  coexp_joins paid =
      let size : length (parts.coexps ++ 0 ∷ []) ≡ length parts.coexps + 1 = length-append parts.coexps (0 ∷ []) in
      let charged : IsCharged parts = is.charged in
      becomes (record {
        texts = texts_stay parts.strings;
        lists = same_set _;
        sets = same_set _;
        tables = same_set _;
        records = same_set _;
        coexps = omega arith;
        files = le_refl _;
      })
      (record {
        lists = lists_more;
        sets = is.structures.sets;
        tables = is.structures.tables;
        records = is.structures.records;
        made_lists = is.structures.made_lists;
        made_sets = is.structures.made_sets;
        made_tables = is.structures.made_tables;
        made_records = is.structures.made_records;
        coexps = All-push (λ count. count < 2 ^ 63) parts.coexps 0 is.structures.coexps (omega arith);
        files = is.structures.files;
      })
      (record { limit = charged.limit; within = within; counted = (let few = charged.counted in omega arith); main = (let some = charged.main in omega arith) })
      refl

pub coexp_counts : (parts : Parts) → IsSoundHeap parts → (id : ℕ) → slice_index parts.coexps id < 9223372036854775807
    → Becomes parts (record parts { coexps = slice_set parts.coexps id (slice_index parts.coexps id + 1) }) (with_result id (heap_over (extent_in parts) parts))
coexp_counts parts is id few =
    let size : length (slice_set parts.coexps id (slice_index parts.coexps id + 1)) ≡ length parts.coexps = length-set parts.coexps id _ in
    let charged : IsCharged parts = is.charged in
    becomes (record {
      texts = texts_stay parts.strings;
      lists = same_set _;
      sets = same_set _;
      tables = same_set _;
      records = same_set _;
      coexps = omega arith;
      files = le_refl _;
    })
    (record {
      lists = is.structures.lists;
      sets = is.structures.sets;
      tables = is.structures.tables;
      records = is.structures.records;
      made_lists = is.structures.made_lists;
      made_sets = is.structures.made_sets;
      made_tables = is.structures.made_tables;
      made_records = is.structures.made_records;
      coexps = All-set (λ count. count < 2 ^ 63) parts.coexps id (slice_index parts.coexps id + 1) (omega arith) is.structures.coexps;
      files = is.structures.files;
    })
    (record {
      limit = charged.limit;
      within = charged.within;
      counted = (let few = charged.counted in omega arith);
      main = (let some = charged.main in omega arith);
    })
    refl

-- Sets: a member is found, joins and leaves

module _ (parts : Parts) (is : IsSoundHeap parts) (id : ℕ) (there : IsSet parts.sets.held id) where
  pub members_sound : All (IsSoundMember (extent_in parts)) (slice_index_or parts.sets.things id [])
  members_sound =
      let within = set_below parts.sets.held id there in
      let long = is.structures.made_sets.long in
      at_there (All (IsSoundMember (extent_in parts))) parts.sets.held parts.sets.things id [] there (omega (arith, within, long)) is.structures.sets

  pub has_key_is : (key : Key) → IsKey key
      → is_some (value_of key_eq (slice_index_or parts.sets.things id []) key) ≡ has_value (set_at (heap_over (extent_in parts) parts) id) (key_value key)
  has_key_is key formed =
      member_found (extent_in parts) key formed (slice_index_or parts.sets.things id []) members_sound
      ∙ ap (λ members. has_value members (key_value key)) (sym (set_view (extent_in parts) parts id))

  pub member_adds : {sum : ℕ} → parts.cells ≤ sum → sum ≤ parts.limits.cells → (key : Key) (val : Val) → IsKey key → IsLive (extent_in parts) val
      → key_value key ≡ value_in (extent_in parts) val
      → has_value (set_at (heap_over (extent_in parts) parts) id) (key_value key) ≡ false
      → Becomes parts (record parts { sets = with_other parts.sets id (with_value_of key_eq (slice_index_or parts.sets.things id []) key val); cells = sum })
      (having_member id (value_in (extent_in parts) val) (with_cells sum (heap_over (extent_in parts) parts)))
  member_adds {sum} more within key val formed live alike none =
      let members : List (Key × Val) = slice_index_or parts.sets.things id [] in
      let joined : with_value_of key_eq members key val ≡ members ++ (key, val) ∷ [] = stored_new key_eq members key val (has_key_is key formed ∙ none) in
      set_changes parts is more within id (with_value_of key_eq members key val)
      (rw joined (All-push (IsSoundMember (extent_in parts)) members (key, val) members_sound
      (record { live = live; formed = formed; alike = rw alike (same_self (value_in (extent_in parts) val)) })))
      (ap (map member_in) joined ∙ (map-append member_in members ((key, val) ∷ [])
      ∙ (ap (λ (rest : List Value). rest ++ key_value key ∷ []) (sym (set_view (extent_in parts) parts id))
      ∙ (sym (as_new (set_at (heap_over (extent_in parts) parts) id) (key_value key) none)
      ∙ ap (with_member (set_at (heap_over (extent_in parts) parts) id)) alike))))
    where
      as_new : (members : List Value) (value : Value) → has_value members value ≡ false → with_member members value ≡ members ++ value ∷ []
      as_new members value none = rw none refl

  pub member_leaves : (key : Key) → IsKey key → KeysDiffer key_eq (slice_index_or parts.sets.things id [])
      → Becomes parts (record parts { sets = with_other parts.sets id (without key_eq (slice_index_or parts.sets.things id []) key) })
      (with_set id (filter (λ member. not (same (key_value key) member)) (set_at (heap_over (extent_in parts) parts) id)) (heap_over (extent_in parts) parts))
  member_leaves key formed differ =
      set_changes parts is (le_refl _) is.charged.within id (without key_eq (slice_index_or parts.sets.things id []) key)
      (all_without (IsSoundMember (extent_in parts)) (key_eq key) (slice_index_or parts.sets.things id []) members_sound)
      (member_removed (extent_in parts) key formed (slice_index_or parts.sets.things id []) members_sound differ
      ∙ ap (λ members. filter (λ member. not (same (key_value key) member)) members) (sym (set_view (extent_in parts) parts id)))

  pub member_live : (place : ℕ) → IfSome (option_map member_val (slice_get (slice_index_or parts.sets.things id []) place)) (IsLive (extent_in parts))
  member_live place = by_place (slice_get (slice_index_or parts.sets.things id []) place)
      (get_live (IsSoundMember (extent_in parts)) (slice_index_or parts.sets.things id []) place members_sound)
    where
      by_place : (found : Option (Key × Val)) → IfSome found (IsSoundMember (extent_in parts)) → IfSome (option_map member_val found) (IsLive (extent_in parts))
      by_place None is = tt
      by_place (Some member) is = is.live

  pub member_is : (place : ℕ) → option_map (value_in (extent_in parts)) (option_map member_val (slice_get (slice_index_or parts.sets.things id []) place))
      ≡ slice_get (set_at (heap_over (extent_in parts) parts) id) place
  member_is place =
      by_place (slice_get (slice_index_or parts.sets.things id []) place)
      (get_live (IsSoundMember (extent_in parts)) (slice_index_or parts.sets.things id []) place members_sound)
      ∙ (sym (slice_get-map member_in (slice_index_or parts.sets.things id []) place)
      ∙ ap (λ (members : List Value). slice_get members place) (sym (set_view (extent_in parts) parts id)))
    where
      by_place : (found : Option (Key × Val)) → IfSome found (IsSoundMember (extent_in parts))
          → option_map (value_in (extent_in parts)) (option_map member_val found) ≡ option_map member_in found
      by_place None is = refl
      by_place (Some member) is = ap Some (sym (same_is (key_value member.0) (value_in (extent_in parts) member.1) is.alike))

-- a member that is there is not added
pub member_there : (heap : Heap) (id : ℕ) (value : Value) → has_value (set_at heap id) value ≡ true → added_in heap id value ≡ Ok heap
member_there heap id value there =
    let members : with_member (set_at heap id) value ≡ set_at heap id = as_old (set_at heap id) there in
    let sets : slice_set heap.sets id (set_at heap id) ≡ heap.sets = ap (slice_set heap.sets id) (unwrap_or-slice_get heap.sets id [])
    ∙ set-get_or heap.sets id [] in
    ap (λ b. and_then (charged_unless b heap) (λ paid. let r : Result Heap Full = Ok (having_member id value paid) in r)) there
    ∙ ap Ok (ap (λ one. with_set id one heap) members ∙ ap (λ sets. let h : Heap = record heap { sets = sets } in h) sets)
  where
    as_old : (members : List Value) → has_value members value ≡ true → with_member members value ≡ members
    as_old members there = rw there refl

-- Tables: a value is found, stored and removed

pub table_view : (all : Extent) (parts : Parts) (id : ℕ) → table_at (heap_over all parts) id ≡ table_in all (slice_index_or parts.tables.things id no_entries)
table_view all parts id = at_view (table_in all) parts.tables.things id no_entries

module _ (parts : Parts) (is : IsSoundHeap parts) (id : ℕ) (there : IsSet parts.tables.held id) where
  pub table_sound : IsSoundTable (extent_in parts) (slice_index_or parts.tables.things id no_entries)
  table_sound =
      let within = set_below parts.tables.held id there in
      let long = is.structures.made_tables.long in
      at_there (IsSoundTable (extent_in parts)) parts.tables.held parts.tables.things id no_entries there (omega (arith, within, long)) is.structures.tables

  pub looked_is : (key : Key) → IsKey key
      → option_map (value_in (extent_in parts)) (option_map entry_value (value_of key_eq (slice_index_or parts.tables.things id no_entries).pairs key))
      ≡ value_at_key (heap_over (extent_in parts) parts) id (key_value key)
  looked_is key formed =
      value_found (extent_in parts) key formed (slice_index_or parts.tables.things id no_entries).pairs table_sound.pairs
      ∙ ap (λ (table : Table). value_of same table.pairs (key_value key)) (sym (table_view (extent_in parts) parts id))

  pub looked_live : (key : Key) → IsKey key
      → IfSome (option_map entry_value (value_of key_eq (slice_index_or parts.tables.things id no_entries).pairs key)) (IsLive (extent_in parts))
  looked_live key formed = found_live (extent_in parts) key formed (slice_index_or parts.tables.things id no_entries).pairs table_sound.pairs

  pub looked_found : (key : Key) → IsKey key → is_some (value_of key_eq (slice_index_or parts.tables.things id no_entries).pairs key)
      ≡ is_some (value_at_key (heap_over (extent_in parts) parts) id (key_value key))
  looked_found key formed =
      sym (is_some_map entry_value (value_of key_eq (slice_index_or parts.tables.things id no_entries).pairs key))
      ∙ (sym (is_some_map (value_in (extent_in parts)) _) ∙ ap is_some (looked_is key formed))

  pub pair_stores : {sum : ℕ} → parts.cells ≤ sum → sum ≤ parts.limits.cells → (key : Key) (entry : Entry) → IsKey key
      → IsLive (extent_in parts) entry.key → IsLive (extent_in parts) entry.value → key_value key ≡ value_in (extent_in parts) entry.key
      → Becomes parts (record parts
      { tables = with_other parts.tables id (table_with (slice_index_or parts.tables.things id no_entries) key entry); cells = sum })
      (with_pair id (value_in (extent_in parts) entry.key) (value_in (extent_in parts) entry.value) (with_cells sum (heap_over (extent_in parts) parts)))
  pair_stores {sum} more within key entry formed live live' alike =
      let table : Entries = slice_index_or parts.tables.things id no_entries in
      table_changes parts is more within id
      (record { default = table_sound.default; pairs = stored_sound (extent_in parts) key formed table.pairs table_sound.pairs entry live live' alike })
      (ap (λ pairs. let t : Table = record { default = value_in (extent_in parts) table.default; pairs = pairs } in t)
      (pair_stored (extent_in parts) key formed table.pairs table_sound.pairs entry
      ∙ ap (λ k. with_value_of same (map (pair_in (extent_in parts)) table.pairs) k (value_in (extent_in parts) entry.value)) alike)
      ∙ ap (λ (t : Table). let u : Table =
      record { default = t.default; pairs = with_value_of same t.pairs (value_in (extent_in parts) entry.key) (value_in (extent_in parts) entry.value) } in u)
      (sym (table_view (extent_in parts) parts id)))

  pub pair_leaves : (key : Key) → IsKey key
      → Becomes parts (record parts { tables = with_other parts.tables id (table_without (slice_index_or parts.tables.things id no_entries) key) })
      (with_table id (record (table_at (heap_over (extent_in parts) parts)
      id) { pairs = without same (table_at (heap_over (extent_in parts) parts) id).pairs (key_value key) }) (heap_over (extent_in parts) parts))
  pair_leaves key formed =
      let table : Entries = slice_index_or parts.tables.things id no_entries in
      table_changes parts is (le_refl _) is.charged.within id
      (record { default = table_sound.default; pairs = all_without (IsSoundPair (extent_in parts)) (key_eq key) table.pairs table_sound.pairs })
      (ap (λ pairs. let t : Table = record { default = value_in (extent_in parts) table.default; pairs = pairs } in t)
      (pair_removed (extent_in parts) key formed table.pairs table_sound.pairs)
      ∙ ap (λ (t : Table). let u : Table = record { default = t.default; pairs = without same t.pairs (key_value key) } in u)
      (sym (table_view (extent_in parts) parts id)))

  pub default_is : value_in (extent_in parts) (slice_index_or parts.tables.things id no_entries).default
      ≡ (table_at (heap_over (extent_in parts) parts) id).default
  default_is = sym (ap (λ (t : Table). t.default) (table_view (extent_in parts) parts id))

  pub pair_is : (place : ℕ) → option_map (values_in (extent_in parts))
      (option_map entry_vals (option_map entry_of (slice_get (slice_index_or parts.tables.things id no_entries).pairs place)))
      ≡ slice_get (table_at (heap_over (extent_in parts) parts) id).pairs place
  pair_is place =
      by_place (slice_get (slice_index_or parts.tables.things id no_entries).pairs place)
      (get_live (IsSoundPair (extent_in parts)) (slice_index_or parts.tables.things id no_entries).pairs place table_sound.pairs)
      ∙ (sym (slice_get-map (pair_in (extent_in parts)) (slice_index_or parts.tables.things id no_entries).pairs place)
      ∙ ap (λ (t : Table). slice_get t.pairs place) (sym (table_view (extent_in parts) parts id)))
    where
      by_place : (found : Option (Key × Entry)) → IfSome found (IsSoundPair (extent_in parts))
          → option_map (values_in (extent_in parts)) (option_map entry_vals (option_map entry_of found)) ≡ option_map (pair_in (extent_in parts)) found
      by_place None is = refl
      by_place (Some pair) is =
          ap (λ (k : Value). let o : Option (Value × Value) = Some (k, value_in (extent_in parts) pair.1.value) in o)
          (sym (same_is (key_value pair.0) (value_in (extent_in parts) pair.1.key) is.alike))

  pub key_live : (place : ℕ) → IfSome (option_map entry_vals (option_map entry_of (slice_get (slice_index_or parts.tables.things id no_entries).pairs place)))
      (λ pair. IsLive (extent_in parts) pair.0)
  key_live place =
      by_place (slice_get (slice_index_or parts.tables.things id no_entries).pairs place)
      (get_live (IsSoundPair (extent_in parts)) (slice_index_or parts.tables.things id no_entries).pairs place table_sound.pairs)
    where
      by_place : (found : Option (Key × Entry)) → IfSome found (IsSoundPair (extent_in parts))
          → IfSome (option_map entry_vals (option_map entry_of found)) (λ pair. IsLive (extent_in parts) pair.0)
      by_place None is = tt
      by_place (Some pair) is = is.key

  pub value_live : (place : ℕ) → IfSome (option_map entry_vals (option_map entry_of (slice_get (slice_index_or parts.tables.things id no_entries).pairs place)))
      (λ pair. IsLive (extent_in parts) pair.1)
  value_live place =
      by_place (slice_get (slice_index_or parts.tables.things id no_entries).pairs place)
      (get_live (IsSoundPair (extent_in parts)) (slice_index_or parts.tables.things id no_entries).pairs place table_sound.pairs)
    where
      by_place : (found : Option (Key × Entry)) → IfSome found (IsSoundPair (extent_in parts))
          → IfSome (option_map entry_vals (option_map entry_of found)) (λ pair. IsLive (extent_in parts) pair.1)
      by_place None is = tt
      by_place (Some pair) is = is.value

-- Records: a field is found and set

pub record_view : (all : Extent) (parts : Parts) (id : ℕ) → record_at (heap_over all parts) id
    ≡ record_in all (slice_index_or parts.records.things id no_fields)
record_view all parts id = at_view (record_in all) parts.records.things id no_fields

module _ (parts : Parts) (is : IsSoundHeap parts) (id : ℕ) (there : IsSet parts.records.held id) where
  pub record_sound : IsSoundRecord (extent_in parts) (slice_index_or parts.records.things id no_fields)
  record_sound =
      let within = set_below parts.records.held id there in
      let long = is.structures.made_records.long in
      at_there (IsSoundRecord (extent_in parts)) parts.records.held parts.records.things id no_fields there (omega (arith, within, long)) is.structures.records

  pub fields_are : map (value_in (extent_in parts)) (slice_index_or parts.records.things id no_fields).values
      ≡ (record_at (heap_over (extent_in parts) parts) id).fields
  fields_are = sym (ap (λ (r : Record). r.fields) (record_view (extent_in parts) parts id))

  pub field_count : length (slice_index_or parts.records.things id no_fields).values ≡ length (record_at (heap_over (extent_in parts) parts) id).fields
  field_count = sym (ap length (sym fields_are) ∙ (rw length-map refl))

  pub kind_is : (slice_index_or parts.records.things id no_fields).kind ≡ (record_at (heap_over (extent_in parts) parts) id).kind
  kind_is = sym (ap (λ (r : Record). r.kind) (record_view (extent_in parts) parts id))

  pub field_is : (place : ℕ) → value_in (extent_in parts) (slice_index_or (slice_index_or parts.records.things id no_fields).values place NullVal)
      ≡ value_at (record_at (heap_over (extent_in parts) parts) id).fields place
  field_is place = sym (at_view (value_in (extent_in parts)) (slice_index_or parts.records.things id no_fields).values place NullVal)
      ∙ ap (λ fields. value_at fields place) fields_are

  pub field_live : (place : ℕ) → place < length (slice_index_or parts.records.things id no_fields).values
      → IsLive (extent_in parts) (slice_index_or (slice_index_or parts.records.things id no_fields).values place NullVal)
  field_live place few = record_sound.live place NullVal few

  pub field_changes : (place : ℕ) (val : Val) → IsLive (extent_in parts) val
      → Becomes parts (record parts {
        records = with_other parts.records id
            (held_record (slice_index_or parts.records.things id no_fields).kind
            (slice_set (slice_index_or parts.records.things id no_fields).values place val));
      })
      (with_field id place (value_in (extent_in parts) val) (heap_over (extent_in parts) parts))
  field_changes place val live =
      record_changes parts is (le_refl _) is.charged.within id
      (record {
        live = All-set (IsLive (extent_in parts)) (slice_index_or parts.records.things id no_fields).values place val live record_sound.live;
        few = rw (length-set (slice_index_or parts.records.things id no_fields).values place val) record_sound.few;
      })
      (ap (λ fields. let r : Record = record { kind = (slice_index_or parts.records.things id no_fields).kind; fields = fields } in r)
      (map-set (value_in (extent_in parts)) (slice_index_or parts.records.things id no_fields).values place val)
      ∙ ap (λ (r : Record). let q : Record = record { kind = r.kind; fields = slice_set r.fields place (value_in (extent_in parts) val) } in q)
      (sym (record_view (extent_in parts) parts id)))

-- Texts

-- texts join the region
pub texts_join : (parts : Parts) → IsSoundHeap parts → (strings : Region) → KeepsTexts parts.strings strings
    → Becomes parts (record parts { strings = strings }) (let heap : Heap = record (heap_over (extent_in parts) parts) { strings = sum_of strings } in heap)
texts_join parts is strings texts =
    let charged : IsCharged parts = is.charged in
    becomes (record {
      texts = texts;
      lists = same_set _;
      sets = same_set _;
      tables = same_set _;
      records = same_set _;
      coexps = le_refl _;
      files = le_refl _;
    })
    (record {
      lists = is.structures.lists;
      sets = is.structures.sets;
      tables = is.structures.tables;
      records = is.structures.records;
      made_lists = is.structures.made_lists;
      made_sets = is.structures.made_sets;
      made_tables = is.structures.made_tables;
      made_records = is.structures.made_records;
      coexps = is.structures.coexps;
      files = is.structures.files;
    })
    (record { limit = texts.limit ∙ charged.limit; within = charged.within; counted = charged.counted; main = charged.main })
    refl

-- How many elements there are

pub items_count : (all : Extent) (list : NumberedList Val) {values : NumberedList Value} → list_in all list ≡ values → length list.items ≡ length values.items
items_count all list same = sym (rw length-map refl) ∙ ap (λ (it : NumberedList Value). length it.items) same

pub members_count : (parts : Parts) (id : ℕ) → length (slice_index_or parts.sets.things id []) ≡ length (set_at (heap_over (extent_in parts) parts) id)
members_count parts id = sym (ap length (set_view (extent_in parts) parts id) ∙ (rw length-map refl))

pub pairs_count : (parts : Parts) (id : ℕ)
    → length (slice_index_or parts.tables.things id no_entries).pairs ≡ length (table_at (heap_over (extent_in parts) parts) id).pairs
pairs_count parts id = sym (ap (λ (t : Table). length t.pairs) (table_view (extent_in parts) parts id) ∙ (rw length-map refl))
