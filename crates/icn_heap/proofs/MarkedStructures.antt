-- Structures that are marked one after the other, and what is left of a heap.
use Rattle.std.proofs.Common.{◌≡◌, ◌∙◌, ◌⊎◌, inl, inr, refl, sym, ap, subst, ℕ, zero, suc, ◌+◌, ◌<◌, Bool, true, false, not, ◌&&◌, None, Some, List, [], ◌∷◌, ◌++◌, length, set, get_or, if◌then◌else◌, append-nil, arith}
use Rattle.std.specs.List.{All, Contains, flat_map}
use Rattle.std.proofs.lemmas.List.{length-map, length-set}
use Rattle.std.proofs.lemmas.List.Concat.{flat_map-cons}
use Rattle.std.proofs.lemmas.List.Elements.{All-contains, All-head, All-nil, All-weaker, Contains-get_or, Contains-push_cases}
use Rattle.std.proofs.lemmas.List.Sums.{sum_by-append}
use Rattle.icn_strings.specs.Ranges.{total_length}
use Rattle.icn_strings.specs.Regions.{IsOf}
use Rattle.icn_structs.specs.Shelves.{IsSet, all_unset, those_set, with_mark}
use Rattle.icn_structs.proofs.ShelvedThings.{set_below}
use Rattle.icn_value.specs.declared.val.Val.{Val}
use Rattle.icn_value.specs.declared.val.Val.TheVariants.{Null as NullVal, Integer as IntegerVal, Text as TextVal, Chars as CharsVal, Std as StdVal, Proc as ProcVal, Rec as RecVal, List as ListVal, Set as SetVal, Table as TableVal, Coexp as CoexpVal}
use Rattle.icn_heap.specs.declared.needed_values.NeededValues.{NeededValues}
use Rattle.icn_heap.specs.ElementValues.{list_vals, set_vals, table_vals, record_vals}
use Rattle.icn_heap.specs.Extents.{IsLive, range_of}
use Rattle.icn_heap.specs.HeapParts.{Parts, extent_in, no_entries, no_vals, IsSoundHeap}
use Rattle.icn_heap.specs.NeededValues.{held_vals, length_of_val, length_of_vals, needed_length, AreNeeded, AreOfHeap, IsNeeded}
use Rattle.icn_heap.specs.Records.{no_fields}
use Rattle.icn_heap.specs.MarkedStructures.{StructureMarks, MarkedBy, ToStayBy, AreLong, AreAllReached, AreReached, IsReachedFrom, HoldsToStay, IsToStay, IsTakenOut, held_anew, is_new_mark, is_structure, is_unmarked, no_marks, vals_of, with_marked, with_marks}
use Rattle.icn_heap.proofs.HeldElements.{set_live, table_live}
use Rattle.icn_heap.proofs.ListChanges.{list_sound}
use Rattle.icn_heap.proofs.NeededSteps.{all_behind, all_front}
use Rattle.icn_heap.proofs.OtherChanges.{members_sound, record_sound, table_sound}

-- Flags

set_same : (flags : List Bool) (id : ℕ) → id < length flags → IsSet (set flags id true) id
set_same [] id within = absurd (omega (arith, within))
set_same (flag ∷ flags) zero within = refl
set_same (flag ∷ flags) (suc id) within = set_same flags id (omega (arith, within))

set_still : (flags : List Bool) (id other : ℕ) → IsSet flags other → IsSet (set flags id true) other
set_still [] id other is = is
set_still (flag ∷ flags) zero zero is = refl
set_still (flag ∷ flags) zero (suc other) is = is
set_still (flag ∷ flags) (suc id) zero is = is
set_still (flag ∷ flags) (suc id) (suc other) is = set_still flags id other is

set_back : (flags : List Bool) (id other : ℕ) → IsSet (set flags id true) other → IsSet flags other ⊎ (other ≡ id)
set_back [] id other is = inl is
set_back (flag ∷ flags) zero zero is = inr refl
set_back (flag ∷ flags) zero (suc other) is = inl is
set_back (flag ∷ flags) (suc id) zero is = inl is
set_back (flag ∷ flags) (suc id) (suc other) is = elim (set_back flags id other is) [ inl was ↦ inl was | inr same ↦ inr (ap suc same) ]

-- no flag of those is set
none_set : (flags : List Bool) (id : ℕ) → IsSet (all_unset flags) id → ⊥
none_set [] id is = grind (arith, is)
none_set (flag ∷ flags) zero is = grind (arith, is)
none_set (flag ∷ flags) (suc id) is = none_set flags id is

set_again : (flags : List Bool) (id : ℕ) → IsSet flags id → set flags id true ≡ flags
set_again [] id is = refl
set_again (flag ∷ flags) zero is = ap (λ first. first ∷ flags) (sym is)
set_again (flag ∷ flags) (suc id) is = ap (λ rest. flag ∷ rest) (set_again flags id is)

those_unset : {X : Type 0} (flags : List Bool) (xs : List X) → those_set (all_unset flags) xs ≡ []
those_unset flags [] = refl
those_unset [] (x ∷ xs) = refl
those_unset (flag ∷ flags) (x ∷ xs) = those_unset flags xs

-- the texts of one more of some structures
weigh_more : {X : Type 0} (f : X → List Val) (flags : List Bool) (xs : List X) (id : ℕ) (d : X) → get_or flags id false ≡ false → id < length flags
    → id < length xs
    → length_of_vals (flat_map f (those_set (set flags id true) xs)) ≡ length_of_vals (flat_map f (those_set flags xs)) + length_of_vals (f (get_or xs id d))
weigh_more f [] xs id d off within below = absurd (omega (arith, within))
weigh_more f (flag ∷ flags) [] id d off within below = absurd (omega (arith, below))
weigh_more f (true ∷ flags) (x ∷ xs) zero d off within below = absurd (grind (arith, off))
weigh_more f (false ∷ flags) (x ∷ xs) zero d off within below =
    let whole = ap length_of_vals (flat_map-cons f x (those_set flags xs)) in
    let sum = sum_by-append length_of_val (f x) (flat_map f (those_set flags xs)) in
    omega (arith, whole, sum)
weigh_more f (true ∷ flags) (x ∷ xs) (suc id) d off within below =
    let rest = weigh_more f flags xs id d off (omega (arith, within)) (omega (arith, below)) in
    let after = ap length_of_vals (flat_map-cons f x (those_set (set flags id true) xs)) in
    let after_sum = sum_by-append length_of_val (f x) (flat_map f (those_set (set flags id true) xs)) in
    let before = ap length_of_vals (flat_map-cons f x (those_set flags xs)) in
    let before_sum = sum_by-append length_of_val (f x) (flat_map f (those_set flags xs)) in
    omega (arith, rest, after, after_sum, before, before_sum)
weigh_more f (false ∷ flags) (x ∷ xs) (suc id) d off within below =
    weigh_more f flags xs id d off (omega (arith, within)) (omega (arith, below))

module _ (held marks : List Bool) (id : ℕ) where
  mark_more : (other : ℕ) → IsSet marks other → IsSet (with_mark held marks id) other
  mark_more other is = by_test (get_or held id false)
    where
      by_test : (b : Bool) → IsSet (if b then set marks id true else marks) other
      by_test true = set_still marks id other is
      by_test false = is

  mark_back : (other : ℕ) → IsSet (with_mark held marks id) other → IsSet marks other ⊎ ((other ≡ id) × IsSet held id)
  mark_back other is = by_test (get_or held id false) refl is
    where
      by_test : (b : Bool) → get_or held id false ≡ b → IsSet (if b then set marks id true else marks) other
          → IsSet marks other ⊎ ((other ≡ id) × IsSet held id)
      by_test true there is = elim (set_back marks id other is) [ inl was ↦ inl was | inr same ↦ inr (same, there) ]
      by_test false there is = inl is

  mark_set : length marks ≡ length held → IsSet held id → IsSet (with_mark held marks id) id
  mark_set long there =
      let below = set_below held id there in
      subst (λ b. IsSet (if b then set marks id true else marks) id) (sym there) (set_same marks id (omega (arith, below, long)))

  mark_long : length (with_mark held marks id) ≡ length marks
  mark_long = by_test (get_or held id false)
    where
      by_test : (b : Bool) → length (if b then set marks id true else marks) ≡ length marks
      by_test true = length-set marks id true
      by_test false = refl

-- what is new is there, and was not marked; what is not new and there was marked

not_marked : (a b : Bool) → (a && not b) ≡ true → b ≡ false
not_marked true true is = absurd (grind (arith, is))
not_marked true false is = refl
not_marked false b is = absurd (grind (arith, is))

new_there : (a b : Bool) → (a && not b) ≡ true → a ≡ true
new_there true b is = refl
new_there false b is = absurd (grind (arith, is))

was_marked : (a b : Bool) → (a && not b) ≡ false → a ≡ true → b ≡ true
was_marked true true is there = refl
was_marked true false is there = absurd (grind (arith, is))
was_marked false b is there = absurd (grind (arith, there))

-- a mark that changes nothing, and one that does

mark_same : (held marks : List Bool) (id : ℕ) → is_new_mark held marks id ≡ false → with_mark held marks id ≡ marks
mark_same held marks id old = by_test (get_or held id false) refl
  where
    by_test : (b : Bool) → get_or held id false ≡ b → (if b then set marks id true else marks) ≡ marks
    by_test true there = set_again marks id (was_marked (get_or held id false) (get_or marks id false) old there)
    by_test false there = refl

mark_there : (held marks : List Bool) (id : ℕ) → IsSet held id → with_mark held marks id ≡ set marks id true
mark_there held marks id there = ap (λ b. if b then set marks id true else marks) there

-- One structure more

module _ (parts : Parts) (marks : StructureMarks) where
  still_marked : (val other : Val) → MarkedBy marks other → MarkedBy (with_marked parts marks val) other
  still_marked NullVal other is = is
  still_marked (IntegerVal n) other is = is
  still_marked (TextVal span) other is = is
  still_marked (CharsVal cset) other is = is
  still_marked (StdVal file) other is = is
  still_marked (ProcVal number) other is = is
  still_marked (RecVal id) NullVal is = tt
  still_marked (RecVal id) (IntegerVal n) is = tt
  still_marked (RecVal id) (TextVal span) is = tt
  still_marked (RecVal id) (CharsVal cset) is = tt
  still_marked (RecVal id) (StdVal file) is = tt
  still_marked (RecVal id) (ProcVal number) is = tt
  still_marked (RecVal id) (RecVal other) is = mark_more parts.records.held marks.records id other is
  still_marked (RecVal id) (ListVal other) is = is
  still_marked (RecVal id) (SetVal other) is = is
  still_marked (RecVal id) (TableVal other) is = is
  still_marked (RecVal id) (CoexpVal other) is = tt
  still_marked (ListVal id) NullVal is = tt
  still_marked (ListVal id) (IntegerVal n) is = tt
  still_marked (ListVal id) (TextVal span) is = tt
  still_marked (ListVal id) (CharsVal cset) is = tt
  still_marked (ListVal id) (StdVal file) is = tt
  still_marked (ListVal id) (ProcVal number) is = tt
  still_marked (ListVal id) (RecVal other) is = is
  still_marked (ListVal id) (ListVal other) is = mark_more parts.lists.held marks.lists id other is
  still_marked (ListVal id) (SetVal other) is = is
  still_marked (ListVal id) (TableVal other) is = is
  still_marked (ListVal id) (CoexpVal other) is = tt
  still_marked (SetVal id) NullVal is = tt
  still_marked (SetVal id) (IntegerVal n) is = tt
  still_marked (SetVal id) (TextVal span) is = tt
  still_marked (SetVal id) (CharsVal cset) is = tt
  still_marked (SetVal id) (StdVal file) is = tt
  still_marked (SetVal id) (ProcVal number) is = tt
  still_marked (SetVal id) (RecVal other) is = is
  still_marked (SetVal id) (ListVal other) is = is
  still_marked (SetVal id) (SetVal other) is = mark_more parts.sets.held marks.sets id other is
  still_marked (SetVal id) (TableVal other) is = is
  still_marked (SetVal id) (CoexpVal other) is = tt
  still_marked (TableVal id) NullVal is = tt
  still_marked (TableVal id) (IntegerVal n) is = tt
  still_marked (TableVal id) (TextVal span) is = tt
  still_marked (TableVal id) (CharsVal cset) is = tt
  still_marked (TableVal id) (StdVal file) is = tt
  still_marked (TableVal id) (ProcVal number) is = tt
  still_marked (TableVal id) (RecVal other) is = is
  still_marked (TableVal id) (ListVal other) is = is
  still_marked (TableVal id) (SetVal other) is = is
  still_marked (TableVal id) (TableVal other) is = mark_more parts.tables.held marks.tables id other is
  still_marked (TableVal id) (CoexpVal other) is = tt
  still_marked (CoexpVal id) other is = is

  -- what is marked then was marked, or is the structure, which is there
  marked_back : (val other : Val) → is_structure other ≡ true → MarkedBy (with_marked parts marks val) other
      → MarkedBy marks other ⊎ ((other ≡ val) × IsLive (extent_in parts) val)
  marked_back NullVal other structure is = inl is
  marked_back (IntegerVal n) other structure is = inl is
  marked_back (TextVal span) other structure is = inl is
  marked_back (CharsVal cset) other structure is = inl is
  marked_back (StdVal file) other structure is = inl is
  marked_back (ProcVal number) other structure is = inl is
  marked_back (RecVal id) NullVal structure is = absurd (grind (arith, structure))
  marked_back (RecVal id) (IntegerVal n) structure is = absurd (grind (arith, structure))
  marked_back (RecVal id) (TextVal span) structure is = absurd (grind (arith, structure))
  marked_back (RecVal id) (CharsVal cset) structure is = absurd (grind (arith, structure))
  marked_back (RecVal id) (StdVal file) structure is = absurd (grind (arith, structure))
  marked_back (RecVal id) (ProcVal number) structure is = absurd (grind (arith, structure))
  marked_back (RecVal id) (RecVal other) structure is =
      elim (mark_back parts.records.held marks.records id other is) [ inl was ↦ inl was | inr both ↦ inr (ap RecVal both.0, record { live = both.1 }) ]
  marked_back (RecVal id) (ListVal other) structure is = inl is
  marked_back (RecVal id) (SetVal other) structure is = inl is
  marked_back (RecVal id) (TableVal other) structure is = inl is
  marked_back (RecVal id) (CoexpVal other) structure is = absurd (grind (arith, structure))
  marked_back (ListVal id) NullVal structure is = absurd (grind (arith, structure))
  marked_back (ListVal id) (IntegerVal n) structure is = absurd (grind (arith, structure))
  marked_back (ListVal id) (TextVal span) structure is = absurd (grind (arith, structure))
  marked_back (ListVal id) (CharsVal cset) structure is = absurd (grind (arith, structure))
  marked_back (ListVal id) (StdVal file) structure is = absurd (grind (arith, structure))
  marked_back (ListVal id) (ProcVal number) structure is = absurd (grind (arith, structure))
  marked_back (ListVal id) (RecVal other) structure is = inl is
  marked_back (ListVal id) (ListVal other) structure is =
      elim (mark_back parts.lists.held marks.lists id other is) [ inl was ↦ inl was | inr both ↦ inr (ap ListVal both.0, record { live = both.1 }) ]
  marked_back (ListVal id) (SetVal other) structure is = inl is
  marked_back (ListVal id) (TableVal other) structure is = inl is
  marked_back (ListVal id) (CoexpVal other) structure is = absurd (grind (arith, structure))
  marked_back (SetVal id) NullVal structure is = absurd (grind (arith, structure))
  marked_back (SetVal id) (IntegerVal n) structure is = absurd (grind (arith, structure))
  marked_back (SetVal id) (TextVal span) structure is = absurd (grind (arith, structure))
  marked_back (SetVal id) (CharsVal cset) structure is = absurd (grind (arith, structure))
  marked_back (SetVal id) (StdVal file) structure is = absurd (grind (arith, structure))
  marked_back (SetVal id) (ProcVal number) structure is = absurd (grind (arith, structure))
  marked_back (SetVal id) (RecVal other) structure is = inl is
  marked_back (SetVal id) (ListVal other) structure is = inl is
  marked_back (SetVal id) (SetVal other) structure is =
      elim (mark_back parts.sets.held marks.sets id other is) [ inl was ↦ inl was | inr both ↦ inr (ap SetVal both.0, record { live = both.1 }) ]
  marked_back (SetVal id) (TableVal other) structure is = inl is
  marked_back (SetVal id) (CoexpVal other) structure is = absurd (grind (arith, structure))
  marked_back (TableVal id) NullVal structure is = absurd (grind (arith, structure))
  marked_back (TableVal id) (IntegerVal n) structure is = absurd (grind (arith, structure))
  marked_back (TableVal id) (TextVal span) structure is = absurd (grind (arith, structure))
  marked_back (TableVal id) (CharsVal cset) structure is = absurd (grind (arith, structure))
  marked_back (TableVal id) (StdVal file) structure is = absurd (grind (arith, structure))
  marked_back (TableVal id) (ProcVal number) structure is = absurd (grind (arith, structure))
  marked_back (TableVal id) (RecVal other) structure is = inl is
  marked_back (TableVal id) (ListVal other) structure is = inl is
  marked_back (TableVal id) (SetVal other) structure is = inl is
  marked_back (TableVal id) (TableVal other) structure is =
      elim (mark_back parts.tables.held marks.tables id other is) [ inl was ↦ inl was | inr both ↦ inr (ap TableVal both.0, record { live = both.1 }) ]
  marked_back (TableVal id) (CoexpVal other) structure is = absurd (grind (arith, structure))
  marked_back (CoexpVal id) other structure is = inl is

  unmarked_live : (val : Val) → is_unmarked parts marks val ≡ true → IsLive (extent_in parts) val
  unmarked_live NullVal is = absurd (grind (arith, is))
  unmarked_live (IntegerVal n) is = absurd (grind (arith, is))
  unmarked_live (TextVal span) is = absurd (grind (arith, is))
  unmarked_live (CharsVal cset) is = absurd (grind (arith, is))
  unmarked_live (StdVal file) is = absurd (grind (arith, is))
  unmarked_live (ProcVal number) is = absurd (grind (arith, is))
  unmarked_live (RecVal id) is = record { live = new_there (get_or parts.records.held id false) (get_or marks.records id false) is }
  unmarked_live (ListVal id) is = record { live = new_there (get_or parts.lists.held id false) (get_or marks.lists id false) is }
  unmarked_live (SetVal id) is = record { live = new_there (get_or parts.sets.held id false) (get_or marks.sets id false) is }
  unmarked_live (TableVal id) is = record { live = new_there (get_or parts.tables.held id false) (get_or marks.tables id false) is }
  unmarked_live (CoexpVal id) is = absurd (grind (arith, is))

  was_marked_there : (val : Val) → is_unmarked parts marks val ≡ false → IsLive (extent_in parts) val → MarkedBy marks val
  was_marked_there NullVal is live = tt
  was_marked_there (IntegerVal n) is live = tt
  was_marked_there (TextVal span) is live = tt
  was_marked_there (CharsVal cset) is live = tt
  was_marked_there (StdVal file) is live = tt
  was_marked_there (ProcVal number) is live = tt
  was_marked_there (RecVal id) is live = was_marked (get_or parts.records.held id false) (get_or marks.records id false) is live.live
  was_marked_there (ListVal id) is live = was_marked (get_or parts.lists.held id false) (get_or marks.lists id false) is live.live
  was_marked_there (SetVal id) is live = was_marked (get_or parts.sets.held id false) (get_or marks.sets id false) is live.live
  was_marked_there (TableVal id) is live = was_marked (get_or parts.tables.held id false) (get_or marks.tables id false) is live.live
  was_marked_there (CoexpVal id) is live = tt

  -- the structure is marked, if it is there
  pub marked_there : (val : Val) → AreLong parts marks → IsLive (extent_in parts) val → MarkedBy (with_marked parts marks val) val
  marked_there NullVal long live = tt
  marked_there (IntegerVal n) long live = tt
  marked_there (TextVal span) long live = tt
  marked_there (CharsVal cset) long live = tt
  marked_there (StdVal file) long live = tt
  marked_there (ProcVal number) long live = tt
  marked_there (RecVal id) long live = mark_set parts.records.held marks.records id long.records live.live
  marked_there (ListVal id) long live = mark_set parts.lists.held marks.lists id long.lists live.live
  marked_there (SetVal id) long live = mark_set parts.sets.held marks.sets id long.sets live.live
  marked_there (TableVal id) long live = mark_set parts.tables.held marks.tables id long.tables live.live
  marked_there (CoexpVal id) long live = tt

  still_long : (val : Val) → AreLong parts marks → AreLong parts (with_marked parts marks val)
  still_long NullVal long = long
  still_long (IntegerVal n) long = long
  still_long (TextVal span) long = long
  still_long (CharsVal cset) long = long
  still_long (StdVal file) long = long
  still_long (ProcVal number) long = long
  still_long (RecVal id) long =
      record { lists = long.lists; sets = long.sets; tables = long.tables; records = mark_long parts.records.held marks.records id ∙ long.records }
  still_long (ListVal id) long =
      record { lists = mark_long parts.lists.held marks.lists id ∙ long.lists; sets = long.sets; tables = long.tables; records = long.records }
  still_long (SetVal id) long =
      record { lists = long.lists; sets = mark_long parts.sets.held marks.sets id ∙ long.sets; tables = long.tables; records = long.records }
  still_long (TableVal id) long =
      record { lists = long.lists; sets = long.sets; tables = mark_long parts.tables.held marks.tables id ∙ long.tables; records = long.records }
  still_long (CoexpVal id) long = long

  -- nothing changes where it was marked, or is none that is there
  pub not_new : (val : Val) → is_unmarked parts marks val ≡ false → with_marked parts marks val ≡ marks
  not_new NullVal old = refl
  not_new (IntegerVal n) old = refl
  not_new (TextVal span) old = refl
  not_new (CharsVal cset) old = refl
  not_new (StdVal file) old = refl
  not_new (ProcVal number) old = refl
  not_new (RecVal id) old =
      ap (λ flags. let some : StructureMarks = record marks { records = flags } in some) (mark_same parts.records.held marks.records id old)
  not_new (ListVal id) old = ap (λ flags. let some : StructureMarks = record marks { lists = flags } in some) (mark_same parts.lists.held marks.lists id old)
  not_new (SetVal id) old = ap (λ flags. let some : StructureMarks = record marks { sets = flags } in some) (mark_same parts.sets.held marks.sets id old)
  not_new (TableVal id) old =
      ap (λ flags. let some : StructureMarks = record marks { tables = flags } in some) (mark_same parts.tables.held marks.tables id old)
  not_new (CoexpVal id) old = refl

  -- how many bytes the texts of structures have that are marked

  weights : length_of_vals (held_vals (with_marks parts marks))
      ≡ length_of_vals (flat_map list_vals (those_set marks.lists parts.lists.things))
      + (length_of_vals (flat_map set_vals (those_set marks.sets parts.sets.things))
      + (length_of_vals (flat_map table_vals (those_set marks.tables parts.tables.things))
      + length_of_vals (flat_map record_vals (those_set marks.records parts.records.things))))
  weights =
      let lists : List Val = flat_map list_vals (those_set marks.lists parts.lists.things) in
      let sets : List Val = flat_map set_vals (those_set marks.sets parts.sets.things) in
      let tables : List Val = flat_map table_vals (those_set marks.tables parts.tables.things) in
      let records : List Val = flat_map record_vals (those_set marks.records parts.records.things) in
      let one = sum_by-append length_of_val lists (sets ++ (tables ++ records)) in
      let two = sum_by-append length_of_val sets (tables ++ records) in
      let three = sum_by-append length_of_val tables records in
      omega (arith, one, two, three)

-- a structure more that is marked

module _ (parts : Parts) (marks : StructureMarks) (long : AreLong parts marks) (sound : IsSoundHeap parts) where
  heavier : (val : Val) → is_unmarked parts marks val ≡ true
      → length_of_vals (held_vals (with_marks parts (with_marked parts marks val)))
      ≡ length_of_vals (held_vals (with_marks parts marks)) + length_of_vals (vals_of parts val)
  heavier NullVal new = absurd (grind (arith, new))
  heavier (IntegerVal n) new = absurd (grind (arith, new))
  heavier (TextVal span) new = absurd (grind (arith, new))
  heavier (CharsVal cset) new = absurd (grind (arith, new))
  heavier (StdVal file) new = absurd (grind (arith, new))
  heavier (ProcVal number) new = absurd (grind (arith, new))
  heavier (RecVal id) new =
      let there : IsSet parts.records.held id = new_there (get_or parts.records.held id false) (get_or marks.records id false) new in
      let below : id < length parts.records.held = set_below parts.records.held id there in
      let all = sound.structures.made_records.long in
      let many = long.records in
      let one = weigh_more record_vals marks.records parts.records.things id no_fields
      (not_marked (get_or parts.records.held id false) (get_or marks.records id false) new)
      (omega (arith, below, many)) (omega (arith, below, all)) in
      let set_is : with_mark parts.records.held marks.records id ≡ set marks.records id true = mark_there parts.records.held marks.records id there in
      let is : length_of_vals (flat_map record_vals (those_set (with_mark parts.records.held marks.records id) parts.records.things))
      ≡ length_of_vals (flat_map record_vals (those_set (set marks.records id true) parts.records.things)) =
      ap (λ flags. length_of_vals (flat_map record_vals (those_set flags parts.records.things))) set_is in
      let before = weights parts marks in
      let after = weights parts (with_marked parts marks (RecVal id)) in
      omega (arith, one, is, before, after)
  heavier (ListVal id) new =
      let there : IsSet parts.lists.held id = new_there (get_or parts.lists.held id false) (get_or marks.lists id false) new in
      let below : id < length parts.lists.held = set_below parts.lists.held id there in
      let all = sound.structures.made_lists.long in
      let many = long.lists in
      let one = weigh_more list_vals marks.lists parts.lists.things id no_vals (not_marked (get_or parts.lists.held id false) (get_or marks.lists id false) new)
      (omega (arith, below, many)) (omega (arith, below, all)) in
      let set_is : with_mark parts.lists.held marks.lists id ≡ set marks.lists id true = mark_there parts.lists.held marks.lists id there in
      let is : length_of_vals (flat_map list_vals (those_set (with_mark parts.lists.held marks.lists id) parts.lists.things))
      ≡ length_of_vals (flat_map list_vals (those_set (set marks.lists id true) parts.lists.things)) =
      ap (λ flags. length_of_vals (flat_map list_vals (those_set flags parts.lists.things))) set_is in
      let before = weights parts marks in
      let after = weights parts (with_marked parts marks (ListVal id)) in
      omega (arith, one, is, before, after)
  heavier (SetVal id) new =
      let there : IsSet parts.sets.held id = new_there (get_or parts.sets.held id false) (get_or marks.sets id false) new in
      let below : id < length parts.sets.held = set_below parts.sets.held id there in
      let all = sound.structures.made_sets.long in
      let many = long.sets in
      let one = weigh_more set_vals marks.sets parts.sets.things id [] (not_marked (get_or parts.sets.held id false) (get_or marks.sets id false) new)
      (omega (arith, below, many)) (omega (arith, below, all)) in
      let set_is : with_mark parts.sets.held marks.sets id ≡ set marks.sets id true = mark_there parts.sets.held marks.sets id there in
      let is : length_of_vals (flat_map set_vals (those_set (with_mark parts.sets.held marks.sets id) parts.sets.things))
      ≡ length_of_vals (flat_map set_vals (those_set (set marks.sets id true) parts.sets.things)) =
      ap (λ flags. length_of_vals (flat_map set_vals (those_set flags parts.sets.things))) set_is in
      let before = weights parts marks in
      let after = weights parts (with_marked parts marks (SetVal id)) in
      omega (arith, one, is, before, after)
  heavier (TableVal id) new =
      let there : IsSet parts.tables.held id = new_there (get_or parts.tables.held id false) (get_or marks.tables id false) new in
      let below : id < length parts.tables.held = set_below parts.tables.held id there in
      let all = sound.structures.made_tables.long in
      let many = long.tables in
      let one = weigh_more table_vals marks.tables parts.tables.things id no_entries
      (not_marked (get_or parts.tables.held id false) (get_or marks.tables id false) new)
      (omega (arith, below, many)) (omega (arith, below, all)) in
      let set_is : with_mark parts.tables.held marks.tables id ≡ set marks.tables id true = mark_there parts.tables.held marks.tables id there in
      let is : length_of_vals (flat_map table_vals (those_set (with_mark parts.tables.held marks.tables id) parts.tables.things))
      ≡ length_of_vals (flat_map table_vals (those_set (set marks.tables id true) parts.tables.things)) =
      ap (λ flags. length_of_vals (flat_map table_vals (those_set flags parts.tables.things))) set_is in
      let before = weights parts marks in
      let after = weights parts (with_marked parts marks (TableVal id)) in
      omega (arith, one, is, before, after)
  heavier (CoexpVal id) new = absurd (grind (arith, new))

-- What is due stays so

module _ (parts : Parts) (marks : StructureMarks) (val : Val) {old taken new : NeededValues} (out : IsTakenOut old taken (Some val)) (vals : List Val)
    (added : AreNeeded taken new vals) (marked : MarkedBy (with_marked parts marks val) val) where
  among : (one : Val) → is_structure one ≡ true → Contains old.structures.items one → Contains taken.structures.items one ⊎ (val ≡ one)
  among one structure is =
      Contains-push_cases taken.structures.items val one (subst (λ (ones : List Val). Contains ones one) out.structures is)

  due_step : (one : Val) → ToStayBy marks old one → ToStayBy (with_marked parts marks val) new one
  due_step NullVal is = tt
  due_step (IntegerVal n) is = tt
  due_step (TextVal span) is =
      (added.more (TextVal span)
      (record { needed = subst (λ ranges. Contains ranges (range_of span)) (sym (ap (λ rs. rs.items) out.ranges)) is; among = tt })).needed
  due_step (CharsVal cset) is = tt
  due_step (StdVal file) is = tt
  due_step (ProcVal number) is = tt
  due_step (RecVal other) is =
      elim is [
        | inl was ↦ inl (still_marked parts marks val (RecVal other) was)
        | inr waits ↦
            elim (among (RecVal other) refl waits) [
              | inl front ↦ inr (added.more (RecVal other) (record { needed = tt; among = front })).among
              | inr same ↦ inl (subst (λ (v : Val). MarkedBy (with_marked parts marks val) v) same marked)
            ]
      ]
  due_step (ListVal other) is =
      elim is [
        | inl was ↦ inl (still_marked parts marks val (ListVal other) was)
        | inr waits ↦
            elim (among (ListVal other) refl waits) [
              | inl front ↦ inr (added.more (ListVal other) (record { needed = tt; among = front })).among
              | inr same ↦ inl (subst (λ (v : Val). MarkedBy (with_marked parts marks val) v) same marked)
            ]
      ]
  due_step (SetVal other) is =
      elim is [
        | inl was ↦ inl (still_marked parts marks val (SetVal other) was)
        | inr waits ↦
            elim (among (SetVal other) refl waits) [
              | inl front ↦ inr (added.more (SetVal other) (record { needed = tt; among = front })).among
              | inr same ↦ inl (subst (λ (v : Val). MarkedBy (with_marked parts marks val) v) same marked)
            ]
      ]
  due_step (TableVal other) is =
      elim is [
        | inl was ↦ inl (still_marked parts marks val (TableVal other) was)
        | inr waits ↦
            elim (among (TableVal other) refl waits) [
              | inl front ↦ inr (added.more (TableVal other) (record { needed = tt; among = front })).among
              | inr same ↦ inl (subst (λ (v : Val). MarkedBy (with_marked parts marks val) v) same marked)
            ]
      ]
  due_step (CoexpVal id) is = tt

  due_now : (one : Val) → IsToStay marks old one → IsToStay (with_marked parts marks val) new one
  due_now one is = record { due = due_step one is.due }

  dues_now : (ones : List Val) → All (IsToStay marks old) ones → All (IsToStay (with_marked parts marks val) new) ones
  dues_now ones are = All-weaker (IsToStay marks old) (IsToStay (with_marked parts marks val) new) due_now ones are

-- what is needed is due
needed_due_by : (marks : StructureMarks) (needed : NeededValues) (val : Val) → IsNeeded needed val → ToStayBy marks needed val
needed_due_by marks needed NullVal is = tt
needed_due_by marks needed (IntegerVal n) is = tt
needed_due_by marks needed (TextVal span) is = is.needed
needed_due_by marks needed (CharsVal cset) is = tt
needed_due_by marks needed (StdVal file) is = tt
needed_due_by marks needed (ProcVal number) is = tt
needed_due_by marks needed (RecVal id) is = inr is.among
needed_due_by marks needed (ListVal id) is = inr is.among
needed_due_by marks needed (SetVal id) is = inr is.among
needed_due_by marks needed (TableVal id) is = inr is.among
needed_due_by marks needed (CoexpVal id) is = tt

needed_due : (marks : StructureMarks) (needed : NeededValues) (val : Val) → IsNeeded needed val → IsToStay marks needed val
needed_due marks needed val is = record { due = needed_due_by marks needed val is }

-- what has no marks

none_marked : (parts : Parts) (val : Val) → is_structure val ≡ true → MarkedBy (no_marks parts) val → ⊥
none_marked parts NullVal structure is = grind (arith, structure)
none_marked parts (IntegerVal n) structure is = grind (arith, structure)
none_marked parts (TextVal span) structure is = grind (arith, structure)
none_marked parts (CharsVal cset) structure is = grind (arith, structure)
none_marked parts (StdVal file) structure is = grind (arith, structure)
none_marked parts (ProcVal number) structure is = grind (arith, structure)
none_marked parts (RecVal id) structure is = none_set parts.records.held id is
none_marked parts (ListVal id) structure is = none_set parts.lists.held id is
none_marked parts (SetVal id) structure is = none_set parts.sets.held id is
none_marked parts (TableVal id) structure is = none_set parts.tables.held id is
none_marked parts (CoexpVal id) structure is = grind (arith, structure)

no_weights : (parts : Parts) → length_of_vals (held_vals (with_marks parts (no_marks parts))) ≡ 0
no_weights parts =
    let lists = ap (λ xs. length_of_vals (flat_map list_vals xs)) (those_unset parts.lists.held parts.lists.things) in
    let sets = ap (λ xs. length_of_vals (flat_map set_vals xs)) (those_unset parts.sets.held parts.sets.things) in
    let tables = ap (λ xs. length_of_vals (flat_map table_vals xs)) (those_unset parts.tables.held parts.tables.things) in
    let records = ap (λ xs. length_of_vals (flat_map record_vals xs)) (those_unset parts.records.held parts.records.things) in
    let all = weights parts (no_marks parts) in
    omega (arith, all, lists, sets, tables, records)

unset_long : (flags : List Bool) → length (all_unset flags) ≡ length flags
unset_long flags = length-map flags (λ flag. false)

-- what is among some values is reached from them
all_roots : (parts : Parts) (roots : List Val) → All (IsReachedFrom parts roots) roots
all_roots parts roots = λ k d within. IsReachedFrom.from_root (get_or roots k d) (Contains-get_or roots k d within)

-- at first nothing is marked
pub reached_first : (parts : Parts) (first : NeededValues) → AreOfHeap (extent_in parts) first → AreReached parts first (no_marks parts) first
reached_first parts first texts = record {
  roots = needed_due (no_marks parts) first;
  each = λ val structure is. absurd (none_marked parts val structure is);
  marked = λ val structure is. absurd (none_marked parts val structure is);
  waits = all_roots parts first.structures.items;
  of_heap = texts;
  bytes = (let none = no_weights parts in omega (arith, none));
  long = record {
    lists = unset_long parts.lists.held;
    sets = unset_long parts.sets.held;
    tables = unset_long parts.tables.held;
    records = unset_long parts.records.held;
  };
}

-- A structure is taken out, and marked with what it holds

pub in_none : (val : Val) → Contains [] val → ⊥
in_none val is = All-contains (λ (one : Val). ⊥) [] val (All-nil (λ (one : Val). ⊥)) is

-- what it holds is of the heap
vals_live : (parts : Parts) → IsSoundHeap parts → (val : Val) → IsLive (extent_in parts) val → All (IsLive (extent_in parts)) (vals_of parts val)
vals_live parts sound NullVal is = All-nil (IsLive (extent_in parts))
vals_live parts sound (IntegerVal n) is = All-nil (IsLive (extent_in parts))
vals_live parts sound (TextVal span) is = All-nil (IsLive (extent_in parts))
vals_live parts sound (CharsVal cset) is = All-nil (IsLive (extent_in parts))
vals_live parts sound (StdVal file) is = All-nil (IsLive (extent_in parts))
vals_live parts sound (ProcVal number) is = All-nil (IsLive (extent_in parts))
vals_live parts sound (RecVal id) is = (record_sound parts sound id is.live).live
vals_live parts sound (ListVal id) is = (list_sound parts sound id is.live).live
vals_live parts sound (SetVal id) is = set_live (extent_in parts) (get_or parts.sets.things id []) (members_sound parts sound id is.live)
vals_live parts sound (TableVal id) is = table_live (extent_in parts) (get_or parts.tables.things id no_entries) (table_sound parts sound id is.live)
vals_live parts sound (CoexpVal id) is = All-nil (IsLive (extent_in parts))

module _ (parts : Parts) (sound : IsSoundHeap parts) (first : NeededValues) (marks : StructureMarks) (val : Val) {old taken : NeededValues}
    (out : IsTakenOut old taken (Some val)) (are : AreReached parts first marks old) where
  both : All (IsLive (extent_in parts)) (taken.structures.items ++ val ∷ [])
  both = subst (All (IsLive (extent_in parts))) out.structures are.of_heap.live

  pub taken_live : IsLive (extent_in parts) val
  taken_live = All-head (IsLive (extent_in parts)) val [] (all_behind (IsLive (extent_in parts)) taken.structures.items (val ∷ []) both)

  marked_then : MarkedBy (with_marked parts marks val) val
  marked_then = marked_there parts marks val are.long taken_live

  taken_texts : AreOfHeap (extent_in parts) taken
  taken_texts = record {
    of = subst (λ ranges. All (IsOf parts.strings) ranges) (sym (ap (λ rs. rs.items) out.ranges)) are.of_heap.of;
    live = all_front (IsLive (extent_in parts)) taken.structures.items (val ∷ []) both;
  }

  all_reached : All (IsReachedFrom parts first.structures.items) (taken.structures.items ++ val ∷ [])
  all_reached = subst (All (IsReachedFrom parts first.structures.items)) out.structures are.waits

  val_reached : IsReachedFrom parts first.structures.items val
  val_reached = All-head (IsReachedFrom parts first.structures.items) val []
      (all_behind (IsReachedFrom parts first.structures.items) taken.structures.items (val ∷ []) all_reached)

  taken_reached : All (IsReachedFrom parts first.structures.items) taken.structures.items
  taken_reached = all_front (IsReachedFrom parts first.structures.items) taken.structures.items (val ∷ []) all_reached

  -- what is marked then is reached
  marked_reached : (one : Val) → is_structure one ≡ true → MarkedBy (with_marked parts marks val) one → IsReachedFrom parts first.structures.items one
  marked_reached one structure is = elim (marked_back parts marks val one structure is) [
    | inl was ↦ are.marked one structure was
    | inr same ↦ subst (IsReachedFrom parts first.structures.items) (sym same.0) val_reached
  ]

  -- and so is what is to be marked
  waits_then : (new : NeededValues) → ((one : Val) → Contains new.structures.items one → Contains taken.structures.items one ⊎ Contains (vals_of parts val) one)
      → All (IsReachedFrom parts first.structures.items) new.structures.items
  waits_then new only = λ k d within. (let one = get_or new.structures.items k d in elim (only one (Contains-get_or new.structures.items k d within)) [
    | inl was ↦ All-contains (IsReachedFrom parts first.structures.items) taken.structures.items one taken_reached was
    | inr held ↦ IsReachedFrom.from_held val one val_reached taken_live held
  ])

  same_length : needed_length taken ≡ needed_length old
  same_length = ap (λ rs. total_length rs.items) out.ranges

  -- it was not marked
  step_new : {new : NeededValues} → is_unmarked parts marks val ≡ true → AreNeeded taken new (vals_of parts val)
      → AreReached parts first (with_marked parts marks val) new
  step_new {new} fresh added = record {
    roots = λ one is. due_now parts marks val out (vals_of parts val) added marked_then one (are.roots one is);
    each = λ one structure is. elim (marked_back parts marks val one structure is) [
      | inl was ↦ record {
        live = (are.each one structure was).live;
        held = dues_now parts marks val out (vals_of parts val) added marked_then (vals_of parts one) (are.each one structure was).held;
      }
      | inr same ↦ subst (HoldsToStay parts (with_marked parts marks val) new) (sym same.0) (record {
        live = taken_live;
        held =
            All-weaker (IsNeeded new) (IsToStay (with_marked parts marks val) new) (needed_due (with_marked parts marks val) new)
            (vals_of parts val) added.each;
      })
    ];
    marked = marked_reached;
    waits = waits_then new added.only;
    of_heap = added.of_heap (extent_in parts) (vals_live parts sound val taken_live) taken_texts;
    bytes = (let more = added.bytes in let before = are.bytes in let same = same_length in let heavy = heavier parts marks are.long sound val fresh in
        omega (arith, more, before, same, heavy));
    long = still_long parts marks val are.long;
  }

  -- it was
  step_old : {new : NeededValues} → is_unmarked parts marks val ≡ false → AreNeeded taken new [] → AreReached parts first (with_marked parts marks val) new
  step_old {new} old_mark added =
      let same : with_marked parts marks val ≡ marks = not_new parts marks val old_mark in
      record {
        roots = λ one is. due_now parts marks val out [] added marked_then one (are.roots one is);
        each = λ one structure is. (let was : MarkedBy marks one = subst (λ (some : StructureMarks). MarkedBy some one) same is in record {
          live = (are.each one structure was).live;
          held = dues_now parts marks val out [] added marked_then (vals_of parts one) (are.each one structure was).held;
        });
        marked = marked_reached;
        waits = waits_then new (λ one is. elim (added.only one is) [ inl was ↦ inl was | inr none ↦ absurd (in_none one none) ]);
        of_heap = added.of_heap (extent_in parts) (All-nil (IsLive (extent_in parts))) taken_texts;
        bytes = (let more = added.bytes in let before = are.bytes in let alike = same_length in
            let weight = ap (λ (some : StructureMarks). length_of_vals (held_vals (with_marks parts some))) same in
            omega (arith, more, before, alike, weight));
        long = still_long parts marks val are.long;
      }

  pub reached_then : {new : NeededValues} → AreNeeded taken new (held_anew parts marks val) → AreReached parts first (with_marked parts marks val) new
  reached_then {new} added = by_test (is_unmarked parts marks val) refl added
    where
      by_test : (b : Bool) → is_unmarked parts marks val ≡ b → AreNeeded taken new (if b then vals_of parts val else [])
          → AreReached parts first (with_marked parts marks val) new
      by_test true fresh added = step_new fresh added
      by_test false old_mark added = step_old old_mark added

due_same : (marks : StructureMarks) (old new : NeededValues) → old.structures.items ≡ new.structures.items → old.ranges.items ≡ new.ranges.items → (val : Val)
    → ToStayBy marks old val
    → ToStayBy marks new val
due_same marks old new structures ranges NullVal is = tt
due_same marks old new structures ranges (IntegerVal n) is = tt
due_same marks old new structures ranges (TextVal span) is = subst (λ rs. Contains rs (range_of span)) ranges is
due_same marks old new structures ranges (CharsVal cset) is = tt
due_same marks old new structures ranges (StdVal file) is = tt
due_same marks old new structures ranges (ProcVal number) is = tt
due_same marks old new structures ranges (RecVal id) is =
    elim is [ inl was ↦ inl was | inr waits ↦ inr (subst (λ (vals : List Val). Contains vals (RecVal id)) structures waits) ]
due_same marks old new structures ranges (ListVal id) is =
    elim is [ inl was ↦ inl was | inr waits ↦ inr (subst (λ (vals : List Val). Contains vals (ListVal id)) structures waits) ]
due_same marks old new structures ranges (SetVal id) is =
    elim is [ inl was ↦ inl was | inr waits ↦ inr (subst (λ (vals : List Val). Contains vals (SetVal id)) structures waits) ]
due_same marks old new structures ranges (TableVal id) is =
    elim is [ inl was ↦ inl was | inr waits ↦ inr (subst (λ (vals : List Val). Contains vals (TableVal id)) structures waits) ]
due_same marks old new structures ranges (CoexpVal id) is = tt

-- nothing was there to be taken out
pub reached_same : (parts : Parts) (first : NeededValues) (marks : StructureMarks) {old new : NeededValues} → IsTakenOut old new None
    → AreReached parts first marks old → AreAllReached parts first marks new
reached_same parts first marks {old} {new} out are =
    let structures : old.structures.items ≡ new.structures.items = out.structures ∙ append-nil new.structures.items in
    let ranges : old.ranges.items ≡ new.ranges.items = ap (λ rs. rs.items) (sym out.ranges) in
    record {
      reached = record {
        roots = λ val is. record { due = due_same marks old new structures ranges val (are.roots val is).due };
        each = λ val structure is. record {
          live = (are.each val structure is).live;
          held =
              All-weaker (IsToStay marks old) (IsToStay marks new) (λ one due. record { due = due_same marks old new structures ranges one due.due })
              (vals_of parts val)
              (are.each val structure is).held;
        };
        marked = are.marked;
        waits = subst (All (IsReachedFrom parts first.structures.items)) structures are.waits;
        of_heap = record {
          of = subst (All (IsOf parts.strings)) ranges are.of_heap.of;
          live = subst (All (IsLive (extent_in parts))) structures are.of_heap.live;
        };
        bytes = (let same = ap total_length ranges in let before = are.bytes in omega (arith, same, before));
        long = are.long;
      };
      all = out.none;
    }
