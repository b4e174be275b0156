-- Values that are needed, one after the other.
use Rattle.std.proofs.Common.{inl, inr, ◌≡◌, ◌∙◌, refl, sym, ap, subst, ℕ, ◌+◌, ◌<◌, true, List, [], ◌∷◌, ◌++◌, map, take, length, get_or, slice_get, Option, Some, append-nil, arith}
use Rattle.std.specs.Option.{option_map, option_to_list}
use Rattle.std.specs.List.{All, Contains, flat_map}
use Rattle.std.proofs.lemmas.List.{length-map, take_more}
use Rattle.std.proofs.lemmas.List.Sums.{sum_by-append, sum_by-cons, sum_by_push}
use Rattle.std.proofs.lemmas.Option.{slice_get-get_or, slice_get-map, slice_get_cases}
use Rattle.std.proofs.lemmas.List.Concat.{flat_map-append, flat_map-cons}
use Rattle.std.proofs.lemmas.List.Elements.{All-append, All-cons, All-head, All-tail, All-weaker, All-push, Contains-append_left, Contains-append_right, Contains-push, Contains-push_cases}
use Rattle.icn_strings.specs.declared.byte_range.ByteRange.{ByteRange}
use Rattle.icn_strings.specs.Ranges.{total_length}
use Rattle.icn_strings.specs.Regions.{IsOf}
use Rattle.icn_value.specs.declared.val.Span.{Span}
use Rattle.icn_value.specs.declared.val.Val.{Val}
use Rattle.icn_value.specs.declared.val.Val.TheVariants.{Null as NullVal, Integer as IntegerVal, Text as TextVal, Chars as CharsVal, Std as StdVal, Proc as ProcVal, Rec as RecVal, List as ListVal, Set as SetVal, Table as TableVal, Coexp as CoexpVal}
use Rattle.icn_heap.specs.declared.needed_values.NeededValues.{NeededValues}
use Rattle.icn_heap.specs.Extents.{IsLive, range_of}
use Rattle.icn_heap.specs.declared.entries.Entries.{Entries}
use Rattle.icn_heap.specs.declared.entries.Entry.{Entry}
use Rattle.icn_heap.specs.declared.key.Key.{Key}
use Rattle.icn_heap.specs.HeapParts.{entry_of}
use Rattle.icn_heap.specs.ElementValues.{entry_both, pair_vals, table_vals}
use Rattle.icn_heap.specs.MarkedStructures.{is_structure}
use Rattle.icn_heap.specs.NeededValues.{AmongBy, NeededBy, IsNeeded, AreNeeded, length_of_val, length_of_vals}

-- a fact of all of two lists is one of each

pub all_front : {X : Type 0} (P : X → Type 0) (xs ys : List X) → All P (xs ++ ys) → All P xs
all_front P [] ys are = λ k d within. absurd (omega (arith, within))
all_front P (x ∷ xs) ys are = All-cons P x xs (All-head P x (xs ++ ys) are) (all_front P xs ys (All-tail P x (xs ++ ys) are))

pub all_behind : {X : Type 0} (P : X → Type 0) (xs ys : List X) → All P (xs ++ ys) → All P ys
all_behind P [] ys are = are
all_behind P (x ∷ xs) ys are = all_behind P xs ys (All-tail P x (xs ++ ys) are)

-- and of lists one behind the other

pub all_of : {X A : Type 0} (P : A → Type 0) (f : X → List A) (xs : List X) → All P (flat_map f xs) → All (λ x. All P (f x)) xs
all_of P f [] are = λ k d within. absurd (omega (arith, within))
all_of P f (x ∷ xs) are =
    let both : All P (f x ++ flat_map f xs) = subst (All P) (flat_map-cons f x xs) are in
    All-cons (λ y. All P (f y)) x xs (all_front P (f x) (flat_map f xs) both) (all_of P f xs (all_behind P (f x) (flat_map f xs) both))

pub all_flat : {X A : Type 0} (P : A → Type 0) (f : X → List A) (xs : List X) → All (λ x. All P (f x)) xs → All P (flat_map f xs)
all_flat P f [] are = λ k d within. absurd (omega (arith, within))
all_flat P f (x ∷ xs) are =
    subst (All P) (sym (flat_map-cons f x xs))
    (All-append P (f x) (flat_map f xs) (All-head (λ y. All P (f y)) x xs are) (all_flat P f xs (All-tail (λ y. All P (f y)) x xs are)))

-- Values whose texts are to stay

-- no values have no bytes, and one has its own

no_length : length_of_vals [] ≡ 0
no_length = refl

one_length : (val : Val) → length_of_vals (val ∷ []) ≡ length_of_val val
one_length val =
    let first : length_of_vals (val ∷ []) ≡ length_of_val val + length_of_vals [] = sum_by-cons length_of_val val [] in
    let rest = no_length in
    omega (arith, first, rest)

-- nothing is needed beside what was
pub needed_none : (needed : NeededValues) → AreNeeded needed needed []
needed_none needed = record {
  more = λ val is. is;
  each = λ k d within. absurd (omega (arith, within));
  bytes = omega (arith, no_length);
  of_heap = λ all live are. are;
  only = λ val is. inl is;
}

-- some values and then others
pub needed_then : {one two three : NeededValues} {vals others : List Val} → AreNeeded one two vals → AreNeeded two three others
    → AreNeeded one three (vals ++ others)
needed_then {one} {two} {three} {vals} {others} first second = record {
  more = λ val is. second.more val (first.more val is);
  each = All-append (IsNeeded three) vals others (All-weaker (IsNeeded two) (IsNeeded three) second.more vals first.each) second.each;
  bytes = omega (arith, first.bytes, second.bytes, sum_by-append length_of_val vals others);
  of_heap = λ all live are.
      second.of_heap all (all_behind (IsLive all) vals others live) (first.of_heap all (all_front (IsLive all) vals others live) are);
  only = λ val is. elim (second.only val is) [
    | inl mid ↦ elim (first.only val mid) [ inl was ↦ inl was | inr one ↦ inr (Contains-append_left vals others val one) ]
    | inr other ↦ inr (Contains-append_right vals others val other)
  ];
}

-- a value that asks for nothing
pub needed_plain : (needed : NeededValues) (val : Val) → NeededBy needed.ranges.items val → AmongBy needed.structures.items val → length_of_val val ≡ 0
    → AreNeeded needed needed (val ∷ [])
needed_plain needed val is among none = record {
  more = λ other is. is;
  each = All-cons (IsNeeded needed) val [] (record { needed = is; among = among }) (λ k d within. absurd (omega (arith, within)));
  bytes = omega (arith, none, one_length val);
  of_heap = λ all live are. are;
  only = λ other is. inl is;
}

-- what was needed is so with one range more
still_needed : (ranges : List ByteRange) (range : ByteRange) (val : Val) → NeededBy ranges val → NeededBy (ranges ++ range ∷ []) val
still_needed ranges range NullVal is = tt
still_needed ranges range (IntegerVal n) is = tt
still_needed ranges range (TextVal span) is = Contains-append_left ranges (range ∷ []) (range_of span) is
still_needed ranges range (CharsVal cset) is = tt
still_needed ranges range (StdVal file) is = tt
still_needed ranges range (ProcVal number) is = tt
still_needed ranges range (RecVal id) is = tt
still_needed ranges range (ListVal id) is = tt
still_needed ranges range (SetVal id) is = tt
still_needed ranges range (TableVal id) is = tt
still_needed ranges range (CoexpVal id) is = tt

-- a text is needed
pub needed_text : (old new : NeededValues) (span : Span) → new.ranges.items ≡ old.ranges.items ++ range_of span ∷ [] → new.structures ≡ old.structures
    → AreNeeded old new (TextVal span ∷ [])
needed_text old new span pushed kept = record {
  more = λ val is. record {
    needed = subst (λ ranges. NeededBy ranges val) (sym pushed) (still_needed old.ranges.items (range_of span) val is.needed);
    among = subst (λ structures. AmongBy structures val) (sym (ap (λ vals. vals.items) kept)) is.among;
  };
  bytes =
      let one : total_length (old.ranges.items ++ range_of span ∷ []) ≡ total_length old.ranges.items + span.len =
      sum_by_push (λ (range : ByteRange). range.len) old.ranges.items (range_of span) in
      omega (arith, ap total_length pushed, one, one_length (TextVal span));
  each =
      All-cons (IsNeeded new) (TextVal span) []
      (record { needed = subst (λ ranges. Contains ranges (range_of span)) (sym pushed) (Contains-push old.ranges.items (range_of span)); among = tt })
      (λ k d within. absurd (omega (arith, within)));
  of_heap = λ all live are. record {
    of =
        subst (All (IsOf all.strings)) (sym pushed)
        (All-push (IsOf all.strings) old.ranges.items (range_of span) are.of (All-head (IsLive all) (TextVal span) [] live).live.of);
    live = subst (All (IsLive all)) (sym (ap (λ vals. vals.items) kept)) are.live;
  };
  only = λ val is. inl (subst (λ structures. Contains structures val) (ap (λ vals. vals.items) kept) is);
}

-- a structure has no bytes of its own, and is needed where it is among those that are

structure_needed : (ranges : List ByteRange) (val : Val) → is_structure val ≡ true → NeededBy ranges val
structure_needed ranges NullVal is = absurd (grind (arith, is))
structure_needed ranges (IntegerVal n) is = absurd (grind (arith, is))
structure_needed ranges (TextVal span) is = absurd (grind (arith, is))
structure_needed ranges (CharsVal cset) is = absurd (grind (arith, is))
structure_needed ranges (StdVal file) is = absurd (grind (arith, is))
structure_needed ranges (ProcVal number) is = absurd (grind (arith, is))
structure_needed ranges (RecVal id) is = tt
structure_needed ranges (ListVal id) is = tt
structure_needed ranges (SetVal id) is = tt
structure_needed ranges (TableVal id) is = tt
structure_needed ranges (CoexpVal id) is = absurd (grind (arith, is))

structure_among : (structures : List Val) (val : Val) → is_structure val ≡ true → Contains structures val → AmongBy structures val
structure_among structures NullVal is there = absurd (grind (arith, is))
structure_among structures (IntegerVal n) is there = absurd (grind (arith, is))
structure_among structures (TextVal span) is there = absurd (grind (arith, is))
structure_among structures (CharsVal cset) is there = absurd (grind (arith, is))
structure_among structures (StdVal file) is there = absurd (grind (arith, is))
structure_among structures (ProcVal number) is there = absurd (grind (arith, is))
structure_among structures (RecVal id) is there = there
structure_among structures (ListVal id) is there = there
structure_among structures (SetVal id) is there = there
structure_among structures (TableVal id) is there = there
structure_among structures (CoexpVal id) is there = absurd (grind (arith, is))

structure_length : (val : Val) → is_structure val ≡ true → length_of_val val ≡ 0
structure_length NullVal is = absurd (grind (arith, is))
structure_length (IntegerVal n) is = absurd (grind (arith, is))
structure_length (TextVal span) is = absurd (grind (arith, is))
structure_length (CharsVal cset) is = absurd (grind (arith, is))
structure_length (StdVal file) is = absurd (grind (arith, is))
structure_length (ProcVal number) is = absurd (grind (arith, is))
structure_length (RecVal id) is = refl
structure_length (ListVal id) is = refl
structure_length (SetVal id) is = refl
structure_length (TableVal id) is = refl
structure_length (CoexpVal id) is = absurd (grind (arith, is))

still_among : (structures : List Val) (more val : Val) → AmongBy structures val → AmongBy (structures ++ more ∷ []) val
still_among structures more NullVal is = tt
still_among structures more (IntegerVal n) is = tt
still_among structures more (TextVal span) is = tt
still_among structures more (CharsVal cset) is = tt
still_among structures more (StdVal file) is = tt
still_among structures more (ProcVal number) is = tt
still_among structures more (RecVal id) is = Contains-append_left structures (more ∷ []) (RecVal id) is
still_among structures more (ListVal id) is = Contains-append_left structures (more ∷ []) (ListVal id) is
still_among structures more (SetVal id) is = Contains-append_left structures (more ∷ []) (SetVal id) is
still_among structures more (TableVal id) is = Contains-append_left structures (more ∷ []) (TableVal id) is
still_among structures more (CoexpVal id) is = tt

-- a structure is needed
pub needed_structure : (old new : NeededValues) (val : Val) → is_structure val ≡ true → new.structures.items ≡ old.structures.items ++ val ∷ []
    → new.ranges ≡ old.ranges
    → AreNeeded old new (val ∷ [])
needed_structure old new val structure pushed kept =
    let same : new.ranges.items ≡ old.ranges.items = ap (λ ranges. ranges.items) kept in
    let there : Contains new.structures.items val =
    subst (λ structures. Contains structures val) (sym pushed) (Contains-push old.structures.items val) in
    record {
      more = λ one is. record {
        needed = subst (λ ranges. NeededBy ranges one) (sym same) is.needed;
        among = subst (λ structures. AmongBy structures one) (sym pushed) (still_among old.structures.items val one is.among);
      };
      bytes = omega (arith, ap total_length same, one_length val, structure_length val structure);
      each =
          All-cons (IsNeeded new) val []
          (record { needed = structure_needed new.ranges.items val structure; among = structure_among new.structures.items val structure there })
          (λ k d within. absurd (omega (arith, within)));
      of_heap = λ all live are. record {
        of = subst (All (IsOf all.strings)) (sym same) are.of;
        live =
            subst (All (IsLive all)) (sym pushed) (All-push (IsLive all) old.structures.items val are.live (All-head (IsLive all) val [] live));
      };
      only = λ one is. elim (Contains-push_cases old.structures.items val one (subst (λ structures. Contains structures one) pushed is)) [
        | inl was ↦ inl was
        | inr same ↦ inr (subst (λ (v : Val). Contains (val ∷ []) v) same (Contains-push [] val))
      ];
    }

-- one more of some values
pub needed_more : {old now new : NeededValues} (vals : List Val) (i : ℕ) (d : Val) → i < length vals → AreNeeded old now (take i vals)
    → AreNeeded now new (get_or vals i d ∷ []) → AreNeeded old new (take (i + 1) vals)
needed_more {old} {now} {new} vals i d within so_far next =
    subst (AreNeeded old new) (sym (take_more vals i d within)) (needed_then so_far next)

-- the values of one more of some structures
pub needed_next : {X : Type 0} {old now new : NeededValues} (f : X → List Val) (xs : List X) (i : ℕ) (x : X) → i < length xs → x ≡ get_or xs i x
    → AreNeeded old now (flat_map f (take i xs)) → AreNeeded now new (f x) → AreNeeded old new (flat_map f (take (i + 1) xs))
needed_next {X} {old} {now} {new} f xs i x within same so_far next =
    let one : flat_map f (get_or xs i x ∷ []) ≡ f (get_or xs i x) ++ [] = flat_map-cons f (get_or xs i x) [] in
    let whole : flat_map f (take (i + 1) xs) ≡ flat_map f (take i xs) ++ f (get_or xs i x) =
    ap (flat_map f) (take_more xs i x within)
    ∙ (flat_map-append f (take i xs) (get_or xs i x ∷ []) ∙ ap (λ ys. flat_map f (take i xs) ++ ys) (one ∙ append-nil (f (get_or xs i x)))) in
    subst (AreNeeded old new) (sym whole) (needed_then so_far (subst (λ y. AreNeeded now new (f y)) same next))

-- the same where what stands at the place is looked up
pub needed_at : {old now new : NeededValues} (vals : List Val) (i : ℕ) → i < length vals → AreNeeded old now (take i vals)
    → AreNeeded now new (option_to_list (slice_get vals i)) → AreNeeded old new (take (i + 1) vals)
needed_at {old} {now} {new} vals i within so_far next =
    needed_more vals i NullVal within so_far
    (subst (λ (found : Option Val). AreNeeded now new (option_to_list found)) (slice_get-get_or vals i NullVal within) next)

-- and where it is what some structure has there
pub needed_of : {X : Type 0} {old now new : NeededValues} (f : X → Val) (xs : List X) (i : ℕ) → i < length xs
    → AreNeeded old now (take i (map f xs)) → AreNeeded now new (option_to_list (option_map f (slice_get xs i)))
    → AreNeeded old new (take (i + 1) (map f xs))
needed_of {X} {old} {now} {new} f xs i within so_far next =
    needed_at (map f xs) i (subst (λ n. i < n) (sym (length-map xs f)) within) so_far
    (subst (λ (found : Option Val). AreNeeded now new (option_to_list found)) (sym (slice_get-map f xs i)) next)

-- the entry at a place of a table
entry_there : (pairs : List (Key × Entry)) (i : ℕ) (pair : Key × Entry) → i < length pairs → get_or pairs i pair ≡ pair
    → flat_map entry_both (option_to_list (option_map entry_of (slice_get pairs i))) ≡ pair_vals pair
entry_there pairs i pair within same =
    ap (λ (found : Option (Key × Entry)). flat_map entry_both (option_to_list (option_map entry_of found)))
    (slice_get-get_or pairs i pair within ∙ ap Some same)
    ∙ (flat_map-cons entry_both pair.1 [] ∙ append-nil (entry_both pair.1))

pub needed_entry : {old now new : NeededValues} (pairs : List (Key × Entry)) (i : ℕ) → i < length pairs
    → AreNeeded old now (flat_map pair_vals (take i pairs))
    → AreNeeded now new (flat_map entry_both (option_to_list (option_map entry_of (slice_get pairs i))))
    → AreNeeded old new (flat_map pair_vals (take (i + 1) pairs))
needed_entry {old} {now} {new} pairs i within so_far next =
    elim (slice_get_cases pairs i).1 [
      | inl found ↦
          needed_next pair_vals pairs i found.0 within (sym found.3) so_far
          (subst (AreNeeded now new) (entry_there pairs i found.0 within found.3) next)
      | inr past ↦ absurd (omega (arith, past.0, within))
    ]

-- the default of a table, and its pairs
pub needed_table : {old now new : NeededValues} (table : Entries) → AreNeeded old now (table.default ∷ [])
    → AreNeeded now new (flat_map pair_vals table.pairs) → AreNeeded old new (table_vals table)
needed_table table first rest = needed_then first rest

-- an entry, if there is one
pub needed_some : {old new : NeededValues} (entry : Entry) → AreNeeded old new (entry_both entry)
    → AreNeeded old new (flat_map entry_both (option_to_list (Some entry)))
needed_some {old} {new} entry is =
    subst (AreNeeded old new) (sym (flat_map-cons entry_both entry [] ∙ append-nil (entry_both entry))) is
