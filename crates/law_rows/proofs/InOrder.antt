-- Searches and walks give their results in order, when nothing is done between.
use Rattle.std.proofs.Common.{arith, ◌≡◌, ◌∙◌, refl, ap, ℕ, zero, suc, pos, ◌+◌, ◌-◌, ◌<◌, ◌≤◌, ◌⊎◌, inl, inr, nat_lt, nat_le, Bool, true, false, List, [], ◌∷◌, length, Option, Some, None, map, filter, find, drop}
use Rattle.std.specs.Prelude.{slice_get, if◌then◌else◌}
use Rattle.std.specs.List.{range_with_len}
use Rattle.std.proofs.lemmas.List.{length-map}
use Rattle.std.proofs.lemmas.List.FromFn.{length-range_with_len, length-map-range_with_len}
use Rattle.std.proofs.lemmas.Bool.{cases_lt, le-leb, leb-true, lt-ltb, ltb-true}
use Rattle.icn_value.specs.Values.{Integer, Text, ASet, ATable, AList, ARecord, Item, Val}
use Rattle.icn_value.specs.Store.{Names, Setting, set_at, table_at, list_at, record_at}
use Rattle.icn_defs.specs.Rows.{Row, Outcome, Residual, TextBytes, ListItems, SetMembers, TableValues, TableKeys, RecordFields, Found, Among, Counting, Fails, Gives, Suspends, Error, Ends, suspends, thing_or_failure, fails_unless}
use Rattle.icn_defs.specs.Applying.{again}
use Rattle.icn_defs.specs.Elements.{element_item, field_item}
use Rattle.icn_defs.specs.Scanning.{found_from, among_from, stands, byte_behind}
use Rattle.icn_defs.specs.Arithmetic.{count_from}
use Rattle.icn_defs.specs.Conversions.{contains, if_fits}
use Rattle.law_rows.specs.Results.{results, GivesAll, walk, keys, counts, places_of, places_that, integer_item, byte_item, pair_key, pair_variable}

not_below : (a b : ℕ) → b ≤ a → nat_lt a b ≡ false
not_below a b h = by (nat_lt a b) refl
  where
    by : (t : Bool) → nat_lt a b ≡ t → nat_lt a b ≡ false
    by true e = absurd (let less : a < b = ltb-true a b e in omega (arith, less, h))
    by false e = e

not_within : (a b : ℕ) → b < a → nat_le a b ≡ false
not_within a b h = by (nat_le a b) refl
  where
    by : (t : Bool) → nat_le a b ≡ t → nat_le a b ≡ false
    by true e = absurd (let less : a ≤ b = leb-true a b e in omega (arith, less, h))
    by false e = e

-- What was given stays so where it is resumed less often, if it ended by then.
settled : (n m : ℕ) (o : Outcome) → length (results n o) < m → m ≤ n → results m o ≡ results n o
settled n zero o less most = absurd (omega (arith, less))
settled zero (suc m) o less most = absurd (omega (arith, most))
settled (suc n) (suc m) (Suspends item rest at) less most = ap (λ later. item ∷ later) (settled n m (again rest at) (omega (arith, less)) (omega (arith, most)))
settled (suc n) (suc m) (Gives item at) less most = refl
settled (suc n) (suc m) (Fails at) less most = refl
settled (suc n) (suc m) (Error number value at) less most = refl
settled (suc n) (suc m) (Ends status at) less most = refl

given : (row : Row) (at : Setting) (items : List Item) (n : ℕ) → results n (row at) ≡ items → length items < n → GivesAll row at items
given row at items n is less = settled n (length items + 1) (row at) (rw is (omega arith)) (omega (arith, less)) ∙ is

-- Searches

-- a search from a place on, over so many places, that is kept by its last result
abbrev search_from : (ℕ → Bool) → (ℕ → Residual) → ℕ → ℕ → Row
search_from test kept place count = thing_or_failure (find test (range_with_len place count)) (λ p. suspends (Val (Integer (pos p))) (kept p))

-- resumed, it goes on behind its last result
record IsSearch (test : ℕ → Bool) (kept : ℕ → Residual) (stop : ℕ) : Type 0 where
  resumed : (place : ℕ) (at : Setting) → again (kept place) at ≡ search_from test kept (place + 1) (stop - (place + 1)) at

searched : (test : ℕ → Bool) (kept : ℕ → Residual) (stop : ℕ) → IsSearch test kept stop → (count place n : ℕ) (at : Setting) → place + count ≡ stop
    → count + 1 ≤ n
    → results n (search_from test kept place count at) ≡ map (λ p. Val (Integer (pos p))) (filter test (range_with_len place count))
searched test kept stop is count place zero at ends enough = absurd (omega (arith, enough))
searched test kept stop is zero place (suc n) at ends enough = refl
searched test kept stop is (suc count) place (suc n) at ends enough =
    by_test (test place) refl (searched test kept stop is count (place + 1) n at (omega (arith, ends)) (omega (arith, enough)))
    (searched test kept stop is count (place + 1) (suc n) at (omega (arith, ends)) (omega (arith, enough)))
  where
    by_test : (t : Bool) → test place ≡ t
        → (results n (search_from test kept (place + 1) count at) ≡ map (λ p. Val (Integer (pos p))) (filter test (range_with_len (place + 1) count)))
        → (results (suc n) (search_from test kept (place + 1) count at) ≡ map (λ p. Val (Integer (pos p))) (filter test (range_with_len (place + 1) count)))
        → results (suc n) (search_from test kept place (suc count) at) ≡ map (λ p. Val (Integer (pos p))) (filter test (range_with_len place (suc count)))
    by_test true e here later =
        let left : stop - (place + 1) ≡ count = omega (arith, ends) in
        rw e (ap (λ rest. Val (Integer (pos place)) ∷ rest)
        (ap (results n) (is.resumed place at) ∙ (ap (λ c. results n (search_from test kept (place + 1) c at)) left ∙ here)))
    by_test false e here later = rw e later

find_search : (wanted text : List ℕ) (last : ℕ) → IsSearch (λ place. stands wanted text place last) (λ place. Found wanted text place last) (last + 1)
find_search wanted text last = record { resumed = λ place at. refl }

length_filter : (test : ℕ → Bool) (xs : List ℕ) → length (filter test xs) ≤ length xs
length_filter test [] = omega arith
length_filter test (x ∷ xs) = by (test x) refl (length_filter test xs)
  where
    by : (t : Bool) → test x ≡ t → length (filter test xs) ≤ length xs → length (filter test (x ∷ xs)) ≤ length (x ∷ xs)
    by true e h = rw e (omega (arith, h))
    by false e h = rw e (omega (arith, h))

filtered_length : (test : ℕ → Bool) (first count : ℕ) → length (map integer_item (filter test (range_with_len first count))) ≤ count
filtered_length test first count = rw (length-map (filter test (range_with_len first count)) integer_item)
    (omega (arith, length_filter test (range_with_len first count), length-range_with_len first count))

pub found_in_order : (wanted text : List ℕ) (place last : ℕ) (at : Setting) → place ≤ last + 1
    → GivesAll (found_from wanted text place last) at (map integer_item (places_that (λ p. stands wanted text p last) place (last + 1)))
found_in_order wanted text place last at within =
    given (found_from wanted text place last) at _ (last + 1 - place + 1)
    (searched _ _ (last + 1) (find_search wanted text last) (last + 1 - place) place _ at (omega (arith, within)) (omega arith))
    (omega (arith, filtered_length (λ p. stands wanted text p last) place (last + 1 - place)))

among_search : (bytes text : List ℕ) (last : ℕ) → IsSearch (λ place. contains bytes (byte_behind text place)) (λ place. Among bytes text place last) last
among_search bytes text last = record { resumed = λ place at. refl }

pub among_in_order : (bytes text : List ℕ) (place last : ℕ) (at : Setting) → place ≤ last
    → GivesAll (among_from bytes text place last) at (map integer_item (places_that (λ p. contains bytes (byte_behind text p)) place last))
among_in_order bytes text place last at within =
    given (among_from bytes text place last) at _ (last - place + 1)
    (searched _ _ last (among_search bytes text last) (last - place) place _ at (omega (arith, within)) (omega arith))
    (omega (arith, filtered_length (λ p. contains bytes (byte_behind text p)) place (last - place)))

-- Walks over what a list holds

abbrev walk_from : {A : Type 0} → List A → (A → Item) → (ℕ → Residual) → ℕ → Row
walk_from xs item kept place = thing_or_failure (slice_get xs place) (λ x. suspends (item x) (kept (place + 1)))

first_of : {A : Type 0} → List A → Option A
first_of [] = None
first_of (x ∷ xs) = Some x

at_drop : {A : Type 0} (xs : List A) (place : ℕ) → slice_get xs place ≡ first_of (drop place xs)
unfolding first_of
at_drop [] zero = refl
at_drop [] (suc place) = refl
at_drop (x ∷ xs) zero = refl
at_drop (x ∷ xs) (suc place) = at_drop xs place

rest_of : {A : Type 0} → List A → List A
rest_of [] = []
rest_of (x ∷ xs) = xs

drop_next : {A : Type 0} (xs : List A) (place : ℕ) → drop (suc place) xs ≡ rest_of (drop place xs)
unfolding rest_of
drop_next [] zero = refl
drop_next [] (suc place) = refl
drop_next (x ∷ xs) zero = refl
drop_next (x ∷ xs) (suc place) = drop_next xs place

walked : {A : Type 0} (xs : List A) (item : A → Item) (kept : ℕ → Residual) (at : Setting)
    → ((place : ℕ) → again (kept place) at ≡ walk_from xs item kept place at)
    → (rest : List A) (place n : ℕ) → drop place xs ≡ rest → length rest < n → results n (walk_from xs item kept place at) ≡ map item rest
unfolding first_of rest_of
walked xs item kept at is rest place zero ends enough = absurd (omega (arith, enough))
walked xs item kept at is [] place (suc n) ends enough =
    ap (λ o. results (suc n) (thing_or_failure o (λ x. suspends (item x) (kept (place + 1))) at)) (at_drop xs place ∙ ap first_of ends)
walked xs item kept at is (x ∷ rest) place (suc n) ends enough =
    ap (λ o. results (suc n) (thing_or_failure o (λ x. suspends (item x) (kept (place + 1))) at)) (at_drop xs place ∙ ap first_of ends)
    ∙ ap (λ later. item x ∷ later) (ap (results n) (is (place + 1)) ∙ walked xs item kept at is rest (place + 1) n next (omega (arith, enough)))
  where
    next : drop (place + 1) xs ≡ rest
    next = let same : place + 1 ≡ suc place = omega arith in ap (λ p. drop p xs) same ∙ (drop_next xs place ∙ ap rest_of ends)

walk_given : {A : Type 0} (row : Row) (xs : List A) (item : A → Item) (at : Setting) → results (length xs + 1) (row at) ≡ map item xs
    → GivesAll row at (map item xs)
walk_given row xs item at is = given row at (map item xs) (length xs + 1) is (rw (length-map xs item) (omega arith))

pub bytes_in_order : (bytes : List ℕ) (at : Setting) → GivesAll (walk (Text bytes)) at (map byte_item bytes)
bytes_in_order bytes at =
    walk_given (walk (Text bytes)) bytes byte_item at (walked bytes _ (TextBytes bytes) at (λ place. refl) bytes 0 (length bytes + 1) refl (omega arith))

pub members_in_order : (id : ℕ) (at : Setting) → GivesAll (walk (ASet id)) at (map Val (set_at at.world.heap id))
members_in_order id at = walk_given (walk (ASet id)) (set_at at.world.heap id) Val at
    (walked (set_at at.world.heap id) Val (SetMembers id) at (λ place. refl) _ 0 _ refl (omega arith))

pub keys_in_order : (names : Names) (id : ℕ) (at : Setting) → GivesAll (keys names id) at (map pair_key (table_at at.world.heap id).pairs)
keys_in_order names id at =
    walk_given (keys names id) (table_at at.world.heap id).pairs pair_key at
    (walked (table_at at.world.heap id).pairs pair_key (TableKeys id) at (λ place. refl) _ 0 _ refl (omega arith))

pub values_in_order : (id : ℕ) (at : Setting) → GivesAll (walk (ATable id)) at (map (pair_variable id) (table_at at.world.heap id).pairs)
values_in_order id at =
    walk_given (walk (ATable id)) (table_at at.world.heap id).pairs (pair_variable id) at
    (walked (table_at at.world.heap id).pairs (pair_variable id) (TableValues id) at (λ place. refl) _ 0 _ refl (omega arith))

-- Walks by a place below a size

abbrev places_from : ℕ → (ℕ → Item) → (ℕ → Residual) → ℕ → Row
places_from size item kept place = fails_unless (nat_lt place size) (suspends (item place) (kept (place + 1)))

paced : (size : ℕ) (item : ℕ → Item) (kept : ℕ → Residual) (at : Setting) → ((place : ℕ) → again (kept place) at ≡ places_from size item kept place at)
    → (count place n : ℕ) → place + count ≡ size → count < n → results n (places_from size item kept place at) ≡ map item (range_with_len place count)
paced size item kept at is count place zero ends enough = absurd (omega (arith, enough))
paced size item kept at is zero place (suc n) ends enough =
    ap (λ t. results (suc n) (fails_unless t (suspends (item place) (kept (place + 1))) at)) (not_below place size (omega (arith, ends)))
paced size item kept at is (suc count) place (suc n) ends enough =
    ap (λ t. results (suc n) (fails_unless t (suspends (item place) (kept (place + 1))) at)) (lt-ltb place size (omega (arith, ends)))
    ∙ ap (λ later. item place ∷ later)
    (ap (results n) (is (place + 1)) ∙ paced size item kept at is count (place + 1) n (omega (arith, ends)) (omega (arith, enough)))

places_given : (row : Row) (item : ℕ → Item) (first count : ℕ) (at : Setting) → results (count + 1) (row at) ≡ map item (range_with_len first count)
    → GivesAll row at (map item (range_with_len first count))
places_given row item first count at is =
    given row at (map item (range_with_len first count)) (count + 1) is (rw (length-map-range_with_len item first count) (omega arith))

pub items_in_order : (id : ℕ) (at : Setting)
    → GivesAll (walk (AList id)) at (map (element_item id (list_at at.world.heap id)) (places_of (list_at at.world.heap id).items))
items_in_order id at =
    places_given (walk (AList id)) (element_item id (list_at at.world.heap id)) 0 (length (list_at at.world.heap id).items) at
    (paced (length (list_at at.world.heap id).items) (element_item id (list_at at.world.heap id)) (ListItems id) at (λ place. refl) _ 0 _ (omega arith)
    (omega arith))

pub fields_in_order : (id : ℕ) (at : Setting) → GivesAll (walk (ARecord id)) at (map (field_item id) (places_of (record_at at.world.heap id).fields))
fields_in_order id at =
    places_given (walk (ARecord id)) (field_item id) 0 (length (record_at at.world.heap id).fields) at
    (paced (length (record_at at.world.heap id).fields) (field_item id) (RecordFields id) at (λ place. refl) _ 0 _ (omega arith) (omega arith))

-- Counting

fits_or : (m : ℕ) → (if_fits (pos m) ≡ Some (pos m)) ⊎ ((if_fits (pos m) ≡ None) × (9223372036854775807 < m))
fits_or m = by (cases_lt 9223372036854775807 m)
  where
    by : (9223372036854775807 < m) ⊎ (m ≤ 9223372036854775807) → (if_fits (pos m) ≡ Some (pos m)) ⊎ ((if_fits (pos m) ≡ None) × (9223372036854775807 < m))
    by (inl more) = inr (ap (λ (t : Bool). if t then Some (pos m) else None) (not_within m 9223372036854775807 more), more)
    by (inr less) = inl (ap (λ (t : Bool). if t then Some (pos m) else None) (le-leb m 9223372036854775807 less))

abbrev count_up : ℕ → ℕ → Setting → Outcome
count_up last n at = count_from (pos last) (pos 1) (Some (pos n)) at

counted : (last : ℕ) (at : Setting) → last ≤ 9223372036854775807 → (count first n : ℕ) → first + count ≡ last + 1 → count < n
    → results n (count_up last first at) ≡ map (λ k. Val (Integer (pos k))) (range_with_len first count)
counted last at small count first zero ends enough = absurd (omega (arith, enough))
counted last at small zero first (suc n) ends enough =
    ap (λ t. results (suc n) (fails_unless t (suspends (Val (Integer (pos first))) (Counting (pos first) (pos last) (pos 1))) at))
    (not_within first last (omega (arith, ends)))
counted last at small (suc count) first (suc n) ends enough =
    ap (λ t. results (suc n) (fails_unless t (suspends (Val (Integer (pos first))) (Counting (pos first) (pos last) (pos 1))) at))
    (le-leb first last (omega (arith, ends)))
    ∙ ap (λ later. Val (Integer (pos first)) ∷ later)
    (by (fits_or (first + 1)) (counted last at small count (first + 1) n (omega (arith, ends)) (omega (arith, enough))))
  where
    none_left : (m : ℕ) → results m (Fails at) ≡ []
    none_left zero = refl
    none_left (suc m) = refl

    nothing_left : (c : ℕ) → c ≡ zero → [] ≡ map (λ k. Val (Integer (pos k))) (range_with_len (first + 1) c)
    nothing_left c none = rw none refl

    by : (if_fits (pos (first + 1)) ≡ Some (pos (first + 1))) ⊎ ((if_fits (pos (first + 1)) ≡ None) × (9223372036854775807 < first + 1))
        → results n (count_up last (first + 1) at) ≡ map (λ k. Val (Integer (pos k))) (range_with_len (first + 1) count)
        → results n (count_from (pos last) (pos 1) (if_fits (pos (first + 1))) at) ≡ map (λ k. Val (Integer (pos k))) (range_with_len (first + 1) count)
    by (inl is) later = ap (λ o. results n (count_from (pos last) (pos 1) o at)) is ∙ later
    by (inr none) later =
        ap (λ o. results n (count_from (pos last) (pos 1) o at)) none.0 ∙ (none_left n ∙ nothing_left count (omega (arith, ends, none.1, small)))

pub counted_in_order : (first last : ℕ) (at : Setting) → first ≤ last + 1 → last ≤ 9223372036854775807
    → GivesAll (counts first last) at (map integer_item (range_with_len first (last + 1 - first)))
counted_in_order first last at within small =
    places_given (counts first last) integer_item first (last + 1 - first) at
    (counted last at small (last + 1 - first) first _ (omega (arith, within)) (omega arith))
