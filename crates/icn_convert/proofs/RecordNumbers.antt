-- Records of one name, counted.
use Rattle.std.proofs.Common.{◌≡◌, ◌∙◌, sym, ap, ℕ, ◌+◌, ◌<◌, Bool, true, false, List, [], take, get_or, length, arith}
use Rattle.std.specs.List.{count_by, slice_get}
use Rattle.std.specs.Prelude.{unwrap_or}
use Rattle.std.specs.Str.{bytes_eq}
use Rattle.std.proofs.lemmas.List.Sums.{count_by_more_no, count_by_more_yes}
use Rattle.std.proofs.lemmas.Option.{unwrap_or-slice_get}
use Rattle.icn_value.specs.Store.{Names, Record}
use Rattle.icn_defs.specs.Images.{record_name}
use Rattle.icn_heap.specs.declared.heap.Heap.{Heap}
use Rattle.icn_heap.specs.Heaps.{heap_of}

-- whether a record has the name of another
abbrev pub is_namesake : Names → Heap → ℕ → Record → Bool
is_namesake names heap id other = bytes_eq (unwrap_or (slice_get names.records other.kind) []) (record_name names (heap_of heap) id)

at : (names : Names) (heap : Heap) (id place : ℕ) (t : Bool) → bytes_eq (record_name names (heap_of heap) place) (record_name names (heap_of heap) id) ≡ t
    → is_namesake names heap id (get_or (heap_of heap).records place (record { kind = 0; fields = [] })) ≡ t
at names heap id place t is =
    ap (is_namesake names heap id) (sym (unwrap_or-slice_get (heap_of heap).records place (record { kind = 0; fields = [] }))) ∙ is

pub one_more : (names : Names) (heap : Heap) (id place : ℕ) → place < length (heap_of heap).records
    → bytes_eq (record_name names (heap_of heap) place) (record_name names (heap_of heap) id) ≡ true
    → count_by (is_namesake names heap id) (take (place + 1) (heap_of heap).records)
    ≡ count_by (is_namesake names heap id) (take place (heap_of heap).records) + 1
one_more names heap id place below is =
    count_by_more_yes (is_namesake names heap id) (heap_of heap).records place (record { kind = 0; fields = [] }) below
    (at names heap id place true is)

pub no_more : (names : Names) (heap : Heap) (id place : ℕ) → place < length (heap_of heap).records
    → bytes_eq (record_name names (heap_of heap) place) (record_name names (heap_of heap) id) ≡ false
    → count_by (is_namesake names heap id) (take (place + 1) (heap_of heap).records) ≡ count_by (is_namesake names heap id) (take place (heap_of heap).records)
no_more names heap id place below is =
    count_by_more_no (is_namesake names heap id) (heap_of heap).records place (record { kind = 0; fields = [] }) below
    (at names heap id place false is)

pub tested : (a b shown wanted : List ℕ) (result t : Bool) → result ≡ bytes_eq a b → a ≡ shown → b ≡ wanted → result ≡ t → bytes_eq shown wanted ≡ t
tested a b shown wanted result t is same alike found = rw (← same, ← alike) (sym is ∙ found)

pub counted_more : (number count next : ℕ) → number ≡ 1 + count → next ≡ count + 1 → number + 1 ≡ 1 + next
counted_more number count next is more = omega arith

pub counted_same : (number count next : ℕ) → number ≡ 1 + count → next ≡ count → number ≡ 1 + next
counted_same number count next is same = omega arith
