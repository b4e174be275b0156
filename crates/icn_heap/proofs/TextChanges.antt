-- Texts that join a heap.
use Rattle.std.proofs.Common.{◌≡◌, ◌∙◌, refl, sym, ap, ℕ, ◌+◌, ◌<◌, ◌≤◌, List, ◌++◌, length, Result, Ok, Err, inl, inr, ◌↔◌, arith, length-append}
use Rattle.std.proofs.lemmas.Bool.{cases_lt}
use Rattle.icn_strings.specs.declared.region.Region.{Region}
use Rattle.icn_strings.specs.declared.byte_range.ByteRange.{ByteRange}
use Rattle.icn_strings.specs.declared.full.RegionFull.{RegionFull}
use Rattle.icn_strings.specs.declared.full.RegionFull.TheVariants.{Strings as StringsRegion, NoMemory as NoRoom}
use Rattle.icn_strings.specs.Regions.{IsOf, KeepsRanges as KeepsTexts, bytes_of, sum_of, limit_of}
use Rattle.icn_value.specs.declared.full.Full.{Full}
use Rattle.icn_value.specs.declared.val.Span.{Span}
use Rattle.icn_value.specs.Store.{Heap}
use Rattle.icn_value.specs.Changes.{charged_strings, Refuses, LimitsFirst}
use Rattle.icn_heap.specs.Extents.{Extent, range_of, IsText, text_in}
use Rattle.icn_heap.specs.RegionRefusals.{strings_full}
use Rattle.icn_heap.specs.HeapParts.{Parts, heap_over, extent_in, IsSoundHeap}
use Rattle.icn_heap.proofs.HeapCharges.{strings_fit, strings_full_is, limits_ok, limits_err}
use Rattle.icn_heap.proofs.GrowingHeaps.{Becomes}
use Rattle.icn_heap.proofs.OtherChanges.{texts_join}

-- a text of the region is one of the heap
pub text_is : (all : Extent) (span : Span) {range : ByteRange} → range_of span ≡ range → IsOf all.strings range → IsText all span
text_is all span {range} same is = record { of = rw same is }

pub text_has : (all : Extent) (span : Span) {range : ByteRange} {bytes : List ℕ} → range_of span ≡ range → bytes_of all.strings range ≡ bytes
    → text_in all span ≡ bytes
unfolding text_in
text_has all span {range} same is = rw same is

module _ (parts : Parts) (is : IsSoundHeap parts) (strings : Region) (texts : KeepsTexts parts.strings strings) where
  -- texts that are charged
  pub texts_charged : (n : ℕ) → sum_of strings ≡ sum_of parts.strings + n → sum_of strings ≤ limit_of strings
      → charged_strings (heap_over (extent_in parts) parts) n
      ≡ Ok (heap_over (extent_in (record parts { strings = strings })) (record parts { strings = strings }))
  texts_charged n sum within =
      let limit : limit_of strings ≡ parts.limits.strings = texts.limit ∙ is.charged.limit in
      let done : Becomes parts (record parts { strings = strings }) _ = texts_join parts is strings texts in
      strings_fit (heap_over (extent_in parts) parts) n (sum_of strings) sum (rw (← limit) within) ∙ ap Ok (sym done.stands)

  -- texts that are not
  pub texts_same : sum_of strings ≡ sum_of parts.strings
      → heap_over (extent_in (record parts { strings = strings })) (record parts { strings = strings }) ≡ heap_over (extent_in parts) parts
  texts_same same =
      let done : Becomes parts (record parts { strings = strings }) _ = texts_join parts is strings texts in
      done.stands ∙ ap (λ sum. let heap : Heap = record (heap_over (extent_in parts) parts) { strings = sum } in heap) same

-- why the region refused is why the heap does

module _ (parts : Parts) (is : IsSoundHeap parts) (n : ℕ) {full : RegionFull}
    (exact : (let refused : Result ByteRange RegionFull = Err full in refused ≡ Err (StringsRegion (sum_of parts.strings) (limit_of parts.strings)))
    ↔ (limit_of parts.strings < sum_of parts.strings + n))
    (memory : sum_of parts.strings + n ≤ limit_of parts.strings → (let refused : Result ByteRange RegionFull = Err full in refused ≡ Err NoRoom)) where
  limit : limit_of parts.strings ≡ parts.limits.strings
  limit = is.charged.limit

  refused_past : limit_of parts.strings < sum_of parts.strings + n → charged_strings (heap_over (extent_in parts) parts) n ≡ Err (strings_full full)
  refused_past past =
      let is : full ≡ StringsRegion (sum_of parts.strings) (limit_of parts.strings) = (let e = exact.1 past in cc) in
      strings_full_is (heap_over (extent_in parts) parts) n (let same = limit in omega arith) ∙ (rw (is, limit) refl)

  pub text_refused : Refuses (charged_strings (heap_over (extent_in parts) parts) n) (strings_full full)
  text_refused =
      elim (cases_lt (limit_of parts.strings) (sum_of parts.strings + n)) [
        | inl past ↦ inr (refused_past past)
        | inr fits ↦
            let is : full ≡ NoRoom = (let e = memory fits in cc) in
            inl (rw is refl)
      ]

  pub text_limits : {A : Type 0} (result : Result A Full) → result ≡ Err (strings_full full)
      → LimitsFirst (charged_strings (heap_over (extent_in parts) parts) n) result
  text_limits result answer =
      elim (cases_lt (limit_of parts.strings) (sum_of parts.strings + n)) [
        | inl past ↦ limits_err (refused_past past) answer
        | inr fits ↦ limits_ok (strings_fit (heap_over (extent_in parts) parts) n _ refl (let same = limit in omega arith))
      ]

-- how long two texts are together, by their ranges
pub joined_len : (all : Extent) (a b : Span) {p q : ByteRange} → p ≡ range_of a → q ≡ range_of b → length (bytes_of all.strings p) ≡ p.len
    → length (bytes_of all.strings q) ≡ q.len
    → length (text_in all a ++ text_in all b) ≡ p.len + q.len
unfolding text_in
joined_len all a b {p} {q} is is' first second =
    let one : length (bytes_of all.strings (range_of a)) ≡ p.len = (rw (← is) first) in
    let two : length (bytes_of all.strings (range_of b)) ≡ q.len = (rw (← is') second) in
    rw length-append (omega arith)

pub joined_is : (old new : Extent) (a b span : Span) {p q range : ByteRange} → p ≡ range_of a → q ≡ range_of b → range_of span ≡ range
    → bytes_of new.strings range ≡ bytes_of old.strings p ++ bytes_of old.strings q
    → text_in new span ≡ text_in old a ++ text_in old b
unfolding text_in
joined_is old new a b span {p} {q} {range} is is' same bytes = rw (same, bytes, is, is') refl
