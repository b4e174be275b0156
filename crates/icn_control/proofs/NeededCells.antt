-- The values of a stack are needed, cell by cell from the lowest up, and those of co-expressions.
use Rattle.std.proofs.Common.{inl, inr, ◌≡◌, ◌∙◌, refl, sym, ap, subst, ℕ, ◌+◌, ◌-◌, ◌<◌, ◌≤◌, List, [], ◌∷◌, ◌++◌, map, length, drop, Some, arith}
use Rattle.std.specs.List.{flat_map}
use Rattle.std.proofs.lemmas.Option.{slice_get_cases}
use Rattle.std.proofs.lemmas.List.{drop_all}
use Rattle.std.proofs.lemmas.List.Concat.{flat_map-cons}
use Rattle.std.proofs.lemmas.List.Elements.{All-append, All-weaker, Contains-append_left, Contains-append_right}
use Rattle.std.proofs.lemmas.List.Sums.{sum_by-append}
use Rattle.icn_value.specs.declared.val.Val.{Val}
use Rattle.icn_heap.specs.declared.needed_values.NeededValues.{NeededValues}
use Rattle.icn_heap.specs.Extents.{IsLive}
use Rattle.icn_heap.specs.NeededValues.{length_of_val, IsNeeded, AreNeeded}
use Rattle.icn_heap.proofs.NeededSteps.{all_front, all_behind, needed_none}
use Rattle.icn_frames.specs.Heights.{cell_at, cut}
use Rattle.icn_frames.specs.Slots.{content_of}
use Rattle.icn_frames.specs.declared.layout.Cell.{Cell}
use Rattle.icn_frames.specs.declared.layout.CellContent.{CellContent}
use Rattle.icn_frames.proofs.SoundStacks.{cut_at}
use Rattle.icn_coexp.specs.declared.entries.CoexpEntry.{CoexpEntry}
use Rattle.icn_coexp.specs.KeptEntries.{coexp_seen}
use Rattle.icn_control.specs.NeededStacks.{cell_vals, content_vals, coexp_vals, entry_vals}

-- some values and then those that stand before them
needed_before : {one two three : NeededValues} {vals others : List Val} → AreNeeded one two vals → AreNeeded two three others
    → AreNeeded one three (others ++ vals)
needed_before {one} {two} {three} {vals} {others} first second = record {
  more = λ val is. second.more val (first.more val is);
  each = All-append (IsNeeded three) others vals second.each (All-weaker (IsNeeded two) (IsNeeded three) second.more vals first.each);
  bytes = omega (arith, first.bytes, second.bytes, sum_by-append length_of_val others vals);
  of_heap = λ all live are.
      second.of_heap all (all_front (IsLive all) others vals live) (first.of_heap all (all_behind (IsLive all) others vals live) are);
  only = λ val is. elim (second.only val is) [
    | inl mid ↦ elim (first.only val mid) [ inl was ↦ inl was | inr one ↦ inr (Contains-append_right others vals val one) ]
    | inr other ↦ inr (Contains-append_left others vals val other)
  ];
}

-- no cell yet
pub cells_none : (needed : NeededValues) (cells : List Cell) → AreNeeded needed needed (flat_map cell_vals (cut 0 cells))
cells_none needed cells =
    let low : length cells ≤ length cells - 0 = omega arith in
    subst (λ (s : List Cell). AreNeeded needed needed (flat_map cell_vals s)) (sym (drop_all (length cells - 0) cells low)) (needed_none needed)

-- one cell more
pub cells_more : {a b c : NeededValues} (cells : List Cell) (i : ℕ) (content : CellContent) → i < length cells
    → ((cell : Cell) → cell_at (i + 1) cells ≡ Some cell → content ≡ content_of cell) → AreNeeded a b (flat_map cell_vals (cut i cells))
    → AreNeeded b c (content_vals content)
    → AreNeeded a c (flat_map cell_vals (cut (i + 1) cells))
cells_more {a} {b} {c} cells i content within is so_far next = elim (slice_get_cases cells (length cells - (i + 1))).1 [
  | inl found ↦
      let back : i + 1 - 1 ≡ i = omega arith in
      let there : cell_at (i + 1 - 1 + 1) cells ≡ Some found.0 = ap (λ (h : ℕ). cell_at (h + 1) cells) back ∙ found.2 in
      let whole : cut (i + 1) cells ≡ found.0 ∷ cut i cells =
      cut_at cells (i + 1) found.0 (omega arith) (omega (arith, within)) there ∙ ap (λ (h : ℕ). found.0 ∷ cut h cells) back in
      let vals : flat_map cell_vals (cut (i + 1) cells) ≡ cell_vals found.0 ++ flat_map cell_vals (cut i cells) =
      ap (flat_map cell_vals) whole ∙ flat_map-cons cell_vals found.0 (cut i cells) in
      subst (AreNeeded a c) (sym vals)
      (needed_before so_far (subst (λ (x : CellContent). AreNeeded b c (content_vals x)) (is found.0 found.2) next))
  | inr past ↦ absurd (omega (arith, past.0, within))
]

-- all cells
pub cells_all : {a b : NeededValues} (cells : List Cell) (i : ℕ) → i ≡ length cells → AreNeeded a b (flat_map cell_vals (cut i cells))
    → AreNeeded a b (flat_map cell_vals cells)
cells_all {a} {b} cells i all are =
    let none : length cells - i ≡ 0 = omega (arith, all) in
    subst (λ (n : ℕ). AreNeeded a b (flat_map cell_vals (drop n cells))) none are

-- the values of entries are those of the co-expressions for which they stand
pub entries_vals : {K : Type 0} (entries : List (CoexpEntry K)) → flat_map coexp_vals (map coexp_seen entries) ≡ flat_map entry_vals entries
entries_vals [] = refl
entries_vals (entry ∷ entries) =
    flat_map-cons coexp_vals (coexp_seen entry) (map coexp_seen entries)
    ∙ (ap (λ (vals : List Val). entry_vals entry ++ vals) (entries_vals entries) ∙ sym (flat_map-cons entry_vals entry entries))
