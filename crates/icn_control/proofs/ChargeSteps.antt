-- A co-expression that is charged.
use Rattle.std.proofs.Common.{◌≡◌, ℕ, suc, ◌+◌, nat_le, Bool, true, false, List, [], ◌∷◌, ◌++◌, length, Result, Ok, Err, MatchResult, refl, sym, ap, ◌∙◌, subst, inl, inr, arith}
use Rattle.std.specs.Prelude.{IsErrAnd, if◌then◌else◌}
use Rattle.std.specs.List.{All}
use Rattle.std.proofs.lemmas.List.{length-append}
use Rattle.icn_value.specs.declared.full.Full.{Full}
use Rattle.icn_value.specs.declared.full.Full.TheVariants.{Cells, NoMemory, Strings}
use Rattle.icn_value.specs.declared.item.Pair.{Pair}
use Rattle.icn_value.specs.declared.val.Val.{Val}
use Rattle.icn_value.specs.Store.{Heap, Outside, Setting, having_heap}
use Rattle.icn_value.specs.Changes.{ChangedHeap, Refuses, and_then, charged_cells, having_coexp, made_coexp}
use Rattle.icn_defs.specs.Rows.{Row, Outcome, Gives, costs_cells}
use Rattle.icn_heap.specs.declared.heap.Heap.{Heap as HeldHeap}
use Rattle.icn_heap.specs.Extents.{Extent, IsLive, KeepsValues}
use Rattle.icn_heap.specs.Heaps.{extent_of, heap_of}
use Rattle.icn_vars.specs.declared.words.Words.{Words}
use Rattle.icn_vars.specs.WorldFacts.{IsSoundWorld}
use Rattle.icn_vars.specs.declared.stop.Stop.{Stop}
use Rattle.icn_vars.specs.Outcomes.{HaltsRow}
use Rattle.icn_vars.specs.Stops.{StopsPassing, halt_of, stop_of}
use Rattle.icn_vars.specs.Worlds.{KeepsFields, field_counts}
use Rattle.icn_vars.proofs.GrowingWorlds.{heap_changed, setting_over}
use Rattle.icn_vars.proofs.HeapChanges.{cells_change, charged_then, fields_behind, change_stops}
use Rattle.icn_run.specs.Rows.{Val as ItemVal, ACoexp, coexpression_row}

-- what is paid leaves the co-expressions and the limits

paid_is : (t : Bool) (paid made : Heap) (why : Full) → (let r : ChangedHeap = if t then Ok paid else Err why in r) ≡ Ok made → paid ≡ made
paid_is true paid made why is = cc
paid_is false paid made why is = cc

paid_heap : (heap paid : Heap) (count : ℕ) → charged_cells heap count ≡ Ok paid → record heap { cells = heap.cells + count } ≡ paid
unfolding charged_cells
paid_heap heap paid count is =
    paid_is (nat_le (heap.cells + count) heap.bounds.cells) (record heap { cells = heap.cells + count }) paid (Cells heap.cells heap.bounds.cells) is

-- the heap that is made, by what was paid
record IsMade (heap made paid : Heap) (count : ℕ) : Type 0 where
  paid_so : charged_cells heap (1 + count) ≡ Ok paid
  made_so : having_coexp paid ≡ made
  same : paid.coexps ≡ heap.coexps

made_by : (heap made : Heap) (count : ℕ) → made_coexp heap count ≡ Ok made → (paid : Heap) × IsMade heap made paid count
made_by heap made count is =
    let split = charged_then having_coexp (charged_cells heap (1 + count)) made is in
    (split.0, record { paid_so = split.1; made_so = split.2; same = sym (ap (λ (h : Heap). h.coexps) (paid_heap heap split.0 (1 + count) split.1)) })

pub one_more : (heap made : Heap) (count : ℕ) → made_coexp heap count ≡ Ok made → made.coexps ≡ heap.coexps ++ 0 ∷ []
one_more heap made count is =
    let by = made_by heap made count is in
    sym (ap (λ (h : Heap). h.coexps) by.1.made_so) ∙ ap (λ (cs : List ℕ). cs ++ 0 ∷ []) by.1.same

pub counted_more : (heap made : Heap) (count : ℕ) → made_coexp heap count ≡ Ok made → length made.coexps ≡ suc (length heap.coexps)
counted_more heap made count is =
    let l : length (heap.coexps ++ 0 ∷ []) ≡ length heap.coexps + 1 = length-append heap.coexps (0 ∷ []) in
    ap length (one_more heap made count is) ∙ omega (arith, l)

pub bounds_stay : (heap made : Heap) (count : ℕ) → made_coexp heap count ≡ Ok made → made.bounds ≡ heap.bounds
bounds_stay heap made count is =
    let by = made_by heap made count is in
    sym (ap (λ (h : Heap). h.bounds) by.1.made_so) ∙ sym (ap (λ (h : Heap). h.bounds) (paid_heap heap by.0 (1 + count) by.1.paid_so))

pub fields_stay : (heap made : Heap) (count : ℕ) → made_coexp heap count ≡ Ok made → KeepsFields (field_counts heap) (field_counts made)
fields_stay heap made count is = fields_behind (cells_change (1 + count)) having_coexp (λ heap. refl) heap made is

-- where the whole is refused, its charge is

refused_first : (charged : ChangedHeap) (full : Full) → and_then charged (λ paid. let r : ChangedHeap = Ok (having_coexp paid) in r) ≡ Err full
    → charged ≡ Err full
refused_first (Ok paid) full is = cc
refused_first (Err why) full is = is

first_refuses : (heap : Heap) (count : ℕ) (full : Full) → Refuses (made_coexp heap count) full → Refuses (charged_cells heap (1 + count)) full
first_refuses heap count full (inl none) = inl none
first_refuses heap count full (inr is) = inr (refused_first (charged_cells heap (1 + count)) full is)

-- a row that stops at its charge
row_stops : (all : Extent) (part : Row → Row) (next : Row) (before after : Setting) (full : Full) → StopsPassing all part before after (stop_of full)
    → HaltsRow all (part next) before after (halt_of (stop_of full))
row_stops all part next before after (Strings sum limit) h = h next
row_stops all part next before after (Cells sum limit) h = h next
row_stops all part next before after NoMemory h = tt

-- the row once its charge is paid
abbrev rest : Row
rest setting = let counts = setting.world.heap.coexps in
    Gives (ItemVal (ACoexp (length counts))) (having_heap (λ heap. record heap { coexps = counts ++ 0 ∷ [] }) setting)

module _ (old new : HeldHeap) (pair : Pair) (words : Words) (globals statics : List Val) (keeps : KeepsValues (extent_of old) (extent_of new))
    (sound : IsSoundWorld (extent_of old) pair words globals statics) where
  pub makes : (count : ℕ) → made_coexp (heap_of old) count ≡ Ok (heap_of new) → (outside : Outside) (locals : List Val) → All (IsLive (extent_of old)) locals
      → coexpression_row count (setting_over outside old pair words globals statics locals)
      ≡ Gives (ItemVal (ACoexp (length (heap_of old).coexps))) (setting_over outside new pair words globals statics locals)
  makes count is outside locals live =
      let by = made_by (heap_of old) (heap_of new) count is in
      let before : Setting = setting_over outside old pair words globals statics locals in
      let F : Setting → Outcome = λ s. Gives (ItemVal (ACoexp (length by.0.coexps))) s in
      (cells_change (1 + count)).ok before by.0 by.1.paid_so rest
      ∙ ap F (heap_changed outside old new pair words globals statics locals keeps (sym by.1.made_so) sound live)
      ∙ ap (λ (cs : List ℕ). Gives (ItemVal (ACoexp (length cs))) (setting_over outside new pair words globals statics locals)) by.1.same

  pub refuses : (count : ℕ) → heap_of new ≡ heap_of old → (full : Full) → Refuses (made_coexp (heap_of old) count) full
      → (outside : Outside) (locals : List Val) → All (IsLive (extent_of old)) locals
      → HaltsRow (extent_of new) (coexpression_row count) (setting_over outside old pair words globals statics locals)
      (setting_over outside new pair words globals statics locals) (halt_of (stop_of full))
  refuses count same full why outside locals live =
      row_stops (extent_of new) (costs_cells (1 + count)) rest (setting_over outside old pair words globals statics locals)
      (setting_over outside new pair words globals statics locals) full
      (change_stops old new pair words globals statics locals keeps sound live (cells_change (1 + count)) same full (first_refuses (heap_of old) count full why)
      (extent_of new) outside)

-- an answer that stops
pub at_stop : {A : Type 0} (result : Result A Stop) (stop : Stop) (P : A → Type 0) (Q : Stop → Type 0) → IsErrAnd result (λ s. s ≡ stop) → Q stop
    → MatchResult result P Q
at_stop (Err s) stop P Q e q = subst Q (sym e) q
at_stop (Ok a) stop P Q e q = absurd e

pub at_stop_with : {A : Type 0} (result : Result A Stop) (stop : Stop) (P : Result A Stop → Type 0) → IsErrAnd result (λ s. s ≡ stop) → P (Err stop) → P result
at_stop_with (Err s) stop P e q = subst (λ (x : Stop). P (Err x)) (sym e) q
at_stop_with (Ok a) stop P e q = absurd e
