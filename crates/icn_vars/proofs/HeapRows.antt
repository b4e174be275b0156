-- Rows that make the changes of a heap.
use Rattle.std.proofs.Common.{◌≡◌, ◌∙◌, refl, ap, ℕ, suc, ◌+◌, nat_le, Bool, true, false, None, Ok, Err, arith}
use Rattle.std.specs.Prelude.{if◌then◌else◌, slice_index, slice_set}
use Rattle.icn_value.specs.declared.full.Full.{Full}
use Rattle.icn_value.specs.declared.full.Full.TheVariants.{Cells}
use Rattle.icn_value.specs.Values.{Item, Val}
use Rattle.icn_value.specs.Store.{Heap, Setting, having_heap}
use Rattle.icn_value.specs.Changes.{ChangedHeap, and_then, charged_cells, having_coexp, made_coexp, next_coexp, with_result}
use Rattle.icn_defs.specs.Rows.{Row, Gives, Error, check}
use Rattle.icn_defs.specs.StepRows.{coexpression_row}

-- A charge that is followed by a change, by whether there is room

charged_row : (t : Bool) (next : Row) (item : Item) (paid made : Heap) (why : Full) (setting : Setting)
    → next setting ≡ Gives item (having_heap (λ old. having_coexp paid) setting)
    → and_then (let r : ChangedHeap = if t then Ok paid else Err why in r) (λ heap. let r : ChangedHeap = Ok (having_coexp heap) in r) ≡ Ok made
    → check t 307 None next setting ≡ Gives item (having_heap (λ old. made) setting)
charged_row true next item paid made why setting gives is =
    let same : having_coexp paid ≡ made = cc in
    gives ∙ ap (λ (heap : Heap). Gives item (having_heap (λ old. heap) setting)) same
charged_row false next item paid made why setting gives is = cc

refused_row : (t : Bool) (next : Row) (paid : Heap) (why full : Full) (setting : Setting)
    → and_then (let r : ChangedHeap = if t then Ok paid else Err why in r) (λ heap. let r : ChangedHeap = Ok (having_coexp heap) in r) ≡ Err full
    → check t 307 None next setting ≡ Error 307 None setting
refused_row true next paid why full setting is = cc
refused_row false next paid why full setting is = refl

-- A new co-expression

pub coexp_made : (locals : ℕ) (setting : Setting) (heap : Heap) → made_coexp setting.world.heap locals ≡ Ok heap
    → coexpression_row locals setting ≡ Gives (Val (next_coexp setting.world.heap)) (having_heap (λ old. heap) setting)
unfolding charged_cells
coexp_made locals setting heap is =
    charged_row (nat_le (setting.world.heap.cells + (1 + locals)) setting.world.heap.bounds.cells) _ (Val (next_coexp setting.world.heap))
    (record setting.world.heap { cells = setting.world.heap.cells + (1 + locals) }) heap
    (Cells setting.world.heap.cells setting.world.heap.bounds.cells) setting refl is

pub coexp_refused : (locals : ℕ) (setting : Setting) (full : Full) → made_coexp setting.world.heap locals ≡ Err full
    → coexpression_row locals setting ≡ Error 307 None setting
unfolding charged_cells
coexp_refused locals setting full is =
    refused_row (nat_le (setting.world.heap.cells + (1 + locals)) setting.world.heap.bounds.cells) _
    (record setting.world.heap { cells = setting.world.heap.cells + (1 + locals) })
    (Cells setting.world.heap.cells setting.world.heap.bounds.cells) full setting is

-- One more result

pub result_counted : (id : ℕ) (heap : Heap)
    → with_result id heap ≡ (let counted : Heap = record heap { coexps = slice_set heap.coexps id (suc (slice_index heap.coexps id)) } in counted)
result_counted id heap =
    let more : slice_index heap.coexps id + 1 ≡ suc (slice_index heap.coexps id) = omega arith in
    ap (λ n. let counted : Heap = record heap { coexps = slice_set heap.coexps id n } in counted) more
