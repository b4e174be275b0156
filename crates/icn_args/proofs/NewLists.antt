-- New lists, as the rest of a row finds them.
use Rattle.std.proofs.Common.{◌≡◌, ◌∙◌, sym, ap, ◌+◌, List, length, Err, Ok, subst, ⊎_elim}
use Rattle.icn_value.specs.declared.full.Full.{Full}
use Rattle.icn_value.specs.declared.full.Full.TheVariants.{Strings, Cells, NoMemory}
use Rattle.icn_structs.specs.Numbered.{NumberedList}
use Rattle.icn_value.specs.Values.{Value, AList}
use Rattle.icn_value.specs.Store.{Heap, Setting, having_heap}
use Rattle.icn_value.specs.Changes.{ChangedHeap, Refuses, and_then, charged_cells, having_list, made_list, next_list}
use Rattle.icn_defs.specs.Calls.{GoesOn}
use Rattle.icn_defs.specs.Rows.{Row, changes_heap, costs_cells, new_list_of}
use Rattle.icn_heap.specs.Extents.{Extent}
use Rattle.icn_vars.specs.Stops.{StopsFinding, StopsPassing, stop_of}
use Rattle.icn_vars.proofs.HeapChanges.{cells_change, charged_then}

-- what the row does behind the charge
after_charge : List Value → (Value → Row) → Row
after_charge items next setting = changes_heap (having_list items) (next (AList (length setting.world.heap.lists))) setting

pub list_made : (setting : Setting) (items : List Value) (made : Heap) → made_list setting.world.heap items ≡ Ok made
    → GoesOn (new_list_of items) setting (next_list setting.world.heap) (having_heap (λ heap. made) setting)
unfolding after_charge
list_made setting items made is next =
    let paid = charged_then (having_list items) (charged_cells setting.world.heap (1 + length items)) made is in
    (cells_change (1 + length items)).ok setting paid.0 paid.1 (after_charge items next)
    ∙ (ap (λ (heap : Heap). next (AList (length paid.0.lists)) (having_heap (λ other. heap) setting)) paid.2
    ∙ ap (λ (lists : List (NumberedList Value)). next (AList (length lists)) (having_heap (λ other. made) setting))
    ((cells_change (1 + length items)).charged setting.world.heap paid.0 paid.1).lists)

-- the charge of the list is refused
refused : (items : List Value) (charge : ChangedHeap) (full : Full)
    → and_then charge (λ paid. let r : ChangedHeap = Ok (having_list items paid) in r) ≡ Err full → charge ≡ Err full
refused items (Ok paid) full is = cc
refused items (Err why) full is = cc

finding_by : (all : Extent) (setting : Setting) (items : List Value) (full : Full)
    → StopsPassing all (costs_cells (1 + length items)) setting setting (stop_of full)
    → StopsFinding all (new_list_of items) setting setting (stop_of full)
unfolding after_charge
finding_by all setting items (Strings sum limit) is = λ next. is (after_charge items next)
finding_by all setting items (Cells sum limit) is = λ next. is (after_charge items next)
finding_by all setting items NoMemory is = tt

pub list_refused : (all : Extent) (setting : Setting) (items : List Value) (full : Full) → Refuses (made_list setting.world.heap items) full
    → StopsFinding all (new_list_of items) setting setting (stop_of full)
list_refused all setting items full why =
    ⊎_elim (λ (e : full ≡ NoMemory). subst (λ f. StopsFinding all (new_list_of items) setting setting (stop_of f)) (sym e) tt)
    (λ (e : made_list setting.world.heap items ≡ Err full). finding_by all setting items full
    ((cells_change (1 + length items)).err all setting full (refused items (charged_cells setting.world.heap (1 + length items)) full e))) why
