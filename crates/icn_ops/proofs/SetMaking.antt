-- New sets, as the rest of a row finds them.
use Rattle.std.proofs.Common.{◌≡◌, ◌∙◌, sym, ap, ◌+◌, ◌&&◌, ◌||◌, not, List, length, Err, Ok, subst, ⊎_elim}
use Rattle.icn_value.specs.Csets.{HasMembers, has}
use Rattle.icn_value.specs.Members.{contains, members, members_of}
use Rattle.icn_value.specs.declared.cset.Cset.{Cset}
use Rattle.icn_value.specs.declared.full.Full.{Full}
use Rattle.icn_value.specs.declared.full.Full.TheVariants.{Strings, Cells, NoMemory}
use Rattle.icn_value.specs.Values.{Value, ASet}
use Rattle.icn_value.specs.Store.{Heap, Setting, having_heap}
use Rattle.icn_value.specs.Changes.{ChangedHeap, Refuses, and_then, charged_cells, next_set}
use Rattle.icn_defs.specs.Calls.{GoesOn}
use Rattle.icn_defs.specs.Operations.{new_set_of}
use Rattle.icn_defs.specs.Rows.{Row, changes_heap, costs_cells}
use Rattle.icn_heap.specs.Extents.{Extent}
use Rattle.icn_heap.specs.MadeStructures.{having_members, made_set_of}
use Rattle.icn_vars.specs.Stops.{StopsFinding, StopsPassing, stop_of}
use Rattle.icn_vars.proofs.HeapChanges.{cells_change, charged_then}
use Rattle.icn_ops.proofs.TwoOperandSteps.{member_is, members_are}

-- what the row does behind the charge
after_charge : List Value → (Value → Row) → Row
after_charge items next setting = changes_heap (having_members items) (next (ASet (length setting.world.heap.sets))) setting

-- a new set is found, and the row goes on with it
pub set_made : (setting : Setting) (items : List Value) (made : Heap) → made_set_of setting.world.heap items ≡ Ok made
    → GoesOn (new_set_of items) setting (next_set setting.world.heap) (having_heap (λ heap. made) setting)
unfolding after_charge
set_made setting items made is next =
    let paid = charged_then (having_members items) (charged_cells setting.world.heap (1 + length items)) made is in
    (cells_change (1 + length items)).ok setting paid.0 paid.1 (after_charge items next)
    ∙ (ap (λ (heap : Heap). next (ASet (length paid.0.sets)) (having_heap (λ other. heap) setting)) paid.2
    ∙ ap (λ (sets : List (List Value)). next (ASet (length sets)) (having_heap (λ other. made) setting))
    ((cells_change (1 + length items)).charged setting.world.heap paid.0 paid.1).sets)

-- the charge of the set is refused
refused : (items : List Value) (charge : ChangedHeap) (full : Full)
    → and_then charge (λ paid. let r : ChangedHeap = Ok (having_members items paid) in r) ≡ Err full → charge ≡ Err full
refused items (Ok paid) full is = cc
refused items (Err why) full is = cc

finding_by : (all : Extent) (setting : Setting) (items : List Value) (full : Full)
    → StopsPassing all (costs_cells (1 + length items)) setting setting (stop_of full)
    → StopsFinding all (new_set_of items) setting setting (stop_of full)
unfolding after_charge
finding_by all setting items (Strings sum limit) is = λ next. is (after_charge items next)
finding_by all setting items (Cells sum limit) is = λ next. is (after_charge items next)
finding_by all setting items NoMemory is = tt

-- a new set for which there is no room stops the row
pub set_refused : (all : Extent) (setting : Setting) (items : List Value) (full : Full) → Refuses (made_set_of setting.world.heap items) full
    → StopsFinding all (new_set_of items) setting setting (stop_of full)
set_refused all setting items full why =
    ⊎_elim (λ (e : full ≡ NoMemory). subst (λ f. StopsFinding all (new_set_of items) setting setting (stop_of f)) (sym e) tt)
    (λ (e : made_set_of setting.world.heap items ≡ Err full). finding_by all setting items full
    ((cells_change (1 + length items)).err all setting full (refused items (charged_cells setting.world.heap (1 + length items)) full e))) why

-- Csets of two

pub either_members : (a b both : Cset) → HasMembers both (λ byte. has a byte || has b byte)
    → members_of both ≡ members (λ byte. contains (members_of a) byte || contains (members_of b) byte)
either_members a b both is = members_are both (λ byte. contains (members_of a) byte || contains (members_of b) byte)
    (λ byte below. is.is byte below
    ∙ (ap (λ t. t || has b byte) (sym (member_is a byte below)) ∙ ap (λ t. contains (members_of a) byte || t) (sym (member_is b byte below))))

pub shared_members : (a b both : Cset) → HasMembers both (λ byte. has a byte && has b byte)
    → members_of both ≡ members (λ byte. contains (members_of a) byte && contains (members_of b) byte)
shared_members a b both is = members_are both (λ byte. contains (members_of a) byte && contains (members_of b) byte)
    (λ byte below. is.is byte below
    ∙ (ap (λ t. t && has b byte) (sym (member_is a byte below)) ∙ ap (λ t. contains (members_of a) byte && t) (sym (member_is b byte below))))

pub unshared_members : (a b both : Cset) → HasMembers both (λ byte. has a byte && not (has b byte))
    → members_of both ≡ members (λ byte. contains (members_of a) byte && not (contains (members_of b) byte))
unshared_members a b both is = members_are both (λ byte. contains (members_of a) byte && not (contains (members_of b) byte))
    (λ byte below. is.is byte below
    ∙ (ap (λ t. t && not (has b byte)) (sym (member_is a byte below)) ∙ ap (λ t. contains (members_of a) byte && not t) (sym (member_is b byte below))))
