-- Tables of what came to the places, as slots show them.
use Rattle.std.proofs.Common.{◌≡◌, ℕ, zero, suc, ◌+◌, ◌≤◌, false, List, [], ◌∷◌, length, drop, replicate, slice_set, slice_index_or, Option, None, refl, sym, ap, ◌∙◌, arith}
use Rattle.std.proofs.lemmas.List.{map-set, drop_all}
use Rattle.icn_tree.specs.declared.rule.Rule.{Rule}
use Rattle.icn_code.specs.declared.instr.Instr.{Instr}
use Rattle.icn_verify.specs.declared.shape.Level.{Level}
use Rattle.icn_verify.specs.declared.rows.StackEffect.{StackEffect}
use Rattle.icn_verify.specs.declared.flat.Flat.{Flat}
use Rattle.icn_verify.specs.declared.table.Slot.{Slot}
use Rattle.icn_verify.specs.declared.table.Slot.TheVariants.{Free, One, Several}
use Rattle.icn_verify.specs.Shapes.{PlainShape, start_shape}
use Rattle.icn_verify.specs.Rows.{row_of, after, next_by, forward_by, next, forward}
use Rattle.icn_verify.specs.Passing.{Arrival, unseen, one, with_shape, seen_at, with_arrival, pass_on, first_table, rule_at, rule_at_end, at_address, first_placed, first_fault}
use Rattle.icn_verify.specs.Stacks.{StacksGrow, shape_in, seen_in, IsHeld, IsKept, AreKept, table_in}
use Rattle.icn_verify.proofs.KeptStacks.{kept_stack, kept_held}

pub at_slot : (stacks : List (List Level)) (slots : List Slot) (place : ℕ)
    → seen_at (table_in stacks slots) place ≡ seen_in stacks (slice_index_or slots place Free)
at_slot stacks [] place = refl
at_slot stacks (slot ∷ slots) zero = refl
at_slot stacks (slot ∷ slots) (suc place) = at_slot stacks slots place

pub at_slot_is : (stacks : List (List Level)) (slots : List Slot) (place : ℕ) (slot : Slot) → slot ≡ slice_index_or slots place Free
    → seen_at (table_in stacks slots) place ≡ seen_in stacks slot
at_slot_is stacks slots place slot is = at_slot stacks slots place ∙ ap (seen_in stacks) (sym is)

pub arrived_at : (stacks : List (List Level)) (slots : List Slot) (place : ℕ) (slot before : Slot) (flat : Flat) → before ≡ slice_index_or slots place Free
    → seen_in stacks slot ≡ with_shape (seen_in stacks before) (shape_in stacks flat)
    → table_in stacks (slice_set slots place slot)
    ≡ slice_set (table_in stacks slots) place (with_shape (seen_at (table_in stacks slots) place) (shape_in stacks flat))
arrived_at stacks slots place slot before flat is h =
    map-set (seen_in stacks) slots place slot
    ∙ ap (slice_set (table_in stacks slots) place) (h ∙ ap (λ s. with_shape s (shape_in stacks flat)) (sym (at_slot_is stacks slots place before is)))

map_replicate : (stacks : List (List Level)) (count : ℕ) → table_in stacks (replicate count Free) ≡ replicate count unseen
map_replicate stacks zero = refl
map_replicate stacks (suc count) = ap (λ table. unseen ∷ table) (map_replicate stacks count)

pub first_filled : (stacks : List (List Level)) (count more : ℕ) (flat : Flat) → more ≡ count + 1 → shape_in stacks flat ≡ start_shape false
    → table_in stacks (slice_set (replicate more Free) 0 (One flat)) ≡ first_table count
first_filled stacks count zero flat is h = absurd (omega arith)
first_filled stacks count (suc more) flat is h =
    let same : more ≡ count = omega arith in
    λ i. one (h i) ∷ (map_replicate stacks more ∙ ap (λ n. replicate n unseen) same) i

module _ (old new : List (List Level)) (grows : StacksGrow old new) where
  pub kept_shape : (flat : Flat) → IsHeld old flat → shape_in new flat ≡ shape_in old flat
  kept_shape flat held = let same = kept_stack old new flat.outer grows held in λ i. record { in_create = flat.in_create; inner = flat.inner; outer = same i }

  kept_seen : (slot : Slot) → IsKept old slot → seen_in new slot ≡ seen_in old slot
  kept_seen Free kept = refl
  kept_seen (One flat) kept = ap one (kept_shape flat kept)
  kept_seen (Several fewest) kept = refl

  kept_slot : (slot : Slot) → IsKept old slot → IsKept new slot
  kept_slot Free kept = tt
  kept_slot (One flat) kept = kept_held old new flat.outer grows kept
  kept_slot (Several fewest) kept = tt

  pub kept_slots : (slots : List Slot) → AreKept old slots → AreKept new slots
  kept_slots slots kept = record { each = λ k d within. kept_slot (slice_index_or slots k d) (kept.each k d within) }

  pub kept_table : (slots : List Slot) → AreKept old slots → table_in new slots ≡ table_in old slots
  kept_table [] kept = refl
  kept_table (slot ∷ slots) kept =
      let first = kept_seen slot (kept.each 0 slot (omega arith)) in
      let rest = kept_table slots (record { each = λ k d within. kept.each (suc k) d (omega arith) }) in
      λ i. first i ∷ rest i

-- what one shape sends out
pub sent_by : (old new : List (List Level)) → StacksGrow old new → (slots next_slots last_slots : List Slot) → AreKept old slots → (flat left : Flat)
    → IsHeld old flat → (row : StackEffect) (instr : Instr) → row ≡ row_of instr → (place : ℕ)
    → shape_in new left ≡ after row (shape_in old flat)
    → (to on : Option (ℕ × PlainShape)) → to ≡ next_by row.way place (shape_in new left) → on ≡ forward_by row.way (shape_in new flat) (shape_in new left)
    → table_in new next_slots ≡ with_arrival (table_in new slots) to
    → table_in new last_slots ≡ with_arrival (table_in new next_slots) on
    → table_in new last_slots ≡ pass_on (table_in old slots) place instr (one (shape_in old flat))
sent_by old new grows slots next_slots last_slots kept flat left held row instr is place left_is to on to_is on_is first second =
    second ∙ ap (λ t. with_arrival t on) first ∙ ap (λ t. with_arrival (with_arrival t to) on) (kept_table old new grows slots kept)
    ∙ (λ i. with_arrival (with_arrival (table_in old slots) (next_is i)) (forward_is i))
  where
    shape_is : shape_in new left ≡ after (row_of instr) (shape_in old flat)
    shape_is = left_is ∙ ap (λ r. after r (shape_in old flat)) is

    next_is : to ≡ next instr place (shape_in old flat)
    next_is = to_is ∙ (λ i. next_by (is i).way place (shape_is i))

    forward_is : on ≡ forward instr (shape_in old flat)
    forward_is = on_is ∙ (λ i. forward_by (is i).way (kept_shape old new grows flat held i) (shape_is i))

first_none : (place : ℕ) (found : Option Rule) (rest : Option (Rule × ℕ)) → found ≡ None → first_placed place found rest ≡ rest
first_none place found rest h = ap (λ f. first_placed place f rest) h

-- one instruction on
pub judged_on : (table table' : List Arrival) (place : ℕ) (all : List Instr) (instr : Instr) (rest : List Instr) (fault : Option (Rule × ℕ))
    → first_fault table place all ≡ fault → all ≡ instr ∷ rest
    → rule_at table place instr (seen_at table place) ≡ None → table' ≡ pass_on table place instr (seen_at table place)
    → first_fault table' (place + 1) rest ≡ fault
judged_on table table' place all instr rest fault h is none sends =
    ap (λ t. first_fault t (place + 1) rest) sends
    ∙ sym (first_none place (rule_at table place instr (seen_at table place))
    (first_fault (pass_on table place instr (seen_at table place)) (place + 1) rest) none)
    ∙ sym (ap (first_fault table place) is) ∙ h

-- at the end
pub judged_end : (table : List Arrival) (place : ℕ) (all : List Instr) (found : Option Rule) (fault : Option (Rule × ℕ)) → first_fault table place all ≡ fault
    → all ≡ [] → found ≡ rule_at_end (seen_at table place) → at_address place found ≡ fault
judged_end table place all found fault h is end =
    ap (at_address place) end ∙ sym (ap (first_fault table place) is) ∙ h

pub judged_all : (stacks : List (List Level)) (slots : List Slot) (instrs : List Instr) (place : ℕ) (slot : Slot) (found : Option Rule)
    (fault : Option (Rule × ℕ)) → first_fault (table_in stacks slots) place (drop place instrs) ≡ fault
    → length instrs ≤ place → place ≤ length instrs → slot ≡ slice_index_or slots (length instrs) Free → found ≡ rule_at_end (seen_in stacks slot)
    → at_address (length instrs) found ≡ fault
judged_all stacks slots instrs place slot found fault h ge le is end =
    let same : length instrs ≡ place = omega arith in
    ap (λ n. at_address n found) same
    ∙ judged_end (table_in stacks slots) place (drop place instrs) found fault h (drop_all place instrs ge)
    (end ∙ ap rule_at_end (sym (at_slot_is stacks slots (length instrs) slot is) ∙ ap (seen_at (table_in stacks slots)) same))
