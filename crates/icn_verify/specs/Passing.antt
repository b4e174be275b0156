-- One forward pass over a procedure: what was seen to come to each address, and the first rule that is broken.
use Rattle.std.specs.Prelude.{ℕ, ◌+◌, Bool, true, false, ◌&&◌, not, nat_le, nat_lt, List, [], ◌∷◌, Option, None, Some, if◌then◌else◌, min, slice_index_or, slice_set, length, replicate}
use Rattle.icn_tree.specs.declared.rule.Rule.{Rule}
use Rattle.icn_tree.specs.declared.rule.Rule.TheVariants.{V1, V2, V3, V4, V5}
use Rattle.icn_code.specs.declared.instr.Instr.{Instr}
use Rattle.icn_verify.specs.declared.shape.Level.{Level}
use Rattle.icn_verify.specs.Shapes.{PlainShape, look_of, same_level, start_shape}
use Rattle.icn_verify.specs.Rows.{row_of, lacks, meets, next, forward, back, strays}

-- the same truth value
abbrev pub bool_eq : Bool → Bool → Bool
bool_eq true b = b
bool_eq false b = not b

-- the same levels in the same order
abbrev pub same_levels : List Level → List Level → Bool
same_levels [] [] = true
same_levels (a ∷ as') (b ∷ bs) = same_level a b && same_levels as' bs
same_levels _ _ = false

-- two shapes are alike
abbrev pub same_shape : PlainShape → PlainShape → Bool
same_shape a b = bool_eq a.in_create b.in_create && same_level a.inner b.inner && same_levels a.outer b.outer

-- what came to an address: nothing, one shape, or several, of which the fewest operands are kept
pub data Arrival : Type 0 where
  unseen : Arrival
  one : PlainShape → Arrival
  several : ℕ → Arrival

-- with one more shape
abbrev pub with_shape : Arrival → PlainShape → Arrival
with_shape unseen shape = one shape
with_shape (one before) shape =
    if same_shape before shape then one before else several (min before.inner.operands shape.inner.operands)
with_shape (several fewest) shape = several (min fewest shape.inner.operands)

-- what was seen to come to an address
abbrev pub seen_at : List Arrival → ℕ → Arrival
seen_at table address = slice_index_or table address unseen

-- one more shape came to an address, if it goes anywhere
abbrev pub with_arrival : List Arrival → Option (ℕ × PlainShape) → List Arrival
with_arrival table None = table
with_arrival table (Some to) = slice_set table to.0 (with_shape (seen_at table to.0) to.1)

-- just this shape came to an address
abbrev pub is_one : Arrival → PlainShape → Bool
is_one unseen shape = false
is_one (one before) shape = same_shape before shape
is_one (several fewest) shape = false

-- a label leads back to an address to which the wanted shape didn't come
abbrev pub misses : List Arrival → ℕ → Option (ℕ × PlainShape) → Bool
misses table address None = false
misses table address (Some to) = nat_le to.0 address && not (is_one (seen_at table to.0) to.1)

-- the rule that is broken where one shape came, and the least one
abbrev pub rule_of_one : List Arrival → ℕ → Instr → PlainShape → Option Rule
rule_of_one table address instr shape =
    if lacks instr shape then Some V1
    else if misses table address (back instr shape) then Some V2
    else if strays instr address then Some V3
    else if meets (row_of instr).asks (look_of shape) then None
    else Some V4

-- the rule that is broken at an address, by what was seen to come there
abbrev pub rule_at : List Arrival → ℕ → Instr → Arrival → Option Rule
rule_at table address instr unseen = None
rule_at table address instr (one shape) = rule_of_one table address instr shape
rule_at table address instr (several fewest) = Some (if nat_lt fewest (row_of instr).takes then V1 else V2)

-- the table with what goes out of an address
abbrev pub pass_on : List Arrival → ℕ → Instr → Arrival → List Arrival
pass_on table address instr unseen = table
pass_on table address instr (one shape) =
    with_arrival (with_arrival table (next instr address shape)) (forward instr shape)
pass_on table address instr (several fewest) = table

-- the rule that is broken where something comes to the end of the instructions
abbrev pub rule_at_end : Arrival → Option Rule
rule_at_end unseen = None
rule_at_end (one shape) = Some V5
rule_at_end (several fewest) = Some V2

-- a rule that is broken, with the address
abbrev pub at_address : ℕ → Option Rule → Option (Rule × ℕ)
at_address address None = None
at_address address (Some rule) = Some (rule, address)

-- the rule that is broken at this address, or else what is broken behind it
abbrev pub first_placed : ℕ → Option Rule → Option (Rule × ℕ) → Option (Rule × ℕ)
first_placed address None rest = rest
first_placed address (Some rule) rest = Some (rule, address)

-- what is found from an address on
abbrev pub first_fault : List Arrival → ℕ → List Instr → Option (Rule × ℕ)
first_fault table address [] = at_address address (rule_at_end (seen_at table address))
first_fault table address (instr ∷ instrs) =
    first_placed address (rule_at table address instr (seen_at table address))
    (first_fault (pass_on table address instr (seen_at table address)) (address + 1) instrs)

-- the table at the start: the base alone came to the first address
abbrev pub first_table : ℕ → List Arrival
first_table count = one (start_shape false) ∷ replicate count unseen

-- the first rule that is broken in a procedure, with its instruction address
abbrev pub fault_of : List Instr → Option (Rule × ℕ)
fault_of instrs = first_fault (first_table (length instrs)) 0 instrs
