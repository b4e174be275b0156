-- The stacks of levels that stand outside others: a stack is kept once, by its number, and made of an earlier one.
use Rattle.std.specs.Prelude.{◌≡◌, ℕ, ◌+◌, ◌<◌, List, [], ◌∷◌, ◌++◌, Option, Some, All, length, map, slice_get, slice_index_or}
use Rattle.std.specs.Option.{option_map}
use Rattle.icn_verify.specs.declared.shape.Level.{Level}
use Rattle.icn_verify.specs.declared.arena.StackedLevel.{StackedLevel}
use Rattle.icn_verify.specs.declared.flat.Flat.{Flat}
use Rattle.icn_verify.specs.declared.table.Slot.{Slot}
use Rattle.icn_verify.specs.declared.table.Slot.TheVariants.{Free, One, Several}
use Rattle.icn_verify.specs.Shapes.{PlainShape}
use Rattle.icn_verify.specs.Passing.{Arrival, unseen, one, several}

-- the stack of this number; the first is the empty one
abbrev pub stack_at : List (List Level) → ℕ → List Level
stack_at stacks number = slice_index_or stacks number []

-- each entry is a level on an earlier stack
abbrev pub stacks_with : List (List Level) → List StackedLevel → List (List Level)
stacks_with stacks [] = stacks
stacks_with stacks (entry ∷ entries) =
    stacks_with (stacks ++ (entry.level ∷ stack_at stacks entry.outer) ∷ []) entries

-- the stacks of these entries by their numbers, the empty one first
abbrev pub stacks_of : List StackedLevel → List (List Level)
stacks_of entries = stacks_with ([] ∷ []) entries

-- each stack is there once, and each entry's own stack is where it says
pub record IsOnce (entries : List StackedLevel) : Type 0 where
  pub differ : (i j : ℕ) → i < length (stacks_of entries) → j < length (stacks_of entries)
      → stack_at (stacks_of entries) i ≡ stack_at (stacks_of entries) j → i ≡ j
  pub built : (k : ℕ) (entry : StackedLevel) → slice_get entries k ≡ Some entry → (entry.outer < k + 1)
      × (stack_at (stacks_of entries) (k + 1) ≡ entry.level ∷ stack_at (stacks_of entries) entry.outer)

-- more stacks may have come; those that were there are as they were
pub record StacksGrow (old new : List (List Level)) : Type 0 where
  pub more : List (List Level)
  pub is : new ≡ old ++ more

module _ (stacks : List (List Level)) where
  -- a shape whose outer levels are the stack of its number
  abbrev pub shape_in : Flat → PlainShape
  shape_in flat =
      record { in_create = flat.in_create; inner = flat.inner; outer = stack_at stacks flat.outer }

  -- the number of its stack is one
  abbrev pub IsHeld : Flat → Type 0
  IsHeld flat = flat.outer < length stacks

  -- what came to an address, with the stacks of their numbers
  abbrev pub seen_in : Slot → Arrival
  seen_in Free = unseen
  seen_in (One flat) = one (shape_in flat)
  seen_in (Several fewest) = several fewest

  -- the number in a slot, if it has one, is that of a stack
  abbrev pub IsKept : Slot → Type 0
  IsKept Free = Unit {0}
  IsKept (One flat) = IsHeld flat
  IsKept (Several fewest) = Unit {0}

  -- the numbers in all slots are of stacks
  pub record AreKept (slots : List Slot) : Type 0 where
    pub each : All IsKept slots

  -- what came to each address
  abbrev pub table_in : List Slot → List Arrival
  table_in slots = map seen_in slots

  -- an address and the shape that goes there
  abbrev pub sent_in : Option (ℕ × Flat) → Option (ℕ × PlainShape)
  sent_in to = option_map (λ p. (p.0, shape_in p.1)) to
