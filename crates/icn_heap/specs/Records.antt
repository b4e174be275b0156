-- Records as a heap holds them.
use Rattle.std.specs.Prelude.{◌≡◌, ℕ, List, [], map}
use Rattle.icn_structs.specs.Shelves.{Shelved}
use Rattle.icn_value.specs.declared.val.Val.{Val}

-- the number of its constructor, and the values of its fields
pub record HeldRecord : Type 0 where
  pub kind : ℕ
  pub values : List Val

-- the number of its constructor
abbrev pub kind_of : HeldRecord → ℕ
kind_of held = held.kind

-- a record of this kind with these fields, as it is held
abbrev pub held_record : ℕ → List Val → HeldRecord
held_record kind values = record { kind = kind; values = values }

-- the record without fields, for a number that no record has
abbrev pub no_fields : HeldRecord
no_fields = held_record 0 []

-- these are the kinds of all records that were ever made
pub record AreKindsOf (records : Shelved HeldRecord) (kinds : List ℕ) : Type 0 where
  pub are : kinds ≡ map kind_of records.things
