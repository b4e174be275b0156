-- Sets of labels.
use Rattle.std.specs.Prelude.{ℕ, Bool, true, false, nat_eq, Option, None, Some, if◌then◌else◌}
use Rattle.std.specs.Option.{option_map_or}
use Rattle.std.specs.HashSet.{contains}
use Rattle.icn_ucode.specs.declared.labels.LabelSet.{LabelSet}

-- a label is in the set
abbrev pub holds : LabelSet → ℕ → Bool
holds labels label = contains nat_eq labels.labels label

-- no label is in the set
abbrev pub no_labels : ℕ → Bool
no_labels = λ label. false

-- the set with one label more
abbrev pub with_label : (ℕ → Bool) → ℕ → ℕ → Bool
with_label labels label = λ other. if nat_eq label other then true else labels other

-- the label that has its place at an instruction is in a set
abbrev pub has_place : (ℕ → Bool) → Option ℕ → Bool
has_place labels place = option_map_or (λ label. labels label) place false

-- the label that an instruction goes to is in a set
abbrev pub known_label : (ℕ → Bool) → Option ℕ → Bool
known_label labels goal = option_map_or (λ label. labels label) goal true

-- a set of labels, with the label whose place this is, if it is one
abbrev pub with_place : (ℕ → Bool) → Option ℕ → ℕ → Bool
with_place labels None = labels
with_place labels (Some label) = with_label labels label
