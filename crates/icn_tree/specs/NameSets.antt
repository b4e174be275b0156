-- Sets of names.
use Rattle.std.specs.Prelude.{ℕ, Bool, true, false, List, if◌then◌else◌}
use Rattle.std.specs.HashSet.{contains_by}
use Rattle.std.specs.Str.{bytes_eq}
use Rattle.icn_tree.specs.declared.names.NameSet.{NameSet}

-- which names were met
abbrev pub NameTest : Type 0
NameTest = List ℕ → Bool

-- no name was met so far
abbrev pub none_met : NameTest
none_met = λ name. false

-- this name was met too
abbrev pub with_name : NameTest → List ℕ → NameTest
with_name met name = λ other. if bytes_eq name other then true else met other

-- a name is in the set
abbrev pub has : NameSet → NameTest
has set name = contains_by (λ key. bytes_eq name key.now) set.names
