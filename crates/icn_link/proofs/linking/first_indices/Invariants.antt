use Rattle.std.proofs.Common.{◌≡◌, drop, ℕ, List}
use Rattle.std.specs.Option.{option_or}
use Rattle.icn_link.specs.Joined.{index_of}
use Rattle.icn_link.specs.Views.{texts_seen, entry_in}
use Rattle.icn_link.proofs.NameMaps.{numbered}
use Rattle.icn_link.proofs.linking.first_indices.Given as goal

abbrev pub invariant-loop-index : goal.invariant-loop-index
invariant-loop-index l = (name : List ℕ) → option_or (entry_in l.indices name) (numbered l.index (texts_seen (drop l.index l.names)) name)
    ≡ index_of (texts_seen l.names) name
