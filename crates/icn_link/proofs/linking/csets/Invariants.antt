use Rattle.std.proofs.Common.{◌≡◌, ◌++◌, drop, map}
use Rattle.icn_link.specs.Joined.{cset_of}
use Rattle.icn_link.specs.Views.{texts_seen}
use Rattle.icn_link.proofs.linking.csets.Given as goal

abbrev pub invariant-loop-set : goal.invariant-loop-set
invariant-loop-set l = l.csets.items ++ map cset_of (texts_seen (drop l.set-index l.sets)) ≡ map cset_of (texts_seen l.sets)
