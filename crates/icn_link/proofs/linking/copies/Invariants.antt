use Rattle.std.proofs.Common.{◌≡◌, ◌++◌, drop}
use Rattle.icn_link.specs.Views.{texts_seen}
use Rattle.icn_link.proofs.linking.copies.Given as goal

abbrev pub invariant-loop-text : goal.invariant-loop-text
invariant-loop-text l = l.copies.items ++ texts_seen (drop l.text-index l.texts) ≡ texts_seen l.texts
