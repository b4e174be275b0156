use Rattle.std.proofs.Common.{◌≡◌, [], drop, length}
use Rattle.icn_prune.specs.PrunedCode.{with_places}
use Rattle.icn_prune.proofs.places.Places.of_mentions.Given as goal

abbrev pub invariant-loop-place : goal.invariant-loop-place
invariant-loop-place l = record {
  is : with_places l.places.left.items (drop l.place-index l.mentions) ≡ with_places [] l.mentions;
  counted : length l.places.new_places.items ≡ l.count;
}
