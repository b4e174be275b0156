use Rattle.std.proofs.Common.{◌≡◌, true, take}
use Rattle.std.specs.List.{All}
use Rattle.icn_structs.specs.PlacedThings.{is_marked}
use Rattle.icn_structs.proofs.row.are_marked.Given as goal

abbrev pub invariant-loop-found : goal.invariant-loop-found
invariant-loop-found g l = record { are : All (λ kept. is_marked kept ≡ true) (take l.found-index l.there) }
