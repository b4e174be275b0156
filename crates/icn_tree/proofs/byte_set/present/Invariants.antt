use Rattle.std.proofs.Common.{◌≡◌, ◌<◌, ℕ, ◌==◌, take, length, slice_index_or, false}
use Rattle.std.specs.List.{list_any}
use Rattle.icn_tree.proofs.byte_set.present.Given as goal

abbrev pub invariant-loop-byte : goal.invariant-loop-byte
invariant-loop-byte l = (length l.present ≡ 256) × ((k : ℕ) → k < 256 → slice_index_or l.present k false ≡ list_any (λ b. b == k) (take l.byte-index l.bytes))
