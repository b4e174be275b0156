use Rattle.std.proofs.Common.{◌≡◌, ◌++◌, map, take, drop}
use Rattle.std.specs.Prelude.{slice_index}
use Rattle.icn_strings.proofs.chunk.put_images.Given as goal

-- the images stand so far
abbrev pub invariant-loop-place : goal.invariant-loop-place
invariant-loop-place l = l.bytes ≡ map (slice_index l.images) (take l.place l.initial.bytes) ++ drop l.place l.initial.bytes
