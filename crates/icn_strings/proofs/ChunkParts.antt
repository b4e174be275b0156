-- Chunks as parts, and where a range is found in them.
use Rattle.std.proofs.Common.{◌≡◌, ◌∙◌, sym, ap, subst, ℕ, ◌-◌, ◌<◌, ◌≤◌, true, false, List, [], ◌∷◌, length, get_or, arith}
use Rattle.std.specs.List.{All, AllPairs, AllWithin, HoldsAt, list_any}
use Rattle.std.specs.List.Sorted.{IsNonDecreasingBy}
use Rattle.std.proofs.lemmas.List.{get_or-map, length-map}
use Rattle.icn_strings.specs.declared.byte_range.ByteRange.{ByteRange}
use Rattle.icn_strings.specs.declared.chunk.Chunk.{Chunk}
use Rattle.icn_strings.specs.Parts.{RegionPart, holds, EndsBefore}
use Rattle.icn_strings.specs.Chunks.{part_of_chunk, parts_of_chunks}
use Rattle.icn_strings.proofs.HeldRanges.{IsFoundThere, at_begun, firsts_rise, found_before, none_begun}

-- the part at an index is the chunk there
part_at : (chunks : List Chunk) (k : ℕ) (d : RegionPart) (e : Chunk) → k < length chunks
    → get_or (parts_of_chunks chunks) k d ≡ part_of_chunk (get_or chunks k e)
part_at chunks k d e within = get_or-map part_of_chunk chunks k e d within

-- what holds of all parts holds of each chunk as a part
pub chunk_has : (P : RegionPart → Type 0) (chunks : List Chunk) (k : ℕ) (e : Chunk) → k < length chunks → All P (parts_of_chunks chunks)
    → P (part_of_chunk (get_or chunks k e))
chunk_has P chunks k e within are =
    let long = length-map chunks part_of_chunk in
    subst P (part_at chunks k (part_of_chunk e) e within) (are k (part_of_chunk e) (omega (arith, long, within)))

-- chunks in order begin one behind the other
pub chunks_rise : (chunks : List Chunk) → AllPairs EndsBefore (parts_of_chunks chunks) → IsNonDecreasingBy (λ (chunk : Chunk). chunk.first) chunks
chunks_rise chunks order i j d upto within =
    let long = length-map chunks part_of_chunk in
    let rise = firsts_rise (parts_of_chunks chunks) order i j (part_of_chunk d) upto (omega (arith, within, long)) in
    let one = ap (λ (part : RegionPart). part.first) (part_at chunks i (part_of_chunk d) d (omega (arith, upto, within))) in
    let other = ap (λ (part : RegionPart). part.first) (part_at chunks j (part_of_chunk d) d within) in
    omega (arith, rise, one, other)

-- a chunk of a list that has one
some_chunk : (chunks : List Chunk) (k : ℕ) → k < length chunks → Chunk
some_chunk [] k within = absurd (omega (arith, within))
some_chunk (chunk ∷ chunks) k within = chunk

parts_before : (chunks : List Chunk) (start count : ℕ) → count ≤ length chunks → AllWithin (λ (chunk : Chunk). chunk.first ≤ start) chunks 0 count
    → AllWithin (λ (part : RegionPart). part.first ≤ start) (parts_of_chunks chunks) 0 count
parts_before chunks start count few before k d from to =
    let within : k < length chunks = omega (arith, to, few) in
    let e : Chunk = some_chunk chunks k within in
    let chunk = before k e from to in
    let one = ap (λ (part : RegionPart). part.first) (part_at chunks k d e within) in
    omega (arith, chunk, one)

parts_behind : (chunks : List Chunk) (start count : ℕ) → AllWithin (λ (chunk : Chunk). start < chunk.first) chunks count (length chunks)
    → AllWithin (λ (part : RegionPart). start < part.first) (parts_of_chunks chunks) count (length (parts_of_chunks chunks))
parts_behind chunks start count behind k d from to =
    let long = length-map chunks part_of_chunk in
    let within : k < length chunks = omega (arith, to, long) in
    let e : Chunk = some_chunk chunks k within in
    let chunk = behind k e from within in
    let one = ap (λ (part : RegionPart). part.first) (part_at chunks k d e within) in
    omega (arith, chunk, one)

module _ (range : ByteRange) (chunks : List Chunk) (count : ℕ) (order : AllPairs EndsBefore (parts_of_chunks chunks)) (some : 0 < range.len)
    (few : count ≤ length chunks) (before : AllWithin (λ (chunk : Chunk). chunk.first ≤ range.start) chunks 0 count)
    (behind : AllWithin (λ (chunk : Chunk). range.start < chunk.first) chunks count (length chunks)) where
  few_parts : count ≤ length (parts_of_chunks chunks)
  few_parts = let long = length-map chunks part_of_chunk in omega (arith, few, long)

  -- where none begins so early
  pub none_there : count ≡ 0 → false ≡ list_any (holds range) (parts_of_chunks chunks)
  none_there = none_begun (parts_of_chunks chunks) range count order some few_parts (parts_before chunks range.start count few before)
      (parts_behind chunks range.start count behind)

  -- the last that begins so early has it, or none
  pub held_there : (chunk : Chunk) → 0 < count → chunk ≡ get_or chunks (count - 1) chunk
      → holds range (part_of_chunk chunk) ≡ list_any (holds range) (parts_of_chunks chunks)
  held_there chunk begun is =
      at_begun (parts_of_chunks chunks) range count (part_of_chunk chunk) order some few_parts (parts_before chunks range.start count few before)
      (parts_behind chunks range.start count behind) begun
      (ap part_of_chunk is ∙ sym (part_at chunks (count - 1) (part_of_chunk chunk) chunk (omega (arith, begun, few))))

  pub found_there : list_any (holds range) (parts_of_chunks chunks) ≡ true → IsFoundThere range (parts_of_chunks chunks) count
  found_there held = found_before (parts_of_chunks chunks) range count order held some few_parts (parts_before chunks range.start count few before)
      (parts_behind chunks range.start count behind)

  pub within_there : list_any (holds range) (parts_of_chunks chunks) ≡ true → count - 1 < length chunks
  within_there held =
      let long = length-map chunks part_of_chunk in
      let found = found_there held in
      let within = found.within in
      omega (arith, within, long)

  pub chunk_there : list_any (holds range) (parts_of_chunks chunks) ≡ true
      → HoldsAt (λ (chunk : Chunk). holds range (part_of_chunk chunk) ≡ true) chunks (count - 1)
  chunk_there held e =
      let found = found_there held in
      subst (λ (part : RegionPart). holds range part ≡ true) (part_at chunks (count - 1) (part_of_chunk e) e (within_there held))
      (found.there (part_of_chunk e))
