-- How many bytes parts have together.
use Rattle.std.proofs.Common.{◌≡◌, ◌∙◌, ℕ, suc, ◌+◌, ◌<◌, ◌≤◌, List, [], ◌∷◌, ◌++◌, length, take, get_or, refl, sym, ap, arith}
use Rattle.std.specs.Prelude.{vec_len}
use Rattle.std.specs.List.{All, AllPairs}
use Rattle.std.proofs.lemmas.List.Sums.{sum_by-append, sum_by-cons, sum_by_more, sum_by_more_le, sum_by_push}
use Rattle.icn_strings.specs.declared.chunk.Chunk.{Chunk}
use Rattle.icn_strings.specs.declared.region.Region.{Region}
use Rattle.icn_strings.specs.Parts.{RegionPart, end_of, sizes, EndsBefore}
use Rattle.icn_strings.specs.Chunks.{chunk_sizes, part_of_chunk, parts_of_chunks}
use Rattle.icn_strings.proofs.AddedBytes.{last_ends}

-- none have none
pub sizes_none : (parts : List RegionPart) → parts ≡ [] → 0 ≡ sizes parts
sizes_none parts none = sym (ap (λ (cs : List RegionPart). sizes cs) none)

-- with one more
pub sizes_more : (parts : List RegionPart) (part : RegionPart) (n : ℕ) → length part.bytes ≡ n → sizes (parts ++ part ∷ []) ≡ sizes parts + n
sizes_more parts part n is = sum_by_push (λ (one : RegionPart). length one.bytes) parts part ∙ ap (λ k. sizes parts + k) is

-- parts in order between two places have no more bytes than lie between these
sizes_between : (parts : List RegionPart) (from to : ℕ) → AllPairs EndsBefore parts → All (λ (one : RegionPart). from ≤ one.first) parts
    → All (λ (one : RegionPart). end_of one ≤ to) parts → from ≤ to → from + sizes parts ≤ to
sizes_between [] from to order firsts ends less =
    let empty : sizes [] ≡ 0 = refl in
    omega (arith, empty, less)
sizes_between (part ∷ parts) from to order firsts ends less =
    let begins : from ≤ part.first = firsts 0 part (omega arith) in
    let ending : part.first + length part.bytes ≤ to = ends 0 part (omega arith) in
    let rest : (part.first + length part.bytes) + sizes parts ≤ to =
    sizes_between parts (part.first + length part.bytes) to
    (λ i j d below within. order (suc i) (suc j) d (omega (arith, below)) (omega (arith, within)))
    (λ k d within. order 0 (suc k) d (omega arith) (omega (arith, within))) (λ k d within. ends (suc k) d (omega (arith, within))) ending in
    let both : sizes (part ∷ parts) ≡ length part.bytes + sizes parts =
    sum_by-cons (λ (one : RegionPart). length one.bytes) part parts in
    omega (arith, begins, rest, both)

-- a region holds no more bytes than were written
pub held_within : (region : Region) → sizes region.closed + length region.last.bytes.items ≤ length region.written.bytes
held_within region =
    let before : 0 + sizes region.closed ≤ region.last.first =
    sizes_between region.closed 0 region.last.first region.sound.order (λ k d within. omega arith) region.sound.before (omega arith) in
    omega (arith, before, last_ends region.written.bytes region.last region.sound.ends)

-- parts in order before a place have no more bytes than it
pub sizes_before : (parts : List RegionPart) (place : ℕ) → AllPairs EndsBefore parts → All (λ (one : RegionPart). end_of one ≤ place) parts
    → sizes parts ≤ place
sizes_before parts place order ends =
    let before : 0 + sizes parts ≤ place = sizes_between parts 0 place order (λ k d within. omega arith) ends (omega arith) in
    omega (arith, before)

-- chunks as parts have as many bytes
pub sizes_of_chunks : (chunks : List Chunk) → sizes (parts_of_chunks chunks) ≡ chunk_sizes chunks
sizes_of_chunks [] = refl
sizes_of_chunks (chunk ∷ chunks) =
    let parts : sizes (part_of_chunk chunk ∷ parts_of_chunks chunks) ≡ length chunk.bytes.items + sizes (parts_of_chunks chunks) =
    sum_by-cons (λ (one : RegionPart). length one.bytes) (part_of_chunk chunk) (parts_of_chunks chunks) in
    let all : chunk_sizes (chunk ∷ chunks) ≡ length chunk.bytes.items + chunk_sizes chunks =
    sum_by-cons (λ (one : Chunk). length one.bytes.items) chunk chunks in
    let rest = sizes_of_chunks chunks in
    omega (arith, parts, all, rest)

-- parts and chunks behind them
pub sizes_of_both : (parts : List RegionPart) (chunks : List Chunk) → sizes (parts ++ parts_of_chunks chunks) ≡ sizes parts + chunk_sizes chunks
sizes_of_both parts chunks =
    sum_by-append (λ (one : RegionPart). length one.bytes) parts (parts_of_chunks chunks) ∙ ap (λ n. sizes parts + n) (sizes_of_chunks chunks)

-- Sizes that are added one after the other

module _ (chunks : List Chunk) (i : ℕ) (chunk : Chunk) (sum len : ℕ) (within : i < length chunks) (so_far : sum ≡ chunk_sizes (take i chunks))
    (same : chunk ≡ get_or chunks i chunk) (is : len ≡ vec_len chunk.bytes) where
  long : length chunk.bytes.items ≡ length (get_or chunks i chunk).bytes.items
  long = ap (λ (c : Chunk). length c.bytes.items) same

  pub size_next : sum + len ≡ chunk_sizes (take (i + 1) chunks)
  size_next = omega (arith, so_far, is, chunk.bytes.ok.0, long, sum_by_more (λ (c : Chunk). length c.bytes.items) chunks i chunk within)

  pub size_fits : (most : ℕ) → chunk_sizes chunks < most → sum + len < most
  size_fits most few =
      omega (arith, few, so_far, is, chunk.bytes.ok.0, long, sum_by_more_le (λ (c : Chunk). length c.bytes.items) chunks i chunk within)
