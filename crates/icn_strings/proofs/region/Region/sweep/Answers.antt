use Rattle.std.proofs.Common.{◌≡◌, ◌≤◌, ◌∙◌, ℕ, List, length, refl, sym, ap, subst, arith}
use Rattle.std.proofs.lemmas.List.Sorted.{All-permutation}
use Rattle.icn_strings.specs.declared.byte_range.ByteRange.{ByteRange}
use Rattle.icn_strings.specs.declared.chunk.Chunk.{Chunk}
use Rattle.icn_strings.specs.declared.region.Region.{Region}
use Rattle.icn_strings.specs.Parts.{RegionPart, sizes}
use Rattle.icn_strings.specs.KeptRuns.{kept_of, AreKeptRuns}
use Rattle.icn_strings.specs.Regions.{held_by, IsOf}
use Rattle.icn_strings.proofs.AddedBytes.{sound_same}
use Rattle.icn_strings.proofs.ChunkSizes.{sizes_before}
use Rattle.icn_strings.proofs.ClosedParts.{refused}
use Rattle.icn_strings.proofs.GatheredRuns.{kept_is_of, kept_permuted, sound_swept}
use Rattle.icn_strings.proofs.KeptRegions.{means_same, unchanged}
use Rattle.icn_strings.proofs.region.Region.sweep.Goals as goal

-- what is kept, by what the region holds then
kept_as : (region : Region) (sorted : List ByteRange) (kept after : List RegionPart) → AreKeptRuns region sorted kept → after ≡ kept
    → AreKeptRuns region sorted after
kept_as region sorted kept after are same = subst (λ (parts : List RegionPart). AreKeptRuns region sorted parts) (sym same) are

pub gather-requires-clause-of : goal.gather-requires-clause-of
gather-requires-clause-of c =
    All-permutation (IsOf c.args.self.now) c.args.keep.now c.sort_by_start.new.ranges c.sort_by_start.ensures.permutation c.requires

pub invariant_of-self : goal.invariant_of-self
invariant_of-self c =
    let old = c.args.self.now in
    let same = c.in_err-put_behind.ensures.unchanged in
    record {
      sound = sound_same old.written.bytes old.closed _ old.last old.last old.sum old.limit old.sound same refl;
      counted = old.counted ∙ sym (ap (λ (parts : List RegionPart). sizes parts) same);
    }

pub returns-in_err-put_behind-clause-err : goal.returns-in_err-put_behind-clause-err
returns-in_err-put_behind-clause-err c =
    refused c.from_residual-in_err-put_behind.result (unchanged c.in_err-put_behind.ensures.unchanged refl refl refl refl)

pub size-self-requires : goal.size-self-requires
size-self-requires c =
    let old = c.args.self.now in
    let are = kept_as old c.sort_by_start.new.ranges (kept_of old c.in_ok-kept.kept) c.put_behind.new.self c.in_ok-kept.ensures
    c.in_ok-put_behind.ensures.put in
    let runs = are.runs in
    let small : sizes c.put_behind.new.self ≤ length old.written.bytes =
    sizes_before c.put_behind.new.self (length old.written.bytes) runs.order runs.before in
    omega (arith, small, old.sound.short)

pub invariant_of-self-2 : goal.invariant_of-self-2
invariant_of-self-2 c =
    let old = c.args.self.now in
    let are = kept_as old c.sort_by_start.new.ranges (kept_of old c.in_ok-kept.kept) c.put_behind.new.self c.in_ok-kept.ensures
    c.in_ok-put_behind.ensures.put in
    let last : Chunk = record { first = c.end-first.result; bytes = c.new.result } in
    record {
      sound =
          sound_swept old.written.bytes old.closed c.put_behind.new.self old.last last old.sum old.limit old.sound are.runs
          c.end-first.ensures.end c.new.ensures.items;
      counted = c.size-self.ensures;
    }

pub returns-clause-of : goal.returns-clause-of
returns-clause-of c =
    let old = c.args.self.now in
    let are = kept_as old c.sort_by_start.new.ranges (kept_of old c.in_ok-kept.kept) c.put_behind.new.self c.in_ok-kept.ensures
    c.in_ok-put_behind.ensures.put in
    let all = kept_permuted old c.args.keep.now c.sort_by_start.new.ranges c.put_behind.new.self c.sort_by_start.ensures.permutation are in
    kept_is_of _ c.args.keep.now all.kept

pub returns-clause-few : goal.returns-clause-few
unfolding held_by
returns-clause-few c =
    let old = c.args.self.now in
    let are = kept_as old c.sort_by_start.new.ranges (kept_of old c.in_ok-kept.kept) c.put_behind.new.self c.in_ok-kept.ensures
    c.in_ok-put_behind.ensures.put in
    let all = kept_permuted old c.args.keep.now c.sort_by_start.new.ranges c.put_behind.new.self c.sort_by_start.ensures.permutation are in
    let few = all.few in
    let empty : length c.new.result.items ≡ 0 = ap (λ (ys : List ℕ). length ys) c.new.ensures.items in
    omega (arith, few, empty)

pub returns-clause-means : goal.returns-clause-means
returns-clause-means c = means_same refl refl
