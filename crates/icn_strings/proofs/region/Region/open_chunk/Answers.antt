use Rattle.std.proofs.Common.{◌≡◌, ◌∙◌, [], ◌∷◌, ◌++◌, List, length, refl, ap, sym, subst, arith}
use Rattle.icn_strings.specs.declared.chunk.Chunk.{Chunk}
use Rattle.icn_strings.specs.Parts.{RegionPart, sizes}
use Rattle.icn_strings.specs.Chunks.{part_of_chunk, HasRoom}
use Rattle.icn_strings.proofs.AddedBytes.{sound_closed, sound_same}
use Rattle.icn_strings.proofs.ChunkSizes.{held_within, sizes_more}
use Rattle.icn_strings.proofs.ClosedParts.{refused}
use Rattle.icn_strings.proofs.KeptRegions.{keeps_closed, keeps_same, unchanged}
use Rattle.icn_strings.proofs.region.Region.open_chunk.Goals as goal

pub overflow_add-self : goal.overflow_add-self
overflow_add-self c =
    let old = c.args.self.now in
    omega (arith, old.counted, held_within old, old.sound.short, c.len-size.ensures, old.last.bytes.ok)

pub invariant_of-self : goal.invariant_of-self
invariant_of-self c =
    let old = c.args.self.now in
    let same = c.in_err-add.ensures.unchanged in
    record {
      sound = sound_same old.written.bytes old.closed _ old.last _ old.sum old.limit old.sound same c.in_err-add.ensures.stays;
      counted = old.counted ∙ sym (ap (λ (parts : List RegionPart). sizes parts) same);
    }

pub invariant_of-self-2 : goal.invariant_of-self-2
invariant_of-self-2 c =
    let old = c.args.self.now in
    let items : c.add.new.self ≡ old.closed ++ part_of_chunk old.last ∷ [] = c.in_ok-add.ensures.added in
    let next = c.in_ok-add.ensures.next in
    let more = ap (λ (parts : List RegionPart). sizes parts) items in
    let sum = sizes_more old.closed (part_of_chunk old.last) (length old.last.bytes.items) refl in
    record {
      sound =
          sound_closed old.written.bytes old.closed c.add.new.self old.last c.add.new.last old.sum old.limit old.sound items
          (ap (λ (chunk : Chunk). chunk.first) next ∙ c.end-first.ensures.end)
          (ap (λ (chunk : Chunk). chunk.bytes.items) next ∙ c.in_ok-bytes.ensures.empty);
      counted = omega (arith, old.counted, more, sum, c.len-size.ensures, old.last.bytes.ok);
    }

pub returns-clause-room : goal.returns-clause-room
returns-clause-room c =
    subst (λ (chunk : Chunk). HasRoom chunk c.args.len) (sym c.in_ok-add.ensures.next) c.in_ok-bytes.ensures.room

pub returns-clause-kept : goal.returns-clause-kept
returns-clause-kept c = keeps_closed c.in_ok-add.ensures.added refl refl

pub returns-in_err-add-clause-kept : goal.returns-in_err-add-clause-kept
returns-in_err-add-clause-kept c = keeps_same c.in_err-add.ensures.unchanged c.in_err-add.ensures.stays refl refl

pub returns-in_err-add-clause-err : goal.returns-in_err-add-clause-err
returns-in_err-add-clause-err c =
    refused c.from_residual-in_err-add.result (unchanged c.in_err-add.ensures.unchanged c.in_err-add.ensures.stays refl refl refl)
