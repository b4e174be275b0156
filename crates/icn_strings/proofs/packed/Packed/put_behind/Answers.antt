use Rattle.std.proofs.Common.{List, length, ap, arith}
use Rattle.std.proofs.lemmas.List.{length-map}
use Rattle.icn_strings.specs.Parts.{RegionPart}
use Rattle.icn_strings.specs.PackedRuns.{part_of}
use Rattle.icn_strings.proofs.ClosedParts.{always}
use Rattle.icn_strings.proofs.PackedBytes.{size_is}
use Rattle.icn_strings.proofs.packed.Packed.put_behind.Goals as goal

pub place_of-at-requires : goal.place_of-at-requires
place_of-at-requires c =
    let long = length-map c.self.inside.runs.items (part_of c.self.inside.bytes.items) in
    let all = ap (λ (parts : List RegionPart). length parts) c.self.view_is in
    omega (arith, long, all, c.if-same-len.false, c.len.ensures, c.self.inside.runs.ok)

pub put_runs-requires-clause-within : goal.put_runs-requires-clause-within
put_runs-requires-clause-within c =
    let long = length-map c.self.inside.runs.items (part_of c.self.inside.bytes.items) in
    let all = ap (λ (parts : List RegionPart). length parts) c.self.view_is in
    omega (arith, long, all, c.if-same-len.false, c.len.ensures, c.self.inside.runs.ok)

pub put_runs-requires-clause-room : goal.put_runs-requires-clause-room
put_runs-requires-clause-room c =
    let size = size_is c.fresh.inside.bytes.items c.fresh.inside.runs.items c.args.fresh.now c.fresh.invariant c.fresh.view_is in
    let few = c.fits.ensures c.if-fits.true in
    omega (arith, size, few, c.len-2.ensures, c.fresh.inside.bytes.ok)

pub returns-then-fits-clause-within : goal.returns-then-fits-clause-within
returns-then-fits-clause-within c =
    let long = length-map c.self.inside.runs.items (part_of c.self.inside.bytes.items) in
    let all = ap (λ (parts : List RegionPart). length parts) c.self.view_is in
    always c.put_runs.result (omega (arith, long, all, c.if-same-len.false, c.len.ensures, c.self.inside.runs.ok))
