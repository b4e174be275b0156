use Rattle.std.proofs.Common.{List, length, ap, arith}
use Rattle.std.proofs.lemmas.List.{length-map}
use Rattle.icn_strings.specs.Parts.{RegionPart}
use Rattle.icn_strings.specs.PackedRuns.{part_of}
use Rattle.icn_strings.proofs.PackedRows.{run_whole}
use Rattle.icn_strings.proofs.packed.Packed.is_at.Goals as goal

pub returns-clause-within : goal.returns-clause-within
returns-clause-within c = λ is.
    let long = length-map c.self.inside.runs.items (part_of c.self.inside.bytes.items) in
    let all = ap (λ (parts : List RegionPart). length parts) c.self.view_is in
    omega (arith, long, all, c.if-index-len.false, c.len.ensures, c.self.inside.runs.ok)

pub returns-clause-small : goal.returns-clause-small
returns-clause-small c = λ is. omega (arith, c.if-index-len.false, c.len.ensures, c.self.inside.runs.ok, c.self.inside.runs.small)

pub returns-clause-whole : goal.returns-clause-whole
returns-clause-whole c = λ is d.
    run_whole c.args.range c.self.inside.bytes.items c.self.inside.runs.items c.args.self.now c.args.index c.index.result.now d c.self.invariant
    c.self.view_is (omega (arith, c.if-index-len.false, c.len.ensures, c.self.inside.runs.ok)) c.index.ensures (c.is_whole.ensures.first is)
    (c.is_whole.ensures.len is)
