use Rattle.std.proofs.Common.{◌-◌, refl, arith}
use Rattle.icn_strings.specs.declared.byte_range.ByteRange.{ByteRange}
use Rattle.icn_strings.proofs.GatheredRuns.{joined_of, overlap_is_of, overlap_of}
use Rattle.icn_strings.proofs.region.Region.joined_run.Goals as goal

pub returns-then-range-end-clause-joined : goal.returns-then-range-end-clause-joined
returns-then-range-end-clause-joined c =
    let region = c.args.self.now in
    let run = c.args.run in
    let range = c.args.range in
    let to = c.max-to.result in
    let both : ByteRange = record { start = run.start; len = to - run.start } in
    joined_of region run range both to c.requires.from (omega (arith, c.if-range-end.true)) c.max-to.ensures refl refl
    (overlap_is_of region run range both
    (overlap_of run range both to c.requires.some c.requires.from c.if-range-end.true c.max-to.ensures refl refl) c.requires.run c.requires.range)

pub is_together-requires : goal.is_together-requires
is_together-requires c = omega (arith, c.max-to.ensures, c.requires.some, c.requires.from)

pub returns-then-is_together-clause-joined : goal.returns-then-is_together-clause-joined
returns-then-is_together-clause-joined c =
    let run = c.args.run in
    let to = c.max-to.result in
    let both : ByteRange = record { start = run.start; len = to - run.start } in
    joined_of c.args.self.now run c.args.range both to c.requires.from (omega (arith, c.if-end-range.false)) c.max-to.ensures refl refl
    (c.is_together.ensures c.if-is_together.true)
