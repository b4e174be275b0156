use Rattle.std.proofs.Common.{arith}
use Rattle.icn_strings.proofs.AddedBytes.{last_ends}
use Rattle.icn_strings.proofs.region.Region.end.Goals as goal

pub overflow_add-result : goal.overflow_add-result
overflow_add-result c =
    let region = c.args.self.now in
    let ends = last_ends region.written.bytes region.last region.sound.ends in
    omega (arith, ends, region.sound.short, c.len.ensures, region.last.bytes.ok)

pub returns-clause-end : goal.returns-clause-end
returns-clause-end c =
    let region = c.args.self.now in
    omega (arith, last_ends region.written.bytes region.last region.sound.ends, c.len.ensures, region.last.bytes.ok)

pub returns-clause-short : goal.returns-clause-short
returns-clause-short c =
    let region = c.args.self.now in
    let ends = last_ends region.written.bytes region.last region.sound.ends in
    omega (arith, ends, region.sound.short, c.len.ensures, region.last.bytes.ok)
