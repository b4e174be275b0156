use Rattle.std.proofs.Common.{arith}
use Rattle.icn_streams.proofs.FirstNewline.{newline_found, newline_missing}
use Rattle.icn_streams.proofs.opened.line_length.Goals as goal

pub returns-in-Some-clause-length : goal.returns-in-Some-clause-length
returns-in-Some-clause-length c = newline_found c.args.bytes.now c.in-Some.place c.in-Some.ensures.0 c.in-Some.ensures.1

pub returns-in-Some-clause-within : goal.returns-in-Some-clause-within
returns-in-Some-clause-within c = omega (arith, c.in-Some.ensures.0.high)

pub returns-in-None-clause-length : goal.returns-in-None-clause-length
returns-in-None-clause-length c = newline_missing c.args.bytes.now c.in-None.ensures
