use Rattle.std.proofs.Common.{refl, sym, rules}
use Rattle.icn_code.specs.Codes.{proc_of}
use Rattle.icn_machine.proofs.plain_calls.locals_besides.Goals as goal

pub returns : goal.returns
returns c = record {
  entry = proc_of c.in-Some.entry.now;
  there = sym c.in-Some.ensures;
  none_collects = search rules;
  many = search rules;
  locals = refl;
}
