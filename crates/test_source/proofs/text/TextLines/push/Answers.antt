use Rattle.std.proofs.Common.{is_ok, arith}
use Rattle.icn_tree.specs.declared.lines.SourceLine.{SourceLine}
use Rattle.test_source.proofs.Texts.{joined_by, named_by}
use Rattle.test_source.proofs.text.TextLines.push.Goals as goal

pub invariant_of-self : goal.invariant_of-self
invariant_of-self c =
    let line : SourceLine = record { bytes = c.in_ok-bytes.bytes; file = 0; number = c.args.number } in record {
      within = rw (← c.in_ok-bytes.ensures) (joined_by (is_ok c.push.result) c.args.self.now.lines.items c.push.new.self.items line c.args.self.now.len
          c.push.ensures.items c.args.self.now.within);
      small = omega arith;
      named = named_by (is_ok c.push.result) c.args.self.now.lines.items c.push.new.self.items line c.args.self.now.names.items c.push.ensures.items
          c.args.self.now.named (omega (arith, c.args.self.now.has_name));
      has_name = c.args.self.now.has_name;
    }
