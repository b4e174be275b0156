use Rattle.std.proofs.Common.{◌+◌, ◌-◌, ◌*◌, ◌++◌, ap}
use Rattle.std.specs.List.{flat_map, range_with_len}
use Rattle.icont_units.specs.Generated.{numbered_from, procedure_lines}
use Rattle.icont_units.proofs.ProgramLines.{none_done, procedure_step, procedures_done, three_more}
use Rattle.icont_units.proofs.program_lines.add_procedures.Goals as goal

pub loop-i-init : goal.loop-i-init
loop-i-init c = record {
  is = λ later. ap (λ n. c.args.lines.now.items ++ numbered_from 1 (flat_map procedure_lines (range_with_len 1 n) ++ later)) (none_done c.args.count);
}

pub loop-i-preserved : goal.loop-i-preserved
loop-i-preserved c = record {
  is = λ later. procedure_step c.loop-i.lines.items c.add_procedure.new.lines.items _ (3 * c.loop-i.i + 1) (3 * (c.loop-i.i + 1) + 1)
      c.loop-i.i c.args.count later c.loop-i-test.true (three_more c.loop-i.i) c.in_ok-add_procedure.ensures (c.loop-i.invariant.is later);
}

pub returns : goal.returns
returns c = λ later. procedures_done c.loop-i.lines.items _ c.loop-i.i c.args.count later c.loop-i.auto.i-end c.loop-i-test.false (c.loop-i.invariant.is later)
