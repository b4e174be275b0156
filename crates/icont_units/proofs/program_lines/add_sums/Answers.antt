use Rattle.std.proofs.Common.{◌+◌, ◌-◌, ◌*◌, ◌++◌, map, ap, ◌∙◌}
use Rattle.std.specs.List.{range_with_len}
use Rattle.icont_units.specs.Generated.{numbered_from, sum_line}
use Rattle.icont_units.proofs.ProgramLines.{none_done, one_more, plus_none, sum_step, sums_done}
use Rattle.icont_units.proofs.program_lines.add_sums.Goals as goal

pub loop-i-init : goal.loop-i-init
loop-i-init c = record {
  is = λ later. ap (λ k. c.args.lines.now.items ++ numbered_from k (map sum_line (range_with_len 1 (c.args.count - 0)) ++ later))
      (plus_none (3 * c.args.count + 3))
      ∙ ap (λ n. c.args.lines.now.items ++ numbered_from (3 * c.args.count + 3) (map sum_line (range_with_len 1 n) ++ later)) (none_done c.args.count);
}

pub loop-i-preserved : goal.loop-i-preserved
loop-i-preserved c = record {
  is = λ later. sum_step c.loop-i.lines.items c.push.new.self.items _ c.in_ok-line.line (3 * c.args.count + 3 + c.loop-i.i)
      (3 * c.args.count + 3 + (c.loop-i.i + 1)) c.loop-i.i c.args.count later c.loop-i-test.true (one_more (3 * c.args.count + 3) c.loop-i.i)
      c.in_ok-line.ensures c.in_ok-push.ensures.items (c.loop-i.invariant.is later);
}

pub returns : goal.returns
returns c = λ later. sums_done c.loop-i.lines.items _ c.loop-i.i c.args.count later c.loop-i.auto.i-end c.loop-i-test.false (c.loop-i.invariant.is later)
