use Rattle.std.proofs.Common.{◌+◌, None, Some, length, inr, ap, arith}
use Rattle.std.specs.Option.{option_map}
use Rattle.std.proofs.lemmas.Result.{err_from_is_err_and}
use Rattle.icn_tree.specs.Tokens.{lines_from}
use Rattle.icn_lex.specs.Outcomes.{literal_read}
use Rattle.icn_lex.proofs.ScannedLines.{later_of, line_more, fault_outcome, unclosed_outcome, scanned_outcome}
use Rattle.icn_lex.proofs.ReadSoFar.{reads_same}
use Rattle.icn_lex.proofs.scanner.tokens.Goals as goal

pub loop-line-preserved : goal.loop-line-preserved
loop-line-preserved c =
    let lines = c.args.lines.now.lines.items in
    let all = lines_from lines None in
    let i = c.loop-line.line-index in
    c.in_ok-begun.ensures (later_of lines (i + 1)) all
    (reads_same all c.loop-line.tokens.items _ _ (line_more lines i c.line-item.result (option_map literal_read c.loop-line.begun)
    (rw c.deref-line-items.ensures.value at c.loop-line-test.true) (rw c.deref-line-items.ensures.value at c.line-item.is)) c.loop-line.invariant)

pub returns-in_err-begun : goal.returns-in_err-begun
returns-in_err-begun c = record {
  exact =
      let lines = c.args.lines.now.lines.items in
      let all = lines_from lines None in
      let i = c.loop-line.line-index in
      let p = err_from_is_err_and c.from_residual.result c.from_residual.ensures.1 in
      rw (p.1, p.2)
      (fault_outcome lines c.in_err-begun.field-0.0 (c.in_err-begun.ensures (later_of lines (i + 1)) all
      (reads_same all c.loop-line.tokens.items _ _ (line_more lines i c.line-item.result (option_map literal_read c.loop-line.begun)
      (rw c.deref-line-items.ensures.value at c.loop-line-test.true) (rw c.deref-line-items.ensures.value at c.line-item.is)) c.loop-line.invariant)));
}

pub returns-in-Some : goal.returns-in-Some
returns-in-Some c = record {
  exact =
      let lines = c.args.lines.now.lines.items in
      rw c.unclosed_fault.ensures
      (unclosed_outcome lines c.loop-line.tokens.items c.loop-line.line-index (literal_read c.in-Some.literal)
      (omega (arith, ap length c.deref-line-items.ensures.value)) (rw c.in-Some.is at c.loop-line.invariant));
}

pub returns-in-None : goal.returns-in-None
returns-in-None c = record {
  exact =
      let lines = c.args.lines.now.lines.items in
      inr (ap Some (scanned_outcome lines c.loop-line.tokens.items c.loop-line.line-index (omega (arith, ap length c.deref-line-items.ensures.value))
      (rw c.in-None.is at c.loop-line.invariant)));
}
