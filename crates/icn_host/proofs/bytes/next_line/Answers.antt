use Rattle.icn_host.proofs.LineSteps.{line_appended}
use Rattle.icn_host.proofs.bytes.next_line.Goals as goal

pub returns-then-end-bytes-clause-plain : goal.returns-then-end-bytes-clause-plain
returns-then-end-bytes-clause-plain c =
    line_appended c.args.bytes.now _ _ c.line_len-end.result c.line_len-end.ensures c.in_ok-extend_from_slice.ensures.items
