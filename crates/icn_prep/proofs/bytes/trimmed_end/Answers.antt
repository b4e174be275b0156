use Rattle.std.proofs.Common.{sym, ◌∙◌}
use Rattle.icn_prep.proofs.TrimmedEnds.{end_blank}
use Rattle.icn_prep.proofs.bytes.trimmed_end.Goals as goal

pub loop-last-preserved : goal.loop-last-preserved
loop-last-preserved c =
    end_blank c.loop-last.text.now c.in-Some.front.now c.in-Some.last.now (c.in-Some.ensures.cases).0 (sym c.is_blank.ensures ∙ c.if-is_blank.true)
    ∙ c.loop-last.invariant
