use Rattle.std.proofs.Common.{ap, arith, length, ◌<◌, Ok}
use Rattle.icn_prep.specs.LiteralStates.{next_line_state}
use Rattle.icn_prep.specs.RefusedSteps.{◌>>=◌}
use Rattle.icn_prep.specs.CursorViews.{cursor_of}
use Rattle.icn_prep.specs.Cursors.{next_line}
use Rattle.icn_prep.specs.Replacement.{replace_words}
use Rattle.icn_prep.specs.StateViews.{state_of}
use Rattle.icn_prep.specs.TextViews.{texts_of}
use Rattle.icn_prep.proofs.GivingLines.{refuses_by, given_long}
use Rattle.icn_prep.proofs.line.text_line.Goals as goal

pub returns-in_default-clause-exact : goal.returns-in_default-clause-exact
returns-in_default-clause-exact c =
    let s = state_of c.args.reading.now in
    let all = replace_words (texts_of c.args.reading.now.texts).count (texts_of c.args.reading.now.texts).text_of c.args.reading.now.literal c.args.line.now in
    let long : c.saturating_sub-most.result < length all.bytes = rw c.in_default.is at c.in_ok-read.ensures in
    refuses_by _ _ _
    (ap (λ o. o >>= λ s'. Ok (s', next_line (cursor_of c.args.cursor.now))) (given_long s (cursor_of c.args.cursor.now) all.bytes
    (next_line_state all.state) c.args.reading.now.size c.args.reading.now.counted (omega (arith, c.saturating_sub-most.ensures))))
    (rw c.name_at.ensures at c.line_refusal.ensures)
