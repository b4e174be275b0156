use Rattle.std.proofs.Common.{arith, ap, ◌∙◌, Ok, sym}
use Rattle.icn_prep.specs.CursorViews.{cursor_of}
use Rattle.icn_prep.specs.StateViews.{state_of}
use Rattle.icn_prep.proofs.GivingLines.{refuses_by, given_long, given_short}
use Rattle.icn_prep.proofs.give.give.Goals as goal

pub returns-then-reading-len-gt-LONGEST-clause-exact : goal.returns-then-reading-len-gt-LONGEST-clause-exact
returns-then-reading-len-gt-LONGEST-clause-exact c =
    refuses_by _ _ _ (given_long (state_of c.args.reading.now) (cursor_of c.args.cursor.now) c.args.bytes.items c.args.literal c.args.reading.now.size
    c.args.reading.now.counted (omega (arith, c.len.ensures))) (rw c.name_at.ensures at c.line_refusal.ensures)

pub returns-clause-exact : goal.returns-clause-exact
returns-clause-exact c =
    given_short (state_of c.args.reading.now)
    (cursor_of c.args.cursor.now) c.args.bytes.items c.args.literal c.args.reading.now.size c.args.reading.now.counted (omega (arith, c.len-2.ensures))
    ∙ ap (λ lines. Ok (record (state_of c.args.reading.now) { lines = lines; literal = c.args.literal })) (sym (rw c.new.ensures at c.in_ok-push.ensures.items))
