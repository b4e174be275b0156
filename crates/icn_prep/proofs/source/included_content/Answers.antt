use Rattle.std.proofs.Common.{◌∙◌, take, ap, ◌++◌, arith, Err}
use Rattle.icn_prep.specs.CursorViews.{cursor_of}
use Rattle.icn_prep.specs.StateViews.{state_of}
use Rattle.icn_prep.proofs.StoreLookups.{if_some_weaker, answers, included_there, absent_answers}
use Rattle.icn_prep.proofs.source.included_content.Goals as goal

pub returns-in-Ok-2-clause-exact : goal.returns-in-Ok-2-clause-exact
returns-in-Ok-2-clause-exact g c =
    if_some_weaker (g.F.Files.state c.args.files.now).held
    (λ held read.
    let inner = included_there held c.args.depth c.args.name.now read.0 (state_of c.args.reading.now) (cursor_of c.args.cursor.now)
    (omega (arith, c.if-depth-ge-DEEPEST.false)) read.1 in
    answers held c.args.name.now c.read.new.into.items c.not_longer.result _ inner.0 read.0 read.1 (read.2 ∙ ap (λ had. had ++ take 16777217 read.0)
    c.new-content.ensures.items) inner.1 (record { ok = c.not_longer.ensures.ok; err = c.not_longer.ensures.err })) c.in-Ok-2.ensures.ok

pub returns-in-Err-NotThere-clause-exact : goal.returns-in-Err-NotThere-clause-exact
returns-in-Err-NotThere-clause-exact g c =
    if_some_weaker (g.F.Files.state c.args.files.now).held (λ held none. absent_answers held _ c.args.name.now (state_of c.args.reading.now)
    (cursor_of c.args.cursor.now) c.refusal-in-Err-NotThere.result none c.refusal-in-Err-NotThere.ensures)
    (c.in-Err-NotThere.ensures.absent (ap Err c.in-Err-NotThere.field-0-is))
