use Rattle.icn_code.specs.CodeTables.{tables_of}
use Rattle.icn_control.proofs.TextSteps.{string_runs, string_live}
use Rattle.icn_control.proofs.texts.push_string.Goals as goal

pub returns-clause-step : goal.returns-clause-step
returns-clause-step g c =
    string_runs c.args.world.now c.hold.new.world c.requires.live.0 (tables_of c.args.code.now) c.args.frames.now.flat c.push_text.new.frames.flat c.args.index
    c.string_at-text.result.now c.in_ok-span.span c.string_at-text.ensures c.in_ok-span.ensures.bytes
    c.hold.ensures.world c.hold.ensures.kept c.requires.live.1 c.in_ok-push_text.ensures.ok

pub returns-clause-live : goal.returns-clause-live
returns-clause-live g c t k =
    string_live t c.args.world.now c.hold.new.world c.args.frames.now.flat c.push_text.new.frames.flat c.in_ok-span.span c.in_ok-span.ensures.live
    c.hold.ensures.kept
    c.in_ok-push_text.ensures.ok k
