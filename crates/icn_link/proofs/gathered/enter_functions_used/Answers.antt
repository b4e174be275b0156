use Rattle.std.proofs.Common.{◌∙◌}
use Rattle.icn_link.specs.Mentions.{function_used}
use Rattle.icn_link.specs.Views.{texts_seen}
use Rattle.icn_link.proofs.GatheringLoops.{own_texts_step}
use Rattle.icn_link.proofs.gathered.enter_functions_used.Goals as goal

pub loop-instr-preserved : goal.loop-instr-preserved
loop-instr-preserved c =
    own_texts_step (function_used c.args.entries.now) c.args.instrs.now c.loop-instr.instr-index c.instr-item.result
    (texts_seen c.loop-instr.names.keys) _
    c.loop-instr-test.true c.instr-item.is c.in_ok-enter_function_used.ensures
    ∙ c.loop-instr.invariant
