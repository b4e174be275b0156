use Rattle.std.proofs.Common.{◌∙◌, sym}
use Rattle.icn_code.specs.CodeTables.{tables_of}
use Rattle.icn_machine.proofs.AtOnceAnswers.{in_world_applies_none, in_world_never_whole, not_done_at_once, placed_done}
use Rattle.icn_machine.proofs.AtOnceSteps.{operation_ready}
use Rattle.icn_machine.proofs.NextSteps.{calls_none}
use Rattle.icn_machine.proofs.at_once.other_at_once.Goals as goal

pub world_at_once-requires : goal.world_at_once-requires
world_at_once-requires g c = c.requires.doing

pub returns-then-is_done_in_world : goal.returns-then-is_done_in_world
returns-then-is_done_in_world g c =
    let t = tables_of c.args.code.now in
    let out = sym c.is_done_in_world.ensures ∙ c.if-is_done_in_world.true in
    rw c.done_if.ensures
    (placed_done t c.args.m.now c.world_at_once.new.m c.args.instr c.world_at_once.result c.world_at_once.ensures
    (operation_ready t c.steps_keep_names.ensures.kept c.steps_keep_sizes.ensures.kept c.args.m.now c.world_at_once.new.m c.args.instr
    c.world_at_once.result (calls_none c.args.instr (in_world_applies_none c.args.instr out)) c.requires.doing c.world_at_once.ensures)
    (λ w. absurd (in_world_never_whole c.args.instr out w)) c.requires.off_stack)

pub returns : goal.returns
returns g c = not_done_at_once (tables_of c.args.code.now) c.args.m.now c.args.instr c.requires.off_stack
