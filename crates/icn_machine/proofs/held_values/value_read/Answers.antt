use Rattle.std.proofs.Common.{◌+◌, [], arith}
use Rattle.icn_vars.specs.Worlds.{reach_of}
use Rattle.icn_frames.proofs.CalledWithFacts.{operands_within}
use Rattle.icn_machine.proofs.HeldValueSteps.{read_below, read_live, seen_below}
use Rattle.icn_machine.proofs.held_values.value_read.Goals as goal

pub overflow_sub-len : goal.overflow_sub-len
overflow_sub-len g c =
    let p = operands_within (c.args.count + 1) c.args.frames.now.flat.cells c.requires.operand in
    omega (arith, p, c.len.ensures)

pub overflow_sub-len-2 : goal.overflow_sub-len-2
overflow_sub-len-2 g c =
    let p = operands_within (c.args.count + 1) c.args.frames.now.flat.cells c.requires.operand in
    omega (arith, p, c.len.ensures)

pub content_at-requires : goal.content_at-requires
content_at-requires g c =
    let p = operands_within (c.args.count + 1) c.args.frames.now.flat.cells c.requires.operand in
    omega (arith, p, c.len.ensures)

pub operand_value-requires-clause-stack : goal.operand_value-requires-clause-stack
operand_value-requires-clause-stack g c = c.requires.live

pub operand_value-requires-clause-item : goal.operand_value-requires-clause-item
operand_value-requires-clause-item g c =
    read_live c.requires.live.0 (reach_of c.args.world.now []) c.args.frames.now.flat c.args.count c.in-Operand.item c.requires.live.1
    c.requires.operand
    (seen_below c.args.frames.now.flat c.args.count c.len.result c.content_at.result c.in-Operand.item c.len.ensures c.content_at.ensures c.in-Operand.is)

pub returns-in-Operand-clause-found : goal.returns-in-Operand-clause-found
returns-in-Operand-clause-found g c =
    read_below c.args.world.now c.args.frames.now.flat c.args.count c.in-Operand.item c.operand_value.result
    (seen_below c.args.frames.now.flat c.args.count c.len.result c.content_at.result c.in-Operand.item c.len.ensures c.content_at.ensures c.in-Operand.is)
    c.operand_value.ensures.found
