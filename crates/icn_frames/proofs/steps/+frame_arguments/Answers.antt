use Rattle.std.proofs.Common.{◌+◌, ◌-◌, ◌<◌, length, rules}
use Rattle.icn_frames.specs.CalledWith.{HasOperands, called_cell}
use Rattle.icn_frames.proofs.CalledWithFacts.{framed_first, framed_next, operands_next, put_back, within_next}
use Rattle.icn_frames.proofs.steps.+frame_arguments.Goals as goal

pub returns-then-left-eq0-clause-framed : goal.returns-then-left-eq0-clause-framed
returns-then-left-eq0-clause-framed g below c q held many holds =
    framed_first held c.args.left (called_cell c.args.frame.now) c.args.cells.now.cells c.put_frame.new.cells.cells c.requires.operands c.if-left-eq0.true
    c.put_frame.ensures.cells

pub frame_arguments-done-requires : goal.frame_arguments-done-requires
frame_arguments-done-requires g below c =
    let cells = c.args.cells.now.cells in
    let dropped = c.drop_top.new.self.cells in
    let there : HasOperands (c.args.left - 1 + 1) dropped
    = operands_next c.args.left cells dropped c.requires.operands c.if-left-eq0.false c.drop_top.ensures.cells in
    let inside : c.args.base + c.args.own + (c.args.left - 1) < length dropped
    = within_next c.args.left c.args.base c.args.own cells dropped c.requires.operands c.if-left-eq0.false c.requires.within c.drop_top.ensures.cells in
    search rules

pub push_local_plain-requires-clause-plain : goal.push_local_plain-requires-clause-plain
push_local_plain-requires-clause-plain g below c = c.in-Some.ensures.local_told

pub returns-then-done-clause-framed : goal.returns-then-done-clause-framed
returns-then-done-clause-framed g below c q held many holds =
    framed_next held c.args.left c.args.base c.args.own c.len.result (called_cell c.args.frame.now) c.slot_at-slot.result c.in-Some.local
    c.args.cells.now.cells c.drop_top.new.self.cells c.frame_arguments-done.new.cells.cells c.push_local_plain.new.self.cells c.requires.operands
    c.if-left-eq0.false c.requires.within many c.len.ensures.is c.slot_at-slot.ensures c.drop_top.ensures.cells (c.in-Some.ensures.tells held many holds)
    holds (λ under. c.frame_arguments-done.ensures.framed c.if-done.true held many under) c.push_local_plain.ensures.cells

pub push_plain-requires-clause-plain : goal.push_plain-requires-clause-plain
push_plain-requires-clause-plain g below c = c.in-Some.ensures.operand

pub returns-clause-not : goal.returns-clause-not
returns-clause-not g below c q =
    put_back c.args.left c.len.result c.slot_at-slot.result c.args.cells.now.cells c.drop_top.new.self.cells c.frame_arguments-done.new.cells.cells
    c.push_plain.new.self.cells c.requires.operands c.len.ensures.is c.slot_at-slot.ensures c.drop_top.ensures.cells c.in-Some.ensures.operand
    (c.frame_arguments-done.ensures.not c.if-done.false) c.push_plain.ensures.cells
