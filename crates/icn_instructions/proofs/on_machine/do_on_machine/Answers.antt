use Rattle.std.proofs.Common.{Ok, refl, arith}
use Rattle.icn_frames.specs.Stacks as held
use Rattle.icn_code.specs.declared.instr.Instr.TheVariants as Instrs
use Rattle.icn_code.specs.CodeTables.{tables_of}
use Rattle.icn_control.specs.Machines.{extent, stack_of, store_seen, world_reach}
use Rattle.icn_control.specs.declared.machine.RunState.TheVariants as RunStates
use Rattle.icn_instructions.proofs.ArmSteps.{lacks_as, may_take, ok_has_memory, comes_to_as}
use Rattle.icn_instructions.proofs.GroupSteps.{no_other_machine}
use Rattle.icn_instructions.proofs.LackSteps.{pop_there, take_there, unmark_lacks, lsusp_mark, lsusp_count}
use Rattle.icn_instructions.proofs.LiftSteps.{runs_live}
use Rattle.icn_instructions.proofs.RangeSteps.{begun_there}
use Rattle.icn_instructions.proofs.on_machine.do_on_machine.Goals as goal

pub push_keyword-requires : goal.push_keyword-requires
push_keyword-requires g c = record { stands = record { runs = c.requires.runs; sound = ((tables_of c.args.code.now), c.requires.sound) } }

pub make_list-requires-clause-stands : goal.make_list-requires-clause-stands
make_list-requires-clause-stands g c = record {
  runs = c.requires.runs;
  sound = ((tables_of c.args.code.now), c.requires.sound);
}

pub unmark-requires-clause-stands : goal.unmark-requires-clause-stands
unmark-requires-clause-stands g c = record {
  runs = c.requires.runs;
  sound = ((tables_of c.args.code.now), c.requires.sound);
}

pub lsusp-requires-clause-stands : goal.lsusp-requires-clause-stands
lsusp-requires-clause-stands g c = record {
  runs = c.requires.runs;
  sound = ((tables_of c.args.code.now), c.requires.sound);
}

pub go_back-requires-clause-runs : goal.go_back-requires-clause-runs
go_back-requires-clause-runs g c =
    c.requires.runs

pub init-requires-clause-runs : goal.init-requires-clause-runs
init-requires-clause-runs g c =
    c.requires.runs

pub make_list-requires-clause-operands : goal.make_list-requires-clause-operands
make_list-requires-clause-operands g c =
    take_there (extent c.args.m.now) c.in-Llist.count (stack_of c.args.m.now) _
    (lacks_as (extent c.args.m.now) (tables_of c.args.code.now) c.args.instr (Instrs.Llist c.in-Llist.count) (stack_of c.args.m.now)
    (store_seen (tables_of c.args.code.now) c.requires.goes_on.0 c.args.m.now) c.in-Llist.is c.requires.goes_on.1)

pub unmark-requires-clause-mark : goal.unmark-requires-clause-mark
unmark-requires-clause-mark g c =
    unmark_lacks (extent c.args.m.now) (tables_of c.args.code.now) (world_reach c.args.m.now) (stack_of c.args.m.now)
    (store_seen (tables_of c.args.code.now) c.requires.goes_on.0 c.args.m.now)
    (runs_live (tables_of c.args.code.now) (world_reach c.args.m.now) c.args.m.now.stacks.table c.requires.runs c.requires.sound.stacks)
    (lacks_as (extent c.args.m.now) (tables_of c.args.code.now) c.args.instr Instrs.Unmark (stack_of c.args.m.now)
    (store_seen (tables_of c.args.code.now) c.requires.goes_on.0 c.args.m.now) c.in-Unmark.is c.requires.goes_on.1)

pub lsusp-requires-clause-operand : goal.lsusp-requires-clause-operand
lsusp-requires-clause-operand g c =
    pop_there (extent c.args.m.now) (stack_of c.args.m.now) _
    (lacks_as (extent c.args.m.now) (tables_of c.args.code.now) c.args.instr Instrs.Lsusp (stack_of c.args.m.now)
    (store_seen (tables_of c.args.code.now) c.requires.goes_on.0 c.args.m.now) c.in-Lsusp.is c.requires.goes_on.1)

pub lsusp-requires-clause-mark : goal.lsusp-requires-clause-mark
lsusp-requires-clause-mark g c =
    lsusp_mark (extent c.args.m.now) (tables_of c.args.code.now) (world_reach c.args.m.now) (stack_of c.args.m.now)
    (store_seen (tables_of c.args.code.now) c.requires.goes_on.0 c.args.m.now)
    (runs_live (tables_of c.args.code.now) (world_reach c.args.m.now) c.args.m.now.stacks.table c.requires.runs c.requires.sound.stacks)
    (lacks_as (extent c.args.m.now) (tables_of c.args.code.now) c.args.instr Instrs.Lsusp (stack_of c.args.m.now)
    (store_seen (tables_of c.args.code.now) c.requires.goes_on.0 c.args.m.now) c.in-Lsusp.is c.requires.goes_on.1)

pub lsusp-requires-clause-count : goal.lsusp-requires-clause-count
lsusp-requires-clause-count g c =
    lsusp_count (extent c.args.m.now) (tables_of c.args.code.now) (world_reach c.args.m.now) (stack_of c.args.m.now)
    (store_seen (tables_of c.args.code.now) c.requires.goes_on.0 c.args.m.now)
    (runs_live (tables_of c.args.code.now) (world_reach c.args.m.now) c.args.m.now.stacks.table c.requires.runs c.requires.sound.stacks)
    (lacks_as (extent c.args.m.now) (tables_of c.args.code.now) c.args.instr Instrs.Lsusp (stack_of c.args.m.now)
    (store_seen (tables_of c.args.code.now) c.requires.goes_on.0 c.args.m.now) c.in-Lsusp.is c.requires.goes_on.1)

pub go_back-requires-clause-bounds : goal.go_back-requires-clause-bounds
go_back-requires-clause-bounds g c =
    c.requires.sound.bounds

pub init-requires-clause-begun : goal.init-requires-clause-begun
init-requires-clause-begun g c =
    let there = begun_there (tables_of c.args.code.now) (store_seen (tables_of c.args.code.now) c.requires.variables.0 c.args.m.now)
    (held.proc (stack_of c.args.m.now)) c.args.instr c.requires.in_range c.requires.variables.1 in
    omega (arith, there, c.args.m.now.begun.ok.0)

pub unreachable-requires : goal.unreachable-requires
unreachable-requires g c =
    no_other_machine c.args.instr c.requires.group c.in_default.not-Keywd c.in_default.not-Llist c.in_default.not-Unmark c.in_default.not-Lsusp
    c.in_default.not-Efail c.in_default.not-Loop c.in_default.not-Init

pub returns-in-Ok-clause-step : goal.returns-in-Ok-clause-step
returns-in-Ok-clause-step g c =
    λ outside. comes_to_as (tables_of c.args.code.now) outside c.args.instr (Instrs.Keywd c.in-Keywd.word) c.args.m.now c.push_keyword.new.m
    (Ok c.in-Ok.stage) c.in-Keywd.is (c.in-Ok.ensures.step (tables_of c.args.code.now) outside)

pub returns-in-Ok-clause-sound : goal.returns-in-Ok-clause-sound
returns-in-Ok-clause-sound g c =
    c.in-Ok.ensures.sound (tables_of c.args.code.now) c.requires.sound

pub returns-in-Ok-clause-limits : goal.returns-in-Ok-clause-limits
returns-in-Ok-clause-limits g c =
    c.push_keyword.ensures.limits

pub returns-in-Ok-clause-no_memory : goal.returns-in-Ok-clause-no_memory
returns-in-Ok-clause-no_memory g c =
    λ e. absurd (may_take c.args.instr (Instrs.Keywd c.in-Keywd.word) c.in-Keywd.is refl e)

pub returns-in-Err-clause-limits : goal.returns-in-Err-clause-limits
returns-in-Err-clause-limits g c =
    c.push_keyword.ensures.limits

pub returns-in-Err-clause-no_memory : goal.returns-in-Err-clause-no_memory
returns-in-Err-clause-no_memory g c =
    λ e. absurd (may_take c.args.instr (Instrs.Keywd c.in-Keywd.word) c.in-Keywd.is refl e)

pub returns-in-Llist-clause-step : goal.returns-in-Llist-clause-step
returns-in-Llist-clause-step g c =
    λ outside. comes_to_as (tables_of c.args.code.now) outside c.args.instr (Instrs.Llist c.in-Llist.count) c.args.m.now c.make_list.new.m
    c.make_list.result c.in-Llist.is (c.make_list.ensures.step (tables_of c.args.code.now) outside)

pub returns-in-Llist-clause-sound : goal.returns-in-Llist-clause-sound
returns-in-Llist-clause-sound g c =
    c.make_list.ensures.keeps.sound (tables_of c.args.code.now) c.requires.sound

pub returns-in-Llist-clause-halt : goal.returns-in-Llist-clause-halt
returns-in-Llist-clause-halt g c =
    c.make_list.ensures.keeps.halt

pub returns-in-Llist-clause-limits : goal.returns-in-Llist-clause-limits
returns-in-Llist-clause-limits g c =
    c.make_list.ensures.keeps.limits

pub returns-in-Llist-clause-no_memory : goal.returns-in-Llist-clause-no_memory
returns-in-Llist-clause-no_memory g c =
    λ e. absurd (may_take c.args.instr (Instrs.Llist c.in-Llist.count) c.in-Llist.is refl e)

pub returns-in-Unmark-clause-step : goal.returns-in-Unmark-clause-step
returns-in-Unmark-clause-step g c =
    λ outside. comes_to_as (tables_of c.args.code.now) outside c.args.instr Instrs.Unmark c.args.m.now c.unmark.new.m (Ok RunStates.Running) c.in-Unmark.is
    (c.unmark.ensures.step (tables_of c.args.code.now) outside)

pub returns-in-Unmark-clause-sound : goal.returns-in-Unmark-clause-sound
returns-in-Unmark-clause-sound g c =
    c.unmark.ensures.sound (tables_of c.args.code.now) c.requires.sound

pub returns-in-Unmark-clause-limits : goal.returns-in-Unmark-clause-limits
returns-in-Unmark-clause-limits g c =
    c.unmark.ensures.limits

pub returns-in-Unmark-clause-no_memory : goal.returns-in-Unmark-clause-no_memory
returns-in-Unmark-clause-no_memory g c =
    λ e. ok_has_memory RunStates.Running

pub returns-in-Init-clause-step : goal.returns-in-Init-clause-step
returns-in-Init-clause-step g c =
    λ outside. comes_to_as (tables_of c.args.code.now) outside c.args.instr (Instrs.Init c.in-Init.label) c.args.m.now c.init.new.m (Ok RunStates.Running)
    c.in-Init.is (c.init.ensures.step (tables_of c.args.code.now) outside)

pub returns-in-Init-clause-sound : goal.returns-in-Init-clause-sound
returns-in-Init-clause-sound g c =
    c.init.ensures.sound (tables_of c.args.code.now) c.requires.sound

pub returns-in-Init-clause-limits : goal.returns-in-Init-clause-limits
returns-in-Init-clause-limits g c =
    c.init.ensures.limits

pub returns-in-Init-clause-no_memory : goal.returns-in-Init-clause-no_memory
returns-in-Init-clause-no_memory g c =
    λ e. ok_has_memory RunStates.Running

pub returns-in-Ok-lsusp-clause-step : goal.returns-in-Ok-lsusp-clause-step
returns-in-Ok-lsusp-clause-step g c =
    λ outside. comes_to_as (tables_of c.args.code.now) outside c.args.instr Instrs.Lsusp c.args.m.now c.lsusp.new.m (Ok RunStates.Running) c.in-Lsusp.is
    (c.in-Ok-lsusp.ensures.step (tables_of c.args.code.now) outside)

pub returns-in-Ok-lsusp-clause-sound : goal.returns-in-Ok-lsusp-clause-sound
returns-in-Ok-lsusp-clause-sound g c =
    c.in-Ok-lsusp.ensures.sound (tables_of c.args.code.now) c.requires.sound

pub returns-in-Ok-lsusp-clause-limits : goal.returns-in-Ok-lsusp-clause-limits
returns-in-Ok-lsusp-clause-limits g c =
    c.lsusp.ensures.limits

pub returns-in-Ok-lsusp-clause-no_memory : goal.returns-in-Ok-lsusp-clause-no_memory
returns-in-Ok-lsusp-clause-no_memory g c =
    λ e. absurd (may_take c.args.instr Instrs.Lsusp c.in-Lsusp.is refl e)

pub returns-in-Err-lsusp-clause-limits : goal.returns-in-Err-lsusp-clause-limits
returns-in-Err-lsusp-clause-limits g c =
    c.lsusp.ensures.limits

pub returns-in-Err-lsusp-clause-no_memory : goal.returns-in-Err-lsusp-clause-no_memory
returns-in-Err-lsusp-clause-no_memory g c =
    λ e. absurd (may_take c.args.instr Instrs.Lsusp c.in-Lsusp.is refl e)

pub returns-in-Efail-clause-step : goal.returns-in-Efail-clause-step
returns-in-Efail-clause-step g c =
    λ outside. comes_to_as (tables_of c.args.code.now) outside c.args.instr Instrs.Efail c.args.m.now c.args.m.now (Ok RunStates.Failing) c.in-Efail.is (refl)

pub returns-in-Efail-clause-sound : goal.returns-in-Efail-clause-sound
returns-in-Efail-clause-sound g c =
    c.requires.sound

pub returns-in-Efail-clause-limits : goal.returns-in-Efail-clause-limits
returns-in-Efail-clause-limits g c =
    refl

pub returns-in-Efail-clause-no_memory : goal.returns-in-Efail-clause-no_memory
returns-in-Efail-clause-no_memory g c =
    λ e. ok_has_memory RunStates.Failing

pub returns-in-Loop-clause-step : goal.returns-in-Loop-clause-step
returns-in-Loop-clause-step g c =
    λ outside. comes_to_as (tables_of c.args.code.now) outside c.args.instr (Instrs.Loop c.in-Loop.label) c.args.m.now c.go_back.new.m (Ok c.go_back.result)
    c.in-Loop.is (c.go_back.ensures.step (tables_of c.args.code.now) outside)

pub returns-in-Loop-clause-sound : goal.returns-in-Loop-clause-sound
returns-in-Loop-clause-sound g c =
    c.go_back.ensures.keeps.sound (tables_of c.args.code.now) c.requires.sound

pub returns-in-Loop-clause-limits : goal.returns-in-Loop-clause-limits
returns-in-Loop-clause-limits g c =
    c.go_back.ensures.keeps.limits

pub returns-in-Loop-clause-no_memory : goal.returns-in-Loop-clause-no_memory
returns-in-Loop-clause-no_memory g c =
    λ e. ok_has_memory c.go_back.result

pub returns-in-Ok-clause-stack : goal.returns-in-Ok-clause-stack
returns-in-Ok-clause-stack g c = c.in-Ok.ensures.stack

pub returns-in-Llist-clause-stack : goal.returns-in-Llist-clause-stack
returns-in-Llist-clause-stack g c = c.make_list.ensures.keeps.stack

pub returns-in-Unmark-clause-stack : goal.returns-in-Unmark-clause-stack
returns-in-Unmark-clause-stack g c = c.unmark.ensures.stack

pub returns-in-Ok-lsusp-clause-stack : goal.returns-in-Ok-lsusp-clause-stack
returns-in-Ok-lsusp-clause-stack g c = c.in-Ok-lsusp.ensures.stack

pub returns-in-Efail-clause-stack : goal.returns-in-Efail-clause-stack
returns-in-Efail-clause-stack g c = c.requires.runs

pub returns-in-Loop-clause-stack : goal.returns-in-Loop-clause-stack
returns-in-Loop-clause-stack g c = c.go_back.ensures.keeps.stack

pub returns-in-Init-clause-stack : goal.returns-in-Init-clause-stack
returns-in-Init-clause-stack g c = c.init.ensures.stack
