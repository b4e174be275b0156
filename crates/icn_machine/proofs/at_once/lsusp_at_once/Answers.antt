use Rattle.std.proofs.Common.{◌≡◌, ◌∙◌, [], ap, false, refl, subst, sym, true}
use Rattle.icn_value.specs.Store.{bare_outside}
use Rattle.icn_code.specs.CodeTables.{tables_of}
use Rattle.icn_code.specs.declared.instr.Instr.{Instr}
use Rattle.icn_code.specs.declared.instr.Instr.TheVariants as Instrs
use Rattle.icn_control.specs.Machines.{StandsAt, does, extent, stack_of, store_seen, world_reach}
use Rattle.icn_control.specs.declared.machine.RunState.TheVariants as RunStates
use Rattle.icn_instructions.proofs.ArmSteps.{lacks_as}
use Rattle.icn_instructions.proofs.LackSteps.{lsusp_count, lsusp_mark, pop_there}
use Rattle.icn_instructions.proofs.LiftSteps.{runs_live}
use Rattle.icn_machine.specs.Stepping.{is_applied, is_whole}
use Rattle.icn_machine.specs.declared.at_once.AtOnce.TheVariants as AtOnces
use Rattle.icn_machine.proofs.AtOnceAnswers.{lacks_memory, stands_done}
use Rattle.icn_machine.proofs.NextSteps.{calls_none}
use Rattle.icn_machine.proofs.at_once.lsusp_at_once.Goals as goal

pub lsusp-requires-clause-stands : goal.lsusp-requires-clause-stands
lsusp-requires-clause-stands g c = record { runs = c.requires.doing.runs; sound = ((tables_of c.args.code.now), c.requires.doing.sound) }

pub lsusp-requires-clause-operand : goal.lsusp-requires-clause-operand
lsusp-requires-clause-operand g c =
    pop_there (extent c.args.m.now) (stack_of c.args.m.now) _
    (lacks_as (extent c.args.m.now) (tables_of c.args.code.now) c.args.instr Instrs.Lsusp (stack_of c.args.m.now)
    (store_seen (tables_of c.args.code.now) bare_outside c.args.m.now) c.requires.is (c.requires.doing.always bare_outside []).goes_on)

pub lsusp-requires-clause-mark : goal.lsusp-requires-clause-mark
lsusp-requires-clause-mark g c =
    lsusp_mark (extent c.args.m.now) (tables_of c.args.code.now) (world_reach c.args.m.now) (stack_of c.args.m.now)
    (store_seen (tables_of c.args.code.now) bare_outside c.args.m.now)
    (runs_live (tables_of c.args.code.now) (world_reach c.args.m.now) c.args.m.now.stacks.table c.requires.doing.runs c.requires.doing.sound.stacks)
    (lacks_as (extent c.args.m.now) (tables_of c.args.code.now) c.args.instr Instrs.Lsusp (stack_of c.args.m.now)
    (store_seen (tables_of c.args.code.now) bare_outside c.args.m.now) c.requires.is (c.requires.doing.always bare_outside []).goes_on)

pub lsusp-requires-clause-count : goal.lsusp-requires-clause-count
lsusp-requires-clause-count g c =
    lsusp_count (extent c.args.m.now) (tables_of c.args.code.now) (world_reach c.args.m.now) (stack_of c.args.m.now)
    (store_seen (tables_of c.args.code.now) bare_outside c.args.m.now)
    (runs_live (tables_of c.args.code.now) (world_reach c.args.m.now) c.args.m.now.stacks.table c.requires.doing.runs c.requires.doing.sound.stacks)
    (lacks_as (extent c.args.m.now) (tables_of c.args.code.now) c.args.instr Instrs.Lsusp (stack_of c.args.m.now)
    (store_seen (tables_of c.args.code.now) bare_outside c.args.m.now) c.requires.is (c.requires.doing.always bare_outside []).goes_on)

pub returns-in-Ok : goal.returns-in-Ok
returns-in-Ok g c =
    let t = tables_of c.args.code.now in
    stands_done t c.steps_keep_names.ensures.kept c.steps_keep_sizes.ensures.kept c.args.m.now c.lsusp.new.m c.args.instr AtOnces.Running RunStates.Running
    refl (calls_none c.args.instr (ap is_applied c.requires.is)) c.requires.doing
    (λ o. subst (λ (i : Instr). StandsAt t o (does t o i c.args.m.now) c.lsusp.new.m RunStates.Running) (sym c.requires.is) (c.in-Ok.ensures.step t o))
    (c.in-Ok.ensures.sound t c.requires.doing.sound) c.in-Ok.ensures.stack c.lsusp.ensures.limits

pub returns-in-Err : goal.returns-in-Err
returns-in-Err g c =
    lacks_memory (tables_of c.args.code.now) c.args.m.now c.lsusp.new.m c.args.instr
    (λ w. let bad : true ≡ false = sym w ∙ ap is_whole c.requires.is in absurd (cc)) c.lsusp.ensures.limits
