use Rattle.std.proofs.Common.{[], ap, refl, subst, sym}
use Rattle.icn_value.specs.Store.{bare_outside}
use Rattle.icn_code.specs.CodeTables.{tables_of}
use Rattle.icn_code.specs.declared.instr.Instr.{Instr}
use Rattle.icn_code.specs.declared.instr.Instr.TheVariants as Instrs
use Rattle.icn_control.specs.Machines.{StandsAt, does, extent, stack_of, store_seen, world_reach}
use Rattle.icn_control.specs.declared.machine.RunState.TheVariants as RunStates
use Rattle.icn_instructions.proofs.ArmSteps.{lacks_as}
use Rattle.icn_instructions.proofs.LackSteps.{unmark_lacks}
use Rattle.icn_instructions.proofs.LiftSteps.{runs_live}
use Rattle.icn_machine.specs.Stepping.{is_applied}
use Rattle.icn_machine.specs.declared.at_once.AtOnce.TheVariants as AtOnces
use Rattle.icn_machine.proofs.AtOnceAnswers.{stands_done}
use Rattle.icn_machine.proofs.NextSteps.{calls_none}
use Rattle.icn_machine.proofs.at_once.unmark_at_once.Goals as goal

pub unmark-requires-clause-stands : goal.unmark-requires-clause-stands
unmark-requires-clause-stands g c = record { runs = c.requires.doing.runs; sound = ((tables_of c.args.code.now), c.requires.doing.sound) }

pub unmark-requires-clause-mark : goal.unmark-requires-clause-mark
unmark-requires-clause-mark g c =
    unmark_lacks (extent c.args.m.now) (tables_of c.args.code.now) (world_reach c.args.m.now) (stack_of c.args.m.now)
    (store_seen (tables_of c.args.code.now) bare_outside c.args.m.now)
    (runs_live (tables_of c.args.code.now) (world_reach c.args.m.now) c.args.m.now.stacks.table c.requires.doing.runs c.requires.doing.sound.stacks)
    (lacks_as (extent c.args.m.now) (tables_of c.args.code.now) c.args.instr Instrs.Unmark (stack_of c.args.m.now)
    (store_seen (tables_of c.args.code.now) bare_outside c.args.m.now) c.requires.is (c.requires.doing.always bare_outside []).goes_on)

pub returns : goal.returns
returns g c =
    let t = tables_of c.args.code.now in
    stands_done t c.steps_keep_names.ensures.kept c.steps_keep_sizes.ensures.kept c.args.m.now c.unmark.new.m c.args.instr AtOnces.Running RunStates.Running
    refl (calls_none c.args.instr (ap is_applied c.requires.is)) c.requires.doing
    (λ o. subst (λ (i : Instr). StandsAt t o (does t o i c.args.m.now) c.unmark.new.m RunStates.Running) (sym c.requires.is) (c.unmark.ensures.step t o))
    (c.unmark.ensures.sound t c.requires.doing.sound) c.unmark.ensures.stack c.unmark.ensures.limits
