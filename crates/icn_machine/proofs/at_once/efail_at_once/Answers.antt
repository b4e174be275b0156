use Rattle.std.proofs.Common.{ap, refl, subst, sym}
use Rattle.icn_code.specs.CodeTables.{tables_of}
use Rattle.icn_code.specs.declared.instr.Instr.{Instr}
use Rattle.icn_control.specs.Machines.{StandsAt, does}
use Rattle.icn_control.specs.declared.machine.RunState.TheVariants as RunStates
use Rattle.icn_machine.specs.Stepping.{is_applied}
use Rattle.icn_machine.specs.declared.at_once.AtOnce.TheVariants as AtOnces
use Rattle.icn_machine.proofs.AtOnceAnswers.{stands_done}
use Rattle.icn_machine.proofs.NextSteps.{calls_none}
use Rattle.icn_machine.proofs.at_once.efail_at_once.Goals as goal

pub returns : goal.returns
returns g c =
    let t = tables_of c.args.code.now in
    let m = c.args.m.now in
    stands_done t c.steps_keep_names.ensures.kept c.steps_keep_sizes.ensures.kept m m c.args.instr AtOnces.Failing RunStates.Failing refl
    (calls_none c.args.instr (ap is_applied c.requires.is)) c.requires.doing
    (λ o. subst (λ (i : Instr). StandsAt t o (does t o i m) m RunStates.Failing) (sym c.requires.is) refl) c.requires.doing.sound c.requires.doing.runs refl
