use Rattle.std.proofs.Common.{ap, subst, sym}
use Rattle.icn_code.specs.CodeTables.{tables_of}
use Rattle.icn_code.specs.declared.instr.Instr.{Instr}
use Rattle.icn_control.specs.Machines.{StandsAt, does}
use Rattle.icn_machine.specs.AnsweredAtOnce.{done_at}
use Rattle.icn_machine.specs.Stepping.{is_applied}
use Rattle.icn_machine.proofs.AtOnceAnswers.{answer_at, stands_done}
use Rattle.icn_machine.proofs.NextSteps.{calls_none}
use Rattle.icn_machine.proofs.at_once.loop_at_once.Goals as goal

pub go_back-requires-clause-runs : goal.go_back-requires-clause-runs
go_back-requires-clause-runs g c = c.requires.doing.runs

pub go_back-requires-clause-bounds : goal.go_back-requires-clause-bounds
go_back-requires-clause-bounds g c = c.requires.doing.sound.bounds

pub returns : goal.returns
returns g c =
    let t = tables_of c.args.code.now in
    let r = c.go_back.result in
    rw c.done_at.ensures
    (stands_done t c.steps_keep_names.ensures.kept c.steps_keep_sizes.ensures.kept c.args.m.now c.go_back.new.m c.args.instr (done_at r) r (answer_at r)
    (calls_none c.args.instr (ap is_applied c.requires.is)) c.requires.doing
    (λ o. subst (λ (i : Instr). StandsAt t o (does t o i c.args.m.now) c.go_back.new.m r) (sym c.requires.is) (c.go_back.ensures.step t o))
    (c.go_back.ensures.keeps.sound t c.requires.doing.sound) c.go_back.ensures.keeps.stack c.go_back.ensures.keeps.limits)
