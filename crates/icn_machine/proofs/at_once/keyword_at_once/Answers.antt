use Rattle.std.proofs.Common.{◌≡◌, ◌∙◌, ap, false, subst, sym, true}
use Rattle.icn_code.specs.CodeTables.{tables_of}
use Rattle.icn_code.specs.declared.instr.Instr.{Instr}
use Rattle.icn_control.specs.Machines.{StandsAt, does}
use Rattle.icn_machine.specs.AnsweredAtOnce.{done_at}
use Rattle.icn_machine.specs.Stepping.{is_applied, is_whole}
use Rattle.icn_machine.proofs.AtOnceAnswers.{answer_at, lacks_memory, stands_done}
use Rattle.icn_machine.proofs.NextSteps.{calls_none}
use Rattle.icn_machine.proofs.at_once.keyword_at_once.Goals as goal

pub push_keyword-requires : goal.push_keyword-requires
push_keyword-requires g c = record { stands = record { runs = c.requires.doing.runs; sound = ((tables_of c.args.code.now), c.requires.doing.sound) } }

pub returns-in-Ok : goal.returns-in-Ok
returns-in-Ok g c =
    let t = tables_of c.args.code.now in
    let r = c.in-Ok.stage in
    rw c.done_at.ensures
    (stands_done t c.steps_keep_names.ensures.kept c.steps_keep_sizes.ensures.kept c.args.m.now c.push_keyword.new.m c.args.instr (done_at r) r (answer_at r)
    (calls_none c.args.instr (ap is_applied c.requires.is)) c.requires.doing
    (λ o. subst (λ (i : Instr). StandsAt t o (does t o i c.args.m.now) c.push_keyword.new.m r) (sym c.requires.is) (c.in-Ok.ensures.step t o))
    (c.in-Ok.ensures.sound t c.requires.doing.sound) c.in-Ok.ensures.stack c.push_keyword.ensures.limits)

pub returns-in-Err : goal.returns-in-Err
returns-in-Err g c =
    lacks_memory (tables_of c.args.code.now) c.args.m.now c.push_keyword.new.m c.args.instr
    (λ w. let bad : true ≡ false = sym w ∙ ap is_whole c.requires.is in absurd (cc)) c.push_keyword.ensures.limits
