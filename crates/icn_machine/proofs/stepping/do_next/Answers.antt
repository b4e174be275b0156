use Rattle.std.proofs.Common.{◌≡◌, ◌∙◌, sym, subst, true}
use Rattle.std.proofs.lemmas.Option.{same_Some}
use Rattle.icn_code.specs.CodeTables.{tables_of}
use Rattle.icn_code.specs.declared.instr.Instr.{Instr}
use Rattle.icn_machine.specs.Stepping.{is_whole}
use Rattle.icn_machine.proofs.NextSteps.{next_step}
use Rattle.icn_machine.proofs.stepping.do_next.Goals as goal

pub next_instr-instr-requires : goal.next_instr-instr-requires
next_instr-instr-requires g c = record { ready = c.requires.ready }

pub do_other-requires-clause-known : goal.do_other-requires-clause-known
do_other-requires-clause-known g c = c.requires.known

pub do_other-requires-clause-off_stack : goal.do_other-requires-clause-off_stack
do_other-requires-clause-off_stack g c = c.requires.off_stack c.next_instr-instr.result c.next_instr-instr.ensures.instr

pub do_other-requires-clause-doing : goal.do_other-requires-clause-doing
do_other-requires-clause-doing g c = c.next_instr-instr.ensures.doing

pub returns-clause-steps : goal.returns-clause-steps
returns-clause-steps g c =
    next_step (tables_of c.args.code.now) c.args.m.now c.next_instr-instr.new.m c.next_instr-instr.result _ c.do_other.new.m _ c.do_other.result
    c.next_instr-instr.ensures.step c.do_other.ensures.step

pub returns-clause-ready : goal.returns-clause-ready
returns-clause-ready g c = c.do_other.ensures.ready

pub returns-clause-whole : goal.returns-clause-whole
returns-clause-whole g c instr at whole =
    let same : instr ≡ c.next_instr-instr.result = same_Some _ _ (sym at ∙ c.next_instr-instr.ensures.instr) in
    c.do_other.ensures.whole (subst (λ (x : Instr). is_whole x ≡ true) same whole)

pub returns-clause-within : goal.returns-clause-within
returns-clause-within g c = record {
  halt = c.do_other.ensures.within.halt;
  limits = c.do_other.ensures.within.limits ∙ c.next_instr-instr.ensures.limits;
}
