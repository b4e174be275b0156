use Rattle.std.proofs.Common.{◌≡◌, ◌<◌, ◌^◌, ℕ, sym, subst, ap, ◌∙◌, arith, length}
use Rattle.icn_code.specs.CodeTables.{tables_of}
use Rattle.icn_frames.specs.Stacks as flat
use Rattle.icn_run.specs.Step.{instrs_of}
use Rattle.icn_machine.proofs.CodeRules.{few_instrs, index_as, proc_within}
use Rattle.icn_machine.proofs.stepping.take_instr.Goals as goal

pub instrs_at-instrs-requires : goal.instrs_at-instrs-requires
instrs_at-instrs-requires g c =
    subst (λ (n : ℕ). n < length (tables_of c.args.code.now).procs) (sym c.proc.ensures)
    (proc_within (tables_of c.args.code.now).procs (flat.proc c.args.frames.now.flat) c.args.frames.now.flat.address c.requires.there)

pub overflow_add-address : goal.overflow_add-address
overflow_add-address g c =
    let few : length (instrs_of (tables_of c.args.code.now) (flat.proc c.args.frames.now.flat)) < 2 ^ 32
    = few_instrs (tables_of c.args.code.now) (flat.proc c.args.frames.now.flat) c.args.code.now.rules in
    let here : c.address-address.result ≡ c.args.frames.now.flat.address = c.address-address.ensures in
    let there = c.requires.there in
    omega (arith, few, here, there)

pub returns-clause-instr : goal.returns-clause-instr
returns-clause-instr g c =
    index_as (instrs_of (tables_of c.args.code.now) (flat.proc c.args.frames.now.flat)) c.instrs_at-instrs.result.now c.address-address.result
    c.args.frames.now.flat.address _
    (c.instrs_at-instrs.ensures ∙ ap (instrs_of (tables_of c.args.code.now)) c.proc.ensures) c.address-address.ensures c.requires.there
