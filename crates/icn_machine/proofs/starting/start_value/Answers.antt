use Rattle.std.proofs.Common.{◌≡◌, ◌<◌, ◌+◌, ℕ, true, length, sym, ap, ◌∙◌, subst, arith, ltb-true, Fits, w8, rules}
use Rattle.icn_value.specs.Values.{Procedure}
use Rattle.icn_code.specs.declared.code.Start.{Start}
use Rattle.icn_code.specs.declared.code.Start.TheVariants as Starts
use Rattle.icn_code.specs.Rules.{is_start}
use Rattle.icn_code.specs.CodeTables.{tables_of}
use Rattle.icn_run.specs.Step.{start_value}
use Rattle.icn_machine.proofs.StartSteps.{few_procs, few_records}
use Rattle.icn_machine.proofs.starting.start_value.Goals as goal

pub overflow_cast-procs : goal.overflow_cast-procs
overflow_cast-procs c =
    let few = few_procs (tables_of c.args.code.now) c.args.code.now.rules in
    omega (arith, few, c.proc_count-procs.ensures)

pub overflow_cast-records : goal.overflow_cast-records
overflow_cast-records c =
    let few = few_records (tables_of c.args.code.now) c.args.code.now.rules in
    omega (arith, few, c.record_count-records.ensures)

pub overflow_add-result : goal.overflow_add-result
overflow_add-result c =
    let t = tables_of c.args.code.now in
    let few = few_procs t c.args.code.now.rules in
    let many = few_records t c.args.code.now.rules in
    let fits : is_start (length t.records) (length t.procs) (Starts.Record c.in-Record.place) ≡ true
    = subst (λ (s : Start). is_start (length t.records) (length t.procs) s ≡ true) c.in-Record.is c.requires in
    let below : c.in-Record.place < length t.records = ltb-true _ _ fits in
    omega (arith, few, many, below, c.proc_count-procs.ensures)

pub overflow_add-result-in-Function : goal.overflow_add-result-in-Function
overflow_add-result-in-Function c =
    let few = few_procs (tables_of c.args.code.now) c.args.code.now.rules in
    let many = few_records (tables_of c.args.code.now) c.args.code.now.rules in
    omega (arith, few, many, c.proc_count-procs.ensures, c.record_count-records.ensures)

pub overflow_add-result-in-Function-2 : goal.overflow_add-result-in-Function-2
overflow_add-result-in-Function-2 c =
    let few = few_procs (tables_of c.args.code.now) c.args.code.now.rules in
    let many = few_records (tables_of c.args.code.now) c.args.code.now.rules in
    let byte : Fits w8 c.saturating_sub.result = search rules in
    omega (arith, few, many, byte, c.proc_count-procs.ensures, c.record_count-records.ensures)

pub returns-in-Null-clause-value : goal.returns-in-Null-clause-value
returns-in-Null-clause-value c all = ap (start_value (tables_of c.args.code.now)) (sym c.in-Null.is)

pub returns-in-Procedure-clause-value : goal.returns-in-Procedure-clause-value
returns-in-Procedure-clause-value c all = ap (start_value (tables_of c.args.code.now)) (sym c.in-Procedure.is)

pub returns-in-Record-clause-value : goal.returns-in-Record-clause-value
returns-in-Record-clause-value c all =
    ap (λ (n : ℕ). Procedure (n + c.in-Record.place)) c.proc_count-procs.ensures ∙ ap (start_value (tables_of c.args.code.now)) (sym c.in-Record.is)
