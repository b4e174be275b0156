use Rattle.std.proofs.Common.{◌≡◌, ◌∙◌, ◌<◌, ◌≤◌, ◌-◌, ◌+◌, ℕ, length, Option, None, Some, sym, ap, subst}
use Rattle.icn_text.specs.declared.func.Func.{Func}
use Rattle.icn_defs.specs.Numbers.{func_of}
use Rattle.icn_code.specs.CodeTables.{tables_of}
use Rattle.icn_calls.specs.Calling.{IsCallee}
use Rattle.icn_calls.specs.declared.callees.Callee.TheVariants as Callees
use Rattle.icn_calls.proofs.CallSteps.{at_func, at_proc, at_record}
use Rattle.icn_calls.proofs.callees.callee_of.Goals as goal

pub returns-then-place-procs : goal.returns-then-place-procs
returns-then-place-procs c =
    at_proc (tables_of c.args.code.now) c.args.number (subst (λ (n : ℕ). c.args.number < n) c.proc_count-procs.ensures c.if-place-procs.true)

pub returns-then-place-procs-2 : goal.returns-then-place-procs-2
returns-then-place-procs-2 c =
    let tables = tables_of c.args.code.now in
    let past : length tables.procs ≤ c.args.number = subst (λ (n : ℕ). n ≤ c.args.number) c.proc_count-procs.ensures c.if-place-procs.false in
    let within : c.args.number - length tables.procs < length tables.records
    = subst (λ (n : ℕ). c.args.number - n < length tables.records) c.proc_count-procs.ensures
    (subst (λ (n : ℕ). c.args.number - c.proc_count-procs.result < n) c.record_count-records.ensures c.if-place-procs-2.true) in
    subst (λ (n : ℕ). IsCallee tables c.args.number (Callees.Rec (c.args.number - n))) (sym c.proc_count-procs.ensures)
    (at_record tables c.args.number past within)

pub returns-in-Some : goal.returns-in-Some
returns-in-Some c =
    let tables = tables_of c.args.code.now in
    let n : ℕ = c.args.number in
    let past : length tables.procs ≤ n = subst (λ (k : ℕ). k ≤ n) c.proc_count-procs.ensures c.if-place-procs.false in
    let past_both : length tables.records ≤ n - length tables.procs
    = subst (λ (k : ℕ). length tables.records ≤ n - k) c.proc_count-procs.ensures
    (subst (λ (k : ℕ). k ≤ n - c.proc_count-procs.result) c.record_count-records.ensures c.if-place-procs-2.false) in
    let func : Option Func = Some c.in-Some.func in
    let is : func ≡ func_of (n - length tables.procs - length tables.records + 1)
    = sym c.in-Some.is ∙ c.function_at.ensures ∙ ap (λ (k : ℕ). func_of (n - k - c.record_count-records.result + 1)) c.proc_count-procs.ensures
    ∙ ap (λ (k : ℕ). func_of (n - length tables.procs - k + 1)) c.record_count-records.ensures in
    at_func tables n func past past_both is

pub returns-in-None : goal.returns-in-None
returns-in-None c =
    let tables = tables_of c.args.code.now in
    let n : ℕ = c.args.number in
    let past : length tables.procs ≤ n = subst (λ (k : ℕ). k ≤ n) c.proc_count-procs.ensures c.if-place-procs.false in
    let past_both : length tables.records ≤ n - length tables.procs
    = subst (λ (k : ℕ). length tables.records ≤ n - k) c.proc_count-procs.ensures
    (subst (λ (k : ℕ). k ≤ n - c.proc_count-procs.result) c.record_count-records.ensures c.if-place-procs-2.false) in
    let func : Option Func = None in
    let is : func ≡ func_of (n - length tables.procs - length tables.records + 1)
    = sym c.in-None.is ∙ c.function_at.ensures ∙ ap (λ (k : ℕ). func_of (n - k - c.record_count-records.result + 1)) c.proc_count-procs.ensures
    ∙ ap (λ (k : ℕ). func_of (n - length tables.procs - k + 1)) c.record_count-records.ensures in
    at_func tables n func past past_both is
