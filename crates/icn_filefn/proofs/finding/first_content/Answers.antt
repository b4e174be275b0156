-- Both outputs are settled, and then the store is asked.
use Rattle.std.proofs.Common.{◌≡◌, ◌∙◌, ◌+◌, ◌≤◌, refl, ap, subst, ℕ, List, Option, None, Some, Err, length, arith, rules, if◌then◌else◌}
use Rattle.icn_host.specs.FileMaps.{Reads}
use Rattle.icn_host.specs.Sources.{source_counts}
use Rattle.icn_profile.specs.Numbers.{most_bytes_of_opened}
use Rattle.icn_value.specs.declared.mode.FileMode.TheVariants.{ToWrite}
use Rattle.icn_defs.specs.OpenFiles.{is_read_by}
use Rattle.icn_streams.specs.Handed.{call_streams}
use Rattle.icn_filefn.proofs.FoundContent.{absent_so, finds_absent, finds_fault, finds_new, finds_read, finds_want, found_so}
use Rattle.icn_filefn.proofs.LookedUp.{finds_unsettled, kept_counts, looks_failing, looks_unsettled, looks_up, looks_wanting, still_pending, type_of}
use Rattle.icn_filefn.proofs.finding.first_content.Goals as goal

pub returns-in_err-settle-clause-found : goal.returns-in_err-settle-clause-found
returns-in_err-settle-clause-found g c =
    finds_unsettled (type_of c.settle.result) c.args.mode c.args.name.now (g.F.Files.state c.args.files.now).held _ _ c.in_err-settle.field-0.0
    c.from_residual.result
    c.from_residual.ensures.1 (c.in_err-settle.ensures.settles (g.F.Files.state c.args.files.now) None (source_counts 0 0 0))

pub returns-in_err-settle-clause-leaves : goal.returns-in_err-settle-clause-leaves
returns-in_err-settle-clause-leaves g c = λ left counts.
    looks_unsettled (type_of c.settle.result)
    (call_streams (g.F.Files.state c.args.files.now) left counts (g.O.Sink.state c.args.out.now) (g.E.Sink.state c.args.err.now))
    (call_streams (g.F.Files.state c.args.files.now) left counts (g.O.Sink.state c.settle.new.out) (g.E.Sink.state c.settle.new.err))
    c.in_err-settle.field-0.0 c.from_residual.result c.from_residual.ensures.1
    (c.in_err-settle.ensures.settles (g.F.Files.state c.args.files.now) left counts)

pub returns-in-Ok-clause-found : goal.returns-in-Ok-clause-found
returns-in-Ok-clause-found g c =
    let asked : c.args.mode ≡ ToWrite → ⊥ = search rules in
    let none : length c.new-content.result.items ≡ 0 = ap length c.new-content.ensures.items in
    let few : length c.read.new.into.items ≤ most_bytes_of_opened + 1 = omega (arith, c.read.ensures.within, none) in
    finds_read c.args.mode c.args.name.now (g.F.Files.state c.args.files.now).held asked c.read.new.into.items
    (found_so c.args.name.now c.read.new.into.items (g.F.Files.state c.args.files.now).held
    (subst (λ (before : List ℕ). Reads (g.F.Files.state c.args.files.now).held c.args.name.now (most_bytes_of_opened + 1) before c.read.new.into.items)
    c.new-content.ensures.items c.in-Ok.ensures.ok) few)
    c.unless_long.result c.unless_long.ensures

pub returns-in-Ok-clause-leaves : goal.returns-in-Ok-clause-leaves
returns-in-Ok-clause-leaves g c = λ left counts.
    looks_up (g.F.Files.state c.args.files.now) (g.F.Files.state c.read.new.self) left counts (g.O.Sink.state c.args.out.now)
    (g.O.Sink.state c.settle.new.out) (g.E.Sink.state c.args.err.now) (g.E.Sink.state c.settle.new.err)
    (c.in_ok-settle.ensures.settles (g.F.Files.state c.args.files.now) left counts) c.read.ensures.same c.unless_long.result
    (kept_counts (c.in-Ok.ensures.cause.stayed (λ is. cc)) (c.in-Ok.ensures.want.stayed (λ is. cc)) c.read.ensures.absence.later)

pub returns-in-Err-NotThere-clause-found : goal.returns-in-Err-NotThere-clause-found
returns-in-Err-NotThere-clause-found g c =
    let asked : c.args.mode ≡ ToWrite → ⊥ = search rules in
    let absent = ap Err c.in-Err-NotThere.field-0-is in
    finds_absent c.args.mode c.args.name.now (g.F.Files.state c.args.files.now).held asked
    (absent_so c.args.name.now (g.F.Files.state c.args.files.now).held (c.in-Err-NotThere.ensures.absent absent)) c.where_absent.result
    (c.where_absent.ensures ∙ ap (λ (bytes : List ℕ). let o : Option (List ℕ) = if is_read_by c.args.mode then None else Some bytes in o)
    (c.in-Err-NotThere.ensures.nothing absent ∙ c.new-content.ensures.items))

pub returns-in-Err-NotThere-clause-leaves : goal.returns-in-Err-NotThere-clause-leaves
returns-in-Err-NotThere-clause-leaves g c = λ left counts.
    let cause = rw c.in-Err-NotThere.field-0-is at c.in-Err-NotThere.ensures.cause in
    let want = rw c.in-Err-NotThere.field-0-is at c.in-Err-NotThere.ensures.want in
    looks_up (g.F.Files.state c.args.files.now) (g.F.Files.state c.read.new.self) left counts (g.O.Sink.state c.args.out.now)
    (g.O.Sink.state c.settle.new.out) (g.E.Sink.state c.args.err.now) (g.E.Sink.state c.settle.new.err)
    (c.in_ok-settle.ensures.settles (g.F.Files.state c.args.files.now) left counts) c.read.ensures.same c.where_absent.result
    (kept_counts (cause.stayed (λ is. cc)) (want.stayed (λ is. cc)) c.read.ensures.absence.later)

pub returns-in-Err-Failed-clause-found : goal.returns-in-Err-Failed-clause-found
returns-in-Err-Failed-clause-found g c = finds_fault c.args.mode c.args.name.now (g.F.Files.state c.args.files.now).held

pub returns-in-Err-Failed-clause-leaves : goal.returns-in-Err-Failed-clause-leaves
returns-in-Err-Failed-clause-leaves g c = λ left counts.
    let cause = rw c.in-Err-Failed.field-0-is at c.in-Err-Failed.ensures.cause in
    let want = rw c.in-Err-Failed.field-0-is at c.in-Err-Failed.ensures.want in
    looks_failing (g.F.Files.state c.args.files.now) (g.F.Files.state c.read.new.self) left counts (g.O.Sink.state c.args.out.now)
    (g.O.Sink.state c.settle.new.out) (g.E.Sink.state c.args.err.now) (g.E.Sink.state c.settle.new.err)
    (c.in_ok-settle.ensures.settles (g.F.Files.state c.args.files.now) left counts) c.read.ensures.same (Unit {0})
    (record { faults = cause.rose refl; wants = want.stayed (λ is. cc); absences = c.read.ensures.absence.later })

pub returns-in-Err-NoMemory-clause-found : goal.returns-in-Err-NoMemory-clause-found
returns-in-Err-NoMemory-clause-found g c = finds_want c.args.mode c.args.name.now (g.F.Files.state c.args.files.now).held

pub returns-in-Err-NoMemory-clause-leaves : goal.returns-in-Err-NoMemory-clause-leaves
returns-in-Err-NoMemory-clause-leaves g c = λ left counts.
    let cause = rw c.in-Err-NoMemory.field-0-is at c.in-Err-NoMemory.ensures.cause in
    let want = rw c.in-Err-NoMemory.field-0-is at c.in-Err-NoMemory.ensures.want in
    looks_wanting (g.F.Files.state c.args.files.now) (g.F.Files.state c.read.new.self) left counts (g.O.Sink.state c.args.out.now)
    (g.O.Sink.state c.settle.new.out) (g.E.Sink.state c.args.err.now) (g.E.Sink.state c.settle.new.err)
    (c.in_ok-settle.ensures.settles (g.F.Files.state c.args.files.now) left counts) c.read.ensures.same (Unit {0})
    (record { faults = cause.stayed (λ is. cc); wants = want.rose refl; absences = c.read.ensures.absence.later })

pub returns-then-eq-clause-found : goal.returns-then-eq-clause-found
returns-then-eq-clause-found g c =
    let is : c.args.mode ≡ ToWrite = search rules in
    finds_new c.args.mode c.args.name.now (g.F.Files.state c.args.files.now).held is c.new-content.result c.new-content.ensures.items

pub returns-in_err-settle-clause-settled : goal.returns-in_err-settle-clause-settled
returns-in_err-settle-clause-settled g c = λ asked.
    still_pending (type_of c.settle.result) _ _ c.in_err-settle.field-0.0 c.from_residual.result (g.O.Sink.pending c.settle.new.out)
    (g.E.Sink.pending c.settle.new.err)
    c.from_residual.ensures.1 (c.in_err-settle.ensures.settles (g.F.Files.state c.args.files.now) None (source_counts 0 0 0))
