-- What a file holds as it is opened is found, and the file is made.
use Rattle.std.proofs.Common.{ap, subst, ℕ, List, Ok, string_bytes}
use Rattle.icn_streams.specs.Handed.{call_streams}
use Rattle.icn_filefn.specs.OpenParts.{FindsOfSome}
use Rattle.icn_filefn.proofs.OpenSteps.{finding_fails, finding_stops, opening_gives, opening_stops}
use Rattle.icn_filefn.proofs.LookedUp.{type_of}
use Rattle.icn_filefn.proofs.opening.open_named.Goals as goal
use Rattle.icn_vars.specs.Outcomes.{answer_of}
use Rattle.icn_vars.specs.Stops.{halt_of}
use Rattle.icn_args.proofs.RowAnswers.{same_halt}

pub returns-in_err-content : goal.returns-in_err-content
returns-in_err-content g c = λ left counts.
    finding_stops c.args.mode (string_bytes c.args.name) c.args.w.now (g.L.Locals.items c.args.l.now) c.requires
    (call_streams (g.F.Files.state c.args.files.now) left counts (g.O.Sink.state c.args.out.now) (g.E.Sink.state c.args.err.now))
    (call_streams (g.F.Files.state c.first_content.new.files) left counts (g.O.Sink.state c.first_content.new.out) (g.E.Sink.state c.first_content.new.err))
    (type_of c.first_content.result) c.in_err-content.field-0.0 (answer_of c.from_residual.result)
    (same_halt c.in_err-content.field-0.0 c.from_residual.result c.from_residual.ensures.1) c.in_err-content.ensures.asked
    (c.in_err-content.ensures.leaves left counts)

pub returns-in_err-make_file-in-Some : goal.returns-in_err-make_file-in-Some
returns-in_err-make_file-in-Some g c = λ left counts.
    opening_stops c.args.mode (string_bytes c.args.name) c.args.w.now (g.L.Locals.items c.args.l.now)
    (call_streams (g.F.Files.state c.args.files.now) left counts (g.O.Sink.state c.args.out.now) (g.E.Sink.state c.args.err.now))
    (call_streams (g.F.Files.state c.first_content.new.files) left counts (g.O.Sink.state c.first_content.new.out) (g.E.Sink.state c.first_content.new.err))
    (Ok c.in_ok-content.field-0)
    (subst (λ (name : List ℕ). FindsOfSome c.args.mode name (g.F.Files.state c.args.files.now).held (Ok c.in_ok-content.field-0)) c.deref.ensures
    c.in_ok-content.ensures.found)
    (c.in_ok-content.ensures.leaves left counts)
    c.in-Some.content (ap Ok c.in-Some.is) c.make_file.new.w c.make_file.ensures.kept.locals c.make_file.ensures.kept.items
    c.in_err-make_file-in-Some.field-0.0 (answer_of c.from_residual-in_err-make_file-in-Some.result)
    (same_halt (halt_of c.in_err-make_file-in-Some.field-0.0) c.from_residual-in_err-make_file-in-Some.result
    c.from_residual-in_err-make_file-in-Some.ensures.1)
    c.in_err-make_file-in-Some.ensures.found c.in_err-make_file-in-Some.ensures.stops

pub returns-in_ok-make_file-in-Some : goal.returns-in_ok-make_file-in-Some
returns-in_ok-make_file-in-Some g c = λ left counts.
    opening_gives c.args.mode (string_bytes c.args.name) c.args.w.now (g.L.Locals.items c.args.l.now)
    (call_streams (g.F.Files.state c.args.files.now) left counts (g.O.Sink.state c.args.out.now) (g.E.Sink.state c.args.err.now))
    (call_streams (g.F.Files.state c.first_content.new.files) left counts (g.O.Sink.state c.first_content.new.out) (g.E.Sink.state c.first_content.new.err))
    (Ok c.in_ok-content.field-0)
    (subst (λ (name : List ℕ). FindsOfSome c.args.mode name (g.F.Files.state c.args.files.now).held (Ok c.in_ok-content.field-0)) c.deref.ensures
    c.in_ok-content.ensures.found)
    (c.in_ok-content.ensures.leaves left counts)
    c.in-Some.content (ap Ok c.in-Some.is) c.make_file.new.w c.make_file.ensures.kept.locals c.make_file.ensures.kept.items
    c.in_ok-make_file-in-Some.field-0 c.in_ok-make_file-in-Some.ensures.found c.in_ok-make_file-in-Some.ensures.live

pub returns-in-None : goal.returns-in-None
returns-in-None g c = λ left counts.
    finding_fails c.args.mode (string_bytes c.args.name) c.args.w.now (g.L.Locals.items c.args.l.now)
    (call_streams (g.F.Files.state c.args.files.now) left counts (g.O.Sink.state c.args.out.now) (g.E.Sink.state c.args.err.now))
    (call_streams (g.F.Files.state c.first_content.new.files) left counts (g.O.Sink.state c.first_content.new.out) (g.E.Sink.state c.first_content.new.err))
    (Ok c.in_ok-content.field-0)
    (subst (λ (name : List ℕ). FindsOfSome c.args.mode name (g.F.Files.state c.args.files.now).held (Ok c.in_ok-content.field-0)) c.deref.ensures
    c.in_ok-content.ensures.found)
    (c.in_ok-content.ensures.leaves left counts)
    (ap Ok c.in-None.is) c.requires
