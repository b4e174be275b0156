-- A text is put on one output, once the other one is settled, or goes behind what an opened file holds.
use Rattle.std.proofs.Common.{◌≡◌, ap, arith, length, refl}
use Rattle.std.proofs.lemmas.Bool.Decides.{nat_tests}
use Rattle.icn_heap.specs.Keys.{file_of}
use Rattle.icn_host.specs.declared.fault.Fault.TheVariants.{NoMemory}
use Rattle.icn_iofn.specs.PutPieces.{outputs}
use Rattle.icn_iofn.proofs.PutSteps.{errors_broken, file_broken, if_err_known, nothing_left, on_ok_map, other_way, output_broken, puts_in_file, puts_nothing, puts_on_errors, puts_on_input, puts_on_output}
use Rattle.icn_iofn.proofs.putting.flush.Goals as goal

pub returns-then-is_empty-clause-ok : goal.returns-then-is_empty-clause-ok
returns-then-is_empty-clause-ok g c =
    let none : length c.args.text.now ≡ 0 = grind (arith, nat_tests, c.is_empty.ensures, c.if-is_empty.true) in
    puts_nothing c.args.w.now (g.L.Locals.items c.args.l.now) (outputs (g.O.Sink.state c.args.out.now) (g.E.Sink.state c.args.err.now)) (file_of c.args.file)
    c.args.text.now (nothing_left c.args.text.now none)

pub returns-in-Input-clause-ok : goal.returns-in-Input-clause-ok
returns-in-Input-clause-ok g c =
    puts_on_input c.args.w.now (g.L.Locals.items c.args.l.now) (outputs (g.O.Sink.state c.args.out.now) (g.E.Sink.state c.args.err.now)) (file_of c.args.file)
    c.args.text.now (ap file_of c.in-Input.is)

pub returns-in_ok-add_text-in-Opened-clause-ok : goal.returns-in_ok-add_text-in-Opened-clause-ok
returns-in_ok-add_text-in-Opened-clause-ok g c =
    puts_in_file c.args.w.now (g.L.Locals.items c.args.l.now) c.add_text.new.w (outputs (g.O.Sink.state c.args.out.now) (g.E.Sink.state c.args.err.now))
    c.in-Opened.number (file_of c.args.file) c.args.text.now (ap file_of c.in-Opened.is) c.in_ok-add_text-in-Opened.ensures.step

pub returns-in_err-add_text-in-Opened-clause-err : goal.returns-in_err-add_text-in-Opened-clause-err
returns-in_err-add_text-in-Opened-clause-err g c =
    if_err_known c.from_residual.result _ NoMemory c.from_residual.ensures.1
    (file_broken (outputs (g.O.Sink.state c.args.out.now) (g.E.Sink.state c.args.err.now)) c.in-Opened.number (file_of c.args.file) c.args.text.now NoMemory
    (ap file_of c.in-Opened.is) refl)

pub returns-in-Output-clause-ok : goal.returns-in-Output-clause-ok
returns-in-Output-clause-ok g c =
    puts_on_output c.args.w.now (g.L.Locals.items c.args.l.now) c.put_behind.result _ _ _ _ (file_of c.args.file) c.args.text.now (ap file_of c.in-Output.is)
    c.put_behind.ensures.ok

pub returns-in-Output-clause-counts : goal.returns-in-Output-clause-counts
returns-in-Output-clause-counts g c =
    on_ok_map c.put_behind.result c.put_behind.ensures.ok (λ put. record { output = put.counts; errors = put.left.counts })

pub returns-in-Output-clause-err : goal.returns-in-Output-clause-err
returns-in-Output-clause-err g c =
    output_broken c.put_behind.result _ _ _ _ (file_of c.args.file) c.args.text.now (ap file_of c.in-Output.is) c.put_behind.ensures.err

pub returns-in-Errout-clause-ok : goal.returns-in-Errout-clause-ok
returns-in-Errout-clause-ok g c =
    puts_on_errors c.args.w.now (g.L.Locals.items c.args.l.now) c.put_behind-in-Errout.result _ _ _ _ (file_of c.args.file) c.args.text.now
    (ap file_of c.in-Errout.is) c.put_behind-in-Errout.ensures.ok

pub returns-in-Errout-clause-counts : goal.returns-in-Errout-clause-counts
returns-in-Errout-clause-counts g c =
    on_ok_map c.put_behind-in-Errout.result c.put_behind-in-Errout.ensures.ok (λ put. record { output = put.left.counts; errors = put.counts })

pub returns-in-Errout-clause-err : goal.returns-in-Errout-clause-err
returns-in-Errout-clause-err g c =
    errors_broken c.put_behind-in-Errout.result _ _ _ _ (file_of c.args.file) c.args.text.now (ap file_of c.in-Errout.is)
    c.put_behind-in-Errout.ensures.err

pub returns-in-Output-clause-settled : goal.returns-in-Output-clause-settled
returns-in-Output-clause-settled g c = rw c.in-Output.is (on_ok_map c.put_behind.result c.put_behind.ensures.settled (λ none some. none))

pub returns-in-Errout-clause-settled : goal.returns-in-Errout-clause-settled
returns-in-Errout-clause-settled g c =
    rw c.in-Errout.is (on_ok_map c.put_behind-in-Errout.result c.put_behind-in-Errout.ensures.settled (λ none some. none))

pub returns-in-Errout-clause-one_settled : goal.returns-in-Errout-clause-one_settled
returns-in-Errout-clause-one_settled g c = λ one. other_way (c.put_behind-in-Errout.ensures.one_settled (other_way one))
