use Rattle.std.proofs.Common.{◌∙◌, ap, sym}
use Rattle.icn_value.specs.Store.{Heap}
use Rattle.icn_heap.specs.Heaps.{extent_of, heap_of}
use Rattle.icn_code.specs.CodeTables.{tables_of}
use Rattle.icn_run.specs.Step.{all_names}
use Rattle.icn_running.specs.Reported.{end_objects}
use Rattle.icn_running.proofs.EndsAtStart.{halts_unbegun, unbegun_lacking}
use Rattle.icn_running.proofs.endings.end_unbegun.Goals as goal

pub returns-clause-answers : goal.returns-clause-answers
returns-clause-answers g c = λ heap empty.
    halts_unbegun (all_names (tables_of c.args.code.now)) (heap_of c.in_ok-heap.heap) heap (extent_of c.in_ok-heap.heap) c.args.halt c.end_halted.result _ _
    (ap (λ (h : Heap). h.files) c.in_ok-heap.ensures ∙ sym empty) c.requires c.end_halted.ensures.answers

pub returns-in_err-heap-clause-answers : goal.returns-in_err-heap-clause-answers
returns-in_err-heap-clause-answers g c = λ heap empty.
    unbegun_lacking (all_names (tables_of c.args.code.now)) heap c.args.halt
    (end_objects (g.F.Files.state c.args.files.now) (g.E.Sink.state c.args.err.now)) c.from_residual.result c.requires c.from_residual.ensures.1
