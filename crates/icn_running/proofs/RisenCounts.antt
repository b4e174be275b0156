-- Which count rose in a run that is over or was broken off, once its report is put and its files are written.
use Rattle.std.proofs.Common.{inl, inr, List, ℕ, [], Some, None, Result, Ok, Err, sym, subst}
use Rattle.icn_host.specs.FileMaps.{StoreState}
use Rattle.icn_host.specs.Sinks.{SinkState}
use Rattle.icn_host.specs.Puts.{PutsAll}
use Rattle.icn_host.specs.declared.fault.Fault.{Fault}
use Rattle.icn_host.specs.declared.fault.Fault.TheVariants as Faults
use Rattle.icn_value.specs.Store.{Heap, Names}
use Rattle.icn_heap.specs.Extents.{Extent}
use Rattle.icn_heap.specs.Heaps.{heap_of}
use Rattle.icn_defs.specs.Running.{Ending, Done, Exit, Errored, AtBound, bound_report}
use Rattle.icn_vars.specs.declared.outcome.Halt.{Halt}
use Rattle.icn_vars.specs.declared.outcome.Halt.TheVariants as Halts
use Rattle.icn_defs.specs.declared.ending.Ending.{Ending as HeldEnding}
use Rattle.icn_streams.specs.Handed.{CallStreams, KeepsAllCounts, KeepsFaultCounts, KeepsStoreCounts, errors_want, files_want, uncounted}
use Rattle.icn_streams.proofs.IdleCalls.{keeps_all_counts_refl}
use Rattle.icn_control.specs.Machines.{extent}
use Rattle.icn_control.specs.declared.machine.Machine.{Machine}
use Rattle.icn_control.specs.declared.machine.RunState.{RunState}
use Rattle.icn_machine.specs.declared.stepping.AfterStep.{AfterStep}
use Rattle.icn_machine.specs.declared.stepping.AfterStep.TheVariants as AfterSteps
use Rattle.icn_machine.specs.Stepping.{IsFirstFault, errors_fail}
use Rattle.icn_machine.specs.AfterInstruction.{stage_result}
use Rattle.icn_machine.proofs.CountedFaults.{left_alone, sink_fails, sink_then, sink_wants, store_fails, store_then, store_wants}
use Rattle.icn_running.specs.declared.fault.RunFault.{RunFault}
use Rattle.icn_running.specs.declared.fault.RunFault.TheVariants.{ReadFault, WriteFault, FileFault, NoMemory}
use Rattle.icn_running.specs.Reported.{AnswersEnd, AnswersFault, AnswersHalt, AnswersMachine, AnswersUnbegun, CutsShort, EndObjects, WritesAtEnd, cut_short, end_objects, ended, of_store, unwritten}
use Rattle.icn_running.specs.Runs.{EndsAtFirst}
use Rattle.icn_running.proofs.Observations.{then_errors, then_files}

module _ (before between : CallStreams) (store : StoreState) (errors : SinkState) where
  -- what is handed, once the report is put and the files are written
  abbrev given : CallStreams
  given = then_files (then_errors between errors) store

  cut_by : (fault : RunFault) (report : List ℕ) → KeepsAllCounts before between → KeepsStoreCounts before.files store
      → CutsShort fault between.errors errors report → EndsAtFirst {A = HeldEnding} (Err fault) before given
  cut_by ReadFault report kept files cut = absurd cut
  cut_by WriteFault report kept files cut =
      errors_fail files kept.faults kept.output (sink_fails kept.errors (record { faults = cut.faults; wants = cut.wants }))
  cut_by FileFault report kept files cut = absurd cut
  cut_by NoMemory report kept files (inl same) = uncounted (record {
    files = files;
    faults = kept.faults;
    output = kept.output;
    errors = subst (λ (s : SinkState). KeepsFaultCounts before.errors s) (sym same) kept.errors;
  })
  cut_by NoMemory report kept files (inr short) =
      errors_want files kept.faults kept.output (sink_wants kept.errors (record { faults = short.faults; wants = short.wants }))

  unwritten_by : (fault : Fault) (ending : Ending) (heap : Heap) (report : List ℕ) → KeepsAllCounts before between
      → PutsAll between.errors errors report → WritesAtEnd ending heap between.files store (Err fault)
      → EndsAtFirst {A = HeldEnding} (Err (of_store fault)) before given
  unwritten_by Faults.Failed ending heap report kept puts writes = record {
    files = store_fails kept.files writes.cause;
    faults = kept.faults;
    output = kept.output;
    errors = sink_then kept.errors (record { faults = puts.faults; wants = puts.wants });
  }
  unwritten_by Faults.NoMemory ending heap report kept puts writes =
      files_want (store_wants kept.files writes.cause) kept.faults kept.output
      (sink_then kept.errors (record { faults = puts.faults; wants = puts.wants }))

  -- nothing failed until the report was put
  at_its_end : (ending : Ending) (heap : Heap) (report : List ℕ) (answered : Result HeldEnding RunFault) → KeepsAllCounts before between
      → AnswersEnd ending heap report answered (end_objects between.files between.errors) (end_objects store errors) → EndsAtFirst answered before given
  at_its_end ending heap report answered kept (ended answer is same puts writes) =
      subst (λ (x : Result HeldEnding RunFault). EndsAtFirst x before given) (sym is) (record {
        files = store_then kept.files writes.cause;
        faults = kept.faults;
        output = kept.output;
        errors = sink_then kept.errors (record { faults = puts.faults; wants = puts.wants });
      })
  at_its_end ending heap report answered kept (cut_short fault is cut left) =
      subst (λ (x : Result HeldEnding RunFault). EndsAtFirst x before given) (sym is)
      (cut_by fault report kept (store_then kept.files (left_alone between.files store left)) cut)
  at_its_end ending heap report answered kept (unwritten fault is puts writes) =
      subst (λ (x : Result HeldEnding RunFault). EndsAtFirst x before given) (sym is) (unwritten_by fault ending heap report kept puts writes)

  -- a fault broke the run off, and nothing was put or written since
  at_fault : (fault : RunFault) (answered : Result HeldEnding RunFault) → EndsAtFirst {A = HeldEnding} (Err fault) before between
      → AnswersFault fault answered (end_objects between.files between.errors) (end_objects store errors) → EndsAtFirst answered before given
  at_fault fault answered first p =
      subst (λ (x : Result HeldEnding RunFault). EndsAtFirst x before given) (sym p.0)
      (subst (λ (x : EndObjects). EndsAtFirst {A = HeldEnding} (Err fault) before (then_files (then_errors between x.errors) x.files)) (sym p.1) first)

  at_halt : (A : Type 0) (names : Names) (heap : Heap) (all : Extent) (halt : Halt) (answered : Result HeldEnding RunFault)
      → IsFirstFault {A = A} (Err halt) before between
      → AnswersHalt names heap all halt answered (end_objects between.files between.errors) (end_objects store errors)
      → EndsAtFirst answered before given
  at_halt A names heap all (Halts.Error number offending) answered first p = at_its_end (Errored number) heap _ answered first p
  at_halt A names heap all (Halts.Ends status) answered first p = at_its_end (Exit status) heap [] answered first p
  at_halt A names heap all Halts.ReadFault answered first p = at_fault ReadFault answered first p
  at_halt A names heap all Halts.WriteFault answered first p = at_fault WriteFault answered first p
  at_halt A names heap all Halts.FileFault answered first p = at_fault FileFault answered first p
  at_halt A names heap all Halts.NoMemory answered first p = at_fault NoMemory answered first p

-- of a run whose machine has stopped
pub machine_counts : {K : Type 0} (names : Names) (n : Machine K) (stopped : Result AfterStep Halt) (answered : Result HeldEnding RunFault)
    (before between : CallStreams) (store : StoreState) (errors : SinkState) → IsFirstFault (stage_result stopped) before between
    → AnswersMachine names n stopped answered (end_objects between.files between.errors) (end_objects store errors)
    → EndsAtFirst answered before (then_files (then_errors between errors) store)
machine_counts names n (Ok AfterSteps.Running) answered before between store errors first p = absurd p
machine_counts names n (Ok AfterSteps.Over) answered before between store errors first p =
    at_its_end before between store errors Done (heap_of n.world.heap) [] answered first p
machine_counts names n (Ok AfterSteps.AtBound) answered before between store errors first p =
    at_its_end before between store errors AtBound (heap_of n.world.heap) bound_report answered first p
machine_counts names n (Err halt) answered before between store errors first p =
    at_halt before between store errors RunState names (heap_of n.world.heap) (extent n) halt answered first p

-- of one that was over before its first instruction
pub unbegun_counts : (names : Names) (heap : Heap) (halt : Halt) (answered : Result HeldEnding RunFault) (before : CallStreams) (store : StoreState)
    (errors : SinkState)
    → AnswersUnbegun names heap halt answered (end_objects before.files before.errors) (end_objects store errors)
    → EndsAtFirst answered before (then_files (then_errors before errors) store)
unbegun_counts names heap (Halts.Error number None) answered before store errors p =
    at_its_end before before store errors (Errored number) heap _ answered (keeps_all_counts_refl before) p
unbegun_counts names heap (Halts.Error number (Some offending)) answered before store errors p = absurd p
unbegun_counts names heap (Halts.Ends status) answered before store errors p = absurd p
unbegun_counts names heap Halts.ReadFault answered before store errors p = absurd p
unbegun_counts names heap Halts.WriteFault answered before store errors p = absurd p
unbegun_counts names heap Halts.FileFault answered before store errors p = absurd p
unbegun_counts names heap Halts.NoMemory answered before store errors p =
    at_fault before before store errors NoMemory answered (uncounted (keeps_all_counts_refl before)) p
