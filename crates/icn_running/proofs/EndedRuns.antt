-- The end of a run: its report is put, and then the files are written that are open.
use Rattle.std.proofs.Common.{◌≡◌, refl, ap, inl, inr, List, ℕ, [], Result, Ok, Err}
use Rattle.std.specs.Prelude.{IfErr, IfOk, IsErrAnd, OnOk}
use Rattle.icn_host.specs.FileMaps.{StoreState}
use Rattle.icn_host.specs.Puts.{PutsAll, StopsBy}
use Rattle.icn_host.specs.Sinks.{SinkState}
use Rattle.icn_host.specs.declared.fault.Fault.{Fault}
use Rattle.icn_host.specs.declared.fault.Fault.TheVariants as Faults
use Rattle.icn_host.proofs.SinkSteps.{gains_nothing}
use Rattle.icn_value.specs.Store.{Heap, Outside}
use Rattle.icn_defs.specs.Interruptions.{TellsMap}
use Rattle.icn_defs.specs.Running.{AtBound, Ending, files_written}
use Rattle.icn_defs.specs.declared.ending.Ending.{Ending as HeldEnding}
use Rattle.icn_defs.specs.declared.ending.Ending.TheVariants as HeldEndings
use Rattle.icn_defs.proofs.Interruptions.{holds_told}
use Rattle.icn_filefn.specs.WrittenFiles.{ComesToFiles, StoreCause}
use Rattle.icn_streams.proofs.IdleCalls.{keeps_store_refl}
use Rattle.icn_running.specs.Reported.{AnswersEnd, EndObjects, WritesAtEnd, cut_short, end_objects, ended, ending_seen, of_store, unwritten}
use Rattle.icn_running.specs.SinkFaults.{of_sink}
use Rattle.icn_running.specs.declared.fault.RunFault.{RunFault}
use Rattle.icn_running.specs.declared.fault.RunFault.TheVariants.{WriteFault, NoMemory}

-- The report

-- none is put
pub none_put : (errors : SinkState) → PutsAll errors errors []
none_put errors = record { gains = gains_nothing errors.held; faults = refl; wants = refl }

-- it was not put whole
pub report_stops : (ending : Ending) (heap : Heap) (text : List ℕ) (files : StoreState) (errors errors' : SinkState) (fault : Fault)
    (result : Result HeldEnding RunFault) → IsErrAnd result (λ other. other ≡ of_sink fault) → StopsBy fault errors errors' text
    → AnswersEnd ending heap text result (end_objects files errors) (end_objects files errors')
report_stops ending heap text files errors errors' fault (Ok answer) same stops = absurd same
report_stops ending heap text files errors errors' Faults.Failed (Err other) same stops =
    cut_short WriteFault (ap (λ (f : RunFault). let r : Result HeldEnding RunFault = Err f in r) same) stops refl
report_stops ending heap text files errors errors' Faults.NoMemory (Err other) same stops =
    cut_short NoMemory (ap (λ (f : RunFault). let r : Result HeldEnding RunFault = Err f in r) same) (inr stops) refl

-- it could not be made, since memory was wanting
pub report_lacking : (ending : Ending) (heap : Heap) (text : List ℕ) (objects : EndObjects) (result : Result HeldEnding RunFault)
    → IsErrAnd result (λ other. other ≡ NoMemory) → AnswersEnd ending heap text result objects objects
report_lacking ending heap text objects (Ok answer) same = absurd same
report_lacking ending heap text objects (Err other) same =
    cut_short NoMemory (ap (λ (f : RunFault). let r : Result HeldEnding RunFault = Err f in r) same) (inl refl) refl

-- The files

-- at the bound none is written
pub none_written : (heap : Heap) (files : StoreState) → WritesAtEnd AtBound heap files files (Ok tt)
none_written heap files =
    record { written = λ was told. holds_told files.held was.files told; cause = keeps_store_refl files }

-- at any other ending those are that are open
pub writes_end : (ending : HeldEnding) (heap : Heap) (files files' : StoreState) (result : Result (Unit {0}) Fault) → (ending ≡ HeldEndings.AtBound → ⊥)
    → ((was : Outside) → TellsMap files.held was.files → ComesToFiles was (files_written heap was) files.held files'.held result)
    → StoreCause result files files' → WritesAtEnd (ending_seen ending) heap files files' result
writes_end HeldEndings.Done heap files files' result other written cause = record { written = written; cause = cause }
writes_end (HeldEndings.Exit status) heap files files' result other written cause = record { written = written; cause = cause }
writes_end (HeldEndings.Errored number) heap files files' result other written cause = record { written = written; cause = cause }
writes_end HeldEndings.AtBound heap files files' result other written cause = absurd (other refl)

-- Both

-- the report was put whole, and then files were written
pub ended_so : (ending : HeldEnding) (heap : Heap) (text : List ℕ) (result : Result HeldEnding RunFault) (files files' : StoreState)
    (errors errors' : SinkState) → PutsAll errors errors' text
    → IfOk result (λ answer. (answer ≡ ending) × WritesAtEnd (ending_seen ending) heap files files' (Ok tt))
    → IfErr result (λ fault. (broken : Fault) × (fault ≡ of_store broken) × WritesAtEnd (ending_seen ending) heap files files' (Err broken))
    → AnswersEnd (ending_seen ending) heap text result (end_objects files errors) (end_objects files' errors')
ended_so ending heap text (Ok answer) files files' errors errors' puts ok err = ended answer refl (ap ending_seen ok.0) puts ok.1
ended_so ending heap text (Err fault) files files' errors errors' puts ok err =
    unwritten err.0 (ap (λ (f : RunFault). let r : Result HeldEnding RunFault = Err f in r) err.1) puts err.2

-- what is so behind an end is so where its ending is answered
pub settled_whole : (P : Type 0) (result : Result HeldEnding RunFault) → P → OnOk result P
settled_whole P (Ok ending) is = is
settled_whole P (Err fault) is = tt
