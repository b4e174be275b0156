-- A run that was over before its first instruction.
use Rattle.std.proofs.Common.{◌≡◌, refl, ap, subst, ℕ, List, Some, None, Result, Ok, Err}
use Rattle.std.specs.Prelude.{IsErrAnd}
use Rattle.icn_host.specs.FileMaps.{StoreState}
use Rattle.icn_host.specs.declared.fault.Fault.{Fault}
use Rattle.icn_value.specs.Store.{Heap, Names, OpenedFile}
use Rattle.icn_defs.specs.Errors.{error_report}
use Rattle.icn_defs.specs.OpenFiles.{all_written_out}
use Rattle.icn_filefn.specs.WrittenFiles.{ComesToFiles}
use Rattle.icn_heap.specs.Extents.{Extent}
use Rattle.icn_defs.specs.Running.{Errored, Launch}
use Rattle.icn_vars.specs.declared.outcome.Halt.{Halt}
use Rattle.icn_vars.specs.declared.outcome.Halt.TheVariants as Halts
use Rattle.icn_code.specs.Codes.{Tables}
use Rattle.icn_defs.specs.declared.ending.Ending.{Ending as HeldEnding}
use Rattle.icn_machine.specs.Starting.{StartsAs}
use Rattle.icn_running.specs.HaltReasons.{IsUnbegun}
use Rattle.icn_running.specs.declared.fault.RunFault.{RunFault}
use Rattle.icn_running.specs.declared.fault.RunFault.TheVariants.{NoMemory}
use Rattle.icn_running.proofs.EndedRuns.{report_lacking}
use Rattle.icn_running.specs.Reported.{AnswersEnd, AnswersHalt, AnswersUnbegun, EndObjects, WritesAtEnd, cut_short, ended, unwritten}

pub start_halts : (K : Type 0) (tables : Tables) (launch : Launch) (halt : Halt) → StartsAs {K = K} tables launch (Err halt) → IsUnbegun halt
start_halts K tables launch (Halts.Error number None) starts = tt
start_halts K tables launch (Halts.Error number (Some offending)) starts = absurd starts
start_halts K tables launch (Halts.Ends status) starts = absurd starts
start_halts K tables launch Halts.ReadFault starts = absurd starts
start_halts K tables launch Halts.WriteFault starts = absurd starts
start_halts K tables launch Halts.FileFault starts = absurd starts
start_halts K tables launch Halts.NoMemory starts = tt

-- an end writes the same, whatever the heap is, where it opened the same files
writes_alike : (number : ℕ) (a b : Heap) → a.files ≡ b.files → (before after : StoreState) (result : Result (Unit {0}) Fault)
    → WritesAtEnd (Errored number) a before after result → WritesAtEnd (Errored number) b before after result
writes_alike number a b same before after result writes = record {
  written = λ was told. subst (λ (files : List OpenedFile). ComesToFiles was (all_written_out files was) before.held after.held result) same
      (writes.written was told);
  cause = writes.cause;
}

ends_alike : (number : ℕ) (a b : Heap) → a.files ≡ b.files → (text : List ℕ) (answered : Result HeldEnding RunFault) (before after : EndObjects)
    → AnswersEnd (Errored number) a text answered before after → AnswersEnd (Errored number) b text answered before after
ends_alike number a b same text answered before after (ended answer is ending puts writes) =
    ended answer is ending puts (writes_alike number a b same before.files after.files _ writes)
ends_alike number a b same text answered before after (cut_short fault is cut left) = cut_short fault is cut left
ends_alike number a b same text answered before after (unwritten fault is puts writes) =
    unwritten fault is puts (writes_alike number a b same before.files after.files _ writes)

-- an error that is about no value has one report, whatever the heap is
pub halts_unbegun : (names : Names) (heap other : Heap) (all : Extent) (halt : Halt) (answered : Result HeldEnding RunFault) (before after : EndObjects)
    → heap.files ≡ other.files → IsUnbegun halt → AnswersHalt names heap all halt answered before after
    → AnswersUnbegun names other halt answered before after
halts_unbegun names heap other all (Halts.Error number None) answered before after same is p =
    ends_alike number heap other same (error_report names other number None) answered before after p
halts_unbegun names heap other all (Halts.Error number (Some offending)) answered before after same is p = absurd is
halts_unbegun names heap other all (Halts.Ends status) answered before after same is p = absurd is
halts_unbegun names heap other all Halts.ReadFault answered before after same is p = absurd is
halts_unbegun names heap other all Halts.WriteFault answered before after same is p = absurd is
halts_unbegun names heap other all Halts.FileFault answered before after same is p = absurd is
halts_unbegun names heap other all Halts.NoMemory answered before after same is p = p

-- memory was wanting before the heap was made
pub unbegun_lacking : (names : Names) (heap : Heap) (halt : Halt) (objects : EndObjects) (result : Result HeldEnding RunFault) → IsUnbegun halt
    → IsErrAnd result (λ other. other ≡ NoMemory) → AnswersUnbegun names heap halt result objects objects
unbegun_lacking names heap (Halts.Error number None) objects result is same = report_lacking (Errored number) heap _ objects result same
unbegun_lacking names heap (Halts.Error number (Some offending)) objects result is same = absurd is
unbegun_lacking names heap (Halts.Ends status) objects result is same = absurd is
unbegun_lacking names heap Halts.ReadFault objects result is same = absurd is
unbegun_lacking names heap Halts.WriteFault objects result is same = absurd is
unbegun_lacking names heap Halts.FileFault objects result is same = absurd is
unbegun_lacking names heap Halts.NoMemory objects (Ok answer) is same = absurd same
unbegun_lacking names heap Halts.NoMemory objects (Err other) is same = (ap (λ (f : RunFault). let r : Result HeldEnding RunFault = Err f in r) same, refl)
