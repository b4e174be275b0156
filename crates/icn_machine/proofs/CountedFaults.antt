-- How counts of faults add up, and what is taken of an input.
use Rattle.std.proofs.Common.{◌≡◌, ◌∙◌, ◌+◌, ◌≤◌, sym, ap, subst, ℕ, List, drop, Option, None, Some, Result, Ok, Err, arith}
use Rattle.std.specs.Prelude.{IfSome}
use Rattle.std.proofs.lemmas.List.{drop-drop}
use Rattle.icn_host.specs.Counts.{one_more}
use Rattle.icn_host.specs.FileMaps.{StoreState}
use Rattle.icn_host.specs.Sinks.{SinkState}
use Rattle.icn_value.specs.Store.{Event, Outside}
use Rattle.icn_defs.specs.Interruptions.{LosesPart, LosesSome, left_behind}
use Rattle.icn_defs.proofs.Interruptions.{left_is_rest}
use Rattle.icn_vars.specs.declared.outcome.Halt.{Halt}
use Rattle.icn_vars.specs.declared.outcome.Halt.TheVariants as Halts
use Rattle.icn_run.specs.Stacks.{Frames}
use Rattle.icn_run.specs.Step.{State}
use Rattle.icn_streams.specs.Answers.{Allows, AllowsBehind, Told}
use Rattle.icn_streams.specs.Handed.{CallStreams, FailsOnce, KeepsAllCounts, KeepsFaultCounts, KeepsStoreCounts, StoreFailsOnce, StoreWantsOnce, WantsMemory, WantsOnce, WritingFails, failed_once, wanted_once, uncounted, files_want, input_wants, output_wants, errors_want, output_fails as writing_output, errors_fail as writing_errors}
use Rattle.icn_streams.proofs.IdleCalls.{keeps_store_refl}
use Rattle.icn_machine.specs.InstructionAnswers.{AnswersStep, BreaksOff, IsCause, behind, files, idle, putting, reading}
use Rattle.icn_machine.specs.Stepping.{IsFirstFault, OutputFails, errors_fail, output_fails}

-- One behind another

pub sink_then : {a b c : SinkState} → KeepsFaultCounts a b → KeepsFaultCounts b c → KeepsFaultCounts a c
sink_then first second = record { faults = second.faults ∙ first.faults; wants = second.wants ∙ first.wants }

pub sink_fails : {a b c : SinkState} → KeepsFaultCounts a b → FailsOnce b c → FailsOnce a c
sink_fails first second = record { faults = second.faults ∙ ap one_more first.faults; wants = second.wants ∙ first.wants }

pub sink_wants : {a b c : SinkState} → KeepsFaultCounts a b → WantsOnce b c → WantsOnce a c
sink_wants first second = record { faults = second.faults ∙ first.faults; wants = second.wants ∙ ap one_more first.wants }

more_absences : (a b c : ℕ) → a ≤ b → b ≤ c → a ≤ c
more_absences a b c first second = omega (arith, first, second)

pub store_then : {a b c : StoreState} → KeepsStoreCounts a b → KeepsStoreCounts b c → KeepsStoreCounts a c
store_then {a} {b} {c} first second = record {
  faults = second.faults ∙ first.faults;
  wants = second.wants ∙ first.wants;
  absences = more_absences a.counts.absences b.counts.absences c.counts.absences first.absences second.absences;
}

pub store_fails : {a b c : StoreState} → KeepsStoreCounts a b → StoreFailsOnce b c → StoreFailsOnce a c
store_fails {a} {b} {c} first second = record {
  faults = second.faults ∙ ap one_more first.faults;
  wants = second.wants ∙ first.wants;
  absences = more_absences a.counts.absences b.counts.absences c.counts.absences first.absences second.absences;
}

pub store_wants : {a b c : StoreState} → KeepsStoreCounts a b → StoreWantsOnce b c → StoreWantsOnce a c
store_wants {a} {b} {c} first second = record {
  faults = second.faults ∙ first.faults;
  wants = second.wants ∙ ap one_more first.wants;
  absences = more_absences a.counts.absences b.counts.absences c.counts.absences first.absences second.absences;
}

pub counts_then : (a b c : CallStreams) → KeepsAllCounts a b → KeepsAllCounts b c → KeepsAllCounts a c
counts_then a b c h k = record {
  files = store_then h.files k.files;
  faults = k.faults ∙ h.faults;
  output = sink_then h.output k.output;
  errors = sink_then h.errors k.errors;
}

pub output_then : (a b c : CallStreams) → KeepsAllCounts a b → OutputFails b c → OutputFails a c
output_then a b c h (output_fails s f o e) = output_fails (store_then h.files s) (f ∙ h.faults) (sink_fails h.output o) (sink_then h.errors e)
output_then a b c h (errors_fail s f o e) = errors_fail (store_then h.files s) (f ∙ h.faults) (sink_then h.output o) (sink_fails h.errors e)

pub memory_then : (a b c : CallStreams) → KeepsAllCounts a b → WantsMemory b c → WantsMemory a c
memory_then a b c h (uncounted k) = uncounted (counts_then a b c h k)
memory_then a b c h (files_want s f o e) = files_want (store_wants h.files s) (f ∙ h.faults) (sink_then h.output o) (sink_then h.errors e)
memory_then a b c h (input_wants s f o e) =
    input_wants (store_then h.files s) (f ∙ ap wanted_once h.faults) (sink_then h.output o) (sink_then h.errors e)
memory_then a b c h (output_wants s f o e) = output_wants (store_then h.files s) (f ∙ h.faults) (sink_wants h.output o) (sink_then h.errors e)
memory_then a b c h (errors_want s f o e) = errors_want (store_then h.files s) (f ∙ h.faults) (sink_then h.output o) (sink_wants h.errors e)

-- what is answered first has failed nothing
pub fault_then : {A : Type 0} (a b c : CallStreams) (result : Result A Halt) → KeepsAllCounts a b → IsFirstFault result b c → IsFirstFault result a c
fault_then a b c (Ok x) h k = counts_then a b c h k
fault_then a b c (Err (Halts.Error number offending)) h k = counts_then a b c h k
fault_then a b c (Err (Halts.Ends status)) h k = counts_then a b c h k
fault_then a b c (Err Halts.ReadFault) h k = record {
  files = store_then h.files k.files;
  faults = k.faults ∙ ap failed_once h.faults;
  output = sink_then h.output k.output;
  errors = sink_then h.errors k.errors;
}
fault_then a b c (Err Halts.WriteFault) h k = output_then a b c h k
fault_then a b c (Err Halts.FileFault) h k = record {
  files = store_fails h.files k.files;
  faults = k.faults ∙ h.faults;
  output = sink_then h.output k.output;
  errors = sink_then h.errors k.errors;
}
fault_then a b c (Err Halts.NoMemory) h k = memory_then a b c h k

-- a store that was left alone has counted nothing
pub left_alone : (a b : StoreState) → b ≡ a → KeepsStoreCounts a b
left_alone a b same = subst (λ (s : StoreState). KeepsStoreCounts a s) (sym same) (keeps_store_refl a)

output_failed : (a b : CallStreams) → WritingFails a b → OutputFails a b
output_failed a b (writing_output store left f o e) = output_fails (left_alone a.files b.files store) f o e
output_failed a b (writing_errors store left f o e) = errors_fail (left_alone a.files b.files store) f o e

-- the cause of a call is that of the first step
pub first_fault : {A : Type 0} (a b : CallStreams) (result : Result A Halt) → IsCause result a b → IsFirstFault result a b
first_fault a b (Ok x) k = k
first_fault a b (Err (Halts.Error number offending)) k = k
first_fault a b (Err (Halts.Ends status)) k = k
first_fault a b (Err Halts.ReadFault) k = record {
  files = left_alone a.files b.files k.files;
  faults = k.faults;
  output = k.output.counts;
  errors = k.errors.counts;
}
first_fault a b (Err Halts.WriteFault) k = output_failed a b k
first_fault a b (Err Halts.FileFault) k = record { files = k.files; faults = k.faults; output = k.output.counts; errors = k.errors.counts }
first_fault a b (Err Halts.NoMemory) k = k

-- What is taken of an input

-- some first bytes of a rest
rest_taken : (left : List ℕ) (done : List Event) (after : Option (List ℕ)) → LosesSome (left_behind left done) after → LosesSome left after
rest_taken left done after lost =
    let rest = left_is_rest left done in (
      rest.0 + lost.0,
      lost.1 ∙ ap (λ (l : List ℕ). Some (drop lost.0 l)) rest.1 ∙ ap (λ (l : List ℕ). Some l) (drop-drop lost.0 rest.0 left),
    )

-- what is left behind some events
behind_taken : (left : List ℕ) (done : List Event) (after : Option (List ℕ)) → after ≡ Some (left_behind left done) → LosesSome left after
behind_taken left done after is = let rest = left_is_rest left done in (rest.0, is ∙ ap (λ (l : List ℕ). Some l) rest.1)

part_taken : (left : List ℕ) (done : List Event) (most : ℕ) (after : Option (List ℕ)) → LosesPart (left_behind left done) most after → LosesSome left after
part_taken left done most after lost = rest_taken left done after (lost.count, lost.is)

-- some first bytes may be taken twice
pub taken_then : (before between after : Option (List ℕ)) → IfSome before (λ left. LosesSome left between) → IfSome between (λ left. LosesSome left after)
    → IfSome before (λ left. LosesSome left after)
taken_then None between after first second = tt
taken_then (Some left) between after first second =
    let again : LosesSome (drop first.0 left) after = subst (λ (o : Option (List ℕ)). IfSome o (λ rest. LosesSome rest after)) first.1 second in
    (first.0 + again.0, again.1 ∙ ap (λ (l : List ℕ). Some l) (drop-drop again.0 first.0 left))

off_taken : (state : State Frames Frames) (was : Outside) (a b : CallStreams) → a.left ≡ Some was.left → BreaksOff state was a b → LosesSome was.left b.left
off_taken state was a b told (idle e) = (0, e.left ∙ told)
off_taken state was a b told (reading broken) = part_taken was.left broken.done _ b.left broken.stands.rest
off_taken state was a b told (files broken) = behind_taken was.left broken.done b.left broken.stands.rest
off_taken state was a b told (putting broken) = behind_taken was.left broken.done b.left broken.stands.rest
off_taken state was a b told (behind follows) = behind_taken was.left follows.done b.left follows.stands.rest

-- whatever was answered
pub step_taken : {A : Type 0} (Comes : Outside → Result A Halt → Type 0) (state : State Frames Frames) (was : Outside) (a b : CallStreams)
    (result : Result A Halt) → a.left ≡ Some was.left → AnswersStep Comes state was a b result → LosesSome was.left b.left
step_taken Comes state was a b (Ok x) told t = behind_taken was.left t.follows.done b.left t.follows.stands.rest
step_taken Comes state was a b (Err (Halts.Error number offending)) told t = behind_taken was.left t.follows.done b.left t.follows.stands.rest
step_taken Comes state was a b (Err (Halts.Ends status)) told t = behind_taken was.left t.follows.done b.left t.follows.stands.rest
step_taken Comes state was a b (Err Halts.ReadFault) told t = part_taken was.left t.done _ b.left t.stands.rest
step_taken Comes state was a b (Err Halts.WriteFault) told t = behind_taken was.left t.done b.left t.stands.rest
step_taken Comes state was a b (Err Halts.FileFault) told t = behind_taken was.left t.done b.left t.stands.rest
step_taken Comes state was a b (Err Halts.NoMemory) told t = off_taken state was a b told t

-- of the input that is told, where it is
pub told_taken : (before after : CallStreams) (had has : Told) → Allows before had → AllowsBehind before after has → LosesSome had.left (Some has.left)
    → IfSome before.left (λ left. LosesSome left after.left)
told_taken before after had has allowed allows lost = by before.left allowed.left allows.left
  where
    by : (left : Option (List ℕ)) → IfSome left (λ l. l ≡ had.left) → IfSome left (λ l. after.left ≡ Some has.left)
        → IfSome left (λ l. LosesSome l after.left)
    by None own later = tt
    by (Some l) own later = (lost.0, later ∙ lost.1 ∙ ap (λ (x : List ℕ). Some (drop lost.0 x)) (sym own))
