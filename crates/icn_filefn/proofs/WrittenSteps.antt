-- How what is written of opened files adds up.
use Rattle.std.proofs.Common.{◌≡◌, ◌∙◌, refl, sym, ap, subst, ℕ, zero, suc, ◌+◌, ◌<◌, ◌≤◌, Bool, true, false, List, [], ◌∷◌, ◌++◌, length, take, drop, slice_get, slice_index_or, unwrap_or, Option, Result, Ok, Err, arith, append_assoc, if◌then◌else◌}
use Rattle.std.proofs.lemmas.Option.{unwrap_or-slice_get}
use Rattle.std.specs.Prelude.{IsErrAnd, IsErrOf, OnErr, OnOk}
use Rattle.icn_host.specs.Counts.{CountsOnce}
use Rattle.icn_host.specs.FileMaps.{FileMap, SetsFile, SetsPart, StoreState}
use Rattle.icn_host.specs.declared.fault.Fault.{Fault}
use Rattle.icn_host.specs.declared.fault.Fault.TheVariants.{Failed, NoMemory}
use Rattle.icn_value.specs.Store.{Event, AReading, OutputByte, ErrorByte, FileReading, FileWriting, OpenedFile, Outside, errors_in, no_file, output_in, readings_in, with_file_writing}
use Rattle.icn_defs.specs.Interruptions.{ExtendsBy, HoldsMap, TellsMap, files_behind, left_behind}
use Rattle.icn_defs.specs.OpenFiles.{all_written_out, is_open_to_write, written_out}
use Rattle.icn_defs.proofs.Interruptions.{both_left, extends_by_writing, extends_itself, extends_then, files_then, holds_then, holds_told, holds_written, leaves_written, told_behind}
use Rattle.icn_streams.specs.Handed.{KeepsStoreCounts}
use Rattle.icn_filefn.specs.WrittenFiles.{AreOfFiles, BreaksWriting, ComesToFiles, StoreCause}

-- One file

-- a file that may not be written is left as it was, and so is the store
pub not_written : (file : OpenedFile) (was : Outside) (held : Option FileMap) → is_open_to_write file ≡ false → TellsMap held was.files
    → HoldsMap held held (written_out file was).files
not_written file was held shut tells =
    subst (λ (t : Bool). HoldsMap held held (if t then with_file_writing file.name file.content was else was).files) (sym shut)
    (holds_told held was.files tells)

-- one that may be written was, or the store was broken off as it was written
pub written_by : (file : OpenedFile) (was : Outside) (before after : Option FileMap) (result : Result (Unit {0}) Fault) → is_open_to_write file ≡ true
    → OnOk result (SetsFile before after file.name file.content) → OnErr result (SetsPart before after file.name file.content)
    → TellsMap before was.files
    → ComesToFiles was (written_out file was) before after result
written_by file was before after (Ok done) opens ok err tells =
    subst (λ (t : Bool). HoldsMap before after (if t then with_file_writing file.name file.content was else was).files) (sym opens)
    (holds_written before after was.files file.name file.content tells ok)
written_by file was before after (Err fault) opens ok err tells =
    subst (λ (t : Bool). BreaksWriting was (if t then with_file_writing file.name file.content was else was) before after) (sym opens) broken
  where
    broken : BreaksWriting was (with_file_writing file.name file.content was) before after
    broken = record {
      done = [];
      call = FileWriting file.name file.content;
      due = [];
      are = refl;
      of_files = tt;
      leaves = leaves_written before after was.files file.name file.content tells err;
    }

-- Which counts of a store rose

no_fault : (done : Unit {0}) (fault : Fault) → IsErrOf {T = Unit {0}} (Ok done) fault → ⊥
no_fault done fault h = cc h

no_want : IsErrOf {T = Unit {0}} (Err Failed) NoMemory → ⊥
no_want h = cc h

no_failure : IsErrOf {T = Unit {0}} (Err NoMemory) Failed → ⊥
no_failure h = cc h

pub keeps_store : (a : StoreState) → KeepsStoreCounts a a
keeps_store a = record { faults = refl; wants = refl; absences = omega arith }

pub store_cause : (before after : StoreState) (result : Result (Unit {0}) Fault)
    → CountsOnce before.counts.faults after.counts.faults (IsErrOf result Failed)
    → CountsOnce before.counts.wants after.counts.wants (IsErrOf result NoMemory) → after.counts.absences ≡ before.counts.absences
    → StoreCause result before after
store_cause before after (Ok done) faults wants absences =
    record { faults = faults.stayed (no_fault done Failed); wants = wants.stayed (no_fault done NoMemory); absences = omega (arith, absences) }
store_cause before after (Err Failed) faults wants absences =
    record { faults = faults.rose refl; wants = wants.stayed no_want; absences = omega (arith, absences) }
store_cause before after (Err NoMemory) faults wants absences =
    record { faults = faults.stayed no_failure; wants = wants.rose refl; absences = omega (arith, absences) }

store_then : {a b c : StoreState} → KeepsStoreCounts a b → KeepsStoreCounts b c → KeepsStoreCounts a c
store_then first second = record {
  faults = second.faults ∙ first.faults;
  wants = second.wants ∙ first.wants;
  absences = omega (arith, first.absences, second.absences);
}

pub cause_then : {a b : StoreState} (c : StoreState) (fault : Fault) → KeepsStoreCounts a b → StoreCause (Err fault) b c → StoreCause (Err fault) a c
cause_then c Failed first second = record {
  faults = rw (← first.faults) second.faults;
  wants = second.wants ∙ first.wants;
  absences = omega (arith, first.absences, second.absences);
}
cause_then c NoMemory first second = record {
  faults = second.faults ∙ first.faults;
  wants = rw (← first.wants) second.wants;
  absences = omega (arith, first.absences, second.absences);
}

-- what is answered where one of several could not be written
pub stops_with : (was end : Outside) (before after : Option FileMap) (result : Result (Unit {0}) Fault) (fault : Fault)
    → IsErrAnd result (λ other. other ≡ fault) → BreaksWriting was end before after → ComesToFiles was end before after result
stops_with was end before after (Ok done) fault same breaks = absurd same
stops_with was end before after (Err other) fault same breaks = breaks

pub cause_stops : (a b c : StoreState) (result : Result (Unit {0}) Fault) (fault : Fault) → IsErrAnd result (λ other. other ≡ fault)
    → KeepsStoreCounts a b → StoreCause (Err fault) b c → StoreCause result a c
cause_stops a b c (Ok done) fault same kept cause = absurd same
cause_stops a b c (Err other) fault same kept cause =
    subst (λ (f : Fault). StoreCause (Err f) a c) (sym same) (cause_then _ fault kept cause)

-- Events of files

both_of_files : (x y : List Event) → AreOfFiles x → AreOfFiles y → AreOfFiles (x ++ y)
both_of_files [] y first second = second
both_of_files (AReading asked ∷ x) y first second = absurd first
both_of_files (OutputByte byte ∷ x) y first second = absurd first
both_of_files (ErrorByte byte ∷ x) y first second = absurd first
both_of_files (FileReading name ∷ x) y first second = both_of_files x y first second
both_of_files (FileWriting name bytes ∷ x) y first second = both_of_files x y first second

-- these leave the input as it is
pub none_taken : (left : List ℕ) (done : List Event) → AreOfFiles done → left_behind left done ≡ left
none_taken left [] are = refl
none_taken left (AReading asked ∷ done) are = absurd are
none_taken left (OutputByte byte ∷ done) are = absurd are
none_taken left (ErrorByte byte ∷ done) are = absurd are
none_taken left (FileReading name ∷ done) are = none_taken left done are
none_taken left (FileWriting name bytes ∷ done) are = none_taken left done are

pub none_asked : (done : List Event) → AreOfFiles done → readings_in done ≡ 0
none_asked [] are = refl
none_asked (AReading asked ∷ done) are = absurd are
none_asked (OutputByte byte ∷ done) are = absurd are
none_asked (ErrorByte byte ∷ done) are = absurd are
none_asked (FileReading name ∷ done) are = none_asked done are
none_asked (FileWriting name bytes ∷ done) are = none_asked done are

-- and put nothing
pub none_output : (done : List Event) → AreOfFiles done → output_in done ≡ []
none_output [] are = refl
none_output (AReading asked ∷ done) are = absurd are
none_output (OutputByte byte ∷ done) are = absurd are
none_output (ErrorByte byte ∷ done) are = absurd are
none_output (FileReading name ∷ done) are = none_output done are
none_output (FileWriting name bytes ∷ done) are = none_output done are

pub none_errors : (done : List Event) → AreOfFiles done → errors_in done ≡ []
none_errors [] are = refl
none_errors (AReading asked ∷ done) are = absurd are
none_errors (OutputByte byte ∷ done) are = absurd are
none_errors (ErrorByte byte ∷ done) are = absurd are
none_errors (FileReading name ∷ done) are = none_errors done are
none_errors (FileWriting name bytes ∷ done) are = none_errors done are

-- From the one outside to the other some events of files lead.
pub record WritesOn (was now : Outside) : Type 0 where
  pub done : List Event
  pub of_files : AreOfFiles done
  pub extends : ExtendsBy was done now

-- where one is
pub one_on : (file : OpenedFile) (was : Outside) → WritesOn was (written_out file was)
one_on file was = by (is_open_to_write file) refl
  where
    by : (t : Bool) → is_open_to_write file ≡ t → WritesOn was (written_out file was)
    by true opens = subst (λ (t : Bool). WritesOn was (if t then with_file_writing file.name file.content was else was)) (sym opens)
        (record { done = FileWriting file.name file.content ∷ []; of_files = tt; extends = extends_by_writing was file.name file.content })
    by false shut = subst (λ (t : Bool). WritesOn was (if t then with_file_writing file.name file.content was else was)) (sym shut)
        (record { done = []; of_files = tt; extends = extends_itself was })

on_then : {a b c : Outside} → WritesOn a b → WritesOn b c → WritesOn a c
on_then first second = record {
  done = first.done ++ second.done;
  of_files = both_of_files first.done second.done first.of_files second.of_files;
  extends = extends_then first.extends second.extends;
}

-- where all of these files are written
pub all_on : (files : List OpenedFile) (was : Outside) → WritesOn was (all_written_out files was)
all_on [] was = record { done = []; of_files = tt; extends = extends_itself was }
all_on (file ∷ files) was = on_then (one_on file was) (all_on files (written_out file was))

-- Several files, one behind another

-- so many of them, and then the next one
over_next : (files : List OpenedFile) (n : ℕ) (was : Outside) → n < length files
    → all_written_out (take (suc n) files) was ≡ written_out (slice_index_or files n no_file) (all_written_out (take n files) was)
over_next [] n was there = absurd (omega arith)
over_next (file ∷ files) zero was there = refl
over_next (file ∷ files) (suc n) was there = over_next files n (written_out file was) (omega arith)

-- those, and then the others
over_rest : (files : List OpenedFile) (n : ℕ) (was : Outside)
    → all_written_out files was ≡ all_written_out (drop n files) (all_written_out (take n files) was)
over_rest [] zero was = refl
over_rest [] (suc n) was = refl
over_rest (file ∷ files) zero was = refl
over_rest (file ∷ files) (suc n) was = over_rest files n (written_out file was)

over_all : (files : List OpenedFile) (n : ℕ) (was : Outside) → length files ≤ n → all_written_out (take n files) was ≡ all_written_out files was
over_all [] zero was all = refl
over_all [] (suc n) was all = refl
over_all (file ∷ files) zero was all = absurd (omega arith)
over_all (file ∷ files) (suc n) was all = over_all files n (written_out file was) (omega arith)

-- A loop over the files, which has written so many of them.
pub record HasWritten (files : List OpenedFile) (n : ℕ) (first now : StoreState) : Type 0 where
  pub held : (was : Outside) → TellsMap first.held was.files → HoldsMap first.held now.held (all_written_out (take n files) was).files
  pub counts : KeepsStoreCounts first now

pub none_written : (files : List OpenedFile) (first : StoreState) → HasWritten files 0 first first
none_written files first = record { held = λ was tells. holds_told first.held was.files tells; counts = keeps_store first }

module _ (files : List OpenedFile) (n : ℕ) (first now after : StoreState) (so : HasWritten files n first now) (there : n < length files) (file : OpenedFile)
    (at : file ≡ unwrap_or (slice_get files n) no_file) where
  -- what the store tells before the next one is written
  tells_now : (was : Outside) → TellsMap first.held was.files → TellsMap now.held (all_written_out (take n files) was).files
  tells_now was tells = told_behind first.held now.held was.files _ (all_written_out (take n files) was).files refl tells (so.held was tells)

  next_is : (was : Outside) → written_out file (all_written_out (take n files) was) ≡ all_written_out (take (suc n) files) was
  next_is was = ap (λ (f : OpenedFile). written_out f (all_written_out (take n files) was)) (at ∙ unwrap_or-slice_get files n no_file)
      ∙ sym (over_next files n was there)

  -- the next one is written
  pub one_more_written : (later : ℕ) → later ≡ suc n
      → ((was : Outside) → TellsMap now.held was.files → HoldsMap now.held after.held (written_out file was).files)
      → KeepsStoreCounts now after → HasWritten files later first after
  one_more_written later is written counts = subst (λ (m : ℕ). HasWritten files m first after) (sym is) (record {
    held = λ was tells. holds_then (ap (λ (o : Outside). o.files) (next_is was)) (so.held was tells)
        (written (all_written_out (take n files) was) (tells_now was tells));
    counts = store_then so.counts counts;
  })

  -- it is not, and nothing is done of what would have come behind it
  pub writing_stops : ((was : Outside) → TellsMap now.held was.files → BreaksWriting was (written_out file was) now.held after.held)
      → (was : Outside) → TellsMap first.held was.files → BreaksWriting was (all_written_out files was) first.held after.held
  writing_stops breaks was tells =
      let mid : Outside = all_written_out (take n files) was in
      let front : WritesOn was mid = all_on (take n files) was in
      let broken : BreaksWriting mid (written_out file mid) now.held after.held = breaks mid (tells_now was tells) in
      let behind : WritesOn (written_out file mid) (all_written_out (drop (suc n) files) (written_out file mid)) =
      all_on (drop (suc n) files) (written_out file mid) in
      record {
        done = front.done ++ broken.done;
        call = broken.call;
        due = broken.due ++ behind.done;
        are = ap (λ (o : Outside). o.history)
            (over_rest files (suc n) was ∙ ap (λ (o : Outside). all_written_out (drop (suc n) files) o) (sym (next_is was)))
            ∙ behind.extends.history
            ∙ ap (λ (h : List Event). h ++ behind.done) broken.are
            ∙ ap (λ (h : List Event). (h ++ (broken.done ++ broken.call ∷ broken.due)) ++ behind.done) front.extends.history
            ∙ joined was.history front.done broken.done broken.call broken.due behind.done;
        of_files = both_of_files front.done broken.done front.of_files broken.of_files;
        leaves = both_left first.held now.held after.held broken.call (files_behind mid.files broken.done)
            (files_behind was.files (front.done ++ broken.done)) mid.files
            (ap (λ (f : FileMap). files_behind f broken.done) front.extends.files ∙ sym (files_then was.files front.done broken.done)) (so.held was tells)
            broken.leaves;
      }
    where
      joined : (h a b : List Event) (call : Event) (c d : List Event)
          → ((h ++ a) ++ (b ++ call ∷ c)) ++ d ≡ h ++ ((a ++ b) ++ call ∷ (c ++ d))
      joined h a b call c d =
          append_assoc (h ++ a) (b ++ call ∷ c) d
          ∙ append_assoc h a ((b ++ call ∷ c) ++ d)
          ∙ ap (λ (e : List Event). h ++ (a ++ e)) (append_assoc b (call ∷ c) d)
          ∙ ap (λ (e : List Event). h ++ e) (sym (append_assoc a b (call ∷ (c ++ d))))

-- all of them are written
pub all_files_written : (files : List OpenedFile) (n : ℕ) (first now : StoreState) → HasWritten files n first now → length files ≤ n
    → (was : Outside) → TellsMap first.held was.files → HoldsMap first.held now.held (all_written_out files was).files
all_files_written files n first now so all was tells =
    subst (λ (o : Outside). HoldsMap first.held now.held o.files) (over_all files n was all) (so.held was tells)
