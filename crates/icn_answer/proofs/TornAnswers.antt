-- Answers where a file was not written whole.
use Rattle.std.proofs.Common.{◌≡◌, ◌⊎◌, ◌↔◌, ◌≤◌, inl, inr, ℕ, Ok, Err, IsErrOf, sym, ap, refl, subst, ◌∙◌}
use Rattle.icn_host.specs.Counts.{CountsIf, CountsOnce, Rose}
use Rattle.icn_host.specs.FileMaps.{StoreState}
use Rattle.icn_host.specs.declared.fault.Fault.{Fault}
use Rattle.icn_host.specs.declared.fault.Fault.TheVariants as Faults
use Rattle.icn_answer.specs.declared.answer.Answer.{Answer}
use Rattle.icn_answer.specs.declared.answer.Answer.TheVariants.{FileFault, ReadFault, WriteFault, NoMemory}
use Rattle.icn_answer.specs.Answers.{IsAbsence, IsCommand, IsFault, IsRefusal}
use Rattle.icn_answer.specs.FilesRead.{ReadsFiles}
use Rattle.icn_answer.specs.TornFiles.{IsTornFault}
use Rattle.icn_answer.proofs.FaultCounts.{counts_if, once_rose}

pub is_torn : (answer : Answer) → (answer ≡ FileFault) ⊎ (answer ≡ NoMemory) → IsFault answer
is_torn answer (inl e) = rw e refl
is_torn answer (inr e) = rw e refl

-- which count of the files rose
pub torn_fault : {A : Type 0} (before after : StoreState) (fault : Fault) (answer : Answer) → (answer ≡ FileFault) ↔ (fault ≡ Faults.Failed)
    → (answer ≡ NoMemory) ↔ (fault ≡ Faults.NoMemory) → (answer ≡ FileFault) ⊎ (answer ≡ NoMemory)
    → CountsOnce before.counts.faults after.counts.faults (IsErrOf {T = A} (Err fault) Faults.Failed)
    → CountsOnce before.counts.wants after.counts.wants (IsErrOf {T = A} (Err fault) Faults.NoMemory) → IsTornFault answer before after
torn_fault before after fault answer failed wanted (inl e) cause want =
    subst (λ (a : Answer). IsTornFault a before after) (sym e) (once_rose before.counts.faults after.counts.faults (cause.rose (ap (λ f. Err f) (failed.0 e))))
torn_fault before after fault answer failed wanted (inr e) cause want =
    subst (λ (a : Answer). IsTornFault a before after) (sym e) (once_rose before.counts.wants after.counts.wants (want.rose (ap (λ f. Err f) (wanted.0 e))))

pub torn_no_absence : (answer : Answer) → (answer ≡ FileFault) ⊎ (answer ≡ NoMemory) → IsAbsence answer → ⊥
torn_no_absence answer (inl e) a = rw e at a
torn_no_absence answer (inr e) a = rw e at a

pub torn_no_refusal : (answer : Answer) → (answer ≡ FileFault) ⊎ (answer ≡ NoMemory) → IsRefusal answer → ⊥
torn_no_refusal answer (inl e) a = rw e at a
torn_no_refusal answer (inr e) a = rw e at a

pub torn_no_command : (answer : Answer) → (answer ≡ FileFault) ⊎ (answer ≡ NoMemory) → IsCommand answer → ⊥
torn_no_command answer (inl e) a = rw e at a
torn_no_command answer (inr e) a = rw e at a

pub torn_no_read : (answer : Answer) → (answer ≡ FileFault) ⊎ (answer ≡ NoMemory) → answer ≡ ReadFault → ⊥
torn_no_read answer (inl e) r = let both : FileFault ≡ ReadFault = sym e ∙ r in cc
torn_no_read answer (inr e) r = let both : NoMemory ≡ ReadFault = sym e ∙ r in cc

pub torn_no_write : (answer : Answer) → (answer ≡ FileFault) ⊎ (answer ≡ NoMemory) → answer ≡ WriteFault → ⊥
torn_no_write answer (inl e) w = let both : FileFault ≡ WriteFault = sym e ∙ w in cc
torn_no_write answer (inr e) w = let both : NoMemory ≡ WriteFault = sym e ∙ w in cc

-- From the one to the other files were read alone: they hold what they held, and have neither failed nor wanted memory.
pub record OnlyRead (was now : StoreState) : Type 0 where
  pub held : now.held ≡ was.held
  pub faults : now.counts.faults ≡ was.counts.faults
  pub wants : now.counts.wants ≡ was.counts.wants
  pub absences : was.counts.absences ≤ now.counts.absences

pub only_read : {A : Type 0} {a : A} {absent : Type 0} {was now : StoreState} → ReadsFiles {A = A} (Ok a) absent was now → OnlyRead was now
only_read reads =
    record {
      held = reads.files;
      faults = reads.file_fault.stayed (λ e. cc);
      wants = reads.file_want.stayed (λ e. cc);
      absences = reads.absence.later;
    }

-- files that were read before
pub torn_since : (was before after : StoreState) (answer : Answer) → OnlyRead was before → IsTornFault answer before after → IsTornFault answer was after
torn_since was before after FileFault read rose = subst (λ count. Rose count after.counts.faults) read.faults rose
torn_since was before after NoMemory read rose = subst (λ count. Rose count after.counts.wants) read.wants rose
torn_since was before after _ read rose = absurd rose

-- how often the files wanted memory, where one was not written whole
pub torn_wants : {A : Type 0} {before now : ℕ} (fault : Fault) → CountsOnce before now (IsErrOf {T = A} (Err fault) Faults.NoMemory)
    → CountsIf before now (fault ≡ Faults.NoMemory)
torn_wants Faults.Failed want = counts_if want.later (inl (want.stayed (λ e. cc)))
torn_wants Faults.NoMemory want = counts_if want.later (inr (want.rose refl, refl))
