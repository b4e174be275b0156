-- What a call that only reads files leaves of them.
use Rattle.std.specs.Prelude.{◌≡◌, Result, IsErrOf}
use Rattle.icn_host.specs.Counts.{CountsIf, CountsOnce, HasCause}
use Rattle.icn_host.specs.FileMaps.{StoreState}
use Rattle.icn_answer.specs.declared.answer.Answer.{Answer}
use Rattle.icn_answer.specs.declared.answer.Answer.TheVariants.{FileFault, NoMemory}

-- Files were read and not written, with this result, which says that a file was not there only as `absent` says.
pub record ReadsFiles {A : Type 0} (result : Result A Answer) (absent : Type 0)
    (before after : StoreState) : Type 0 where
  -- they hold what they held
  pub files : after.held ≡ before.held
  -- their count of faults rose once where it is answered that they failed, and stayed where it is not
  pub file_fault : CountsOnce before.counts.faults after.counts.faults (IsErrOf result FileFault)
  -- their count of wants rose once at most, and only where it is answered that memory was wanting
  pub file_want : CountsIf before.counts.wants after.counts.wants (IsErrOf result NoMemory)
  -- their count of absences does not fall, and rose where it is answered that a file was not there
  pub absence : HasCause before.counts.absences after.counts.absences absent
