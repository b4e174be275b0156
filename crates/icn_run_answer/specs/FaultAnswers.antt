-- The answer where a run could not go on.
use Rattle.std.specs.Prelude.{⊤}
use Rattle.icn_running.specs.declared.fault.RunFault.{RunFault}
use Rattle.icn_running.specs.declared.fault.RunFault.TheVariants as Faults
use Rattle.icn_answer.specs.declared.answer.Answer.{Answer}
use Rattle.icn_answer.specs.declared.answer.Answer.TheVariants.{Wrote, Ran, Refused, Command, Missing, BadUcode, BadImage, FileFault, ReadFault, WriteFault, NoMemory}

-- the fault of a run, as an answer
abbrev pub of_run : RunFault → Answer
of_run Faults.ReadFault = ReadFault
of_run Faults.WriteFault = WriteFault
of_run Faults.FileFault = FileFault
of_run Faults.NoMemory = NoMemory

-- An answer that a run may give. A fault of the files may come before it too.
abbrev pub IsOfRun : Answer → Type 0
IsOfRun Wrote = ⊥
IsOfRun (Ran ending) = ⊤
IsOfRun (Refused file line rule) = ⊥
IsOfRun (Command kind) = ⊥
IsOfRun (Missing name) = ⊥
IsOfRun (BadUcode name rule) = ⊥
IsOfRun (BadImage rule) = ⊥
IsOfRun FileFault = ⊤
IsOfRun ReadFault = ⊤
IsOfRun WriteFault = ⊤
IsOfRun NoMemory = ⊤
