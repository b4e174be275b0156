-- The status of each answer, and which answers are faults, or speak of faulty words or of files that are not there.
use Rattle.std.specs.Prelude.{◌≡◌, ℕ, Bool, true, false, IsTrue, ⊤, Result, Ok, Err}
use Rattle.icn_tree.specs.declared.rule.Rule.TheVariants.{P6}
use Rattle.icn_defs.specs.declared.ending.Ending.TheVariants.{Done, Exit, Errored, AtBound}
use Rattle.icn_answer.specs.declared.answer.Answer.{Answer}
use Rattle.icn_answer.specs.declared.answer.Answer.TheVariants.{Wrote, Ran, Refused, Command, Missing, BadUcode, BadImage, FileFault, ReadFault, WriteFault, NoMemory}

-- the status that the program ends with
abbrev pub status_of : Answer → ℕ
status_of Wrote = 0
status_of (Ran Done) = 0
status_of (Ran (Exit status)) = status
status_of (Ran (Errored number)) = 1
status_of (Ran AtBound) = 3
status_of (Refused file line rule) = 2
status_of (Command kind) = 2
status_of (Missing name) = 2
status_of (BadUcode name rule) = 2
status_of (BadImage rule) = 2
status_of FileFault = 2
status_of ReadFault = 2
status_of WriteFault = 2
status_of NoMemory = 5

-- an answer that says what failed outside, in place of what the words and the files ask for
abbrev pub is_fault : Answer → Bool
is_fault Wrote = false
is_fault (Ran ending) = false
is_fault (Refused file line rule) = false
is_fault (Command kind) = false
is_fault (Missing name) = false
is_fault (BadUcode name rule) = false
is_fault (BadImage rule) = false
is_fault FileFault = true
is_fault ReadFault = true
is_fault WriteFault = true
is_fault NoMemory = true

-- the answer is a fault: of a file, the input, an output or memory
abbrev pub IsFault : Answer → Type 0
IsFault answer = IsTrue (is_fault answer)

-- an answer after which the files, the input and the output are as they were
abbrev pub IsRefusal : Answer → Type 0
IsRefusal Wrote = ⊥
IsRefusal (Ran ending) = ⊥
IsRefusal (Refused file line rule) = ⊤
IsRefusal (Command kind) = ⊤
IsRefusal (Missing name) = ⊤
IsRefusal (BadUcode name rule) = ⊤
IsRefusal (BadImage rule) = ⊤
IsRefusal FileFault = ⊥
IsRefusal ReadFault = ⊥
IsRefusal WriteFault = ⊥
IsRefusal NoMemory = ⊥

-- the answer is that the words of the command are faulty
abbrev pub IsCommand : Answer → Type 0
IsCommand Wrote = ⊥
IsCommand (Ran ending) = ⊥
IsCommand (Refused file line rule) = ⊥
IsCommand (Command kind) = ⊤
IsCommand (Missing name) = ⊥
IsCommand (BadUcode name rule) = ⊥
IsCommand (BadImage rule) = ⊥
IsCommand FileFault = ⊥
IsCommand ReadFault = ⊥
IsCommand WriteFault = ⊥
IsCommand NoMemory = ⊥

-- the answer is that a file was not there: one that is named, or one that a source includes
abbrev pub IsAbsence : Answer → Type 0
IsAbsence Wrote = ⊥
IsAbsence (Ran ending) = ⊥
IsAbsence (Refused file line rule) = rule ≡ P6
IsAbsence (Command kind) = ⊥
IsAbsence (Missing name) = ⊤
IsAbsence (BadUcode name rule) = ⊥
IsAbsence (BadImage rule) = ⊥
IsAbsence FileFault = ⊥
IsAbsence ReadFault = ⊥
IsAbsence WriteFault = ⊥
IsAbsence NoMemory = ⊥

-- the call is refused, as a file was not there
abbrev pub IsErrOfAbsence : {A : Type 0} → Result A Answer → Type 0
IsErrOfAbsence (Ok a) = ⊥
IsErrOfAbsence (Err answer) = IsAbsence answer
