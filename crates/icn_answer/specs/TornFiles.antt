-- What a file may fail to be written whole by.
use Rattle.icn_host.specs.Counts.{Rose}
use Rattle.icn_host.specs.FileMaps.{StoreState}
use Rattle.icn_answer.specs.declared.answer.Answer.{Answer}
use Rattle.icn_answer.specs.declared.answer.Answer.TheVariants.{Wrote, Ran, Refused, Command, Missing, BadUcode, BadImage, FileFault, ReadFault, WriteFault, NoMemory}

-- What a file may fail to be written whole by, and the count of the files that rose then: they failed, or they wanted memory. No other answer
-- leaves a file in part.
abbrev pub IsTornFault : Answer → StoreState → StoreState → Type 0
IsTornFault Wrote before after = ⊥
IsTornFault (Ran ending) before after = ⊥
IsTornFault (Refused file line rule) before after = ⊥
IsTornFault (Command kind) before after = ⊥
IsTornFault (Missing name) before after = ⊥
IsTornFault (BadUcode name rule) before after = ⊥
IsTornFault (BadImage rule) before after = ⊥
IsTornFault FileFault before after = Rose before.counts.faults after.counts.faults
IsTornFault ReadFault before after = ⊥
IsTornFault WriteFault before after = ⊥
IsTornFault NoMemory before after = Rose before.counts.wants after.counts.wants
