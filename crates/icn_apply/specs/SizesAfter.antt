-- What was answered leaves each record of its kind, and as long as its kind where each was.
use Rattle.std.specs.Prelude.{ℕ, Result, Ok, Err, ⊤}
use Rattle.icn_heap.specs.Heaps.{heap_of}
use Rattle.law_names.specs.RowSizes.{KeepSizes}
use Rattle.icn_vars.specs.declared.outcome.Outcome.{Outcome}
use Rattle.icn_vars.specs.declared.outcome.Halt.{Halt}
use Rattle.icn_vars.specs.declared.outcome.Halt.TheVariants.{Error, Ends, ReadFault, WriteFault, FileFault, NoMemory}
use Rattle.icn_vars.specs.declared.world.World.{World}

-- whatever number of fields each kind has
abbrev pub WorldsKeepSizes : World → World → Type 0
WorldsKeepSizes before after = (sizes : ℕ → ℕ) → KeepSizes sizes (heap_of before.heap) (heap_of after.heap)

-- Nothing is said of a fault or of want of memory: the run is over then.
abbrev pub AnswerKeepsSizes : World → World → Result Outcome Halt → Type 0
AnswerKeepsSizes before after (Ok outcome) = WorldsKeepSizes before after
AnswerKeepsSizes before after (Err (Error number offending)) = WorldsKeepSizes before after
AnswerKeepsSizes before after (Err (Ends status)) = WorldsKeepSizes before after
AnswerKeepsSizes before after (Err ReadFault) = ⊤
AnswerKeepsSizes before after (Err WriteFault) = ⊤
AnswerKeepsSizes before after (Err FileFault) = ⊤
AnswerKeepsSizes before after (Err NoMemory) = ⊤
