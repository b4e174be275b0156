-- What stands on the error output behind a call.
use Rattle.std.specs.Prelude.{◌≡◌, ◌⊎◌, ℕ, List}
use Rattle.icn_host.specs.Sinks.{Gains, SinkState}
use Rattle.icn_host.specs.Puts.{Puts, Leads}
use Rattle.icn_streams.specs.Handed.{FailsOnce, KeepsFaultCounts, WantsOnce}
use Rattle.icn_code.specs.Codes.{Tables}
use Rattle.icn_defs.specs.Running.{Launch}
use Rattle.icn_defs.specs.declared.ending.Ending.{Ending}
use Rattle.icn_running.specs.declared.fault.RunFault.{RunFault}
use Rattle.icn_running.specs.declared.fault.RunFault.TheVariants as Faults
use Rattle.icn_running.specs.Reported.{PutsReport, ending_seen}
use Rattle.icn_answer.specs.declared.answer.Answer.{Answer}
use Rattle.icn_answer.specs.declared.answer.Answer.TheVariants.{Wrote, Ran, Refused, Command, Missing, BadUcode, BadImage, FileFault, ReadFault, WriteFault, NoMemory}
use Rattle.icn_answer.specs.Answers.{IsFault}
use Rattle.icn_run_answer.specs.FaultAnswers.{of_run}
use Rattle.icn_answer.specs.Lines.{fault_line, line_of}

-- the report of a run that ended so stands behind what the program itself put
abbrev pub ReportStands : Ending → SinkState → SinkState → Type 0
ReportStands ending before after =
    (tables : Tables) × ((launch : Launch) × PutsReport tables launch (ending_seen ending) before after)

-- the line of an answer is what was put; of a run, its report
abbrev pub LineStands : List ℕ → List ℕ → Answer → SinkState → SinkState → Type 0
LineStands usage name Wrote before after = Gains before.held after.held (line_of usage name Wrote)
LineStands usage name (Ran ending) before after = ReportStands ending before after
LineStands usage name (Refused file line rule) before after =
    Gains before.held after.held (line_of usage name (Refused file line rule))
LineStands usage name (Command kind) before after =
    Gains before.held after.held (line_of usage name (Command kind))
LineStands usage name (Missing other) before after =
    Gains before.held after.held (line_of usage name (Missing other))
LineStands usage name (BadUcode other rule) before after =
    Gains before.held after.held (line_of usage name (BadUcode other rule))
LineStands usage name (BadImage rule) before after =
    Gains before.held after.held (line_of usage name (BadImage rule))
LineStands usage name FileFault before after = ⊥
LineStands usage name ReadFault before after = ⊥
LineStands usage name WriteFault before after = ⊥
LineStands usage name NoMemory before after = ⊥

-- the counts of the error output where a run was broken off by this fault: one rose at most, and once
abbrev pub CountsFault : RunFault → SinkState → SinkState → Type 0
CountsFault Faults.ReadFault before after = KeepsFaultCounts before after
CountsFault Faults.WriteFault before after = KeepsFaultCounts before after ⊎ FailsOnce before after
CountsFault Faults.FileFault before after = KeepsFaultCounts before after
CountsFault Faults.NoMemory before after = KeepsFaultCounts before after ⊎ WantsOnce before after

-- a program's run put something
pub record PutsSome (before after : SinkState) : Type 0 where
  pub own : List ℕ
  pub gains : Gains before.held after.held own

-- The answer's line; or, of a fault, some first part of the line of an answer that no program ran for, or what a run put, and then the fault's own
-- line, as far as the error output took it.
pub data Reports (usage name : List ℕ) (before after : SinkState)
    (answer : Answer) : Type 0 where
  put : (IsFault answer → ⊥) → LineStands usage name answer before after
      → Reports usage name before after answer
  own : IsFault answer → (other : Answer) → (IsFault other → ⊥) → (between : SinkState)
      → Leads before between (line_of usage name other)
      → Puts between after (fault_line answer) → Reports usage name before after answer
  broke : (fault : RunFault) → answer ≡ of_run fault → (between : SinkState)
      → CountsFault fault before between
      → PutsSome before between → Puts between after (fault_line answer)
      → Reports usage name before after answer
