-- Which calls of an object in memory fail.
use Rattle.std.specs.Prelude.{ℕ, ◌+◌, ◌-◌, ◌^◌, List, min, Contains}
use Rattle.icn_host.specs.declared.failing.FailingCalls.{FailingCalls}
use Rattle.icn_host.specs.declared.memory.MemSource.{MemSource}
use Rattle.icn_host.specs.declared.memory.MemSink.{MemSink}
use Rattle.icn_host.specs.declared.memory.MemFiles.{MemFiles}

-- the numbers of the calls that fail, and the number of the next call
pub record FailurePlan : Type 0 where
  pub failing : List ℕ
  pub next : ℕ

-- which calls of an object in memory fail, and which one is next
abbrev pub plan_of : FailingCalls → FailurePlan
plan_of calls = record { failing = calls.numbers.items; next = calls.next }

-- which calls of a source in memory fail
abbrev pub source_plan : MemSource → FailurePlan
source_plan source = plan_of source.failing

-- which calls of a sink in memory fail
abbrev pub sink_plan : MemSink → FailurePlan
sink_plan sink = plan_of sink.failing

-- which calls of a store in memory fail
abbrev pub files_plan : MemFiles → FailurePlan
files_plan files = plan_of files.failing

-- the calls are counted from 0
abbrev pub first_plan : List ℕ → FailurePlan
first_plan failing = record { failing = failing; next = 0 }

-- the next call fails
abbrev pub FailsNext : FailurePlan → Type 0
FailsNext plan = Contains plan.failing plan.next

-- the same calls fail, one call later, where the number of the next call stays at the greatest `u64`
abbrev pub later_plan : FailurePlan → FailurePlan
later_plan plan = record plan { next = min (plan.next + 1) (2 ^ 64 - 1) }
