-- No count of 64 bits falls.
use Rattle.std.proofs.Common.{◌≡◌, ◌⊎◌, ◌≤◌, ◌<◌, ◌^◌, inl, inr, ℕ, List, ap, arith}
use Rattle.icn_host.specs.Counts.{one_more}
use Rattle.icn_host.specs.FileMaps.{StoreState}
use Rattle.icn_host.specs.Sinks.{SinkState}
use Rattle.icn_host.specs.Sources.{SourceCounts}
use Rattle.icn_host.specs.Puts.{Puts, all, part, broken, wanted}
use Rattle.icn_streams.specs.Handed.{CallStreams, FaultCounts, KeepsAllCounts, KeepsFaultCounts, KeepsStoreCounts, FailsOnce, WantsOnce, WantsMemory, uncounted, files_want, input_wants, output_wants, errors_want}
use Rattle.icn_machine.specs.Stepping.{InputFails, OutputFails, StoreFails, output_fails, errors_fail}
use Rattle.icn_answer.specs.declared.answer.Answer.{Answer}
use Rattle.icn_answer.specs.declared.answer.Answer.TheVariants.{Wrote, Ran, Refused, Command, Missing, BadUcode, BadImage, FileFault, ReadFault, WriteFault, NoMemory}
use Rattle.icn_run_answer.specs.CountCauses.{IsFirstFaultOf, RunEndsAtFirst, SettlesBehind}
use Rattle.icn_run_answer.specs.CountsRise.{HasBits, HaveBits, NoneFalls, SinkRises}
use Rattle.icn_answer.specs.Lines.{fault_line}
use Rattle.icn_answer.specs.Refusing.{PutsOwn}
use Rattle.icn_run_answer.proofs.Reports.{puts_own}

stays : (n m : ℕ) → m ≡ n → n ≤ m
stays n m e = omega (arith, e)

rises : (n m : ℕ) → n < 2 ^ 64 → m ≡ one_more n → n ≤ m
rises n m few e = omega (arith, few, e)

in_bits : (n m : ℕ) → m ≡ one_more n → m < 2 ^ 64
in_bits n m e = omega (arith, e)

below_same : {n m k : ℕ} → n ≤ m → k ≡ m → n ≤ k
below_same less same = omega (arith, less, same)

same_bits : (n m : ℕ) → n < 2 ^ 64 → m ≡ n → m < 2 ^ 64
same_bits n m few e = omega (arith, few, e)

-- a sink's counts do not fall, and have 64 bits again
record Goes (before after : SinkState) : Type 0 where
  rise : SinkRises before after
  bits : HasBits after

keeps : (before after : SinkState) → HasBits before → KeepsFaultCounts before after → Goes before after
keeps before after few same = record {
  rise = record { faults = stays _ _ same.faults; wants = stays _ _ same.wants };
  bits = record { faults = same_bits _ _ few.faults same.faults; wants = same_bits _ _ few.wants same.wants };
}

fails : (before after : SinkState) → HasBits before → FailsOnce before after → Goes before after
fails before after few once = record {
  rise = record { faults = rises _ _ few.faults once.faults; wants = stays _ _ once.wants };
  bits = record { faults = in_bits before.faults _ once.faults; wants = same_bits _ _ few.wants once.wants };
}

wants : (before after : SinkState) → HasBits before → WantsOnce before after → Goes before after
wants before after few once = record {
  rise = record { faults = stays _ _ once.faults; wants = rises _ _ few.wants once.wants };
  bits = record { faults = same_bits _ _ few.faults once.faults; wants = in_bits before.wants _ once.wants };
}

-- a line put, as far as the sink took it
put_rises : (before after : SinkState) (line : List ℕ) → HasBits before → Puts before after line → SinkRises before after
put_rises before after line few (all whole) = (keeps before after few (record { faults = whole.faults; wants = whole.wants })).rise
put_rises before after line few (part (broken off)) = (fails before after few (record { faults = off.faults; wants = off.wants })).rise
put_rises before after line few (part (wanted short)) = (wants before after few (record { faults = short.faults; wants = short.wants })).rise

-- a store's counts do not fall
record StoreGoes (before after : StoreState) : Type 0 where
  faults : before.counts.faults ≤ after.counts.faults
  wants : before.counts.wants ≤ after.counts.wants

store_keeps : (before after : StoreState) → KeepsStoreCounts before after → StoreGoes before after
store_keeps before after same = record { faults = stays _ _ same.faults; wants = stays _ _ same.wants }

-- all that a call was handed, up to the fault's own line
record AllGo (before after : CallStreams) : Type 0 where
  files : StoreGoes before.files after.files
  faults : before.counts.faults ≤ after.counts.faults
  wants : before.counts.wants ≤ after.counts.wants
  output : Goes before.output after.output
  errors : Goes before.errors after.errors

all_by : (before after : CallStreams) → StoreGoes before.files after.files → before.counts.faults ≤ after.counts.faults
    → before.counts.wants ≤ after.counts.wants
    → Goes before.output after.output → Goes before.errors after.errors → AllGo before after
all_by before after files failed want output errors =
    record { files = files; faults = failed; wants = want; output = output; errors = errors }

-- each of both counts of the input
faults_are : {a b : FaultCounts} → a ≡ b → a.faults ≡ b.faults
faults_are same = ap (λ (c : FaultCounts). c.faults) same

wants_are : {a b : FaultCounts} → a ≡ b → a.wants ≡ b.wants
wants_are same = ap (λ (c : FaultCounts). c.wants) same

all_keep : (before after : CallStreams) → HaveBits before → KeepsAllCounts before after → AllGo before after
all_keep before after few same =
    all_by before after (store_keeps _ _ same.files) (stays _ _ (faults_are same.faults)) (stays _ _ (wants_are same.faults))
    (keeps _ _ few.output same.output) (keeps _ _ few.errors same.errors)

store_goes : (before after : CallStreams) → HaveBits before → StoreFails before after → AllGo before after
store_goes before after few once =
    all_by before after (record { faults = rises _ _ few.file_faults once.files.faults; wants = stays _ _ once.files.wants })
    (stays _ _ (faults_are once.faults)) (stays _ _ (wants_are once.faults)) (keeps _ _ few.output once.output) (keeps _ _ few.errors once.errors)

input_goes : (before after : CallStreams) → HaveBits before → InputFails before after → AllGo before after
input_goes before after few once =
    all_by before after (store_keeps _ _ once.files) (rises _ _ few.faults (faults_are once.faults)) (stays _ _ (wants_are once.faults))
    (keeps _ _ few.output once.output) (keeps _ _ few.errors once.errors)

output_goes : (before after : CallStreams) → HaveBits before → OutputFails before after → AllGo before after
output_goes before after few (output_fails store input out err) =
    all_by before after (store_keeps _ _ store) (stays _ _ (faults_are input)) (stays _ _ (wants_are input)) (fails _ _ few.output out)
    (keeps _ _ few.errors err)
output_goes before after few (errors_fail store input out err) =
    all_by before after (store_keeps _ _ store) (stays _ _ (faults_are input)) (stays _ _ (wants_are input)) (keeps _ _ few.output out)
    (fails _ _ few.errors err)

memory_goes : (before after : CallStreams) → HaveBits before → WantsMemory before after → AllGo before after
memory_goes before after few (uncounted same) = all_keep before after few same
memory_goes before after few (files_want store input out err) =
    all_by before after (record { faults = stays _ _ store.faults; wants = rises _ _ few.file_wants store.wants })
    (stays _ _ (faults_are input)) (stays _ _ (wants_are input)) (keeps _ _ few.output out) (keeps _ _ few.errors err)
memory_goes before after few (input_wants store input out err) =
    all_by before after (store_keeps _ _ store) (stays _ _ (faults_are input)) (rises _ _ few.wants (wants_are input)) (keeps _ _ few.output out)
    (keeps _ _ few.errors err)
memory_goes before after few (output_wants store input out err) =
    all_by before after (store_keeps _ _ store) (stays _ _ (faults_are input)) (stays _ _ (wants_are input)) (wants _ _ few.output out)
    (keeps _ _ few.errors err)
memory_goes before after few (errors_want store input out err) =
    all_by before after (store_keeps _ _ store) (stays _ _ (faults_are input)) (stays _ _ (wants_are input)) (keeps _ _ few.output out)
    (wants _ _ few.errors err)

first_goes : (before after : CallStreams) (answer : Answer) → HaveBits before → IsFirstFaultOf answer before after → AllGo before after
first_goes before after Wrote few first = all_keep before after few first
first_goes before after (Ran ending) few first = all_keep before after few first
first_goes before after (Refused file line rule) few first = all_keep before after few first
first_goes before after (Command kind) few first = all_keep before after few first
first_goes before after (Missing name) few first = all_keep before after few first
first_goes before after (BadUcode name rule) few first = all_keep before after few first
first_goes before after (BadImage rule) few first = all_keep before after few first
first_goes before after FileFault few first = store_goes before after few first
first_goes before after ReadFault few first = input_goes before after few first
first_goes before after WriteFault few first = output_goes before after few first
first_goes before after NoMemory few first = memory_goes before after few first

both_rise : (before between after : SinkState) → SinkRises before between → SinkRises between after → SinkRises before after
both_rise before between after one two = record { faults = omega (arith, one.faults, two.faults); wants = omega (arith, one.wants, two.wants) }

own_rises : (before after : SinkState) (answer : Answer) → HasBits before → PutsOwn answer before after → SinkRises before after
own_rises before after answer few puts = put_rises before after (fault_line answer) few (puts_own before after answer puts)

still_rises : (before after : SinkState) → after ≡ before → SinkRises before after
still_rises before after same = record {
  faults = stays before.faults after.faults (ap (λ (sink : SinkState). sink.faults) same);
  wants = stays before.wants after.wants (ap (λ (sink : SinkState). sink.wants) same);
}

settled_rises : (before after : SinkState) → HasBits before → KeepsFaultCounts before after ⊎ FailsOnce before after ⊎ WantsOnce before after
    → SinkRises before after
settled_rises before after few (inl kept) = (keeps before after few kept).rise
settled_rises before after few (inr (inl once)) = (fails before after few once).rise
settled_rises before after few (inr (inr once)) = (wants before after few once).rise

behind_rises : (before after : SinkState) (answer : Answer) → HasBits before → SettlesBehind answer before after → SinkRises before after
behind_rises before after Wrote few same = still_rises before after same
behind_rises before after (Ran ending) few same = still_rises before after same
behind_rises before after (Refused file line rule) few same = still_rises before after same
behind_rises before after (Command kind) few same = still_rises before after same
behind_rises before after (Missing name) few same = still_rises before after same
behind_rises before after (BadUcode name rule) few same = still_rises before after same
behind_rises before after (BadImage rule) few same = still_rises before after same
behind_rises before after FileFault few same = still_rises before after same
behind_rises before after ReadFault few same = still_rises before after same
behind_rises before after WriteFault few same = still_rises before after same
behind_rises before after NoMemory few tries = settled_rises before after few tries.counts

pub none_falls : (answer : Answer) (before after : CallStreams) → HaveBits before → RunEndsAtFirst answer before after → NoneFalls before after
none_falls answer before after few ends =
    let between : CallStreams = ends.between in
    let goes = first_goes before between answer few ends.first in
    record {
      file_faults = below_same goes.files.faults (ap (λ (f : StoreState). f.counts.faults) ends.behind.files);
      file_wants = below_same goes.files.wants (ap (λ (f : StoreState). f.counts.wants) ends.behind.files);
      faults = below_same goes.faults (ap (λ (c : SourceCounts). c.faults) ends.behind.counts);
      wants = below_same goes.wants (ap (λ (c : SourceCounts). c.wants) ends.behind.counts);
      output = both_rise before.output between.output after.output goes.output.rise
          (behind_rises between.output after.output answer goes.output.bits ends.behind.output);
      errors = both_rise before.errors between.errors after.errors goes.errors.rise
          (own_rises between.errors after.errors answer goes.errors.bits ends.behind.own_line);
    }
