-- That no count falls in a call that is handed files, an input and both outputs.
use Rattle.std.specs.Prelude.{◌<◌, ◌≤◌, ◌^◌}
use Rattle.icn_host.specs.Sinks.{SinkState}
use Rattle.icn_streams.specs.Handed.{CallStreams}

-- the counts of a sink have 64 bits
pub record HasBits (sink : SinkState) : Type 0 where
  pub faults : sink.faults < 2 ^ 64
  pub wants : sink.wants < 2 ^ 64

-- so have those of all that a call is handed
pub record HaveBits (streams : CallStreams) : Type 0 where
  pub file_faults : streams.files.counts.faults < 2 ^ 64
  pub file_wants : streams.files.counts.wants < 2 ^ 64
  pub faults : streams.counts.faults < 2 ^ 64
  pub wants : streams.counts.wants < 2 ^ 64
  pub output : HasBits streams.output
  pub errors : HasBits streams.errors

-- no count of a sink is less than before
pub record SinkRises (before after : SinkState) : Type 0 where
  pub faults : before.faults ≤ after.faults
  pub wants : before.wants ≤ after.wants

-- no count of faults and wants is less than before
pub record NoneFalls (before after : CallStreams) : Type 0 where
  pub file_faults : before.files.counts.faults ≤ after.files.counts.faults
  pub file_wants : before.files.counts.wants ≤ after.files.counts.wants
  pub faults : before.counts.faults ≤ after.counts.faults
  pub wants : before.counts.wants ≤ after.counts.wants
  pub output : SinkRises before.output after.output
  pub errors : SinkRises before.errors after.errors
