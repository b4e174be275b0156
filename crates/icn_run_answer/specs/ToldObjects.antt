-- What a call is handed, where less stands on the error output.
use Rattle.icn_host.specs.Sinks.{SinkState}
use Rattle.icn_streams.specs.Handed.{CallStreams}

-- the same where less stands on the error output
abbrev pub with_errors : SinkState → CallStreams → CallStreams
with_errors errors streams = record streams { errors = errors }
