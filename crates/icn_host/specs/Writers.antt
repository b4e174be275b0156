-- What a sink holds over a writer: what was written, and what is kept to be written.
use Rattle.std.specs.Prelude.{ℕ, ◌-◌, List, Option, drop, length}
use Rattle.std.specs.Io.KnownBytes.{append_known}
use Rattle.icn_host.specs.declared.kept.Kept.{Kept}
use Rattle.icn_host.specs.declared.output.StdSink.{StdSink}

-- the bytes that the writer holds, where it tells them, and behind them those that are kept
abbrev pub kept_held : {W : Type 0} → (W → Option (List ℕ)) → Kept W → Option (List ℕ)
kept_held contents kept = append_known (contents kept.writer) (drop kept.at kept.bytes.items)

-- how many bytes are kept
abbrev pub kept_pending : {W : Type 0} → Kept W → ℕ
kept_pending kept = length kept.bytes.items - kept.at

-- what a sink holds over a writer that tells what it holds
abbrev pub sink_held : {W : Type 0} → (W → Option (List ℕ)) → StdSink W → Option (List ℕ)
sink_held contents sink = kept_held contents sink.kept

-- how many bytes of it are not written yet
abbrev pub sink_pending : {W : Type 0} → StdSink W → ℕ
sink_pending sink = kept_pending sink.kept
