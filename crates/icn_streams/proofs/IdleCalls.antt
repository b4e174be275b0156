-- A call that did nothing but want memory.
use Rattle.std.proofs.Common.{◌≡◌, refl, ℕ, List, [], Option, None, Some, Err, arith}
use Rattle.std.specs.Prelude.{IfSome, unwrap_or}
use Rattle.std.specs.Io.KnownBytes.{Keeps}
use Rattle.std.specs.List.{All}
use Rattle.icn_defs.specs.Interruptions.{TellsMap}
use Rattle.icn_defs.specs.Rows.{Row}
use Rattle.icn_heap.specs.Extents.{IsLive}
use Rattle.icn_heap.specs.Heaps.{extent_of}
use Rattle.icn_heap.proofs.GrowingHeaps.{keeps_refl}
use Rattle.icn_vars.specs.Worlds.{KeepsItems, Reach}
use Rattle.icn_vars.specs.declared.outcome.Halt.TheVariants.{NoMemory}
use Rattle.icn_host.specs.FileMaps.{FileMap, StoreState}
use Rattle.icn_host.specs.Sinks.{SinkState}
use Rattle.icn_value.specs.Store.{no_files}
use Rattle.icn_streams.specs.Handed.{CallStreams, KeepsAllCounts, KeepsFaultCounts, KeepsStoreCounts, LeavesSink, LeavesStreams, uncounted}
use Rattle.icn_streams.specs.Answers.{Allows, AllowsBehind, CallState, Told, idle}
use Rattle.icn_streams.specs.Applies.{Applies}

-- a world keeps its own items
pub keeps_items_refl : (a : Reach) → KeepsItems a a
keeps_items_refl a = record { extent = keeps_refl a.extent; fields = record { more = λ id. omega arith }; globals = refl; statics = refl; locals = refl }

-- a sink keeps its own counts
pub keeps_counts_refl : (a : SinkState) → KeepsFaultCounts a a
keeps_counts_refl a = record { faults = refl; wants = refl }

-- a store keeps its own counts
pub keeps_store_refl : (a : StoreState) → KeepsStoreCounts a a
keeps_store_refl a = record { faults = refl; wants = refl; absences = omega arith }

-- so do all streams of a call
pub keeps_all_counts_refl : (a : CallStreams) → KeepsAllCounts a a
keeps_all_counts_refl a = record { files = keeps_store_refl a.files; faults = refl; output = keeps_counts_refl a.output; errors = keeps_counts_refl a.errors }

-- a sink that is left alone
pub leaves_sink_refl : (a : SinkState) → LeavesSink a a
leaves_sink_refl a = record { held = keeps_held a.held; counts = keeps_counts_refl a }
  where
    keeps_held : (held : Option (List ℕ)) → Keeps held held
    keeps_held None = tt
    keeps_held (Some bytes) = refl

-- streams that are left alone
pub leaves_streams_refl : (a : CallStreams) → LeavesStreams a a
leaves_streams_refl a = record {
  files = refl;
  left = refl;
  faults = refl;
  calls = refl;
  output = leaves_sink_refl a.output;
  errors = leaves_sink_refl a.errors;
}

-- what is told of streams, and nothing where nothing is
abbrev pub told_of : CallStreams → Told
told_of a = record { left = unwrap_or a.left []; files = unwrap_or a.files.held no_files }

allows_left : (left : Option (List ℕ)) → IfSome left (λ l. l ≡ unwrap_or left [])
allows_left None = tt
allows_left (Some l) = refl

allows_files : (held : Option FileMap) → IfSome held (λ h. (name : List ℕ) → h name ≡ unwrap_or held no_files name)
allows_files None = tt
allows_files (Some h) = λ name. refl

pub allows_own : (a : CallStreams) → Allows a (told_of a)
allows_own a = record { left = allows_left a.left; files = allows_files a.files.held }

left_still : (left : Option (List ℕ)) → IfSome left (λ was. left ≡ Some (unwrap_or left []))
left_still None = tt
left_still (Some l) = refl

files_still : (held : Option FileMap) → IfSome held (λ was. TellsMap held (unwrap_or held no_files))
files_still None = tt
files_still (Some h) = record { told = h; is = refl; same = λ name. refl }

-- so it tells still, where it was left alone
pub allows_still : (a : CallStreams) → AllowsBehind a a (told_of a)
allows_still a = record { left = left_still a.left; files = files_still a.files.held }

-- a row was not begun
pub not_begun : (row : Row) (all : CallState) → All (IsLive (extent_of all.world.heap)) all.locals → Applies row all all (Err NoMemory)
not_begun row all live = record {
  answers = λ was told. idle (leaves_streams_refl _);
  meant = record {
    had = told_of all.handed;
    has = told_of all.handed;
    allowed = allows_own all.handed;
    allows = allows_still all.handed;
    answers = λ was is. idle (leaves_streams_refl _);
  };
  caused = uncounted (keeps_all_counts_refl all.handed);
  live = tt;
  locals = live;
  kept = keeps_items_refl _;
}
