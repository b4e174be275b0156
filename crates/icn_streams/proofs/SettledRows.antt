-- Rows before which both outputs are settled.
use Rattle.std.proofs.Common.{◌≡◌, ◌∙◌, refl, sym, ap, subst, ℕ, List, [], ◌∷◌, ◌++◌, Option, Some, Result, Ok, Err}
use Rattle.std.specs.Prelude.{IfSome, IsErrAnd}
use Rattle.std.specs.List.{All}
use Rattle.icn_host.specs.Counts.{one_more}
use Rattle.icn_host.specs.FileMaps.{StoreState}
use Rattle.icn_host.specs.Sinks.{SinkState}
use Rattle.icn_host.specs.Sources.{SourceCounts}
use Rattle.icn_host.proofs.KeptSteps.{gains_keeps, keeps_again}
use Rattle.icn_host.proofs.SinkSteps.{gains_nothing}
use Rattle.icn_value.specs.declared.val.Val.{Val}
use Rattle.icn_value.specs.Store.{ALine, AReading, Event, Outside, Request, Setting}
use Rattle.icn_defs.specs.Rows.{Row, FileLines, suspends}
use Rattle.icn_defs.specs.Interruptions.{StandsBehind, TellsMap}
use Rattle.icn_defs.proofs.Interruptions.{holds_kept, holds_told, kept_in_files, kept_in_reading, kept_stands}
use Rattle.icn_value.specs.Values.{Input, Text, Val as ValItem}
use Rattle.icn_heap.specs.Extents.{IsLive}
use Rattle.icn_heap.specs.Heaps.{extent_of}
use Rattle.icn_vars.specs.declared.outcome.Outcome.{Outcome}
use Rattle.icn_vars.specs.declared.outcome.Halt.{Halt}
use Rattle.icn_vars.specs.declared.outcome.Halt.TheVariants.{Error as ErrorHalt, Ends as EndsHalt, ReadFault, WriteFault, FileFault, NoMemory}
use Rattle.icn_vars.specs.declared.stop.Stop.{Stop}
use Rattle.icn_vars.specs.declared.stop.Stop.TheVariants.{Error as ErrorStop, NoMemory as NoMemoryStop}
use Rattle.icn_vars.specs.declared.world.World.{World}
use Rattle.icn_vars.specs.Stops.{halt_of}
use Rattle.icn_streams.specs.Handed.{CallStreams, FailsOnce, FilesFail, Follows, KeepsAllCounts, KeepsFaultCounts, KeepsStoreCounts, LeavesSink, LeavesStreams, ReadingFails, StoreFailsOnce, StoreWantsOnce, TellsOutside, WantsMemory, WantsOnce, WritingFails, call_streams, errors_fail, errors_want, failed_once, files_want, input_wants, output_fails, output_wants, streams_of, uncounted, wanted_once}
use Rattle.icn_streams.specs.Answers.{Allows, AllowsBehind, Answers, CallState, CausedBy, IsTold, Stops, StopsFiles, StopsPutting, StopsReading, Told, call_state, files, idle, outside_after, putting, reading, setting_with, state_telling, streams_telling}
use Rattle.icn_streams.specs.Applies.{Applies}
use Rattle.icn_streams.specs.Readings.{next_read}
use Rattle.icn_streams.specs.Settling.{HoldsBoth, IsSettled, IsSettledWhereRead, Settles, SettlesSink}
use Rattle.icn_streams.proofs.CallSequences.{tells_told}
use Rattle.icn_streams.proofs.IdleCalls.{allows_own, allows_still, keeps_items_refl, keeps_store_refl, leaves_sink_refl, told_of}
use Rattle.icn_streams.proofs.ReadRows.{IsQuiet, reads_once}

-- Rows that read

-- whatever the row comes to, what it does stands behind what was done
pub record KeepsHistory (row : Row) : Type 0 where
  pub due : List Event
  pub are : (s : Setting) → (outside_after (row s)).history ≡ s.outside.history ++ due

-- a row that reads, and then neither reads nor puts
pub reads_quietly : (asked : Request) (next : List ℕ → Row) → IsQuiet next → KeepsHistory (next_read asked next)
reads_quietly asked next quiet = record { due = AReading asked ∷ []; are = λ s. reads_once asked next quiet s }

pub lines_quiet : KeepsHistory (next_read ALine (λ line. suspends (ValItem (Text line)) (FileLines Input)))
lines_quiet = reads_quietly ALine (λ line. suspends (ValItem (Text line)) (FileLines Input)) (record { outside = λ text s. refl })

-- What a call leaves behind a settling

counts_then : {a b c : SinkState} → KeepsFaultCounts a b → KeepsFaultCounts b c → KeepsFaultCounts a c
counts_then first second = record { faults = second.faults ∙ first.faults; wants = second.wants ∙ first.wants }

leaves_then : {a b c : SinkState} → LeavesSink a b → LeavesSink b c → LeavesSink a c
leaves_then {a} {b} {c} first second = record {
  held = keeps_again a.held b.held c.held first.held second.held;
  counts = counts_then first.counts second.counts;
}

fails_then : {a b c : SinkState} → LeavesSink a b → FailsOnce b c → FailsOnce a c
fails_then first second =
    record { faults = second.faults ∙ ap one_more first.counts.faults; wants = second.wants ∙ first.counts.wants }

wants_then : {a b c : SinkState} → LeavesSink a b → WantsOnce b c → WantsOnce a c
wants_then first second =
    record { faults = second.faults ∙ first.counts.faults; wants = second.wants ∙ ap one_more first.counts.wants }

-- what is said of a store behind streams that were left alone
store_counts_then : {a b c : StoreState} → b ≡ a → KeepsStoreCounts b c → KeepsStoreCounts a c
store_counts_then {a} {b} {c} same is = subst (λ (s : StoreState). KeepsStoreCounts s c) same is

module _ (a b c : CallStreams) (settled : LeavesStreams a b) where
  kept_before : {was : Outside} {done : List Event} → StandsBehind was done (streams_of b) (streams_of c)
      → StandsBehind was done (streams_of a) (streams_of c)
  kept_before stands =
      kept_stands (streams_of a) (streams_of b) (streams_of c) (ap (λ (s : StoreState). s.held) settled.files) settled.calls settled.output.held
      settled.errors.held stands

  follows_behind : (was now : Outside) → Follows b c was now → Follows a c was now
  follows_behind was now is =
      record { done = is.done; extends = is.extends; stands = kept_before is.stands }

  all_counts_behind : KeepsAllCounts b c → KeepsAllCounts a c
  all_counts_behind is = record {
    files = store_counts_then settled.files is.files;
    faults = is.faults ∙ settled.faults;
    output = counts_then settled.output.counts is.output;
    errors = counts_then settled.errors.counts is.errors;
  }

  reading_fails_behind : ReadingFails b c → ReadingFails a c
  reading_fails_behind is = record {
    files = is.files ∙ settled.files;
    faults = is.faults ∙ ap failed_once settled.faults;
    output = leaves_then settled.output is.output;
    errors = leaves_then settled.errors is.errors;
  }

  writing_fails_behind : WritingFails b c → WritingFails a c
  writing_fails_behind (output_fails store left faults output errors) =
      output_fails (store ∙ settled.files) (left ∙ settled.left) (faults ∙ settled.faults) (fails_then settled.output output)
      (counts_then settled.errors.counts errors)
  writing_fails_behind (errors_fail store left faults output errors) =
      errors_fail (store ∙ settled.files) (left ∙ settled.left) (faults ∙ settled.faults) (counts_then settled.output.counts output)
      (fails_then settled.errors errors)

  files_fail_behind : FilesFail b c → FilesFail a c
  files_fail_behind is = record {
    files = subst (λ (s : StoreState). StoreFailsOnce s c.files) settled.files is.files;
    left = is.left ∙ settled.left;
    faults = is.faults ∙ settled.faults;
    calls = is.calls ∙ settled.calls;
    output = leaves_then settled.output is.output;
    errors = leaves_then settled.errors is.errors;
  }

  wants_behind : WantsMemory b c → WantsMemory a c
  wants_behind (uncounted is) = uncounted (all_counts_behind is)
  wants_behind (files_want store faults output errors) =
      files_want (subst (λ (s : StoreState). StoreWantsOnce s c.files) settled.files store) (faults ∙ settled.faults)
      (counts_then settled.output.counts output) (counts_then settled.errors.counts errors)
  wants_behind (input_wants store faults output errors) =
      input_wants (store_counts_then settled.files store) (faults ∙ ap wanted_once settled.faults) (counts_then settled.output.counts output)
      (counts_then settled.errors.counts errors)
  wants_behind (output_wants store faults output errors) =
      output_wants (store_counts_then settled.files store) (faults ∙ settled.faults) (wants_then settled.output output) (counts_then settled.errors.counts
      errors)
  wants_behind (errors_want store faults output errors) =
      errors_want (store_counts_then settled.files store) (faults ∙ settled.faults) (counts_then settled.output.counts output)
      (wants_then settled.errors errors)

  leaves_behind : LeavesStreams b c → LeavesStreams a c
  leaves_behind is = record {
    files = is.files ∙ settled.files;
    left = is.left ∙ settled.left;
    faults = is.faults ∙ settled.faults;
    calls = is.calls ∙ settled.calls;
    output = leaves_then settled.output is.output;
    errors = leaves_then settled.errors is.errors;
  }

  caused_behind : (result : Result Outcome Halt) → CausedBy result b c → CausedBy result a c
  caused_behind (Ok outcome) is = all_counts_behind is
  caused_behind (Err (ErrorHalt number offending)) is = all_counts_behind is
  caused_behind (Err (EndsHalt status)) is = all_counts_behind is
  caused_behind (Err ReadFault) is = reading_fails_behind is
  caused_behind (Err WriteFault) is = writing_fails_behind is
  caused_behind (Err FileFault) is = files_fail_behind is
  caused_behind (Err NoMemory) is = wants_behind is

  module _ (row : Row) (at : Setting) where
    reading_behind : StopsReading row at b c → StopsReading row at a c
    reading_behind is = record {
      done = is.done;
      asked = is.asked;
      due = is.due;
      are = is.are;
      stands = kept_in_reading (streams_of a) (streams_of b) (streams_of c) (ap (λ (s : StoreState). s.held) settled.files) settled.calls
          settled.output.held settled.errors.held is.stands;
    }

    files_behind : StopsFiles row at b c → StopsFiles row at a c
    files_behind is = record {
      done = is.done;
      call = is.call;
      due = is.due;
      are = is.are;
      stands = kept_in_files (streams_of a) (streams_of b) (streams_of c) (ap (λ (s : StoreState). s.held) settled.files) settled.calls
          settled.output.held settled.errors.held is.stands;
    }

    putting_behind : StopsPutting row at b c → StopsPutting row at a c
    putting_behind is = record {
      done = is.done;
      due = is.due;
      are = is.are;
      stands = kept_before is.stands;
    }

    stops_behind : Stops row at b c → Stops row at a c
    stops_behind (idle is) = idle (leaves_behind is)
    stops_behind (reading is) = reading (reading_behind is)
    stops_behind (files is) = files (files_behind is)
    stops_behind (putting is) = putting (putting_behind is)

module _ (row : Row) (w : World) (locals : List Val) (after : CallState) where
  answers_behind : (a b : CallStreams) (settled : LeavesStreams a b) (was : Outside) (result : Result Outcome Halt)
      → Answers row was (call_state w locals b) after result → Answers row was (call_state w locals a) after result
  answers_behind a b settled was (Ok outcome) is =
      record { now = is.now; follows = follows_behind a b after.handed settled was is.now is.follows; comes = is.comes }
  answers_behind a b settled was (Err (ErrorHalt number offending)) is =
      record { now = is.now; follows = follows_behind a b after.handed settled was is.now is.follows; comes = is.comes }
  answers_behind a b settled was (Err (EndsHalt status)) is =
      record { now = is.now; follows = follows_behind a b after.handed settled was is.now is.follows; comes = is.comes }
  answers_behind a b settled was (Err ReadFault) is =
      reading_behind a b after.handed settled row (setting_with was (call_state w locals b)) is
  answers_behind a b settled was (Err WriteFault) is =
      putting_behind a b after.handed settled row (setting_with was (call_state w locals b)) is
  answers_behind a b settled was (Err FileFault) is =
      files_behind a b after.handed settled row (setting_with was (call_state w locals b)) is
  answers_behind a b settled was (Err NoMemory) is =
      stops_behind a b after.handed settled row (setting_with was (call_state w locals b)) is

told_alike : (told : Told) (a b : CallStreams) → LeavesStreams a b → LeavesStreams (streams_telling told a) (streams_telling told b)
told_alike told a b settled = record {
  files = ap (λ (s : StoreState). let t : StoreState = record s { held = Some told.files } in t) settled.files;
  left = refl;
  faults = settled.faults;
  calls = settled.calls;
  output = settled.output;
  errors = settled.errors;
}

allows_alike : (told : Told) (a b : CallStreams) → LeavesStreams a b → Allows b told → Allows a told
allows_alike told a b settled is = record {
  left = subst (λ (o : Option (List ℕ)). IfSome o (λ left. left ≡ told.left)) settled.left is.left;
  files = subst (λ (s : StoreState). IfSome s.held (λ held. (name : List ℕ) → held name ≡ told.files name)) settled.files is.files;
}

behind_alike : (told : Told) (a b c : CallStreams) → LeavesStreams a b → AllowsBehind b c told → AllowsBehind a c told
behind_alike told a b c settled is = record {
  left = subst (λ (o : Option (List ℕ)). IfSome o (λ was. c.left ≡ Some told.left)) settled.left is.left;
  files = subst (λ (s : StoreState). IfSome s.held (λ was. TellsMap c.files.held told.files)) settled.files is.files;
}

tells_alike : (a b : CallStreams) (was : Outside) → LeavesStreams a b → TellsOutside a was → TellsOutside b was
tells_alike a b was settled is = record {
  left = settled.left ∙ is.left;
  files = subst (λ (s : StoreState). TellsMap s.held was.files) (sym settled.files) is.files;
}

-- what is said of a row behind a settling is so of it before
pub behind_settling : (row : Row) (w : World) (locals : List Val) (a b : CallStreams) (after : CallState) (result : Result Outcome Halt)
    → LeavesStreams a b → Applies row (call_state w locals b) after result → Applies row (call_state w locals a) after result
behind_settling row w locals a b after result settled is = record {
  answers = λ was told. answers_behind row w locals after a b settled was result (is.answers was (tells_alike a b was settled told));
  meant = record {
    had = is.meant.had;
    has = is.meant.has;
    allowed = allows_alike is.meant.had a b settled is.meant.allowed;
    allows = behind_alike is.meant.has a b after.handed settled is.meant.allows;
    answers = λ was first. answers_behind row w locals (state_telling is.meant.has after) (streams_telling is.meant.had a)
        (streams_telling is.meant.had b) (told_alike is.meant.had a b settled) was result (is.meant.answers was first);
  };
  caused = caused_behind a b after.handed settled result is.caused;
  live = is.live;
  locals = is.locals;
  kept = is.kept;
}

-- Where nothing could be settled

module _ (row : Row) (quiet : KeepsHistory row) (w : World) (locals : List Val) where
  put_none : (a b : CallStreams) → HoldsBoth a b → (was : Outside) → TellsOutside a was
      → StopsPutting row (setting_with was (call_state w locals a)) a b
  put_none a b holds was told = record {
    done = [];
    due = quiet.due;
    are = quiet.are (setting_with was (call_state w locals a));
    stands = record {
      files = holds_kept (ap (λ (s : StoreState). s.held) holds.files) (holds_told a.files.held was.files told.files);
      rest = holds.left ∙ told.left;
      calls = holds.calls;
      output = gains_keeps (gains_nothing a.output.held) holds.output;
      errors = gains_keeps (gains_nothing a.errors.held) holds.errors;
    };
  }

  holds_alike : (told : Told) (a b : CallStreams) → HoldsBoth a b → HoldsBoth (streams_telling told a) (streams_telling told b)
  holds_alike told a b holds = record {
    files = ap (λ (s : StoreState). let t : StoreState = record s { held = Some told.files } in t) holds.files;
    left = refl;
    calls = holds.calls;
    output = holds.output;
    errors = holds.errors;
  }

  behind_held : (a b : CallStreams) → HoldsBoth a b → AllowsBehind a b (told_of a)
  behind_held a b holds = record {
    left = subst (λ (o : Option (List ℕ)). IfSome a.left (λ was. o ≡ Some (told_of a).left)) (sym holds.left) (allows_still a).left;
    files = subst (λ (s : StoreState). IfSome a.files.held (λ was. TellsMap s.held (told_of a).files)) (sym holds.files) (allows_still a).files;
  }

  none_told : (a b : CallStreams) → HoldsBoth a b → (was : Outside) → IsTold (told_of a) was
      → StopsPutting row (setting_with was (call_state w locals a)) (streams_telling (told_of a) a) (streams_telling (told_of a) b)
  none_told a b holds was first =
      put_none (streams_telling (told_of a) a) (streams_telling (told_of a) b) (holds_alike (told_of a) a b holds) was (tells_told (told_of a) a was first)

  stops_settling : (a b : CallStreams) (halt : Halt) → Settles {A = Unit {0}} a b (Err halt) → All (IsLive (extent_of w.heap)) locals
      → Applies row (call_state w locals a) (call_state w locals b) (Err halt)
  stops_settling a b (ErrorHalt number offending) stops live = absurd stops
  stops_settling a b (EndsHalt status) stops live = absurd stops
  stops_settling a b ReadFault stops live = absurd stops
  stops_settling a b WriteFault stops live = record {
    answers = λ was told. put_none a b stops.0 was told;
    meant = record {
      had = told_of a;
      has = told_of a;
      allowed = allows_own a;
      allows = behind_held a b stops.0;
      answers = λ was first. none_told a b stops.0 was first;
    };
    caused = stops.1;
    live = tt;
    locals = live;
    kept = keeps_items_refl _;
  }
  stops_settling a b FileFault stops live = absurd stops
  stops_settling a b NoMemory stops live = record {
    answers = λ was told. putting (put_none a b stops.0 was told);
    meant = record {
      had = told_of a;
      has = told_of a;
      allowed = allows_own a;
      allows = behind_held a b stops.0;
      answers = λ was first. putting (none_told a b stops.0 was first);
    };
    caused = stops.1;
    live = tt;
    locals = live;
    kept = keeps_items_refl _;
  }

  -- the row was not begun
  pub settling_stops : (a b : CallStreams) (halt : Halt) (result : Result Outcome Halt) → IsErrAnd result (λ other. other ≡ halt)
      → Settles {A = Unit {0}} a b (Err halt) → All (IsLive (extent_of w.heap)) locals
      → Applies row (call_state w locals a) (call_state w locals b) result
  settling_stops a b halt (Ok outcome) same stops live = absurd same
  settling_stops a b halt (Err other) same stops live =
      subst (λ h. Applies row (call_state w locals a) (call_state w locals b) (Err h)) (sym same) (stops_settling a b halt stops live)

-- only an output that failed, or that wanted memory, was not settled
stops_unsettled : (A : Type 0) (a b : CallStreams) (halt : Halt) (output errors : ℕ) → Settles {A = Unit {0}} a b (Err halt)
    → IsSettled {A = A} (Err halt) output errors
stops_unsettled A a b (ErrorHalt number offending) output errors stops = absurd stops
stops_unsettled A a b (EndsHalt status) output errors stops = absurd stops
stops_unsettled A a b ReadFault output errors stops = absurd stops
stops_unsettled A a b WriteFault output errors stops = tt
stops_unsettled A a b FileFault output errors stops = absurd stops
stops_unsettled A a b NoMemory output errors stops = tt

pub unsettled_stops : {A : Type 0} (a b : CallStreams) (halt : Halt) (result : Result A Halt) (output errors : ℕ)
    → IsErrAnd result (λ other. other ≡ halt) → Settles {A = Unit {0}} a b (Err halt) → IsSettled result output errors
unsettled_stops a b halt (Ok outcome) output errors same stops = absurd same
unsettled_stops {A} a b halt (Err other) output errors same stops =
    subst (λ h. IsSettled {A = A} (Err h) output errors) (sym same) (stops_unsettled A a b halt output errors stops)

-- what read behind a settling leaves nothing pending
pub settled_where_read : {A : Type 0} (result : Result A Halt) (output errors : ℕ) → IsSettled result output errors
    → IsSettledWhereRead result output errors
settled_where_read (Ok outcome) output errors is = is
settled_where_read (Err (ErrorHalt number offending)) output errors is = tt
settled_where_read (Err (EndsHalt status)) output errors is = tt
settled_where_read (Err ReadFault) output errors is = is
settled_where_read (Err WriteFault) output errors is = tt
settled_where_read (Err FileFault) output errors is = is
settled_where_read (Err NoMemory) output errors is = tt

-- a row that stopped before it read
unread_stops : (A : Type 0) (stop : Stop) (output errors : ℕ) → IsSettledWhereRead {A = A} (Err (halt_of stop)) output errors
unread_stops A (ErrorStop number offending) output errors = tt
unread_stops A NoMemoryStop output errors = tt

pub settled_unread : {A : Type 0} (stop : Stop) (result : Result A Halt) (output errors : ℕ) → IsErrAnd result (λ halt. halt ≡ halt_of stop)
    → IsSettledWhereRead result output errors
settled_unread stop (Ok outcome) output errors same = absurd same
settled_unread {A} stop (Err halt) output errors same =
    subst (λ h. IsSettledWhereRead {A = A} (Err h) output errors) (sym same) (unread_stops A stop output errors)

-- Settling one sink, and then the other

module _ (store : StoreState) (left : Option (List ℕ)) (faults : SourceCounts) where
  -- the first could not be settled
  pub first_stops : (o o' e : SinkState) (halt : Halt) (result : Result (Unit {0}) Halt) → IsErrAnd result (λ other. other ≡ halt)
      → SettlesSink {A = Unit {0}} o o' (Err halt) → Settles (call_streams store left faults o e) (call_streams store left faults o' e) result
  first_stops o o' e halt (Ok done) same stops = absurd same
  first_stops o o' e halt (Err other) same stops =
      subst (λ h. Settles {A = Unit {0}} (call_streams store left faults o e) (call_streams store left faults o' e) (Err h)) (sym same) (by_halt halt stops)
    where
      by_halt : (h : Halt) → SettlesSink {A = Unit {0}} o o' (Err h)
          → Settles {A = Unit {0}} (call_streams store left faults o e) (call_streams store left faults o' e) (Err h)
      by_halt (ErrorHalt number offending) is = absurd is
      by_halt (EndsHalt status) is = absurd is
      by_halt ReadFault is = absurd is
      by_halt WriteFault is = (
        record { files = refl; left = refl; calls = refl; output = is.0; errors = (leaves_sink_refl e).held },
        output_fails refl refl refl is.1 (leaves_sink_refl e).counts,
      )
      by_halt FileFault is = absurd is
      by_halt NoMemory is = (
        record { files = refl; left = refl; calls = refl; output = is.0; errors = (leaves_sink_refl e).held },
        output_wants (keeps_store_refl store) refl is.1 (leaves_sink_refl e).counts,
      )

  -- the first was settled
  pub second_settles : (o o' e e' : SinkState) (result : Result (Unit {0}) Halt) → LeavesSink o o' → SettlesSink e e' result
      → Settles (call_streams store left faults o e) (call_streams store left faults o' e') result
  second_settles o o' e e' (Ok done) first is = record { files = refl; left = refl; faults = refl; calls = refl; output = first; errors = is }
  second_settles o o' e e' (Err (ErrorHalt number offending)) first is = absurd is
  second_settles o o' e e' (Err (EndsHalt status)) first is = absurd is
  second_settles o o' e e' (Err ReadFault) first is = absurd is
  second_settles o o' e e' (Err WriteFault) first is =
      (record { files = refl; left = refl; calls = refl; output = first.held; errors = is.0 }, errors_fail refl refl refl first.counts is.1)
  second_settles o o' e e' (Err FileFault) first is = absurd is
  second_settles o o' e e' (Err NoMemory) first is =
      (record { files = refl; left = refl; calls = refl; output = first.held; errors = is.0 }, errors_want (keeps_store_refl store) refl first.counts is.1)
