-- Rows that put a line.
use Rattle.std.proofs.Common.{◌≡◌, ◌∙◌, refl, sym, ap, subst, ℕ, List, Option, Some, Ok, Err, true}
use Rattle.std.specs.List.{All}
use Rattle.icn_host.specs.Counts.{raised_count}
use Rattle.icn_host.specs.FileMaps.{FileMap, StoreState}
use Rattle.icn_host.specs.Sinks.{SinkState}
use Rattle.icn_host.specs.Sources.{SourceCounts}
use Rattle.icn_host.specs.declared.fault.Fault.{Fault}
use Rattle.icn_host.specs.declared.fault.Fault.TheVariants.{Failed, NoMemory as NoMemoryFault}
use Rattle.icn_value.specs.declared.val.Val.{Val}
use Rattle.icn_value.specs.Values.{Value, File}
use Rattle.icn_value.specs.Store.{Outside, Setting}
use Rattle.icn_defs.specs.Calls.{GoesOn}
use Rattle.icn_defs.specs.InputOutput.{line_put, pieces, puts_line}
use Rattle.icn_defs.specs.Interruptions.{HoldsMap, StandsBehind, TellsMap}
use Rattle.icn_defs.specs.Rows.{Ends, Row, changes}
use Rattle.icn_defs.proofs.Interruptions.{holds_told, none_changed, none_taken}
use Rattle.icn_heap.specs.Extents.{IsLive}
use Rattle.icn_heap.specs.Heaps.{extent_of, heap_of}
use Rattle.icn_vars.specs.Outcomes.{IsLiveOutcome, outcome_in}
use Rattle.icn_vars.specs.Worlds.{KeepsItems, reach_of, setting_of}
use Rattle.icn_vars.specs.declared.outcome.Outcome.{Outcome}
use Rattle.icn_vars.specs.declared.outcome.Halt.TheVariants.{Ends as EndsHalt, WriteFault, NoMemory}
use Rattle.icn_vars.specs.declared.world.World.{World}
use Rattle.icn_streams.specs.Handed.{CallStreams, Follows, TellsOutside, WantsMemory, WritingFails, call_streams, errors_fail, errors_want, output_fails, output_wants, streams_of, uncounted as nothing_counted}
use Rattle.icn_streams.specs.Answers.{AllowsBehind, IsTold, StopsPutting, call_state, outside_after, putting, streams_telling}
use Rattle.icn_streams.specs.Applies.{Applies}
use Rattle.icn_streams.proofs.CallSequences.{tells_told}
use Rattle.icn_streams.proofs.IdleCalls.{allows_own, allows_still, keeps_store_refl, told_of}
use Rattle.icn_iofn.specs.PutPieces.{BrokenBy, GainedPart, GainsOutputs, HasPut, KeepsBoth, errors_failed, errors_wanted, output_failed, output_wanted, outputs, pieces_in, put_state, uncounted}

failing_by : (files : StoreState) (left : Option (List ℕ)) (counts : SourceCounts) (o o' e e' : SinkState) (fault : Fault) → fault ≡ Failed
    → BrokenBy (outputs o e) (outputs o' e') fault
    → WritingFails (call_streams files left counts o e) (call_streams files left counts o' e')
failing_by files left counts o o' e e' _ same (output_failed x y) = output_fails refl refl refl x y
failing_by files left counts o o' e e' _ same (errors_failed x y) = errors_fail refl refl refl x y
failing_by files left counts o o' e e' _ same (output_wanted x y) = absurd (cc)
failing_by files left counts o o' e e' _ same (errors_wanted x y) = absurd (cc)
failing_by files left counts o o' e e' _ same (uncounted x) = absurd (cc)

wanting_by : (files : StoreState) (left : Option (List ℕ)) (counts : SourceCounts) (o o' e e' : SinkState) (fault : Fault) → fault ≡ NoMemoryFault
    → BrokenBy (outputs o e) (outputs o' e') fault
    → WantsMemory (call_streams files left counts o e) (call_streams files left counts o' e')
wanting_by files left counts o o' e e' _ same (output_failed x y) = absurd (cc)
wanting_by files left counts o o' e e' _ same (errors_failed x y) = absurd (cc)
wanting_by files left counts o o' e e' _ same (output_wanted x y) = output_wants (keeps_store_refl files) refl x y
wanting_by files left counts o o' e e' _ same (errors_wanted x y) = errors_want (keeps_store_refl files) refl x y
wanting_by files left counts o o' e e' _ same (uncounted x) =
    nothing_counted (record { files = keeps_store_refl files; faults = refl; output = x.output; errors = x.errors })

-- What was put stands behind the outside

-- the files were left alone
files_stay : (files : StoreState) (was : Outside) (after : FileMap) → after ≡ was.files → TellsMap files.held was.files
    → HoldsMap files.held files.held after
files_stay files was after same told = subst (λ (m : FileMap). HoldsMap files.held files.held m) (sym same) (holds_told files.held was.files told)

module _ (files : StoreState) (left : Option (List ℕ)) (counts : SourceCounts) (o o' e e' : SinkState) where
  followed : (was reached : Outside) → TellsOutside (call_streams files left counts o e) was → GainsOutputs (outputs o e) (outputs o' e') was reached
      → Follows (call_streams files left counts o e) (call_streams files left counts o' e') was reached
  followed was reached told gained = record {
    done = gained.done;
    extends = gained.extends;
    stands = record {
      files = files_stay files was _ (none_changed was.files gained.done gained.unwritten) told.files;
      rest = told.left ∙ ap (λ (l : List ℕ). Some l) (sym (none_taken was.left gained.done gained.unread));
      calls = ap (raised_count counts.calls) (sym gained.unread);
      output = gained.output;
      errors = gained.errors;
    };
  }

  stands_part : (was end : Outside) → TellsOutside (call_streams files left counts o e) was → (part : GainedPart (outputs o e) (outputs o' e') was end)
      → StandsBehind was part.done (streams_of (call_streams files left counts o e)) (streams_of (call_streams files left counts o' e'))
  stands_part was end told part = record {
    files = files_stay files was _ (none_changed was.files part.done part.unwritten) told.files;
    rest = told.left ∙ ap (λ (l : List ℕ). Some l) (sym (none_taken was.left part.done part.unread));
    calls = ap (raised_count counts.calls) (sym part.unread);
    output = part.output;
    errors = part.errors;
  }

module _ (end : List ℕ) (file : File) (args : List Value) (next : Row) (quiet : (s : Setting) → outside_after (next s) ≡ s.outside) (w now : World)
    (locals : List Val) (found : (s : Setting) → GoesOn (pieces (heap_of w.heap) args) s (pieces_in args) s) (files : StoreState)
    (left : Option (List ℕ)) (counts : SourceCounts) (o o' e e' : SinkState)
    (lives : All (IsLive (extent_of now.heap)) locals) (kept : KeepsItems (reach_of w locals) (reach_of now locals)) where
  -- what is handed, and what is left of it
  abbrev handed : CallStreams
  handed = call_streams files left counts o e

  abbrev given : CallStreams
  given = call_streams files left counts o' e'

  -- the line, and the setting behind it
  abbrev put : Setting → Setting
  put = line_put end true (pieces_in args) file

  -- the row goes on behind its line
  goes : (was : Outside) → puts_line end file args next (setting_of was w locals) ≡ next (put (setting_of was w locals))
  goes was = found (setting_of was w locals) (λ parts. changes (line_put end true parts file) next)

  left_by : (was : Outside) → outside_after (puts_line end file args next (setting_of was w locals)) ≡ (put (setting_of was w locals)).outside
  left_by was = ap outside_after (goes was) ∙ quiet (put (setting_of was w locals))

  still : AllowsBehind handed given (told_of handed)
  still = record { left = (allows_still handed).left; files = (allows_still handed).files }

  -- the row was broken off, whatever the files and the input tell
  broken : (f : StoreState) (l : Option (List ℕ)) (was : Outside) → TellsOutside (call_streams f l counts o e) was
      → GainedPart (outputs o e) (outputs o' e') was (put (setting_of was w locals)).outside
      → StopsPutting (puts_line end file args next) (setting_of was w locals) (call_streams f l counts o e) (call_streams f l counts o' e')
  broken f l was told part = record {
    done = part.done;
    due = part.due;
    are = ap (λ (o : Outside). o.history) (left_by was) ∙ part.are;
    stands = stands_part f l counts o o' e e' was _ told part;
  }

  module _ (has : (was : Outside) → HasPut (put_state w locals (outputs o e)) (put_state now locals (outputs o' e')) was put)
      (kept_counts : KeepsBoth (outputs o e) (outputs o' e')) where
    comes : (was : Outside) → puts_line end file args next (setting_of was w locals) ≡ next (setting_of (has was).reached now locals)
    comes was = goes was ∙ ap next (sym (has was).same)

    -- the line was put, and the row gives an item
    pub wrote_gives : (outcome : Outcome) → ((s : Setting) → next s ≡ outcome_in (extent_of now.heap) outcome s) → IsLiveOutcome (reach_of now locals) outcome
        → Applies (puts_line end file args next) (call_state w locals handed) (call_state now locals given) (Ok outcome)
    wrote_gives outcome is live = record {
      answers = λ was told. record {
        now = (has was).reached;
        follows = followed files left counts o o' e e' was (has was).reached told (has was).gained;
        comes = comes was ∙ is (setting_of (has was).reached now locals);
      };
      meant = record {
        had = told_of handed;
        has = told_of handed;
        allowed = allows_own handed;
        allows = still;
        answers = λ was first. record {
          now = (has was).reached;
          follows = followed (record files { held = Some (told_of handed).files }) (Some (told_of handed).left) counts o o' e e' was (has was).reached
              (tells_told (told_of handed) handed was first) (has was).gained;
          comes = comes was ∙ is (setting_of (has was).reached now locals);
        };
      };
      caused = record { files = keeps_store_refl files; faults = refl; output = kept_counts.output; errors = kept_counts.errors };
      live = live;
      locals = lives;
      kept = kept;
    }

    -- the line was put, and the program ends
    pub wrote_ends : (status : ℕ) → ((s : Setting) → next s ≡ Ends status s)
        → Applies (puts_line end file args next) (call_state w locals handed) (call_state now locals given) (Err (EndsHalt status))
    wrote_ends status is = record {
      answers = λ was told. record {
        now = (has was).reached;
        follows = followed files left counts o o' e e' was (has was).reached told (has was).gained;
        comes = comes was ∙ is (setting_of (has was).reached now locals);
      };
      meant = record {
        had = told_of handed;
        has = told_of handed;
        allowed = allows_own handed;
        allows = still;
        answers = λ was first. record {
          now = (has was).reached;
          follows = followed (record files { held = Some (told_of handed).files }) (Some (told_of handed).left) counts o o' e e' was (has was).reached
              (tells_told (told_of handed) handed was first) (has was).gained;
          comes = comes was ∙ is (setting_of (has was).reached now locals);
        };
      };
      caused = record { files = keeps_store_refl files; faults = refl; output = kept_counts.output; errors = kept_counts.errors };
      live = tt;
      locals = lives;
      kept = kept;
    }

  module _ (part : (was : Outside) → GainedPart (outputs o e) (outputs o' e') was (put (setting_of was w locals)).outside) where
    broken_telling : (was : Outside) → IsTold (told_of handed) was
        → StopsPutting (puts_line end file args next) (setting_of was w locals) (streams_telling (told_of handed) handed)
        (streams_telling (told_of handed) given)
    broken_telling was first =
        broken (record files { held = Some (told_of handed).files }) (Some (told_of handed).left) was (tells_told (told_of handed) handed was first) (part was)

    -- an output failed
    pub write_fails : BrokenBy (outputs o e) (outputs o' e') Failed
        → Applies (puts_line end file args next) (call_state w locals handed) (call_state now locals given) (Err WriteFault)
    write_fails cause = record {
      answers = λ was told. broken files left was told (part was);
      meant = record { had = told_of handed; has = told_of handed; allowed = allows_own handed; allows = still; answers = broken_telling };
      caused = failing_by files left counts o o' e e' Failed refl cause;
      live = tt;
      locals = lives;
      kept = kept;
    }

    -- memory was wanting
    pub write_wants : BrokenBy (outputs o e) (outputs o' e') NoMemoryFault
        → Applies (puts_line end file args next) (call_state w locals handed) (call_state now locals given) (Err NoMemory)
    write_wants cause = record {
      answers = λ was told. putting (broken files left was told (part was));
      meant = record {
        had = told_of handed;
        has = told_of handed;
        allowed = allows_own handed;
        allows = still;
        answers = λ was first. putting (broken_telling was first);
      };
      caused = wanting_by files left counts o o' e e' NoMemoryFault refl cause;
      live = tt;
      locals = lives;
      kept = kept;
    }
