-- The row that opens a file, part by part.
use Rattle.std.proofs.Common.{◌≡◌, ◌∙◌, sym, ap, subst, ℕ, List, [], ◌∷◌, codes, Result, Ok, Err}
use Rattle.std.specs.Prelude.{IsErrAnd}
use Rattle.std.specs.List.{All}
use Rattle.icn_value.specs.Store.{Outside, Setting}
use Rattle.icn_value.specs.Values.{Value, Text}
use Rattle.icn_value.specs.declared.mode.FileMode.{FileMode}
use Rattle.icn_value.specs.declared.val.Val.{Val}
use Rattle.icn_defs.specs.Arguments.{arg, string}
use Rattle.icn_defs.specs.Calls.{GoesOn, Passes}
use Rattle.icn_defs.specs.Files.{open_row}
use Rattle.icn_defs.specs.Interruptions.{BreaksBetween, BreaksFiles, BreaksReading}
use Rattle.icn_defs.specs.Rows.{Outcome, Row, costs_text, costs_texts}
use Rattle.icn_heap.specs.Extents.{IsLive}
use Rattle.icn_heap.specs.Heaps.{extent_of}
use Rattle.icn_vars.specs.Stops.{IsLiveStop, StopsFinding, StopsPassing, halt_of}
use Rattle.icn_vars.specs.Worlds.{KeepsItems, reach_of, setting_of}
use Rattle.icn_vars.specs.declared.outcome.Outcome.{Outcome as HeldOutcome}
use Rattle.icn_vars.specs.declared.outcome.Halt.{Halt}
use Rattle.icn_vars.specs.declared.outcome.Halt.TheVariants.{Error as ErrorHalt, Ends as EndsHalt, ReadFault, WriteFault, FileFault, NoMemory}
use Rattle.icn_vars.specs.declared.stop.Stop.{Stop}
use Rattle.icn_vars.specs.declared.world.World.{World}
use Rattle.icn_vars.proofs.KeptItems.{keeps_items_trans}
use Rattle.icn_args.proofs.RowAnswers.{answer_then, row_stops_at, stop_lives}
use Rattle.icn_streams.specs.Answers.{Answers, CallState, Stops, call_state, files, idle, outside_after, putting, reading, setting_with, state_telling, streams_telling}
use Rattle.icn_streams.specs.Applies.{Applies, reach_given}
use Rattle.icn_streams.specs.Handed.{CallStreams, streams_of}
use Rattle.icn_streams.proofs.QuietRows.{faultless_applies}
use Rattle.icn_streams.proofs.RowAnswers.{applies_same, stops_there}
use Rattle.icn_filefn.specs.OpenParts.{mode_named, opens_text}

-- A row that goes on as another one in another world

module _ (row rest : Row) (old new : World) (locals : List Val) where
  answers_on : (was : Outside) (handed : CallStreams) (after : CallState) (result : Result HeldOutcome Halt)
      → row (setting_of was old locals) ≡ rest (setting_of was new locals)
      → Answers rest was (call_state new locals handed) after result → Answers row was (call_state old locals handed) after result
  answers_on was handed after (Ok outcome) same is = record { now = is.now; follows = is.follows; comes = same ∙ is.comes }
  answers_on was handed after (Err (ErrorHalt number offending)) same is = record { now = is.now; follows = is.follows; comes = same ∙ is.comes }
  answers_on was handed after (Err (EndsHalt status)) same is = record { now = is.now; follows = is.follows; comes = same ∙ is.comes }
  answers_on was handed after (Err ReadFault) same is =
      subst (λ (o : Outcome). BreaksReading was (outside_after o) (streams_of handed) (streams_of after.handed)) (sym same) is
  answers_on was handed after (Err WriteFault) same is =
      subst (λ (o : Outcome). BreaksBetween was (outside_after o) (streams_of handed) (streams_of after.handed)) (sym same) is
  answers_on was handed after (Err FileFault) same is =
      subst (λ (o : Outcome). BreaksFiles was (outside_after o) (streams_of handed) (streams_of after.handed)) (sym same) is
  answers_on was handed after (Err NoMemory) same is = by is
    where
      by : Stops rest (setting_of was new locals) handed after.handed → Stops row (setting_of was old locals) handed after.handed
      by (idle is) = idle is
      by (reading is) = reading (subst (λ (o : Outcome). BreaksReading was (outside_after o) (streams_of handed) (streams_of after.handed)) (sym same) is)
      by (files is) = files (subst (λ (o : Outcome). BreaksFiles was (outside_after o) (streams_of handed) (streams_of after.handed)) (sym same) is)
      by (putting is) = putting (subst (λ (o : Outcome). BreaksBetween was (outside_after o) (streams_of handed) (streams_of after.handed)) (sym same) is)

  -- what is said of the other row is so of this one
  pub applies_on : (handed : CallStreams) (after : CallState) (result : Result HeldOutcome Halt)
      → ((was : Outside) → row (setting_of was old locals) ≡ rest (setting_of was new locals))
      → KeepsItems (reach_of old locals) (reach_of new locals)
      → Applies rest (call_state new locals handed) after result → Applies row (call_state old locals handed) after result
  applies_on handed after result same kept is = record {
    answers = λ was told. answers_on was handed after result (same was) (is.answers was told);
    meant = record {
      had = is.meant.had;
      has = is.meant.has;
      allowed = is.meant.allowed;
      allows = is.meant.allows;
      answers = λ was first. answers_on was (streams_telling is.meant.had handed) (state_telling is.meant.has after) result (same was)
          (is.meant.answers was first);
    };
    caused = is.caused;
    live = is.live;
    locals = is.locals;
    kept = keeps_items_trans (reach_of old locals) (reach_of new locals) (reach_given after) kept is.kept;
  }

-- Its parts

-- once the mode is known
abbrev charges_both : Value → Value → List ℕ → FileMode → Row
charges_both named said name mode = costs_texts (named ∷ said ∷ []) (opens_text name mode)

-- once the name is known
abbrev finds_mode : Value → Value → List ℕ → Row
finds_mode named said name = mode_named (Text (codes "r")) said (λ mode. charges_both named said name mode)

-- the row of these arguments
abbrev opens_by : Value → Value → Row
opens_by named said = string named (finds_mode named said)

module _ (args : List Value) (named said : Value) (first : named ≡ arg args 0) (second : said ≡ arg args 1) where
  row_by : (s : Setting) → open_row args s ≡ opens_by named said s
  row_by s = sym (ap (λ (v : Value). opens_by v said s) first ∙ ap (λ (v : Value). opens_by (arg args 0) v s) second)

  -- the name is no text
  pub name_refused : (all : CallState) (stop : Stop) (result : Result HeldOutcome Halt) → IsErrAnd result (λ halt. halt ≡ halt_of stop)
      → ((s : Setting) → StopsFinding (extent_of all.world.heap) (string named) s s stop) → IsLiveStop (extent_of all.world.heap) stop
      → All (IsLive (extent_of all.world.heap)) all.locals → Applies (open_row args) all all result
  name_refused all stop result same stops live lives =
      applies_same (open_row args) (opens_by named said) all all result (λ was. row_by (setting_with was all))
      (stops_there (string named) (finds_mode named said) all stop result same (λ was. stops (setting_with was all)) live lives)

  module _ (name : List ℕ) (is : (s : Setting) → GoesOn (string named) s name s) where
    -- the mode is none
    pub mode_refused : (all : CallState) (stop : Stop) (result : Result HeldOutcome Halt) → IsErrAnd result (λ halt. halt ≡ halt_of stop)
        → ((s : Setting) → StopsFinding (extent_of all.world.heap) (mode_named (Text (codes "r")) said) s s stop)
        → IsLiveStop (extent_of all.world.heap) stop → All (IsLive (extent_of all.world.heap)) all.locals → Applies (open_row args) all all result
    mode_refused all stop result same stops live lives =
        applies_same (open_row args) (finds_mode named said name) all all result
        (λ was. row_by (setting_with was all) ∙ is (setting_with was all) (finds_mode named said))
        (stops_there (mode_named (Text (codes "r")) said) (charges_both named said name) all stop result same (λ was. stops (setting_with was all)) live
        lives)

    module _ (mode : FileMode) (of : (s : Setting) → GoesOn (mode_named (Text (codes "r")) said) s mode s) where
      both_left : (s : Setting) → open_row args s ≡ charges_both named said name mode s
      both_left s = row_by s ∙ (is s (finds_mode named said) ∙ of s (charges_both named said name))

      -- a limit was passed, or memory was wanting, as the name was charged
      pub name_stops : (old new : World) (locals : List Val) (handed : CallStreams) (stop : Stop) (result : Result HeldOutcome Halt)
          → IsErrAnd result (λ halt. halt ≡ halt_of stop)
          → ((was : Outside) → StopsPassing (extent_of new.heap) (costs_text named) (setting_of was old locals) (setting_of was new locals) stop)
          → IsLiveStop (extent_of new.heap) stop → All (IsLive (extent_of new.heap)) locals → KeepsItems (reach_of old locals) (reach_of new locals)
          → Applies (open_row args) (call_state old locals handed) (call_state new locals handed) result
      name_stops old new locals handed stop result same stops live lives kept =
          faultless_applies (open_row args) old new locals locals handed result
          (λ was. answer_then (extent_of new.heap) (open_row args) (charges_both named said name mode) (setting_of was old locals)
          (setting_of was old locals) (setting_of was new locals) result (both_left (setting_of was old locals))
          (row_stops_at (extent_of new.heap) (costs_text named) (costs_text said (opens_text name mode)) (setting_of was old locals)
          (setting_of was new locals) stop result same (stops was)))
          (stop_lives (reach_of new locals) stop result same live) lives kept

      module _ (old between : World) (locals : List Val)
          (paid : (was : Outside) → Passes (costs_text named) (setting_of was old locals) (setting_of was between locals)) where
        mode_left : (was : Outside) → open_row args (setting_of was old locals) ≡ costs_text said (opens_text name mode) (setting_of was between locals)
        mode_left was = both_left (setting_of was old locals) ∙ paid was (costs_text said (opens_text name mode))

        -- or as the mode was
        pub mode_stops : (new : World) (handed : CallStreams) (stop : Stop) (result : Result HeldOutcome Halt)
            → IsErrAnd result (λ halt. halt ≡ halt_of stop)
            → ((was : Outside) → StopsPassing (extent_of new.heap) (costs_text said) (setting_of was between locals) (setting_of was new locals) stop)
            → IsLiveStop (extent_of new.heap) stop → All (IsLive (extent_of new.heap)) locals → KeepsItems (reach_of old locals) (reach_of new locals)
            → Applies (open_row args) (call_state old locals handed) (call_state new locals handed) result
        mode_stops new handed stop result same stops live lives kept =
            faultless_applies (open_row args) old new locals locals handed result
            (λ was. answer_then (extent_of new.heap) (open_row args) (costs_text said (opens_text name mode)) (setting_of was old locals)
            (setting_of was between locals) (setting_of was new locals) result (mode_left was)
            (row_stops_at (extent_of new.heap) (costs_text said) (opens_text name mode) (setting_of was between locals) (setting_of was new locals) stop
            result same (stops was)))
            (stop_lives (reach_of new locals) stop result same live) lives kept

        -- both were charged, and what is left of the row is answered
        pub opened_then : (new : World) (text : List ℕ) → name ≡ text
            → ((was : Outside) → Passes (costs_text said) (setting_of was between locals) (setting_of was new locals))
            → KeepsItems (reach_of old locals) (reach_of new locals) → (handed : CallStreams) (after : CallState) (result : Result HeldOutcome Halt)
            → Applies (opens_text text mode) (call_state new locals handed) after result
            → Applies (open_row args) (call_state old locals handed) after result
        opened_then new text same passes kept handed after result rest =
            applies_on (open_row args) (opens_text text mode) old new locals handed after result
            (λ was. mode_left was
            ∙ (passes was (opens_text name mode) ∙ ap (λ (bytes : List ℕ). opens_text bytes mode (setting_of was new locals)) same))
            kept rest
