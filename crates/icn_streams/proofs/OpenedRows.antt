-- Rows that read an opened file once.
use Rattle.std.proofs.Common.{◌≡◌, ◌∙◌, sym, subst, ℕ, List, Option, None, Some, Result, Ok, Err}
use Rattle.std.specs.Prelude.{IsErrAnd}
use Rattle.std.specs.List.{All}
use Rattle.icn_value.specs.declared.val.Span.{Span}
use Rattle.icn_value.specs.declared.val.Val.{Val}
use Rattle.icn_value.specs.Store.{Request, Outside, Setting}
use Rattle.icn_defs.specs.Rows.{Row}
use Rattle.icn_heap.specs.Extents.{IsLive, text_in}
use Rattle.icn_heap.specs.Heaps.{extent_of}
use Rattle.icn_vars.specs.Outcomes.{IsLiveOutcome, outcome_in}
use Rattle.icn_vars.specs.Stops.{IsLiveStop, halt_of}
use Rattle.icn_vars.specs.Worlds.{KeepsItems, reach_of, setting_of}
use Rattle.icn_vars.specs.declared.outcome.Outcome.{Outcome}
use Rattle.icn_vars.specs.declared.outcome.Outcome.TheVariants.{Fails as HeldFails}
use Rattle.icn_vars.specs.declared.outcome.Halt.{Halt}
use Rattle.icn_vars.specs.declared.outcome.Halt.TheVariants.{Error as ErrorHalt, NoMemory}
use Rattle.icn_vars.specs.declared.stop.Stop.{Stop}
use Rattle.icn_vars.specs.declared.stop.Stop.TheVariants.{Error as ErrorStop, NoMemory as NoMemoryStop}
use Rattle.icn_vars.specs.declared.world.World.{World}
use Rattle.icn_streams.specs.Answers.{call_state}
use Rattle.icn_streams.specs.Applies.{Applies}
use Rattle.icn_streams.specs.Handed.{CallStreams}
use Rattle.icn_streams.specs.Readings.{ReadsOpened, next_opened}
use Rattle.icn_streams.proofs.QuietRows.{faultless_applies}

module _ (asked : Request) (number : ℕ) (next : List ℕ → Row) (old new : World) (locals : List Val) (handed : CallStreams)
    (lives : All (IsLive (extent_of new.heap)) locals) (kept : KeepsItems (reach_of old locals) (reach_of new locals)) where
  stopped : (stop : Stop)
      → ((was : Outside) → ReadsOpened asked number (extent_of new.heap) (setting_of was old locals) (setting_of was new locals) (Err stop))
      → IsLiveStop (extent_of new.heap) stop
      → Applies (next_opened asked number next) (call_state old locals handed) (call_state new locals handed) (Err (halt_of stop))
  stopped (ErrorStop code offending) reads live =
      faultless_applies (next_opened asked number next) old new locals locals handed (Err (ErrorHalt code offending)) (λ was. reads was next) live lives kept
  stopped NoMemoryStop reads live =
      faultless_applies (next_opened asked number next) old new locals locals handed (Err NoMemory) (λ was. tt) tt lives kept

  -- the reading was an error of the row, or memory was wanting
  pub opened_halts : (stop : Stop) (result : Result Outcome Halt) → IsErrAnd result (λ halt. halt ≡ halt_of stop)
      → ((was : Outside) → ReadsOpened asked number (extent_of new.heap) (setting_of was old locals) (setting_of was new locals) (Err stop))
      → IsLiveStop (extent_of new.heap) stop
      → Applies (next_opened asked number next) (call_state old locals handed) (call_state new locals handed) result
  opened_halts stop (Ok outcome) same reads live = absurd same
  opened_halts stop (Err halt) same reads live =
      subst (λ (h : Halt). Applies (next_opened asked number next) (call_state old locals handed) (call_state new locals handed) (Err h)) (sym same)
      (stopped stop reads live)

  -- a text was read, and the row goes on with it
  pub opened_gives : (found : Option Span) (span : Span) (outcome : Outcome) → found ≡ Some span
      → ((s : Setting) → next (text_in (extent_of new.heap) span) s ≡ outcome_in (extent_of new.heap) outcome s)
      → ((was : Outside) → ReadsOpened asked number (extent_of new.heap) (setting_of was old locals) (setting_of was new locals) (Ok found))
      → IsLiveOutcome (reach_of new locals) outcome
      → Applies (next_opened asked number next) (call_state old locals handed) (call_state new locals handed) (Ok outcome)
  opened_gives found span outcome is goes reads live =
      faultless_applies (next_opened asked number next) old new locals locals handed (Ok outcome)
      (λ was. subst (λ (f : Option Span). ReadsOpened asked number (extent_of new.heap) (setting_of was old locals) (setting_of was new locals) (Ok f)) is
      (reads was) next ∙ goes (setting_of was new locals))
      live lives kept

  -- nothing was there, and the row fails
  pub opened_fails : (found : Option Span) → found ≡ None
      → ((was : Outside) → ReadsOpened asked number (extent_of new.heap) (setting_of was old locals) (setting_of was new locals) (Ok found))
      → Applies (next_opened asked number next) (call_state old locals handed) (call_state new locals handed) (Ok HeldFails)
  opened_fails found is reads =
      faultless_applies (next_opened asked number next) old new locals locals handed (Ok HeldFails)
      (λ was. subst (λ (f : Option Span). ReadsOpened asked number (extent_of new.heap) (setting_of was old locals) (setting_of was new locals) (Ok f)) is
      (reads was) next)
      (record { live = tt }) lives kept
