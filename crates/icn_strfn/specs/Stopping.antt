-- Where want of memory hides no limit.
use Rattle.std.specs.Prelude.{◌≡◌, ◌≢◌, ◌+◌, ◌<◌, ℕ, List, length, None, Result, Err}
use Rattle.icn_value.specs.declared.val.Val.{Val}
use Rattle.icn_value.specs.Store.{Heap, Outside, Setting}
use Rattle.icn_defs.specs.Rows.{Row, Error as ErrorOutcome}
use Rattle.icn_vars.specs.declared.outcome.Halt.{Halt}
use Rattle.icn_vars.specs.declared.outcome.Halt.TheVariants.{Error, NoMemory}
use Rattle.icn_vars.specs.declared.outcome.ValueOutcome.{ValueOutcome}
use Rattle.icn_vars.specs.declared.world.World.{World}
use Rattle.icn_vars.specs.Worlds.{setting_of}

-- where the limit refuses this text, that is the answer, and no want of memory
abbrev pub RefusesFirst : Heap → List ℕ → Result ValueOutcome Halt → Type 0
RefusesFirst heap text result =
    heap.bounds.strings < heap.strings + length text → result ≡ Err (Error 306 None)

-- want of memory is answered only where the row does not come to error 306
abbrev pub LimitsRow : World → List Val → Row → Result ValueOutcome Halt → Type 0
LimitsRow old locals row result =
    result ≡ Err NoMemory → (outside : Outside) (at : Setting)
    → row (setting_of outside old locals) ≢ ErrorOutcome 306 None at
