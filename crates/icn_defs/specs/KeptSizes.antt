-- What every row keeps: how many locals, globals and statics there are, and the limits.
use Rattle.std.specs.Prelude.{◌≡◌, length}
use Rattle.icn_value.specs.Store.{Setting}
use Rattle.icn_defs.specs.Rows.{Outcome, Fails, Gives, Suspends, Error, Ends}

-- there are as many locals, globals and statics as before, and the limits are the same
pub record KeepsSizes (before after : Setting) : Type 0 where
  pub locals : length after.locals ≡ length before.locals
  pub globals : length after.world.globals ≡ length before.world.globals
  pub statics : length after.world.statics ≡ length before.world.statics
  pub bounds : after.world.heap.bounds ≡ before.world.heap.bounds

-- where a row goes on or comes to an error, its setting keeps them
abbrev pub KeepsIn : Setting → Outcome → Type 0
KeepsIn before (Fails seen) = KeepsSizes before seen
KeepsIn before (Gives item seen) = KeepsSizes before seen
KeepsIn before (Suspends item residual seen) = KeepsSizes before seen
KeepsIn before (Error number value seen) = KeepsSizes before seen
KeepsIn before (Ends status seen) = Unit {0}
