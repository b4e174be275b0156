-- What calls say that stand for words of rows.
use Rattle.std.specs.Prelude.{◌≡◌, ℕ, List, [], Some, Result, Ok, Err, unwrap_or}
use Rattle.icn_value.specs.Values.{Value}
use Rattle.icn_value.specs.Store.{Outside, Setting}
use Rattle.icn_value.specs.declared.val.Val.{Val}
use Rattle.icn_defs.specs.Calls.{GoesOn, Passes}
use Rattle.icn_defs.specs.Conversions.{text_of}
use Rattle.icn_defs.specs.Rows.{Row, Finds}
use Rattle.icn_heap.specs.Extents.{Extent}
use Rattle.icn_heap.specs.Heaps.{extent_of}
use Rattle.icn_vars.specs.declared.outcome.Outcome.{Outcome}
use Rattle.icn_vars.specs.declared.outcome.Halt.{Halt}
use Rattle.icn_vars.specs.declared.world.World.{World}
use Rattle.icn_vars.specs.Outcomes.{ComesToAnswer}
use Rattle.icn_vars.specs.Worlds.{setting_of}
use Rattle.icn_vars.specs.declared.stop.Stop.{Stop}
use Rattle.icn_vars.specs.Stops.{StopsFinding, StopsPassing}

-- What the row comes to in the world and with the locals before is what was answered, in the world and with the
-- locals after, whatever the outside.
abbrev pub Answers : World → List Val → World → List Val → Row → Result Outcome Halt → Type 0
Answers old locals new locals' row result =
    (outside : Outside) → ComesToAnswer (extent_of new.heap) row (setting_of outside old locals)
    (setting_of outside new locals') result

-- A thing is found, shows as this, and the row goes on in the setting after it; or the row stops there. The
-- extent is that of the setting after it.
abbrev pub IsFound : {A B : Type 0} → Extent → Finds A → Setting → Setting → (B → A) → Result B Stop → Type 0
IsFound all find before after shown (Ok thing) = GoesOn find before (shown thing) after
IsFound all find before after shown (Err stop) = StopsFinding all find before after stop

-- A part of a row is passed, and the row goes on in the setting after it; or the row stops there.
abbrev pub IsPassed : {B : Type 0} → Extent → (Row → Row) → Setting → Setting → Result B Stop → Type 0
IsPassed all part before after (Ok thing) = Passes part before after
IsPassed all part before after (Err stop) = StopsPassing all part before after stop

-- the text of a value that has one
abbrev pub the_text : Value → List ℕ
the_text value = unwrap_or (text_of value) []

-- the value has a text
pub record HasText (value : Value) : Type 0 where
  pub is : text_of value ≡ Some (the_text value)
