-- What was answered, and what it leaves, names only what has a name.
use Rattle.std.specs.Prelude.{List, Result, Ok, Err, ⊤}
use Rattle.std.specs.Option.{option_map}
use Rattle.icn_value.specs.declared.val.Val.{Val}
use Rattle.icn_value.specs.Store.{Names, bare_outside}
use Rattle.icn_heap.specs.Extents.{value_in}
use Rattle.icn_heap.specs.Heaps.{extent_of}
use Rattle.law_names.specs.RowsNamed.{OutcomeNamed}
use Rattle.law_names.specs.NamedSettings.{ErrorNamed, SettingNamed}
use Rattle.icn_vars.specs.Outcomes.{outcome_in}
use Rattle.icn_vars.specs.Worlds.{setting_of}
use Rattle.icn_vars.specs.declared.outcome.Outcome.{Outcome}
use Rattle.icn_vars.specs.declared.outcome.Halt.{Halt}
use Rattle.icn_vars.specs.declared.outcome.Halt.TheVariants.{Error, Ends, ReadFault, WriteFault, FileFault, NoMemory}
use Rattle.icn_vars.specs.declared.world.World.{World}

-- Nothing is said of a fault or of want of memory: the run is over then.
abbrev pub AnswerNamed : Names → World → List Val → Result Outcome Halt → Type 0
AnswerNamed names world locals (Ok outcome) =
    OutcomeNamed names (outcome_in (extent_of world.heap) outcome (setting_of bare_outside world locals))
AnswerNamed names world locals (Err (Error number offending)) =
    ErrorNamed names number (option_map (value_in (extent_of world.heap)) offending)
    × SettingNamed names (setting_of bare_outside world locals)
AnswerNamed names world locals (Err (Ends status)) =
    SettingNamed names (setting_of bare_outside world locals)
AnswerNamed names world locals (Err ReadFault) = ⊤
AnswerNamed names world locals (Err WriteFault) = ⊤
AnswerNamed names world locals (Err FileFault) = ⊤
AnswerNamed names world locals (Err NoMemory) = ⊤
