-- When a world may be called with: all that it holds has a name, and its locals are of it.
use Rattle.std.specs.Prelude.{List, Result}
use Rattle.std.specs.List.{All}
use Rattle.icn_value.specs.declared.val.Val.{Val}
use Rattle.icn_value.specs.Store.{Names, bare_outside}
use Rattle.icn_heap.specs.Extents.{IsLive}
use Rattle.icn_heap.specs.Heaps.{extent_of}
use Rattle.law_names.specs.RowsNamed.{OutcomeNamed}
use Rattle.law_names.specs.NamedSettings.{SettingNamed}
use Rattle.icn_vars.specs.declared.outcome.Outcome.{Outcome}
use Rattle.icn_vars.specs.declared.outcome.Halt.{Halt}
use Rattle.icn_vars.specs.declared.world.World.{World}
use Rattle.icn_vars.specs.Outcomes.{IsLiveAnswer, outcome_in}
use Rattle.icn_vars.specs.Worlds.{reach_of, setting_of}
use Rattle.icn_apply.specs.NamesAfter.{AnswerNamed}

-- all that a world and locals hold has a name, and the locals are of the world
pub record IsReadySetting (names : Names) (world : World) (locals : List Val) : Type 0 where
  pub named : SettingNamed names (setting_of bare_outside world locals)
  pub live : All (IsLive (extent_of world.heap)) locals

-- what was answered, and what it leaves, has a name and is of the world
pub record IsReadyAnswer (names : Names) (world : World) (locals : List Val)
    (result : Result Outcome Halt) : Type 0 where
  pub named : AnswerNamed names world locals result
  pub live : IsLiveAnswer (reach_of world locals) result
  pub live_locals : All (IsLive (extent_of world.heap)) locals

-- what is given, and what it leaves, has a name
abbrev pub ComesNamed : Names → World → List Val → Outcome → Type 0
ComesNamed names world locals outcome =
    OutcomeNamed names (outcome_in (extent_of world.heap) outcome (setting_of bare_outside world locals))
