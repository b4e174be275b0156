-- When all in the world of a program that has one record and no procedure has a name.
use Rattle.std.specs.Prelude.{List}
use Rattle.icn_value.specs.declared.val.Val.{Val}
use Rattle.icn_value.specs.Store.{bare_outside}
use Rattle.icn_heap.specs.Heaps.{extent_of}
use Rattle.law_names.specs.RowsNamed.{OutcomeNamed}
use Rattle.law_names.specs.NamedSettings.{SettingNamed}
use Rattle.icn_vars.specs.declared.outcome.Outcome.{Outcome}
use Rattle.icn_vars.specs.declared.world.World.{World}
use Rattle.icn_vars.specs.Outcomes.{outcome_in}
use Rattle.icn_vars.specs.Worlds.{setting_of}
use Rattle.test_values.specs.OneRecord.{one_record}

-- all that a world and locals hold has a name
abbrev pub AllNamed : World → List Val → Type 0
AllNamed world locals = SettingNamed one_record (setting_of bare_outside world locals)

-- so has what a call gave
abbrev pub ComesNamed : World → List Val → Outcome → Type 0
ComesNamed world locals outcome = OutcomeNamed one_record
    (outcome_in (extent_of world.heap) outcome (setting_of bare_outside world locals))
