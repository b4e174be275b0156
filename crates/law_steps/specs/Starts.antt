-- The state with which the run of a code starts.
use Rattle.std.specs.Prelude.{◌≡◌, true}
use Rattle.icn_defs.specs.Running.{Launch}
use Rattle.icn_code.specs.Codes.{Tables}
use Rattle.icn_code.specs.Rules.{keeps_rules}
use Rattle.icn_run.specs.FlatStep.{start}
use Rattle.icn_run.specs.Step.{all_names}
use Rattle.law_steps.specs.KeepingSizes.{StateFits}
use Rattle.law_steps.specs.StateNames.{StateNamed}

-- what it names has a name, where the tables keep the rules of a code
abbrev pub StartsNamed : Type 0
StartsNamed = (tables : Tables) (launch : Launch) → keeps_rules tables ≡ true
    → StateNamed (all_names tables) (start tables launch)

-- each record has as many fields as its kind
abbrev pub StartsFit : Type 0
StartsFit = (tables : Tables) (launch : Launch) → StateFits tables (start tables launch)
