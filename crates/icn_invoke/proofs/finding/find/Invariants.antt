use Rattle.std.proofs.Common.{◌≡◌, [], drop}
use Rattle.icn_defs.specs.NamedValues.{all_names, number_from, number_named}
use Rattle.icn_invoke.proofs.finding.find.Given as goal

-- none of those looked at has the name
abbrev pub invariant-loop-number : goal.invariant-loop-number
invariant-loop-number g l =
    number_named (g.N.Names.known l.names) l.text ≡ number_from [] l.number (drop l.number (all_names (g.N.Names.known l.names))) l.text
