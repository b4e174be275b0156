use Rattle.std.proofs.Common.{◌≡◌, ◌≤◌, ◌+◌, ◌++◌, drop}
use Rattle.icn_link.specs.Joined.{locals_in, statics_in, variables}
use Rattle.icn_link.specs.Views.{texts_seen}
use Rattle.icn_link.proofs.variable.variables.Given as goal

abbrev pub invariant-loop-entry : goal.invariant-loop-entry
invariant-loop-entry l = record {
  instrs : l.instrs.items ++ variables (texts_seen l.globals.keys) l.locals l.statics (drop l.entry-index l.names)
      ≡ variables (texts_seen l.globals.keys) 0 0 l.names;
  locals : l.locals + locals_in (texts_seen l.globals.keys) (drop l.entry-index l.names) ≤ 65535;
  statics : l.statics + statics_in (texts_seen l.globals.keys) (drop l.entry-index l.names) ≤ 65535;
}
