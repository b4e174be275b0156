use Rattle.std.specs.Prelude.{◌≡◌}
use Rattle.icn_host.proofs.whole.make_draft.Given as goal

abbrev pub invariant-loop-number : goal.invariant-loop-number
invariant-loop-number g l = g.S.FileSystem.held l.system ≡ g.S.FileSystem.held l.initial.system
