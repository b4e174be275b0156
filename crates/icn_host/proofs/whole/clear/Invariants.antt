use Rattle.std.specs.Prelude.{◌≡◌}
use Rattle.icn_host.proofs.whole.clear.Given as goal

abbrev pub invariant-loop : goal.invariant-loop
invariant-loop g l = g.S.FileSystem.held l.system ≡ g.S.FileSystem.held l.initial.system
