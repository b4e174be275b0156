use Rattle.std.proofs.Common.{List, ℕ, Bor, [], ◌∷◌, ◌++◌, ap, ◌∙◌}
use Rattle.icn_link.specs.Joined.{global_with}
use Rattle.icn_link.specs.Views.{gathered_seen, entry_in}
use Rattle.icn_link.proofs.GatheringLoops.{mapped_step}
use Rattle.icn_link.proofs.linking.globals_with.Goals as goal

pub loop-name-preserved : goal.loop-name-preserved
loop-name-preserved c =
    mapped_step (λ (name : Bor (List ℕ)). name.now) (global_with (gathered_seen c.args.tables.now) (entry_in c.args.procs.now) (entry_in c.args.records.now))
    _ c.loop-name.name-index _ c.loop-name.globals.items c.push.new.self.items c.loop-name-test.true
    (c.in_ok-push.ensures.items ∙ ap (λ entry. c.loop-name.globals.items ++ entry ∷ []) c.global.ensures)
    ∙ c.loop-name.invariant
