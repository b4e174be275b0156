use Rattle.std.proofs.Common.{◌++◌, map, ap, ◌∙◌}
use Rattle.icn_tree.specs.declared.tree.Name.{Name}
use Rattle.icn_translate.specs.ProcCodes.{entry_of}
use Rattle.icn_translate.proofs.DraftStarts.{entries_step}
use Rattle.icn_translate.proofs.procedure.put_locals.Goals as goal

pub loop-local-preserved : goal.loop-local-preserved
loop-local-preserved c =
    entries_step c.args.locals.now c.loop-local.local-index c.local-item.result _ _ c.loop-local-test.true c.local-item.is
    (c.in_ok-put_entries.ensures
    ∙ ap (λ names. c.loop-local.entries.items ++ map (λ (name : Name). entry_of c.kind_of.result name.text) names) c.deref.ensures.value
    ∙ ap (λ kind. c.loop-local.entries.items ++ map (λ (name : Name). entry_of kind name.text) c.local-item.result.names.items) c.kind_of.ensures)
    ∙ c.loop-local.invariant
