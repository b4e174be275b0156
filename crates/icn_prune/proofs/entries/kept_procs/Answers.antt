use Rattle.std.proofs.Common.{refl}
use Rattle.icn_prune.proofs.KeptEntries.{keep_bound, keeps_next}
use Rattle.icn_prune.proofs.entries.kept_procs.Goals as goal

pub bounds-keep-number : goal.bounds-keep-number
bounds-keep-number c =
    keep_bound c.args.keep.now c.args.code.now.procs.items c.deref-entry-items.result.now c.loop-number.number c.requires.as_many
    c.deref-entry-items.ensures.value c.loop-number-test.true

pub loop-number-preserved : goal.loop-number-preserved
loop-number-preserved c =
    keeps_next c.args.keep.now c.args.code.now.procs.items c.deref-entry-items.result.now c.loop-number.number c.entry-item.result
    _ _ _ _ c.loop-number-test.true c.deref-entry-items.ensures.value c.entry-item.is c.requires.as_many refl
    c.in_ok-push_kept.ensures c.loop-number.invariant
