use Rattle.std.proofs.Common.{[], sym, ap}
use Rattle.std.proofs.lemmas.List.Elements.{All-nil}
use Rattle.icn_value.specs.Store.{Setting, bare_outside}
use Rattle.icn_heap.specs.Extents.{IsLive}
use Rattle.icn_heap.specs.Heaps.{extent_of}
use Rattle.icn_vars.proofs.GrowingWorlds.{heap_changed}
use Rattle.icn_control.proofs.transfers.count_result.Goals as goal

pub returns-clause-world : goal.returns-clause-world
returns-clause-world c =
    let w = c.args.world.now in
    sym (ap (λ (s : Setting). s.world) (heap_changed bare_outside w.heap c.count.new.self w.pair w.words w.globals.items w.statics.items []
    c.count.ensures.kept c.count.ensures.step w.sound (All-nil (IsLive (extent_of w.heap)))))
