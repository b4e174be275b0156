use Rattle.icn_heap.proofs.GrowingHeaps.{live_kept}
use Rattle.test_rows.proofs.Named.{held_ready}
use Rattle.test_rows.proofs.apply.words.add_text.Goals as goal

pub add_value-requires-clause-ready : goal.add_value-requires-clause-ready
add_value-requires-clause-ready g c = record {
  named = held_ready (g.N.Names.known c.args.names.now) c.args.w.now c.hold.new.self c.args.l.now.vals.items c.requires c.hold.ensures.kept
      c.hold.ensures.unchanged;
  live = live_kept c.hold.ensures.kept c.args.l.now.vals.items c.requires.live;
}
