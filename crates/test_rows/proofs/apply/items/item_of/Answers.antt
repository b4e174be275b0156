use Rattle.std.proofs.Common.{arith}
use Rattle.icn_heap.specs.Heaps.{extent_of}
use Rattle.icn_vars.specs.Worlds.{reach_of}
use Rattle.test_rows.proofs.apply.items.item_of.Goals as goal

pub returns-in-Some-clause-live : goal.returns-in-Some-clause-live
returns-in-Some-clause-live g c =
    record { live = c.in-Some.ensures.live (reach_of c.args.w.now c.args.l.now.vals.items) (omega (arith, c.len.ensures)) (omega (arith, c.len-2.ensures)) }

pub returns-in-Some-clause-named : goal.returns-in-Some-clause-named
returns-in-Some-clause-named g c = record { named = c.in-Some.ensures.named (g.N.Names.known c.args.names.now) (extent_of c.args.w.now.heap) }
