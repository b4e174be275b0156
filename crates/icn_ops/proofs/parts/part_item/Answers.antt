use Rattle.icn_vars.specs.Worlds.{reach_of}
use Rattle.icn_ops.proofs.parts.part_item.Goals as goal

pub returns-in-Some-clause-live : goal.returns-in-Some-clause-live
returns-in-Some-clause-live g c =
    let live = rw c.in-Some.is at c.requires.live in
    record { live = c.part_of.ensures.live (reach_of c.args.w.now (g.L.Locals.items c.args.l.now)) live }
