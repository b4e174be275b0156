use Rattle.std.proofs.Common.{◌∙◌}
use Rattle.icn_value.specs.Members.{members_of}
use Rattle.icn_defs.specs.Scanning.{among_from}
use Rattle.icn_heap.specs.Extents.{text_in}
use Rattle.icn_heap.specs.Heaps.{extent_of}
use Rattle.icn_vars.specs.Worlds.{setting_of}
use Rattle.icn_scanfn.proofs.finding.upto_in.Goals as goal

pub returns-in-Some-clause-row : goal.returns-in-Some-clause-row
returns-in-Some-clause-row g c = λ outside.
    c.in-Some.ensures.ends (λ ends. among_from (members_of c.args.wanted) (text_in (extent_of c.args.w.now.heap) c.args.searched.text) ends.0 ends.1)
    (setting_of outside c.args.w.now (g.L.Locals.items c.args.l.now))
    ∙ c.among_from.ensures.row outside
