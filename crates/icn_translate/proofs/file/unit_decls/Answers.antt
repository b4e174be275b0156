use Rattle.std.proofs.Common.{map, ◌∙◌}
use Rattle.icn_unit.specs.UnitViews.{decl_seen}
use Rattle.icn_translate.specs.FileUnits.{lines_in}
use Rattle.icn_translate.proofs.DraftStarts.{part_step}
use Rattle.icn_translate.proofs.file.unit_decls.Goals as goal

pub loop-decl-preserved : goal.loop-decl-preserved
loop-decl-preserved c =
    part_step lines_in c.args.decls.now c.loop-decl.decl-index c.decl-item.result
    (map decl_seen c.loop-decl.lines.items) _ c.loop-decl-test.true c.decl-item.is c.in_ok-put_lines.ensures
    ∙ c.loop-decl.invariant
