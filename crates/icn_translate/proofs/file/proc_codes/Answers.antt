use Rattle.std.proofs.Common.{map, ◌∙◌}
use Rattle.icn_unit.specs.UnitViews.{proc_seen}
use Rattle.icn_translate.specs.FileUnits.{codes_in}
use Rattle.icn_translate.proofs.DraftStarts.{part_step}
use Rattle.icn_translate.proofs.RowNumbers.{room_at}
use Rattle.icn_translate.proofs.file.proc_codes.Goals as goal

pub put_codes-requires : goal.put_codes-requires
put_codes-requires c =
    room_at c.args.decls.now c.loop-decl.decl-index c.decl-item.result c.loop-decl-test.true c.decl-item.is c.requires.room

pub loop-decl-preserved : goal.loop-decl-preserved
loop-decl-preserved c =
    part_step codes_in c.args.decls.now c.loop-decl.decl-index c.decl-item.result
    (map proc_seen c.loop-decl.codes.items) _ c.loop-decl-test.true c.decl-item.is c.in_ok-put_codes.ensures
    ∙ c.loop-decl.invariant
