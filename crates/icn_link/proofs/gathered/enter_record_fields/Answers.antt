use Rattle.std.proofs.Common.{◌∙◌, Bor}
use Rattle.icn_unit.specs.declared.unit.UnitDecl.{UnitDecl}
use Rattle.icn_unit.specs.UnitViews.{decl_seen}
use Rattle.icn_link.specs.Mentions.{fields_in}
use Rattle.icn_link.specs.Views.{texts_seen}
use Rattle.icn_link.proofs.GatheringLoops.{texts_step}
use Rattle.icn_link.proofs.gathered.enter_record_fields.Goals as goal

pub loop-decl-preserved : goal.loop-decl-preserved
loop-decl-preserved c =
    texts_step (λ (item : Bor UnitDecl). decl_seen item.now) fields_in c.args.decls.now c.loop-decl.decl-index c.decl-item.result
    (texts_seen c.loop-decl.names.keys) _
    c.loop-decl-test.true c.decl-item.is c.in_ok-enter_fields.ensures
    ∙ c.loop-decl.invariant
