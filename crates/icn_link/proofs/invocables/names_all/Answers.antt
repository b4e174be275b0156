use Rattle.std.proofs.Common.{Bor, ◌∙◌}
use Rattle.std.specs.Prelude.{codes}
use Rattle.std.specs.Str.{bytes_eq}
use Rattle.icn_unit.specs.declared.unit.UnitDecl.{UnitDecl}
use Rattle.icn_unit.specs.UnitViews.{decl_seen}
use Rattle.icn_link.specs.Mentions.{invocable_in}
use Rattle.icn_link.proofs.CalledNames.{none_here, one_here}
use Rattle.icn_link.proofs.invocables.names_all.Goals as goal

pub returns-then-is_all : goal.returns-then-is_all
returns-then-is_all c =
    one_here (bytes_eq (codes "all")) (λ (decl : Bor UnitDecl). decl_seen decl.now) invocable_in c.args.decls.now c.loop-decl.decl-index
    c.decl-item.result c.is_all.result c.loop-decl-test.true c.decl-item.is c.is_all.ensures c.if-is_all.true
    ∙ c.loop-decl.invariant

pub loop-decl-preserved : goal.loop-decl-preserved
loop-decl-preserved c =
    none_here (bytes_eq (codes "all")) (λ (decl : Bor UnitDecl). decl_seen decl.now) invocable_in c.args.decls.now c.loop-decl.decl-index
    c.decl-item.result c.is_all.result c.loop-decl-test.true c.decl-item.is c.is_all.ensures c.if-is_all.false
    ∙ c.loop-decl.invariant
