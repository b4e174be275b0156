use Rattle.std.specs.Option.{option_map}
use Rattle.std.specs.Prelude.{map}
use Rattle.icn_unit.specs.UnitViews.{decl_seen}
use Rattle.icn_link.specs.LinkFaults.{IsFault, unknown_fault, unknown_in}
use Rattle.icn_link.specs.Views.{texts_seen}
use Rattle.icn_link.proofs.CalledNames.{decl_fault}
use Rattle.icn_link.proofs.RuleByRule.{if_err_known}
use Rattle.icn_link.proofs.invocables.check_unit.Goals as goal

pub returns-in_err-check_decl-clause-fault : goal.returns-in_err-check_decl-clause-fault
returns-in_err-check_decl-clause-fault c =
    if_err_known c.from_residual.result
    (IsFault (option_map (unknown_fault c.args.index) (unknown_in (texts_seen c.args.owned.now.keys) (map decl_seen c.args.decls.now))))
    c.in_err-check_decl.field-0.0 c.from_residual.ensures.1
    (decl_fault (texts_seen c.args.owned.now.keys) c.args.decls.now c.loop-decl.decl-index c.decl-item.result c.args.index
    c.in_err-check_decl.field-0.0 c.loop-decl-test.true c.decl-item.is c.loop-decl.invariant c.in_err-check_decl.ensures.fault)
