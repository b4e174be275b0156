use Rattle.std.proofs.Common.{inr, refl}
use Rattle.icn_link.specs.LinkFaults.{IsFault, too_large_of}
use Rattle.icn_link.specs.Views.{decls_seen, procs_seen}
use Rattle.icn_link.proofs.RuleByRule.{if_err_known}
use Rattle.icn_link.specs.Mentions.{all_mentions}
use Rattle.icn_link.proofs.LinkRules.{instrs_exit}
use Rattle.icn_link.proofs.linking.join.Goals as goal

pub returns-in_err-check_instrs-clause-fault : goal.returns-in_err-check_instrs-clause-fault
returns-in_err-check_instrs-clause-fault c =
    if_err_known c.from_residual.result
    (IsFault (too_large_of (decls_seen c.args.decls.now) (procs_seen c.args.procs.now))) c.in_err-check_instrs.field-0.0 c.from_residual.ensures.1
    (instrs_exit (all_mentions (decls_seen c.args.decls.now) (procs_seen c.args.procs.now)) (decls_seen c.args.decls.now)
    (procs_seen c.args.procs.now) refl c.in_err-check_instrs.field-0.0 (inr c.in_err-check_instrs.ensures.fault))
