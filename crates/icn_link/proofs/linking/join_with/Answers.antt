use Rattle.std.proofs.Common.{inr}
use Rattle.icn_code.specs.CodeTables.{tables_of}
use Rattle.icn_link.specs.LinkFaults.{IsFault, too_large_of}
use Rattle.icn_link.specs.Views.{decls_seen, gathered_seen, procs_seen}
use Rattle.icn_link.proofs.RuleByRule.{if_err_known}
use Rattle.icn_link.proofs.LinkRules.{are_joinable, image_exit, kinds_exit, locals_exit, records_exit, sizes_kept, statics_exit, tables_exit, together_exit}
use Rattle.icn_link.proofs.linking.join_with.Goals as goal

pub returns-in_err-check_tables-clause-fault : goal.returns-in_err-check_tables-clause-fault
returns-in_err-check_tables-clause-fault c =
    if_err_known c.from_residual.result
    (IsFault (too_large_of (decls_seen c.args.decls.now) (procs_seen c.args.procs.now))) c.in_err-check_tables.field-0.0 c.from_residual.ensures.1
    (tables_exit (gathered_seen c.args.tables.now) (decls_seen c.args.decls.now) (procs_seen c.args.procs.now) c.requires.tables c.in_err-check_tables.field-0.0
    c.requires.instrs (inr c.in_err-check_tables.ensures.fault))

pub returns-in_err-check_all_statics-clause-fault : goal.returns-in_err-check_all_statics-clause-fault
returns-in_err-check_all_statics-clause-fault c =
    if_err_known c.from_residual-in_err-check_all_statics.result (IsFault (too_large_of (decls_seen c.args.decls.now) (procs_seen c.args.procs.now)))
    c.in_err-check_all_statics.field-0.0 c.from_residual-in_err-check_all_statics.ensures.1
    (together_exit (gathered_seen c.args.tables.now) (decls_seen c.args.decls.now)
    (procs_seen c.args.procs.now) c.requires.tables c.in_err-check_all_statics.field-0.0
    c.requires.instrs c.in_ok-check_tables.ensures.none (inr c.in_err-check_all_statics.ensures.fault))

pub returns-in_err-check_kinds-clause-fault : goal.returns-in_err-check_kinds-clause-fault
returns-in_err-check_kinds-clause-fault c =
    if_err_known c.from_residual-in_err-check_kinds.result (IsFault (too_large_of (decls_seen c.args.decls.now) (procs_seen c.args.procs.now)))
    c.in_err-check_kinds.field-0.0 c.from_residual-in_err-check_kinds.ensures.1
    (kinds_exit (gathered_seen c.args.tables.now) (decls_seen c.args.decls.now)
    (procs_seen c.args.procs.now) c.requires.tables c.in_err-check_kinds.field-0.0
    c.requires.instrs c.in_ok-check_tables.ensures.none c.in_ok-check_all_statics.ensures.none (inr c.in_err-check_kinds.ensures.fault))

pub returns-in_err-check_records-clause-fault : goal.returns-in_err-check_records-clause-fault
returns-in_err-check_records-clause-fault c =
    if_err_known c.from_residual-in_err-check_records.result (IsFault (too_large_of (decls_seen c.args.decls.now) (procs_seen c.args.procs.now)))
    c.in_err-check_records.field-0.0 c.from_residual-in_err-check_records.ensures.1
    (records_exit (gathered_seen c.args.tables.now) (decls_seen c.args.decls.now)
    (procs_seen c.args.procs.now) c.requires.tables c.in_err-check_records.field-0.0
    c.requires.instrs c.in_ok-check_tables.ensures.none c.in_ok-check_all_statics.ensures.none
    c.in_ok-check_kinds.ensures.none (inr c.in_err-check_records.ensures.fault))

pub returns-in_err-check_locals-clause-fault : goal.returns-in_err-check_locals-clause-fault
returns-in_err-check_locals-clause-fault c =
    if_err_known c.from_residual-in_err-check_locals.result (IsFault (too_large_of (decls_seen c.args.decls.now) (procs_seen c.args.procs.now)))
    c.in_err-check_locals.field-0.0 c.from_residual-in_err-check_locals.ensures.1
    (locals_exit (gathered_seen c.args.tables.now) (decls_seen c.args.decls.now) (procs_seen c.args.procs.now) c.requires.tables c.in_err-check_locals.field-0.0
    c.requires.instrs c.in_ok-check_tables.ensures.none c.in_ok-check_all_statics.ensures.none
    c.in_ok-check_kinds.ensures.none c.in_ok-check_records.ensures.none
    (inr c.in_err-check_locals.ensures.fault))

pub returns-in_err-check_statics-clause-fault : goal.returns-in_err-check_statics-clause-fault
returns-in_err-check_statics-clause-fault c =
    if_err_known c.from_residual-in_err-check_statics.result (IsFault (too_large_of (decls_seen c.args.decls.now) (procs_seen c.args.procs.now)))
    c.in_err-check_statics.field-0.0 c.from_residual-in_err-check_statics.ensures.1
    (statics_exit (gathered_seen c.args.tables.now) (decls_seen c.args.decls.now)
    (procs_seen c.args.procs.now) c.requires.tables c.in_err-check_statics.field-0.0
    c.requires.instrs c.in_ok-check_tables.ensures.none c.in_ok-check_all_statics.ensures.none
    c.in_ok-check_kinds.ensures.none c.in_ok-check_records.ensures.none c.in_ok-check_locals.ensures.none
    (inr c.in_err-check_statics.ensures.fault))

pub code_of-requires-clause-joinable : goal.code_of-requires-clause-joinable
code_of-requires-clause-joinable c =
    are_joinable (gathered_seen c.args.tables.now) (decls_seen c.args.decls.now)
    (procs_seen c.args.procs.now) c.requires.tables c.requires.decls c.requires.procs
    c.requires.instrs c.in_ok-check_tables.ensures.none c.in_ok-check_all_statics.ensures.none
    c.in_ok-check_kinds.ensures.none c.in_ok-check_records.ensures.none c.in_ok-check_locals.ensures.none
    c.in_ok-check_statics.ensures.none

pub returns-in_err-check_image-clause-fault : goal.returns-in_err-check_image-clause-fault
returns-in_err-check_image-clause-fault c =
    if_err_known c.from_residual-in_err-check_image.result (IsFault (too_large_of (decls_seen c.args.decls.now) (procs_seen c.args.procs.now)))
    c.in_err-check_image.field-0.0 c.from_residual-in_err-check_image.ensures.1
    (image_exit (gathered_seen c.args.tables.now) (decls_seen c.args.decls.now) (procs_seen c.args.procs.now) c.requires.tables
    (tables_of c.in_ok-code.code) c.in_err-check_image.field-0.0 c.in_ok-code.ensures
    c.requires.instrs c.in_ok-check_tables.ensures.none c.in_ok-check_all_statics.ensures.none
    c.in_ok-check_kinds.ensures.none c.in_ok-check_records.ensures.none c.in_ok-check_locals.ensures.none
    c.in_ok-check_statics.ensures.none (inr c.in_err-check_image.ensures.fault))

pub returns-clause-fits : goal.returns-clause-fits
returns-clause-fits c =
    sizes_kept (gathered_seen c.args.tables.now) (decls_seen c.args.decls.now) (procs_seen c.args.procs.now) c.requires.tables
    (tables_of c.in_ok-code.code) c.in_ok-code.ensures
    c.requires.instrs c.in_ok-check_tables.ensures.none c.in_ok-check_all_statics.ensures.none
    c.in_ok-check_kinds.ensures.none c.in_ok-check_records.ensures.none c.in_ok-check_locals.ensures.none
    c.in_ok-check_statics.ensures.none c.in_ok-check_image.ensures.none
