use Rattle.std.proofs.Common.{◌≤◌, sym, subst}
use Rattle.std.specs.List.{sum_by}
use Rattle.icn_code.specs.Codes.{procs_of}
use Rattle.icn_code.specs.CodeTables.{tables_of}
use Rattle.icn_verify.specs.Refusals.{AreBounded}
use Rattle.icn_verify.proofs.StaticsLoop.{statics_in}
use Rattle.icn_verify.proofs.TableRules.{statics_kept, tables_are_bounded}
use Rattle.icn_verify.proofs.check.verify.Goals as goal

pub check_procs-requires : goal.check_procs-requires
check_procs-requires c = subst (λ procs. AreBounded (procs_of procs)) (sym c.deref.ensures.value) (tables_are_bounded (tables_of c.args.code) c.args.code.rules)

pub first_statics-requires : goal.first_statics-requires
first_statics-requires c = record {
  few = subst (λ procs. sum_by statics_in (procs_of procs) ≤ 4294967295) (sym c.deref-2.ensures.value) (statics_kept (tables_of c.args.code) c.args.code.rules);
}
