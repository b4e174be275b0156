use Rattle.std.proofs.Common.{◌∙◌, sym}
use Rattle.icn_code.specs.CodeTables.{tables_of}
use Rattle.icn_run.specs.Step.{all_names}
use Rattle.icn_running.proofs.NamedOrNot.{unnamed_shown}
use Rattle.icn_running.proofs.shown.push_procedure.Goals as goal

pub returns-else-has_name : goal.returns-else-has_name
returns-else-has_name c =
    rw (unnamed_shown (all_names (tables_of c.args.code.now)) c.args.number (sym c.has_name.ensures ∙ c.if-has_name.false)) c.push.ensures
