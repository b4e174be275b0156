use Rattle.std.proofs.Common.{sym, ap, ◌∙◌}
use Rattle.icn_code.specs.declared.code.Code.{Code}
use Rattle.icn_code.specs.CodeTables.{tables_of}
use Rattle.icn_verify.specs.FirstStatics.{first_statics}
use Rattle.icn_machine.proofs.StaticsKept.{first_statics_kept}
use Rattle.icn_machine.proofs.at_once.step_at_once.Goals as goal

pub all_at_once-requires-clause-firsts : goal.all_at_once-requires-clause-firsts
all_at_once-requires-clause-firsts g c =
    first_statics_kept (tables_of c.code-code.result.now) c.first_statics-firsts.result.now
    (c.first_statics-firsts.ensures ∙ ap (λ (code : Code). first_statics (tables_of code)) (sym c.code-code.ensures.code))
