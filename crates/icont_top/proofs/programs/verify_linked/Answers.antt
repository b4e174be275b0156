use Rattle.icn_code.specs.CodeTables.{tables_of}
use Rattle.icont_top.proofs.UnitPrograms.{code_breaks}
use Rattle.icont_top.proofs.programs.verify_linked.Goals as goal

pub returns-in-Some-clause-refused : goal.returns-in-Some-clause-refused
returns-in-Some-clause-refused c =
    code_breaks c.args.members.now.units.items c.deref.result.now c.args.members.now.first_ucode (tables_of c.args.code) c.in-Some.place c.in-Err-V.field-0
    c.in-Err-V.rule _ _ _ c.bad_code.result c.in-Err-V.rule-is c.deref.ensures.value c.in-Some.is c.in-Err-V.field-0-is
    c.in-Err-V.ensures.refused c.bad_code.ensures
