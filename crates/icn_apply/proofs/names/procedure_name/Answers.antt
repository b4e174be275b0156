use Rattle.std.proofs.Common.{◌∙◌, ap, sym, Some}
use Rattle.icn_code.specs.Codes.{proc_of}
use Rattle.icn_code.specs.CodeTables.{tables_of}
use Rattle.icn_apply.specs.CodeNaming.{procedure_named}
use Rattle.icn_apply.proofs.NameLists.{seen_twice}
use Rattle.icn_apply.proofs.names.procedure_name.Goals as goal

pub returns : goal.returns
returns c =
    seen_twice proc_of (procedure_named (tables_of c.args.code.now)) c.args.code.now.procs.items c.args.place c.index.result.now c.requires c.index.ensures
    ∙ ap Some (sym c.text.ensures)
