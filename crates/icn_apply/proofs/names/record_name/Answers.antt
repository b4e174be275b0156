use Rattle.std.proofs.Common.{◌∙◌, ap, sym, Some}
use Rattle.icn_code.specs.Codes.{record_of}
use Rattle.icn_code.specs.CodeTables.{tables_of}
use Rattle.icn_apply.specs.CodeNaming.{record_named}
use Rattle.icn_apply.proofs.NameLists.{seen_twice}
use Rattle.icn_apply.proofs.names.record_name.Goals as goal

pub returns : goal.returns
returns c =
    seen_twice record_of (record_named (tables_of c.args.code.now)) c.args.code.now.records.items c.args.place c.index.result.now c.requires c.index.ensures
    ∙ ap Some (sym c.text.ensures)
