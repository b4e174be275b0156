use Rattle.std.proofs.Common.{◌≡◌, ◌∙◌, ap, length, sym, Some, arith, to_z, w64}
use Rattle.icn_code.specs.Codes.{record_of}
use Rattle.icn_code.specs.CodeTables.{tables_of}
use Rattle.icn_apply.specs.CodeNaming.{record_arguments}
use Rattle.icn_apply.proofs.NameLists.{seen_once, seen_twice}
use Rattle.icn_apply.proofs.RuleCounts.{counted, few_fields}
use Rattle.icn_apply.proofs.names.record_arguments.Goals as goal

pub returns : goal.returns
returns c =
    let code = c.args.code.now in
    let entry = c.index.result.now in
    let few = few_fields (tables_of code) c.args.place (record_of entry) code.rules
    (seen_once record_of code.records.items c.args.place entry c.requires c.index.ensures) in
    let same : c.len.result ≡ length entry.fields.items = let ok = entry.fields.ok in let len = c.len.ensures in omega arith in
    seen_twice record_of record_arguments code.records.items c.args.place entry c.requires c.index.ensures
    ∙ ap Some (sym (ap (to_z w64) same ∙ counted (length entry.fields.items) few))
