use Rattle.std.proofs.Common.{drop, subst, arith}
use Rattle.std.specs.Prelude.{nat_eq}
use Rattle.std.specs.List.{starts_with}
use Rattle.icn_tree.specs.declared.rule.Rule.TheVariants.{G1}
use Rattle.icn_save.specs.Slices.{fields_in}
use Rattle.icn_save.specs.Spelling.{save_head}
use Rattle.icn_save.proofs.SpelledFields.{IsBytes, IsBytes-drop, passed_parts}
use Rattle.icn_save.proofs.WholeSave.{fields_take, fit_tested}
use Rattle.icn_save.proofs.reading.read_save.Goals as goal

pub judged-requires : goal.judged-requires
judged-requires c =
    let bytes = c.args.bytes.now in
    let rest = c.in_ok-rest.rest.now in
    let fields = fields_in c.in_ok-fields.fields in
    let begun = passed_parts (starts_with nat_eq bytes save_head) G1 (drop 8 bytes) rest c.in_ok-rest.ensures in
    let fits : IsBytes rest = subst IsBytes begun.1 (IsBytes-drop 8 bytes (λ i. omega (arith, c.type_inv.bytes i))) in
    fit_tested fields (fields_take rest (fields, c.in_ok-fields.rest.now) fits c.in_ok-fields.ensures).1
