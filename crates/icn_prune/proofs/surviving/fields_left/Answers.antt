use Rattle.std.proofs.Common.{arith, ◌++◌}
use Rattle.std.specs.List.{flat_map}
use Rattle.icn_code.specs.Codes.{RecordType}
use Rattle.icn_code.specs.CodeTables.{tables_of}
use Rattle.icn_prune.specs.PrunedCode.{field_in, taken_by}
use Rattle.icn_prune.specs.PlaceViews.{procs_seen}
use Rattle.icn_prune.proofs.SurvivingTables.{field_mentions_below, gathered_left, gathered_there, two_parts}
use Rattle.icn_prune.proofs.TableRules.{few_entries}
use Rattle.icn_prune.proofs.surviving.fields_left.Goals as goal

pub of_mentions-requires-clause-few : goal.of_mentions-requires-clause-few
of_mentions-requires-clause-few c =
    let few = (few_entries (tables_of c.args.code.now) c.args.code.now.rules).fields in
    let count = c.len.ensures in
    let same = c.args.code.now.fields.ok.0 in
    omega (arith, few, count, same)

pub of_mentions-requires-clause-there : goal.of_mentions-requires-clause-there
of_mentions-requires-clause-there c =
    let count = c.len.ensures in
    let same = c.args.code.now.fields.ok.0 in
    gathered_there _ c.len.result c.deref.result.now
    (flat_map (λ (kind : RecordType). kind.fields) (tables_of c.args.code.now).records ++ taken_by field_in (procs_seen c.args.procs.now))
    (two_parts _ _ _ _ _ _ c.deref.ensures.value c.in_ok-push_taken.ensures c.in_ok-push_record_fields.ensures c.new-places.ensures.items)
    (omega (arith, count, same)) (field_mentions_below (tables_of c.args.code.now) (procs_seen c.args.procs.now) c.args.code.now.rules c.requires.ruled)

pub returns : goal.returns
returns c =
    gathered_left c.of_mentions.result c.deref.result.now
    (flat_map (λ (kind : RecordType). kind.fields) (tables_of c.args.code.now).records ++ taken_by field_in (procs_seen c.args.procs.now))
    (two_parts _ _ _ _ _ _ c.deref.ensures.value c.in_ok-push_taken.ensures c.in_ok-push_record_fields.ensures c.new-places.ensures.items)
    c.of_mentions.ensures
