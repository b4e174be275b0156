use Rattle.std.proofs.Common.{arith, ap, map, sym, subst, length, ◌++◌, ◌<◌, ◌∙◌}
use Rattle.std.specs.Prelude.{slice_index_or}
use Rattle.std.specs.List.{All}
use Rattle.icn_code.specs.Codes.{Proc, RecordType}
use Rattle.icn_code.specs.CodeTables.{tables_of}
use Rattle.icn_prune.specs.PrunedCode.{global_at, string_in, taken_by}
use Rattle.icn_prune.specs.PlaceViews.{procs_seen}
use Rattle.icn_prune.proofs.SurvivingTables.{five_parts, gathered_left, gathered_there, string_mentions_below}
use Rattle.icn_prune.proofs.TableRules.{few_entries}
use Rattle.icn_prune.proofs.surviving.strings_left.Goals as goal

pub push_field_names-requires : goal.push_field_names-requires
push_field_names-requires c = record {
  fields = subst (All (λ place. place < length (tables_of c.args.code.now).fields)) (sym c.deref.ensures.value) c.requires.fields;
}

pub push_global_names-requires : goal.push_global_names-requires
push_global_names-requires c = record {
  globals = subst (All (λ place. place < length (tables_of c.args.code.now).globals)) (sym c.deref-2.ensures.value) c.requires.globals;
}

pub of_mentions-requires-clause-few : goal.of_mentions-requires-clause-few
of_mentions-requires-clause-few c =
    let few = (few_entries (tables_of c.args.code.now) c.args.code.now.rules).strings in
    let count = c.len.ensures in
    let same = c.args.code.now.strings.ok.0 in
    omega (arith, few, count, same)

pub of_mentions-requires-clause-there : goal.of_mentions-requires-clause-there
of_mentions-requires-clause-there c =
    let count = c.len.ensures in
    let same = c.args.code.now.strings.ok.0 in
    gathered_there _ c.len.result c.deref-3.result.now
    (map (λ place. slice_index_or (tables_of c.args.code.now).fields place 0) c.args.fields.now.left.items
    ++ (map (λ (kind : RecordType). kind.name) (tables_of c.args.code.now).records
    ++ (map (λ place. (global_at (tables_of c.args.code.now) place).name) c.args.globals.now.left.items
    ++ (map (λ (entry : Proc). entry.name) (procs_seen c.args.procs.now) ++ taken_by string_in (procs_seen c.args.procs.now)))))
    (five_parts _ _ _ _ _ _ _ _ _ _ _ _ c.deref-3.ensures.value c.in_ok-push_taken.ensures c.in_ok-push_proc_names.ensures
    (c.in_ok-push_global_names.ensures ∙ ap (λ places. c.push_record_names.new.places.items ++ map
    (λ place. (global_at (tables_of c.args.code.now) place).name) places) c.deref-2.ensures.value)
    c.in_ok-push_record_names.ensures
    (c.in_ok-push_field_names.ensures ∙ ap (λ places. c.new-places.result.items ++ map
    (λ place. slice_index_or (tables_of c.args.code.now).fields place 0) places) c.deref.ensures.value)
    c.new-places.ensures.items)
    (omega (arith, count, same))
    (string_mentions_below (tables_of c.args.code.now)
    (procs_seen c.args.procs.now) c.args.fields.now.left.items c.args.globals.now.left.items c.args.code.now.rules
    c.requires.ruled c.requires.fields c.requires.globals)

pub returns : goal.returns
returns c =
    gathered_left c.of_mentions.result c.deref-3.result.now
    (map (λ place. slice_index_or (tables_of c.args.code.now).fields place 0) c.args.fields.now.left.items
    ++ (map (λ (kind : RecordType). kind.name) (tables_of c.args.code.now).records
    ++ (map (λ place. (global_at (tables_of c.args.code.now) place).name) c.args.globals.now.left.items
    ++ (map (λ (entry : Proc). entry.name) (procs_seen c.args.procs.now) ++ taken_by string_in (procs_seen c.args.procs.now)))))
    (five_parts _ _ _ _ _ _ _ _ _ _ _ _ c.deref-3.ensures.value c.in_ok-push_taken.ensures c.in_ok-push_proc_names.ensures
    (c.in_ok-push_global_names.ensures ∙ ap (λ places. c.push_record_names.new.places.items ++ map
    (λ place. (global_at (tables_of c.args.code.now) place).name) places) c.deref-2.ensures.value)
    c.in_ok-push_record_names.ensures
    (c.in_ok-push_field_names.ensures ∙ ap (λ places. c.new-places.result.items ++ map
    (λ place. slice_index_or (tables_of c.args.code.now).fields place 0) places) c.deref.ensures.value)
    c.new-places.ensures.items)
    c.of_mentions.ensures
