use Rattle.std.proofs.Common.{List, map, ap, ◌∙◌}
use Rattle.icn_code.specs.Codes.{Tables, procs_of, records_of}
use Rattle.icn_unit.specs.PlainUnits.{PlainDecl, PlainProc}
use Rattle.icn_link.specs.FirstMentions.{text_index}
use Rattle.icn_link.specs.Joined.{cset_of}
use Rattle.icn_link.specs.Mentions.{AllMentions}
use Rattle.icn_link.specs.Views.{AreFew, decls_seen, gathered_seen, procs_seen, texts_seen}
use Rattle.icn_link.proofs.JoinedTables.{Parts, are_few, few_instrs, few_locals, few_procs, few_records, few_statics, tables_kept, tables_made}
use Rattle.icn_link.proofs.linking.code_of.Goals as goal

pub text_indices-requires : goal.text_indices-requires
text_indices-requires c =
    let few : AreFew (gathered_seen c.args.tables.now) = are_few (gathered_seen c.args.tables.now) (decls_seen c.args.decls.now)
    (procs_seen c.args.procs.now) c.requires.tables c.requires.joinable in
    record { few = few.strings }

pub records-requires : goal.records-requires
records-requires c =
    record { few = are_few (gathered_seen c.args.tables.now) (decls_seen c.args.decls.now) (procs_seen c.args.procs.now) c.requires.tables c.requires.joinable }

pub globals-requires-clause-few : goal.globals-requires-clause-few
globals-requires-clause-few c =
    are_few (gathered_seen c.args.tables.now) (decls_seen c.args.decls.now) (procs_seen c.args.procs.now) c.requires.tables c.requires.joinable

pub globals-requires-clause-records : goal.globals-requires-clause-records
globals-requires-clause-records c = few_records (decls_seen c.args.decls.now) (procs_seen c.args.procs.now) c.requires.joinable

pub globals-requires-clause-procs : goal.globals-requires-clause-procs
globals-requires-clause-procs c = few_procs (decls_seen c.args.decls.now) (procs_seen c.args.procs.now) c.requires.joinable

pub entries-requires-clause-few : goal.entries-requires-clause-few
entries-requires-clause-few c =
    are_few (gathered_seen c.args.tables.now) (decls_seen c.args.decls.now) (procs_seen c.args.procs.now) c.requires.tables c.requires.joinable

pub entries-requires-clause-sizes : goal.entries-requires-clause-sizes
entries-requires-clause-sizes c = few_instrs (decls_seen c.args.decls.now) (procs_seen c.args.procs.now) c.requires.joinable

pub entries-requires-clause-locals : goal.entries-requires-clause-locals
entries-requires-clause-locals c =
    few_locals (gathered_seen c.args.tables.now) (decls_seen c.args.decls.now) (procs_seen c.args.procs.now) c.requires.tables c.requires.joinable

pub entries-requires-clause-statics : goal.entries-requires-clause-statics
entries-requires-clause-statics c =
    few_statics (gathered_seen c.args.tables.now) (decls_seen c.args.decls.now) (procs_seen c.args.procs.now) c.requires.tables c.requires.joinable

pub invariant_of-result : goal.invariant_of-result
invariant_of-result c =
    let M : AllMentions = gathered_seen c.args.tables.now in
    let D : List PlainDecl = decls_seen c.args.decls.now in
    let P : List PlainProc = procs_seen c.args.procs.now in
    let T : Tables = record {
      strings = c.in_ok-strings.strings.items;
      csets = c.in_ok-csets.csets.items;
      integers = c.in_ok-integers.integers.items;
      fields = c.in_ok-fields.fields.items;
      records = records_of c.in_ok-records.records.items;
      globals = c.in_ok-globals.globals.items;
      procs = procs_of c.in_ok-procs.procs.items;
    } in
    let parts : Parts M D P T = record {
      strings = c.in_ok-strings.ensures ∙ ap texts_seen c.as_slice.ensures.keys;
      csets = c.in_ok-csets.ensures ∙ ap (λ sets. map cset_of (texts_seen sets)) c.as_slice-2.ensures.keys;
      integers = c.in_ok-integers.ensures.items ∙ c.as_slice-3.ensures.keys;
      fields = c.in_ok-fields.ensures ∙ ap (λ names. map (text_index M.strings) (texts_seen names)) c.as_slice-4.ensures.keys;
      records = c.in_ok-records.ensures;
      globals = c.in_ok-globals.ensures;
      entries = c.in_ok-procs.ensures;
    } in
    record { rules = tables_kept M D P T c.requires.tables c.requires.joinable parts }

pub returns : goal.returns
returns c =
    let M : AllMentions = gathered_seen c.args.tables.now in
    let D : List PlainDecl = decls_seen c.args.decls.now in
    let P : List PlainProc = procs_seen c.args.procs.now in
    let T : Tables = record {
      strings = c.in_ok-strings.strings.items;
      csets = c.in_ok-csets.csets.items;
      integers = c.in_ok-integers.integers.items;
      fields = c.in_ok-fields.fields.items;
      records = records_of c.in_ok-records.records.items;
      globals = c.in_ok-globals.globals.items;
      procs = procs_of c.in_ok-procs.procs.items;
    } in
    let parts : Parts M D P T = record {
      strings = c.in_ok-strings.ensures ∙ ap texts_seen c.as_slice.ensures.keys;
      csets = c.in_ok-csets.ensures ∙ ap (λ sets. map cset_of (texts_seen sets)) c.as_slice-2.ensures.keys;
      integers = c.in_ok-integers.ensures.items ∙ c.as_slice-3.ensures.keys;
      fields = c.in_ok-fields.ensures ∙ ap (λ names. map (text_index M.strings) (texts_seen names)) c.as_slice-4.ensures.keys;
      records = c.in_ok-records.ensures;
      globals = c.in_ok-globals.ensures;
      entries = c.in_ok-procs.ensures;
    } in
    tables_made M D P T c.requires.tables parts
