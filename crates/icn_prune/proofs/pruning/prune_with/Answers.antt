use Rattle.std.proofs.Common.{ap, ◌∙◌}
use Rattle.icn_code.specs.Codes.{Tables, procs_of, records_of}
use Rattle.icn_code.specs.CodeTables.{tables_of}
use Rattle.icn_code.specs.Rules.{keeps_rules}
use Rattle.std.specs.Prelude.{map}
use Rattle.icn_prune.specs.PlaceViews.{procs_seen, survivors_seen}
use Rattle.icn_prune.specs.PrunedCode.{proc_left}
use Rattle.icn_prune.proofs.SurvivingTables.{csets_there_left, fields_there_left, globals_there_left, integers_there_left, left_is}
use Rattle.icn_prune.proofs.pruning.prune_with.Goals as goal

pub csets_left-requires : goal.csets_left-requires
csets_left-requires c = record {
  there = csets_there_left (tables_of c.args.code.now) c.args.keep.now c.args.code.now.rules c.requires.kept (survivors_seen c.args.left.now) c.requires.left;
}

pub integers_left-requires : goal.integers_left-requires
integers_left-requires c = record {
  there = integers_there_left (tables_of c.args.code.now) c.args.keep.now c.args.code.now.rules c.requires.kept
      (survivors_seen c.args.left.now) c.requires.left;
}

pub fields_left-requires : goal.fields_left-requires
fields_left-requires c = record {
  there = fields_there_left (tables_of c.args.code.now) c.args.keep.now c.args.code.now.rules c.requires.kept (survivors_seen c.args.left.now) c.requires.left;
}

pub globals_left-requires : goal.globals_left-requires
globals_left-requires c = record {
  there = globals_there_left (tables_of c.args.code.now) c.args.keep.now c.args.code.now.rules c.requires.kept (survivors_seen c.args.left.now) c.requires.left;
}

pub kept_procs-requires : goal.kept_procs-requires
kept_procs-requires c = record { as_many = c.requires.kept.as_many }

pub invariant_of-result : goal.invariant_of-result
invariant_of-result c =
    let L : Tables = record {
      strings = c.in_ok-strings.strings.items;
      csets = c.in_ok-csets.csets.items;
      integers = c.in_ok-integers.integers.items;
      fields = c.in_ok-fields.fields.items;
      records = records_of c.in_ok-records.records.items;
      globals = c.in_ok-globals.globals.items;
      procs = procs_of c.in_ok-procs.procs.items;
    } in
    let same = left_is (tables_of c.args.code.now) c.args.keep.now (survivors_seen c.args.left.now) L (record {
      strings = c.in_ok-strings.ensures;
      csets = c.in_ok-csets.ensures;
      integers = c.in_ok-integers.ensures;
      fields = c.in_ok-fields.ensures;
      records = c.in_ok-records.ensures;
      globals = c.in_ok-globals.ensures;
      procs = c.in_ok-procs.ensures ∙ ap (λ entries. map (proc_left (survivors_seen c.args.left.now)) (procs_seen entries)) c.deref.ensures.value
          ∙ ap (map (proc_left (survivors_seen c.args.left.now))) c.in_ok-entries.ensures;
    }) c.requires.left in
    record {
      rules = ap keeps_rules same ∙ c.pruned_code_fits.ensures (tables_of c.args.code.now) c.args.keep.now c.args.code.now.rules c.requires.kept;
    }

pub returns : goal.returns
returns c =
    let L : Tables = record {
      strings = c.in_ok-strings.strings.items;
      csets = c.in_ok-csets.csets.items;
      integers = c.in_ok-integers.integers.items;
      fields = c.in_ok-fields.fields.items;
      records = records_of c.in_ok-records.records.items;
      globals = c.in_ok-globals.globals.items;
      procs = procs_of c.in_ok-procs.procs.items;
    } in
    left_is (tables_of c.args.code.now) c.args.keep.now (survivors_seen c.args.left.now) L (record {
      strings = c.in_ok-strings.ensures;
      csets = c.in_ok-csets.ensures;
      integers = c.in_ok-integers.ensures;
      fields = c.in_ok-fields.ensures;
      records = c.in_ok-records.ensures;
      globals = c.in_ok-globals.ensures;
      procs = c.in_ok-procs.ensures ∙ ap (λ entries. map (proc_left (survivors_seen c.args.left.now)) (procs_seen entries)) c.deref.ensures.value
          ∙ ap (map (proc_left (survivors_seen c.args.left.now))) c.in_ok-entries.ensures;
    }) c.requires.left
