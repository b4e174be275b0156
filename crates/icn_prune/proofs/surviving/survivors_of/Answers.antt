use Rattle.icn_code.specs.CodeTables.{tables_of}
use Rattle.icn_prune.specs.PlaceViews.{procs_seen}
use Rattle.icn_prune.specs.PrunedCode.{Survivors}
use Rattle.icn_prune.proofs.PrunedRules.{procs_few}
use Rattle.icn_prune.proofs.SurvivingTables.{found_are, found_fields_there, found_globals_there, kept_are_ruled}
use Rattle.icn_prune.proofs.TableRules.{each_rule}
use Rattle.icn_prune.proofs.surviving.survivors_of.Goals as goal

pub globals_left-requires : goal.globals_left-requires
globals_left-requires c =
    record { ruled = kept_are_ruled (tables_of c.args.code.now) c.args.keep.now (procs_seen c.args.procs.now) c.args.code.now.rules c.requires.procs }

pub fields_left-requires : goal.fields_left-requires
fields_left-requires c =
    record { ruled = kept_are_ruled (tables_of c.args.code.now) c.args.keep.now (procs_seen c.args.procs.now) c.args.code.now.rules c.requires.procs }

pub strings_left-requires-clause-ruled : goal.strings_left-requires-clause-ruled
strings_left-requires-clause-ruled c =
    kept_are_ruled (tables_of c.args.code.now) c.args.keep.now (procs_seen c.args.procs.now) c.args.code.now.rules c.requires.procs

pub strings_left-requires-clause-fields : goal.strings_left-requires-clause-fields
strings_left-requires-clause-fields c =
    found_fields_there (tables_of c.args.code.now) c.args.keep.now c.args.code.now.rules c.requires.kept (procs_seen c.args.procs.now) c.requires.procs
    c.in_ok-fields.fields.left.items c.in_ok-fields.ensures

pub strings_left-requires-clause-globals : goal.strings_left-requires-clause-globals
strings_left-requires-clause-globals c =
    found_globals_there (tables_of c.args.code.now) c.args.keep.now c.args.code.now.rules c.requires.kept (procs_seen c.args.procs.now) c.requires.procs
    c.in_ok-globals.globals.left.items c.in_ok-globals.ensures

pub csets_left-requires : goal.csets_left-requires
csets_left-requires c =
    record { ruled = kept_are_ruled (tables_of c.args.code.now) c.args.keep.now (procs_seen c.args.procs.now) c.args.code.now.rules c.requires.procs }

pub integers_left-requires : goal.integers_left-requires
integers_left-requires c =
    record { ruled = kept_are_ruled (tables_of c.args.code.now) c.args.keep.now (procs_seen c.args.procs.now) c.args.code.now.rules c.requires.procs }

pub procs_left-requires : goal.procs_left-requires
procs_left-requires c = record {
  few = procs_few (tables_of c.args.code.now) c.args.keep.now (each_rule (tables_of c.args.code.now) c.args.code.now.rules) c.requires.kept;
}

pub returns : goal.returns
returns c =
    let S : Survivors = record {
      strings = c.in_ok-strings.strings.left.items;
      csets = c.in_ok-csets.csets.left.items;
      integers = c.in_ok-integers.integers.left.items;
      fields = c.in_ok-fields.fields.left.items;
      globals = c.in_ok-globals.globals.left.items;
      procs = c.in_ok-procs.procs.left.items;
    } in
    found_are (tables_of c.args.code.now) c.args.keep.now (procs_seen c.args.procs.now) S (record {
      kept = c.requires.procs;
      strings = c.in_ok-strings.ensures;
      csets = c.in_ok-csets.ensures;
      integers = c.in_ok-integers.ensures;
      fields = c.in_ok-fields.ensures;
      globals = c.in_ok-globals.ensures;
      procs = c.in_ok-procs.ensures;
    })
