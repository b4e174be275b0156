use Rattle.std.proofs.Common.{arith}
use Rattle.std.specs.List.{flat_map}
use Rattle.icn_code.specs.CodeTables.{tables_of}
use Rattle.icn_prune.specs.KeptCode.{globals_in}
use Rattle.icn_prune.specs.PlaceViews.{procs_seen}
use Rattle.icn_prune.proofs.LeastSets.{each_of}
use Rattle.icn_prune.proofs.SurvivingTables.{gathered_there, staying_so, staying_there}
use Rattle.icn_prune.proofs.TableRules.{few_entries}
use Rattle.icn_prune.proofs.surviving.globals_left.Goals as goal

pub of_mentions-requires-clause-few : goal.of_mentions-requires-clause-few
of_mentions-requires-clause-few c =
    let few = (few_entries (tables_of c.args.code.now) c.args.code.now.rules).globals in
    let count = c.len.ensures in
    let same = c.args.code.now.globals.ok.0 in
    omega (arith, few, count, same)

pub of_mentions-requires-clause-there : goal.of_mentions-requires-clause-there
of_mentions-requires-clause-there c =
    let count = c.len.ensures in
    let same = c.args.code.now.globals.ok.0 in
    gathered_there _ c.len.result c.deref.result.now c.in_ok-places.places.items c.deref.ensures.value (omega (arith, count, same))
    (each_of _ c.in_ok-places.places.items
    (staying_there (tables_of c.args.code.now) c.args.keep.now c.in_ok-mentioned.mentioned.left.items c.in_ok-places.places.items c.in_ok-places.ensures))

pub returns : goal.returns
returns c =
    staying_so (tables_of c.args.code.now) c.args.keep.now (flat_map globals_in (procs_seen c.args.procs.now)) c.in_ok-mentioned.mentioned.left.items
    c.in_ok-places.places.items c.deref.result.now c.of_mentions.result c.in_ok-mentioned.ensures c.in_ok-places.ensures c.deref.ensures.value
    c.of_mentions.ensures
