use Rattle.std.proofs.Common.{arith}
use Rattle.icn_code.specs.CodeTables.{tables_of}
use Rattle.icn_prune.specs.KeptCode.{global_in}
use Rattle.icn_prune.specs.PrunedCode.{taken_by}
use Rattle.icn_prune.specs.PlaceViews.{procs_seen}
use Rattle.icn_prune.proofs.KeptEntries.{globals_there}
use Rattle.icn_prune.proofs.SurvivingTables.{gathered_left, gathered_there, one_part}
use Rattle.icn_prune.proofs.TableRules.{few_entries}
use Rattle.icn_prune.proofs.surviving.mentioned_globals.Goals as goal

pub of_mentions-requires-clause-few : goal.of_mentions-requires-clause-few
of_mentions-requires-clause-few c =
    let few = (few_entries (tables_of c.args.code.now) c.args.code.now.rules).globals in
    let count = c.len.ensures in
    let same = c.args.code.now.globals.ok.0 in
    omega (arith, few, count, same)

pub of_mentions-requires-clause-there : goal.of_mentions-requires-clause-there
of_mentions-requires-clause-there c =
    let count = c.len.ensures in
    let same = c.args.code.now.globals.ok.0 in
    gathered_there _ c.len.result c.deref.result.now (taken_by global_in (procs_seen c.args.procs.now))
    (one_part _ _ _ _ c.deref.ensures.value c.in_ok-push_taken.ensures c.new-places.ensures.items) (omega (arith, count, same))
    (globals_there (tables_of c.args.code.now) (procs_seen c.args.procs.now) c.requires.ruled)

pub returns : goal.returns
returns c =
    gathered_left c.of_mentions.result c.deref.result.now (taken_by global_in (procs_seen c.args.procs.now))
    (one_part _ _ _ _ c.deref.ensures.value c.in_ok-push_taken.ensures c.new-places.ensures.items) c.of_mentions.ensures
