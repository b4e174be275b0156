use Rattle.std.proofs.Common.{refl}
use Rattle.icn_prune.proofs.SurvivingTables.{kept_so, kept_there}
use Rattle.icn_prune.proofs.surviving.procs_left.Goals as goal

pub of_mentions-requires-clause-there : goal.of_mentions-requires-clause-there
of_mentions-requires-clause-there c =
    kept_there c.args.keep.now c.in_ok-numbers.numbers.items c.deref.result.now _ c.in_ok-numbers.ensures c.deref.ensures.value refl

pub returns : goal.returns
returns c =
    kept_so c.args.keep.now c.in_ok-numbers.numbers.items c.deref.result.now c.of_mentions.result c.in_ok-numbers.ensures c.deref.ensures.value
    c.of_mentions.ensures
