use Rattle.std.proofs.Common.{◌<◌, ◌^◌, length, ap, arith}
use Rattle.icn_code.specs.CodeTables.{tables_of}
use Rattle.icn_prune.proofs.SurvivingTables.{global_next}
use Rattle.icn_prune.proofs.TableRules.{few_entries}
use Rattle.icn_prune.proofs.surviving.staying_globals.Goals as goal

pub overflow_cast-place : goal.overflow_cast-place
overflow_cast-place c =
    let few : length c.args.code.now.globals.items < 2 ^ 32 = (few_entries (tables_of c.args.code.now) c.args.code.now.rules).globals in
    let many = ap length c.deref-global-items.ensures.value in
    omega (arith, few, many, c.loop-place-test.true)

pub loop-place-preserved : goal.loop-place-preserved
loop-place-preserved c =
    global_next c.args.keep.now c.args.mentioned.now.left.items c.args.code.now.globals.items c.deref-global-items.result.now c.loop-place.place
    _ c.stays.result c.start_stays-stays.result _ _ _ c.loop-place-test.true c.deref-global-items.ensures.value c.stays.ensures
    c.start_stays-stays.ensures c.in_ok-push_if.ensures c.loop-place.invariant
