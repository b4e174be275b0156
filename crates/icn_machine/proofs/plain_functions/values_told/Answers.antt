use Rattle.std.proofs.Common.{◌≡◌, ◌≤◌, ◌+◌, ◌-◌, arith}
use Rattle.icn_machine.proofs.PlainFunctionSteps.{all_before, fewer_operands, none_before, one_more}
use Rattle.icn_machine.proofs.plain_functions.values_told.Goals as goal

pub loop-left-init : goal.loop-left-init
loop-left-init g c = record {
  few = omega arith;
  before = none_before c.args.world.now.globals.items c.args.frames.now.flat c.args.count _ c.clear.ensures.items;
}

pub value_told-requires : goal.value_told-requires
value_told-requires g c =
    let few : c.loop-left.left - 1 + 1 ≤ c.args.count + 1 = omega (arith, c.loop-left-test.true, c.loop-left.invariant.few) in
    fewer_operands (c.loop-left.left - 1 + 1) (c.args.count + 1) _ few c.requires

pub loop-left-preserved : goal.loop-left-preserved
loop-left-preserved g c =
    let few : c.loop-left.left - 1 ≤ c.args.count = omega (arith, c.loop-left.invariant.few) in
    record {
      few = few;
      before = one_more c.args.world.now.globals.items c.args.frames.now.flat c.args.count c.loop-left.left c.loop-left.vals.items _ c.in-Some.val
          c.loop-left-test.true c.loop-left.invariant.few c.loop-left.invariant.before c.in-Some.ensures c.in-Ok.ensures.items;
    }

pub returns : goal.returns
returns g c q =
    let none : c.loop-left.left ≡ 0 = omega (arith, c.loop-left-test.false) in
    all_before c.args.world.now.globals.items c.args.frames.now.flat c.args.count c.loop-left.left c.loop-left.vals.items none c.loop-left.invariant.before
