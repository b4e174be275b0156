use Rattle.std.proofs.Common.{◌∙◌, ◌-◌, sym, arith, get_or}
use Rattle.icn_value.specs.Members.{contains, members_of}
use Rattle.icn_scanfn.proofs.PlaceByPlace.{is_member, runs_on, runs_no_more}
use Rattle.icn_scanfn.proofs.searching.run_length.Goals as goal

pub loop-at-preserved : goal.loop-at-preserved
loop-at-preserved c =
    let on = runs_on (contains (members_of c.args.wanted.now)) c.args.text.now c.loop-at.at c.args.to (omega (arith, c.loop-at.invariant.low)) (omega arith)
    (omega arith)
    (is_member c.args.wanted.now (get_or c.args.text.now (c.loop-at.at - 1) 0) (omega (arith, c.type_inv.text (c.loop-at.at - 1)))
    ∙ (sym c.has.ensures ∙ c.if-has.true)) in
    record {
      low = omega (arith, c.loop-at.invariant.low);
      high = omega arith;
      goes_on = omega (arith, c.loop-at.invariant.goes_on, c.loop-at.invariant.low, on);
    }

pub returns-else-has-clause-value : goal.returns-else-has-clause-value
returns-else-has-clause-value c =
    let over = runs_no_more (contains (members_of c.args.wanted.now)) c.args.text.now c.loop-at.at c.args.to (omega (arith, c.loop-at.invariant.low))
    (omega arith) (omega arith)
    (is_member c.args.wanted.now (get_or c.args.text.now (c.loop-at.at - 1) 0) (omega (arith, c.type_inv.text (c.loop-at.at - 1)))
    ∙ (sym c.has.ensures ∙ c.if-has.false)) in
    omega (arith, c.loop-at.invariant.goes_on, over)
