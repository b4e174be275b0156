use Rattle.std.proofs.Common.{◌∙◌, sym, arith}
use Rattle.icn_value.specs.Members.{members_of}
use Rattle.icn_scanfn.proofs.PlaceByPlace.{balanced_here, balanced_later, balanced_over}
use Rattle.icn_scanfn.proofs.searching.next_balanced.Goals as goal

pub returns-then-is_balanced_member-clause-value : goal.returns-then-is_balanced_member-clause-value
returns-then-is_balanced_member-clause-value c =
    sym (c.loop-at.invariant.goes_on ∙ balanced_here (members_of c.args.wanted.now) (members_of c.args.opening.now)
    (members_of c.args.closing.now) c.args.text.now c.loop-at.at c.args.last c.loop-at.depth c.loop-at.invariant.low (omega arith) c.requires.high
    (sym c.is_balanced_member.ensures ∙ c.if-is_balanced_member.true))

pub returns-in-None-clause-value : goal.returns-in-None-clause-value
returns-in-None-clause-value c =
    sym (c.loop-at.invariant.goes_on ∙ balanced_over (members_of c.args.wanted.now) (members_of c.args.opening.now)
    (members_of c.args.closing.now) c.args.text.now c.loop-at.at c.args.last c.loop-at.depth c.loop-at.invariant.low (omega arith) c.requires.high
    (sym c.is_balanced_member.ensures ∙ c.if-is_balanced_member.false) (sym c.in-None.ensures.value))

pub loop-at-preserved : goal.loop-at-preserved
loop-at-preserved c = record {
  low = omega arith;
  few = omega (arith, c.in-Some.ensures.small, c.loop-at.invariant.few);
  goes_on = c.loop-at.invariant.goes_on ∙ balanced_later (members_of c.args.wanted.now) (members_of c.args.opening.now)
      (members_of c.args.closing.now) c.args.text.now c.loop-at.at c.args.last c.loop-at.depth c.loop-at.invariant.low (omega arith) c.requires.high
      (sym c.is_balanced_member.ensures ∙ c.if-is_balanced_member.false) c.in-Some.behind (sym c.in-Some.ensures.value);
}
