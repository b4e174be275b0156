use Rattle.std.proofs.Common.{◌∙◌, ◌-◌, sym, arith, get_or}
use Rattle.icn_value.specs.Members.{contains, members_of}
use Rattle.icn_defs.specs.Scanning.{byte_behind}
use Rattle.icn_scanfn.proofs.PlaceByPlace.{is_member, found_here, found_later}
use Rattle.icn_scanfn.proofs.searching.next_member.Goals as goal

pub returns-then-has-clause-value : goal.returns-then-has-clause-value
returns-then-has-clause-value c =
    sym (c.loop-at.invariant.goes_on
    ∙ found_here (λ place. contains (members_of c.args.wanted.now) (byte_behind c.args.text.now place)) c.loop-at.at c.args.last (omega arith)
    (is_member c.args.wanted.now (get_or c.args.text.now (c.loop-at.at - 1) 0) (omega (arith, c.type_inv.text (c.loop-at.at - 1)))
    ∙ (sym c.has.ensures ∙ c.if-has.true)))

pub loop-at-preserved : goal.loop-at-preserved
loop-at-preserved c = record {
  low = omega arith;
  goes_on = c.loop-at.invariant.goes_on
      ∙ found_later (λ place. contains (members_of c.args.wanted.now) (byte_behind c.args.text.now place)) c.loop-at.at c.args.last (omega arith)
      (is_member c.args.wanted.now (get_or c.args.text.now (c.loop-at.at - 1) 0) (omega (arith, c.type_inv.text (c.loop-at.at - 1)))
      ∙ (sym c.has.ensures ∙ c.if-has.false));
}
