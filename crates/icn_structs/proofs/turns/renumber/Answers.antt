use Rattle.std.proofs.Common.{subst, sym, ◌∙◌}
use Rattle.icn_structs.specs.GapLists.{present}
use Rattle.icn_structs.specs.Turns.{IsStanding}
use Rattle.icn_structs.proofs.StandingNumbers.{noted}
use Rattle.icn_structs.proofs.turns.renumber.Goals as goal

pub returns : goal.returns
returns c = record {
  standing = subst (IsStanding c.loop-number.places.items) (sym c.requires.closed)
      (noted c.loop-number.places.items (present c.args.order.now) c.loop-number.place c.requires.numbering
      (c.requires.count ∙ sym c.loop-number.invariant.same_length) (sym c.at.ensures.item ∙ c.in_default.is) c.loop-number.invariant.done);
}
