use Rattle.std.proofs.Common.{sym, ◌∙◌, arith}
use Rattle.icn_prune.proofs.StandingPlaces.{entered, with_there}
use Rattle.icn_prune.proofs.places.Places.enter.Goals as goal

pub returns-then-stays-clause-left : goal.returns-then-stays-clause-left
returns-then-stays-clause-left c = sym (with_there c.args.self.now.left.items c.args.place (sym c.stays.ensures ∙ c.if-stays.true))

pub invariant_of-self-2 : goal.invariant_of-self-2
invariant_of-self-2 c =
    let count = c.len-new.ensures in
    let same = c.args.self.now.left.ok.0 in
    record {
      places = entered c.args.self.now.left.items c.args.self.now.new_places.items c.args.self.now.places c.args.place c.push.new.self.items
          c.len-new.result c.requires.there (sym c.stays.ensures ∙ c.if-stays.false) c.in_ok-push.ensures.items (omega (arith, count, same));
    }
