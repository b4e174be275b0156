use Rattle.icn_prune.proofs.StandingPlaces.{found_at, past_all}
use Rattle.icn_prune.proofs.places.Places.place_kept.Goals as goal

pub returns-in-Some : goal.returns-in-Some
returns-in-Some c =
    found_at c.args.self.now.new_places.items c.deref.result.now c.args.place c.in-Some.new.now c.deref.ensures.value c.in-Some.ensures.lookup.3.0
    c.in-Some.ensures.lookup.1

pub returns-in-None : goal.returns-in-None
returns-in-None c = past_all c.args.self.now.new_places.items c.deref.result.now c.args.place c.deref.ensures.value c.in-None.ensures.lookup.3
