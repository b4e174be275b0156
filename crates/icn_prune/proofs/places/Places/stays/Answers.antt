use Rattle.icn_prune.proofs.StandingPlaces.{told_goes, told_stays}
use Rattle.icn_prune.proofs.places.Places.stays.Goals as goal

pub returns-in-Some : goal.returns-in-Some
returns-in-Some c =
    told_stays c.args.self.now.left.items c.args.self.now.new_places.items c.args.self.now.places c.args.place c.place_kept.result c.place_kept.ensures
    c.in-Some.field-0 c.in-Some.is

pub returns-in-None : goal.returns-in-None
returns-in-None c =
    told_goes c.args.self.now.left.items c.args.self.now.new_places.items c.args.self.now.places c.args.place c.place_kept.result c.place_kept.ensures
    c.in-None.is
