use Rattle.std.proofs.Common.{arith}
use Rattle.icn_prune.proofs.StandingPlaces.{told_behind, told_new}
use Rattle.icn_prune.proofs.places.Places.new_place.Goals as goal

pub returns-in-Some : goal.returns-in-Some
returns-in-Some c =
    told_new c.args.self.now.left.items c.args.self.now.new_places.items c.args.self.now.places c.args.place c.place_kept.result c.place_kept.ensures
    c.in-Some.new c.in-Some.is

pub returns-in-None : goal.returns-in-None
returns-in-None c =
    let count = c.len.ensures in
    let same = c.args.self.now.left.ok.0 in
    let behind = told_behind c.args.self.now.left.items c.args.self.now.new_places.items c.args.self.now.places c.args.place c.place_kept.result
    c.place_kept.ensures c.in-None.is in
    omega (arith, count, same, behind)
