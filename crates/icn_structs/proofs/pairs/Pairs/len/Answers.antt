use Rattle.std.proofs.Common.{arith, length, subst, sym, ap, ◌∙◌, ◌≡◌}
use Rattle.icn_structs.specs.PairLists.{KeysDiffer}
use Rattle.icn_structs.proofs.PairedSteps.{as_many, keys_differ}
use Rattle.icn_structs.proofs.pairs.Pairs.len.Goals as goal

pub returns-clause-count : goal.returns-clause-count
returns-clause-count g c =
    c.len.ensures.count
    ∙ sym (as_many g.K.PartialEq.eq g.met.K.Eq.laws c.self.inside.entries.entries c.self.inside.turns c.self.invariant) ∙ ap length c.self.view_is

pub returns-clause-small : goal.returns-clause-small
returns-clause-small g c =
    let all : length c.self.inside.turns ≡ length c.args.self.now =
    sym (as_many g.K.PartialEq.eq g.met.K.Eq.laws c.self.inside.entries.entries c.self.inside.turns c.self.invariant) ∙ ap length c.self.view_is in
    omega (arith, all, c.len.ensures.small)

pub returns-clause-keys_differ : goal.returns-clause-keys_differ
returns-clause-keys_differ g c =
    subst (KeysDiffer g.K.PartialEq.eq) c.self.view_is
    (keys_differ g.K.PartialEq.eq g.met.K.Eq.laws c.self.inside.entries.entries c.self.inside.turns c.self.invariant)
