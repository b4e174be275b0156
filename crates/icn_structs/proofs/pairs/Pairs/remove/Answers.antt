use Rattle.std.proofs.Common.{arith, ℕ, List, is_some, length, swap_remove, position, IfSome, Some, None, ap, subst, sym, ◌∙◌, ◌≡◌, ◌<◌, ◌-◌}
use Rattle.std.proofs.lemmas.Option.{slice_get_within}
use Rattle.std.specs.Map.{keys_of, lookup}
use Rattle.icn_structs.specs.PairLists.{KeysDiffer, value_of, without}
use Rattle.icn_structs.specs.Turns.{in_order, without_number}
use Rattle.icn_structs.specs.TurnedPairs.{ArePaired}
use Rattle.icn_structs.proofs.PairedSteps.{looked, gone, not_there, one_less, keys_differ, position_at, moved_length, none_is}
use Rattle.icn_structs.proofs.pairs.Pairs.remove.Goals as goal

pub invariant_of-self : goal.invariant_of-self
invariant_of-self g c =
    let place : position (g.K.PartialEq.eq c.args.k.now) (keys_of c.self.inside.entries.entries) ≡ Some c.in-Some.number = sym c.get_index_of.ensures.index
    ∙ c.in-Some.is in
    let at = position_at (g.K.PartialEq.eq c.args.k.now) c.self.inside.entries.entries c.in-Some.number place in
    let entries : c.swap_remove_index.new.self.entries ≡ swap_remove c.self.inside.entries.entries c.in-Some.number at.pair =
    subst (λ r. IfSome r (λ p. c.swap_remove_index.new.self.entries ≡ swap_remove c.self.inside.entries.entries c.in-Some.number p))
    (c.swap_remove_index.ensures.entry ∙ at.held) c.swap_remove_index.ensures.entries in
    let less : c.in-Some.number < length c.self.inside.entries.entries = slice_get_within c.self.inside.entries.entries c.in-Some.number at.pair at.held in
    let shorter : length c.swap_remove_index.new.self.entries ≡ length c.self.inside.entries.entries - 1 =
    ap length entries ∙ moved_length c.self.inside.entries.entries c.in-Some.number at.pair in
    let turns : length c.remove.new.self ≡ length (without_number c.in-Some.number c.self.inside.turns) = ap length c.remove.ensures.rest in
    record {
      turns = record {
        count = omega (
          arith,
          shorter,
          turns,
          one_less g.K.PartialEq.eq g.met.K.Eq.laws c.self.inside.entries.entries c.self.inside.turns c.self.invariant c.in-Some.number less,
          c.self.invariant.turns.count,
          less,
        );
        numbering = c.remove.ensures.numbering;
      };
      differ = c.swap_remove_index.ensures.unique;
    }

pub returns-in-Some-clause-found : goal.returns-in-Some-clause-found
returns-in-Some-clause-found g c =
    sym (ap is_some c.in-Some.is) ∙ c.get_index_of.ensures.found
    ∙ ap is_some (looked g.K.PartialEq.eq g.met.K.Eq.laws c.self.inside.entries.entries c.self.inside.turns c.self.invariant c.args.k.now)
    ∙ ap (λ pairs. is_some (value_of g.K.PartialEq.eq pairs c.args.k.now)) c.self.view_is

pub returns-in-Some-clause-pairs : goal.returns-in-Some-clause-pairs
returns-in-Some-clause-pairs g c =
    let place : position (g.K.PartialEq.eq c.args.k.now) (keys_of c.self.inside.entries.entries) ≡ Some c.in-Some.number = sym c.get_index_of.ensures.index
    ∙ c.in-Some.is in
    let at = position_at (g.K.PartialEq.eq c.args.k.now) c.self.inside.entries.entries c.in-Some.number place in
    let entries : c.swap_remove_index.new.self.entries ≡ swap_remove c.self.inside.entries.entries c.in-Some.number at.pair =
    subst (λ r. IfSome r (λ p. c.swap_remove_index.new.self.entries ≡ swap_remove c.self.inside.entries.entries c.in-Some.number p))
    (c.swap_remove_index.ensures.entry ∙ at.held) c.swap_remove_index.ensures.entries in
    ap (λ pairs. in_order pairs c.remove.new.self) entries
    ∙ ap (λ (numbers : List ℕ). in_order (swap_remove c.self.inside.entries.entries c.in-Some.number at.pair) numbers) c.remove.ensures.rest
    ∙ gone g.K.PartialEq.eq g.met.K.Eq.laws c.self.inside.entries.entries c.self.inside.turns c.self.invariant c.args.k.now c.in-Some.number at.pair place
    ∙ ap (λ pairs. without g.K.PartialEq.eq pairs c.args.k.now) c.self.view_is

pub returns-in-Some-clause-keys_differ : goal.returns-in-Some-clause-keys_differ
returns-in-Some-clause-keys_differ g c =
    let place : position (g.K.PartialEq.eq c.args.k.now) (keys_of c.self.inside.entries.entries) ≡ Some c.in-Some.number = sym c.get_index_of.ensures.index
    ∙ c.in-Some.is in
    let at = position_at (g.K.PartialEq.eq c.args.k.now) c.self.inside.entries.entries c.in-Some.number place in
    let entries : c.swap_remove_index.new.self.entries ≡ swap_remove c.self.inside.entries.entries c.in-Some.number at.pair =
    subst (λ r. IfSome r (λ p. c.swap_remove_index.new.self.entries ≡ swap_remove c.self.inside.entries.entries c.in-Some.number p))
    (c.swap_remove_index.ensures.entry ∙ at.held) c.swap_remove_index.ensures.entries in
    let paired : ArePaired g.K.PartialEq.eq c.swap_remove_index.new.self.entries c.remove.new.self = invariant_of-self g c in
    keys_differ g.K.PartialEq.eq g.met.K.Eq.laws c.swap_remove_index.new.self.entries c.remove.new.self paired

pub returns-in-None-clause-found : goal.returns-in-None-clause-found
returns-in-None-clause-found g c =
    sym (ap is_some c.in-None.is) ∙ c.get_index_of.ensures.found
    ∙ ap is_some (looked g.K.PartialEq.eq g.met.K.Eq.laws c.self.inside.entries.entries c.self.inside.turns c.self.invariant c.args.k.now)
    ∙ ap (λ pairs. is_some (value_of g.K.PartialEq.eq pairs c.args.k.now)) c.self.view_is

pub returns-in-None-clause-pairs : goal.returns-in-None-clause-pairs
returns-in-None-clause-pairs g c =
    let none : lookup (g.K.PartialEq.eq c.args.k.now) c.self.inside.entries.entries ≡ None =
    none_is (lookup (g.K.PartialEq.eq c.args.k.now) c.self.inside.entries.entries) (sym c.get_index_of.ensures.found ∙ ap is_some c.in-None.is) in
    sym c.self.view_is ∙ not_there g.K.PartialEq.eq g.met.K.Eq.laws c.self.inside.entries.entries c.self.inside.turns c.self.invariant c.args.k.now none
    ∙ ap (λ pairs. without g.K.PartialEq.eq pairs c.args.k.now) c.self.view_is

pub returns-in-None-clause-keys_differ : goal.returns-in-None-clause-keys_differ
returns-in-None-clause-keys_differ g c = subst (KeysDiffer g.K.PartialEq.eq) c.self.view_is
    (keys_differ g.K.PartialEq.eq g.met.K.Eq.laws c.self.inside.entries.entries c.self.inside.turns c.self.invariant)
