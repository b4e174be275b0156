use Rattle.std.proofs.Common.{rules, arith, ℕ, suc, List, [], ◌∷◌, ◌++◌, true, false, is_some, is_none, length, None, ap, sym, ◌∙◌, ◌≡◌}
use Rattle.std.specs.Map.{lookup}
use Rattle.icn_structs.specs.PairLists.{value_of, with_value_of}
use Rattle.icn_structs.specs.Turns.{in_order}
use Rattle.icn_structs.specs.TurnedPairs.{ArePaired}
use Rattle.icn_structs.proofs.ChangedPairs.{comes_in_order, stored_last}
use Rattle.icn_structs.proofs.PairedSteps.{inserted, keys_differ, last_gone, longer, looked, none_is, some_is, stored_again}
use Rattle.icn_structs.proofs.pairs.Pairs.store.Goals as goal

pub returns-in_err-insert-clause-keys_differ : goal.returns-in_err-insert-clause-keys_differ
returns-in_err-insert-clause-keys_differ g c =
    let paired : ArePaired g.K.PartialEq.eq c.insert.new.self.entries c.self.inside.turns = search rules in
    keys_differ g.K.PartialEq.eq g.met.K.Eq.laws c.insert.new.self.entries c.self.inside.turns paired

pub returns-then-is_some-clause-new_key : goal.returns-then-is_some-clause-new_key
returns-then-is_some-clause-new_key g c =
    let held = some_is (lookup (g.K.PartialEq.eq c.args.k) c.self.inside.entries.entries) (ap is_some (sym c.in_ok-insert.ensures.old) ∙ sym c.is_some.ensures
    ∙ c.if-is_some.true) in
    sym (ap is_none held.1) ∙ ap is_none (looked g.K.PartialEq.eq g.met.K.Eq.laws c.self.inside.entries.entries c.self.inside.turns c.self.invariant c.args.k)
    ∙ ap (λ pairs. is_none (value_of g.K.PartialEq.eq pairs c.args.k)) c.self.view_is

pub returns-then-is_some-clause-pairs : goal.returns-then-is_some-clause-pairs
returns-then-is_some-clause-pairs g c =
    let held = some_is (lookup (g.K.PartialEq.eq c.args.k) c.self.inside.entries.entries) (ap is_some (sym c.in_ok-insert.ensures.old) ∙ sym c.is_some.ensures
    ∙ c.if-is_some.true) in
    ap (λ pairs. in_order pairs c.self.inside.turns)
    (c.in_ok-insert.ensures.entries ∙ inserted g.K.PartialEq.eq c.self.inside.entries.entries c.args.k c.args.v)
    ∙ stored_again g.K.PartialEq.eq g.met.K.Eq.laws c.self.inside.entries.entries c.self.inside.turns c.self.invariant c.args.k c.args.v held.0 held.1
    ∙ ap (λ pairs. with_value_of g.K.PartialEq.eq pairs c.args.k c.args.v) c.self.view_is

pub returns-then-is_some-clause-keys_differ : goal.returns-then-is_some-clause-keys_differ
returns-then-is_some-clause-keys_differ g c =
    let paired : ArePaired g.K.PartialEq.eq c.insert.new.self.entries c.self.inside.turns = search rules in
    keys_differ g.K.PartialEq.eq g.met.K.Eq.laws c.insert.new.self.entries c.self.inside.turns paired

pub returns-in-Ok-clause-new_key : goal.returns-in-Ok-clause-new_key
returns-in-Ok-clause-new_key g c =
    let none : lookup (g.K.PartialEq.eq c.args.k) c.self.inside.entries.entries ≡ None =
    none_is (lookup (g.K.PartialEq.eq c.args.k) c.self.inside.entries.entries)
    (ap is_some (sym c.in_ok-insert.ensures.old) ∙ sym c.is_some.ensures ∙ c.if-is_some.false) in
    sym (ap is_none none) ∙ ap is_none (looked g.K.PartialEq.eq g.met.K.Eq.laws c.self.inside.entries.entries c.self.inside.turns c.self.invariant c.args.k)
    ∙ ap (λ pairs. is_none (value_of g.K.PartialEq.eq pairs c.args.k)) c.self.view_is

pub returns-in-Ok-clause-pairs : goal.returns-in-Ok-clause-pairs
returns-in-Ok-clause-pairs g c =
    let none : lookup (g.K.PartialEq.eq c.args.k) c.self.inside.entries.entries ≡ None =
    none_is (lookup (g.K.PartialEq.eq c.args.k) c.self.inside.entries.entries)
    (ap is_some (sym c.in_ok-insert.ensures.old) ∙ sym c.is_some.ensures ∙ c.if-is_some.false) in
    let entries : c.insert.new.self.entries ≡ c.self.inside.entries.entries ++ (c.args.k, c.args.v) ∷ [] =
    c.in_ok-insert.ensures.entries ∙ inserted g.K.PartialEq.eq c.self.inside.entries.entries c.args.k c.args.v
    ∙ stored_last g.K.PartialEq.eq c.args.k c.args.v c.self.inside.entries.entries none in
    ap (λ pairs. in_order pairs c.add.new.self) entries
    ∙ ap (λ (numbers : List ℕ). in_order (c.self.inside.entries.entries ++ (c.args.k, c.args.v) ∷ []) numbers) c.in-Ok.ensures.added
    ∙ comes_in_order g.K.PartialEq.eq c.args.k c.args.v c.self.inside.entries.entries c.self.inside.turns c.self.invariant.turns none
    ∙ ap (λ pairs. with_value_of g.K.PartialEq.eq pairs c.args.k c.args.v) c.self.view_is

pub returns-in-Ok-clause-keys_differ : goal.returns-in-Ok-clause-keys_differ
returns-in-Ok-clause-keys_differ g c =
    let none : lookup (g.K.PartialEq.eq c.args.k) c.self.inside.entries.entries ≡ None =
    none_is (lookup (g.K.PartialEq.eq c.args.k) c.self.inside.entries.entries)
    (ap is_some (sym c.in_ok-insert.ensures.old) ∙ sym c.is_some.ensures ∙ c.if-is_some.false) in
    let entries : c.insert.new.self.entries ≡ c.self.inside.entries.entries ++ (c.args.k, c.args.v) ∷ [] =
    c.in_ok-insert.ensures.entries ∙ inserted g.K.PartialEq.eq c.self.inside.entries.entries c.args.k c.args.v
    ∙ stored_last g.K.PartialEq.eq c.args.k c.args.v c.self.inside.entries.entries none in
    let more : length c.insert.new.self.entries ≡ suc (length c.self.inside.entries.entries) = ap length entries
    ∙ longer c.self.inside.entries.entries (c.args.k, c.args.v) in
    let turns : length c.add.new.self ≡ suc (length c.self.inside.turns) = ap length c.in-Ok.ensures.added
    ∙ longer c.self.inside.turns (length c.self.inside.turns) in
    let paired : ArePaired g.K.PartialEq.eq c.insert.new.self.entries c.add.new.self = record {
      turns = record {
        count = more ∙ ap suc c.self.invariant.turns.count ∙ sym turns;
        numbering = c.add.ensures.numbering;
      };
      differ = c.insert.ensures.unique;
    } in
    keys_differ g.K.PartialEq.eq g.met.K.Eq.laws c.insert.new.self.entries c.add.new.self paired

pub returns-in-Err-clause-keys_differ : goal.returns-in-Err-clause-keys_differ
returns-in-Err-clause-keys_differ g c =
    let paired : ArePaired g.K.PartialEq.eq c.pop.new.self.entries c.add.new.self = search rules in
    keys_differ g.K.PartialEq.eq g.met.K.Eq.laws c.pop.new.self.entries c.add.new.self paired

pub returns-in-Err-clause-unchanged : goal.returns-in-Err-clause-unchanged
returns-in-Err-clause-unchanged g c =
    let none : lookup (g.K.PartialEq.eq c.args.k) c.self.inside.entries.entries ≡ None =
    none_is (lookup (g.K.PartialEq.eq c.args.k) c.self.inside.entries.entries)
    (ap is_some (sym c.in_ok-insert.ensures.old) ∙ sym c.is_some.ensures ∙ c.if-is_some.false) in
    let entries : c.insert.new.self.entries ≡ c.self.inside.entries.entries ++ (c.args.k, c.args.v) ∷ [] =
    c.in_ok-insert.ensures.entries ∙ inserted g.K.PartialEq.eq c.self.inside.entries.entries c.args.k c.args.v
    ∙ stored_last g.K.PartialEq.eq c.args.k c.args.v c.self.inside.entries.entries none in
    let more : length c.insert.new.self.entries ≡ suc (length c.self.inside.entries.entries) = ap length entries
    ∙ longer c.self.inside.entries.entries (c.args.k, c.args.v) in
    let some : is_some c.pop.result ≡ true = c.pop.ensures.found.1 (omega (arith, more)) in
    let back : c.pop.new.self.entries ≡ c.self.inside.entries.entries =
    last_gone c.self.inside.entries.entries c.pop.new.self.entries (c.args.k, c.args.v) c.pop.result some (sym entries ∙ c.pop.ensures.entries) in
    ap (λ pairs. in_order pairs c.add.new.self) back ∙ ap (λ (numbers : List ℕ). in_order c.self.inside.entries.entries numbers) c.in-Err.ensures.unchanged
    ∙ c.self.view_is
