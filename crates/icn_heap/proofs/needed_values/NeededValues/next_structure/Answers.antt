use Rattle.std.proofs.Common.{◌≡◌, refl, List, [], ◌∷◌, length, Option, None, Some, IfNone, MatchOption, arith}
use Rattle.icn_heap.proofs.needed_values.NeededValues.next_structure.Goals as goal

empty_of : {X : Type 0} (xs : List X) → length xs ≡ 0 → xs ≡ []
empty_of [] none = refl
empty_of (x ∷ xs) none = absurd (omega (arith, none))

if_none : {X : Type 0} (P Q : Type 0) (R : X → Type 0) (found : Option X) → (P → Q) → MatchOption found P R → IfNone found Q
if_none P Q R None then is = then is
if_none P Q R (Some x) then is = tt

pub returns : goal.returns
returns c = record {
  ranges = refl;
  structures = c.pop.ensures.items;
  none = if_none _ _ _ c.pop.result (λ both. empty_of c.pop.new.self.items (let all = c.pop.new.self.ok.0 in let none = both.1 in omega (arith, all, none)))
      c.pop.ensures.cases;
}
