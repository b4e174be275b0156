use Rattle.std.proofs.Common.{ℕ, Option, Some, List, map, length, ap, subst, sym, ◌∙◌}
use Rattle.icn_structs.specs.Turns.{IsNumbering}
use Rattle.icn_structs.proofs.StandingNumbers.{present_closed, standing_numbers}
use Rattle.icn_structs.proofs.turns.Turns.close.Goals as goal

pub renumber-requires-clause-closed : goal.renumber-requires-clause-closed
renumber-requires-clause-closed c =
    c.close.ensures.closed ∙ ap (λ (items : List ℕ). map {A = ℕ} {B = Option ℕ} (λ x. Some x) items)
    (sym (present_closed c.self.inside.order c.close.new.self c.close.ensures.closed))

pub renumber-requires-clause-numbering : goal.renumber-requires-clause-numbering
renumber-requires-clause-numbering c =
    subst IsNumbering (sym (present_closed c.self.inside.order c.close.new.self c.close.ensures.closed))
    (standing_numbers c.self.inside.places.items c.self.inside.order c.self.invariant)

pub renumber-requires-clause-count : goal.renumber-requires-clause-count
renumber-requires-clause-count c =
    ap length (present_closed c.self.inside.order c.close.new.self c.close.ensures.closed) ∙ c.self.invariant.count

pub returns : goal.returns
returns c = record {
  same = present_closed c.self.inside.order c.close.new.self c.close.ensures.closed ∙ c.self.view_is;
}
