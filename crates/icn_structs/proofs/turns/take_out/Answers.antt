use Rattle.std.proofs.Common.{arith, ℕ, subst, sym, ap, List, Option, Some, None, length, slice_get, slice_set, slice_index_or, ◌∙◌, ◌≡◌, ◌<◌, ◌≤◌, ◌+◌, ◌-◌}
use Rattle.icn_structs.specs.GapLists.{present}
use Rattle.icn_structs.specs.Turns.{IsStanding}
use Rattle.icn_structs.proofs.GapSums.{any_default}
use Rattle.icn_structs.proofs.MovedNumbers.{at_place, rest_moved, rest_short, stands_moved, stands_short, still_from}
use Rattle.icn_structs.proofs.turns.take_out.Goals as goal

pub clear-requires : goal.clear-requires
clear-requires c =
    let first : c.swap_remove-place.result ≡ slice_index_or c.args.places.now.items c.args.number 0 =
    c.swap_remove-place.ensures.value ∙ any_default c.args.places.now.items c.args.number c.swap_remove-place.result 0 c.requires.there in
    record {
      filled = (
        c.args.number,
        ap (slice_get c.args.order.now) first ∙ at_place c.args.places.now.items c.args.order.now c.requires.standing c.args.number c.requires.there,
      );
    }

pub set-requires : goal.set-requires
set-requires c =
    let first : c.swap_remove-place.result ≡ slice_index_or c.args.places.now.items c.args.number 0 =
    c.swap_remove-place.ensures.value ∙ any_default c.args.places.now.items c.args.number c.swap_remove-place.result 0 c.requires.there in
    let shorter : length c.swap_remove-place.new.self.items + 1 ≡ length c.args.places.now.items =
    omega (arith, c.swap_remove-place.ensures.len, c.swap_remove-place.new.self.ok.0, c.args.places.now.ok.0) in
    let same : (n : ℕ) → (n ≡ c.args.number → ⊥) → n < length c.swap_remove-place.new.self.items
    → slice_index_or c.swap_remove-place.new.self.items n 0 ≡ slice_index_or c.args.places.now.items n 0 =
    λ n apart small. c.swap_remove-place.ensures.by_index.1 n 0 apart (omega (arith, small, shorter, c.args.places.now.ok.0)) in
    let gap : c.clear.new.self ≡ slice_set c.args.order.now (slice_index_or c.args.places.now.items c.args.number 0) None =
    c.clear.ensures.gap ∙ ap (λ at. slice_set c.args.order.now at None) first in
    let fewer : c.args.number
    < length c.swap_remove-place.new.self.items = omega (arith, c.if-number-len.true, c.len.ensures, c.swap_remove-place.new.self.ok.0) in
    let moved : slice_index_or c.swap_remove-place.new.self.items c.args.number 0
    ≡ slice_index_or c.args.places.now.items (length c.swap_remove-place.new.self.items) 0 =
    c.swap_remove-place.ensures.by_index.0 0 (omega (arith, fewer, shorter, c.args.places.now.ok.0))
    ∙ ap (λ n. slice_index_or c.args.places.now.items n 0) (omega (arith, shorter, c.args.places.now.ok.0)) in
    let from : c.index.result.now ≡ slice_index_or c.swap_remove-place.new.self.items c.args.number 0 = c.index.ensures
    ∙ any_default c.swap_remove-place.new.self.items c.args.number c.index.result.now 0 fewer in
    record {
      filled = (
        length c.swap_remove-place.new.self.items,
        ap (λ (items : List (Option ℕ)). slice_get items c.index.result.now) gap
            ∙ ap (slice_get (slice_set c.args.order.now (slice_index_or c.args.places.now.items c.args.number 0) None)) from
            ∙ still_from c.args.places.now.items c.args.order.now c.requires.standing c.args.number c.requires.there c.swap_remove-place.new.self.items shorter
            same fewer moved,
      );
    }

pub returns-then-number-len-clause-standing : goal.returns-then-number-len-clause-standing
returns-then-number-len-clause-standing c =
    let first : c.swap_remove-place.result ≡ slice_index_or c.args.places.now.items c.args.number 0 =
    c.swap_remove-place.ensures.value ∙ any_default c.args.places.now.items c.args.number c.swap_remove-place.result 0 c.requires.there in
    let shorter : length c.swap_remove-place.new.self.items + 1 ≡ length c.args.places.now.items =
    omega (arith, c.swap_remove-place.ensures.len, c.swap_remove-place.new.self.ok.0, c.args.places.now.ok.0) in
    let same : (n : ℕ) → (n ≡ c.args.number → ⊥) → n < length c.swap_remove-place.new.self.items
    → slice_index_or c.swap_remove-place.new.self.items n 0 ≡ slice_index_or c.args.places.now.items n 0 =
    λ n apart small. c.swap_remove-place.ensures.by_index.1 n 0 apart (omega (arith, small, shorter, c.args.places.now.ok.0)) in
    let gap : c.clear.new.self ≡ slice_set c.args.order.now (slice_index_or c.args.places.now.items c.args.number 0) None =
    c.clear.ensures.gap ∙ ap (λ at. slice_set c.args.order.now at None) first in
    let fewer : c.args.number
    < length c.swap_remove-place.new.self.items = omega (arith, c.if-number-len.true, c.len.ensures, c.swap_remove-place.new.self.ok.0) in
    let moved : slice_index_or c.swap_remove-place.new.self.items c.args.number 0
    ≡ slice_index_or c.args.places.now.items (length c.swap_remove-place.new.self.items) 0 =
    c.swap_remove-place.ensures.by_index.0 0 (omega (arith, fewer, shorter, c.args.places.now.ok.0))
    ∙ ap (λ n. slice_index_or c.args.places.now.items n 0) (omega (arith, shorter, c.args.places.now.ok.0)) in
    let from : c.index.result.now ≡ slice_index_or c.swap_remove-place.new.self.items c.args.number 0 = c.index.ensures
    ∙ any_default c.swap_remove-place.new.self.items c.args.number c.index.result.now 0 fewer in
    let set : c.set.new.self ≡ slice_set (slice_set c.args.order.now (slice_index_or c.args.places.now.items c.args.number 0) None)
    (slice_index_or c.swap_remove-place.new.self.items c.args.number 0) (Some c.args.number) =
    c.set.ensures.other ∙ ap (λ (items : List (Option ℕ)). slice_set items c.index.result.now (Some c.args.number)) gap
    ∙ ap (λ at. slice_set (slice_set c.args.order.now (slice_index_or c.args.places.now.items c.args.number 0) None) at (Some c.args.number)) from in
    subst (IsStanding c.swap_remove-place.new.self.items) (sym set) (stands_moved c.args.places.now.items c.args.order.now c.requires.standing c.args.number
    c.requires.there c.swap_remove-place.new.self.items shorter same fewer moved)

pub returns-then-number-len-clause-rest : goal.returns-then-number-len-clause-rest
returns-then-number-len-clause-rest c =
    let first : c.swap_remove-place.result ≡ slice_index_or c.args.places.now.items c.args.number 0 =
    c.swap_remove-place.ensures.value ∙ any_default c.args.places.now.items c.args.number c.swap_remove-place.result 0 c.requires.there in
    let shorter : length c.swap_remove-place.new.self.items + 1 ≡ length c.args.places.now.items =
    omega (arith, c.swap_remove-place.ensures.len, c.swap_remove-place.new.self.ok.0, c.args.places.now.ok.0) in
    let same : (n : ℕ) → (n ≡ c.args.number → ⊥) → n < length c.swap_remove-place.new.self.items
    → slice_index_or c.swap_remove-place.new.self.items n 0 ≡ slice_index_or c.args.places.now.items n 0 =
    λ n apart small. c.swap_remove-place.ensures.by_index.1 n 0 apart (omega (arith, small, shorter, c.args.places.now.ok.0)) in
    let gap : c.clear.new.self ≡ slice_set c.args.order.now (slice_index_or c.args.places.now.items c.args.number 0) None =
    c.clear.ensures.gap ∙ ap (λ at. slice_set c.args.order.now at None) first in
    let fewer : c.args.number
    < length c.swap_remove-place.new.self.items = omega (arith, c.if-number-len.true, c.len.ensures, c.swap_remove-place.new.self.ok.0) in
    let moved : slice_index_or c.swap_remove-place.new.self.items c.args.number 0
    ≡ slice_index_or c.args.places.now.items (length c.swap_remove-place.new.self.items) 0 =
    c.swap_remove-place.ensures.by_index.0 0 (omega (arith, fewer, shorter, c.args.places.now.ok.0))
    ∙ ap (λ n. slice_index_or c.args.places.now.items n 0) (omega (arith, shorter, c.args.places.now.ok.0)) in
    let from : c.index.result.now ≡ slice_index_or c.swap_remove-place.new.self.items c.args.number 0 = c.index.ensures
    ∙ any_default c.swap_remove-place.new.self.items c.args.number c.index.result.now 0 fewer in
    let set : c.set.new.self ≡ slice_set (slice_set c.args.order.now (slice_index_or c.args.places.now.items c.args.number 0) None)
    (slice_index_or c.swap_remove-place.new.self.items c.args.number 0) (Some c.args.number) =
    c.set.ensures.other ∙ ap (λ (items : List (Option ℕ)). slice_set items c.index.result.now (Some c.args.number)) gap
    ∙ ap (λ at. slice_set (slice_set c.args.order.now (slice_index_or c.args.places.now.items c.args.number 0) None) at (Some c.args.number)) from in
    ap (λ (items : List (Option ℕ)). present items) set ∙ rest_moved c.args.places.now.items c.args.order.now c.requires.standing c.args.number c.requires.there
    c.swap_remove-place.new.self.items shorter same fewer moved

pub returns-else-number-len-clause-standing : goal.returns-else-number-len-clause-standing
returns-else-number-len-clause-standing c =
    let first : c.swap_remove-place.result ≡ slice_index_or c.args.places.now.items c.args.number 0 =
    c.swap_remove-place.ensures.value ∙ any_default c.args.places.now.items c.args.number c.swap_remove-place.result 0 c.requires.there in
    let shorter : length c.swap_remove-place.new.self.items + 1 ≡ length c.args.places.now.items =
    omega (arith, c.swap_remove-place.ensures.len, c.swap_remove-place.new.self.ok.0, c.args.places.now.ok.0) in
    let same : (n : ℕ) → (n ≡ c.args.number → ⊥) → n < length c.swap_remove-place.new.self.items
    → slice_index_or c.swap_remove-place.new.self.items n 0 ≡ slice_index_or c.args.places.now.items n 0 =
    λ n apart small. c.swap_remove-place.ensures.by_index.1 n 0 apart (omega (arith, small, shorter, c.args.places.now.ok.0)) in
    let gap : c.clear.new.self ≡ slice_set c.args.order.now (slice_index_or c.args.places.now.items c.args.number 0) None =
    c.clear.ensures.gap ∙ ap (λ at. slice_set c.args.order.now at None) first in
    let most : length c.swap_remove-place.new.self.items
    ≤ c.args.number = omega (arith, c.if-number-len.false, c.len.ensures, c.swap_remove-place.new.self.ok.0) in
    subst (IsStanding c.swap_remove-place.new.self.items) (sym gap) (stands_short c.args.places.now.items c.args.order.now c.requires.standing c.args.number
    c.requires.there c.swap_remove-place.new.self.items shorter same most)

pub returns-else-number-len-clause-rest : goal.returns-else-number-len-clause-rest
returns-else-number-len-clause-rest c =
    let first : c.swap_remove-place.result ≡ slice_index_or c.args.places.now.items c.args.number 0 =
    c.swap_remove-place.ensures.value ∙ any_default c.args.places.now.items c.args.number c.swap_remove-place.result 0 c.requires.there in
    let shorter : length c.swap_remove-place.new.self.items + 1 ≡ length c.args.places.now.items =
    omega (arith, c.swap_remove-place.ensures.len, c.swap_remove-place.new.self.ok.0, c.args.places.now.ok.0) in
    let same : (n : ℕ) → (n ≡ c.args.number → ⊥) → n < length c.swap_remove-place.new.self.items
    → slice_index_or c.swap_remove-place.new.self.items n 0 ≡ slice_index_or c.args.places.now.items n 0 =
    λ n apart small. c.swap_remove-place.ensures.by_index.1 n 0 apart (omega (arith, small, shorter, c.args.places.now.ok.0)) in
    let gap : c.clear.new.self ≡ slice_set c.args.order.now (slice_index_or c.args.places.now.items c.args.number 0) None =
    c.clear.ensures.gap ∙ ap (λ at. slice_set c.args.order.now at None) first in
    let most : length c.swap_remove-place.new.self.items
    ≤ c.args.number = omega (arith, c.if-number-len.false, c.len.ensures, c.swap_remove-place.new.self.ok.0) in
    ap (λ (items : List (Option ℕ)). present items) gap ∙ rest_short c.args.places.now.items c.args.order.now c.requires.standing c.args.number c.requires.there
    c.swap_remove-place.new.self.items shorter same most
