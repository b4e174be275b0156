use Rattle.std.proofs.Common.{◌≡◌, ◌∙◌, ◌+◌, ◌<◌, ◌++◌, ◌∷◌, [], sym, ap, ℕ, List, true, false, not, is_ok, length, refl, arith}
use Rattle.std.proofs.lemmas.List.{length-map, map_push}
use Rattle.std.proofs.lemmas.Result.{err_from_is_err_and}
use Rattle.std.specs.declared.snapshot.Snapshot.{Snapshot}
use Rattle.std.specs.Prelude.{vec_len}
use Rattle.icn_structs.specs.declared.row.OnShelf.{OnShelf}
use Rattle.icn_structs.specs.PlacedThings.{memories, row_seen}
use Rattle.icn_structs.specs.Shelves.{ShelfView, view_with}
use Rattle.icn_structs.proofs.PlacedSteps.{not_pushed, numbers_full, popped, pushed, row_more, row_same, seen_more, there_few, things_length}
use Rattle.icn_structs.proofs.row.ShelfRow.push.Goals as goal

-- a row of the same places
same_seen : {X : Type 0} (was new : List (Snapshot X)) (numbers others : List ℕ) (there kept : List (OnShelf X)) → new ≡ was → others ≡ numbers
    → kept ≡ there
    → row_seen (memories new) others kept ≡ row_seen (memories was) numbers there
same_seen was new numbers others there kept same_was same_numbers same_there = rw (same_was, same_numbers, same_there) refl

pub overflow_cast-number : goal.overflow_cast-number
overflow_cast-number g c =
    let few = there_few _ _ c.self.inside.places.items c.self.invariant in
    let most = c.self.invariant.few in
    omega (arith, few, most, c.len.ensures, c.self.inside.there.ok)

pub overflow_add-number : goal.overflow_add-number
overflow_add-number g c =
    let few = there_few _ _ c.self.inside.places.items c.self.invariant in
    let most = c.self.invariant.few in
    omega (arith, few, most, c.len.ensures, c.self.inside.there.ok)

pub invariant_of-self : goal.invariant_of-self
invariant_of-self g c =
    let row = c.self.inside in
    row_same row.was.items row.was.items row.there.items row.there.items row.places.items c.push.new.self.items refl refl
    c.in_err-push.ensures.items c.self.invariant

pub returns-in_err-push-clause-added : goal.returns-in_err-push-clause-added
returns-in_err-push-clause-added g c = let p = err_from_is_err_and c.from_residual.result c.from_residual.ensures.1 in rw p.1 tt

pub returns-in_err-push-clause-unchanged : goal.returns-in_err-push-clause-unchanged
returns-in_err-push-clause-unchanged g c =
    let row = c.self.inside in
    let p = err_from_is_err_and c.from_residual.result c.from_residual.ensures.1 in
    rw p.1 (
    same_seen row.was.items row.was.items row.places.items c.push.new.self.items row.there.items row.there.items refl c.in_err-push.ensures.items refl
    ∙ c.self.view_is
    )

pub invariant_of-self-then-is_err : goal.invariant_of-self-then-is_err
invariant_of-self-then-is_err g c =
    let row = c.self.inside in
    let placed : c.push.new.self.items ≡ row.places.items ++ (c.len.result + 1) ∷ [] = c.in_ok-push.ensures.items in
    row_same row.was.items c.push-2.new.self.items row.there.items row.there.items row.places.items c.pop.new.self.items
    (not_pushed (is_ok c.push-2.result) _ _ _ c.push-2.ensures.items (c.is_err.ensures.negation ∙ ap not c.if-is_err.true)) refl
    (popped row.places.items c.push.new.self.items c.pop.new.self.items _ (vec_len c.push.new.self) placed (omega (arith, c.push.new.self.ok))
    c.pop.ensures.rest) c.self.invariant

pub returns-then-is_err-clause-unchanged : goal.returns-then-is_err-clause-unchanged
returns-then-is_err-clause-unchanged g c =
    let row = c.self.inside in
    let placed : c.push.new.self.items ≡ row.places.items ++ (c.len.result + 1) ∷ [] = c.in_ok-push.ensures.items in
    same_seen row.was.items c.push-2.new.self.items row.places.items c.pop.new.self.items row.there.items row.there.items
    (not_pushed (is_ok c.push-2.result) _ _ _ c.push-2.ensures.items (c.is_err.ensures.negation ∙ ap not c.if-is_err.true))
    (popped row.places.items c.push.new.self.items c.pop.new.self.items _ (vec_len c.push.new.self) placed (omega (arith, c.push.new.self.ok))
    c.pop.ensures.rest) refl
    ∙ c.self.view_is

pub invariant_of-self-then-is_err-2 : goal.invariant_of-self-then-is_err-2
invariant_of-self-then-is_err-2 g c =
    let row = c.self.inside in
    let placed : c.push.new.self.items ≡ row.places.items ++ (c.len.result + 1) ∷ [] = c.in_ok-push.ensures.items in
    let kept : c.push-2.new.self.items ≡ row.was.items ++ c.of-memory.result ∷ [] =
    pushed (is_ok c.push-2.result) _ _ _ c.push-2.ensures.items (c.is_err.ensures.negation ∙ ap not c.if-is_err.false) in
    row_same row.was.items c.pop-then-is_err-2-2.new.self.items row.there.items c.push-3.new.self.items row.places.items c.pop-then-is_err-2.new.self.items
    (popped row.was.items c.push-2.new.self.items c.pop-then-is_err-2-2.new.self.items _ (vec_len c.push-2.new.self) kept (omega (arith, c.push-2.new.self.ok))
    c.pop-then-is_err-2-2.ensures.rest)
    (not_pushed (is_ok c.push-3.result) _ _ _ c.push-3.ensures.items (c.is_err-2.ensures.negation ∙ ap not c.if-is_err-2.true))
    (popped row.places.items c.push.new.self.items c.pop-then-is_err-2.new.self.items _ (vec_len c.push.new.self) placed (omega (arith, c.push.new.self.ok))
    c.pop-then-is_err-2.ensures.rest) c.self.invariant

pub returns-then-is_err-2-clause-unchanged : goal.returns-then-is_err-2-clause-unchanged
returns-then-is_err-2-clause-unchanged g c =
    let row = c.self.inside in
    let placed : c.push.new.self.items ≡ row.places.items ++ (c.len.result + 1) ∷ [] = c.in_ok-push.ensures.items in
    let kept : c.push-2.new.self.items ≡ row.was.items ++ c.of-memory.result ∷ [] =
    pushed (is_ok c.push-2.result) _ _ _ c.push-2.ensures.items (c.is_err.ensures.negation ∙ ap not c.if-is_err.false) in
    same_seen row.was.items c.pop-then-is_err-2-2.new.self.items row.places.items c.pop-then-is_err-2.new.self.items row.there.items c.push-3.new.self.items
    (popped row.was.items c.push-2.new.self.items c.pop-then-is_err-2-2.new.self.items _ (vec_len c.push-2.new.self) kept (omega (arith, c.push-2.new.self.ok))
    c.pop-then-is_err-2-2.ensures.rest)
    (popped row.places.items c.push.new.self.items c.pop-then-is_err-2.new.self.items _ (vec_len c.push.new.self) placed (omega (arith, c.push.new.self.ok))
    c.pop-then-is_err-2.ensures.rest)
    (not_pushed (is_ok c.push-3.result) _ _ _ c.push-3.ensures.items (c.is_err-2.ensures.negation ∙ ap not c.if-is_err-2.true))
    ∙ c.self.view_is

-- there is room for one more
room : {X : Type 0} (was : List (Snapshot X)) (numbers : List ℕ) (there : List (OnShelf X)) (view : ShelfView X)
    → row_seen (memories was) numbers there ≡ view → length view.shelf.things < 128
    → length was < 128
room {X} was numbers there view is low =
    let same : length view.shelf.things ≡ length was =
    ap (λ (some : ShelfView X). length some.shelf.things) (sym is) ∙ (things_length (memories was) numbers there ∙ length-map was _) in
    omega (arith, same, low)

pub invariant_of-self-else-is_err-2 : goal.invariant_of-self-else-is_err-2
invariant_of-self-else-is_err-2 g c =
    let row = c.self.inside in
    let placed : c.push.new.self.items ≡ row.places.items ++ (c.len.result + 1) ∷ [] = c.in_ok-push.ensures.items in
    let kept : c.push-2.new.self.items ≡ row.was.items ++ c.of-memory.result ∷ [] =
    pushed (is_ok c.push-2.result) _ _ _ c.push-2.ensures.items (c.is_err.ensures.negation ∙ ap not c.if-is_err.false) in
    let added : c.push-3.new.self.items ≡ row.there.items ++ record { thing = c.args.thing; marked = false } ∷ [] =
    pushed (is_ok c.push-3.result) _ _ _ c.push-3.ensures.items (c.is_err-2.ensures.negation ∙ ap not c.if-is_err-2.false) in
    let low = room row.was.items row.places.items row.there.items c.args.self.now c.self.view_is c.requires in
    row_same (row.was.items ++ c.of-memory.result ∷ []) c.push-2.new.self.items
    (row.there.items ++ record { thing = c.args.thing; marked = false } ∷ []) c.push-3.new.self.items
    (row.places.items ++ (c.len.result + 1) ∷ []) c.push.new.self.items kept added placed
    (row_more row.was.items row.there.items row.places.items _ _ _ c.self.invariant low (omega (arith, c.len.ensures, row.there.ok)))

pub returns-clause-added : goal.returns-clause-added
returns-clause-added g c =
    let row = c.self.inside in
    let placed : c.push.new.self.items ≡ row.places.items ++ (c.len.result + 1) ∷ [] = c.in_ok-push.ensures.items in
    let kept : c.push-2.new.self.items ≡ row.was.items ++ c.of-memory.result ∷ [] =
    pushed (is_ok c.push-2.result) _ _ _ c.push-2.ensures.items (c.is_err.ensures.negation ∙ ap not c.if-is_err.false) in
    let added : c.push-3.new.self.items ≡ row.there.items ++ record { thing = c.args.thing; marked = false } ∷ [] =
    pushed (is_ok c.push-3.result) _ _ _ c.push-3.ensures.items (c.is_err-2.ensures.negation ∙ ap not c.if-is_err-2.false) in
    let low = room row.was.items row.places.items row.there.items c.args.self.now c.self.view_is c.requires in
    let all : length (memories row.was.items) ≡ length row.was.items = length-map row.was.items _ in
    let long = numbers_full _ _ row.places.items c.self.invariant low in
    same_seen (row.was.items ++ c.of-memory.result ∷ []) c.push-2.new.self.items
    (row.places.items ++ (c.len.result + 1) ∷ []) c.push.new.self.items
    (row.there.items ++ record { thing = c.args.thing; marked = false } ∷ []) c.push-3.new.self.items kept placed added
    ∙ (ap (λ (was : List g.row.T.Denot). row_seen was (row.places.items ++ (c.len.result + 1) ∷ [])
    (row.there.items ++ record { thing = c.args.thing; marked = false } ∷ []))
    (map_push (λ (memory : Snapshot g.row.T.Denot). memory.value) row.was.items c.of-memory.result)
    ∙ (seen_more (memories row.was.items) row.places.items row.there.items c.of-memory.result.value c.args.thing (c.len.result + 1) (long ∙ sym all)
    c.self.invariant.numbered (omega (arith, c.len.ensures, row.there.ok))
    ∙ ap (λ (view : ShelfView g.row.T.Denot). view_with view c.args.thing) c.self.view_is))
