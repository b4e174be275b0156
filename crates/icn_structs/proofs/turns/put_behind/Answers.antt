use Rattle.std.proofs.Common.{ℕ, subst, sym, ap, List, Option, Some, [], ◌∷◌, ◌++◌, length, ◌∙◌, ◌≡◌}
use Rattle.icn_structs.specs.GapLists.{present}
use Rattle.icn_structs.specs.Turns.{IsStanding}
use Rattle.icn_structs.proofs.MovedNumbers.{stands_behind, added_behind}
use Rattle.icn_structs.proofs.turns.put_behind.Goals as goal

pub returns-in-Ok-clause-standing : goal.returns-in-Ok-clause-standing
returns-in-Ok-clause-standing c =
    let number : c.len-number.result ≡ length c.args.places.now.items = c.len-number.ensures ∙ c.args.places.now.ok.0 in
    let places : c.push.new.self.items ≡ c.args.places.now.items ++ length c.args.order.now ∷ [] =
    c.in_ok-push.ensures.items ∙ ap (λ n. c.args.places.now.items ++ n ∷ []) c.len.ensures in
    let order : c.push-2.new.self ≡ c.args.order.now ++ Some (length c.args.places.now.items) ∷ [] =
    c.in-Ok.ensures.added ∙ ap (λ (n : ℕ). c.args.order.now ++ Some n ∷ []) number in
    subst (λ items. IsStanding items c.push-2.new.self) (sym places)
    (subst (IsStanding (c.args.places.now.items ++ length c.args.order.now ∷ [])) (sym order)
    (stands_behind c.args.places.now.items c.args.order.now c.requires.standing))

pub returns-in-Ok-clause-added : goal.returns-in-Ok-clause-added
returns-in-Ok-clause-added c =
    let number : c.len-number.result ≡ length c.args.places.now.items = c.len-number.ensures ∙ c.args.places.now.ok.0 in
    let order : c.push-2.new.self ≡ c.args.order.now ++ Some (length c.args.places.now.items) ∷ [] =
    c.in-Ok.ensures.added ∙ ap (λ (n : ℕ). c.args.order.now ++ Some n ∷ []) number in
    ap (λ (items : List (Option ℕ)). present items) order ∙ added_behind c.args.places.now.items c.args.order.now c.requires.standing
