use Rattle.std.proofs.Common.{◌≡◌, ◌∙◌, refl, rules, sym, ap, subst, length, map, filter, List, true, arith, All}
use Rattle.std.proofs.lemmas.Fn.{filter_same}
use Rattle.std.proofs.lemmas.List.{length-map}
use Rattle.icn_structs.specs.declared.row.OnShelf.{OnShelf}
use Rattle.icn_structs.specs.PlacedThings.{IsNumbered, is_marked, kept_number, memories, remembered, renumbered}
use Rattle.icn_structs.proofs.GivenPlaces.{all_marked_held, given_row_held, given_row_things, left_row, remembered_length}
use Rattle.icn_structs.proofs.PlacedSteps.{is_row_same, numbers_few}
use Rattle.icn_structs.proofs.row.give_unmarked.Goals as goal

pub returns-then-are_marked-clause-row : goal.returns-then-are_marked-clause-row
returns-then-are_marked-clause-row g c = c.requires.row

pub returns-then-are_marked-clause-things : goal.returns-then-are_marked-clause-things
returns-then-are_marked-clause-things g c = refl

pub returns-then-are_marked-clause-held : goal.returns-then-are_marked-clause-held
returns-then-are_marked-clause-held g c =
    let marked : All (λ (kept : OnShelf g.row.T.Denot). is_marked kept ≡ true) c.args.there.now.items =
    subst (λ (there : List (OnShelf g.row.T.Denot)). All (λ kept. is_marked kept ≡ true) there) c.deref.ensures.value
    (c.are_marked.ensures c.if-are_marked.true) in
    all_marked_held (memories c.args.was.now.items) c.args.places.now.items c.args.there.now.items c.requires.row.numbered marked

pub forget-requires-clause-numbered : goal.forget-requires-clause-numbered
forget-requires-clause-numbered g c =
    subst (λ (there : List (OnShelf g.row.T.Denot)). IsNumbered 0 (length there) c.args.places.now.items) (sym c.deref-2.ensures.value) c.requires.row.numbered

pub forget-requires-clause-long : goal.forget-requires-clause-long
forget-requires-clause-long g c = numbers_few _ _ c.args.places.now.items c.requires.row

pub renumber-requires : goal.renumber-requires
renumber-requires g c =
    let few = numbers_few _ _ c.args.places.now.items c.requires.row in
    let long = ap length c.forget.ensures.places ∙ length-map c.args.places.now.items (kept_number c.deref-2.result.now) in
    omega (arith, few, long, c.requires.row.few)

pub drop_numbers-requires : goal.drop_numbers-requires
drop_numbers-requires g c =
    let was = c.args.was.now.items in
    let before = c.args.places.now.items in
    let there = c.args.there.now.items in
    let memory : memories c.forget.new.was.items ≡ remembered (memories was) before there =
    c.forget.ensures.was ∙ ap (remembered (memories was) before) c.deref-2.ensures.value in
    let all : length c.forget.new.was.items ≡ length was =
    sym (length-map c.forget.new.was.items _) ∙ (ap length memory ∙ (remembered_length there (memories was) before ∙ length-map was _)) in
    let numbers : c.renumber.new.places.items ≡ renumbered 0 (map (kept_number there) before) =
    c.renumber.ensures ∙ (ap (renumbered 0) c.forget.ensures.places
    ∙ ap (λ (some : List (OnShelf g.row.T.Denot)). renumbered 0 (map (kept_number some) before)) c.deref-2.ensures.value) in
    let kept : c.give_room_back.new.there.items ≡ filter is_marked there =
    c.give_room_back.ensures ∙ filter_same _ is_marked _ (λ x b f' k. search rules) _ _ c.retain.ensures.filtered in
    let left = ap length kept in
    record {
      row = is_row_same (length was) c.len.result (length (filter is_marked there)) c.len-2.result (renumbered 0 (map (kept_number there) before))
          c.renumber.new.places.items (omega (arith, c.len.ensures, c.forget.new.was.ok, all))
          (omega (arith, c.len-2.ensures, c.give_room_back.new.there.ok, left)) numbers (left_row (length was) before there c.requires.row);
    }

pub returns-clause-row : goal.returns-clause-row
returns-clause-row g c =
    is_row_same c.len.result (length c.forget.new.was.items) c.len-2.result (length c.give_room_back.new.there.items)
    c.drop_numbers.new.places.items c.drop_numbers.new.places.items (omega (arith, c.len.ensures, c.forget.new.was.ok))
    (omega (arith, c.len-2.ensures, c.give_room_back.new.there.ok)) refl c.drop_numbers.ensures.row

pub returns-clause-things : goal.returns-clause-things
returns-clause-things g c =
    let was = c.args.was.now.items in
    let before = c.args.places.now.items in
    let there = c.args.there.now.items in
    let memory : memories c.forget.new.was.items ≡ remembered (memories was) before there =
    c.forget.ensures.was ∙ ap (remembered (memories was) before) c.deref-2.ensures.value in
    let numbers : c.renumber.new.places.items ≡ renumbered 0 (map (kept_number there) before) =
    c.renumber.ensures ∙ (ap (renumbered 0) c.forget.ensures.places
    ∙ ap (λ (some : List (OnShelf g.row.T.Denot)). renumbered 0 (map (kept_number some) before)) c.deref-2.ensures.value) in
    let kept : c.give_room_back.new.there.items ≡ filter is_marked there =
    c.give_room_back.ensures ∙ filter_same _ is_marked _ (λ x b f' k. search rules) _ _ c.retain.ensures.filtered in
    given_row_things (memories was) (memories c.forget.new.was.items) before c.renumber.new.places.items c.drop_numbers.new.places.items there
    c.give_room_back.new.there.items c.len-2.result c.requires.row.numbered memory numbers kept
    (omega (arith, c.len-2.ensures, c.give_room_back.new.there.ok)) c.drop_numbers.ensures.places

pub returns-clause-held : goal.returns-clause-held
returns-clause-held g c =
    let was = c.args.was.now.items in
    let before = c.args.places.now.items in
    let there = c.args.there.now.items in
    let memory : memories c.forget.new.was.items ≡ remembered (memories was) before there =
    c.forget.ensures.was ∙ ap (remembered (memories was) before) c.deref-2.ensures.value in
    let numbers : c.renumber.new.places.items ≡ renumbered 0 (map (kept_number there) before) =
    c.renumber.ensures ∙ (ap (renumbered 0) c.forget.ensures.places
    ∙ ap (λ (some : List (OnShelf g.row.T.Denot)). renumbered 0 (map (kept_number some) before)) c.deref-2.ensures.value) in
    let kept : c.give_room_back.new.there.items ≡ filter is_marked there =
    c.give_room_back.ensures ∙ filter_same _ is_marked _ (λ x b f' k. search rules) _ _ c.retain.ensures.filtered in
    given_row_held (memories was) (memories c.forget.new.was.items) before c.renumber.new.places.items c.drop_numbers.new.places.items there
    c.give_room_back.new.there.items c.len-2.result c.requires.row.numbered memory numbers kept
    (omega (arith, c.len-2.ensures, c.give_room_back.new.there.ok)) c.drop_numbers.ensures.places
