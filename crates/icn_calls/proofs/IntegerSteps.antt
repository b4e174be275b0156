-- Which argument an integer chooses.
use Rattle.std.proofs.Common.{◌≡◌, ℕ, suc, ◌-◌, ◌≤◌, ℤ, List, map, length, slice_get, Option, Some, sym, ap, ◌∙◌, arith}
use Rattle.std.specs.Option.{option_map}
use Rattle.std.proofs.lemmas.List.{length-map}
use Rattle.std.proofs.lemmas.Option.{slice_get-map}
use Rattle.icn_value.specs.declared.item.Item.{Item}
use Rattle.icn_heap.specs.Extents.{Extent}
use Rattle.icn_vars.specs.Worlds.{item_in}
use Rattle.icn_run.specs.Rows.{position_of}
use Rattle.icn_run.specs.Step.{argument_at, choose_item}

by_place : (all : Extent) (items : List Item) (n : ℤ) (place : Option ℕ) → place ≡ position_of n (length items)
    → choose_item n (map (item_in all) items) ≡ argument_at place (map (item_in all) items)
by_place all items n place e =
    ap (λ (k : ℕ). argument_at (position_of n k) (map (item_in all) items)) (length-map items (item_in all))
    ∙ ap (λ (p : Option ℕ). argument_at p (map (item_in all) items)) (sym e)

pub one_chosen : (all : Extent) (items : List Item) (n : ℤ) (place : Option ℕ) (p : ℕ) (found : Option Item) → place ≡ position_of n (length items)
    → place ≡ Some p → 1 ≤ p → found ≡ slice_get items (p - 1)
    → option_map (item_in all) found ≡ choose_item n (map (item_in all) items)
one_chosen all items n place p found e f low g =
    let one : p ≡ suc (p - 1) = omega (arith, low) in
    ap (option_map (item_in all)) g ∙ sym (slice_get-map (item_in all) items (p - 1))
    ∙ sym (by_place all items n place e ∙ ap (λ (q : Option ℕ). argument_at q (map (item_in all) items)) f
    ∙ ap (λ (k : ℕ). argument_at (Some k) (map (item_in all) items)) one)
