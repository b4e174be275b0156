-- The values of items, one after the other.
use Rattle.std.proofs.Common.{◌≡◌, ◌∙◌, refl, sym, ap, List, [], ◌∷◌, ◌++◌, map, length, arith, append_assoc, append-nil}
use Rattle.std.specs.Prelude.{IsErrAnd, Result}
use Rattle.std.proofs.lemmas.List.{map-append}
use Rattle.icn_value.specs.declared.val.Val.{Val}
use Rattle.icn_value.specs.declared.item.Item.{Item as HeldItem}
use Rattle.icn_value.specs.Values.{Value}
use Rattle.icn_value.specs.Store.{Setting}
use Rattle.icn_defs.specs.Calls.{GoesOn}
use Rattle.icn_defs.specs.ReadAndAssign.{the_value, the_values}
use Rattle.icn_defs.specs.Rows.{Row}
use Rattle.icn_heap.specs.Extents.{Extent, value_in}
use Rattle.icn_vars.specs.declared.stop.Stop.{Stop}
use Rattle.icn_vars.specs.declared.stop.Stop.TheVariants.{Error, NoMemory}
use Rattle.icn_vars.specs.Stops.{StopsFinding}
use Rattle.icn_vars.specs.Worlds.{item_in}
use Rattle.icn_args.specs.ItemsLeft.{values_behind}
use Rattle.icn_args.specs.RowWords.{IsFound}
use Rattle.icn_args.proofs.RowAnswers.{found_stops}

nothing_left : (items : List HeldItem) → length items ≡ 0 → items ≡ []
nothing_left [] none = refl
nothing_left (item ∷ items) none = absurd (omega arith)

module _ (all : Extent) (setting : Setting) (items : List HeldItem) where
  stops_at : (done : List Value) (first : HeldItem) (others rest : List HeldItem) (stop : Stop) → rest ≡ first ∷ others
      → ((next : List Value → Row) → the_values (map (item_in all) items) next setting ≡ values_behind done (map (item_in all) rest) next setting)
      → StopsFinding all (the_value (item_in all first)) setting setting stop → StopsFinding all (the_values (map (item_in all) items)) setting setting stop
  stops_at done first others rest (Error number offending) same so is = λ next.
      so next ∙ (ap (λ (left : List HeldItem). values_behind done (map (item_in all) left) next setting) same
      ∙ is (λ value. the_values (map (item_in all) others) (λ values. next (done ++ value ∷ values))))
  stops_at done first others rest NoMemory same so is = tt

  -- an item that is not read
  pub gather_stops : {B : Type 0} (done : List Value) (first : HeldItem) (others rest : List HeldItem) (shown : B → List Value) (stop : Stop)
      (result : Result B Stop) → IsErrAnd result (λ other. other ≡ stop)
      → rest ≡ first ∷ others
      → ((next : List Value → Row) → the_values (map (item_in all) items) next setting ≡ values_behind done (map (item_in all) rest) next setting)
      → StopsFinding all (the_value (item_in all first)) setting setting stop → IsFound all (the_values (map (item_in all) items)) setting setting shown result
  gather_stops done first others rest shown stop result err same so is =
      found_stops all (the_values (map (item_in all) items)) setting setting shown stop result err (stops_at done first others rest stop same so is)

  -- one more item is read
  pub gather_next : (vals now : List Val) (val : Val) (first : HeldItem) (others rest : List HeldItem) → rest ≡ first ∷ others → now ≡ vals ++ val ∷ []
      → ((next : List Value → Row)
      → the_values (map (item_in all) items) next setting ≡ values_behind (map (value_in all) vals) (map (item_in all) rest) next setting)
      → GoesOn (the_value (item_in all first)) setting (value_in all val) setting
      → (next : List Value → Row)
      → the_values (map (item_in all) items) next setting ≡ values_behind (map (value_in all) now) (map (item_in all) others) next setting
  gather_next vals now val first others rest same more so read next =
      so next ∙ (ap (λ (left : List HeldItem). values_behind (map (value_in all) vals) (map (item_in all) left) next setting) same
      ∙ (read (λ value. the_values (map (item_in all) others) (λ values. next (map (value_in all) vals ++ value ∷ values)))
      ∙ (behind ∙ sym (ap (λ (done : List Value). values_behind done (map (item_in all) others) next setting) (ap (map (value_in all)) more
      ∙ map-append (value_in all) vals (val ∷ []))))))
    where
      behind : the_values (map (item_in all) others) (λ values. next (map (value_in all) vals ++ value_in all val ∷ values)) setting
          ≡ values_behind (map (value_in all) vals ++ value_in all val ∷ []) (map (item_in all) others) next setting
      behind = simp append_assoc

  -- all items are read
  pub gather_all : (done : List Value) (rest : List HeldItem) → length rest ≡ 0
      → ((next : List Value → Row) → the_values (map (item_in all) items) next setting ≡ values_behind done (map (item_in all) rest) next setting)
      → GoesOn (the_values (map (item_in all) items)) setting done setting
  gather_all done rest none so next =
      so next ∙ (ap (λ (left : List HeldItem). values_behind done (map (item_in all) left) next setting) (nothing_left rest none)
      ∙ ap (λ (values : List Value). next values setting) (append-nil done))
