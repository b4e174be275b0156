-- Functions that add an element to a list or take one, done in the world at once, as turns.
use Rattle.std.proofs.Common.{◌≡◌, ℕ, false, List, [], ◌∷◌, Option, Some, None, Ok, refl, sym, ap, ◌∙◌, subst, fold, IfSome, arith}
use Rattle.std.specs.List.{All}
use Rattle.std.specs.Option.{option_map}
use Rattle.icn_structs.specs.Numbered.{NumberedList}
use Rattle.icn_text.specs.declared.func.Func.{Func}
use Rattle.icn_text.specs.declared.func.Func.TheVariants as Funcs
use Rattle.icn_value.specs.declared.item.Item.TheVariants as Items
use Rattle.icn_value.specs.declared.item.Pair.{Pair}
use Rattle.icn_value.specs.declared.val.Val.{Val}
use Rattle.icn_value.specs.declared.val.Val.TheVariants as Vals
use Rattle.icn_value.specs.Changes.{ChangedHeap, and_then, charged_cells}
use Rattle.icn_value.specs.Store.{Heap, Outside, Setting, having_heap, list_at, with_list}
use Rattle.icn_value.specs.Values.{Value, AList}
use Rattle.icn_defs.specs.Rows.{changes_heap, gives_value, here}
use Rattle.icn_defs.specs.Structures.{adds_to, takes_from}
use Rattle.icn_heap.specs.declared.heap.Heap.{Heap as HeldHeap}
use Rattle.icn_heap.specs.Extents.{IsLive, KeepsValues, value_in}
use Rattle.icn_heap.specs.Heaps.{extent_of, heap_of}
use Rattle.icn_vars.specs.declared.outcome.Outcome.TheVariants as Outcomes
use Rattle.icn_vars.specs.declared.outcome.ValueOutcome.TheVariants as ValueOutcomes
use Rattle.icn_vars.specs.declared.words.Words.{Words}
use Rattle.icn_vars.specs.declared.world.World.{World}
use Rattle.icn_vars.specs.Outcomes.{outcome_in, outcome_of}
use Rattle.icn_vars.specs.WorldFacts.{IsSoundWorld}
use Rattle.icn_vars.specs.Worlds.{KeepsFields, field_counts, reach_of}
use Rattle.icn_vars.proofs.GrowingWorlds.{heap_changed, setting_over}
use Rattle.icn_vars.proofs.HeapChanges.{cells_change, charged_then, same_records}
use Rattle.icn_structfn.proofs.TakenElements.{element_taken, none_taken}
use Rattle.icn_frames.specs.CalledWith.{DropsWith}
use Rattle.icn_frames.specs.Stacks as held
use Rattle.icn_frames.specs.Stacks.{FlatStack}
use Rattle.icn_code.specs.Codes.{Tables}
use Rattle.icn_control.specs.LiveStacks.{IsLiveStack}
use Rattle.icn_control.specs.declared.machine.RunState.{RunState}
use Rattle.icn_control.proofs.OperandValues.{live_locals}
use Rattle.icn_control.proofs.TakenOperandSteps.{live_taken}
use Rattle.icn_machine.specs.AnsweredAtOnce.{done_at}
use Rattle.icn_machine.specs.ListsInPlace.{AddsTo, TakesFrom, taken_outcome}
use Rattle.icn_machine.specs.PlainFunctions.{CallsFunction, HasValueBelow, NamesFunction}
use Rattle.icn_machine.specs.PlainScans.{GivesSo}
use Rattle.icn_machine.specs.TurnsAtOnce.{CallsAsTurn}
use Rattle.icn_machine.proofs.AssignmentSteps.{IsCounted, charged_counted}
use Rattle.icn_machine.proofs.PlainFunctionSteps.{all_before, drops_taken, none_before, one_more}
use Rattle.icn_machine.proofs.RowsAtOnce.{IsOf, calls_row}
use Rattle.icn_machine.proofs.ScanCalls.{with_one}

-- The heap that is left

-- the list with one element more
abbrev pub grown_on : (NumberedList Value → Value → NumberedList Value) → Heap → ℕ → Value → ChangedHeap
grown_on grown heap id value = and_then (charged_cells heap 1) (λ paid. Ok (with_list id (grown (list_at paid id) value) paid))

-- what it costs changes no bound, no co-expression and no record
pub grown_counted : (grown : NumberedList Value → Value → NumberedList Value) (heap new : Heap) (id : ℕ) (value : Value)
    → grown_on grown heap id value ≡ Ok new → IsCounted heap new
grown_counted grown heap new id value step =
    let made = charged_then (λ paid. with_list id (grown (list_at paid id) value) paid) (charged_cells heap 1) new step in
    let counted = charged_counted false heap made.0 made.1 in
    subst (IsCounted heap) made.2 (record { bounds = counted.bounds; coexps = counted.coexps })

pub grown_fields : (grown : NumberedList Value → Value → NumberedList Value) (heap new : Heap) (id : ℕ) (value : Value)
    → grown_on grown heap id value ≡ Ok new → KeepsFields (field_counts heap) (field_counts new)
grown_fields grown heap new id value step =
    let made = charged_then (λ paid. with_list id (grown (list_at paid id) value) paid) (charged_cells heap 1) new step in
    same_records heap new (sym (ap (λ (h : Heap). h.records) made.2) ∙ ((cells_change 1).charged heap made.0 made.1).records)

-- Rows

module _ (outside : Outside) (old new : HeldHeap) (pair : Pair) (words : Words) (globals statics locals : List Val)
    (keeps : KeepsValues (extent_of old) (extent_of new)) (sound : IsSoundWorld (extent_of old) pair words globals statics)
    (live : All (IsLive (extent_of old)) locals) (id : ℕ) where
  -- one element is added
  pub adds_one : (grown : NumberedList Value → Value → NumberedList Value) (value : Value) → grown_on grown (heap_of old) id value ≡ Ok (heap_of new)
      → adds_to grown (AList id ∷ value ∷ []) (setting_over outside old pair words globals statics locals)
      ≡ gives_value (AList id) (setting_over outside new pair words globals statics locals)
  adds_one grown value step =
      let before : Setting = setting_over outside old pair words globals statics locals in
      let made = charged_then (λ paid. with_list id (grown (list_at paid id) value) paid) (charged_cells (heap_of old) 1) (heap_of new) step in
      (cells_change 1).ok before made.0 made.1
      (here (λ setting. changes_heap (with_list id (fold grown (list_at setting.world.heap id) (value ∷ []))) (gives_value (AList id))))
      ∙ ap (λ (h : Heap). gives_value (AList id) (having_heap (λ other. h) before)) made.2
      ∙ ap (gives_value (AList id)) (heap_changed outside old new pair words globals statics locals keeps refl sound live)

  -- one is taken, if there is one
  pub takes_one : (taken : NumberedList Value → Option Value) (rest : NumberedList Value → NumberedList Value)
      → ((list : NumberedList Value) → (let found : Option Value = None in found) ≡ taken list → rest list ≡ list) → (o : Option Val)
      → option_map (value_in (extent_of new)) o ≡ taken (list_at (heap_of old) id) → heap_of new ≡ with_list id (rest (list_at (heap_of old) id)) (heap_of old)
      → takes_from taken rest (AList id ∷ []) (setting_over outside old pair words globals statics locals)
      ≡ outcome_in (extent_of new) (outcome_of (taken_outcome o)) (setting_over outside new pair words globals statics locals)
  takes_one taken rest none (Some v) item step =
      element_taken old new pair words globals statics locals keeps sound live taken rest (AList id) id refl (value_in (extent_of new) v) item step outside
  takes_one taken rest none None item step =
      none_taken old new pair words globals statics locals keeps sound live taken rest (AList id) id refl
      item (none (list_at (heap_of old) id) item) step outside

-- Calls

-- a call with two operands, whose values are these
pub with_two : (tables : Tables) (globals : List Val) (m : FlatStack) (func : Func) (a b : Val) → NamesFunction tables globals m 2 func
    → HasValueBelow globals m 1 a → HasValueBelow globals m 0 b → CallsFunction tables globals m 2 (a ∷ b ∷ []) func
with_two tables globals m func a b names lower upper = record {
  names = names;
  given = all_before globals m 2 0 (a ∷ b ∷ []) refl
      (one_more globals m 2 1 (a ∷ []) (a ∷ b ∷ []) b (omega arith) (omega arith)
      (one_more globals m 2 2 [] (a ∷ []) a (omega arith) (omega arith) (none_before globals m 2 [] refl) lower refl) upper refl);
}

-- the value that an operand has is a list
pub list_below : (globals : List Val) (m : FlatStack) (count : ℕ) (o : Option Val) (r : Option ℕ) → IfSome o (HasValueBelow globals m count)
    → IfSome r (λ list. o ≡ Some (Vals.List list)) → IfSome r (λ list. HasValueBelow globals m count (Vals.List list))
list_below globals m count o (Some list) told is = subst (λ (x : Option Val). IfSome x (HasValueBelow globals m count)) is told
list_below globals m count o None told is = tt

taken_of : (v : World) (taken : Option Val) → IfSome taken (IsLive (extent_of v.heap)) → IsOf v (outcome_of (taken_outcome taken))
taken_of v (Some x) l = λ n. record { live = record { live = l } }
taken_of v None l = λ n. record { live = tt }

module _ (t tables : Tables) (w v : World) (m k n : FlatStack) (func : Func) (back : held.set_locals (held.locals k) k ≡ k)
    (l : IsLiveStack t (reach_of w []) m) (list : ℕ) (stage : RunState) where
  -- one that adds an element
  pub adds_called : (d : DropsWith 2 m k) (val : Val) → NamesFunction tables w.globals.items m 2 func → HasValueBelow w.globals.items m 1 (Vals.List list)
      → HasValueBelow w.globals.items m 0 val → AddsTo func w list val v → GivesSo v (Outcomes.Gives (Items.Val (Vals.List list))) k n stage
      → CallsAsTurn tables 2 w m v n (done_at stage)
  adds_called d val names lower upper adds given =
      let left : IsLiveStack t (reach_of w []) k = (live_taken t (reach_of w []) 3 m k (d.callee ∷ d.items) (drops_taken 2 m k d) l).rest in
      calls_row w v k n (Outcomes.Gives (Items.Val (Vals.List list))) stage t left back (record { kept = adds.kept; counts = adds.counts })
      (λ locals. record { live = record { live = adds.live } }) given tables 2 (Vals.List list ∷ val ∷ []) func m d
      (with_two tables w.globals.items m func (Vals.List list) val names lower upper) l
      (λ all outside. adds.comes all outside (held.locals k) (live_locals t (reach_of w []) k left))

  -- one that takes an element
  pub takes_called : (d : DropsWith 1 m k) (taken : Option Val) → NamesFunction tables w.globals.items m 1 func
      → HasValueBelow w.globals.items m 0 (Vals.List list) → TakesFrom func w list taken v → GivesSo v (outcome_of (taken_outcome taken)) k n stage
      → CallsAsTurn tables 1 w m v n (done_at stage)
  takes_called d taken names below takes given =
      let left : IsLiveStack t (reach_of w []) k = (live_taken t (reach_of w []) 2 m k (d.callee ∷ d.items) (drops_taken 1 m k d) l).rest in
      calls_row w v k n (outcome_of (taken_outcome taken)) stage t left back (record { kept = takes.kept; counts = takes.counts })
      (taken_of v taken takes.live) given tables 1 (Vals.List list ∷ []) func m d
      (with_one tables w.globals.items m func (Vals.List list) names below) l
      (λ all outside. takes.comes all outside (held.locals k) (live_locals t (reach_of w []) k left))
