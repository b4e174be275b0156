-- The row of `sort`, by the value that is sorted.
use Rattle.std.proofs.Common.{◌≡◌, ◌∙◌, refl, sym, ap, ℕ, zero, suc, ℤ, pos, negsuc, List, [], ◌∷◌, ◌++◌, append_assoc, append-nil, Some, length, map, arith}
use Rattle.std.specs.List.{All}
use Rattle.std.proofs.lemmas.List.{map-append}
use Rattle.icn_value.specs.declared.val.Val.{Val}
use Rattle.icn_value.specs.declared.val.Val.TheVariants.{Null as NullVal, Integer as IntegerVal, Text as TextVal, Chars as CharsVal, Std as StdVal, Proc as ProcVal, Rec as RecVal, List as ListVal, Set as SetVal, Table as TableVal, Coexp as CoexpVal}
use Rattle.icn_value.specs.Values.{Value, Null, Integer, Text, Chars, Std, Procedure, ARecord, AList, ASet, ATable, ACoexp}
use Rattle.icn_value.specs.Store.{Heap, Names, Setting, table_at}
use Rattle.icn_defs.specs.Arguments.{arg, integer, value_or}
use Rattle.icn_defs.specs.Calls.{GoesOn}
use Rattle.icn_defs.specs.Conversions.{group_of}
use Rattle.icn_defs.specs.Rows.{Row, Error, gives_value, new_list_of}
use Rattle.icn_defs.specs.Structures.{pair_lists, sort_row, sorted_of, table_sorted}
use Rattle.icn_heap.specs.Extents.{AreLive, Extent, IsLive, KeepsValues, value_in, values_in}
use Rattle.icn_vars.specs.declared.stop.Stop.{Stop}
use Rattle.icn_vars.specs.declared.stop.Stop.TheVariants.{Error as ErrorStop, NoMemory}
use Rattle.icn_vars.specs.Stops.{StopsFinding}
use Rattle.icn_structfn.proofs.RowAnswers.{nothing_left}
use Rattle.icn_structfn.specs.Sorting.{in_turn, order_of, pair_lists_behind, sorted_pairs, sorted_value}

orders : (names : Names) (heap : Heap) (pairs : List (Value × Value)) (n : ℤ) (chosen : Value) (setting : Setting)
    → table_sorted names heap pairs n chosen setting ≡ sorted_pairs names heap pairs (order_of n) chosen gives_value setting
orders names heap pairs (pos zero) chosen setting = refl
orders names heap pairs (pos (suc zero)) chosen setting = refl
orders names heap pairs (pos (suc (suc zero))) chosen setting = refl
orders names heap pairs (pos (suc (suc (suc zero)))) chosen setting = refl
orders names heap pairs (pos (suc (suc (suc (suc zero))))) chosen setting = refl
orders names heap pairs (pos (suc (suc (suc (suc (suc k)))))) chosen setting = refl
orders names heap pairs (negsuc k) chosen setting = refl

-- the row of `sort`, once its number is known
pub sorts : (names : Names) (n : ℤ) (chosen value : Value) (setting : Setting)
    → sorted_of names value n chosen (group_of value) setting ≡ sorted_value names n chosen value gives_value setting
sorts names n chosen Null setting = refl
sorts names n chosen (Integer i) setting = refl
sorts names n chosen (Text bytes) setting = refl
sorts names n chosen (Chars bytes) setting = refl
sorts names n chosen (Std file) setting = refl
sorts names n chosen (Procedure number) setting = refl
sorts names n chosen (ARecord id) setting = refl
sorts names n chosen (AList id) setting = refl
sorts names n chosen (ASet id) setting = refl
sorts names n chosen (ATable id) setting = orders names setting.world.heap (table_at setting.world.heap id).pairs n chosen setting
sorts names n chosen (ACoexp id) setting = refl

-- a value that is no structure
pub no_structure : (names : Names) (n : ℤ) (chosen : Value) (all : Extent) (val : Val)
    → ((id : ℕ) → val ≡ ListVal id → ⊥) → ((id : ℕ) → val ≡ SetVal id → ⊥) → ((id : ℕ) → val ≡ TableVal id → ⊥) → ((id : ℕ) → val ≡ RecVal id → ⊥)
    → (next : Value → Row) (setting : Setting) → sorted_value names n chosen (value_in all val) next setting ≡ Error 115 (Some (value_in all val)) setting
no_structure names n chosen all NullVal a b c d next setting = refl
no_structure names n chosen all (IntegerVal i) a b c d next setting = refl
no_structure names n chosen all (TextVal span) a b c d next setting = refl
no_structure names n chosen all (CharsVal cset) a b c d next setting = refl
no_structure names n chosen all (StdVal file) a b c d next setting = refl
no_structure names n chosen all (ProcVal number) a b c d next setting = refl
no_structure names n chosen all (RecVal id) a b c d next setting = absurd (d id refl)
no_structure names n chosen all (ListVal id) a b c d next setting = absurd (a id refl)
no_structure names n chosen all (SetVal id) a b c d next setting = absurd (b id refl)
no_structure names n chosen all (TableVal id) a b c d next setting = absurd (c id refl)
no_structure names n chosen all (CoexpVal id) a b c d next setting = refl

-- both values of a pair, alone and as a pair
pub two_same : (old new : Extent) (pair : Val × Val) → KeepsValues old new → AreLive old pair
    → map (value_in new) (pair.0 ∷ pair.1 ∷ []) ≡ (values_in old pair).0 ∷ (values_in old pair).1 ∷ []
two_same old new pair keeps live =
    ap (λ (v : Value). v ∷ value_in new pair.1 ∷ []) (keeps.value pair.0 live.first)
    ∙ ap (λ (v : Value). value_in old pair.0 ∷ v ∷ []) (keeps.value pair.1 live.second)

pub two_live : (all : Extent) (x y : Val) → IsLive all x → IsLive all y → All (IsLive all) (x ∷ y ∷ [])
two_live all x y first second zero d below = first
two_live all x y first second (suc zero) d below = second
two_live all x y first second (suc (suc k)) d below = absurd (omega (arith, below))

-- Keys and values in turn

pub one_turned : (all : Extent) (vals mid now : List Val) (first : Val × Val) (rest others : List (Val × Val)) (whole : List Value) → mid ≡ vals ++ first.0 ∷ []
    → now ≡ mid ++ first.1 ∷ [] → rest ≡ first ∷ others
    → map (value_in all) vals ++ in_turn (map (values_in all) rest) ≡ whole → map (value_in all) now ++ in_turn (map (values_in all) others) ≡ whole
one_turned all vals mid now first rest others whole more again same so =
    ap (λ list. map (value_in all) list ++ in_turn (map (values_in all) others))
    (again ∙ (ap (λ list. list ++ first.1 ∷ []) more ∙ append_assoc vals (first.0 ∷ []) (first.1 ∷ [])))
    ∙ (ap (λ list. list ++ in_turn (map (values_in all) others)) (map-append (value_in all) vals (first.0 ∷ first.1 ∷ []))
    ∙ (append_assoc (map (value_in all) vals) (value_in all first.0 ∷ value_in all first.1 ∷ []) (in_turn (map (values_in all) others))
    ∙ (ap (λ left. map (value_in all) vals ++ in_turn (map (values_in all) left)) (sym same) ∙ so)))

pub all_turned : (all : Extent) (vals : List Val) (rest : List (Val × Val)) (whole : List Value) → length rest ≡ 0
    → map (value_in all) vals ++ in_turn (map (values_in all) rest) ≡ whole → map (value_in all) vals ≡ whole
all_turned all vals rest whole none so =
    sym (append-nil (map (value_in all) vals)) ∙ (ap (λ left. map (value_in all) vals ++ in_turn (map (values_in all) left)) (sym (nothing_left rest none))
    ∙ so)

-- Lists of two, one after the other

module _ (pairs : List (Value × Value)) (before : Setting) where
  -- what is left to be made, behind the lists that were made
  abbrev pub ListsLeft : List Value → List (Value × Value) → Setting → Type 0
  ListsLeft done rest now = (next : List Value → Row) → pair_lists pairs next before ≡ pair_lists_behind done rest next now

  -- one more list
  pub one_made : (done : List Value) (first : Value × Value) (rest others : List (Value × Value)) (list : Value) (now after : Setting) → rest ≡ first ∷ others
      → ListsLeft done rest now → GoesOn (new_list_of (first.0 ∷ first.1 ∷ [])) now list after → ListsLeft (done ++ list ∷ []) others after
  one_made done first rest others list now after same so made next =
      so next ∙ (ap (λ (left : List (Value × Value)). pair_lists_behind done left next now) same
      ∙ (made (λ value. pair_lists others (λ more. next (done ++ value ∷ more))) ∙ behind))
    where
      behind : pair_lists others (λ more. next (done ++ list ∷ more)) after ≡ pair_lists_behind (done ++ list ∷ []) others next after
      behind = simp append_assoc

  -- one that is not made
  pub one_stops : (all : Extent) (done : List Value) (first : Value × Value) (rest others : List (Value × Value)) (now after : Setting) (stop : Stop)
      → rest ≡ first ∷ others
      → ListsLeft done rest now → StopsFinding all (new_list_of (first.0 ∷ first.1 ∷ [])) now after stop → StopsFinding all (pair_lists pairs) before after stop
  one_stops all done first rest others now after (ErrorStop number offending) same so stops = λ next.
      so next ∙ (ap (λ (left : List (Value × Value)). pair_lists_behind done left next now) same
      ∙ stops (λ value. pair_lists others (λ more. next (done ++ value ∷ more))))
  one_stops all done first rest others now after NoMemory same so stops = tt

  -- all are made
  pub all_made : (done : List Value) (rest : List (Value × Value)) (now : Setting) → rest ≡ [] → ListsLeft done rest now
      → GoesOn (pair_lists pairs) before done now
  all_made done rest now none so next =
      so next
      ∙ (ap (λ (left : List (Value × Value)). pair_lists_behind done left next now) none ∙ ap (λ (values : List Value). next values now) (append-nil done))

-- The row from its number on

abbrev pub sorts_by : Names → List Value → ℤ → Row
sorts_by names values n = sorted_of names (arg values 0) n (arg values 1) (group_of (arg values 0))

pub sort_asks : (names : Names) (values : List Value) (number : Value) (setting : Setting) → number ≡ value_or (Integer (pos 1)) (arg values 1)
    → sort_row names values setting ≡ integer number (sorts_by names values) setting
sort_asks names values number setting is = ap (λ (v : Value). integer v (sorts_by names values) setting) (sym is)

pub sort_goes_on : (names : Names) (values : List Value) (number chosen value : Value) (n m : ℤ) (setting : Setting)
    → number ≡ value_or (Integer (pos 1)) (arg values 1) → chosen ≡ arg values 1 → value ≡ arg values 0 → m ≡ n → GoesOn (integer number) setting n setting
    → sort_row names values setting ≡ sorted_value names m chosen value gives_value setting
sort_goes_on names values number chosen value n m setting is_number is_chosen is_value same found =
    sort_asks names values number setting is_number
    ∙ (found (sorts_by names values)
    ∙ (ap (λ (v : Value). sorted_of names v n (arg values 1) (group_of v) setting) (sym is_value)
    ∙ (ap (λ (v : Value). sorted_of names value n v (group_of value) setting) (sym is_chosen)
    ∙ (ap (λ (k : ℤ). sorted_of names value k chosen (group_of value) setting) (sym same)
    ∙ sorts names m chosen value setting))))
