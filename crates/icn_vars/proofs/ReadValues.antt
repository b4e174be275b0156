-- What is read of a world, as the definitions have it.
use Rattle.std.proofs.Common.{◌≡◌, ◌∙◌, refl, sym, ap, ℕ, zero, suc, ◌+◌, ◌-◌, ◌<◌, List, [], ◌∷◌, length, map, take, drop, get_or, arith, Some, Option, Result, Ok, Err, subst}
use Rattle.std.specs.List.{slice_get, slice_range}
use Rattle.std.specs.List.{All}
use Rattle.std.specs.Option.{option_map}
use Rattle.std.proofs.lemmas.Option.{slice_get-map}
use Rattle.icn_structs.specs.Numbered.{NumberedList, item_at, item_numbered}
use Rattle.icn_heap.specs.HeapParts.{list_in}
use Rattle.icn_heap.proofs.ListChanges.{get_live}
use Rattle.std.specs.Prelude.{ℤ, pos, negsuc, ◌-ℤ◌, IfSome, unwrap_or, slice_index, IsErrAnd, MatchResult}
use Rattle.icn_value.specs.declared.val.Val.{Val as HeldVal}
use Rattle.icn_value.specs.Values.{Value, Text, Root, Part}
use Rattle.icn_value.specs.Store.{Record, Setting, value_at}
use Rattle.icn_defs.specs.Calls.{GoesOn}
use Rattle.icn_defs.specs.ReadAndAssign.{reads, reads_text}
use Rattle.icn_heap.specs.Extents.{Extent, IsLive, value_in}
use Rattle.icn_vars.specs.declared.stop.Stop.{Stop}
use Rattle.icn_vars.specs.declared.stop.Stop.TheVariants.{Error as StopError, NoMemory}
use Rattle.icn_vars.specs.Stops.{StopsFinding}

-- Places

value_here : (all : Extent) (vals : List HeldVal) (place : ℕ) (val : HeldVal) → place < length vals
    → value_at (map (value_in all) vals) place ≡ value_in all (get_or vals place val)
value_here all [] place val within = absurd (omega arith)
value_here all (first ∷ vals) zero val within = refl
value_here all (first ∷ vals) (suc place) val within = value_here all vals place val (omega arith)

-- the value at a place of globals, statics or locals
pub value_read : (all : Extent) (vals : List HeldVal) (place : ℕ) (val other : HeldVal) → place < length vals → val ≡ get_or vals place other
    → Some (value_at (map (value_in all) vals) place) ≡ Some (value_in all val)
value_read all vals place val other within is = ap Some (value_here all vals place other within ∙ ap (value_in all) (sym is))

-- a field's place is one of its record
pub field_there : (records : List Record) (rec place : ℕ) → place < slice_index (map (λ (structure : Record). length structure.fields) records) rec
    → place < length (unwrap_or (slice_get records rec) (record { kind = 0; fields = [] })).fields
field_there [] rec place within = absurd (omega arith)
field_there (first ∷ records) zero place within = within
field_there (first ∷ records) (suc rec) place within = field_there records rec place within

-- Reading

-- Parts

pub part_read : (setting : Setting) (root : Root) (place size : ℕ) (text part : List ℕ) → GoesOn (reads_text root place size) setting text setting
    → part ≡ take size (drop (place - 1) text) → GoesOn (reads (Part root place size)) setting (Text part) setting
part_read setting root place size text part h is next =
    let count : place - 1 + size - (place - 1) ≡ size = omega arith in
    h (λ whole. next (Text (slice_range whole (place - 1) (place - 1 + size))))
    ∙ ap (λ bytes. next (Text bytes) setting) (ap (λ n. take n (drop (place - 1) text)) count ∙ sym is)

part_by : (all : Extent) (setting : Setting) (root : Root) (place size : ℕ) (stop : Stop) → StopsFinding all (reads_text root place size) setting setting stop
    → StopsFinding all (reads (Part root place size)) setting setting stop
part_by all setting root place size (StopError number offending) h = λ next. h (λ whole. next (Text (slice_range whole (place - 1) (place - 1 + size))))
part_by all setting root place size NoMemory h = tt

pub part_stops : (all : Extent) (setting : Setting) (root : Root) (place size : ℕ) (stop : Stop) (result : Result HeldVal Stop)
    → IsErrAnd result (λ other. other ≡ stop)
    → StopsFinding all (reads_text root place size) setting setting stop
    → MatchResult result (λ val. GoesOn (reads (Part root place size)) setting (value_in all val) setting)
    (StopsFinding all (reads (Part root place size)) setting setting)
part_stops all setting root place size stop (Ok val) same h = absurd same
part_stops all setting root place size stop (Err other) same h =
    subst (StopsFinding all (reads (Part root place size)) setting setting) (sym same) (part_by all setting root place size stop h)

-- Elements

numbered : (all : Extent) (list : NumberedList HeldVal) (number : ℤ)
    → option_map (value_in all) (item_numbered list number) ≡ item_numbered (list_in all list) number
numbered all list number = by (number -ℤ list.number)
  where
    by : (place : ℤ) → option_map (value_in all) (item_at list.items place) ≡ item_at (map (value_in all) list.items) place
    by (pos place) = sym (slice_get-map (value_in all) list.items place)
    by (negsuc place) = refl

pub element_read : (all : Extent) (list : NumberedList HeldVal) (held : NumberedList Value) (number : ℤ) (found : Option HeldVal) → list_in all list ≡ held
    → found ≡ item_numbered list number
    → option_map (value_in all) found ≡ item_numbered held number
element_read all list held number found is same = ap (option_map (value_in all)) same ∙ (numbered all list number ∙ ap (λ one. item_numbered one number) is)

pub element_live : (all : Extent) (list : NumberedList HeldVal) (number : ℤ) (found : Option HeldVal) → All (IsLive all) list.items
    → found ≡ item_numbered list number → IfSome found (IsLive all)
element_live all list number found live is = subst (λ one. IfSome one (IsLive all)) (sym is) (by (number -ℤ list.number))
  where
    by : (place : ℤ) → IfSome (item_at list.items place) (IsLive all)
    by (pos place) = get_live (IsLive all) list.items place live
    by (negsuc place) = tt
