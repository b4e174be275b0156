-- Calls of functions on the values of operands, where these are told as they stand.
use Rattle.std.specs.Prelude.{◌≡◌, ℕ, List, [], ◌∷◌, length, slice_get, Some}
use Rattle.icn_text.specs.declared.func.Func.{Func}
use Rattle.icn_value.specs.declared.val.Val.{Val}
use Rattle.icn_value.specs.declared.item.Item.{Item}
use Rattle.icn_value.specs.declared.item.Item.TheVariants as Items
use Rattle.icn_value.specs.declared.item.VarRef.TheVariants as VarRefs
use Rattle.icn_value.specs.declared.item.Root.TheVariants as Roots
use Rattle.icn_heap.specs.Extents.{Extent, value_in}
use Rattle.icn_frames.specs.declared.layout.Cell.{Cell}
use Rattle.icn_frames.specs.declared.layout.Cell.TheVariants.{Operand}
use Rattle.icn_frames.specs.CalledWith.{HoldsValue, operands_above}
use Rattle.icn_frames.specs.Stacks.{FlatStack, locals}
use Rattle.icn_code.specs.Codes.{Tables}
use Rattle.icn_run.specs.Rows.{Function, apply}
use Rattle.icn_run.specs.Rows as rows
use Rattle.icn_run.specs.Stacks.{Frames, flat}
use Rattle.icn_run.specs.Step.{Store, here, invoke_value, outcome}

-- the operand that is the variable of a global
abbrev pub global_item : ℕ → Item
global_item index = Items.Var (VarRefs.Whole (Roots.Global index))

-- the value that an operand is, or that the local or the global holds which it names
pub data HasValue (globals held : List Val) (item : Item) (v : Val) : Type 0 where
  as_held : HoldsValue held item v → HasValue globals held item v
  as_global : (index : ℕ) → item ≡ global_item index → slice_get globals index ≡ Some v
      → HasValue globals held item v

-- the same of each of some operands
abbrev pub HaveValues : List Val → List Val → List Item → List Val → Type 0
HaveValues globals held [] [] = Unit {0}
HaveValues globals held [] (v ∷ values) = ⊥
HaveValues globals held (item ∷ items) [] = ⊥
HaveValues globals held (item ∷ items) (v ∷ values) =
    HasValue globals held item v × HaveValues globals held items values

-- the operand below so many others has this value
abbrev pub HasValueBelow : List Val → FlatStack → ℕ → Val → Type 0
HasValueBelow globals m count v = (x : Item) (items : List Item) (rest : List Cell)
    → m.cells ≡ operands_above items (Operand x ∷ rest) → length items ≡ count
    → HasValue globals (locals m) x v

-- so many operands on top have these values, the lowest one first
abbrev pub HaveValuesAbove : List Val → FlatStack → ℕ → List Val → Type 0
HaveValuesAbove globals m count values = (items : List Item) (rest : List Cell)
    → m.cells ≡ operands_above items rest → length items ≡ count
    → HaveValues globals (locals m) items values

-- The value of the operand below so many others names a function.
pub record NamesFunction (tables : Tables) (globals : List Val) (m : FlatStack) (count : ℕ)
    (func : Func) : Type 0 where
  pub callee : Val
  pub below : HasValueBelow globals m count callee
  pub invoked : (all : Extent) (items : List rows.Item) (k : Frames) (st : Store Frames)
      → invoke_value flat tables (value_in all callee) items k st
      ≡ outcome flat (apply st.names (Function func) items (here flat k st)) k st

-- It is called with so many operands, whose values are these.
pub record CallsFunction (tables : Tables) (globals : List Val) (m : FlatStack) (count : ℕ)
    (values : List Val) (func : Func) : Type 0 where
  pub names : NamesFunction tables globals m count func
  pub given : HaveValuesAbove globals m count values
