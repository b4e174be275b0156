-- Operations on the values of two operands, whatever variables these are.
use Rattle.std.specs.Prelude.{◌≡◌, ℕ, Bool, true, false, not, [], ◌∷◌, map, Option, Some, None, ⊤}
use Rattle.std.specs.Ordering.{is_lt, is_le, is_eq, is_ge, is_gt, is_ne}
use Rattle.std.specs.declared.cmp.Ordering.{Ordering}
use Rattle.icn_text.specs.declared.op.Op.{Op}
use Rattle.icn_text.specs.declared.op.Op.TheVariants as Ops
use Rattle.icn_value.specs.declared.item.Item.{Item}
use Rattle.icn_value.specs.declared.item.Item.TheVariants as Items
use Rattle.icn_value.specs.declared.val.Val.{Val}
use Rattle.icn_value.specs.declared.val.Val.TheVariants as Vals
use Rattle.icn_value.specs.Store.{Names, Setting}
use Rattle.icn_value.specs.Values as values
use Rattle.icn_defs.specs.Applying.{operation_row}
use Rattle.icn_defs.specs.Calls.{GoesOn}
use Rattle.icn_defs.specs.ReadAndAssign.{the_value}
use Rattle.icn_defs.specs.Rows.{Outcome, Fails, Gives}
use Rattle.icn_heap.specs.Extents.{Extent, value_in}
use Rattle.icn_heap.specs.Heaps.{extent_of}
use Rattle.law_names.specs.NamedSettings.{ItemNamed}
use Rattle.icn_vars.specs.declared.world.World.{World}
use Rattle.icn_vars.specs.Worlds.{IsLiveItem, item_in, reach_of, world_of}
use Rattle.icn_frames.specs.Stacks.{FlatStack, push}
use Rattle.icn_run.specs.Stacks.{Frames, flat}
use Rattle.icn_run.specs.Step.{Store, here}
use Rattle.icn_control.specs.LiveStacks.{with_locals}
use Rattle.icn_control.specs.StackViews.{stack_in}
use Rattle.icn_control.specs.declared.machine.RunState.{RunState}
use Rattle.icn_control.specs.declared.machine.RunState.TheVariants as RunStates
use Rattle.icn_machine.specs.declared.value_operations.ItemOutcome.{ItemOutcome}
use Rattle.icn_machine.specs.declared.value_operations.ItemOutcome.TheVariants as Answers

-- whether a comparison of texts is met, by their order
abbrev pub is_text_met : Op → Ordering → Option Bool
is_text_met Ops.LexicallyLess order = Some (is_lt order)
is_text_met Ops.LexicallyLessOrEqual order = Some (is_le order)
is_text_met Ops.LexicallyEqual order = Some (is_eq order)
is_text_met Ops.LexicallyGreaterOrEqual order = Some (is_ge order)
is_text_met Ops.LexicallyGreater order = Some (is_gt order)
is_text_met Ops.LexicallyNotEqual order = Some (is_ne order)
is_text_met op order = None

-- whether a test of equality is met, by whether two values are the same
abbrev pub is_equality_met : Op → Bool → Option Bool
is_equality_met Ops.Equivalent same = Some same
is_equality_met Ops.NotEquivalent same = Some (not same)
is_equality_met op same = None

-- whether a value is no procedure
abbrev pub is_nameless : Val → Bool
is_nameless Vals.Null = true
is_nameless (Vals.Integer n) = true
is_nameless (Vals.Text span) = true
is_nameless (Vals.Chars cset) = true
is_nameless (Vals.Std file) = true
is_nameless (Vals.Proc number) = false
is_nameless (Vals.Rec id) = true
is_nameless (Vals.List id) = true
is_nameless (Vals.Set id) = true
is_nameless (Vals.Table id) = true
is_nameless (Vals.Coexp id) = true

-- a value where a test is met; it fails elsewhere
abbrev pub value_if : Bool → Val → ItemOutcome
value_if true v = Answers.Gives (Items.Val v)
value_if false v = Answers.Fails

-- what is given, in this setting
abbrev pub given_in : Extent → ItemOutcome → Setting → Outcome
given_in all Answers.Fails s = Fails s
given_in all (Answers.Gives item) s = Gives (item_in all item) s

-- the value of an operand is found on this stack in this world
abbrev pub FindsOperand : World → FlatStack → Item → Val → Type 0
FindsOperand w k item v = (st : Store Frames) → st.world ≡ world_of w
    → GoesOn (the_value (item_in (extent_of w.heap) item)) (here flat (stack_in (extent_of w.heap) k) st)
    (value_in (extent_of w.heap) v) (here flat (stack_in (extent_of w.heap) k) st)

-- an operation comes to this on two operands, wherever they have these values in this world
abbrev pub ComesOnValues : World → Op → Val → Val → ItemOutcome → Type 0
ComesOnValues w op a b given = (x y : values.Item) (s : Setting) → s.world ≡ world_of w
    → GoesOn (the_value x) s (value_in (extent_of w.heap) a) s
    → GoesOn (the_value y) s (value_in (extent_of w.heap) b) s
    → operation_row op (x ∷ y ∷ []) s ≡ given_in (extent_of w.heap) given s

-- it comes to this on these operands, the lower one first, on this stack in this world
abbrev pub ComesOverValues : World → Op → FlatStack → Item × Item → ItemOutcome → Type 0
ComesOverValues w op k two given = (st : Store Frames) → st.world ≡ world_of w
    → operation_row op (map (item_in (extent_of w.heap)) (two.0 ∷ two.1 ∷ []))
    (here flat (stack_in (extent_of w.heap) k) st)
    ≡ given_in (extent_of w.heap) given (here flat (stack_in (extent_of w.heap) k) st)

-- an item is of this world, whatever locals there are, and names nothing
pub record IsPlainItem (w : World) (item : Item) : Type 0 where
  pub live : (locals : ℕ) → IsLiveItem (with_locals locals (reach_of w [])) item
  pub named : (names : Names) → ItemNamed names (item_in (extent_of w.heap) item)

-- so is what is given
abbrev pub IsPlain : World → ItemOutcome → Type 0
IsPlain w Answers.Fails = ⊤
IsPlain w (Answers.Gives item) = IsPlainItem w item

-- what is given is pushed; the code fails elsewhere
abbrev pub GivesAtOnce : ItemOutcome → FlatStack → FlatStack → RunState → Type 0
GivesAtOnce Answers.Fails m n stage = (stage ≡ RunStates.Failing) × (n ≡ m)
GivesAtOnce (Answers.Gives item) m n stage = (stage ≡ RunStates.Running) × (n ≡ push item m)
