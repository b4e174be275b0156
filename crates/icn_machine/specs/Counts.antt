-- Counts, which are given and go on, on the stack alone.
use Rattle.std.specs.Prelude.{◌≡◌, suc, pos, Bool, true, false, nat_lt, List, Some}
use Rattle.std.specs.Ordering.{int_eq}
use Rattle.std.specs.Result.{result_ok}
use Rattle.icn_text.specs.IntegerArithmetic.{sum}
use Rattle.icn_value.specs.declared.item.Item.TheVariants as Items
use Rattle.icn_value.specs.declared.val.Val.{Val}
use Rattle.icn_value.specs.declared.val.Val.TheVariants as Vals
use Rattle.icn_value.specs.declared.residual.Residual.TheVariants.{Counting}
use Rattle.icn_value.specs.Store.{Setting}
use Rattle.icn_defs.specs.Arithmetic.{counting_again, counts_on}
use Rattle.icn_heap.specs.Extents.{Extent}
use Rattle.icn_vars.specs.declared.outcome.Outcome.{Outcome}
use Rattle.icn_vars.specs.declared.outcome.Outcome.TheVariants.{Fails, Suspends}
use Rattle.icn_frames.specs.declared.layout.Count.{Count}
use Rattle.icn_frames.specs.declared.slots.StackSlot.{StackSlot}
use Rattle.icn_frames.specs.Stacks.{FlatStack}
use Rattle.icn_code.specs.Codes.{Tables}
use Rattle.icn_run.specs.Stacks.{Frames, flat, set_locals}
use Rattle.icn_run.specs.Step as code
use Rattle.icn_run.specs.Step.{Store, with_at}
use Rattle.icn_control.specs.StackViews.{stack_in}
use Rattle.icn_control.specs.declared.machine.RunState.{RunState}
use Rattle.icn_control.specs.declared.machine.RunState.TheVariants as RunStates
use Rattle.icn_machine.specs.Giving.{StandsAs}
use Rattle.icn_machine.specs.PlainOperations.{TellsInteger}

-- the integer is given, and kept with its end and its step; or it fails
abbrev pub count_if : Bool → Count → Outcome
count_if true count =
    Suspends (Items.Val (Vals.Integer count.given)) (Counting count.given count.last count.step)
count_if false count = Fails

-- what comes of a count at its integer: it fails where that has passed the end
abbrev pub count_outcome : Count → Outcome
count_outcome count = count_if (counts_on count.step count.last count.given) count

-- The count goes on by its step on this stack, as its row does, whatever the store is.
abbrev pub CountsOn : Count → FlatStack → FlatStack → RunState → Type 0
CountsOn count m n stage = (all : Extent) (old : Frames) (seen : Setting) (st : Store Frames)
    → set_locals seen.locals old ≡ stack_in all m
    → StandsAs (code.outcome flat (counting_again count.given count.last count.step seen) old st)
    (stack_in all n) (with_at seen st) stage

-- This count is the next one: its integer is the sum, which has not passed the end.
pub record IsNextCount (count next : Count) : Type 0 where
  pub given : result_ok (sum count.given count.step) ≡ Some next.given
  pub last : next.last ≡ count.last
  pub step : next.step ≡ count.step
  pub on : counts_on next.step next.last next.given ≡ true

-- There is none: it fails, on each stack.
abbrev pub HasNoNext : Count → Type 0
HasNoNext count = (m : FlatStack) → CountsOn count m m RunStates.Failing

-- A step of failing on this stack is a turn on the stack alone, whatever the world is.
abbrev pub FailsAsTurn : FlatStack → FlatStack → RunState → Type 0
FailsAsTurn m n stage = (all : Extent) (tables : Tables) (st : Store Frames)
    → nat_lt st.turns st.world.heap.bounds.turns ≡ true
    → StandsAs (code.fails flat tables (stack_in all m) st) (stack_in all n)
    (record st { turns = suc st.turns }) stage

-- The first integer of a count, the last one and the step are those of three operands, and the step counts.
pub record TellsCount (held : List Val) (first last step : StackSlot) (count : Count) : Type 0 where
  pub from : TellsInteger held first count.given
  pub to : TellsInteger held last count.last
  pub by : TellsInteger held step count.step
  pub counts : int_eq count.step (pos 0) ≡ false
