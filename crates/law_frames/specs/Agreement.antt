-- Each call of a machine's stack is that of the definitions.
use Rattle.std.specs.Prelude.{◌≡◌, ℕ, suc, Bool, true, false, List, ◌∷◌, map, Option, Some, None, IsSome}
use Rattle.std.specs.Option.{option_map, option_and_then}
use Rattle.icn_value.specs.declared.val.Val.{Val}
use Rattle.icn_value.specs.declared.item.Item.{Item}
use Rattle.icn_value.specs.declared.item.Pair.{Pair}
use Rattle.icn_frames.specs.declared.layout.Why.{Why}
use Rattle.icn_frames.specs.Stacks as flat
use Rattle.icn_frames.specs.Stacks.{FlatStack}
use Rattle.icn_run.specs.Rows as rows
use Rattle.icn_run.specs.Calls as calls
use Rattle.icn_run.specs.Stacks as code
use Rattle.law_frames.specs.ReadStacks.{Interpretation, why_read, stack_read, popped_read, resumed_read, swapped_read, unmarked_read, counted_read}

-- what is left where the innermost mark is dropped, by its label and by whether that was set anew
abbrev pub drop_by : Interpretation → Option ℕ → Bool → FlatStack → calls.MarkDrop code.Frames
drop_by read (Some address) true m = calls.Repeats (stack_read read (flat.go address m))
drop_by read (Some address) false m = calls.Goes (stack_read read (flat.go address m))
drop_by read None again m = calls.Outside (stack_read read m)

-- What a stack that is read tells is what the stack tells, read.
pub record SameToRead (read : Interpretation) (m : FlatStack) : Type 0 where
  pub proc : code.proc (stack_read read m) ≡ flat.proc m
  pub level : code.level (stack_read read m) ≡ flat.level m
  pub is_base : code.is_base (stack_read read m) ≡ flat.is_base m
  pub locals : code.locals (stack_read read m) ≡ map read.value (flat.locals m)
  pub below : code.below (stack_read read m) ≡ option_map read.item (flat.below m)

-- A call on a stack that is read leaves what the call leaves, read.
pub record SameToCall (read : Interpretation) (m : FlatStack) : Type 0 where
  pub set_locals : (values : List Val) → code.set_locals (map read.value values) (stack_read read m)
      ≡ stack_read read (flat.set_locals values m)
  pub go : (address : ℕ) → code.go address (stack_read read m) ≡ stack_read read (flat.go address m)
  pub push : (item : Item)
      → code.push (read.item item) (stack_read read m) ≡ stack_read read (flat.push item m)
  pub pop : code.pop (stack_read read m) ≡ option_map (popped_read read) (flat.pop m)
  pub open_mark : (label : Option ℕ)
      → code.open_mark label (stack_read read m) ≡ stack_read read (flat.open_either label None m)
  pub open_limit : (label : Option ℕ) (count : ℕ)
      → code.open_limit count (stack_read read m) ≡ stack_read read (flat.open_either label (Some count) m)
  pub relabel : (label : ℕ)
      → code.relabel label (stack_read read m) ≡ option_map (stack_read read) (flat.relabel label m)
  pub count_down : IsSome (flat.count_down m)
      → code.count_down (stack_read read m) ≡ option_map (counted_read read) (flat.count_down m)
  pub unmark : code.unmark (stack_read read m) ≡ option_map (unmarked_read read) (flat.unmark m)
  pub drop_mark : (n : FlatStack) (pair : Option Pair) → flat.unmark m ≡ Some (n, pair)
      → code.drop_mark (stack_read read m) ≡ drop_by read (flat.label m) (flat.is_relabelled m) n
  pub drop_none : flat.unmark m ≡ None → code.drop_mark (stack_read read m) ≡ calls.NoMark
  pub suspend : (why : Why)
      → code.suspend (why_read read why) (stack_read read m) ≡ stack_read read (flat.suspend why m)
  pub suspend_mark : code.suspend_mark (stack_read read m)
      ≡ option_map (stack_read read) (flat.suspend_mark m)
  pub suspend_proc : code.suspend_proc (stack_read read m)
      ≡ option_map (stack_read read) (flat.suspend_proc m)
  pub resume : code.resume (stack_read read m) ≡ option_map (resumed_read read) (flat.resume m)
  pub swap_newest : (pair : Pair) → code.swap_newest (read.pair pair) (stack_read read m)
      ≡ option_map (swapped_read read) (flat.swap_newest pair m)
  pub swap_oldest : (pair : Pair) → code.swap_oldest (read.pair pair) (stack_read read m)
      ≡ option_map (swapped_read read) (flat.swap_oldest pair m)
  pub enter : (proc : ℕ) (values : List Val) → code.enter proc (map read.value values) (stack_read read m)
      ≡ stack_read read (flat.enter proc values 0 m)
  pub leave : code.leave (stack_read read m) ≡ option_map (stack_read read) (flat.leave m)

-- A stack that is begun with values that are read is the one that is begun with the values, read.
abbrev pub SameToBegin : Interpretation → Type 0
SameToBegin read = (proc : ℕ) (values : List Val) (address : ℕ) (m : code.Frames)
    → code.begin proc (map read.value values) address m ≡ stack_read read (flat.begin proc values address)

-- To take operands is to pop them one by one, the last one first.
abbrev pub TakesByPops : Type 0
TakesByPops = (n : ℕ) (m : code.Frames) (items : List rows.Item)
    → code.take_top (suc n) m m.cells items ≡ option_and_then (λ (popped : rows.Item × code.Frames).
    code.take_top n popped.1 popped.1.cells (popped.0 ∷ items)) (code.pop m)
