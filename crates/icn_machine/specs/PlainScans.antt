-- Functions of scanning that are called on the operand that is on top.
use Rattle.std.specs.Prelude.{◌≡◌, ◌+◌, ℕ, pos, List, [], ◌∷◌, Option, None, Some}
use Rattle.icn_text.specs.declared.func.Func.{Func}
use Rattle.icn_value.specs.declared.cset.Cset.{Cset}
use Rattle.icn_value.specs.declared.item.Item.TheVariants as Items
use Rattle.icn_value.specs.declared.residual.Residual.TheVariants as Residuals
use Rattle.icn_value.specs.declared.val.Span.{Span}
use Rattle.icn_value.specs.declared.val.Val.{Val}
use Rattle.icn_value.specs.declared.val.Val.TheVariants as Vals
use Rattle.icn_value.specs.Store.{Names, Outside, Setting}
use Rattle.icn_defs.specs.Applying.{function_of}
use Rattle.icn_defs.specs.Rows.{Row, thing_or_failure}
use Rattle.icn_defs.specs.Scanning.{gives_position, tabs_to}
use Rattle.icn_heap.specs.Extents.{IsText, value_in}
use Rattle.icn_heap.specs.Heaps.{extent_of}
use Rattle.icn_vars.specs.declared.outcome.Outcome.{Outcome}
use Rattle.icn_vars.specs.declared.outcome.Outcome.TheVariants as Outcomes
use Rattle.icn_vars.specs.declared.outcome.ValueOutcome.{ValueOutcome}
use Rattle.icn_vars.specs.declared.outcome.ValueOutcome.TheVariants as ValueOutcomes
use Rattle.icn_vars.specs.declared.world.World.{World}
use Rattle.icn_vars.specs.Outcomes.{IsLiveOutcome, outcome_in}
use Rattle.icn_vars.specs.Worlds.{Reach, reach_of, setting_of, world_of}
use Rattle.icn_frames.specs.Stacks.{FlatStack, local_count}
use Rattle.icn_code.specs.Codes.{Tables}
use Rattle.icn_code.specs.declared.instr.Instr.TheVariants as Instrs
use Rattle.icn_run.specs.Stacks.{Frames}
use Rattle.icn_run.specs.Step.{Store}
use Rattle.law_names.specs.RowsNamed.{OutcomeNamed}
use Rattle.law_steps.specs.StateNames.{StackNamed}
use Rattle.icn_control.specs.LiveStacks.{IsLiveStack, with_locals}
use Rattle.icn_control.specs.Soundness.{KeepsHeap}
use Rattle.icn_control.specs.StackAndWorld.{RunsWith}
use Rattle.icn_control.specs.StackViews.{instruction_state, stack_in}
use Rattle.icn_control.specs.declared.machine.RunState.{RunState}
use Rattle.icn_control.specs.declared.machine.RunState.TheVariants as RunStates
use Rattle.icn_machine.specs.declared.at_once.AtOnce.{AtOnce}
use Rattle.icn_machine.specs.declared.at_once.AtOnce.TheVariants as AtOnces
use Rattle.icn_machine.specs.Giving.{GivesOutcome}
use Rattle.icn_machine.specs.PlainFunctions.{HasValueBelow}

-- The function, called on the operand that is on top, comes to what is done with a place that was found,
-- whatever the locals are.
pub record CallsTop (func : Func) (next : ℕ → Row) (w : World) (m : FlatStack) (found : Option ℕ)
    : Type 0 where
  pub value : Val
  pub below : HasValueBelow w.globals.items m 0 value
  pub comes : (names : Names) (outside : Outside) (locals : List Val)
      → function_of names func (value_in (extent_of w.heap) value ∷ []) (setting_of outside w locals)
      ≡ thing_or_failure found next (setting_of outside w locals)

-- the place is given
abbrev pub TestsTop : Func → World → FlatStack → Option ℕ → Type 0
TestsTop func w m found = CallsTop func gives_position w m found

-- it moves to the place
abbrev pub MovesTop : Func → World → FlatStack → Option ℕ → Type 0
MovesTop func w m found = CallsTop func tabs_to w m found

-- a place as what a row gives; it fails where there is none
abbrev pub place_outcome : Option ℕ → ValueOutcome
place_outcome (Some place) = ValueOutcomes.Gives (Vals.Integer (pos place))
place_outcome None = ValueOutcomes.Fails

-- the first place before a byte of a cset in the subject, over the search; it fails where there is none
abbrev pub members_outcome : World → Cset → Option ℕ → Outcome
members_outcome w wanted (Some place) = Outcomes.Suspends (Items.Val (Vals.Integer (pos place)))
    (Residuals.Among wanted w.pair.subject place (w.pair.subject.len + 1))
members_outcome w wanted None = Outcomes.Fails

-- the first place at which a text stands in the subject, over the search; it fails where there is none
abbrev pub occurrences_outcome : World → Span → Option ℕ → Outcome
occurrences_outcome w wanted (Some place) = Outcomes.Suspends (Items.Val (Vals.Integer (pos place)))
    (Residuals.Found wanted w.pair.subject place (w.pair.subject.len + 1))
occurrences_outcome w wanted None = Outcomes.Fails

-- The outcome was given: what stands there is of the world, and names only what has a name, where that is
-- so of the outcome.
pub record GivesSo (v : World) (given : Outcome) (k n : FlatStack) (stage : RunState) : Type 0 where
  pub gives : GivesOutcome given k n stage
  pub live : (tables : Tables) (reach : Reach) → IsLiveStack tables reach k
      → IsLiveOutcome (with_locals (local_count k) reach) given → IsLiveStack tables reach n
  pub named : (names : Names) (seen : Setting) → StackNamed names (stack_in (extent_of v.heap) k)
      → OutcomeNamed names (outcome_in (extent_of v.heap) given seen)
      → StackNamed names (stack_in (extent_of v.heap) n)

-- a text that is given, and the place to which the move is taken back
abbrev pub moved_outcome : Span → ℕ → Outcome
moved_outcome text old = Outcomes.Suspends (Items.Val (Vals.Text text)) (Residuals.UndoPosition old)

-- The move to a place was made: the text between both places was pushed, over the move, and nothing else of
-- the world has changed.
pub record MovesSo (place : ℕ) (w : World) (k : FlatStack) (v : World) (n : FlatStack) : Type 0 where
  pub text : Span
  pub live : IsText (extent_of v.heap) text
  pub comes : (outside : Outside) (locals : List Val) → tabs_to place (setting_of outside w locals)
      ≡ outcome_in (extent_of v.heap) (moved_outcome text w.pair.position) (setting_of outside v locals)
  pub gives : GivesSo v (moved_outcome text w.pair.position) k n RunStates.Running
  pub heap : v.heap ≡ w.heap
  pub words : v.words ≡ w.words
  pub globals : v.globals.items ≡ w.globals.items
  pub statics : v.statics.items ≡ w.statics.items

-- A move to a place was made so, if there is one; it fails where there is none, and nothing has changed.
abbrev pub MovesAs : Option ℕ → World → FlatStack → World → FlatStack → RunState → Type 0
MovesAs (Some place) w k v n stage = (stage ≡ RunStates.Running) × MovesSo place w k v n
MovesAs None w k v n stage = (stage ≡ RunStates.Failing) × ((n ≡ k) × (v ≡ w))

-- A scan was opened on a stack in a world, and what stands there is of the world.
pub record OpensSo (w : World) (m : FlatStack) (v : World) (n : FlatStack) : Type 0 where
  pub step : (tables : Tables) (st : Store Frames) → st.world ≡ world_of w
      → RunsWith (instruction_state (extent_of w.heap) tables Instrs.Bscan m st) st v n
  pub live : (tables : Tables) → IsLiveStack tables (reach_of w []) m
      → IsLiveStack tables (reach_of v []) n
  pub same : KeepsHeap w v

-- It was opened so, or nothing has changed. Of want of memory this says nothing.
abbrev pub OpensScan : World → FlatStack → World → FlatStack → AtOnce → Type 0
OpensScan w m v n AtOnces.Running = OpensSo w m v n
OpensScan w m v n AtOnces.Failing = ⊥
OpensScan w m v n AtOnces.Hopping = ⊥
OpensScan w m v n AtOnces.Over = ⊥
OpensScan w m v n AtOnces.AtBound = ⊥
OpensScan w m v n AtOnces.NoMemory = Unit {0}
OpensScan w m v n AtOnces.Not = (n ≡ m) × (v ≡ w)
