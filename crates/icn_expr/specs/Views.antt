-- What the parser's values are to the definitions.
use Rattle.std.specs.Prelude.{ℕ, List, [], ◌∷◌, Option, Some, None}
use Rattle.icn_tree.specs.declared.token.Token.{Token}
use Rattle.icn_tree.specs.TreeOf.{tree_of, all_of, all_clauses_of}
use Rattle.icn_tree.specs.Trees.{Tree, Trees, Clauses}
use Rattle.icn_tree.specs.Grammar.{before}
use Rattle.icn_expr.specs.declared.value.CappedTree.{CappedTree}
use Rattle.icn_expr.specs.declared.value.Elements.{Elements as ElementsValue}
use Rattle.icn_expr.specs.declared.value.Branches.{Branches}
use Rattle.icn_expr.specs.declared.frame.Bracket.{Bracket as BracketValue}
use Rattle.icn_expr.specs.declared.frame.Bracket.TheVariants as B
use Rattle.icn_expr.specs.declared.frame.PartialForm.{PartialForm as HoldingValue}
use Rattle.icn_expr.specs.declared.frame.PartialForm.TheVariants as H
use Rattle.icn_expr.specs.declared.frame.OpenForm.{OpenForm as FrameValue}
use Rattle.icn_expr.specs.declared.stack.OpenForms.{OpenForms}
use Rattle.icn_expr.specs.declared.state.ReadingState.{ReadingState as StateValue}
use Rattle.icn_expr.specs.declared.state.ReadingState.TheVariants as S
use Rattle.icn_expr.specs.declared.reader.Progress.{Progress}
use Rattle.icn_expr.specs.declared.reader.Progress.TheVariants as P
use Rattle.icn_expr.specs.Reading.{end_of}
use Rattle.icn_expr.specs.Capped.{WithHeight, capped_at, builds_with_height}
use Rattle.icn_expr.specs.Automata.{Bracket, Round, Square, Curly, Arguments, CoArguments, Subscripts, PartialForm, Elements, SectionEnd, PrefixOperand, NotOperand, RightOperand, ToOperand, ByOperand, Condition, Consequence, Alternative, CaseSubject, ClauseGuard, GuardedValue, DefaultValue, Control, LoopBody, RepeatBody, CreateBody, BreakValue, ReturnValue, SuspendValue, SuspendBody, OpenForm, ReadingState, Starting, Climbing, Closing, Finished, Broken}

-- the tree of a value, unless it is too high
abbrev pub capped_of : CappedTree → WithHeight Tree
capped_of value = capped_at (tree_of value.expr) value.height

-- the elements of a list so far, unless one is too high
abbrev pub elements_of : ElementsValue → WithHeight Trees
elements_of elements = capped_at (all_of elements.exprs.items) elements.height

-- the clauses of a `case` so far, unless one is too high
abbrev pub branches_of : Branches → WithHeight Clauses
branches_of branches = capped_at (all_clauses_of branches.clauses.items) branches.height

-- an open bracket, with what stands before it
abbrev pub bracket_of : BracketValue → Bracket (WithHeight Tree)
bracket_of B.Round = Round
bracket_of B.Square = Square
bracket_of B.Curly = Curly
bracket_of (B.Arguments callee) = Arguments (capped_of callee)
bracket_of (B.CoArguments callee) = CoArguments (capped_of callee)
bracket_of (B.Subscripts subject) = Subscripts (capped_of subject)

-- what was read of an open form, as definitions see it
abbrev pub holding_of : HoldingValue → PartialForm (WithHeight Tree) (WithHeight Trees) (WithHeight Clauses)
holding_of (H.Elements bracket done) = Elements (bracket_of bracket) (elements_of done)
holding_of (H.SectionEnd kind subject from) = SectionEnd kind (capped_of subject) (capped_of from)
holding_of (H.PrefixOperand operator) = PrefixOperand operator
holding_of H.NotOperand = NotOperand
holding_of (H.RightOperand operator left) = RightOperand operator (capped_of left)
holding_of (H.ToOperand from) = ToOperand (capped_of from)
holding_of (H.ByOperand from to) = ByOperand (capped_of from) (capped_of to)
holding_of H.Condition = Condition
holding_of (H.Consequence condition) = Consequence (capped_of condition)
holding_of (H.Alternative condition first) = Alternative (capped_of condition) (capped_of first)
holding_of H.CaseSubject = CaseSubject
holding_of (H.ClauseGuard subject done at) = ClauseGuard (capped_of subject) (branches_of done) at
holding_of (H.GuardedValue subject done at guard) =
    GuardedValue (capped_of subject) (branches_of done) at (capped_of guard)
holding_of (H.DefaultValue subject done at) = DefaultValue (capped_of subject) (branches_of done) at
holding_of (H.Control kind) = Control kind
holding_of (H.LoopBody kind control) = LoopBody kind (capped_of control)
holding_of H.RepeatBody = RepeatBody
holding_of H.CreateBody = CreateBody
holding_of H.BreakValue = BreakValue
holding_of H.ReturnValue = ReturnValue
holding_of H.SuspendValue = SuspendValue
holding_of (H.SuspendBody value) = SuspendBody (capped_of value)

-- an open form, whose parts may be too high
abbrev pub OpenFrame : Type 0
OpenFrame = OpenForm (WithHeight Tree) (WithHeight Trees) (WithHeight Clauses)

-- an open form, as definitions see it
abbrev pub frame_of : FrameValue → OpenFrame
frame_of frame = record { level = frame.level; place = frame.place; holds = holding_of frame.holds }

-- the last frame is the newest, which stands first
abbrev pub frames_onto : List FrameValue → List OpenFrame → List OpenFrame
frames_onto [] below = below
frames_onto (frame ∷ frames) below = frames_onto frames (frame_of frame ∷ below)

-- the open forms, the newest first
abbrev pub stack_of : OpenForms → List OpenFrame
stack_of stack = frames_onto stack.frames.items []

-- where the reading stands, with trees that may be too high
abbrev pub CappedState : Type 0
CappedState = ReadingState (WithHeight Tree) (WithHeight Trees) (WithHeight Clauses)

-- where the reading stands, with the open forms and the tokens left
abbrev pub state_of : StateValue → List OpenFrame → List Token → CappedState
state_of (S.Starting level) frames tokens = Starting level frames tokens
state_of (S.StartingWith place operator) frames tokens =
    Starting 12 frames (before place (Some operator) tokens)
state_of (S.Climbing level place value) frames tokens = Climbing level place (capped_of value) frames tokens
state_of (S.Closing value present) frames tokens = Closing (capped_of value) present frames tokens
state_of (S.Finished value) frames tokens = Finished (capped_of value) tokens
state_of S.Broken frames tokens = Broken

-- what a reading comes to
abbrev pub progress_end : Progress → List OpenFrame → Option (WithHeight Tree × List Token)
progress_end (P.Found value tokens) frames = Some (capped_of value, tokens.now)
progress_end P.Nothing frames = None
progress_end (P.Going state tokens) frames = end_of builds_with_height (state_of state frames tokens.now)

-- where the reading goes on, this holds of its state and the tokens left
abbrev pub IsGoing : Progress → (StateValue → List Token → Type 0) → Type 0
IsGoing (P.Going state tokens) holds = holds state tokens.now
IsGoing _ holds = Unit {0}
