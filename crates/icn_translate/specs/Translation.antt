-- The translation of a tree: what each form adds to a draft, read from the left to the right as it is written.
use Rattle.std.specs.Prelude.{ℕ, suc, pos, Bool, true, false, Option, None, Some}
use Rattle.icn_text.specs.declared.keyword.Keyword.{Keyword as KeywordNamed}
use Rattle.icn_text.specs.declared.op.Op.TheVariants as O
use Rattle.icn_tree.specs.declared.tree.Infix.TheVariants.{Plain, Augmented}
use Rattle.icn_tree.specs.declared.tree.LoopKind.{LoopKind}
use Rattle.icn_tree.specs.declared.tree.LoopKind.TheVariants.{While, Until, Every}
use Rattle.icn_tree.specs.Trees.{Initial, NoInitial, Initially, Tree, MaybeTree, Trees, Clause, Clauses, Empty, Constant, Identifier, Keyword, Parentheses, Listing, Compound, Call, CoCall, Subscript, Section, Field, Prefix, Not, Binary, To, If, Case, Loop, Repeat, Create, Next, Fail, Break, Return, Suspend, Absent, Present, NoTrees, More, Default, Guarded, NoClauses, MoreClauses, elements_of}
use Rattle.icn_unit.specs.declared.unit.UnitInstr.{UnitInstr}
use Rattle.icn_unit.specs.declared.unit.UnitInstr.TheVariants as I
use Rattle.icn_unit.specs.UnitOperands.{keyword_of}
use Rattle.icn_translate.specs.declared.forms.InfixForm.{InfixForm}
use Rattle.icn_translate.specs.declared.forms.UpdateForm.{UpdateForm}
use Rattle.icn_translate.specs.declared.forms.PrefixForm.{PrefixForm}
use Rattle.icn_translate.specs.declared.forms.InfixForm.TheVariants.{Both, Scanning, Either, Limiting, Activating, Spreading, Operating}
use Rattle.icn_translate.specs.declared.forms.UpdateForm.TheVariants.{Both as UpdatesBoth, Scanning as UpdatesScanning, Activating as UpdatesActivating, Operating as UpdatesOperating}
use Rattle.icn_translate.specs.declared.forms.PrefixForm.TheVariants.{Activation, Repetition, Operation}
use Rattle.icn_translate.specs.Drafts.{Draft, ◌▹◌, put, next_label, with_label, put_variable, no_ways, in_loop, outside_loop, aside, put_next, put_last, in_case, outside_case, put_end}
use Rattle.icn_translate.specs.Instructions.{literal_instr, keyword_instr, section_op, infix_form, update_form, prefix_form}
use Rattle.icn_translate.specs.OpenMarks.{OpenMarks, Outermost, Marked, Looped, Controlled, Each, is_loopless, is_nextless, unmarks_for_break, unmarks_for_next, around}

-- the empty expression
abbrev pub is_empty : Tree → Bool
is_empty Empty = true
is_empty tree = false

-- no tree at all
abbrev pub is_nothing : Trees → Bool
is_nothing NoTrees = true
is_nothing (More e es) = false

-- how many trees there are
abbrev pub count_of : Trees → ℕ
count_of NoTrees = 0
count_of (More e es) = suc (count_of es)

-- how many elements a list has: none, where it is one empty expression
abbrev pub elements : Trees → ℕ
elements es = count_of (elements_of es)

-- the one empty expression by which a list without elements is written
abbrev pub is_no_element : Trees → Bool
is_no_element (More Empty NoTrees) = true
is_no_element es = false

-- `mark` with a new label
abbrev pub put_mark : Draft → Draft
put_mark d = d ▹ with_label ▹ put (I.Mark (next_label d))

-- a step in a mark with a new label, which stands behind it
abbrev pub bounded_code : (Draft → Draft) → Draft → Draft
bounded_code step d = d ▹ put_mark ▹ step ▹ put I.Unmark ▹ put (I.Lab (next_label d))

-- the body of a co-expression in what makes it, where its second label is this
abbrev pub created_behind : ℕ → (Draft → Draft) → Draft → Draft
created_behind outer body d = d ▹ put_mark ▹ body ▹ put I.Coret ▹ put I.Efail ▹ put (I.Lab (next_label d))
    ▹ put I.Cofail ▹ put (I.Lab outer)

-- what makes a co-expression of this body
abbrev pub create_code : (Draft → Draft) → Draft → Draft
create_code body d = d ▹ with_label ▹ put (I.Create (next_label d)) ▹ created_behind (next_label d) body

-- the first mark of `if`, which has a label where there is an `else`
abbrev pub if_mark : MaybeTree → Draft → Draft
if_mark Absent d = d ▹ put I.Mark0
if_mark (Present b) d = d ▹ put_mark

-- a step, but for an empty expression
abbrev pub unless_empty : Tree → (Draft → Draft) → Draft → Draft
unless_empty e step d = elim (is_empty e) as (λ is. Draft) [ true ↦ d | false ↦ d ▹ step ]

-- a branch behind `goto` with a new label, which stands behind it, where the label before it is this
abbrev pub alternative : (Draft → Draft) → ℕ → Draft → Draft
alternative branch label d =
    d ▹ with_label ▹ put (I.Goto (next_label d)) ▹ put (I.Lab label) ▹ branch ▹ put (I.Lab (next_label d))

-- `until`, behind its first label
abbrev pub until_part : (Draft → Draft) → Draft → Draft
until_part control d = d ▹ put_mark ▹ control ▹ put I.Unmark ▹ put I.Efail ▹ put (I.Lab (next_label d))

-- a loop with its control expression, before its `do` part
abbrev pub control_part : LoopKind → (Draft → Draft) → Draft → Draft
control_part While control d =
    d ▹ with_label ▹ put (I.Lab (next_label d)) ▹ in_loop no_ways ▹ put I.Mark0 ▹ control ▹ put I.Unmark
control_part Until control d =
    d ▹ with_label ▹ put (I.Lab (next_label d)) ▹ in_loop no_ways ▹ until_part control
control_part Every control d = d ▹ in_loop no_ways ▹ put I.Mark0 ▹ control ▹ put I.Pop

-- what is open in the control expression of a loop: in that of `every` its mark stays for the next pass
abbrev pub in_control : LoopKind → OpenMarks → OpenMarks
in_control While o = Marked (Looped o)
in_control Until o = Marked (Looped o)
in_control Every o = Controlled o

-- what is open where the `do` part of a loop begins
abbrev pub in_body : LoopKind → OpenMarks → OpenMarks
in_body While o = Looped o
in_body Until o = Looped o
in_body Every o = Each o

-- what goes on with the next pass of a loop, whose first label is this
abbrev pub back : LoopKind → ℕ → UnitInstr
back While label = I.Loop label
back Until label = I.Loop label
back Every label = I.Efail

-- the end of a loop: the label that `next` goes to, what goes on with its next pass, and the last label
abbrev pub loop_end : UnitInstr → Draft → Draft
loop_end instr d = d ▹ put_next I.Lab ▹ put instr ▹ put_last I.Lab ▹ outside_loop

-- one step or another
abbrev pub either_step : Bool → (Draft → Draft) → (Draft → Draft) → Draft → Draft
either_step is step other d = elim is as (λ is. Draft) [ true ↦ d ▹ step | false ↦ d ▹ other ]

-- a keyword; one that is unknown never stands in a program, and has no code
abbrev pub keyword_code : Option KeywordNamed → Draft → Draft
keyword_code (Some keyword) d = d ▹ put (keyword_instr keyword)
keyword_code None d = d

-- an operator before its operand, whose code is this, and this in a mark; one that never stands there has no code
abbrev pub prefix_by : Option PrefixForm → (operand marked : Draft → Draft) → Draft → Draft
prefix_by (Some Activation) operand marked d = d ▹ put I.Pnull ▹ operand ▹ put I.Coact
prefix_by (Some Repetition) operand marked d = d ▹ with_label ▹ put (I.Lab (next_label d)) ▹ put I.Mark0 ▹ marked
    ▹ put (I.Chfail (next_label d)) ▹ put I.Esusp
prefix_by (Some (Operation op)) operand marked d = d ▹ operand ▹ put (I.Op op)
prefix_by None operand marked d = d

-- an operator between operands, where the code of the first in a mark is this; one that never stands there has no code
abbrev pub plain_form : Option InfixForm → (left marked right : Draft → Draft) → Draft → Draft
plain_form (Some Both) left marked right d = d ▹ left ▹ put I.Pop ▹ right
plain_form (Some Scanning) left marked right d = d ▹ left ▹ put I.Bscan ▹ right ▹ put I.Escan
plain_form (Some Either) left marked right d = d ▹ put_mark ▹ marked ▹ put I.Esusp ▹ alternative right (next_label d)
plain_form (Some Limiting) left marked right d = d ▹ right ▹ put I.Limit ▹ marked ▹ put I.Lsusp
plain_form (Some Activating) left marked right d = d ▹ left ▹ right ▹ put I.Coact
plain_form (Some Spreading) left marked right d = d ▹ left ▹ right ▹ put I.Appl
plain_form (Some (Operating op)) left marked right d = d ▹ left ▹ right ▹ put (I.Op op)
plain_form None left marked right d = d

-- an instruction between a variable and `:=`
abbrev pub update : UnitInstr → (left right : Draft → Draft) → Draft → Draft
update instr left right d = d ▹ left ▹ put I.Dup ▹ right ▹ put instr ▹ put (I.Op O.Assign)

-- an operator with `:=` behind it; one that never stands there has no code
abbrev pub augmented_form : Option UpdateForm → (left right : Draft → Draft) → Draft → Draft
augmented_form (Some UpdatesBoth) left right d = d ▹ left ▹ right ▹ put (I.Op O.Assign)
augmented_form (Some UpdatesScanning) left right d =
    d ▹ left ▹ put I.Dup ▹ put I.Bscan ▹ right ▹ put I.Escan ▹ put (I.Op O.Assign)
augmented_form (Some UpdatesActivating) left right d = d ▹ update I.Coact left right
augmented_form (Some (UpdatesOperating op)) left right d = d ▹ update (I.Op op) left right
augmented_form None left right d = d

-- the clauses of `case` behind its subject: those that are guarded, and the default
abbrev pub case_of : (guards default : Draft → Draft) → Draft → Draft
case_of guards default d = d ▹ in_case None ▹ guards ▹ put I.Pop ▹ default ▹ put_end I.Lab ▹ outside_case

-- the body of a loop
abbrev pub looped_body : (Draft → Draft) → Draft → Draft
looped_body code d = d ▹ put_next I.Mark ▹ code ▹ put I.Unmark

-- `next`; where it may not stand it has no code
abbrev pub next_code : OpenMarks → Draft → Draft
next_code o d = elim (is_nextless o) as (λ is. Draft) [
  | true ↦ d
  | false ↦ d ▹ unmarks_for_next o ▹ put_next I.Goto
]

-- `break`, where the code of its operand is this; where no loop is open it never stands, and has no code
abbrev pub break_code : OpenMarks → (operand : Draft → Draft) → Draft → Draft
break_code o operand d = elim (is_loopless o) as (λ is. Draft) [
  | true ↦ d
  | false ↦ d ▹ unmarks_for_break o ▹ aside operand ▹ put_last I.Goto
]

-- The translation of trees, with that of their parts
abbrev mutual
  -- what a form adds, with these marks and loops open
  pub translate : OpenMarks → Tree → Draft → Draft
  translate o Empty d = d ▹ put I.Pnull
  translate o (Constant place value) d = d ▹ put (literal_instr value)
  translate o (Identifier name) d = d ▹ put_variable name.text
  translate o (Keyword place name) d = d ▹ keyword_code (keyword_of name.text)
  translate o (Parentheses place es) d = d ▹ conjunction o es
  translate o (Listing place es) d = d ▹ arguments o es ▹ put (I.Llist (elements es))
  translate o (Compound place es) d = d ▹ compound o es
  translate o (Call place f es) d = d ▹ translate o f ▹ arguments o es ▹ put (I.Invoke (elements es))
  translate o (CoCall place f es) d =
      d ▹ translate o f ▹ creations es ▹ put (I.Llist (elements es)) ▹ put (I.Invoke 1)
  translate o (Subscript place x is) d = d ▹ translate o x ▹ subscripts o is
  translate o (Section place kind x i j) d =
      d ▹ translate o x ▹ translate o i ▹ translate o j ▹ put (I.Op (section_op kind))
  translate o (Field place x name) d = d ▹ translate o x ▹ put (I.Field name.text)
  translate o (Prefix place operator x) d =
      d ▹ prefix_by (prefix_form operator) (translate o x) (translate (Marked o) x)
  translate o (Not place x) d = d ▹ put_mark ▹ translate (Marked o) x ▹ put I.Unmark ▹ put I.Efail
      ▹ put (I.Lab (next_label d)) ▹ put I.Pnull
  translate o (Binary place (Plain operator) a b) d =
      d ▹ plain_form (infix_form operator) (translate o a) (translate (Marked o) a) (translate o b)
  translate o (Binary place (Augmented operator) a b) d =
      d ▹ augmented_form (update_form operator) (translate o a) (translate o b)
  translate o (To place a b by) d = d ▹ translate o a ▹ translate o b ▹ to_step o by ▹ put (I.Op O.ToBy)
  translate o (If place c a b) d = d ▹ if_mark b ▹ translate (Marked o) c ▹ put I.Unmark ▹ translate o a
      ▹ otherwise o b (next_label d)
  translate o (Case place e clauses) d = d ▹ put I.Mark0 ▹ translate (Marked o) e ▹ put I.Eret
      ▹ case_of (guarded_part o clauses) (default_part o clauses)
  translate o (Loop place kind c b) d = d ▹ control_part kind (translate (in_control kind o) c)
      ▹ looped_part (Marked (in_body kind o)) b ▹ loop_end (back kind (next_label d))
  translate o (Repeat place b) d = d ▹ with_label ▹ put (I.Lab (next_label d)) ▹ in_loop no_ways
      ▹ looped_body (translate (Marked (Looped o)) b) ▹ loop_end (I.Loop (next_label d))
  translate o (Create place e) d = d ▹ create_code (translate Outermost e)
  translate o (Next place) d = d ▹ next_code o
  translate o (Fail place) d = d ▹ put I.Pfail
  translate o (Break place e) d = d ▹ break_code o (translate (around o) e)
  translate o (Return place e) d = d ▹ put_mark ▹ translate (Marked o) e ▹ put I.Pret
      ▹ put (I.Lab (next_label d)) ▹ put I.Pfail
  translate o (Suspend place e b) d = d ▹ put I.Mark0 ▹ translate (Marked o) e ▹ put I.Psusp ▹ put I.Pop
      ▹ suspended_part (Marked (Marked o)) b ▹ put I.Efail

  -- operands, one behind the other
  pub operands : OpenMarks → Trees → Draft → Draft
  operands o NoTrees d = d
  operands o (More e es) d = d ▹ translate o e ▹ operands o es

  pub arguments : OpenMarks → Trees → Draft → Draft
  arguments o NoTrees d = d
  arguments o (More e es) d = elim (is_no_element (More e es)) as (λ is. Draft) [
    | true ↦ d
    | false ↦ d ▹ translate o e ▹ operands o es
  ]

  -- expressions with `pop` between them
  pub conjunction : OpenMarks → Trees → Draft → Draft
  conjunction o NoTrees d = d
  conjunction o (More e es) d = d ▹ translate o e ▹ conjuncts o es

  pub conjuncts : OpenMarks → Trees → Draft → Draft
  conjuncts o NoTrees d = d
  conjuncts o (More e es) d = d ▹ put I.Pop ▹ translate o e ▹ conjuncts o es

  -- each expression but the last is bounded; where it is empty it has no code
  pub compound : OpenMarks → Trees → Draft → Draft
  compound o NoTrees d = d
  compound o (More e es) d =
      d ▹ either_step (is_nothing es) (translate o e) (unless_empty e (bounded_code (translate (Marked o) e)))
      ▹ compound o es

  -- a co-expression of each element
  pub creations : Trees → Draft → Draft
  creations NoTrees d = d
  creations (More e es) d = elim (is_no_element (More e es)) as (λ is. Draft) [
    | true ↦ d
    | false ↦ d ▹ create_code (translate Outermost e) ▹ other_creations es
  ]

  pub other_creations : Trees → Draft → Draft
  other_creations NoTrees d = d
  other_creations (More e es) d = d ▹ create_code (translate Outermost e) ▹ other_creations es

  pub subscripts : OpenMarks → Trees → Draft → Draft
  subscripts o NoTrees d = d
  subscripts o (More e es) d = d ▹ translate o e ▹ put (I.Op O.Subscript) ▹ subscripts o es

  -- the step of `to`, which is 1 where there is no `by`
  pub to_step : OpenMarks → MaybeTree → Draft → Draft
  to_step o Absent d = d ▹ put (I.Int (pos 1))
  to_step o (Present e) d = d ▹ translate o e

  -- behind the first branch of `if`, where the label of its mark is this
  pub otherwise : OpenMarks → MaybeTree → ℕ → Draft → Draft
  otherwise o Absent label d = d
  otherwise o (Present b) label d = d ▹ alternative (translate o b) label

  -- the `do` part of a loop, and that of `suspend`
  pub looped_part : OpenMarks → MaybeTree → Draft → Draft
  looped_part o Absent d = d
  looped_part o (Present b) d = d ▹ looped_body (translate o b)

  pub suspended_part : OpenMarks → MaybeTree → Draft → Draft
  suspended_part o Absent d = d ▹ with_label ▹ put (I.Lab (next_label d))
  suspended_part o (Present b) d = d ▹ bounded_code (translate o b)

  -- the clauses but the default
  pub guarded_part : OpenMarks → Clauses → Draft → Draft
  guarded_part o NoClauses d = d
  guarded_part o (MoreClauses clause clauses) d = d ▹ guarded_clause o clause ▹ guarded_part o clauses

  pub guarded_clause : OpenMarks → Clause → Draft → Draft
  guarded_clause o (Default place e) d = d
  guarded_clause o (Guarded place s b) d =
      d ▹ put_mark ▹ put I.Ccase ▹ translate (Marked o) s ▹ put (I.Op O.Equivalent)
      ▹ put I.Unmark ▹ put I.Pop ▹ translate o b ▹ put_end I.Goto ▹ put (I.Lab (next_label d))

  -- the first default, or `efail`
  pub default_part : OpenMarks → Clauses → Draft → Draft
  default_part o NoClauses d = d ▹ put I.Efail
  default_part o (MoreClauses clause clauses) d = d ▹ default_clause o clause (default_part o clauses)

  pub default_clause : OpenMarks → Clause → (Draft → Draft) → Draft → Draft
  default_clause o (Default place e) later d = d ▹ translate o e
  default_clause o (Guarded place s b) later d = d ▹ later

-- Procedures

-- the `initial` clause, which runs at the first call alone
abbrev pub initially : Initial → Draft → Draft
initially NoInitial d = d
initially (Initially place e) d = d ▹ with_label ▹ put (I.Init (next_label d)) ▹ put (I.Mark (next_label d))
    ▹ translate Outermost e ▹ put I.Unmark ▹ put (I.Lab (next_label d))

-- the expressions of a body; an empty one has no code
abbrev pub body : Trees → Draft → Draft
body NoTrees d = d
body (More e es) d = d ▹ unless_empty e (bounded_code (translate Outermost e)) ▹ body es
