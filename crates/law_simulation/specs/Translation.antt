-- The translation of a tree to instructions, whose labels are places. What stands in front of an
-- instruction is counted by sizes.
use Rattle.std.specs.Prelude.{ℕ, suc, ◌+◌, ◌-◌, ℤ, pos, Bool, true, false, List, [], ◌∷◌, ◌++◌, Option, Some, None, replicate, if◌then◌else◌}
use Rattle.icn_text.specs.declared.keyword.Keyword.{Keyword as KeywordNamed}
use Rattle.icn_text.specs.declared.keyword.Keyword.TheVariants as Keywords
use Rattle.icn_text.specs.declared.keyword.TheConstants.Keyword.{ALL as keywords}
use Rattle.icn_text.specs.declared.op.Op.{Op}
use Rattle.icn_text.specs.declared.op.Op.TheVariants as Ops
use Rattle.icn_tree.specs.declared.token.Operator.{Operator}
use Rattle.icn_tree.specs.declared.token.Operator.TheVariants as Operators
use Rattle.icn_tree.specs.declared.tree.Literal.{Literal}
use Rattle.icn_tree.specs.declared.tree.Literal.TheVariants as Literals
use Rattle.icn_tree.specs.declared.tree.Infix.TheVariants.{Plain, Augmented}
use Rattle.icn_tree.specs.declared.tree.SectionKind.{SectionKind}
use Rattle.icn_tree.specs.declared.tree.SectionKind.TheVariants.{Between, Forward, Backward}
use Rattle.icn_tree.specs.declared.tree.LoopKind.TheVariants.{While, Until, Every}
use Rattle.icn_tree.specs.Trees.{Initial, NoInitial, Initially, Tree, MaybeTree, Trees, Clause, Clauses, Empty, Constant, Identifier, Keyword, Parentheses, Listing, Compound, Call, CoCall, Subscript, Section, Field, Prefix, Not, Binary, To, If, Case, Loop, Repeat, Create, Next, Fail, Break, Return, Suspend, Absent, Present, NoTrees, More, Default, Guarded, NoClauses, MoreClauses}
use Rattle.icn_code.specs.declared.instr.Instr.{Instr}
use Rattle.icn_code.specs.declared.instr.Instr.TheVariants as I
use Rattle.icn_meaning.specs.Evaluate.{keyword_among}

-- what the names and the literals of a procedure stand for
pub record SymbolTable : Type 0 where
  pub integer : ℤ → ℕ
  pub string : List ℕ → ℕ
  pub set : List ℕ → ℕ
  pub variable : List ℕ → Instr
  pub field : List ℕ → ℕ

-- of an open loop: the marks opened in it and still open; how many of these stay open at its next pass; and
-- whether `next` may stand there, as it may not in the control expression of `every`
pub record Depth : Type 0 where
  pub opened : ℕ
  pub staying : ℕ
  pub passes : Bool

-- of an open loop: the places that `break` and `next` go to
pub record LoopExits : Type 0 where
  pub last : ℕ
  pub next : ℕ

-- an open loop with all three
abbrev pub depth_of : (opened staying : ℕ) → Bool → Depth
depth_of opened staying passes = record { opened = opened; staying = staying; passes = passes }

-- an open loop with so many marks opened in it, of which so many stay open at its next pass
abbrev pub loop_of : (opened staying : ℕ) → Depth
loop_of opened staying = depth_of opened staying true

-- an open `every` in its control expression, with so many marks opened in it, of which the first stays open
abbrev pub control_of : (opened : ℕ) → Depth
control_of opened = depth_of opened 1 false

-- under one more mark
abbrev pub deeper : List Depth → List Depth
deeper [] = []
deeper (d ∷ D) = depth_of (suc d.opened) d.staying d.passes ∷ D

-- how many marks `next` drops
abbrev pub dropped_by_next : Depth → ℕ
dropped_by_next d = d.opened - d.staying

-- all but the innermost
abbrev pub around : {A : Type 0} → List A → List A
around [] = []
around (x ∷ xs) = xs

-- the place that `break` goes to; it is asked for in a loop alone
abbrev pub last_way : List LoopExits → ℕ
last_way [] = 0
last_way (w ∷ W) = w.last

-- the place that `next` goes to; it is asked for in a loop alone
abbrev pub next_way : List LoopExits → ℕ
next_way [] = 0
next_way (w ∷ W) = w.next

-- the empty expression
abbrev pub is_empty : Tree → Bool
is_empty Empty = true
is_empty tree = false

-- no tree at all
abbrev pub is_nothing : Trees → Bool
is_nothing NoTrees = true
is_nothing trees = false

-- how many trees there are
abbrev pub count_of : Trees → ℕ
count_of NoTrees = 0
count_of (More e es) = suc (count_of es)

-- the elements of a list: none, where it is one empty expression
abbrev pub is_no_element : Trees → Bool
is_no_element (More Empty NoTrees) = true
is_no_element trees = false

-- how many elements a list has: none, where it is one empty expression
abbrev pub elements : Trees → ℕ
elements trees = if is_no_element trees then 0 else count_of trees

-- what a binary operator is: `&`, `?`, `|`, `\`, or operands with an instruction behind them
pub data BinaryForm : Type 0 where
  Both : BinaryForm
  Scanning : BinaryForm
  Either : BinaryForm
  Limiting : BinaryForm
  Applying : Instr → BinaryForm

-- what an operator between two operands is; `.` and `~` never stand there
abbrev pub form_of : Operator → Option BinaryForm
form_of Operators.Ampersand = Some Both
form_of Operators.Question = Some Scanning
form_of Operators.Bar = Some Either
form_of Operators.Backslash = Some Limiting
form_of Operators.At = Some (Applying I.Coact)
form_of Operators.Bang = Some (Applying I.Appl)
form_of Operators.Star = Some (Applying (I.Op Ops.Multiply))
form_of Operators.StarStar = Some (Applying (I.Op Ops.Intersection))
form_of Operators.Plus = Some (Applying (I.Op Ops.Add))
form_of Operators.PlusPlus = Some (Applying (I.Op Ops.Union))
form_of Operators.Minus = Some (Applying (I.Op Ops.Subtract))
form_of Operators.MinusMinus = Some (Applying (I.Op Ops.Difference))
form_of Operators.Slash = Some (Applying (I.Op Ops.Divide))
form_of Operators.Percent = Some (Applying (I.Op Ops.Remainder))
form_of Operators.Caret = Some (Applying (I.Op Ops.Power))
form_of Operators.BarBar = Some (Applying (I.Op Ops.Concatenate))
form_of Operators.BarBarBar = Some (Applying (I.Op Ops.ConcatenateLists))
form_of Operators.Equal = Some (Applying (I.Op Ops.Equal))
form_of Operators.NotEqual = Some (Applying (I.Op Ops.NotEqual))
form_of Operators.EqualEqual = Some (Applying (I.Op Ops.LexicallyEqual))
form_of Operators.NotEqualEqual = Some (Applying (I.Op Ops.LexicallyNotEqual))
form_of Operators.EqualEqualEqual = Some (Applying (I.Op Ops.Equivalent))
form_of Operators.NotEqualEqualEqual = Some (Applying (I.Op Ops.NotEquivalent))
form_of Operators.Less = Some (Applying (I.Op Ops.Less))
form_of Operators.LessEqual = Some (Applying (I.Op Ops.LessOrEqual))
form_of Operators.Greater = Some (Applying (I.Op Ops.Greater))
form_of Operators.GreaterEqual = Some (Applying (I.Op Ops.GreaterOrEqual))
form_of Operators.LessLess = Some (Applying (I.Op Ops.LexicallyLess))
form_of Operators.LessLessEqual = Some (Applying (I.Op Ops.LexicallyLessOrEqual))
form_of Operators.GreaterGreater = Some (Applying (I.Op Ops.LexicallyGreater))
form_of Operators.GreaterGreaterEqual = Some (Applying (I.Op Ops.LexicallyGreaterOrEqual))
form_of Operators.Assign = Some (Applying (I.Op Ops.Assign))
form_of Operators.Swap = Some (Applying (I.Op Ops.Swap))
form_of Operators.ReversibleAssign = Some (Applying (I.Op Ops.ReversibleAssign))
form_of Operators.ReversibleSwap = Some (Applying (I.Op Ops.ReversibleSwap))
form_of Operators.Dot = None
form_of Operators.Tilde = None

-- what an operator with `:=` behind it is: `&`, `?`, or an instruction on the variable and the operand
pub data UpdateForm : Type 0 where
  UpdatesBoth : UpdateForm
  UpdatesScanning : UpdateForm
  UpdatesBy : Instr → UpdateForm

-- what an operator with `:=` behind it is; the last ones never stand there
abbrev pub update_of : Operator → Option UpdateForm
update_of Operators.Ampersand = Some UpdatesBoth
update_of Operators.Question = Some UpdatesScanning
update_of Operators.At = Some (UpdatesBy I.Coact)
update_of Operators.Star = Some (UpdatesBy (I.Op Ops.Multiply))
update_of Operators.StarStar = Some (UpdatesBy (I.Op Ops.Intersection))
update_of Operators.Plus = Some (UpdatesBy (I.Op Ops.Add))
update_of Operators.PlusPlus = Some (UpdatesBy (I.Op Ops.Union))
update_of Operators.Minus = Some (UpdatesBy (I.Op Ops.Subtract))
update_of Operators.MinusMinus = Some (UpdatesBy (I.Op Ops.Difference))
update_of Operators.Slash = Some (UpdatesBy (I.Op Ops.Divide))
update_of Operators.Percent = Some (UpdatesBy (I.Op Ops.Remainder))
update_of Operators.Caret = Some (UpdatesBy (I.Op Ops.Power))
update_of Operators.BarBar = Some (UpdatesBy (I.Op Ops.Concatenate))
update_of Operators.BarBarBar = Some (UpdatesBy (I.Op Ops.ConcatenateLists))
update_of Operators.Equal = Some (UpdatesBy (I.Op Ops.Equal))
update_of Operators.NotEqual = Some (UpdatesBy (I.Op Ops.NotEqual))
update_of Operators.EqualEqual = Some (UpdatesBy (I.Op Ops.LexicallyEqual))
update_of Operators.NotEqualEqual = Some (UpdatesBy (I.Op Ops.LexicallyNotEqual))
update_of Operators.EqualEqualEqual = Some (UpdatesBy (I.Op Ops.Equivalent))
update_of Operators.NotEqualEqualEqual = Some (UpdatesBy (I.Op Ops.NotEquivalent))
update_of Operators.Less = Some (UpdatesBy (I.Op Ops.Less))
update_of Operators.LessEqual = Some (UpdatesBy (I.Op Ops.LessOrEqual))
update_of Operators.Greater = Some (UpdatesBy (I.Op Ops.Greater))
update_of Operators.GreaterEqual = Some (UpdatesBy (I.Op Ops.GreaterOrEqual))
update_of Operators.LessLess = Some (UpdatesBy (I.Op Ops.LexicallyLess))
update_of Operators.LessLessEqual = Some (UpdatesBy (I.Op Ops.LexicallyLessOrEqual))
update_of Operators.GreaterGreater = Some (UpdatesBy (I.Op Ops.LexicallyGreater))
update_of Operators.GreaterGreaterEqual = Some (UpdatesBy (I.Op Ops.LexicallyGreaterOrEqual))
update_of Operators.Bang = None
update_of Operators.Backslash = None
update_of Operators.Bar = None
update_of Operators.Dot = None
update_of Operators.Tilde = None
update_of Operators.Assign = None
update_of Operators.Swap = None
update_of Operators.ReversibleAssign = None
update_of Operators.ReversibleSwap = None

-- what a prefix operator is: `@`, `|`, or an operation
pub data PrefixForm : Type 0 where
  Activating : PrefixForm
  Repeating : PrefixForm
  Operating : Op → PrefixForm

-- what an operator before its operand is; the last ones never stand there
abbrev pub prefix_of : Operator → Option PrefixForm
prefix_of Operators.At = Some Activating
prefix_of Operators.Bar = Some Repeating
prefix_of Operators.Bang = Some (Operating Ops.Elements)
prefix_of Operators.Star = Some (Operating Ops.Size)
prefix_of Operators.Plus = Some (Operating Ops.Number)
prefix_of Operators.Minus = Some (Operating Ops.Negate)
prefix_of Operators.Slash = Some (Operating Ops.IsNull)
prefix_of Operators.Backslash = Some (Operating Ops.IsNotNull)
prefix_of Operators.Caret = Some (Operating Ops.Refresh)
prefix_of Operators.Dot = Some (Operating Ops.Dereference)
prefix_of Operators.Question = Some (Operating Ops.Random)
prefix_of Operators.Tilde = Some (Operating Ops.Complement)
prefix_of Operators.Equal = Some (Operating Ops.TabMatch)
prefix_of Operators.Ampersand = None
prefix_of Operators.StarStar = None
prefix_of Operators.PlusPlus = None
prefix_of Operators.MinusMinus = None
prefix_of Operators.Percent = None
prefix_of Operators.BarBar = None
prefix_of Operators.BarBarBar = None
prefix_of Operators.NotEqual = None
prefix_of Operators.EqualEqual = None
prefix_of Operators.NotEqualEqual = None
prefix_of Operators.EqualEqualEqual = None
prefix_of Operators.NotEqualEqualEqual = None
prefix_of Operators.Less = None
prefix_of Operators.LessEqual = None
prefix_of Operators.Greater = None
prefix_of Operators.GreaterEqual = None
prefix_of Operators.LessLess = None
prefix_of Operators.LessLessEqual = None
prefix_of Operators.GreaterGreater = None
prefix_of Operators.GreaterGreaterEqual = None
prefix_of Operators.Assign = None
prefix_of Operators.Swap = None
prefix_of Operators.ReversibleAssign = None
prefix_of Operators.ReversibleSwap = None

-- the operation of a section, by what stands between its bounds
abbrev pub section_op : SectionKind → Op
section_op Between = Ops.Section
section_op Forward = Ops.SectionPlus
section_op Backward = Ops.SectionMinus

-- Sizes

-- a keyword; one that is unknown never stands in a program, and has no code
abbrev pub keyword_size : Option KeywordNamed → ℕ
keyword_size (Some keyword) = 1
keyword_size None = 0

-- an operator before its operand, of these sizes: as it stands, and in a mark
abbrev pub prefix_size : Option PrefixForm → (operand marked : ℕ) → ℕ
prefix_size (Some Activating) operand marked = operand + 2
prefix_size (Some Repeating) operand marked = marked + 3
prefix_size (Some (Operating op)) operand marked = operand + 1
prefix_size None operand marked = 0

-- an operator between two operands, and the first one in a mark
abbrev pub plain_size : Option BinaryForm → (left marked right : ℕ) → ℕ
plain_size (Some Both) left marked right = left + right + 1
plain_size (Some Scanning) left marked right = left + right + 2
plain_size (Some Either) left marked right = marked + right + 3
plain_size (Some Limiting) left marked right = right + marked + 2
plain_size (Some (Applying i)) left marked right = left + right + 1
plain_size None left marked right = 0

-- an operator with `:=` behind it
abbrev pub augmented_size : Option UpdateForm → (left right : ℕ) → ℕ
augmented_size (Some UpdatesBoth) left right = left + right + 1
augmented_size (Some UpdatesScanning) left right = left + right + 4
augmented_size (Some (UpdatesBy i)) left right = left + right + 3
augmented_size None left right = 0

-- `next` in the innermost of these loops; where none is open, and in the control expression of `every`, it
-- never stands, and has no code
abbrev pub next_size : List Depth → ℕ
next_size [] = 0
next_size (d ∷ D) = if d.passes then dropped_by_next d + 1 else 0

-- `break` with an operand of this size; where no loop is open it never stands, and has no code
abbrev pub break_size : List Depth → (operand : ℕ) → ℕ
break_size [] operand = 0
break_size (d ∷ D) operand = d.opened + operand + 1

-- how many instructions the code of a tree has, in loops with these depths
abbrev mutual
  pub size : List Depth → Tree → ℕ
  size D Empty = 1
  size D (Constant place value) = 1
  size D (Identifier name) = 1
  size D (Keyword place name) = keyword_size (keyword_among name.text keywords)
  size D (Parentheses place es) = conjunction_size D es
  size D (Listing place es) = elements_size D es + 1
  size D (Compound place es) = compound_size D es
  size D (Call place callee es) = size D callee + elements_size D es + 1
  size D (CoCall place callee es) = size D callee + bodies_size D es + 2
  size D (Subscript place e es) = size D e + subscripts_size D es
  size D (Section place kind e i j) = size D e + size D i + size D j + 1
  size D (Field place e name) = size D e + 1
  size D (Prefix place operator e) = prefix_size (prefix_of operator) (size D e) (size (deeper D) e)
  size D (Not place e) = size (deeper D) e + 4
  size D (Binary place (Plain operator) a b) =
      plain_size (form_of operator) (size D a) (size (deeper D) a) (size D b)
  size D (Binary place (Augmented operator) a b) = augmented_size (update_of operator) (size D a) (size D b)
  size D (To place a b by) = size D a + size D b + by_size D by + 1
  size D (If place c a b) = if_size (size (deeper D) c + size D a) D b
  size D (Case place e clauses) = size (deeper D) e + clauses_size D clauses + default_size D clauses + 3
  size D (Loop place While c b) = size (loop_of 1 0 ∷ D) c + body_size (loop_of 1 0 ∷ D) b + 3
  size D (Loop place Until c b) = size (loop_of 1 0 ∷ D) c + body_size (loop_of 1 0 ∷ D) b + 4
  size D (Loop place Every c b) = size (control_of 1 ∷ D) c + body_size (loop_of 2 1 ∷ D) b + 3
  size D (Repeat place b) = size (loop_of 1 0 ∷ D) b + 3
  size D (Create place e) = size [] e + 5
  size D (Next place) = next_size D
  size D (Fail place) = 1
  size D (Break place e) = break_size D (size (around D) e)
  size D (Return place e) = size (deeper D) e + 3
  size D (Suspend place e b) = size (deeper D) e + body_size (deeper (deeper D)) b + 4

  -- operands, one behind the other
  pub sizes : List Depth → Trees → ℕ
  sizes D NoTrees = 0
  sizes D (More e es) = size D e + sizes D es

  pub elements_size : List Depth → Trees → ℕ
  elements_size D NoTrees = 0
  elements_size D (More e es) = if is_no_element (More e es) then 0 else size D e + sizes D es

  -- expressions with `pop` between them
  pub conjunction_size : List Depth → Trees → ℕ
  conjunction_size D NoTrees = 0
  conjunction_size D (More e es) = if is_nothing es then size D e else size D e + 1 + conjunction_size D es

  -- each expression but the last is bounded, or has no code where it is empty
  pub compound_size : List Depth → Trees → ℕ
  compound_size D NoTrees = 0
  compound_size D (More e es) = if is_nothing es then size D
      e else ((if is_empty e then 0 else size (deeper D) e + 2) + compound_size D es)

  -- a co-expression of each element
  pub bodies_size : List Depth → Trees → ℕ
  bodies_size D NoTrees = 0
  bodies_size D (More e es) = if is_no_element (More e es) then 0 else size [] e + 5 + creates_size D es

  pub creates_size : List Depth → Trees → ℕ
  creates_size D NoTrees = 0
  creates_size D (More e es) = size [] e + 5 + creates_size D es

  pub subscripts_size : List Depth → Trees → ℕ
  subscripts_size D NoTrees = 0
  subscripts_size D (More e es) = size D e + 1 + subscripts_size D es

  pub by_size : List Depth → MaybeTree → ℕ
  by_size D Absent = 1
  by_size D (Present e) = size D e

  -- the control expression and the first branch, and the other
  pub if_size : ℕ → List Depth → MaybeTree → ℕ
  if_size n D Absent = n + 2
  if_size n D (Present b) = n + size D b + 3

  -- a body that is bounded
  pub body_size : List Depth → MaybeTree → ℕ
  body_size D Absent = 0
  body_size D (Present b) = size D b + 2

  -- the clauses but the default
  pub clauses_size : List Depth → Clauses → ℕ
  clauses_size D NoClauses = 0
  clauses_size D (MoreClauses clause clauses) = clause_size D clause + clauses_size D clauses

  pub clause_size : List Depth → Clause → ℕ
  clause_size D (Default place e) = 0
  clause_size D (Guarded place s b) = size (deeper D) s + size D b + 6

  -- the default, or `efail`
  pub default_size : List Depth → Clauses → ℕ
  default_size D NoClauses = 1
  default_size D (MoreClauses clause clauses) = is_default_size D clause (default_size D clauses)

  pub is_default_size : List Depth → Clause → ℕ → ℕ
  is_default_size D (Default place e) n = size D e
  is_default_size D (Guarded place s b) n = n

-- Code

-- the places that `break` and `next` go to in a loop
abbrev pub ways : (last next : ℕ) → LoopExits
ways last next = record { last = last; next = next }

-- the instruction of a literal, by its place in the tables
abbrev pub literal_code : SymbolTable → Literal → Instr
literal_code N (Literals.Integer n) = I.Int (N.integer n)
literal_code N (Literals.Text bytes) = I.Str (N.string bytes)
literal_code N (Literals.Cset bytes) = I.Cset (N.set bytes)

-- the instruction of a keyword; `&fail` fails at once
abbrev pub keyword_instr : KeywordNamed → Instr
keyword_instr Keywords.Fail = I.Efail
keyword_instr keyword = I.Keywd keyword

-- the code of a keyword; one that is unknown never stands in a program
abbrev pub keyword_code : Option KeywordNamed → List Instr
keyword_code (Some keyword) = keyword_instr keyword ∷ []
keyword_code None = []

-- a co-expression with a body of some size
abbrev pub create_code : ℕ → ℕ → List Instr → List Instr
create_code p n body = I.Create (p + n + 5) ∷ I.Mark (p + n + 4) ∷ body ++ (I.Coret ∷ I.Efail ∷ I.Cofail ∷ [])

-- an operator before its operand, with the code of that at a place: as it stands, and in a mark
abbrev pub prefix_code : Option PrefixForm → (operand marked : ℕ → List Instr) → ℕ → List Instr
prefix_code (Some Activating) operand marked p = I.Pnull ∷ operand (p + 1) ++ I.Coact ∷ []
prefix_code (Some Repeating) operand marked p = I.Mark0 ∷ marked (p + 1) ++ (I.Chfail p ∷ I.Esusp ∷ [])
prefix_code (Some (Operating op)) operand marked p = operand p ++ I.Op op ∷ []
prefix_code None operand marked p = []

-- an operator between two operands with these codes, whose sizes, and that of the first one in a mark, are l, r and m
abbrev pub plain_code : Option BinaryForm → (l m r : ℕ) → (left marked right : ℕ → List Instr) → ℕ → List Instr
plain_code (Some Both) l m r left marked right p = left p ++ I.Pop ∷ right (p + l + 1)
plain_code (Some Scanning) l m r left marked right p = left p ++ I.Bscan ∷ right (p + l + 1) ++ I.Escan ∷ []
plain_code (Some Either) l m r left marked right p =
    I.Mark (p + m + 3) ∷ marked (p + 1) ++ (I.Esusp ∷ I.Goto (p + m + 3 + r) ∷ right (p + m + 3))
plain_code (Some Limiting) l m r left marked right p = right p ++ I.Limit ∷ marked (p + r + 1) ++ I.Lsusp ∷ []
plain_code (Some (Applying i)) l m r left marked right p = left p ++ (right (p + l) ++ i ∷ [])
plain_code None l m r left marked right p = []

-- an operator with `:=` behind it, where the first operand has the size l
abbrev pub augmented_code : Option UpdateForm → ℕ → (left right : ℕ → List Instr) → ℕ → List Instr
augmented_code (Some UpdatesBoth) l left right p = left p ++ (right (p + l) ++ I.Op Ops.Assign ∷ [])
augmented_code (Some UpdatesScanning) l left right p =
    left p ++ (I.Dup ∷ I.Bscan ∷ right (p + l + 2) ++ (I.Escan ∷ I.Op Ops.Assign ∷ []))
augmented_code (Some (UpdatesBy i)) l left right p =
    left p ++ (I.Dup ∷ right (p + l + 1) ++ (i ∷ I.Op Ops.Assign ∷ []))
augmented_code None l left right p = []

-- `next` in the innermost of these loops, which goes on at this place
abbrev pub next_code : List Depth → (place : ℕ) → List Instr
next_code [] place = []
next_code (d ∷ D) place =
    if d.passes then replicate (dropped_by_next d) I.Unmark ++ I.Goto place ∷ [] else []

-- `break` out of the innermost of these loops, whose end is this place, with the code of its operand
abbrev pub break_code : List Depth → (end : ℕ) → (operand : ℕ → List Instr) → ℕ → List Instr
break_code [] end operand p = []
break_code (d ∷ D) end operand p =
    replicate d.opened I.Unmark ++ (operand (p + d.opened) ++ I.Goto end ∷ [])

-- The code of trees, with that of their parts
abbrev mutual
  -- the code of a tree that begins at a place, in loops with these depths and ways
  pub code : SymbolTable → List Depth → List LoopExits → ℕ → Tree → List Instr
  code N D W p Empty = I.Pnull ∷ []
  code N D W p (Constant place value) = literal_code N value ∷ []
  code N D W p (Identifier name) = N.variable name.text ∷ []
  code N D W p (Keyword place name) = keyword_code (keyword_among name.text keywords)
  code N D W p (Parentheses place es) = conjunction N D W p es
  code N D W p (Listing place es) = elements_code N D W p es ++ I.Llist (elements es) ∷ []
  code N D W p (Compound place es) = compound N D W p es
  code N D W p (Call place callee es) = code N D W p callee
      ++ (elements_code N D W (p + size D callee) es ++ I.Invoke (elements es) ∷ [])
  code N D W p (CoCall place callee es) = code N D W p callee
      ++ (bodies_code N (p + size D callee) es ++ (I.Llist (elements es) ∷ I.Invoke 1 ∷ []))
  code N D W p (Subscript place e es) = code N D W p e ++ subscripts N D W (p + size D e) es
  code N D W p (Section place kind e i j) = code N D W p e
      ++ (code N D W (p + size D e) i
      ++ (code N D W (p + size D e + size D i) j ++ I.Op (section_op kind) ∷ []))
  code N D W p (Field place e name) = code N D W p e ++ I.Field (N.field name.text) ∷ []
  code N D W p (Prefix place operator e) =
      prefix_code (prefix_of operator) (λ p. code N D W p e) (λ p. code N (deeper D) W p e) p
  code N D W p (Not place e) = let n = size (deeper D) e in I.Mark (p + n + 3)
      ∷ code N (deeper D) W (p + 1) e ++ (I.Unmark ∷ I.Efail ∷ I.Pnull ∷ [])
  code N D W p (Binary place (Plain operator) a b) =
      plain_code (form_of operator) (size D a) (size (deeper D) a) (size D b) (λ p. code N D W p a)
      (λ p. code N (deeper D) W p a) (λ p. code N D W p b) p
  code N D W p (Binary place (Augmented operator) a b) =
      augmented_code (update_of operator) (size D a) (λ p. code N D W p a) (λ p. code N D W p b) p
  code N D W p (To place a b by) = code N D W p a
      ++ (code N D W (p + size D a) b ++ (by_code N D W (p + size D a + size D b) by ++ I.Op Ops.ToBy ∷ []))
  code N D W p (If place c a b) =
      if_code (code N (deeper D) W (p + 1) c) (code N D W (p + size (deeper D) c + 2) a)
      (size (deeper D) c + size D a) N D W p b
  code N D W p (Case place e clauses) =
      let n = size (deeper D) e in let last = p + n + clauses_size D clauses + default_size D clauses + 3 in
      I.Mark0 ∷ code N (deeper D) W (p + 1) e
      ++ (I.Eret ∷ clauses_code N D W (p + n + 2) last clauses
      ++ (I.Pop ∷ default_code N D W (p + n + 3 + clauses_size D clauses) clauses))
  code N D W p (Loop place While c b) =
      let m = size (loop_of 1 0 ∷ D) c in let n = body_size (loop_of 1 0 ∷ D) b in let w =
      ways (p + m + n + 3) (p + m + n + 2) in
      I.Mark0 ∷ code N (loop_of 1 0 ∷ D) (w ∷ W) (p + 1) c
      ++ (I.Unmark ∷ body_code N (loop_of 1 0 ∷ D) (w ∷ W) (p + m + 2) b ++ I.Loop p ∷ [])
  code N D W p (Loop place Until c b) =
      let m = size (loop_of 1 0 ∷ D) c in let n = body_size (loop_of 1 0 ∷ D) b in let w =
      ways (p + m + n + 4) (p + m + n + 3) in
      I.Mark (p + m + 3) ∷ code N (loop_of 1 0 ∷ D) (w ∷ W) (p + 1) c
      ++ (I.Unmark ∷ I.Efail ∷ body_code N (loop_of 1 0 ∷ D) (w ∷ W) (p + m + 3) b ++ I.Loop p ∷ [])
  code N D W p (Loop place Every c b) =
      let m = size (control_of 1 ∷ D) c in let n = body_size (loop_of 2 1 ∷ D) b in let w =
      ways (p + m + n + 3) (p + m + n + 2) in
      I.Mark0 ∷ code N (control_of 1 ∷ D) (w ∷ W) (p + 1) c
      ++ (I.Pop ∷ body_code N (loop_of 2 1 ∷ D) (w ∷ W) (p + m + 2) b ++ I.Efail ∷ [])
  code N D W p (Repeat place b) =
      let n = size (loop_of 1 0 ∷ D) b in let w = ways (p + n + 3) (p + n + 2) in
      I.Mark (p + n + 2) ∷ code N (loop_of 1 0 ∷ D) (w ∷ W) (p + 1) b ++ (I.Unmark ∷ I.Loop p ∷ [])
  code N D W p (Create place e) = create_code p (size [] e) (code N [] [] (p + 2) e)
  code N D W p (Next place) = next_code D (next_way W)
  code N D W p (Fail place) = I.Pfail ∷ []
  code N D W p (Break place e) = break_code D (last_way W) (λ p. code N (around D) (around W) p e) p
  code N D W p (Return place e) = I.Mark (p + size (deeper D) e + 2) ∷ code N (deeper D) W (p + 1) e
      ++ (I.Pret ∷ I.Pfail ∷ [])
  code N D W p (Suspend place e b) =
      I.Mark0 ∷ code N (deeper D) W (p + 1) e
      ++ (I.Psusp ∷ I.Pop ∷ body_code N (deeper (deeper D)) W (p + size (deeper D) e + 3) b ++ I.Efail
      ∷ [])

  pub operands : SymbolTable → List Depth → List LoopExits → ℕ → Trees → List Instr
  operands N D W p NoTrees = []
  operands N D W p (More e es) = code N D W p e ++ operands N D W (p + size D e) es

  pub elements_code : SymbolTable → List Depth → List LoopExits → ℕ → Trees → List Instr
  elements_code N D W p NoTrees = []
  elements_code N D W p (More e es) = if is_no_element (More e es) then [] else code N D W p e
      ++ operands N D W (p + size D e) es

  pub conjunction : SymbolTable → List Depth → List LoopExits → ℕ → Trees → List Instr
  conjunction N D W p NoTrees = []
  conjunction N D W p (More e es) = if is_nothing es then code N D W p e else code N D W p e ++ I.Pop
      ∷ conjunction N D W (p + size D e + 1) es

  pub compound : SymbolTable → List Depth → List LoopExits → ℕ → Trees → List Instr
  compound N D W p NoTrees = []
  compound N D W p (More e es) = if is_nothing es then code N D W p
      e else (if is_empty e then compound N D W p es
      else I.Mark (p + size (deeper D) e + 2) ∷ code N (deeper D) W (p + 1) e ++ I.Unmark
      ∷ compound N D W (p + size (deeper D) e + 2) es)

  -- a co-expression of each element; its body stands in no loop
  pub bodies_code : SymbolTable → ℕ → Trees → List Instr
  bodies_code N p NoTrees = []
  bodies_code N p (More e es) = if is_no_element (More e es) then [] else create_code p (size [] e)
      (code N [] [] (p + 2) e) ++ creates N (p + size [] e + 5) es

  pub creates : SymbolTable → ℕ → Trees → List Instr
  creates N p NoTrees = []
  creates N p (More e es) =
      create_code p (size [] e) (code N [] [] (p + 2) e) ++ creates N (p + size [] e + 5) es

  pub subscripts : SymbolTable → List Depth → List LoopExits → ℕ → Trees → List Instr
  subscripts N D W p NoTrees = []
  subscripts N D W p (More e es) = code N D W p e ++ I.Op Ops.Subscript
      ∷ subscripts N D W (p + size D e + 1) es

  pub by_code : SymbolTable → List Depth → List LoopExits → ℕ → MaybeTree → List Instr
  by_code N D W p Absent = I.Int (N.integer (pos 1)) ∷ []
  by_code N D W p (Present e) = code N D W p e

  -- the codes of the control expression and of the first branch, and their size
  pub if_code : List Instr → List Instr → ℕ → SymbolTable → List Depth → List LoopExits → ℕ → MaybeTree
      → List Instr
  if_code c a n N D W p Absent = I.Mark0 ∷ c ++ I.Unmark ∷ a
  if_code c a n N D W p (Present b) = I.Mark (p + n + 3) ∷ c
      ++ (I.Unmark ∷ a ++ I.Goto (p + n + 3 + size D b) ∷ code N D W (p + n + 3) b)

  -- a body that is bounded; where it fails the code goes on behind it
  pub body_code : SymbolTable → List Depth → List LoopExits → ℕ → MaybeTree → List Instr
  body_code N D W p Absent = []
  body_code N D W p (Present b) = I.Mark (p + size D b + 2) ∷ code N D W (p + 1) b ++ I.Unmark ∷ []

  pub clauses_code : SymbolTable → List Depth → List LoopExits → ℕ → ℕ → Clauses → List Instr
  clauses_code N D W p last NoClauses = []
  clauses_code N D W p last (MoreClauses clause clauses) = clause_code N D W p last clause
      ++ clauses_code N D W (p + clause_size D clause) last clauses

  pub clause_code : SymbolTable → List Depth → List LoopExits → ℕ → ℕ → Clause → List Instr
  clause_code N D W p last (Default place e) = []
  clause_code N D W p last (Guarded place s b) = let n = size (deeper D) s in
      I.Mark (p + n + size D b + 6) ∷ I.Ccase ∷ code N (deeper D) W (p + 2) s
      ++ (I.Op Ops.Equivalent ∷ I.Unmark ∷ I.Pop ∷ code N D W (p + n + 5) b ++ I.Goto last ∷ [])

  pub default_code : SymbolTable → List Depth → List LoopExits → ℕ → Clauses → List Instr
  default_code N D W p NoClauses = I.Efail ∷ []
  default_code N D W p (MoreClauses clause clauses) = is_default N D W p clause (default_code N D W p clauses)

  pub is_default : SymbolTable → List Depth → List LoopExits → ℕ → Clause → List Instr → List Instr
  is_default N D W p (Default place e) later = code N D W p e
  is_default N D W p (Guarded place s b) later = later

-- a bounded expression of a body; an empty one has no code
abbrev pub bounded_code : SymbolTable → ℕ → Tree → List Instr
bounded_code N p e =
    if is_empty e then [] else I.Mark (p + size [] e + 2) ∷ code N [] [] (p + 1) e ++ I.Unmark
    ∷ []

-- how many instructions a bounded expression of a body has
abbrev pub bounded_size : Tree → ℕ
bounded_size e = if is_empty e then 0 else size [] e + 2

-- the body of a procedure from a place on, whose end fails
abbrev pub body : SymbolTable → ℕ → Trees → List Instr
body N p NoTrees = I.Pfail ∷ []
body N p (More e es) = bounded_code N p e ++ body N (p + bounded_size e) es

-- the code of a procedure
abbrev pub procedure : SymbolTable → Initial → Trees → List Instr
procedure N NoInitial es = body N 0 es
procedure N (Initially place e) es = I.Init (size [] e + 3) ∷ I.Mark (size [] e + 3) ∷ code N [] [] 2 e
    ++ I.Unmark ∷ body N (size [] e + 3) es
