-- What the evaluation of each form goes on as.
use Rattle.std.specs.Prelude.{ℕ, pos, false, List, [], ◌∷◌, ◌++◌, length, Option, Some, None, bytes_eq, if◌then◌else◌}
use Rattle.icn_text.specs.Keywords.{keyword_name}
use Rattle.icn_text.specs.declared.keyword.Keyword.{Keyword as KeywordName}
use Rattle.icn_text.specs.declared.keyword.TheConstants.Keyword.{ALL as keywords}
use Rattle.icn_text.specs.declared.op.Op.{Op}
use Rattle.icn_text.specs.declared.op.Op.TheVariants.{Subscript as SubscriptOp, ToBy}
use Rattle.icn_tree.specs.declared.token.Operator.{Operator}
use Rattle.icn_tree.specs.declared.token.Operator.TheVariants.{Ampersand, Question, Bar, Backslash, At, Bang}
use Rattle.icn_tree.specs.declared.tree.Place.{Place}
use Rattle.icn_tree.specs.declared.tree.Literal.{Literal}
use Rattle.icn_tree.specs.declared.tree.Literal.TheVariants.{Integer as IntegerLiteral, Text as TextLiteral, Cset as CsetLiteral}
use Rattle.icn_tree.specs.declared.tree.Infix.TheVariants.{Plain, Augmented}
use Rattle.icn_tree.specs.declared.tree.LoopKind.{LoopKind}
use Rattle.icn_tree.specs.declared.tree.LoopKind.TheVariants as Loops
use Rattle.icn_tree.specs.Trees.{Tree, Trees, MaybeTree, Empty, Constant, Identifier, Keyword, Parentheses, Listing, Compound, Call, CoCall, Subscript, Section, Field, Prefix, Not, Binary, To, If, Case, Loop, Repeat, Create, Next, Fail, Break, Return, Suspend, Absent, Present, NoTrees, More, elements_of}
use Rattle.icn_value.specs.Values.{Value, Null, Integer, Text, Chars, Item, Val, Var, Whole}
use Rattle.icn_defs.specs.Keywords.{Standing, keyword_item}
use Rattle.icn_meaning.specs.Operators.{prefix_op, infix_op, section_op}
use Rattle.icn_meaning.specs.Program.{Program, meaning_of}
use Rattle.icn_meaning.specs.Contexts.{Operating, Calling, Spreading, Collecting, Taking, Activating, frame_of, Works, Nothing, ◌and_then◌, Choices, ◌or_else◌, Then, Cut, Raise, Limit, Scan, Update, Each, Select, Returning, Suspending, Do, Again, Go, Give, Fails, Pass, Body, Off, Surroundings, InLoop, InControl, Store, Evaluation, eval, succeed, fail, lost}
use Rattle.icn_meaning.specs.Actions.{off, act, break, next}
use Rattle.icn_meaning.specs.Coexpressions.{activator_of, create}
use Rattle.icn_meaning.specs.Calls.{operands}

-- the value of a literal
abbrev pub literal : Literal → Value
literal (IntegerLiteral n) = Integer n
literal (TextLiteral bytes) = Text bytes
literal (CsetLiteral members) = Chars members

-- the keyword of this name, if it is among these
abbrev pub keyword_among : List ℕ → List KeywordName → Option KeywordName
keyword_among name [] = None
keyword_among name (keyword ∷ others) =
    if bytes_eq name (keyword_name keyword) then Some keyword else keyword_among name others

-- a value is the result
abbrev pub give_value : Value → Works → Choices → Store → Evaluation
give_value v k r st = succeed (Val v) k r st

-- what keywords tell of the run: the level, the active co-expression and its activator, and the error that is kept
abbrev pub standing_of : Surroundings → Store → Standing
standing_of s st =
    record {
      level = (frame_of s).level;
      current = st.active;
      source = activator_of st.active st;
      kept = st.world.kept;
    }

-- the item is the result, or it fails
abbrev pub item_or_failure : Option Item → Works → Choices → Store → Evaluation
item_or_failure (Some x) k r st = succeed x k r st
item_or_failure None k r st = fail r st

-- a keyword gives its value or variable, or fails
abbrev pub keyword : Option KeywordName → Surroundings → Works → Choices → Store → Evaluation
keyword (Some word) s k r st = item_or_failure (keyword_item (standing_of s st) word) k r st
keyword None s k r st = lost

-- `{e1; e2; ..}`: the first, bounded, and then the rest; an empty one before the last is passed over. No program has
-- a row without an expression.
abbrev pub compound : Place → Trees → Surroundings → Works → Choices → Store → Evaluation
compound place NoTrees s k r st = lost
compound place (More e NoTrees) s k r st = eval e s k r st
compound place (More Empty (More e es)) s k r st = compound place (More e es) s k r st
compound place (More d (More e es)) s k r st =
    eval d s (Cut r (Go (Compound place (More e es)) s k) and_then Nothing)
    (Do (Go (Compound place (More e es)) s k) or_else r) st

-- `(e1, e2, ..)`: the first and then the rest
abbrev pub conjunction : Place → Trees → Surroundings → Works → Choices → Store → Evaluation
conjunction place NoTrees s k r st = lost
conjunction place (More e NoTrees) s k r st = eval e s k r st
conjunction place (More d (More e es)) s k r st =
    eval d s (Then (Parentheses place (More e es)) s and_then k) r st

-- `x[i, j]` is `x[i][j]`
abbrev pub subscripts : Program → Place → Tree → Trees → Surroundings → Works → Choices → Store → Evaluation
subscripts program place x NoTrees s k r st = lost
subscripts program place x (More i NoTrees) s k r st =
    operands program (Operating SubscriptOp) [] (More x (More i NoTrees)) s k r st
subscripts program place x (More i (More j js)) s k r st =
    subscripts program place (Subscript place x (More i NoTrees)) (More j js) s k r st

-- a co-expression of each expression
abbrev pub creations : Place → Trees → Trees
creations place NoTrees = NoTrees
creations place (More e es) = More (Create place e) (creations place es)

-- the step of `to`, which is 1 where none is written
abbrev pub step_of : Place → MaybeTree → Tree
step_of place Absent = Constant place (IntegerLiteral (pos 1))
step_of place (Present by) = by

-- the `else` part is evaluated where the condition fails, if there is one
abbrev pub otherwise : MaybeTree → Surroundings → Works → Choices → Choices
otherwise Absent s k r = r
otherwise (Present b) s k r = Do (Go b s k) or_else r

-- `|e`, with the flag that tells whether a round gave a result
abbrev pub repeat_alternation : Tree → Surroundings → ℕ → Works → Choices → Store → Evaluation
repeat_alternation e s flag k r st = eval e s (Raise flag and_then k) (Again e s flag k or_else r)
    (record st { flags = st.flags ++ false ∷ [] })

-- the surroundings in a loop whose next pass is also what `next` does
abbrev pub inside : Tree → Surroundings → Works → Choices → Surroundings
inside loop s k r = InLoop s k r (Pass loop s k) r

-- the three loops with a control expression
abbrev pub loops : LoopKind → Tree → Tree → MaybeTree → Surroundings → Works → Choices → Store → Evaluation
loops Loops.While loop c b s k r st =
    eval c (inside loop s k r) (Cut r (Body b (inside loop s k r) (Pass loop s k)) and_then Nothing) r st
loops Loops.Until loop c b s k r st = eval c (inside loop s k r) (Cut r Fails and_then Nothing)
    (Do (Body b (inside loop s k r) (Pass loop s k)) or_else r) st
loops Loops.Every loop e b s k r st = eval e (InControl s k r) (Each b s k r and_then Nothing) r st

-- an operation is applied to these operands; where an operator is none in its place, no program has it
abbrev pub operate : Program → Option Op → Trees → Surroundings → Works → Choices → Store → Evaluation
operate program (Some op) es s k r st = operands program (Operating op) [] es s k r st
operate program None es s k r st = lost

-- an operator before its operand
abbrev pub before : Program → Operator → Tree → Surroundings → Works → Choices → Store → Evaluation
before program Bar e s k r st = repeat_alternation e s (length st.flags) k r st
before program At e s k r st = operands program Activating [] (More Empty (More e NoTrees)) s k r st
before program o e s k r st = operate program (prefix_op o) (More e NoTrees) s k r st

-- an operator between two operands
abbrev pub between : Program → Operator → Tree → Tree → Surroundings → Works → Choices → Store → Evaluation
between program Ampersand a b s k r st = eval a s (Then b s and_then k) r st
between program Question a b s k r st = eval a s (Scan b s and_then k) r st
between program Bar a b s k r st = eval a s k (Do (Go b s k) or_else r) st
between program Backslash a b s k r st = eval b s (Limit a s and_then k) r st
between program At a b s k r st = operands program Activating [] (More a (More b NoTrees)) s k r st
between program Bang a b s k r st = operands program Spreading [] (More a (More b NoTrees)) s k r st
between program o a b s k r st = operate program (infix_op o) (More a (More b NoTrees)) s k r st

-- what the evaluation of an expression goes on as
abbrev pub on_eval : Program → Tree → Surroundings → Works → Choices → Store → Evaluation
on_eval program Empty s k r st = give_value Null k r st
on_eval program (Constant place value) s k r st = give_value (literal value) k r st
on_eval program (Identifier name) s k r st =
    succeed (Var (Whole (meaning_of program (frame_of s).procedure name.text))) k r st
on_eval program (Keyword place name) s k r st = keyword (keyword_among name.text keywords) s k r st
on_eval program (Parentheses place es) s k r st = conjunction place es s k r st
on_eval program (Listing place es) s k r st = operands program Collecting [] (elements_of es) s k r st
on_eval program (Compound place es) s k r st = compound place es s k r st
on_eval program (Call place f es) s k r st = operands program Calling [] (More f (elements_of es)) s k r st
on_eval program (CoCall place f es) s k r st = operands program Calling []
    (More f (More (Listing place (creations place (elements_of es))) NoTrees)) s k r st
on_eval program (Subscript place x is) s k r st = subscripts program place x is s k r st
on_eval program (Section place kind x i j) s k r st =
    operands program (Operating (section_op kind)) [] (More x (More i (More j NoTrees))) s k r st
on_eval program (Field place x name) s k r st =
    operands program (Taking name.text) [] (More x NoTrees) s k r st
on_eval program (Prefix place o e) s k r st = before program o e s k r st
on_eval program (Not place e) s k r st =
    eval e s (Cut r Fails and_then Nothing) (Do (Give Null k) or_else r) st
on_eval program (Binary place (Plain o) a b) s k r st = between program o a b s k r st
on_eval program (Binary place (Augmented o) x y) s k r st = eval x s (Update o y s and_then k) r st
on_eval program (To place i j by) s k r st =
    operands program (Operating ToBy) [] (More i (More j (More (step_of place by) NoTrees))) s k r st
on_eval program (If place c a b) s k r st =
    eval c s (Cut r (Go a s k) and_then Nothing) (otherwise b s k r) st
on_eval program (Case place e cases) s k r st = eval e s (Select cases s k r and_then Nothing) r st
on_eval program (Loop place kind e b) s k r st = loops kind (Loop place kind e b) e b s k r st
on_eval program (Repeat place b) s k r st =
    act (Body (Present b) (inside (Repeat place b) s k r) (Pass (Repeat place b) s k)) r st
on_eval program (Create place e) s k r st = create e s k r st
on_eval program (Next place) s k r st = next s st
on_eval program (Fail place) s k r st = off s st
on_eval program (Break place e) s k r st = break e s st
on_eval program (Return place e) s k r st = eval e s (Returning s and_then Nothing) (Do (Off s) or_else r) st
on_eval program (Suspend place e b) s k r st = eval e s (Suspending b s and_then Nothing) r st
