-- Words for the trees of programs.
use Prim.Native.String.{String}
use Rattle.std.specs.Prelude.{ℕ, pos, false, Bool, List, [], ◌∷◌, codes, map}
use Rattle.icn_tree.specs.declared.token.Operator.{Operator}
use Rattle.icn_tree.specs.declared.token.Operator.TheVariants.{Assign}
use Rattle.icn_tree.specs.declared.tree.DeclItem.TheVariants as Items
use Rattle.icn_tree.specs.declared.tree.Place.{Place}
use Rattle.icn_tree.specs.declared.tree.Name.{Name}
use Rattle.icn_tree.specs.declared.tree.Literal.TheVariants as Literals
use Rattle.icn_tree.specs.declared.tree.Infix.TheVariants.{Plain, Augmented}
use Rattle.icn_tree.specs.declared.tree.SectionKind.{SectionKind}
use Rattle.icn_tree.specs.declared.tree.LoopKind.TheVariants.{While, Until, Every}
use Rattle.icn_tree.specs.declared.tree.LocalKind.TheVariants as Kinds
use Rattle.icn_tree.specs.Trees as T
use Rattle.icn_tree.specs.Trees.{Tree, Trees, Clause, Clauses, LocalDecl, Initial, Declaration, Absent, Present, NoTrees, More, Default, Guarded, NoClauses, MoreClauses, NoInitial, Initially}

-- the place of each word: programs of cases break no rule, so it is not seen
abbrev pub here : Place
here = record { line = 1; file = 0 }

-- a name of a program
abbrev pub name_at_one : String → Name
name_at_one text = record { text = codes text; place = here }

-- trees in a row
abbrev pub trees : List Tree → Trees
trees [] = NoTrees
trees (e ∷ es) = More e (trees es)

-- clauses in a row
abbrev pub clauses : List Clause → Clauses
clauses [] = NoClauses
clauses (c ∷ cs) = MoreClauses c (clauses cs)

-- Operands

-- an integer literal
abbrev pub int : ℕ → Tree
int n = T.Constant here (Literals.Integer (pos n))

-- a string literal
abbrev pub text : String → Tree
text bytes = T.Constant here (Literals.Text (codes bytes))

-- a cset literal
abbrev pub letters : String → Tree
letters members = T.Constant here (Literals.Cset (codes members))

-- a variable
abbrev pub name : String → Tree
name x = T.Identifier (name_at_one x)

-- `&x`
abbrev pub key : String → Tree
key x = T.Keyword here (name_at_one x)

-- Operations and calls

-- an operator before an operand
abbrev pub before : Operator → Tree → Tree
before o e = T.Prefix here o e

-- an operator between two operands
abbrev pub between : Tree → Operator → Tree → Tree
between a o b = T.Binary here (Plain o) a b

-- `x := e`
abbrev pub assign : Tree → Tree → Tree
assign x e = T.Binary here (Plain Assign) x e

-- an augmented assignment, such as `x +:= e`
abbrev pub update : Tree → Operator → Tree → Tree
update x o e = T.Binary here (Augmented o) x e

-- `f(e1, e2, ..)`
abbrev pub call : Tree → List Tree → Tree
call f es = T.Call here f (trees es)

-- `write(e1, e2, ..)`
abbrev pub write : List Tree → Tree
write es = call (name "write") es

-- `f{e1, e2, ..}`
abbrev pub cocall : Tree → List Tree → Tree
cocall f es = T.CoCall here f (trees es)

-- `x[i1, i2, ..]`
abbrev pub element : Tree → List Tree → Tree
element x is = T.Subscript here x (trees is)

-- `x[i:j]`, `x[i+:j]` or `x[i-:j]`
abbrev pub section : SectionKind → Tree → Tree → Tree → Tree
section kind x i j = T.Section here kind x i j

-- `e.x`
abbrev pub field : Tree → String → Tree
field e x = T.Field here e (name_at_one x)

-- `[e1, e2, ..]`
abbrev pub list : List Tree → Tree
list es = T.Listing here (trees es)

-- `i to j`
abbrev pub to : Tree → Tree → Tree
to i j = T.To here i j Absent

-- `i to j by k`
abbrev pub to_by : Tree → Tree → Tree → Tree
to_by i j k = T.To here i j (Present k)

-- Control

-- `(e1, e2, ..)` and `{e1; e2; ..}`
abbrev pub all_of : List Tree → Tree
all_of es = T.Parentheses here (trees es)

-- `{e1; e2; ..}`
abbrev pub block : List Tree → Tree
block es = T.Compound here (trees es)

-- `not e`
abbrev pub not : Tree → Tree
not e = T.Not here e

-- `if` without and with `else`
abbrev pub when : Tree → Tree → Tree
when c a = T.If here c a Absent

-- `if c then a else b`
abbrev pub either : Tree → Tree → Tree → Tree
either c a b = T.If here c a (Present b)

-- `case`, and its clauses
abbrev pub select : Tree → List Clause → Tree
select e cs = T.Case here e (clauses cs)

-- `s: b`, a clause
abbrev pub on : Tree → Tree → Clause
on s b = Guarded here s b

-- `default: b`, a clause
abbrev pub otherwise : Tree → Clause
otherwise b = Default here b

-- loops without and with `do`
abbrev pub while : Tree → Tree
while c = T.Loop here While c Absent

-- `while c do b`
abbrev pub while_do : Tree → Tree → Tree
while_do c b = T.Loop here While c (Present b)

-- `until c`
abbrev pub until : Tree → Tree
until c = T.Loop here Until c Absent

-- `until c do b`
abbrev pub until_do : Tree → Tree → Tree
until_do c b = T.Loop here Until c (Present b)

-- `every e`
abbrev pub every : Tree → Tree
every e = T.Loop here Every e Absent

-- `every e do b`
abbrev pub every_do : Tree → Tree → Tree
every_do e b = T.Loop here Every e (Present b)

-- `repeat b`
abbrev pub repeat : Tree → Tree
repeat b = T.Repeat here b

-- `break e`
abbrev pub break : Tree → Tree
break e = T.Break here e

-- `next`
abbrev pub next : Tree
next = T.Next here

-- `create e`
abbrev pub create : Tree → Tree
create e = T.Create here e

-- `return e`
abbrev pub return : Tree → Tree
return e = T.Return here e

-- `fail`
abbrev pub fail : Tree
fail = T.Fail here

-- `suspend e`
abbrev pub suspend : Tree → Tree
suspend e = T.Suspend here e Absent

-- `suspend e do b`
abbrev pub suspend_do : Tree → Tree → Tree
suspend_do e b = T.Suspend here e (Present b)

-- Declarations

-- `global x, ..`
abbrev pub globals : List String → Declaration
globals names = T.Global here (map name_at_one names)

-- `record x(a, ..)`
abbrev pub kind : String → List String → Declaration
kind x fields = T.Record here (name_at_one x) (map name_at_one fields)

-- `invocable "x", ..`
abbrev pub invocable : List String → Declaration
invocable names = T.Invocable here (map (λ text. Items.Text (name_at_one text)) names)

-- `local x, ..`
abbrev pub locals : List String → LocalDecl
locals names = record { place = here; kind = Kinds.Local; names = map name_at_one names }

-- `static x, ..`
abbrev pub statics : List String → LocalDecl
statics names = record { place = here; kind = Kinds.Static; names = map name_at_one names }

-- `initial e`
abbrev pub first : Tree → Initial
first e = Initially here e

-- a procedure with all that it declares
abbrev pub procedure_of : String → List String → Bool → List LocalDecl → Initial → List Tree → Declaration
procedure_of x parameters collects own initial body = T.ProcedureOf (record {
  place = here;
  name = name_at_one x;
  parameters = map name_at_one parameters;
  is_variadic = collects;
  locals = own;
  initial = initial;
  body = trees body;
})

-- one that declares its parameters alone
abbrev pub procedure : String → List String → List Tree → Declaration
procedure x parameters body = procedure_of x parameters false [] NoInitial body

-- the procedure `main`
abbrev pub main : List Tree → Declaration
main body = procedure "main" [] body
