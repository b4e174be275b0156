-- What the names and the literals of a text keep, as a unit asks it of them.
use Rattle.std.specs.Prelude.{◌≡◌, ℕ, Bool, true, not, ◌&&◌, ◌||◌, nat_le, nat_lt, List, length}
use Rattle.std.specs.List.{list_all}
use Rattle.icn_profile.specs.Numbers.{most_bytes_of_name}
use Rattle.icn_tree.specs.declared.token.Kind.{Kind}
use Rattle.icn_tree.specs.declared.token.Kind.TheVariants.{Text as TextToken}
use Rattle.icn_tree.specs.declared.tree.Literal.{Literal}
use Rattle.icn_tree.specs.declared.tree.Literal.TheVariants.{Integer, Text, Cset}
use Rattle.icn_tree.specs.declared.tree.Name.{Name}
use Rattle.icn_tree.specs.declared.tree.DeclItem.{DeclItem}
use Rattle.icn_tree.specs.declared.tree.DeclItem.TheVariants as Items
use Rattle.icn_tree.specs.Trees.{Initial, NoInitial, Initially, Tree, MaybeTree, Trees, Clause, Clauses, Empty, Constant, Identifier, Keyword, Parentheses, Listing, Compound, Call, CoCall, Subscript, Section, Field, Prefix, Not, Binary, To, If, Case, Loop, Repeat, Create, Next, Fail, Break, Return, Suspend, Absent, Present, NoTrees, More, Default, Guarded, NoClauses, MoreClauses, LocalDecl, Procedure, Declaration, Global, Link, Invocable, Record, ProcedureOf}
use Rattle.icn_unit.specs.declared.unit.UnitInstr.{UnitInstr}
use Rattle.icn_unit.specs.declared.unit.UnitInstr.TheVariants as I
use Rattle.icn_unit.specs.UnitOperands.{is_name, ascends}
use Rattle.icn_unit.specs.UnitRules.{is_byte, is_integer}

-- a name of the source is a name of units
abbrev pub name_fits : Name → Bool
name_fits name = is_name name.text

-- Texts are told apart by a test that is asked of them: that they are short, as a token's size says, or that they are short and their
-- bytes are bytes (`is_byte_text`), which is so of the tokens of files.
abbrev pub is_short : List ℕ → Bool
is_short bytes = nat_le (length bytes) most_bytes_of_name

-- an integer, a text that passes the test, and a set of bytes
abbrev pub literal_fits : (List ℕ → Bool) → Literal → Bool
literal_fits passes (Integer n) = is_integer n
literal_fits passes (Text bytes) = passes bytes
literal_fits passes (Cset members) = list_all is_byte members && ascends members

-- Each name and literal of a tree fits
abbrev mutual
  pub tree_fits : (List ℕ → Bool) → Tree → Bool
  tree_fits passes Empty = true
  tree_fits passes (Constant place value) = literal_fits passes value
  tree_fits passes (Identifier name) = name_fits name
  tree_fits passes (Keyword place name) = true
  tree_fits passes (Parentheses place elements) = trees_fit passes elements
  tree_fits passes (Listing place elements) = trees_fit passes elements
  tree_fits passes (Compound place exprs) = trees_fit passes exprs
  tree_fits passes (Call place callee arguments) = tree_fits passes callee && trees_fit passes arguments
  tree_fits passes (CoCall place callee arguments) = tree_fits passes callee && trees_fit passes arguments
  tree_fits passes (Subscript place subject subscripts) =
      tree_fits passes subject && trees_fit passes subscripts
  tree_fits passes (Section place kind subject from to) =
      tree_fits passes subject && (tree_fits passes from && tree_fits passes to)
  tree_fits passes (Field place subject name) = tree_fits passes subject && name_fits name
  tree_fits passes (Prefix place operator operand) = tree_fits passes operand
  tree_fits passes (Not place operand) = tree_fits passes operand
  tree_fits passes (Binary place operator first second) = tree_fits passes first && tree_fits passes second
  tree_fits passes (To place from to by) =
      tree_fits passes from && (tree_fits passes to && maybe_fits passes by)
  tree_fits passes (If place condition first second) =
      tree_fits passes condition && (tree_fits passes first && maybe_fits passes second)
  tree_fits passes (Case place subject clauses) = tree_fits passes subject && clauses_fit passes clauses
  tree_fits passes (Loop place kind control body) = tree_fits passes control && maybe_fits passes body
  tree_fits passes (Repeat place body) = tree_fits passes body
  tree_fits passes (Create place body) = tree_fits passes body
  tree_fits passes (Next place) = true
  tree_fits passes (Fail place) = true
  tree_fits passes (Break place value) = tree_fits passes value
  tree_fits passes (Return place value) = tree_fits passes value
  tree_fits passes (Suspend place value body) = tree_fits passes value && maybe_fits passes body

  pub maybe_fits : (List ℕ → Bool) → MaybeTree → Bool
  maybe_fits passes Absent = true
  maybe_fits passes (Present tree) = tree_fits passes tree

  pub trees_fit : (List ℕ → Bool) → Trees → Bool
  trees_fit passes NoTrees = true
  trees_fit passes (More tree trees) = tree_fits passes tree && trees_fit passes trees

  pub clause_fits : (List ℕ → Bool) → Clause → Bool
  clause_fits passes (Default place value) = tree_fits passes value
  clause_fits passes (Guarded place guard value) = tree_fits passes guard && tree_fits passes value

  pub clauses_fit : (List ℕ → Bool) → Clauses → Bool
  clauses_fit passes NoClauses = true
  clauses_fit passes (MoreClauses clause clauses) = clause_fits passes clause && clauses_fit passes clauses

-- each name fits
abbrev pub names_fit : List Name → Bool
names_fit names = list_all name_fits names

-- each name and literal of the `initial` clause fits
abbrev pub initial_fits : (List ℕ → Bool) → Initial → Bool
initial_fits passes NoInitial = true
initial_fits passes (Initially place value) = tree_fits passes value

-- an item of `link` or `invocable` is an identifier or a text
abbrev pub item_fits : (List ℕ → Bool) → DeclItem → Bool
item_fits passes (Items.Identifier name) = name_fits name
item_fits passes (Items.Text name) = passes name.text

-- each name of local declarations fits
abbrev pub all_locals_fit : List LocalDecl → Bool
all_locals_fit locals = list_all (λ (l : LocalDecl). names_fit l.names) locals

-- the names and literals of a procedure are such as its unit may have, where its texts pass this test
abbrev pub procedure_fits : (List ℕ → Bool) → Procedure → Bool
procedure_fits passes procedure = name_fits procedure.name &&
    (names_fit procedure.parameters && (all_locals_fit procedure.locals
    && (initial_fits passes procedure.initial && trees_fit passes procedure.body)))

-- the last parameter collects only where there is one
abbrev pub collects_fits : Procedure → Bool
collects_fits procedure = not procedure.is_variadic || nat_lt 0 (length procedure.parameters)

-- each name and literal of a declaration fits
abbrev pub declaration_fits : (List ℕ → Bool) → Declaration → Bool
declaration_fits passes (Global place names) = names_fit names
declaration_fits passes (Link place items) = list_all (item_fits passes) items
declaration_fits passes (Invocable place items) = list_all (item_fits passes) items
declaration_fits passes (Record place name fields) = name_fits name && names_fit fields
declaration_fits passes (ProcedureOf procedure) = procedure_fits passes procedure && collects_fits procedure

-- the names and literals of a file are such as its unit may have, where its texts pass this test
abbrev pub file_fits : (List ℕ → Bool) → List Declaration → Bool
file_fits passes file = list_all (declaration_fits passes) file

-- what an instruction has of a name or a literal
abbrev pub operand_fits : (List ℕ → Bool) → UnitInstr → Bool
operand_fits passes (I.Int n) = is_integer n
operand_fits passes (I.Str bytes) = passes bytes
operand_fits passes (I.Cset members) = list_all is_byte members && ascends members
operand_fits passes (I.Field name) = is_name name
operand_fits passes _ = true

-- Tokens

-- the text of a token passes the test
abbrev pub TextPasses : (List ℕ → Bool) → Kind → Type 0
TextPasses passes (TextToken bytes) = passes bytes ≡ true
TextPasses passes _ = Unit {0}

-- the bytes of a token's text are bytes
abbrev pub HasBytes : Kind → Type 0
HasBytes kind = TextPasses (list_all is_byte) kind
