-- The condition under which the code of a tree is sound: names and literals are in the tables, keywords are known, operators are those of
-- the language in their position, and `break`, `next`, `return`, `fail` and `suspend` stand where they may.
use Rattle.std.specs.Prelude.{◌≡◌, ℕ, Bool, true, false, pos, List, [], ◌∷◌, Option, Some}
use Rattle.icn_text.specs.declared.op.Op.{Op}
use Rattle.icn_text.specs.declared.keyword.Keyword.{Keyword}
use Rattle.icn_text.specs.declared.keyword.TheConstants.Keyword.{ALL as keywords}
use Rattle.icn_tree.specs.declared.token.Operator.{Operator}
use Rattle.icn_tree.specs.declared.token.Operator.TheVariants as Signs
use Rattle.icn_tree.specs.declared.tree.Infix.TheVariants.{Plain, Augmented}
use Rattle.icn_tree.specs.declared.tree.LoopKind.TheVariants.{While, Until, Every}
use Rattle.icn_tree.specs.Trees as T
use Rattle.icn_tree.specs.Trees.{Tree, Trees, MaybeTree, Clause, Clauses, Absent, Present, NoTrees, More, Default, Guarded, NoClauses, MoreClauses}
use Rattle.icn_code.specs.declared.instr.Instr.TheVariants as I
use Rattle.icn_defs.specs.Arities.{arity}
use Rattle.icn_value.specs.Values.{Val, Var, Whole, Integer}
use Rattle.icn_meaning.specs.Program.{meaning_of}
use Rattle.icn_meaning.specs.Contexts as M
use Rattle.icn_meaning.specs.Operators.{prefix_op, infix_op, update_op}
use Rattle.icn_meaning.specs.Evaluate.{literal, keyword_among}
use Rattle.law_simulation.specs.Translation.{SymbolTable, BinaryForm, Both, Scanning, Either, Limiting, Applying, form_of, UpdateForm, UpdatesBoth, UpdatesScanning, UpdatesBy, update_of, PrefixForm, Activating, Repeating, Operating, prefix_of, literal_code}
use Rattle.law_simulation.specs.Linkage.{Linkage, Loads, IsAppliedBy}

-- what an operator is, if it is one of the language's in that position
pub data Infixes : Operator → Option BinaryForm → Type 0 where
  x_both : Infixes Signs.Ampersand (Some Both)
  x_scan : Infixes Signs.Question (Some Scanning)
  x_either : Infixes Signs.Bar (Some Either)
  x_limit : Infixes Signs.Backslash (Some Limiting)
  x_at : Infixes Signs.At (Some (Applying I.Coact))
  x_bang : Infixes Signs.Bang (Some (Applying I.Appl))
  x_op : {o : Operator} {op : Op} → infix_op o ≡ Some op → arity op ≡ 2
      → Infixes o (Some (Applying (I.Op op)))

-- what an operator is before `:=`, if it is one of the language's in that position
pub data Augments : Operator → Option UpdateForm → Type 0 where
  u_both : Augments Signs.Ampersand (Some UpdatesBoth)
  u_scan : Augments Signs.Question (Some UpdatesScanning)
  u_at : Augments Signs.At (Some (UpdatesBy I.Coact))
  u_op : {o : Operator} {op : Op} → update_op o ≡ Some op → arity op ≡ 2
      → Augments o (Some (UpdatesBy (I.Op op)))

-- what an operator is before an operand, if it is one of the language's in that position
pub data Prefixes : Operator → Option PrefixForm → Type 0 where
  p_at : Prefixes Signs.At (Some Activating)
  p_bar : Prefixes Signs.Bar (Some Repeating)
  p_op : {o : Operator} {op : Op} → prefix_op o ≡ Some op → arity op ≡ 1 → Prefixes o (Some (Operating op))

-- a name is that of a keyword
pub data IsKeyword : Option Keyword → Type 0 where
  k_word : (word : Keyword) → IsKeyword (Some word)

-- there is a tree at least
abbrev pub Some_trees : Trees → Type 0
Some_trees NoTrees = ⊥
Some_trees (More e es) = Unit {0}

-- the innermost loop may be passed by `next`
abbrev pub MayNext : List Bool → Type 0
MayNext [] = ⊥
MayNext (b ∷ B) = b ≡ true

-- The open loops, each with whether `next` may stand there (not in the control expression of `every`), and whether the tree stands in no co-expression's body.
abbrev mutual
  pub Fit : Linkage → ℕ → SymbolTable → List Bool → Bool → Tree → Type 0
  Fit L j N B c T.Empty = Unit {0}
  Fit L j N B c (T.Constant place v) = Loads L j (literal_code N v) (Val (literal v))
  Fit L j N B c (T.Identifier name) =
      Loads L j (N.variable name.text) (Var (Whole (meaning_of L.program j name.text)))
  Fit L j N B c (T.Keyword place name) = IsKeyword (keyword_among name.text keywords)
  Fit L j N B c (T.Parentheses place es) = Some_trees es × FitAll L j N B c es
  Fit L j N B c (T.Listing place es) = FitAll L j N B c es
  Fit L j N B c (T.Compound place es) = Some_trees es × FitAll L j N B c es
  Fit L j N B c (T.Call place f es) = Fit L j N B c f × FitAll L j N B c es
  Fit L j N B c (T.CoCall place f es) = Fit L j N B c f × FitCreates L j N es
  Fit L j N B c (T.Subscript place x es) = Fit L j N B c x × Some_trees es × FitAll L j N B c es
  Fit L j N B c (T.Section place kind x a b) = Fit L j N B c x × Fit L j N B c a × Fit L j N B c b
  Fit L j N B c (T.Field place x name) =
      Fit L j N B c x × IsAppliedBy L (M.Taking name.text) 1 (I.Field (N.field name.text))
  Fit L j N B c (T.Prefix place o e) = Prefixes o (prefix_of o) × Fit L j N B c e
  Fit L j N B c (T.Not place e) = Fit L j N B c e
  Fit L j N B c (T.Binary place (Plain o) a b) = Infixes o (form_of o) × Fit L j N B c a × Fit L j N B c b
  Fit L j N B c (T.Binary place (Augmented o) a b) =
      Augments o (update_of o) × Fit L j N B c a × Fit L j N B c b
  Fit L j N B c (T.To place a b by) = Fit L j N B c a × Fit L j N B c b × FitBy L j N B c by
  Fit L j N B c (T.If place e a b) = Fit L j N B c e × Fit L j N B c a × FitMaybe L j N B c b
  Fit L j N B c (T.Case place e cases) =
      Fit L j N B c e × FitClauses L j N B c cases × FitDefault L j N B c cases
  Fit L j N B c (T.Loop place While e b) = Fit L j N (true ∷ B) c e × FitMaybe L j N (true ∷ B) c b
  Fit L j N B c (T.Loop place Until e b) = Fit L j N (true ∷ B) c e × FitMaybe L j N (true ∷ B) c b
  Fit L j N B c (T.Loop place Every e b) = Fit L j N (false ∷ B) c e × FitMaybe L j N (true ∷ B) c b
  Fit L j N B c (T.Repeat place b) = Fit L j N (true ∷ B) c b
  Fit L j N B c (T.Create place e) = Fit L j N [] false e
  Fit L j N B c (T.Next place) = MayNext B
  Fit L j N B c (T.Fail place) = c ≡ true
  Fit L j N B c (T.Break place e) = elim B as (λ x. Type 0) [ [] ↦ ⊥ | b ∷ B' ↦ Fit L j N B' c e ]
  Fit L j N B c (T.Return place e) = (c ≡ true) × Fit L j N B c e
  Fit L j N B c (T.Suspend place e b) = (c ≡ true) × Fit L j N B c e × FitMaybe L j N B c b

  pub FitAll : Linkage → ℕ → SymbolTable → List Bool → Bool → Trees → Type 0
  FitAll L j N B c NoTrees = Unit {0}
  FitAll L j N B c (More e es) = Fit L j N B c e × FitAll L j N B c es

  -- of `p{ }`
  pub FitCreates : Linkage → ℕ → SymbolTable → Trees → Type 0
  FitCreates L j N NoTrees = Unit {0}
  FitCreates L j N (More e es) = Fit L j N [] false e × FitCreates L j N es

  pub FitBy : Linkage → ℕ → SymbolTable → List Bool → Bool → MaybeTree → Type 0
  FitBy L j N B c Absent = Loads L j (I.Int (N.integer (pos 1))) (Val (Integer (pos 1)))
  FitBy L j N B c (Present e) = Fit L j N B c e

  pub FitMaybe : Linkage → ℕ → SymbolTable → List Bool → Bool → MaybeTree → Type 0
  FitMaybe L j N B c Absent = Unit {0}
  FitMaybe L j N B c (Present e) = Fit L j N B c e

  pub FitClauses : Linkage → ℕ → SymbolTable → List Bool → Bool → Clauses → Type 0
  FitClauses L j N B c NoClauses = Unit {0}
  FitClauses L j N B c (MoreClauses clause cases) = FitClause L j N B c clause × FitClauses L j N B c cases

  pub FitClause : Linkage → ℕ → SymbolTable → List Bool → Bool → Clause → Type 0
  FitClause L j N B c (Default place e) = Unit {0}
  FitClause L j N B c (Guarded place e b) = Fit L j N B c e × Fit L j N B c b

  -- the first default, which is the one that has code
  pub FitDefault : Linkage → ℕ → SymbolTable → List Bool → Bool → Clauses → Type 0
  FitDefault L j N B c NoClauses = Unit {0}
  FitDefault L j N B c (MoreClauses (Default place e) cases) = Fit L j N B c e
  FitDefault L j N B c (MoreClauses (Guarded place e b) cases) = FitDefault L j N B c cases
