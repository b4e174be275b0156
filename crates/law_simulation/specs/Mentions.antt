-- What the code of a tree takes from the tables, in the order of its instructions.
use Rattle.std.specs.Prelude.{ℕ, ℤ, pos, Bool, not, List, [], ◌∷◌, ◌++◌, filter}
use Rattle.icn_tree.specs.declared.token.Operator.TheVariants.{Backslash}
use Rattle.icn_tree.specs.declared.tree.Literal.{Literal}
use Rattle.icn_tree.specs.declared.tree.Literal.TheVariants as Literals
use Rattle.icn_tree.specs.declared.tree.Infix.TheVariants.{Plain}
use Rattle.icn_tree.specs.Trees.{Tree, Trees, MaybeTree, Clauses, Initial, NoInitial, Initially, Empty, Constant, Identifier, Keyword, Parentheses, Listing, Compound, Call, CoCall, Subscript, Section, Field, Prefix, Not, Binary, To, If, Case, Loop, Repeat, Create, Next, Fail, Break, Return, Suspend, Absent, Present, NoTrees, More, Default, Guarded, NoClauses, MoreClauses}

-- what an instruction has from a table: a constant, or the name of a field
pub data TableMention : Type 0 where
  AnInteger : ℤ → TableMention
  AText : List ℕ → TableMention
  ASet : List ℕ → TableMention
  AField : List ℕ → TableMention

-- the constant that a literal is
abbrev pub literal_mention : Literal → TableMention
literal_mention (Literals.Integer n) = AnInteger n
literal_mention (Literals.Text bytes) = AText bytes
literal_mention (Literals.Cset members) = ASet members

-- A limit stands before what it limits, a `default` behind the other clauses, and `to` without `by` steps
-- by 1.
abbrev mutual
  pub mentions : Tree → List TableMention
  mentions Empty = []
  mentions (Constant place value) = literal_mention value ∷ []
  mentions (Identifier name) = []
  mentions (Keyword place name) = []
  mentions (Parentheses place elements) = all_mentions elements
  mentions (Listing place elements) = all_mentions elements
  mentions (Compound place exprs) = all_mentions exprs
  mentions (Call place callee arguments) = mentions callee ++ all_mentions arguments
  mentions (CoCall place callee arguments) = mentions callee ++ all_mentions arguments
  mentions (Subscript place subject subscripts) = mentions subject ++ all_mentions subscripts
  mentions (Section place kind subject from to) = mentions subject ++ (mentions from ++ mentions to)
  mentions (Field place subject name) = mentions subject ++ AField name.text ∷ []
  mentions (Prefix place operator operand) = mentions operand
  mentions (Not place operand) = mentions operand
  mentions (Binary place (Plain Backslash) first second) = mentions second ++ mentions first
  mentions (Binary place operator first second) = mentions first ++ mentions second
  mentions (To place from to by) = mentions from ++ (mentions to ++ step_mentions by)
  mentions (If place condition first second) = mentions condition ++ (mentions first ++ maybe_mentions second)
  mentions (Case place subject cases) = mentions subject ++ (guarded_mentions cases ++ default_mentions cases)
  mentions (Loop place kind control body) = mentions control ++ maybe_mentions body
  mentions (Repeat place body) = mentions body
  mentions (Create place body) = mentions body
  mentions (Next place) = []
  mentions (Fail place) = []
  mentions (Break place value) = mentions value
  mentions (Return place value) = mentions value
  mentions (Suspend place value body) = mentions value ++ maybe_mentions body

  pub all_mentions : Trees → List TableMention
  all_mentions NoTrees = []
  all_mentions (More tree trees) = mentions tree ++ all_mentions trees

  pub maybe_mentions : MaybeTree → List TableMention
  maybe_mentions Absent = []
  maybe_mentions (Present tree) = mentions tree

  pub step_mentions : MaybeTree → List TableMention
  step_mentions Absent = AnInteger (pos 1) ∷ []
  step_mentions (Present tree) = mentions tree

  pub guarded_mentions : Clauses → List TableMention
  guarded_mentions NoClauses = []
  guarded_mentions (MoreClauses (Default place value) cases) = guarded_mentions cases
  guarded_mentions (MoreClauses (Guarded place guard value) cases) = (mentions guard ++ mentions value)
      ++ guarded_mentions cases

  pub default_mentions : Clauses → List TableMention
  default_mentions NoClauses = []
  default_mentions (MoreClauses (Default place value) cases) = mentions value
  default_mentions (MoreClauses (Guarded place guard value) cases) = default_mentions cases

-- what the code of an `initial` clause takes from the tables
abbrev pub initial_mentions : Initial → List TableMention
initial_mentions NoInitial = []
initial_mentions (Initially place value) = mentions value

-- those of each kind
abbrev pub integers_among : List TableMention → List ℤ
integers_among [] = []
integers_among (AnInteger n ∷ others) = n ∷ integers_among others
integers_among (_ ∷ others) = integers_among others

-- the texts among them
abbrev pub texts_among : List TableMention → List (List ℕ)
texts_among [] = []
texts_among (AText bytes ∷ others) = bytes ∷ texts_among others
texts_among (_ ∷ others) = texts_among others

-- the csets among them
abbrev pub sets_among : List TableMention → List (List ℕ)
sets_among [] = []
sets_among (ASet members ∷ others) = members ∷ sets_among others
sets_among (_ ∷ others) = sets_among others

-- the names of fields among them
abbrev pub fields_among : List TableMention → List (List ℕ)
fields_among [] = []
fields_among (AField name ∷ others) = name ∷ fields_among others
fields_among (_ ∷ others) = fields_among others

-- of mentions of the same the first alone, in their order
abbrev pub firsts : {A : Type 0} → (A → A → Bool) → List A → List A
firsts same [] = []
firsts same (x ∷ xs) = x ∷ filter (λ y. not (same x y)) (firsts same xs)
