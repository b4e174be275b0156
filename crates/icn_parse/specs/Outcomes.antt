-- What the parser must answer: the tree of the tokens, or the first fault with its place.
use Rattle.std.specs.Prelude.{◌≡◌, ◌⊎◌, ℕ, Bool, nat_le, List, [], ◌∷◌, ◌++◌, Option, Some, None, if◌then◌else◌}
use Rattle.std.specs.List.{list_any}
use Rattle.std.specs.Option.{option_map}
use Rattle.std.specs.Str.{bytes_eq}
use Rattle.icn_profile.specs.Numbers.{highest_tree}
use Rattle.icn_tree.specs.declared.token.Token.{Token}
use Rattle.icn_tree.specs.declared.tree.Place.{Place}
use Rattle.icn_tree.specs.declared.tree.Name.{Name}
use Rattle.icn_text.specs.declared.keyword.Keyword.{Keyword as KnownKeyword}
use Rattle.icn_text.specs.declared.keyword.Keyword.TheVariants as K
use Rattle.icn_text.specs.Keywords.{keyword_name}
use Rattle.icn_tree.specs.Trees.{Tree, MaybeTree, Trees, Clause, Clauses, Keyword, Parentheses, Listing, Compound, Call, CoCall, Subscript, Section, Field, Prefix, Not, Binary, To, If, Case, Loop, Repeat, Create, Break, Return, Suspend, Absent, Present, NoTrees, More, Default, Guarded, NoClauses, MoreClauses, Initial, NoInitial, Initially, Declaration, ProcedureOf}
use Rattle.icn_tree.specs.Phrases.{place_of}
use Rattle.icn_tree.specs.Pieces.{pieces}
use Rattle.icn_tree.specs.Declarations.{IsTreeOf, SpellDeclaration}
use Rattle.icn_expr.specs.Heights.{procedure_height}

-- the names after `&`, in reading order
abbrev mutual
  pub keywords : Tree → List Name
  keywords (Keyword place name) = name ∷ []
  keywords (Parentheses place elements) = all_keywords elements
  keywords (Listing place elements) = all_keywords elements
  keywords (Compound place exprs) = all_keywords exprs
  keywords (Call place callee arguments) = keywords callee ++ all_keywords arguments
  keywords (CoCall place callee arguments) = keywords callee ++ all_keywords arguments
  keywords (Subscript place subject subscripts) = keywords subject ++ all_keywords subscripts
  keywords (Section place kind subject from to) = keywords subject ++ (keywords from ++ keywords to)
  keywords (Field place subject name) = keywords subject
  keywords (Prefix place operator operand) = keywords operand
  keywords (Not place operand) = keywords operand
  keywords (Binary place operator left right) = keywords left ++ keywords right
  keywords (To place from to by) = keywords from ++ (keywords to ++ keywords_if by)
  keywords (If place condition first other) = keywords condition ++ (keywords first ++ keywords_if other)
  keywords (Case place subject clauses) = keywords subject ++ clauses_keywords clauses
  keywords (Loop place kind control body) = keywords control ++ keywords_if body
  keywords (Repeat place body) = keywords body
  keywords (Create place body) = keywords body
  keywords (Break place value) = keywords value
  keywords (Return place value) = keywords value
  keywords (Suspend place value body) = keywords value ++ keywords_if body
  keywords _ = []

  pub keywords_if : MaybeTree → List Name
  keywords_if Absent = []
  keywords_if (Present tree) = keywords tree

  -- the names after `&` in several trees
  pub all_keywords : Trees → List Name
  all_keywords NoTrees = []
  all_keywords (More tree trees) = keywords tree ++ all_keywords trees

  pub clause_keywords : Clause → List Name
  clause_keywords (Default place value) = keywords value
  clause_keywords (Guarded place guard value) = keywords guard ++ keywords value

  pub clauses_keywords : Clauses → List Name
  clauses_keywords NoClauses = []
  clauses_keywords (MoreClauses clause clauses) = clause_keywords clause ++ clauses_keywords clauses

-- the keywords of this profile
abbrev pub known_keywords : List KnownKeyword
known_keywords = K.Ascii ∷ K.Cset ∷ K.Current ∷ K.Digits ∷ K.Errout ∷ K.Fail ∷ K.Input ∷ K.Lcase ∷ K.Letters
    ∷ K.Level ∷ K.Main ∷ K.Null ∷ K.Output ∷ K.Pos ∷ K.Random ∷ K.Source ∷ K.Subject ∷ K.Ucase
    ∷ K.Error ∷ K.ErrorNumber ∷ K.ErrorValue ∷ K.ErrorText ∷ []

-- the name of a keyword of this profile
abbrev pub is_known : List ℕ → Bool
is_known text = list_any (λ keyword. bytes_eq text (keyword_name keyword)) known_keywords

-- where the first name stands that is no keyword
abbrev pub first_unknown : List Name → Option Place
first_unknown [] = None
first_unknown (name ∷ names) = if is_known name.text then first_unknown names else Some name.place

-- the name of the first procedure that has a tree higher than 2000
abbrev pub first_too_high : List Declaration → Option Place
first_too_high [] = None
first_too_high (ProcedureOf p ∷ others) =
    if nat_le (procedure_height p) highest_tree then first_too_high others else Some p.name.place
first_too_high (other ∷ others) = first_too_high others

-- what a text has that is not in this profile: an unknown keyword
pub data ProfileFault : Type 0 where
  UnknownKeyword : Place → ProfileFault

-- the keywords of the `initial` clause
abbrev pub initial_keywords : Initial → List Name
initial_keywords NoInitial = []
initial_keywords (Initially place value) = keywords value

-- the first unknown keyword of a declaration
abbrev pub declaration_fault : Declaration → Option ProfileFault
declaration_fault (ProcedureOf p) =
    option_map UnknownKeyword (first_unknown (initial_keywords p.initial ++ all_keywords p.body))
declaration_fault declaration = None

-- the first of two faults, where there is one
abbrev pub fault_or : Option ProfileFault → Option ProfileFault → Option ProfileFault
fault_or (Some fault) later = Some fault
fault_or None later = later

-- what the first declaration has that has it
abbrev pub first_fault : List Declaration → Option ProfileFault
first_fault [] = None
first_fault (declaration ∷ others) = fault_or (declaration_fault declaration) (first_fault others)

-- this piece is the first of some that spells no declaration
abbrev pub IsFirstUnspelled : List (List Token) → List Token → Type 0
IsFirstUnspelled [] piece = ⊥
IsFirstUnspelled (first ∷ others) piece =
    ((SpellDeclaration first → ⊥) × (first ≡ piece)) ⊎ (SpellDeclaration first × IsFirstUnspelled others piece)

-- The answers, by their cases. No program, and where its first piece begins that spells no declaration, comes before a tree
-- that is too high, and that before the other faults.
pub data Parsed : Type 0 where
  NoProgram : Place → Parsed
  TooHigh : Place → Parsed
  Faulty : ProfileFault → Parsed
  IsTree : List Declaration → Parsed

-- what tokens come to: they are no program; a tree is too high; a rule is broken; or this is their tree
pub data IsOutcome (tokens : List Token) : Parsed → Type 0 where
  no_program : (piece : List Token) → IsFirstUnspelled (pieces tokens) piece
      → IsOutcome tokens (NoProgram (place_of piece))
  too_high : (file : List Declaration) (place : Place) → IsTreeOf file tokens
      → first_too_high file ≡ Some place → IsOutcome tokens (TooHigh place)
  faulty : (file : List Declaration) (fault : ProfileFault) → IsTreeOf file tokens
      → first_too_high file ≡ None
      → first_fault file ≡ Some fault → IsOutcome tokens (Faulty fault)
  is_tree : (file : List Declaration) → IsTreeOf file tokens → first_too_high file ≡ None
      → first_fault file ≡ None → IsOutcome tokens (IsTree file)
