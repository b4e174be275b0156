-- What the parser reads, as the definitions see it.
use Rattle.std.specs.Prelude.{◌≡◌, ◌⊎◌, Bool, true, false, not, List, map, Option, Some, None, Result, Ok, Err}
use Rattle.std.specs.Option.{option_map}
use Rattle.icn_tree.specs.declared.tree.Place.{Place}
use Rattle.icn_tree.specs.declared.token.Token.{Token}
use Rattle.icn_tree.specs.declared.tree.SourceFile.{SourceFile}
use Rattle.icn_tree.specs.declared.rule.Rule.{Rule}
use Rattle.icn_tree.specs.declared.rule.Rule.TheVariants.{S1, S2, S3}
use Rattle.icn_tree.specs.TreeOf.{declaration_of, declarations_of, locals_of}
use Rattle.icn_tree.specs.Trees.{Tree, Declaration}
use Rattle.icn_tree.specs.Phrases.{place_of}
use Rattle.icn_tree.specs.Pieces.{kind_declares, pieces}
use Rattle.icn_tree.specs.Declarations.{IsTreeOf, HasTree}
use Rattle.icn_expr.specs.Capped.{WithHeight}
use Rattle.icn_expr.specs.Views.{capped_of, elements_of}
use Rattle.icn_parse.specs.declared.stop.ParseStop.{ParseStop}
use Rattle.icn_parse.specs.declared.stop.ParseStop.TheVariants.{NoMemory}
use Rattle.icn_parse.specs.declared.procedure.InitialExpr.{InitialExpr}
use Rattle.icn_parse.specs.declared.procedure.Outline.{Outline}
use Rattle.icn_parse.specs.declared.declaration.Finished.{Finished}
use Rattle.icn_parse.specs.declared.declaration.Finished.TheVariants as F
use Rattle.icn_parse.specs.declared.check.Unfit.{Unfit}
use Rattle.icn_parse.specs.declared.check.Unfit.TheVariants as U
use Rattle.icn_parse.specs.declared.fault.ParseFault.{ParseFault}
use Rattle.icn_parse.specs.declared.fault.ParseFault.TheVariants.{Broken, NoMemory as NoMemoryFault}
use Rattle.icn_parse.specs.FileReading.{ProcedureIs}
use Rattle.icn_parse.specs.KeptDeclarations.{CappedDeclaration, Finish, IsKept, IsTooHigh, finish}
use Rattle.icn_parse.specs.Outcomes.{ProfileFault, UnknownKeyword, Parsed, NoProgram, TooHigh, Faulty, IsTree, IsFirstUnspelled, first_too_high}

-- nothing is read, or memory ran out
abbrev pub ReadsNothing : {A : Type 0} → Option A → ParseStop → Type 0
ReadsNothing read stop = (stop ≡ NoMemory) ⊎ (read ≡ None)

-- the expression of an `initial` clause with its place, as the definitions see it
abbrev pub first_value : InitialExpr → Place × WithHeight Tree
first_value first = (first.place, capped_of first.value)

-- a procedure as it was read, whose parts may be too high
abbrev pub outline_of : Outline → CappedDeclaration
outline_of o = ProcedureIs (record {
  place = o.place;
  name = o.head.name;
  parameters = o.head.parameters.items;
  is_variadic = o.head.is_variadic;
  locals = map locals_of o.locals.items;
  initial = option_map first_value o.initial;
  body = elements_of o.body;
})

-- a declaration that is kept, or the place of one that is too high
abbrev pub finish_of : Finished → Finish
finish_of (F.Kept decl) = IsKept (declaration_of decl)
finish_of (F.TooHigh place) = IsTooHigh place

-- what a declaration that is read comes to
abbrev pub finished_read : Option (CappedDeclaration × List Token) → Option (Finish × List Token)
finished_read read = option_map (λ found. (finish found.0, found.1)) read

-- the place that a check answers
abbrev pub place_found : Result (Unit {0}) Place → Option Place
place_found (Ok done) = None
place_found (Err place) = Some place

-- what a check answers, as the definitions see it
abbrev pub fault_at : Unfit → ProfileFault
fault_at (U.UnknownKeyword place) = UnknownKeyword place

-- what a check of declarations answers
abbrev pub fault_found : Result (Unit {0}) Unfit → Option ProfileFault
fault_found (Ok done) = None
fault_found (Err unfit) = Some (fault_at unfit)

-- the rule that a name after `&` breaks that the profile has not
abbrev pub fault_of_unfit : Unfit → ParseFault
fault_of_unfit (U.UnknownKeyword place) = Broken S3 place.file place.line

-- the rule that an outcome breaks, and where
abbrev pub broken_by : Parsed → Option (Rule × Place)
broken_by (NoProgram place) = Some (S1, place)
broken_by (TooHigh place) = Some (S2, place)
broken_by (Faulty (UnknownKeyword place)) = Some (S3, place)
broken_by (IsTree file) = None

-- the fault is of an outcome, or memory ran out
abbrev pub Breaks : (Parsed → Type 0) → ParseFault → Type 0
Breaks IsIt (Broken rule file line) = (outcome : Parsed) × IsIt outcome
    × (broken_by outcome ≡ Some (rule, record { line = line; file = file }))
Breaks IsIt NoMemoryFault = Unit {0}

-- The answer is the outcome's, or memory ran out.
abbrev pub Answers : (Parsed → Type 0) → Result SourceFile ParseFault → Type 0
Answers IsIt (Ok file) = IsIt (IsTree (declarations_of file))
Answers IsIt (Err fault) = Breaks IsIt fault

-- these are the declarations of the tokens, of which none is too high
abbrev pub IsLowTree : List Token → List Declaration → Type 0
IsLowTree tokens file = IsTreeOf file tokens × (first_too_high file ≡ None)

-- a token that begins no declaration
abbrev pub begins_no_declaration : Token → Bool
begins_no_declaration token = not (kind_declares token.kind)

-- whether tokens have a tree
abbrev pub DecidesTree : List Token → Bool → Type 0
DecidesTree tokens true = HasTree tokens
DecidesTree tokens false = HasTree tokens → ⊥

-- the first piece of tokens that spells no declaration begins at this place
abbrev pub UnspelledAt : List Token → Place → Type 0
UnspelledAt tokens place = (piece : List Token) × IsFirstUnspelled (pieces tokens) piece × (place_of piece ≡ place)
