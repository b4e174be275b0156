-- What the tokens of a file come to.
use Rattle.std.specs.Prelude.{◌≡◌, List, [], Some, Result, Ok, Err}
use Rattle.icn_tree.specs.declared.rule.Rule.{Rule}
use Rattle.icn_tree.specs.declared.token.Token.{Token}
use Rattle.icn_tree.specs.declared.tree.Place.{Place}
use Rattle.icn_tree.specs.Trees.{Declaration}
use Rattle.icn_parse.specs.Outcomes.{Parsed, IsTree, IsOutcome}
use Rattle.icn_parse.specs.Views.{broken_by as unparsed_by}
use Rattle.icn_decls.specs.Contexts.{BrokenRule}
use Rattle.icn_decls.specs.Faults.{context_faults}
use Rattle.icn_decls.specs.Views.{first_of}

-- Stage by stage: they have no tree or break a rule of trees; or their tree breaks a context rule, and the first is told; or they are
-- the declarations of a file.
pub data TokensGive (tokens : List Token) : Result (List Declaration) (Rule × Place) → Type 0 where
  not_parsed : (outcome : Parsed) (rule : Rule) (place : Place) → IsOutcome tokens outcome
      → unparsed_by outcome ≡ Some (rule, place) → TokensGive tokens (Err (rule, place))
  out_of_context : (file : List Declaration) (fault : BrokenRule) → IsOutcome tokens (IsTree file)
      → first_of (context_faults file) ≡ Some fault → TokensGive tokens (Err (fault.rule, fault.place))
  is_file : (file : List Declaration) → IsOutcome tokens (IsTree file) → context_faults file ≡ []
      → TokensGive tokens (Ok file)
