-- The program of units: the rule that it breaks, or its code, its image, and what its runs are.
use Rattle.std.specs.Prelude.{◌≡◌, ℕ, Bool, List, [], ◌∷◌, Option, None, Some, Result, Ok, Err}
use Rattle.std.specs.Option.{option_and_then, option_map, option_or}
use Rattle.icn_tree.specs.declared.rule.Rule.{Rule}
use Rattle.icn_tree.specs.Trees.{Declaration}
use Rattle.icn_code.specs.Codes.{Tables}
use Rattle.icn_defs.specs.Running.{Launch, Observation}
use Rattle.icn_link.specs.Joined.{joined_code, named_procs, names_all}
use Rattle.icn_link.specs.LinkFaults.{first_fault}
use Rattle.icn_prune.specs.KeptCode.{kept_of}
use Rattle.icn_prune.specs.PrunedCode.{pruned_tables}
use Rattle.icn_verify.specs.Faults.{IsFirstFault, IsVerified}
use Rattle.law_simulation.specs.FirstLaw.{FilesMean, RunsFlat}
use Rattle.icn_answer.specs.declared.answer.Answer.{Answer}
use Rattle.icn_answer.specs.declared.answer.Answer.TheVariants.{BadUcode}
use Rattle.icont_units.specs.Files.{first_name}
use Rattle.icont_units.specs.Units.{Member, FromSource, FromUcode, units_of, link_answer}

-- the code of all units, with all procedures
abbrev pub whole_code : List Member → Tables
whole_code members = joined_code (units_of members)

-- which of its procedures are kept
abbrev pub kept_flags : List Member → List Bool
kept_flags members = kept_of (whole_code members) (named_procs (units_of members)) (names_all (units_of members))

-- the code of a program: that of its units, without the procedures that are not kept
abbrev pub linked_code : List Member → Tables
linked_code members = pruned_tables (kept_flags members) (whole_code members)

-- the refusal of the first rule of linking that is broken
abbrev pub link_refusal : List Member → Option Answer
link_refusal members = option_and_then (link_answer (units_of members)) (first_fault (units_of members))

-- the base name of the first unit that was read as ucode
abbrev pub ucode_base : Member → Option (List ℕ)
ucode_base (FromSource base file) = None
ucode_base (FromUcode unit) = Some unit.name

-- that of the first member which has one
abbrev pub first_ucode : List Member → Option (List ℕ)
first_ucode [] = None
first_ucode (member ∷ members) = option_or (ucode_base member) (first_ucode members)

-- the declarations of all members, where each is a source
abbrev pub with_file : List Declaration → Option (List (List Declaration)) → Option (List (List Declaration))
with_file file files = option_map (λ others. file ∷ others) files

-- the declarations of each file, where all members are sources
abbrev pub files_of : List Member → Option (List (List Declaration))
files_of [] = Some []
files_of (FromSource base file ∷ members) = with_file file (files_of members)
files_of (FromUcode unit ∷ members) = None

-- What units come to: they break a rule of linking; or one was read as ucode, and their code breaks a rule of verified code, which is
-- told of the first such unit; or they are a program.
pub data Links (members : List Member) : Result Tables Answer → Type 0 where
  not_linked : (answer : Answer) → link_refusal members ≡ Some answer → Links members (Err answer)
  unverified : (base : List ℕ) (rule : Rule) (number place : ℕ) → first_fault (units_of members) ≡ None
      → first_ucode members ≡ Some base → IsFirstFault (linked_code members).procs rule number place
      → Links members (Err (BadUcode (first_name base) rule))
  is_program : first_fault (units_of members) ≡ None → IsVerified (linked_code members)
      → Links members (Ok (linked_code members))

-- A program of sources alone runs as its files mean, any other as its code.
abbrev pub RunsBy : Option (List (List Declaration)) → Tables → Launch → Observation → Type 0
RunsBy (Some files) tables launch seen = FilesMean files launch seen
RunsBy None tables launch seen = RunsFlat tables launch seen

-- an observation of a run is one of the program of these members
abbrev pub Behaves : List Member → Launch → Observation → Type 0
Behaves members launch seen = RunsBy (files_of members) (linked_code members) launch seen
