-- Which procedures of a code are kept.
use Rattle.std.specs.Prelude.{◌≡◌, ℕ, Bool, List, [], ◌∷◌, ◌++◌, length, map, slice_get, Option, None, Some, if◌then◌else◌}
use Rattle.std.specs.List.{flat_map, range_with_len}
use Rattle.std.specs.Option.{option_and_then}
use Rattle.icn_code.specs.declared.code.Global.{Global}
use Rattle.icn_code.specs.declared.instr.Instr.{Instr}
use Rattle.icn_code.specs.declared.instr.Instr.TheVariants.{Global as GlobalAt}
use Rattle.icn_code.specs.Codes.{Proc, Tables}
use Rattle.icn_code.specs.MainProcedure.{procedure_at, main_of}
use Rattle.icn_defs.specs.KeptProcedures.{MentionLists, IsClosed, IsIn, kept_from}

-- the global that an instruction pushes, if it pushes one
abbrev pub global_in : Instr → List ℕ
global_in (GlobalAt place) = place ∷ []
global_in instr = []

-- the globals that a procedure mentions, in the order of its instructions
abbrev pub globals_in : Proc → List ℕ
globals_in entry = flat_map global_in entry.instrs

-- a number, if there is one
abbrev pub number_in : Option ℕ → List ℕ
number_in None = []
number_in (Some number) = number ∷ []

-- the procedure that the global at a place begins with, if it begins with one
abbrev pub procedure_of_global : Tables → ℕ → List ℕ
procedure_of_global tables place =
    number_in (option_and_then (λ (global : Global). procedure_at global.start) (slice_get tables.globals place))

-- the procedures that a procedure mentions
abbrev pub mentioned_in : Tables → Proc → List ℕ
mentioned_in tables entry = flat_map (procedure_of_global tables) (globals_in entry)

-- what each procedure of a code mentions
abbrev pub mentioned_by : Tables → MentionLists
mentioned_by tables = map (mentioned_in tables) tables.procs

-- the procedures that are kept for their own sake: `main` and those that are named, or all of them
abbrev pub own_kept : Tables → List ℕ → Bool → List ℕ
own_kept tables named all =
    if all then range_with_len 0 (length tables.procs) else number_in (main_of tables) ++ named

-- which procedures of a code are kept: the least set that has these, and with each one all that it mentions
abbrev pub kept_of : Tables → List ℕ → Bool → List Bool
kept_of tables named all = kept_from (mentioned_by tables) (own_kept tables named all)

-- A truth value for each procedure; `main` is kept where there is one, and whatever a kept procedure mentions.
pub record MayBeKept (tables : Tables) (keep : List Bool) : Type 0 where
  pub as_many : length keep ≡ length tables.procs
  pub main : (number : ℕ) → main_of tables ≡ Some number → IsIn keep number
  pub closed : IsClosed (mentioned_by tables) keep
