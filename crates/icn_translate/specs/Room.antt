-- How many numbers are given in a draft, and how many more may be.
use Rattle.std.specs.Prelude.{ℕ, ◌+◌, ◌<◌, ◌≤◌, length}
use Rattle.icn_profile.specs.Numbers.{number_limit}
use Rattle.icn_tree.specs.Trees.{Procedure, Clause, Clauses, Default, Guarded, NoClauses, MoreClauses}
use Rattle.icn_translate.specs.Drafts.{Draft}
use Rattle.icn_translate.specs.NumbersTaken.{local_numbers, numbers}

-- how many labels and names have a number
unfoldable pub numbers_given : Draft → ℕ
numbers_given d = d.labels + length d.names

-- so many numbers more have 32 bits
abbrev pub IsRoomFor : ℕ → Draft → Type 0
IsRoomFor n d = numbers_given d + n < number_limit

-- the later draft has at most so many numbers more
abbrev pub TakesAtMost : ℕ → Draft → Draft → Type 0
TakesAtMost n before later = numbers_given later ≤ numbers_given before + n

-- The numbers of the clauses of a `case` that are guarded, and those of its defaults

-- the numbers of a guarded clause; a default counts 0
abbrev pub guard_numbers : Clause → ℕ
guard_numbers (Default place e) = 0
guard_numbers (Guarded place s b) = 2 + numbers s + numbers b

-- the numbers of all guarded clauses
abbrev pub guarded_numbers : Clauses → ℕ
guarded_numbers NoClauses = 0
guarded_numbers (MoreClauses clause clauses) = guard_numbers clause + guarded_numbers clauses

-- the numbers of a default; a guarded clause counts 0
abbrev pub value_numbers : Clause → ℕ
value_numbers (Default place e) = numbers e
value_numbers (Guarded place s b) = 0

-- the numbers of all defaults
abbrev pub default_numbers : Clauses → ℕ
default_numbers NoClauses = 0
default_numbers (MoreClauses clause clauses) = value_numbers clause + default_numbers clauses

-- one for each name that a procedure declares
abbrev pub declared_numbers : Procedure → ℕ
declared_numbers procedure = length procedure.parameters + local_numbers procedure.locals
