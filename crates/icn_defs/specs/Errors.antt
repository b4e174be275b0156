-- The texts of run-time errors, the report of one, and which of them become failure.
use Rattle.std.specs.Prelude.{◌==◌, ◌-◌, ◌^◌, ◌||◌, ℕ, zero, suc, ℤ, pos, negsuc, Bool, true, false, nat_lt, List, [], ◌∷◌, ◌++◌, Option, None, Some, unwrap_or, codes, decimal, if◌then◌else◌}
use Rattle.std.specs.Map.{lookup}
use Rattle.icn_value.specs.Values.{Value}
use Rattle.icn_value.specs.Store.{Names, Heap, World, KeptError}
use Rattle.icn_defs.specs.Images.{image}

-- the text of each run-time error, by its number
abbrev pub error_texts : List (ℕ × List ℕ)
error_texts =
    (101, codes "integer expected or out of range") ∷ (102, codes "numeric expected")
    ∷ (103, codes "string expected") ∷ (104, codes "cset expected")
    ∷ (105, codes "file expected") ∷ (106, codes "procedure or integer expected")
    ∷ (107, codes "record expected") ∷ (108, codes "list expected")
    ∷ (109, codes "string or file expected") ∷ (110, codes "string or list expected")
    ∷ (111, codes "variable expected")
    ∷ (112, codes "invalid type to size operation") ∷ (113, codes "invalid type to random operation")
    ∷ (114, codes "invalid type to subscript operation")
    ∷ (115, codes "structure expected") ∷ (116, codes "invalid type to element generator")
    ∷ (117, codes "missing main procedure")
    ∷ (118, codes "co-expression expected") ∷ (119, codes "set expected")
    ∷ (120, codes "two csets or two sets expected") ∷ (122, codes "set or table expected")
    ∷ (124, codes "table expected") ∷ (126, codes "list or record expected")
    ∷ (201, codes "division by zero") ∷ (202, codes "remaindering by zero")
    ∷ (203, codes "integer overflow") ∷ (205, codes "invalid value") ∷ (207, codes "invalid field name")
    ∷ (208, codes "second and third arguments to map of unequal length")
    ∷ (209, codes "invalid second argument to open")
    ∷ (211, codes "by value equal to zero")
    ∷ (212, codes "attempt to read file not open for reading")
    ∷ (213, codes "attempt to write file not open for writing") ∷ (215, codes "attempt to refresh &main")
    ∷ (301, codes "evaluation stack overflow") ∷ (306, codes "inadequate space in string region")
    ∷ (307, codes "inadequate space in block region") ∷ []

-- what the report of a run-time error says for its number
abbrev pub error_text : ℕ → List ℕ
error_text number = unwrap_or (lookup (λ other. other == number) error_texts) []

-- the line of a report on the value that the error is about, if there is one
abbrev pub offending_line : Names → Heap → Option Value → List ℕ
offending_line names heap None = []
offending_line names heap (Some value) = codes "offending value: " ++ (image names heap value ++ codes "\n")

-- the lines that are put on the error output
abbrev pub error_report : Names → Heap → ℕ → Option Value → List ℕ
error_report names heap number offending =
    codes "Run-time error " ++ (decimal number ++ (codes "\n" ++ (error_text number ++ (codes "\n"
    ++ offending_line names heap offending))))

-- Errors that become failure

-- the errors that end the run whatever `&error` is
abbrev pub is_fatal : ℕ → Bool
is_fatal number = number == 117 || (number == 301 || (number == 306 || number == 307))

-- whether an error of this number ends the run, where `&error` is this
abbrev pub ends_run : ℕ → ℤ → Bool
ends_run number (pos zero) = true
ends_run number (pos (suc count)) = is_fatal number
ends_run number (negsuc count) = is_fatal number

-- one less, but that the least integer of 64 bits stays
abbrev pub one_less : ℤ → ℤ
one_less (pos zero) = negsuc zero
one_less (pos (suc count)) = pos count
one_less (negsuc count) = if nat_lt count (2 ^ 63 - 1) then negsuc (suc count) else negsuc count

-- the error is kept, with the value that it is about, and `&error` is lowered
abbrev pub with_kept : ℕ → Option Value → World → World
with_kept number offending world =
    record world { error = one_less world.error; kept = Some (record { number = number; value = offending }) }

-- an error that ends the run, or one that becomes failure
abbrev pub ended_or_failed : {S : Type 0} → Bool → ℕ → Option Value → World → S → (World → S) → S
ended_or_failed true number offending world ended failed = ended
ended_or_failed false number offending world ended failed = failed (with_kept number offending world)

-- What goes on where a row comes to an error, after what the row did: the run ends by it, or it becomes
-- failure. This is the one place where that is decided.
abbrev pub on_error : {S : Type 0} → ℕ → Option Value → World → S → (World → S) → S
on_error number offending world ended failed =
    ended_or_failed (ends_run number world.error) number offending world ended failed
