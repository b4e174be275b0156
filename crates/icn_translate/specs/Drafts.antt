-- The code of a procedure as far as it is written. A label has its number from its first mention on, and a name its place.
use Rattle.std.specs.Prelude.{ℕ, suc, List, [], ◌∷◌, ◌++◌, Option, None, Some, if◌then◌else◌}
use Rattle.std.specs.List.{list_any, position_or_len}
use Rattle.std.specs.Str.{bytes_eq}
use Rattle.icn_unit.specs.declared.unit.UnitInstr.{UnitInstr}
use Rattle.icn_unit.specs.declared.unit.UnitInstr.TheVariants.{Var}
use Rattle.icn_translate.specs.declared.builder.LoopLabels.{LoopLabels}

-- The instructions so far; how many labels have a number; the names so far, those that are declared first; and the labels
-- of the loops and the last labels of the cases that are open, the innermost first.
pub record Draft : Type 0 where
  pub instrs : List UnitInstr
  pub labels : ℕ
  pub names : List (List ℕ)
  pub loops : List LoopLabels
  pub cases : List (Option ℕ)

-- What stands behind a draft: `draft ▹ step` goes on with the step.
infixl 10 ◌▹◌
-- the draft behind the step
abbrev pub ◌▹◌ : Draft → (Draft → Draft) → Draft
draft ▹ step = step draft

-- one more instruction
unfoldable pub put : UnitInstr → Draft → Draft
put instr d = record {
  instrs = d.instrs ++ instr ∷ [];
  labels = d.labels;
  names = d.names;
  loops = d.loops;
  cases = d.cases;
}

-- the next number of a label, and that it is given
unfoldable pub next_label : Draft → ℕ
next_label d = suc d.labels

-- the next number of a label is given
unfoldable pub with_label : Draft → Draft
with_label d =
    record { instrs = d.instrs; labels = suc d.labels; names = d.names; loops = d.loops; cases = d.cases }

-- the number of a label, which may have been mentioned
abbrev pub number_of : Option ℕ → Draft → ℕ
number_of None d = next_label d
number_of (Some label) d = label

-- a label has a number from here on, if it had none
abbrev pub with_number : Option ℕ → Draft → Draft
with_number None d = with_label d
with_number (Some label) d = d

-- names, each once
abbrev pub with_name : List (List ℕ) → List ℕ → List (List ℕ)
with_name names name = if list_any (bytes_eq name) names then names else names ++ name ∷ []

-- names with others, each once
abbrev pub with_names : List (List ℕ) → List (List ℕ) → List (List ℕ)
with_names names [] = names
with_names names (name ∷ others) = with_names (with_name names name) others

-- the place of a name, which is behind all others where the name is new
abbrev pub name_index : List (List ℕ) → List ℕ → ℕ
name_index names name = position_or_len (bytes_eq name) names

-- the variable of a name
unfoldable pub put_variable : List ℕ → Draft → Draft
put_variable name d = record {
  instrs = d.instrs ++ Var (name_index d.names name) ∷ [];
  labels = d.labels;
  names = with_name d.names name;
  loops = d.loops;
  cases = d.cases;
}

-- Loops

-- the labels of a loop, neither of which was mentioned
abbrev pub no_ways : LoopLabels
no_ways = record { next = None; last = None }

-- the labels of the innermost loop
abbrev pub first_ways : List LoopLabels → LoopLabels
first_ways [] = no_ways
first_ways (ways ∷ others) = ways

-- the labels of the loops outside the innermost one
abbrev pub other_ways : List LoopLabels → List LoopLabels
other_ways [] = []
other_ways (ways ∷ others) = others

-- the labels of the innermost loop
unfoldable pub innermost : Draft → LoopLabels
innermost d = first_ways d.loops

-- in one more loop with these labels, and outside the innermost one
unfoldable pub in_loop : LoopLabels → Draft → Draft
in_loop ways d =
    record { instrs = d.instrs; labels = d.labels; names = d.names; loops = ways ∷ d.loops; cases = d.cases }

-- outside the innermost loop
unfoldable pub outside_loop : Draft → Draft
outside_loop d = record {
  instrs = d.instrs;
  labels = d.labels;
  names = d.names;
  loops = other_ways d.loops;
  cases = d.cases;
}

-- outside the innermost loop for a step
abbrev pub aside : (Draft → Draft) → Draft → Draft
aside step d = d ▹ outside_loop ▹ step ▹ in_loop (innermost d)

-- the number of the label that `next` goes to, of the innermost loop, and that it is mentioned
abbrev pub next_number : Draft → ℕ
next_number d = number_of (innermost d).next (outside_loop d)

-- the label that `next` goes to is mentioned, and has its number
abbrev pub with_next : Draft → Draft
with_next d = d ▹ outside_loop ▹ with_number (innermost d).next
    ▹ in_loop (record { next = Some (next_number d); last = (innermost d).last })

-- an instruction with that label
abbrev pub put_next : (ℕ → UnitInstr) → Draft → Draft
put_next word d = d ▹ with_next ▹ put (word (next_number d))

-- the same of the label that `break` goes to
abbrev pub last_number : Draft → ℕ
last_number d = number_of (innermost d).last (outside_loop d)

-- the label that `break` goes to is mentioned, and has its number
abbrev pub with_last : Draft → Draft
with_last d = d ▹ outside_loop ▹ with_number (innermost d).last
    ▹ in_loop (record { next = (innermost d).next; last = Some (last_number d) })

-- an instruction with the label that `break` goes to
abbrev pub put_last : (ℕ → UnitInstr) → Draft → Draft
put_last word d = d ▹ with_last ▹ put (word (last_number d))

-- Cases

-- the last label of the innermost case, where it was mentioned
abbrev pub first_end : List (Option ℕ) → Option ℕ
first_end [] = None
first_end (label ∷ others) = label

-- the last labels of the cases outside the innermost one
abbrev pub other_ends : List (Option ℕ) → List (Option ℕ)
other_ends [] = []
other_ends (label ∷ others) = others

-- the last label of the innermost case
unfoldable pub case_end : Draft → Option ℕ
case_end d = first_end d.cases

-- in one more case with this last label, if that was mentioned
unfoldable pub in_case : Option ℕ → Draft → Draft
in_case label d =
    record { instrs = d.instrs; labels = d.labels; names = d.names; loops = d.loops; cases = label ∷ d.cases }

-- outside the innermost case
unfoldable pub outside_case : Draft → Draft
outside_case d = record {
  instrs = d.instrs;
  labels = d.labels;
  names = d.names;
  loops = d.loops;
  cases = other_ends d.cases;
}

-- the same of that label
abbrev pub end_number : Draft → ℕ
end_number d = number_of (case_end d) (outside_case d)

-- the last label of the innermost case is mentioned, and has its number
abbrev pub with_end : Draft → Draft
with_end d = d ▹ outside_case ▹ with_number (case_end d) ▹ in_case (Some (end_number d))

-- an instruction with the last label of the innermost case
abbrev pub put_end : (ℕ → UnitInstr) → Draft → Draft
put_end word d = d ▹ with_end ▹ put (word (end_number d))
