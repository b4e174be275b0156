-- What a step of the code may answer where a step of the definition is refused.
use Rattle.std.specs.Prelude.{◌≡◌, ◌≢◌, ◌⊎◌, List, Option, None, Some, Result, Ok, Err, ℕ, drop}
use Rattle.icn_tree.specs.declared.rule.Rule.{Rule}
use Rattle.icn_tree.specs.declared.rule.Rule.TheVariants.{P1, P2, P3, P4, P5, P6, P7, P8, P9}
use Rattle.icn_prep.specs.declared.fault.PrepFault.{PrepFault}
use Rattle.icn_prep.specs.declared.fault.PrepFault.TheVariants.{Missing, Broken, FileFault, NoMemory}
use Rattle.icn_prep.specs.FileLines.{lines_of}
use Rattle.icn_prep.specs.RefusedSteps.{◌>>=◌}
use Rattle.icn_prep.specs.Cursors.{Cursor, next_line}
use Rattle.icn_prep.specs.SourceLines.{LineState, Preprocessed, Step, IncludeStep, lines_read}

-- the fault that the definition gives, or want of memory
abbrev pub Refuses : {A : Type 0} → Result A PrepFault → PrepFault → Type 0
Refuses outcome fault = (fault ≡ NoMemory) ⊎ (outcome ≡ Err fault)

-- no fault that a look into the store has for its cause
abbrev pub IsOfText : PrepFault → Type 0
IsOfText (Broken rule file line) = rule ≢ P6
IsOfText NoMemory = Unit {0}
IsOfText Missing = ⊥
IsOfText FileFault = ⊥

-- a rule of preprocessing
abbrev pub IsPrepRule : Rule → Type 0
IsPrepRule P1 = Unit {0}
IsPrepRule P2 = Unit {0}
IsPrepRule P3 = Unit {0}
IsPrepRule P4 = Unit {0}
IsPrepRule P5 = Unit {0}
IsPrepRule P6 = Unit {0}
IsPrepRule P7 = Unit {0}
IsPrepRule P8 = Unit {0}
IsPrepRule P9 = Unit {0}
IsPrepRule _ = ⊥

-- where a rule is broken, it is one of preprocessing
abbrev pub IsOfPrep : PrepFault → Type 0
IsOfPrep (Broken rule file line) = IsPrepRule rule
IsOfPrep Missing = Unit {0}
IsOfPrep FileFault = Unit {0}
IsOfPrep NoMemory = Unit {0}

-- a line was read up to here, where it includes the file of a name, or else whole
abbrev pub rest_of_line : IncludeStep → Option (List ℕ) → LineState → Cursor → Step
rest_of_line includes None s cursor = Ok (s, cursor)
rest_of_line includes (Some name) s cursor = includes name s cursor >>= λ s'. Ok (s', next_line cursor)

-- lines were read up to one that includes the file of a name, behind which so many bytes were passed, or else to the end
abbrev pub rest_of_lines : IncludeStep → Option (List ℕ × ℕ) → LineState → Cursor → List ℕ → Preprocessed
rest_of_lines includes None s cursor content = Ok s
rest_of_lines includes (Some stop) s cursor content = includes stop.0 s cursor
    >>= λ s'. lines_read includes s' (next_line cursor) (lines_of (drop stop.1 content))
