-- What the code answers, beside what the definition gives.
use Rattle.std.specs.Prelude.{◌≡◌, ◌⊎◌, Result, Ok, Err}
use Rattle.icn_tree.specs.declared.lines.Lines.{Lines}
use Rattle.icn_tree.specs.declared.rule.Rule.TheVariants.{P6}
use Rattle.icn_prep.specs.declared.fault.PrepFault.{PrepFault}
use Rattle.icn_prep.specs.declared.fault.PrepFault.TheVariants.{Missing, Broken, FileFault, NoMemory}
use Rattle.icn_prep.specs.SourceLines.{PreprocessedSource}

-- a fault of the store, or want of memory
abbrev pub IsOfStore : PrepFault → Type 0
IsOfStore fault = (fault ≡ FileFault) ⊎ (fault ≡ NoMemory)

-- the answer is that the store failed, or that memory was wanting
abbrev pub IsOutside : {A : Type 0} → Result A PrepFault → Type 0
IsOutside result = (result ≡ Err FileFault) ⊎ (result ≡ Err NoMemory)

-- a file was not there
abbrev pub IsAbsent : PrepFault → Type 0
IsAbsent Missing = Unit {0}
IsAbsent (Broken rule file line) = rule ≡ P6
IsAbsent FileFault = ⊥
IsAbsent NoMemory = ⊥

-- the answer is that a file was not there
abbrev pub IsAbsence : {A : Type 0} → Result A PrepFault → Type 0
IsAbsence (Ok a) = ⊥
IsAbsence (Err fault) = IsAbsent fault

-- the fault is of the store, or want of memory, or what the definition gives
abbrev pub IsAnswer : {A : Type 0} → Result A PrepFault → PrepFault → Type 0
IsAnswer outcome fault = IsOfStore fault ⊎ (outcome ≡ Err fault)

-- the names and the lines, or the fault
abbrev pub outcome_of : Result Lines PrepFault → Result PreprocessedSource PrepFault
outcome_of (Ok lines) = Ok (record { names = lines.names.items; lines = lines.lines.items })
outcome_of (Err fault) = Err fault

-- a fault that the definition gives
abbrev pub IsTextFault : PrepFault → Type 0
IsTextFault Missing = Unit {0}
IsTextFault (Broken rule file line) = Unit {0}
IsTextFault FileFault = ⊥
IsTextFault NoMemory = ⊥
