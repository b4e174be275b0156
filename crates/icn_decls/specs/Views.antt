-- What the code keeps, as the definitions see it.
use Rattle.std.specs.Prelude.{◌≡◌, Bool, List, [], ◌∷◌, Option, None, Some, Result, Ok, Err}
use Rattle.icn_decls.specs.declared.context.Loops.{Loops}
use Rattle.icn_decls.specs.declared.context.Loops.TheVariants as Kept
use Rattle.icn_decls.specs.declared.context.Context.{Context as KeptContext}
use Rattle.icn_decls.specs.declared.fault.Broken.{Broken}
use Rattle.icn_decls.specs.declared.fault.ContextFault.{ContextFault}
use Rattle.icn_decls.specs.declared.fault.ContextFault.TheVariants.{Broken as BrokenFault, NoMemory}
use Rattle.icn_decls.specs.Contexts.{Context, BrokenRule}

-- of each open loop, the innermost first, whether `next` may stand there
abbrev pub loops_of : Loops → List Bool
loops_of Kept.None = []
loops_of (Kept.Inside' next p loops) = next ∷ loops_of loops

-- the context that is kept, as definitions see it
abbrev pub context_of : KeptContext → Context
context_of kept = record { in_create = kept.in_create; loops = loops_of kept.loops.now }

-- the first fault, if there is one
abbrev pub first_of : List BrokenRule → Option BrokenRule
first_of [] = None
first_of (fault ∷ faults) = Some fault

-- the fault that a check answers
abbrev pub fault_of : Result (Unit {0}) Broken → Option BrokenRule
fault_of (Ok done) = None
fault_of (Err broken) = Some (record { rule = broken.rule; place = broken.place })

-- what a check answers: the first of the faults, or none where there is none, or want of memory
abbrev pub Checks : List BrokenRule → Result (Unit {0}) ContextFault → Type 0
Checks faults (Ok done) = None ≡ first_of faults
Checks faults (Err (BrokenFault rule file line)) =
    Some (record { rule = rule; place = record { line = line; file = file } }) ≡ first_of faults
Checks faults (Err NoMemory) = Unit {0}

-- the same of a check that hands something on
abbrev pub check_result : {T : Type 0} → Result T ContextFault → Result (Unit {0}) ContextFault
check_result (Ok taken) = Ok tt
check_result (Err fault) = Err fault
