-- What the law stands on: a program and the tables of its code, whose callees correspond by their numbers.
use Rattle.std.specs.Prelude.{◌≡◌, ℕ, ◌-◌, length}
use Rattle.icn_text.specs.declared.func.Func.{Func}
use Rattle.icn_code.specs.Codes.{Proc as Procedure, RecordType}
use Rattle.icn_meaning.specs.Program as M
use Rattle.icn_run.specs.Chains.{WaitingChain, LinkedStack, linked_calls}
use Rattle.icn_run.specs.Step as S
use Rattle.icn_run.specs.Calls.{Calls}
use Rattle.law_simulation.specs.Linkage.{Linkage}
use Rattle.law_simulation.specs.StandingCode.{StandsRoutine}

-- The same callee: a procedure whose code stands, a record of as many fields, the same function, or nothing
pub data OfCallee (L : Linkage) (n : ℕ) : M.Callee → S.Callee → Type 0 where
  o_routine : {routine : M.Routine} {entry : Procedure} → routine.parameters ≡ entry.parameters
      → routine.collects ≡ entry.collects → length routine.locals - routine.parameters ≡ entry.locals
      → StandsRoutine L n routine.initial routine.body → OfCallee L n (M.IsRoutine routine) (S.IsProc entry)
  o_kind : {number : ℕ} {kind : M.Constructor} {entry : RecordType} → length kind.fields ≡ length entry.fields
      → OfCallee L n (M.IsKind number kind) (S.IsRecord number entry)
  o_function : {f : Func} → OfCallee L n (M.IsFunction f) (S.IsFunc f)
  o_nothing : OfCallee L n M.IsNothing S.IsNothing

-- a program with its tables, in which the callees of each number correspond
pub record Ground : Type 0 where
  pub L : Linkage
  pub callees : (n : ℕ) → OfCallee L n (M.callee_of L.program n) (S.callee_of L.tables n)

-- the code that runs, and its machine
abbrev pub code_of : Ground → S.Program
code_of G = G.L.tables

-- the machine on linked marks that runs it
abbrev pub machine : Ground → Calls WaitingChain LinkedStack
machine G = linked_calls G.L.repeats
