-- Want of memory hides no limit.
use Rattle.std.proofs.Common.{◌≡◌, ◌≢◌, ◌∙◌, refl, sym, ap, ℕ, ◌+◌, ◌≤◌, Bool, true, false, nat_le, List, length, Option, None, Result, Ok, Err}
use Rattle.std.specs.Prelude.{IsErrAnd}
use Rattle.std.proofs.lemmas.Bool.{leb-true, leb-false, le-leb}
use Rattle.icn_value.specs.declared.val.Val.{Val as HeldVal}
use Rattle.icn_value.specs.Values.{Item, Text, Val}
use Rattle.icn_value.specs.Store.{Heap, Setting, having_heap}
use Rattle.icn_defs.specs.Rows.{Row, Error as ErrorOutcome, Gives as GivesOutcome, builds}
use Rattle.icn_vars.specs.Assignments.{IsError}
use Rattle.icn_vars.specs.declared.outcome.Halt.{Halt}
use Rattle.icn_vars.specs.declared.outcome.Halt.TheVariants.{Error, NoMemory}
use Rattle.icn_vars.specs.declared.outcome.ValueOutcome.{ValueOutcome}
use Rattle.icn_vars.specs.declared.stop.Stop.{Stop}
use Rattle.icn_vars.specs.declared.stop.Stop.TheVariants.{Error as ErrorStop, NoMemory as NoMemoryStop}
use Rattle.icn_vars.specs.Stops.{halt_of}
use Rattle.icn_strfn.specs.Stopping.{RefusesFirst}

gives_no_error : (item : Item) (after at : Setting) → GivesOutcome item after ≡ ErrorOutcome 306 None at → ⊥
gives_no_error item after at is = cc

-- a text that the limit allows is no error
builds_within : (text : List ℕ) (setting at : Setting) → setting.world.heap.strings + length text ≤ setting.world.heap.bounds.strings
    → builds text setting ≢ ErrorOutcome 306 None at
builds_within text setting at fits =
    let test : nat_le (setting.world.heap.strings + length text) setting.world.heap.bounds.strings ≡ true =
    le-leb (setting.world.heap.strings + length text) setting.world.heap.bounds.strings fits in
    let given : builds text setting
    ≡ GivesOutcome (Val (Text text)) (having_heap (λ heap. record heap { strings = heap.strings + length text }) setting) = rw test refl in
    λ is. gives_no_error (Val (Text text)) (having_heap (λ heap. record heap { strings = heap.strings + length text }) setting) at (sym given ∙ is)

wants_no_error : (result : Result ValueOutcome Halt) → result ≡ Err NoMemory → result ≡ Err (Error 306 None) → ⊥
wants_no_error result wanting is = cc

within_by : (heap : Heap) (text : List ℕ) (result : Result ValueOutcome Halt) (fits : Bool)
    → nat_le (heap.strings + length text) heap.bounds.strings ≡ fits → RefusesFirst heap text result → result ≡ Err NoMemory
    → heap.strings + length text ≤ heap.bounds.strings
within_by heap text result true test first wanting = leb-true (heap.strings + length text) heap.bounds.strings test
within_by heap text result false test first wanting =
    absurd (wants_no_error result wanting (first (leb-false (heap.strings + length text) heap.bounds.strings test)))

-- a row that builds a text, and wants memory for it, does not come to the limit
pub limit_before : (row : Row) (text : List ℕ) (before between at : Setting) (result : Result ValueOutcome Halt) → row before ≡ builds text between
    → RefusesFirst between.world.heap text result → result ≡ Err NoMemory → row before ≢ ErrorOutcome 306 None at
limit_before row text before between at result same first wanting =
    let heap : Heap = between.world.heap in
    let fits = within_by heap text result (nat_le (heap.strings + length text) heap.bounds.strings) refl first wanting in
    λ is. builds_within text between at fits (sym same ∙ is)

error_wants_none : (number : ℕ) (offending : Option HeldVal) → Error number offending ≡ NoMemory → ⊥
error_wants_none number offending is = cc

-- what was stopped by an error wants no memory
pub error_no_want : (stop : Stop) (result : Result ValueOutcome Halt) → IsErrAnd result (λ halt. halt ≡ halt_of stop) → IsError stop → result ≡ Err NoMemory
    → ⊥
error_no_want stop (Ok given) same is wanting = absurd same
error_no_want (ErrorStop number offending) (Err halt) same is wanting =
    let none : halt ≡ NoMemory = cc in error_wants_none number offending (sym same ∙ none)
error_no_want NoMemoryStop (Err halt) same is wanting = absurd is

same_stop : {A : Type 0} (stop limit : Stop) → (let answer : Result A Stop = Err stop in answer ≡ Err limit) → stop ≡ limit
same_stop stop limit is = cc

-- where a limit is the answer, it is what was answered
pub stopped_as : {A : Type 0} (result : Result ValueOutcome Halt) (stop limit : Stop) → IsErrAnd result (λ halt. halt ≡ halt_of stop)
    → (let answer : Result A Stop = Err stop in answer ≡ Err limit) → result ≡ Err (halt_of limit)
stopped_as {A} (Ok given) stop limit same is = absurd same
stopped_as {A} (Err halt) stop limit same is = ap Err (same ∙ ap halt_of (same_stop {A = A} stop limit is))

pub no_given : {A : Type 0} (value : A) (stop : Stop) → (let answer : Result A Stop = Ok value in answer ≡ Err stop) → ⊥
no_given value stop is = cc
