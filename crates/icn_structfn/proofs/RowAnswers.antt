-- Rows that stop, and parts of rows that find the same.
use Rattle.std.proofs.Common.{◌≡◌, ◌∙◌, refl, List, [], ◌∷◌, length, Result, Ok, Err, IfErr, arith}
use Rattle.std.specs.Prelude.{IsErrAnd}
use Rattle.icn_value.specs.Store.{Setting}
use Rattle.icn_defs.specs.Calls.{GoesOn}
use Rattle.icn_defs.specs.Rows.{Row, Finds}
use Rattle.icn_heap.specs.Extents.{Extent}
use Rattle.icn_vars.specs.declared.outcome.ValueOutcome.{ValueOutcome}
use Rattle.icn_vars.specs.declared.outcome.Halt.{Halt}
use Rattle.icn_vars.specs.declared.stop.Stop.{Stop}
use Rattle.icn_vars.specs.declared.stop.Stop.TheVariants.{Error, NoMemory}
use Rattle.icn_vars.specs.Outcomes.{ComesToAnswer, answer_of}
use Rattle.icn_vars.specs.Stops.{StopsFinding, StopsPassing, halt_of}
use Rattle.icn_args.specs.RowWords.{IsFound}
use Rattle.icn_args.proofs.RowAnswers.{answer_then, value_row_stops, value_row_stops_at}

-- the row goes on as another one, which stops where a thing is looked for
pub stops_finding : {A : Type 0} (all : Extent) (row : Row) (find : Finds A) (next : A → Row) (before between after : Setting) (stop : Stop)
    (result : Result ValueOutcome Halt)
    → row before ≡ find next between → IsErrAnd result (λ halt. halt ≡ halt_of stop) → StopsFinding all find between after stop
    → ComesToAnswer all row before after (answer_of result)
stops_finding all row find next before between after stop result same err is =
    answer_then all row (find next) before between after (answer_of result) same (value_row_stops all find next between after stop result err is)

-- the row goes on as another one, which stops at a part of it
pub stops_passing : (all : Extent) (row : Row) (part : Row → Row) (next : Row) (before between after : Setting) (stop : Stop)
    (result : Result ValueOutcome Halt)
    → row before ≡ part next between → IsErrAnd result (λ halt. halt ≡ halt_of stop) → StopsPassing all part between after stop
    → ComesToAnswer all row before after (answer_of result)
stops_passing all row part next before between after stop result same err is =
    answer_then all row (part next) before between after (answer_of result) same (value_row_stops_at all part next between after stop result err is)

-- what finds the same
pub found_as : {A B : Type 0} (all : Extent) (find other : Finds A) (before after : Setting) (shown : B → A) (result : Result B Stop)
    → ((next : A → Row) → find next before ≡ other next before)
    → IsFound all other before after shown result → IsFound all find before after shown result
found_as all find other before after shown (Ok thing) same is = λ next. same next ∙ is next
found_as all find other before after shown (Err (Error number offending)) same is = λ next. same next ∙ is next
found_as all find other before after shown (Err NoMemory) same is = tt

-- an error of another type, which is known
pub if_err_known : {B : Type 0} {F : Type 0} (full wanted : F) (result : Result B F) → IsErrAnd result (λ other. other ≡ full) → full ≡ wanted
    → IfErr result (λ other. other ≡ wanted)
if_err_known full wanted (Ok thing) same is = tt
if_err_known full wanted (Err other) same is = same ∙ is

-- a list of length 0 is empty
pub nothing_left : {X : Type 0} (items : List X) → length items ≡ 0 → items ≡ []
nothing_left [] none = refl
nothing_left (item ∷ items) none = absurd (omega arith)

-- a thing is found, and then what is looked for with it
pub found_behind : {A B C : Type 0} (all : Extent) (find : Finds A) (thing : A) (rest : A → Finds B) (before between after : Setting) (shown : C → B)
    (result : Result C Stop)
    → GoesOn find before thing between → IsFound all (rest thing) between after shown result
    → IsFound all (λ next. find (λ thing. rest thing next)) before after shown result
found_behind all find thing rest before between after shown (Ok held) first is = λ next. first (λ thing. rest thing next) ∙ is next
found_behind all find thing rest before between after shown (Err (Error number offending)) first is = λ next. first (λ thing. rest thing next) ∙ is next
found_behind all find thing rest before between after shown (Err NoMemory) first is = tt
