-- One step of the run of a code, whatever its stacks are made of.
use Rattle.std.specs.Prelude.{ℕ, zero, suc, pred, ◌+◌, ◌-◌, ◌==◌, ℤ, pos, negsuc, Bool, true, false, ◌&&◌, not, filter, nat_lt, nat_le, List, [], ◌∷◌, ◌++◌, length, take, drop, map, replicate, position, slice_get, slice_index_or, slice_set, Option, Some, None, if◌then◌else◌}
use Rattle.std.specs.List.{sum_by, range_with_len}
use Rattle.icn_value.specs.Csets.{has}
use Rattle.std.specs.Option.{option_and_then, option_map_or}
use Rattle.icn_text.specs.Funcs.{func_number}
use Rattle.icn_text.specs.declared.func.Func.{Func}
use Rattle.icn_text.specs.declared.op.Op.{Op}
use Rattle.icn_text.specs.declared.op.Op.TheVariants as Ops
use Rattle.icn_value.specs.declared.cset.Cset.{Cset}
use Rattle.icn_defs.specs.Arities.{arity}
use Rattle.icn_defs.specs.Numbers.{func_of}
use Rattle.icn_defs.specs.NamedValues.{arguments_taken, named_by}
use Rattle.icn_code.specs.declared.instr.Instr.{Instr}
use Rattle.icn_code.specs.declared.instr.Instr.TheVariants as Instrs
use Rattle.icn_code.specs.declared.code.Global.{Global as GlobalEntry}
use Rattle.icn_code.specs.declared.code.Start.{Start}
use Rattle.icn_code.specs.declared.code.Start.TheVariants as Starts
use Rattle.icn_code.specs.Codes.{Tables, Proc as Procedure, RecordType}
pub use Rattle.icn_code.specs.MainProcedure.{procedure_at, main_of}
use Rattle.icn_run.specs.Rows.{Value, Null, Integer, Text, Chars, Procedure as ProcedureValue, ARecord, AList, ACoexp, Global, Static, Local, Field, Whole, Part, Item, Val, Var, World, Outside, Setting, Names, list_at, record_at, Outcome, Fails, Gives, Suspends, Error, Ends, error_report, on_error, integer_of, position_of, again, Standing, keyword_item, Operation, Function, apply, value_row, list_row, text_row, record_row, coexpression_row, first_world, words_row, Ending, Done, Exit, Errored, AtBound, number_of}
pub use Rattle.icn_defs.specs.Running.{Observation, Launch}
use Rattle.icn_defs.specs.Running.{after_steps, bound_report, files_written, with_errors}
use Rattle.icn_run.specs.Calls.{Pair, Why, Alt, Op as Operation, Scan, Escan, Proc, MarkDrop, NoMark, Goes, Repeats, Outside as WithoutLabel, Calls}

-- The states

-- what runs: the tables of a code
abbrev pub Program : Type 0
Program = Tables

-- a co-expression has not begun, is active, waits to be entered again with its stack, or is exhausted
pub data Status (K : Type 0) : Type 0 where
  Fresh : Status K
  Active : Status K
  Waiting : K → Status K
  Exhausted : Status K

-- what entered it last, and what it was made with: values, a procedure, and the address of its first instruction
pub record Coexp (K : Type 0) : Type 0 where
  pub status : Status K
  pub activator : ℕ
  pub values : List Value
  pub proc : ℕ
  pub address : ℕ

-- All but the stack that runs: `&main` is the first of the co-expressions, and `begun` tells which procedures did `initial`.
pub record Store (K : Type 0) : Type 0 where
  pub world : World
  pub outside : Outside
  pub turns : ℕ
  pub begun : List Bool
  pub coexps : List (Coexp K)
  pub active : ℕ
  pub names : Names

-- the next instruction is due, the code fails, failure is to be passed on by the exhausted co-expression that was reached, the run is over, or
-- something lacks that an instruction needs
pub data State (K M : Type 0) : Type 0 where
  running : M → Store K → State K M
  failing : M → Store K → State K M
  hopping : M → Store K → State K M
  over : Ending → Outside → State K M
  stuck : State K M

-- where something is there, it goes on with it
abbrev pub with_found : {A K M : Type 0} → Option A → (A → State K M) → State K M
with_found None next = stuck
with_found (Some found) next = next found

-- both parts of a pair, one after the other
abbrev pub on_pair : {A B C : Type 0} → (A → B → C) → A × B → C
on_pair next pair = next pair.0 pair.1

-- Ends and turns

-- a store with another world
abbrev pub with_world : {K : Type 0} → World → Store K → Store K
with_world world st = record st { world = world }

-- the run is over, and the files that are still open to be written are written
abbrev pub over_with : {K M : Type 0} → Ending → World → Outside → State K M
over_with ending world outside = over ending (files_written world.heap outside)

-- the run is over by an error, with its report on the error output
abbrev pub ended_by : {K M : Type 0} → ℕ → Option Value → Store K → State K M
ended_by n value st =
    over_with (Errored n) st.world (with_errors (error_report st.names st.world.heap n value) st.outside)

-- An error ends the run, or it is kept and the code fails. This is the one place where errors come to.
abbrev pub errs : {K M : Type 0} → ℕ → Option Value → M → Store K → State K M
errs n value m st =
    on_error n value st.world (ended_by n value st) (λ world. failing m (with_world world st))

-- the run ends at the bound of turns, with its report on the error output; no file is written
abbrev pub at_bound : {K M : Type 0} → Store K → State K M
at_bound st = over AtBound (with_errors bound_report st.outside)

-- a turn is counted before anything of its event is done, and one past the bound ends the run
abbrev pub turn_if : {K M : Type 0} → Bool → Store K → (Store K → State K M) → State K M
turn_if true st event = event (record st { turns = suc st.turns })
turn_if false st event = at_bound st

-- a turn is counted before its event; at the bound the run ends instead
abbrev pub turn : {K M : Type 0} → Program → Store K → (Store K → State K M) → State K M
turn P st event = turn_if (nat_lt st.turns st.world.heap.bounds.turns) st event

-- Values

-- what an operation or a read sees
abbrev pub here : {K M : Type 0} → Calls K M → M → Store K → Setting
here C m st = record { world = st.world; locals = C.locals m; outside = st.outside }

-- what an operation left of the world and the outside
abbrev pub with_at : {K : Type 0} → Setting → Store K → Store K
with_at seen st = record st { world = seen.world; outside = seen.outside }

-- A row gives a value, and it goes on with that; or it is an error. What such a row never answers counts as failure.
abbrev pub with_given : {K M : Type 0} → Outcome → M → Store K → (Value → State K M) → State K M
with_given (Gives (Val value) seen) m st next = next value
with_given (Error n value seen) m st next = errs n value m st
with_given _ m st next = failing m st

-- the same where the row changes the store
abbrev pub with_made : {K M : Type 0} → Calls K M → Outcome → M → Store K → (Value → M → Store K → State K M)
    → State K M
with_made C (Gives (Val value) seen) m st next = next value (C.set_locals seen.locals m) (with_at seen st)
with_made C (Error n value seen) m st next = errs n value (C.set_locals seen.locals m) (with_at seen st)
with_made C _ m st next = failing m st

-- the value of an item, or its error
abbrev pub with_value : {K M : Type 0} → Calls K M → Item → M → Store K → (Value → State K M) → State K M
with_value C item m st next = with_given (value_row item (here C m st)) m st next

-- the values of items from left to right, or the first error
abbrev pub with_values : {K M : Type 0} → Calls K M → List Item → M → Store K → (List Value → State K M)
    → State K M
with_values C [] m st next = next []
with_values C (item ∷ items) m st next =
    with_value C item m st (λ value. with_values C items m st (λ values. next (value ∷ values)))

-- the item is pushed, and the code goes on
abbrev pub push_item : {K M : Type 0} → Calls K M → Item → M → Store K → State K M
push_item C item m st = running (C.push item m) st

-- what an operation or a function comes to
abbrev pub outcome : {K M : Type 0} → Calls K M → Outcome → M → Store K → State K M
outcome C (Fails seen) m st = failing (C.set_locals seen.locals m) (with_at seen st)
outcome C (Gives item seen) m st = push_item C item (C.set_locals seen.locals m) (with_at seen st)
outcome C (Suspends item residual seen) m st =
    push_item C item (C.suspend (Operation residual) (C.set_locals seen.locals m)) (with_at seen st)
outcome C (Error n value seen) m st = errs n value (C.set_locals seen.locals m) (with_at seen st)
outcome C (Ends n seen) m st = over_with (Exit n) seen.world seen.outside

-- a list of values is charged and made
abbrev pub list_made : {K M : Type 0} → Calls K M → List Value → M → Store K
    → (Value → M → Store K → State K M) → State K M
list_made C values m st next = with_made C (list_row values (here C m st)) m st next

-- The code

-- the instructions of a procedure
abbrev pub instrs_of : Tables → ℕ → List Instr
instrs_of tables proc = option_map_or (λ (entry : Procedure). entry.instrs) (slice_get tables.procs proc) []

-- how many statics a procedure has
abbrev pub statics_of : Procedure → ℕ
statics_of entry = entry.statics

-- statics are numbered procedure by procedure
abbrev pub statics_before : Tables → ℕ → ℕ
statics_before tables proc = sum_by statics_of (take proc tables.procs)

-- Scans

-- the subject and the position at present
abbrev pub pair_now : {K : Type 0} → Store K → Pair
pair_now st = record { subject = st.world.subject; position = st.world.position }

-- the subject and the position are these
abbrev pub with_pair : {K : Type 0} → Pair → Store K → Store K
with_pair pair st = with_world (record st.world { subject = pair.subject; position = pair.position }) st

-- the pair that was saved comes back, if one was
abbrev pub scans_left : {K : Type 0} → Option Pair → Store K → Store K
scans_left None st = st
scans_left (Some pair) st = with_pair pair st

-- the present pair was exchanged with a saved one
abbrev pub with_exchange : {K M : Type 0} → Option (Pair × M) → (M → Store K → State K M) → Store K
    → State K M
with_exchange None next st = stuck
with_exchange (Some swap) next st = next swap.1 (with_pair swap.0 st)

-- the present pair was exchanged with a saved one, where there is one
abbrev pub maybe_exchanged : {K M : Type 0} → Option (Pair × M) → M → Store K → (M → Store K → State K M)
    → State K M
maybe_exchanged None m st next = next m st
maybe_exchanged (Some swap) m st next = next swap.1 (with_pair swap.0 st)

-- the pair that a scan had saved is the present one, if there was a scan
abbrev pub swapped_back : {K M : Type 0} → Option (Pair × M) → Store K → Store K
swapped_back None st = st
swapped_back (Some swap) st = with_pair swap.0 st

-- all scans of the procedure are left
abbrev pub all_left : {K M : Type 0} → Calls K M → M → Store K → Store K
all_left C m st = swapped_back (C.swap_oldest (pair_now st) m) st

-- Co-expressions. Each number of a value is that of one; elsewhere there is an exhausted one.

-- the co-expression of this number; where there is none, an exhausted one
abbrev pub coexp_at : {K : Type 0} → ℕ → Store K → Coexp K
coexp_at n st = slice_index_or st.coexps n
    (record { status = Exhausted; activator = zero; values = []; proc = zero; address = zero })

-- whether a co-expression has begun, is active, waits or is exhausted
abbrev pub status_of : {K : Type 0} → ℕ → Store K → Status K
status_of n st = (coexp_at n st).status

-- what activated a co-expression last
abbrev pub activator_of : {K : Type 0} → ℕ → Store K → ℕ
activator_of n st = (coexp_at n st).activator

-- another co-expression under this number
abbrev pub with_coexp : {K : Type 0} → ℕ → Coexp K → Store K → Store K
with_coexp n coexp st = record st { coexps = slice_set st.coexps n coexp }

-- the co-expression has another status
abbrev pub with_status : {K : Type 0} → ℕ → Status K → Store K → Store K
with_status n status st = let coexp = coexp_at n st in with_coexp n (record coexp { status = status }) st

-- the co-expression has another activator
abbrev pub with_activator : {K : Type 0} → ℕ → ℕ → Store K → Store K
with_activator n activator st =
    let coexp = coexp_at n st in with_coexp n (record coexp { activator = activator }) st

-- this one becomes the active one
abbrev pub make_active : {K : Type 0} → ℕ → Store K → Store K
make_active n st = with_status n Active (record st { active = n })

-- a co-expression is entered with failure, by its status
abbrev pub fail_by : {K M : Type 0} → Calls K M → Status K → ℕ → M → Store K → State K M
fail_by C Fresh n m st = stuck
fail_by C Active n m st = stuck
fail_by C (Waiting k) n m st = failing (C.taken_up k m) (make_active n st)
fail_by C Exhausted n m st = hopping m (record st { active = n })

-- a co-expression is entered with failure
abbrev pub passed_failure : {K M : Type 0} → Calls K M → ℕ → M → Store K → State K M
passed_failure C n m st = fail_by C (status_of n st) n m st

-- a fresh co-expression begins
abbrev pub begun_by : {K M : Type 0} → Calls K M → Coexp K → M → Store K → State K M
begun_by C coexp m st = running (C.begin coexp.proc coexp.values coexp.address m) st

-- a co-expression is entered with a value, by its status
abbrev pub give_by : {K M : Type 0} → Calls K M → Status K → ℕ → Value → M → Store K → State K M
give_by C Fresh n value m st = begun_by C (coexp_at n st) m (make_active n st)
give_by C Active n value m st = stuck
give_by C (Waiting k) n value m st = push_item C (Val value) (C.taken_up k m) (make_active n st)
give_by C Exhausted n value m st = hopping m (record st { active = n })

-- a co-expression is entered with a value
abbrev pub passed_value : {K M : Type 0} → Calls K M → ℕ → Value → M → Store K → State K M
passed_value C n value m st = give_by C (status_of n st) n value m st

-- an exhausted one passes failure on to its activator, as a turn
abbrev pub hop : {K M : Type 0} → Calls K M → Program → M → Store K → State K M
hop C P m st = turn P st (λ st. passed_failure C (activator_of st.active st) m st)

-- the expression of the active one fails
abbrev pub exhaust_active : {K M : Type 0} → Calls K M → Program → M → Store K → State K M
exhaust_active C P m st =
    turn P st (λ st. passed_failure C (activator_of st.active st) m (with_status st.active Exhausted st))

-- one more result of a co-expression is counted
abbrev pub counted_result : {K : Type 0} → ℕ → Store K → Store K
counted_result n st = let counts = st.world.heap.coexps in
    with_world (record st.world {
      heap = record st.world.heap { coexps = slice_set counts n (suc (slice_index_or counts n zero)) };
    }) st

-- the expression of the active one gives a value
abbrev pub result_given : {K M : Type 0} → Calls K M → Value → M → Store K → State K M
result_given C value m st = passed_value C (activator_of st.active st) value m
    (counted_result st.active (with_status st.active (Waiting (C.kept m)) st))

-- `&main` is the first of the co-expressions
abbrev pub is_main : ℕ → Bool
is_main zero = true
is_main (suc n) = false

-- the expression of a co-expression runs itself, in no call
abbrev pub is_create_body : {K M : Type 0} → Calls K M → M → Store K → Bool
is_create_body C m st = C.is_base m && not (is_main st.active)

-- one more co-expression, which has not begun
abbrev pub with_new : {K : Type 0} → List Value → ℕ → ℕ → Store K → Store K
with_new values proc address st = record st {
  coexps = st.coexps
      ++ record { status = Fresh; activator = zero; values = values; proc = proc; address = address } ∷ [];
}

-- a new one is charged and made
abbrev pub coexp_made : {K M : Type 0} → Calls K M → List Value → ℕ → ℕ → M → Store K → State K M
coexp_made C values proc address m st = with_made C (coexpression_row (length values) (here C m st)) m st
    (λ value m st. push_item C (Val value) m (with_new values proc address st))

-- a new co-expression, made as this one was
abbrev pub refreshed_from : {K M : Type 0} → Calls K M → Option (Coexp K) → M → Store K → State K M
refreshed_from C (Some coexp) m st = coexp_made C coexp.values coexp.proc coexp.address m st
refreshed_from C None m st = stuck

-- a copy of a co-expression that has not begun; `&main` has none
abbrev pub refresh : {K M : Type 0} → Calls K M → Value → M → Store K → State K M
refresh C (ACoexp zero) m st = errs 215 (Some (ACoexp zero)) m st
refresh C (ACoexp (suc n)) m st = refreshed_from C (slice_get st.coexps (suc n)) m st
refresh C value m st = errs 118 (Some value) m st

-- another one is entered: the active one waits, and becomes its activator
abbrev pub entered_by : {K M : Type 0} → Calls K M → ℕ → Value → M → Store K → State K M
entered_by C n value m st =
    passed_value C n value m (with_activator n st.active (with_status st.active (Waiting (C.kept m)) st))

-- an exhausted co-expression fails, the active one gives the value at once, and another one is entered
abbrev pub entered_if : {K M : Type 0} → Calls K M → Bool → Status K → ℕ → Value → M → Store K → State K M
entered_if C is_active Exhausted n value m st = failing m st
entered_if C true status n value m st = push_item C (Val value) m st
entered_if C false status n value m st = entered_by C n value m st

-- a value is sent to a co-expression
abbrev pub activation : {K M : Type 0} → Calls K M → Value → Value → M → Store K → State K M
activation C value (ACoexp n) m st = entered_if C (n == st.active) (status_of n st) n value m st
activation C value other m st = errs 118 (Some other) m st

-- Procedures

-- values for so many locals, with nulls behind them
abbrev pub fill_nulls : ℕ → List Value → List Value
fill_nulls n values = take n (values ++ replicate n Null)

-- the procedure is entered with these parameters
abbrev pub enter_procedure : {K M : Type 0} → Calls K M → ℕ → Procedure → List Value → M → Store K → State K M
enter_procedure C n entry parameters m st =
    running (C.enter n (parameters ++ replicate entry.locals Null) m) st

-- values for all parameters; where the last one collects, it gets a list of those that are left
abbrev pub collect_rest : {K M : Type 0} → Calls K M → Bool → ℕ → List Value → M → Store K
    → (List Value → M → Store K → State K M) → State K M
collect_rest C false n arguments m st next = next (fill_nulls n arguments) m st
collect_rest C true n arguments m st next = list_made C (drop (n - 1) arguments) m st
    (λ rest m st. next (fill_nulls (n - 1) arguments ++ rest ∷ []) m st)

-- the arguments are the parameters, and where the last one collects it gets a list of those that are left
abbrev pub with_parameters : {K M : Type 0} → Calls K M → Procedure → List Value → M → Store K
    → (List Value → M → Store K → State K M) → State K M
with_parameters C entry arguments m st next =
    collect_rest C entry.collects entry.parameters arguments m st next

-- a procedure is called, unless that is too deep
abbrev pub called_if : {K M : Type 0} → Calls K M → Bool → ℕ → Procedure → List Value → M → Store K
    → State K M
called_if C true n entry arguments m st =
    with_parameters C entry arguments m st (λ parameters m st. enter_procedure C n entry parameters m st)
called_if C false n entry arguments m st = errs 301 None m st

-- a procedure is called with these values, unless that is deeper than the limit
abbrev pub call_procedure : {K M : Type 0} → Calls K M → ℕ → Procedure → List Value → M → Store K → State K M
call_procedure C n entry arguments m st =
    called_if C (nat_le (suc (C.level m)) st.world.heap.bounds.levels) n entry arguments m st

-- a record of this type is made of the arguments, with nulls for those that are missing, and pushed
abbrev pub construct_record : {K M : Type 0} → Calls K M → ℕ → RecordType → List Value → M → Store K
    → State K M
construct_record C kind entry arguments m st =
    with_made C (record_row kind (fill_nulls (length entry.fields) arguments) (here C m st)) m st
    (λ value m st. push_item C (Val value) m st)

-- the argument of this number, from the left from 1 on or from the right from -1 on
abbrev pub argument_at : Option ℕ → List Item → Option Item
argument_at (Some (suc n)) items = slice_get items n
argument_at place items = None

-- the argument that an integer selects
abbrev pub choose_item : ℤ → List Item → Option Item
choose_item n items = argument_at (position_of n (length items)) items

-- the item is pushed, or the code fails where there is none
abbrev pub pushed_or_fails : {K M : Type 0} → Calls K M → Option Item → M → Store K → State K M
pushed_or_fails C (Some item) m st = push_item C item m st
pushed_or_fails C None m st = failing m st

-- What is called by a number: procedures are numbered before constructors, and these before functions.
pub data Callee : Type 0 where
  IsProc : Procedure → Callee
  IsRecord : ℕ → RecordType → Callee
  IsFunc : Func → Callee
  IsNothing : Callee

-- a function that was found, or nothing
abbrev pub func_callee : Option Func → Callee
func_callee (Some func) = IsFunc func
func_callee None = IsNothing

-- the record constructor or the function of this number, counted behind procedures
abbrev pub record_among : ℕ → ℕ → List RecordType → Callee
record_among n kind [] = func_callee (func_of (suc n))
record_among zero kind (entry ∷ entries) = IsRecord kind entry
record_among (suc n) kind (entry ∷ entries) = record_among n (suc kind) entries

-- what a number stands for: procedures come first, then records, then functions
abbrev pub callee_among : ℕ → List Procedure → List RecordType → Callee
callee_among n [] records = record_among n zero records
callee_among zero (entry ∷ entries) records = IsProc entry
callee_among (suc n) (entry ∷ entries) records = callee_among n entries records

-- what a number stands for in a code
abbrev pub callee_of : Tables → ℕ → Callee
callee_of tables n = callee_among n tables.procs tables.records

-- what a number stands for is called
abbrev pub callee_called : {K M : Type 0} → Calls K M → Callee → ℕ → List Item → M → Store K → State K M
callee_called C (IsProc entry) n items m st =
    with_values C items m st (λ arguments. call_procedure C n entry arguments m st)
callee_called C (IsRecord kind entry) n items m st =
    with_values C items m st (λ arguments. construct_record C kind entry arguments m st)
callee_called C (IsFunc func) n items m st =
    outcome C (apply st.names (Function func) items (here C m st)) m st
callee_called C IsNothing n items m st = errs 106 (Some (ProcedureValue n)) m st

-- a text calls what it names; what names nothing can't be called
abbrev pub named_called : {K M : Type 0} → Calls K M → Program → Value → Option ℕ → List Item → M → Store K
    → State K M
named_called C P callee (Some n) items m st = callee_called C (callee_of P n) n items m st
named_called C P callee None items m st = errs 106 (Some callee) m st

-- an integer selects one of the arguments, or fails; what is no integer is called by name
abbrev pub integer_called : {K M : Type 0} → Calls K M → Program → Value → Option ℤ → List Item → M → Store K
    → State K M
integer_called C P callee (Some n) items m st = pushed_or_fails C (choose_item n items) m st
integer_called C P callee None items m st = named_called C P callee (named_by st.names callee) items m st

-- A value is called with these arguments: a procedure, a record constructor or a function; an integer, or a text that converts to
-- one; or what another text names.
abbrev pub invoke_value : {K M : Type 0} → Calls K M → Program → Value → List Item → M → Store K → State K M
invoke_value C P (ProcedureValue n) items m st = callee_called C (callee_of P n) n items m st
invoke_value C P callee items m st = integer_called C P callee (number_of callee) items m st

-- what is called stands below its arguments
abbrev pub invoked_with : {K M : Type 0} → Calls K M → Program → List Item → M → Store K → State K M
invoked_with C P [] m st = stuck
invoked_with C P (callee ∷ items) m st = with_value C callee m st (λ value. invoke_value C P value items m st)

-- a value as an item
abbrev pub plain : Value → Item
plain value = Val value

-- a value is called with the elements of a list or the fields of a record as arguments
abbrev pub elements_called : {K M : Type 0} → Calls K M → Program → Value → Value → M → Store K → State K M
elements_called C P callee (AList n) m st =
    invoke_value C P callee (map plain (list_at st.world.heap n).items) m st
elements_called C P callee (ARecord n) m st =
    invoke_value C P callee (map plain (record_at st.world.heap n).fields) m st
elements_called C P callee from m st = errs 126 (Some from) m st

-- a value is applied to the elements of another one
abbrev pub applied_to_elements : {K M : Type 0} → Calls K M → Program → List Item → M → Store K → State K M
applied_to_elements C P (callee ∷ from ∷ []) m st =
    with_value C callee m st (λ callee. with_value C from m st (λ from. elements_called C P callee from m st))
applied_to_elements C P items m st = stuck

-- the first of the record's fields whose entry is this
abbrev pub field_index : Tables → ℕ → ℕ → Option ℕ
field_index tables field kind =
    option_and_then (λ (entry : RecordType). position (λ other. other == field) entry.fields)
    (slice_get tables.records kind)

-- the variable of a field; a record without that field is error 207
abbrev pub field_taken : {K M : Type 0} → Calls K M → Option ℕ → ℕ → M → Store K → State K M
field_taken C (Some place) n m st = push_item C (Var (Whole (Field n place))) m st
field_taken C None n m st = errs 207 (Some (ARecord n)) m st

-- the variable of a record's field; what is no record is error 107
abbrev pub field_of : {K M : Type 0} → Calls K M → Program → ℕ → Value → M → Store K → State K M
field_of C P field (ARecord n) m st =
    field_taken C (field_index P field (record_at st.world.heap n).kind) n m st
field_of C P field value m st = errs 107 (Some value) m st

-- a result that is a local, or a part of one, is its value
abbrev pub with_result : {K M : Type 0} → Calls K M → Item → M → Store K → (Item → State K M) → State K M
with_result C (Var (Whole (Local n))) m st next =
    with_value C (Var (Whole (Local n))) m st (λ value. next (Val value))
with_result C (Var (Part (Local n) place size)) m st next =
    with_value C (Var (Part (Local n) place size)) m st (λ value. next (Val value))
with_result C item m st next = next item

-- the starting call ends, and with it the run; a create body has no end of its own here
abbrev pub finish_run : {K M : Type 0} → Store K → State K M
finish_run st = if is_main st.active then over_with Done st.world st.outside else stuck

-- the caller goes on; without one the run is over
abbrev pub return_to : {K M : Type 0} → Option M → (M → Store K → State K M) → Store K → State K M
return_to None next st = finish_run st
return_to (Some caller) next st = next caller st

-- the procedure ends, and the code fails in its caller
abbrev pub proc_fails : {K M : Type 0} → Calls K M → M → Store K → State K M
proc_fails C m st = return_to (C.leave m) failing (all_left C m st)

-- Failing

-- failing where no mark is left: the co-expression is exhausted, or the procedure fails
abbrev pub without_mark : {K M : Type 0} → Calls K M → Program → M → Store K → State K M
without_mark C P m st = if is_create_body C m st then exhaust_active C P m st else proc_fails C m st

-- where failing goes on once a mark is dropped
abbrev pub mark_dropped : {K M : Type 0} → Calls K M → Program → M → Store K → MarkDrop M → State K M
mark_dropped C P m st NoMark = without_mark C P m st
mark_dropped C P m st (Goes after) = running after st
mark_dropped C P m st (Repeats after) = turn P st (running after)
mark_dropped C P m st (WithoutLabel after) = failing after st

-- what resuming comes to, by why it was suspended
abbrev pub resume_by : {K M : Type 0} → Calls K M → Program → Why → M → Store K → State K M
resume_by C P Alt m st = failing m st
resume_by C P (Operation residual) m st = turn P st (λ st. outcome C (again residual (here C m st)) m st)
resume_by C P (Scan pair) m st = failing m (with_pair pair st)
resume_by C P Escan m st = with_exchange (C.swap_newest (pair_now st) m) failing st
resume_by C P Proc m st = turn P st (λ st. maybe_exchanged (C.swap_oldest (pair_now st) m) m st running)

-- the suspension is resumed, if there is one; else the mark is dropped
abbrev pub resumed_or_dropped : {K M : Type 0} → Calls K M → Program → M → Store K → Option (Why × M)
    → State K M
resumed_or_dropped C P m st None = mark_dropped C P m st (C.drop_mark m)
resumed_or_dropped C P m st (Some back) = resume_by C P back.0 back.1 st

-- the newest suspension of the innermost mark is resumed; without one the mark is dropped
abbrev pub fails : {K M : Type 0} → Calls K M → Program → M → Store K → State K M
fails C P m st = resumed_or_dropped C P m st (C.resume m)

-- Instructions

-- the members of a set, ascending
abbrev pub members_of : Cset → List ℕ
members_of set = filter (has set) (range_with_len 0 256)

-- what keywords tell of the run: the level, the active co-expression and its activator, and the error that is kept
abbrev pub standing_of : {K M : Type 0} → Calls K M → M → Store K → Standing
standing_of C m st = record {
  level = C.level m;
  current = st.active;
  source = activator_of st.active st;
  kept = st.world.kept;
}

-- it goes on with the operand on top
abbrev pub with_popped : {K M : Type 0} → Calls K M → M → (Item → M → State K M) → State K M
with_popped C m next = with_found (C.pop m) (on_pair next)

-- it goes on with so many operands
abbrev pub with_taken : {K M : Type 0} → Calls K M → ℕ → M → (List Item → M → State K M) → State K M
with_taken C n m next = with_found (C.take n m) (on_pair next)

-- it goes on without the innermost mark, and with the pair that its oldest open scan saved, if one is open
abbrev pub unmark_then : {K M : Type 0} → Calls K M → M → Store K → (M → Store K → State K M) → State K M
unmark_then C m st next =
    with_found (C.unmark m) (on_pair (λ outside pair. next outside (scans_left pair st)))

-- the limit of a limitation
abbrev pub limit_results : {K M : Type 0} → Calls K M → Value → Option ℤ → M → Store K → State K M
limit_results C value None m st = errs 101 (Some value) m st
limit_results C value (Some (negsuc n)) m st = errs 205 (Some value) m st
limit_results C value (Some (pos zero)) m st = failing m st
limit_results C value (Some (pos (suc n))) m st = running (C.limit (suc n) m) st

-- a result of a limited expression, of which so many more may come
abbrev pub limited_result : {K M : Type 0} → Calls K M → Item → ℕ → M → Store K → State K M
limited_result C item zero m st = unmark_then C m st (push_item C item)
limited_result C item (suc n) m st = with_found (C.suspend_mark m) (λ after. push_item C item after st)

-- a scan begins: the present pair is saved, and the subject is this text
abbrev pub scan_opened : {K M : Type 0} → Calls K M → Value → M → Store K → State K M
scan_opened C (Text text) m st =
    running (C.suspend (Scan (pair_now st)) m) (with_pair (record { subject = text; position = 1 }) st)
scan_opened C value m st = failing m st

-- `initial` is passed where it was done; else it is done now, and that is noted
abbrev pub initial_if : {K M : Type 0} → Calls K M → Bool → ℕ → M → Store K → State K M
initial_if C true label m st = running (C.go label m) st
initial_if C false label m st = running m (record st { begun = slice_set st.begun (C.proc m) true })

-- `initial` is done once in a run
abbrev pub initial_done : {K M : Type 0} → Calls K M → ℕ → M → Store K → State K M
initial_done C label m st = initial_if C (slice_index_or st.begun (C.proc m) true) label m st

-- a value is sent to a co-expression, both taken from operands
abbrev pub activation_of : {K M : Type 0} → Calls K M → List Item → M → Store K → State K M
activation_of C (value ∷ other ∷ []) m st =
    with_value C value m st (λ value. with_value C other m st (λ other. activation C value other m st))
activation_of C items m st = stuck

-- an operation; that which refreshes a co-expression is no row
abbrev pub operate : {K M : Type 0} → Calls K M → Op → List Item → M → Store K → State K M
operate C Ops.Refresh (item ∷ items) m st = with_value C item m st (λ value. refresh C value m st)
operate C op items m st = outcome C (apply st.names (Operation op) items (here C m st)) m st

-- the variable of a record's field
abbrev pub field_applied : {K M : Type 0} → Calls K M → Program → ℕ → List Item → M → Store K → State K M
field_applied C P k (item ∷ items) m st = with_value C item m st (λ value. field_of C P k value m st)
field_applied C P k [] m st = stuck

-- the expression of a co-expression has a result, which goes to its activator
abbrev pub coexp_result : {K M : Type 0} → Calls K M → Program → M → Store K → State K M
coexp_result C P m st = if is_create_body C m st
    then with_popped C m
    (λ item m. turn P st (λ st. with_value C item m st (λ value. result_given C value m st)))
    else stuck

-- the address is that of the next instruction
abbrev pub instruction : {K M : Type 0} → Calls K M → Program → Instr → M → Store K → State K M
instruction C P Instrs.Pnull m st = push_item C (Val Null) m st
instruction C P (Instrs.Int k) m st =
    with_found (slice_get P.integers k) (λ n. push_item C (Val (Integer n)) m st)
instruction C P (Instrs.Str k) m st =
    with_found (slice_get P.strings k) (λ bytes. push_item C (Val (Text bytes)) m st)
instruction C P (Instrs.Cset k) m st =
    with_found (slice_get P.csets k) (λ set. push_item C (Val (Chars (members_of set))) m st)
instruction C P (Instrs.Local k) m st = push_item C (Var (Whole (Local k))) m st
instruction C P (Instrs.Static k) m st =
    push_item C (Var (Whole (Static (statics_before P (C.proc m) + k)))) m st
instruction C P (Instrs.Global k) m st = push_item C (Var (Whole (Global k))) m st
instruction C P (Instrs.Keywd keyword) m st =
    pushed_or_fails C (keyword_item (standing_of C m st) keyword) m st
instruction C P Instrs.Pop m st = with_popped C m (λ item m. running m st)
instruction C P Instrs.Dup m st = with_popped C m (λ item below. push_item C item m st)
instruction C P (Instrs.Op op) m st = with_taken C (arity op) m (λ items m. turn P st (operate C op items m))
instruction C P (Instrs.Llist n) m st = with_taken C n m (λ items m. turn P st (λ st.
    with_values C items m st (λ values. list_made C values m st (λ list m st. push_item C (Val list) m st))))
instruction C P (Instrs.Field k) m st = with_taken C 1 m (λ items m. turn P st (field_applied C P k items m))
instruction C P (Instrs.Invoke n) m st =
    with_taken C (suc n) m (λ items m. turn P st (invoked_with C P items m))
instruction C P Instrs.Appl m st = with_taken C 2 m (λ items m. turn P st (applied_to_elements C P items m))
instruction C P (Instrs.Mark l) m st = running (C.mark (Some l) m) st
instruction C P Instrs.Mark0 m st = running (C.mark None m) st
instruction C P Instrs.Unmark m st = unmark_then C m st running
instruction C P Instrs.Eret m st =
    with_popped C m (λ item m. with_value C item m st (λ value. unmark_then C m st (push_item C (Val value))))
instruction C P Instrs.Esusp m st =
    with_popped C m (λ item m. with_found (C.suspend_mark m) (λ m. push_item C item m st))
instruction C P Instrs.Limit m st = with_popped C m
    (λ item m. with_value C item m st (λ value. limit_results C value (integer_of value) m st))
instruction C P Instrs.Lsusp m st = with_popped C m
    (λ item m. with_found (C.count_down m) (on_pair (λ count m. limited_result C item count m st)))
instruction C P Instrs.Efail m st = failing m st
instruction C P (Instrs.Chfail l) m st = with_found (C.relabel l m) (λ m. running m st)
instruction C P (Instrs.Goto l) m st = running (C.go l m) st
instruction C P (Instrs.Loop l) m st = turn P st (running (C.go l m))
instruction C P Instrs.Bscan m st = with_popped C m (λ item m.
    with_value C item m st (λ value. with_made C (text_row value (here C m st)) m st (scan_opened C)))
instruction C P Instrs.Escan m st = with_popped C m
    (λ item m. with_exchange (C.swap_newest (pair_now st) m) (λ m. push_item C item (C.suspend Escan m)) st)
instruction C P Instrs.Ccase m st = with_found (C.below m) (λ item. push_item C item m st)
instruction C P (Instrs.Init l) m st = initial_done C l m st
instruction C P Instrs.Psusp m st = with_popped C m (λ item below. with_result C item m st (λ result.
    maybe_exchanged (C.swap_oldest (pair_now st) m) m st
    (λ m. return_to (C.suspend_proc m) (push_item C result))))
instruction C P Instrs.Pret m st = with_popped C m (λ item m.
    with_result C item m st (λ result. return_to (C.leave m) (push_item C result) (all_left C m st)))
instruction C P Instrs.Pfail m st = if is_create_body C m st then stuck else proc_fails C m st
instruction C P (Instrs.Create l) m st =
    turn P st (coexp_made C (C.locals m) (C.proc m) (C.address m) (C.go l m))
instruction C P Instrs.Coact m st = with_taken C 2 m (λ items m. turn P st (activation_of C items m))
instruction C P Instrs.Coret m st = coexp_result C P m st
instruction C P Instrs.Cofail m st = if is_create_body C m st then exhaust_active C P m st else stuck

-- the instruction that is due, if there is one
abbrev pub instruction_at : {K M : Type 0} → Calls K M → Program → M → Option Instr
instruction_at C P m = slice_get (instrs_of P (C.proc m)) (C.address m)

-- Steps

-- one step: the instruction that is due, failing, or passing failure on; what is over stays
abbrev pub step : {K M : Type 0} → Calls K M → Program → State K M → State K M
step C P (running m st) =
    with_found (instruction_at C P m) (λ instr. instruction C P instr (C.go (suc (C.address m)) m) st)
step C P (failing m st) = fails C P m st
step C P (hopping m st) = hop C P m st
step C P (over ending outside) = over ending outside
step C P stuck = stuck

-- so many steps
abbrev pub steps : {K M : Type 0} → Calls K M → Program → ℕ → State K M → State K M
steps C P n state = after_steps (step C P) n state

-- what is observed of a run that is over
abbrev pub observation : {K M : Type 0} → State K M → Option Observation
observation (over ending outside) = Some (record { ending = ending; outside = outside })
observation state = None

-- The start

-- the value that a global begins with
abbrev pub start_value : Tables → Start → Value
start_value tables Starts.Null = Null
start_value tables (Starts.Procedure number) = ProcedureValue number
start_value tables (Starts.Record number) = ProcedureValue (length tables.procs + number)
start_value tables (Starts.Function func) =
    ProcedureValue (length tables.procs + length tables.records + pred (func_number func))

-- the value that a global begins with
abbrev pub global_value : Tables → GlobalEntry → Value
global_value tables global = start_value tables global.start

-- the values that all globals begin with
abbrev pub first_globals : Tables → List Value
first_globals tables = map (global_value tables) tables.globals

-- how many statics all procedures have
abbrev pub static_count : Tables → ℕ
static_count tables = sum_by statics_of tables.procs

-- the names of the procedures and of the records
abbrev pub proc_name : Tables → Procedure → List ℕ
proc_name tables entry = slice_index_or tables.strings entry.name []

-- the name of a record type
abbrev pub record_name : Tables → RecordType → List ℕ
record_name tables entry = slice_index_or tables.strings entry.name []

-- a procedure takes as many arguments as it has parameters; where the last one collects, it is told below 0
abbrev pub proc_arguments : Procedure → ℤ
proc_arguments entry = arguments_taken entry.parameters entry.collects

-- a constructor takes as many arguments as its records have fields
abbrev pub record_arguments : RecordType → ℤ
record_arguments entry = pos (length entry.fields)

-- the names of all procedures and record types of a code, where no text names these procedures
abbrev pub names_hiding : List ℕ → Tables → Names
names_hiding hidden tables = record {
  procedures = map (proc_name tables) tables.procs;
  records = map (record_name tables) tables.records;
  arguments = map proc_arguments tables.procs ++ map record_arguments tables.records;
  hidden = hidden;
}

-- the names of all procedures and record types of a code; a text names each of them
abbrev pub all_names : Tables → Names
all_names tables = names_hiding [] tables

-- the store that a run begins with
abbrev pub first_store : {K : Type 0} → Program → Launch → Store K
first_store P launch = record {
  world = first_world launch.bounds (first_globals P) (static_count P);
  outside = launch.outside;
  turns = 0;
  begun = replicate (length P.procs) false;
  coexps = record { status = Active; activator = zero; values = []; proc = zero; address = zero } ∷ [];
  active = 0;
  names = all_names P;
}

-- `main` is called with a list of the words, whose texts are charged before it; the starting call is no turn
abbrev pub begun_if : {K M : Type 0} → Calls K M → Bool → ℕ → Procedure → List Value → M → Store K → State K M
begun_if C true n entry arguments m st = with_parameters C entry arguments m st
    (λ parameters m st. running (C.begin n (parameters ++ replicate entry.locals Null) 0 m) st)
begun_if C false n entry arguments m st = errs 301 None m st

-- `main` is called with the words of the launch; a program without it is error 117
abbrev pub start_of : {K M : Type 0} → Calls K M → Program → List (List ℕ) → M → Store K → Option ℕ
    → State K M
start_of C P words m st None = errs 117 None m st
start_of C P words m st (Some main) = with_found (slice_get P.procs main) (λ (entry : Procedure).
    with_made C (words_row words (here C m st)) m st
    (λ list m st. begun_if C (nat_le 1 st.world.heap.bounds.levels) main entry (list ∷ []) m st))

-- where a run begins
abbrev pub start : {K M : Type 0} → Calls K M → M → Program → Launch → State K M
start C m P launch = start_of C P launch.words m (first_store P launch) (main_of P)

-- the store that a run begins with in which no text names these procedures
abbrev pub first_store_hiding : {K : Type 0} → Program → List ℕ → Launch → Store K
first_store_hiding P hidden launch = record (first_store P launch) { names = names_hiding hidden P }

-- where a run begins in which no text names these procedures
abbrev pub start_hiding : {K M : Type 0} → Calls K M → M → Program → List ℕ → Launch → State K M
start_hiding C m P hidden launch =
    start_of C P launch.words m (first_store_hiding P hidden launch) (main_of P)
