-- What is applied to operands, and how procedures are called and left.
use Rattle.std.specs.Prelude.{ℕ, zero, suc, ◌-◌, ◌==◌, nat_le, Bool, true, false, List, [], ◌∷◌, ◌++◌, length, drop, reverse, replicate, Option, Some, None, slice_get, slice_index_or, slice_set, ℤ}
use Rattle.icn_text.specs.declared.op.Op.{Op}
use Rattle.icn_text.specs.declared.op.Op.TheVariants.{Refresh}
use Rattle.icn_tree.specs.Trees.{Trees, MaybeTree, NoTrees, More, Initial, Initially}
use Rattle.icn_value.specs.Values.{Value, Null, Procedure, ARecord, AList, Item, Val, Var, Whole, Field}
use Rattle.icn_value.specs.Store.{list_at, record_at}
use Rattle.icn_defs.specs.Arities.{arity}
use Rattle.icn_defs.specs.Conversions.{position_of}
use Rattle.icn_defs.specs.NamedValues.{named_by}
use Rattle.icn_defs.specs.Running.{number_of}
use Rattle.icn_defs.specs.StepRows.{Operation, Function, apply, list_row, record_row}
use Rattle.icn_meaning.specs.Program.{Program, Routine, Constructor, Callee, IsRoutine, IsKind, IsFunction, IsNothing, callee_of, index_of}
use Rattle.icn_meaning.specs.Contexts.{Application, Operating, Calling, Spreading, Collecting, Taking, Activating, frame_of, activation_of, Works, ◌and_then◌, Choices, ◌or_else◌, Args, Back, Surroundings, InCall, InCreate, InScan, InLoop, InControl, Store, Evaluation, eval, succeed, fail, lost}
use Rattle.icn_meaning.specs.Turns.{turn, errs, setting_in, answer, with_made, value, values, with_outgoing}
use Rattle.icn_meaning.specs.Scanning.{restore_pair, exchanged_oldest}
use Rattle.icn_meaning.specs.Actions.{rest}
use Rattle.icn_meaning.specs.Coexpressions.{refresh, activate}

-- so many values: surplus ones are left out, and missing ones are null
abbrev pub fit_count : ℕ → List Value → List Value
fit_count zero vs = []
fit_count (suc n) [] = Null ∷ fit_count n []
fit_count (suc n) (v ∷ vs) = v ∷ fit_count n vs

-- Where `initial` is due it is the first expression of the body.
abbrev pub begun_if : Bool → ℕ → Initial → Trees → Surroundings → Choices → Store → Evaluation
begun_if false n (Initially place e) body s r st =
    rest (More e body) s r (record st { begun = slice_set st.begun n true })
begun_if done n _ body s r st = rest body s r st

-- a procedure begins, with its `initial` where that was not done
abbrev pub begin : ℕ → Routine → Surroundings → Choices → Store → Evaluation
begin n routine s r st = begun_if (slice_index_or st.begun n true) n routine.initial routine.body s r st

-- the body, with these parameters, in a new activation
abbrev pub enter : ℕ → Routine → List Value → ℕ → Works → Choices → Store → Evaluation
enter n routine parameters level k r st =
    begin n routine
    (InCall (record { activation = length st.activations; procedure = n; level = level }) k r) r
    (record st {
      activations = st.activations
          ++ (parameters ++ replicate (length routine.locals - routine.parameters) Null) ∷ [];
    })

-- A last parameter that collects gets a list of the arguments that are left. It is made in the caller's activation, a.
abbrev pub collect : Bool → ℕ → Routine → List Value → ℕ → ℕ → Works → Choices → Store → Evaluation
collect false n routine vs level a k r st = enter n routine (fit_count routine.parameters vs) level k r st
collect true n routine vs level a k r st = let plain = routine.parameters - 1 in
    with_made (list_row (drop plain vs) (setting_in a st)) a r st (λ list st.
    enter n routine (fit_count plain vs ++ list ∷ []) level k r st)

-- a procedure is called, unless that is too deep
abbrev pub call_if : Bool → ℕ → Routine → List Value → ℕ → ℕ → Works → Choices → Store → Evaluation
call_if true n routine vs level a k r st = collect routine.collects n routine vs level a k r st
call_if false n routine vs level a k r st = errs 301 None r st

-- a procedure is called with these values, at this level, from this activation
abbrev pub call : ℕ → Routine → List Value → ℕ → ℕ → Works → Choices → Store → Evaluation
call n routine vs level a k r st =
    call_if (nat_le level st.world.heap.bounds.levels) n routine vs level a k r st

-- a constructor makes a record of its fields
abbrev pub construct : ℕ → Constructor → List Value → ℕ → Works → Choices → Store → Evaluation
construct number kind vs a k r st =
    with_made (record_row number (fit_count (length kind.fields) vs) (setting_in a st)) a r st
    (λ v st. succeed (Val v) k r st)

-- what a number stands for is called: a procedure, a record constructor or a function
abbrev pub invoke_callee : Callee → ℕ → List Item → Surroundings → Works → Choices → Store → Evaluation
invoke_callee (IsRoutine routine) n xs s k r st = values xs (activation_of s) r st
    (λ vs. call n routine vs (suc (frame_of s).level) (activation_of s) k r st)
invoke_callee (IsKind number kind) n xs s k r st =
    values xs (activation_of s) r st (λ vs. construct number kind vs (activation_of s) k r st)
invoke_callee (IsFunction f) n xs s k r st =
    answer (apply st.names (Function f) xs (setting_in (activation_of s) st)) (activation_of s) k r st
invoke_callee IsNothing n xs s k r st = errs 106 (Some (Procedure n)) r st

-- the argument that was selected is the result, or it fails
abbrev pub choose_item : Option Item → Works → Choices → Store → Evaluation
choose_item (Some x) k r st = succeed x k r st
choose_item None k r st = fail r st

-- the argument of this number, from 1 on
abbrev pub argument_at : Option ℕ → List Item → Option Item
argument_at (Some (suc p)) xs = slice_get xs p
argument_at _ xs = None

-- a text calls what it names; what names nothing is error 106
abbrev pub invoke_named : Program → Option ℕ → Value → List Item → Surroundings → Works → Choices → Store
    → Evaluation
invoke_named program (Some n) v xs s k r st = invoke_callee (callee_of program n) n xs s k r st
invoke_named program None v xs s k r st = errs 106 (Some v) r st

-- an integer gives the argument of that number, undereferenced; what is none is called by name
abbrev pub choose : Program → Option ℤ → Value → List Item → Surroundings → Works → Choices → Store
    → Evaluation
choose program (Some i) v xs s k r st = choose_item (argument_at (position_of i (length xs)) xs) k r st
choose program None v xs s k r st = invoke_named program (named_by st.names v) v xs s k r st

-- A value is called with arguments. One that is called by number gives the argument of that number; another text calls what it names.
abbrev pub invoke : Program → Value → List Item → Surroundings → Works → Choices → Store → Evaluation
invoke program (Procedure n) xs s k r st = invoke_callee (callee_of program n) n xs s k r st
invoke program v xs s k r st = choose program (number_of v) v xs s k r st

-- values as items
abbrev pub items : List Value → List Item
items [] = []
items (v ∷ vs) = Val v ∷ items vs

-- `p ! L`
abbrev pub apply_to_list : Program → Value → Value → Surroundings → Works → Choices → Store → Evaluation
apply_to_list program p (AList l) s k r st = invoke program p (items (list_at st.world.heap l).items) s k r st
apply_to_list program p (ARecord n) s k r st =
    invoke program p (items (record_at st.world.heap n).fields) s k r st
apply_to_list program p v s k r st = errs 126 (Some v) r st

-- the variable of a field; a record without that field is error 207
abbrev pub field_at : Option ℕ → ℕ → Works → Choices → Store → Evaluation
field_at (Some n) x k r st = succeed (Var (Whole (Field x n))) k r st
field_at None x k r st = errs 207 (Some (ARecord x)) r st

-- the fields of a kind of record
abbrev pub fields_in : Option Constructor → List (List ℕ)
fields_in (Some kind) = kind.fields
fields_in None = []

-- `x.name`
abbrev pub take_field : Program → List ℕ → Value → Works → Choices → Store → Evaluation
take_field program name (ARecord x) k r st =
    field_at (index_of name (fields_in (slice_get program.kinds (record_at st.world.heap x).kind))) x k r st
take_field program name v k r st = errs 107 (Some v) r st

-- `[ ]`
abbrev pub make_list : List Value → ℕ → Works → Choices → Store → Evaluation
make_list vs a k r st = with_made (list_row vs (setting_in a st)) a r st (λ v st. succeed (Val v) k r st)

-- an operation is applied to these items, where these are all of its operands; with another number of them no program comes
-- here
abbrev pub apply_op : Bool → Op → List Item → Surroundings → Works → Choices → Store → Evaluation
apply_op false o xs s k r st = lost
apply_op true Refresh (x ∷ xs) s k r st =
    value x (activation_of s) r st (λ v. refresh v (activation_of s) k r st)
apply_op true o xs s k r st =
    answer (apply st.names (Operation o) xs (setting_in (activation_of s) st)) (activation_of s) k r st

-- What is applied, to these items, in its turn. No form has fewer operands than it is applied to.
abbrev pub apply_form : Program → Application → List Item → Surroundings → Works → Choices → Store
    → Evaluation
apply_form program (Operating o) xs s k r st = apply_op (length xs == arity o) o xs s k r st
apply_form program Calling [] s k r st = lost
apply_form program Calling (x ∷ xs) s k r st =
    value x (activation_of s) r st (λ v. invoke program v xs s k r st)
apply_form program Spreading [] s k r st = lost
apply_form program Spreading (x ∷ []) s k r st = lost
apply_form program Spreading (x ∷ y ∷ xs) s k r st = value x (activation_of s) r st
    (λ p. value y (activation_of s) r st (λ v. apply_to_list program p v s k r st))
apply_form program Collecting xs s k r st =
    values xs (activation_of s) r st (λ vs. make_list vs (activation_of s) k r st)
apply_form program (Taking name) [] s k r st = lost
apply_form program (Taking name) (x ∷ xs) s k r st =
    value x (activation_of s) r st (λ v. take_field program name v k r st)
apply_form program Activating [] s k r st = lost
apply_form program Activating (x ∷ []) s k r st = lost
apply_form program Activating (x ∷ y ∷ xs) s k r st =
    value x (activation_of s) r st (λ v. value y (activation_of s) r st (λ c. activate v c k r st))

-- the next operand; or, where none is left, what is applied is applied to the items, which stand with the newest first
abbrev pub operands : Program → Application → List Item → Trees → Surroundings → Works → Choices → Store
    → Evaluation
operands program form xs (More e es) s k r st = eval e s (Args form xs es s and_then k) r st
operands program form xs NoTrees s k r st = turn st (λ st. apply_form program form (reverse xs) s k r st)

-- the call gives this result and is over: all its scans are left
abbrev pub return_item : Item → Surroundings → Store → Evaluation
return_item x (InCall frame k r) st = succeed x k r st
return_item x (InCreate frame) st = lost
return_item x (InScan p s) st = return_item x s (restore_pair p st)
return_item x (InLoop s k r a rn) st = return_item x s st
return_item x (InControl s k r) st = return_item x s st

-- the procedure gives a result and ends
abbrev pub return : Item → Surroundings → Choices → Store → Evaluation
return x s r st = with_outgoing x (activation_of s) r st (λ x. return_item x s st)

-- the call gives this result, and goes on where that is resumed
abbrev pub suspend_call : Item → MaybeTree → Surroundings → Surroundings → Choices → Store → Evaluation
suspend_call x b s (InCall frame k r0) r st = succeed x k (Back b s or_else r) st
suspend_call x b s (InCreate frame) r st = lost
suspend_call x b s (InScan p around) r st = suspend_call x b s around r st
suspend_call x b s (InLoop around k r0 a rn) r st = suspend_call x b s around r st
suspend_call x b s (InControl around k r0) r st = suspend_call x b s around r st

-- the procedure gives a result and may be resumed
abbrev pub suspend : Item → MaybeTree → Surroundings → Choices → Store → Evaluation
suspend x b s r st = with_outgoing x (activation_of s) r st (λ x. suspend_call x b s s r (exchanged_oldest s st))
