-- Co-expressions: how they are made, entered and left.
use Rattle.std.specs.Prelude.{ℕ, zero, suc, ◌==◌, Bool, true, false, List, [], ◌∷◌, ◌++◌, length, Option, Some, None, slice_get, slice_index_or, slice_set}
use Rattle.icn_tree.specs.Trees.{Tree, Empty}
use Rattle.icn_value.specs.Values.{Value, ACoexp, Item, Val}
use Rattle.icn_defs.specs.StepRows.{coexpression_row}
use Rattle.icn_meaning.specs.Contexts.{frame_of, activation_of, Works, Nothing, ◌and_then◌, Choices, NoChoice, ◌or_else◌, Result, Exhaust, Surroundings, InCreate, Status, Fresh, Active, Waiting, AfterResult, Exhausted, Coexpression, Store, Evaluation, eval, succeed, fail, hop, lost}
use Rattle.icn_meaning.specs.Turns.{turn, errs, locals_of, setting_in, with_made, value}

-- the co-expression of this number; where there is none, an exhausted one
abbrev pub coexpression_of : ℕ → Store → Coexpression
coexpression_of c st = slice_index_or st.coexpressions c
    (record { status = Exhausted; activator = zero; body = Empty; procedure = zero; values = [] })

-- whether a co-expression has begun, is active, waits or is exhausted
abbrev pub status_of : ℕ → Store → Status
status_of c st = (coexpression_of c st).status

-- what activated a co-expression last
abbrev pub activator_of : ℕ → Store → ℕ
activator_of c st = (coexpression_of c st).activator

-- another co-expression under this number
abbrev pub with_coexpression : ℕ → Coexpression → Store → Store
with_coexpression c co st = record st { coexpressions = slice_set st.coexpressions c co }

-- the co-expression has another status
abbrev pub with_status : ℕ → Status → Store → Store
with_status c status st =
    let co = coexpression_of c st in with_coexpression c (record co { status = status }) st

-- the co-expression has another activator
abbrev pub with_activator : ℕ → ℕ → Store → Store
with_activator c activator st =
    let co = coexpression_of c st in with_coexpression c (record co { activator = activator }) st

-- this one becomes the active one
abbrev pub make_active : ℕ → Store → Store
make_active c st = with_status c Active (record st { active = c })

-- one more result of a co-expression is counted
abbrev pub count_result : ℕ → Store → Store
count_result c st = let counts = st.world.heap.coexps in
    record st {
      world = record st.world {
        heap = record st.world.heap { coexps = slice_set counts c (suc (slice_index_or counts c zero)) };
      };
    }

-- one more co-expression, which has not begun
abbrev pub with_fresh : Tree → ℕ → List Value → Store → Store
with_fresh e procedure locals st = let co : Coexpression =
    record { status = Fresh; activator = zero; body = e; procedure = procedure; values = locals } in
    record st { coexpressions = st.coexpressions ++ co ∷ [] }

-- a fresh one is made in an activation: its expression, the procedure that it stands in, and the values of the locals
abbrev pub fresh : Tree → ℕ → List Value → ℕ → Works → Choices → Store → Evaluation
fresh e procedure locals a k r st = with_made (coexpression_row (length locals) (setting_in a st)) a r st
    (λ v st. succeed (Val v) k r (with_fresh e procedure locals st))

-- `create e`, with the present values of the locals
abbrev pub create : Tree → Surroundings → Works → Choices → Store → Evaluation
create e s k r st =
    turn st (λ st. fresh e (frame_of s).procedure (locals_of (activation_of s) st) (activation_of s) k r st)

-- a new co-expression, made as this one was
abbrev pub refreshed_from : Option Coexpression → ℕ → Works → Choices → Store → Evaluation
refreshed_from (Some co) a k r st = fresh co.body co.procedure co.values a k r st
refreshed_from None a k r st = lost

-- `^C`, with the values of its creation
abbrev pub refresh : Value → ℕ → Works → Choices → Store → Evaluation
refresh (ACoexp zero) a k r st = errs 215 (Some (ACoexp zero)) r st
refresh (ACoexp (suc n)) a k r st = refreshed_from (slice_get st.coexpressions (suc n)) a k r st
refresh v a k r st = errs 118 (Some v) r st

-- a fresh one begins in an activation of its own, where so many activations were made
abbrev pub begins : Coexpression → ℕ → Store → Evaluation
begins co a st = eval co.body (InCreate (record { activation = a; procedure = co.procedure; level = 1 }))
    (Result a and_then Nothing) (Exhaust or_else NoChoice)
    (record st { activations = st.activations ++ co.values ∷ [] })

-- one that was in this status is entered with a value
abbrev pub entered_in : Status → ℕ → Value → Store → Evaluation
entered_in Fresh c v st = begins (coexpression_of c st) (length st.activations) (make_active c st)
entered_in (Waiting k r) c v st = succeed (Val v) k r (make_active c st)
entered_in (AfterResult r) c v st = fail r (make_active c st)
entered_in Exhausted c v st = hop c (record st { active = c })
entered_in Active c v st = lost

-- a co-expression is entered with a value
abbrev pub enter_coexp : ℕ → Value → Store → Evaluation
enter_coexp c v st = entered_in (status_of c st) c v st

-- one that was in this status is entered with failure
abbrev pub failed_in : Status → ℕ → Store → Evaluation
failed_in (Waiting k r) c st = fail r (make_active c st)
failed_in (AfterResult r) c st = fail r (make_active c st)
failed_in Exhausted c st = hop c (record st { active = c })
failed_in Fresh c st = lost
failed_in Active c st = lost

-- a co-expression is entered with failure
abbrev pub fail_coexp : ℕ → Store → Evaluation
fail_coexp c st = failed_in (status_of c st) c st

-- the active one waits, and is the activator of the one that is entered
abbrev pub transmit : Value → ℕ → Works → Choices → Store → Evaluation
transmit v c k r st = enter_coexp c v (with_activator c st.active (with_status st.active (Waiting k r) st))

-- an exhausted co-expression fails, the active one gives the value at once, and another one is entered
abbrev pub sent_if : Bool → Status → Value → ℕ → Works → Choices → Store → Evaluation
sent_if is_active Exhausted v c k r st = fail r st
sent_if true status v c k r st = succeed (Val v) k r st
sent_if false status v c k r st = transmit v c k r st

-- `v @ C`
abbrev pub activate : Value → Value → Works → Choices → Store → Evaluation
activate v (ACoexp c) k r st = sent_if (c == st.active) (status_of c st) v c k r st
activate v other k r st = errs 118 (Some other) r st

-- the active one gives a result to its activator
abbrev pub gives : Value → Choices → Store → Evaluation
gives v r st = enter_coexp (activator_of st.active st) v
    (count_result st.active (with_status st.active (AfterResult r) st))

-- the expression of a co-expression has a result, which goes to its activator
abbrev pub result : Item → ℕ → Choices → Store → Evaluation
result x a r st = turn st (λ st. value x a r st (λ v. gives v r st))

-- the active one is exhausted, and its activator is entered with failure
abbrev pub exhaust : Store → Evaluation
exhaust st = turn st (λ st. fail_coexp (activator_of st.active st) (with_status st.active Exhausted st))

-- an exhausted one passes failure on to its activator
abbrev pub pass_failure : ℕ → Store → Evaluation
pass_failure c st = turn st (λ st. fail_coexp (activator_of c st) st)
