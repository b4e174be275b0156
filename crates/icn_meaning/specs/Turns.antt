-- How a run ends early, what is a turn, and how a row sees the store.
use Rattle.std.specs.Prelude.{ℕ, suc, nat_lt, Bool, true, false, List, [], ◌∷◌, Option, slice_index_or, slice_set}
use Rattle.icn_value.specs.Values.{Value, Local, Whole, Part, Item, Val, Var}
use Rattle.icn_value.specs.Store.{Setting}
use Rattle.icn_defs.specs.Rows.{Outcome, Fails, Gives, Suspends, Error, Ends}
use Rattle.icn_defs.specs.StepRows.{value_row}
use Rattle.icn_defs.specs.Errors.{error_report, on_error}
use Rattle.icn_defs.specs.Running.{bound_report, files_written, with_errors}
use Rattle.icn_meaning.specs.Contexts.{Works, Choices, ◌or_else◌, Resume, Store, Evaluation, succeed, fail, over, Ending, Exit, Errored, AtBound}

-- the store with a text put on the error output
abbrev pub with_report : List ℕ → Store → Store
with_report text st = record st { outside = with_errors text st.outside }

-- the run ends, and the files that are still open to be written are written
abbrev pub end_run : Ending → Store → Evaluation
end_run ending st = over ending (record st { outside = files_written st.world.heap st.outside })

-- An error ends the run, or it is kept and something fails, over the choices that stand there. This is the one place where errors come to.
abbrev pub errs : ℕ → Option Value → Choices → Store → Evaluation
errs n offending r st = on_error n offending st.world
    (end_run (Errored n) (with_report (error_report st.names st.world.heap n offending) st))
    (λ world. fail r (record st { world = world }))

-- a turn is counted before its event, or the run stands at the bound, where no file is written
abbrev pub turn_if : Bool → Store → (Store → Evaluation) → Evaluation
turn_if true st go = go (record st { turns = suc st.turns })
turn_if false st go = over AtBound (with_report bound_report st)

-- A turn is counted before anything of it is done; where as many as the bound were made, the run stands there.
abbrev pub turn : Store → (Store → Evaluation) → Evaluation
turn st go = turn_if (nat_lt st.turns st.world.heap.bounds.turns) st go

-- the locals of an activation
abbrev pub locals_of : ℕ → Store → List Value
locals_of a st = slice_index_or st.activations a []

-- what a row sees in an activation
abbrev pub setting_in : ℕ → Store → Setting
setting_in a st = record { world = st.world; locals = locals_of a st; outside = st.outside }

-- the store after it
abbrev pub after : ℕ → Setting → Store → Store
after a setting st = record st {
  world = setting.world;
  outside = setting.outside;
  activations = slice_set st.activations a setting.locals;
}

-- what an operation answers in an activation goes on as this
abbrev pub answer : Outcome → ℕ → Works → Choices → Store → Evaluation
answer (Fails setting) a k r st = fail r (after a setting st)
answer (Gives x setting) a k r st = succeed x k r (after a setting st)
answer (Suspends x m setting) a k r st = succeed x k (Resume a m k or_else r) (after a setting st)
answer (Error n v setting) a k r st = errs n v r (after a setting st)
answer (Ends n setting) a k r st = end_run (Exit n) (after a setting st)

-- A row gives a value, and it goes on with that; or it is an error. What such a row never answers counts as failure.
abbrev pub with_given : Outcome → Choices → Store → (Value → Evaluation) → Evaluation
with_given (Gives (Val v) setting) r st go = go v
with_given (Error n v setting) r st go = errs n v r st
with_given _ r st go = fail r st

-- the same where the row changes the store
abbrev pub with_made : Outcome → ℕ → Choices → Store → (Value → Store → Evaluation) → Evaluation
with_made (Gives (Val v) setting) a r st go = go v (after a setting st)
with_made (Error n v setting) a r st go = errs n v r (after a setting st)
with_made _ a r st go = fail r st

-- the value of an item, dereferenced in an activation
abbrev pub value : Item → ℕ → Choices → Store → (Value → Evaluation) → Evaluation
value x a r st go = with_given (value_row x (setting_in a st)) r st go

-- the values of items, dereferenced from left to right
abbrev pub values : List Item → ℕ → Choices → Store → (List Value → Evaluation) → Evaluation
values [] a r st go = go []
values (x ∷ xs) a r st go = value x a r st (λ v. values xs a r st (λ vs. go (v ∷ vs)))

-- what leaves an activation: a local of it, or a substring of one, is dereferenced; another variable stays one
abbrev pub with_outgoing : Item → ℕ → Choices → Store → (Item → Evaluation) → Evaluation
with_outgoing (Var (Whole (Local n))) a r st go = value (Var (Whole (Local n))) a r st (λ v. go (Val v))
with_outgoing (Var (Part (Local n) place size)) a r st go =
    value (Var (Part (Local n) place size)) a r st (λ v. go (Val v))
with_outgoing x a r st go = go x
