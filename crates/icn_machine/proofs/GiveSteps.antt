-- What a row gives on a stack.
use Rattle.std.proofs.Common.{◌≡◌, ℕ, Some, sym, ap, ◌∙◌, subst}
use Rattle.std.proofs.lemmas.Option.{same_Some}
use Rattle.icn_value.specs.declared.item.Item.{Item}
use Rattle.icn_value.specs.declared.residual.Residual.{Residual}
use Rattle.icn_value.specs.Store.{Names, Setting}
use Rattle.icn_heap.specs.Extents.{Extent}
use Rattle.law_names.specs.RowsNamed.{OutcomeNamed}
use Rattle.icn_vars.specs.declared.outcome.Outcome.{Outcome}
use Rattle.icn_vars.specs.declared.outcome.Outcome.TheVariants.{Fails, Gives, Suspends}
use Rattle.icn_vars.specs.Outcomes.{IsLiveOutcome, outcome_in, residual_in}
use Rattle.icn_vars.specs.Worlds.{IsLiveItem, Reach, item_in}
use Rattle.icn_frames.specs.declared.layout.Why.TheVariants.{Op}
use Rattle.icn_frames.specs.Stacks as held
use Rattle.icn_frames.specs.Stacks.{FlatStack}
use Rattle.law_frames.proofs.ScansRead.{suspend_read}
use Rattle.icn_code.specs.Codes.{Tables}
use Rattle.icn_run.specs.Calls as calls
use Rattle.icn_run.specs.Stacks.{Frames, flat}
use Rattle.icn_run.specs.Step.{failing, running, with_at}
use Rattle.law_steps.specs.StateNames.{StackNamed}
use Rattle.law_steps.proofs.CallsNamed as named
use Rattle.icn_control.specs.LiveStacks.{IsLiveStack, with_locals}
use Rattle.icn_control.specs.StackViews.{reading_of, stack_in}
use Rattle.icn_control.specs.declared.machine.RunState.TheVariants as RunStates
use Rattle.icn_control.proofs.LiveCalls.{live_push, live_suspend, own_locals, suspend_owner}
use Rattle.icn_machine.specs.Giving.{GivesOutcome}

pub fails_given : (oc : Outcome) (m : FlatStack) → oc ≡ Fails → GivesOutcome oc m m RunStates.Failing
fails_given oc m e =
    let here : GivesOutcome Fails m m RunStates.Failing = λ all old seen st s. ap (λ (y : Frames). failing y (with_at seen st)) s in
    subst (λ (x : Outcome). GivesOutcome x m m RunStates.Failing) (sym e) here

pub gives_given : (oc : Outcome) (item : Item) (m n : FlatStack) → oc ≡ Gives item → n ≡ held.push item m → GivesOutcome oc m n RunStates.Running
gives_given oc item m n e p =
    let here : GivesOutcome (Gives item) m n RunStates.Running
    = λ all old seen st s. ap (λ (y : Frames). running (flat.push (item_in all item) y) (with_at seen st)) s
    ∙ ap (λ (y : FlatStack). running (stack_in all y) (with_at seen st)) (sym p) in
    subst (λ (x : Outcome). GivesOutcome x m n RunStates.Running) (sym e) here

pub suspends_given : (oc : Outcome) (item : Item) (rest : Residual) (m n : FlatStack) → oc ≡ Suspends item rest
    → held.given_to (Some item) (held.suspend_by (Op rest) m) ≡ Some n → GivesOutcome oc m n RunStates.Running
suspends_given oc item rest m n e p =
    let here : GivesOutcome (Suspends item rest) m n RunStates.Running
    = λ all old seen st s. ap (λ (y : Frames). running (flat.push (item_in all item) (flat.suspend (calls.Op (residual_in all rest)) y)) (with_at seen st)) s
    ∙ ap (λ (y : Frames). running (flat.push (item_in all item) y) (with_at seen st)) (suspend_read (reading_of all) (Op rest) m)
    ∙ ap (λ (y : FlatStack). running (stack_in all y) (with_at seen st)) (same_Some _ _ p) in
    subst (λ (x : Outcome). GivesOutcome x m n RunStates.Running) (sym e) here

pub gives_live : (t : Tables) (reach : Reach) (oc : Outcome) (item : Item) (m n : FlatStack) → oc ≡ Gives item → n ≡ held.push item m
    → IsLiveStack t reach m → IsLiveOutcome (with_locals (held.local_count m) reach) oc → IsLiveStack t reach n
gives_live t reach oc item m n e p l i =
    let given : IsLiveOutcome (with_locals (own_locals m) reach) (Gives item) = subst (λ (x : Outcome). IsLiveOutcome (with_locals (own_locals m) reach) x) e
    i in
    subst (λ (x : FlatStack). IsLiveStack t reach x) (sym p) (live_push t reach m item l given.live)

pub suspends_live : (t : Tables) (reach : Reach) (oc : Outcome) (item : Item) (rest : Residual) (m n : FlatStack) → oc ≡ Suspends item rest
    → held.given_to (Some item) (held.suspend_by (Op rest) m) ≡ Some n
    → IsLiveStack t reach m → IsLiveOutcome (with_locals (held.local_count m) reach) oc → IsLiveStack t reach n
suspends_live t reach oc item rest m n e p l i =
    let given : IsLiveOutcome (with_locals (own_locals m) reach) (Suspends item rest) =
    subst (λ (x : Outcome). IsLiveOutcome (with_locals (own_locals m) reach) x) e i in
    let left : FlatStack = held.suspend (Op rest) m in
    let there : IsLiveItem (with_locals (own_locals left) reach) item
    = subst (λ (k : ℕ). IsLiveItem (with_locals k reach) item) (sym (suspend_owner m (Op rest) l.root)) given.live.0 in
    subst (λ (x : FlatStack). IsLiveStack t reach x) (same_Some _ _ p) (live_push t reach left item (live_suspend t reach m (Op rest) l given.live.1) there)

pub gives_named : (names : Names) (all : Extent) (seen : Setting) (oc : Outcome) (item : Item) (m n : FlatStack) → oc ≡ Gives item
    → n ≡ held.push item m → StackNamed names (stack_in all m)
    → OutcomeNamed names (outcome_in all oc seen) → StackNamed names (stack_in all n)
gives_named names all seen oc item m n e p h o =
    let given : OutcomeNamed names (outcome_in all (Gives item) seen) = subst (λ (x : Outcome). OutcomeNamed names (outcome_in all x seen)) e o in
    subst (λ (x : FlatStack). StackNamed names (stack_in all x)) (sym p)
    (named.stack_out names (stack_in all (held.push item m)) (given.0, named.stack_in names (stack_in all m) h))

pub suspends_named : (names : Names) (all : Extent) (seen : Setting) (oc : Outcome) (item : Item) (rest : Residual) (m n : FlatStack) → oc ≡ Suspends item rest
    → held.given_to (Some item) (held.suspend_by (Op rest) m) ≡ Some n → StackNamed names (stack_in all m)
    → OutcomeNamed names (outcome_in all oc seen) → StackNamed names (stack_in all n)
suspends_named names all seen oc item rest m n e p h o =
    let given : OutcomeNamed names (outcome_in all (Suspends item rest) seen) = subst (λ (x : Outcome). OutcomeNamed names (outcome_in all x seen)) e o in
    let NamedStack : Frames = stack_in all m in
    let left : Frames = stack_in all (held.suspend (Op rest) m) in
    let suspended : named.NamedStack names left
    = subst (λ (x : Frames). named.NamedStack names x) (suspend_read (reading_of all) (Op rest) m)
    (named.suspend names (calls.Op (residual_in all rest)) NamedStack given.1.0 (named.stack_in names NamedStack h)) in
    subst (λ (x : FlatStack). StackNamed names (stack_in all x)) (same_Some _ _ p)
    (named.stack_out names (stack_in all (held.push item (held.suspend (Op rest) m))) (given.0, suspended))
