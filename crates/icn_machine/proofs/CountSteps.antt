-- Counts on the stack alone, as rows that are resumed.
use Rattle.std.proofs.Common.{◌≡◌, ℤ, suc, Bool, true, false, [], FitsSigned, Option, Some, None, Result, Ok, Err, IfErr, IfOk, OnOk, refl, sym, ap, ◌∙◌, subst, arith}
use mir.Val.{of_z, to_z}
use Rattle.std.specs.Prelude.{◌+ℤ◌, ok_or}
use Rattle.std.proofs.lemmas.Int.{to_z-of_z}
use Rattle.std.proofs.lemmas.Option.{same_Some}
use Rattle.std.specs.Int.{w64}
use Rattle.std.specs.Result.{result_ok}
use Rattle.icn_text.specs.declared.arithmetic.Arith.TheVariants.{Overflow}
use Rattle.icn_text.specs.IntegerArithmetic.{if_fits, sum}
use Rattle.icn_value.specs.declared.item.Item.TheVariants as Items
use Rattle.icn_value.specs.declared.residual.Residual.{Residual}
use Rattle.icn_value.specs.declared.residual.Residual.TheVariants.{Counting}
use Rattle.icn_value.specs.declared.val.Val.TheVariants as Vals
use Rattle.icn_value.specs.Values as values
use Rattle.icn_value.specs.Store.{Names, Setting}
use Rattle.icn_defs.specs.Applying as rows
use Rattle.icn_defs.specs.Arithmetic.{count_from, counting_again, counts_on}
use Rattle.icn_defs.specs.Rows.{Outcome, Counting as RowCounting, fails_unless, suspends}
use Rattle.icn_heap.specs.Extents.{Extent}
use Rattle.icn_heap.specs.Heaps.{extent_of}
use Rattle.icn_vars.specs.Outcomes.{outcome_in, residual_in}
use Rattle.icn_vars.specs.Worlds.{KeepsItems, Reach, reach_of, world_of}
use Rattle.icn_vars.specs.declared.outcome.Halt.{Halt}
use Rattle.icn_vars.specs.declared.outcome.Halt.TheVariants as Halts
use Rattle.icn_vars.specs.declared.outcome.Outcome.TheVariants as HeldOutcomes
use Rattle.icn_vars.specs.declared.world.World.{World}
use Rattle.icn_frames.specs.declared.layout.Count.{Count}
use Rattle.icn_frames.specs.declared.layout.Why.TheVariants.{Op}
use Rattle.icn_frames.specs.Slots.{why_counting}
use Rattle.icn_frames.specs.Stacks as held
use Rattle.icn_frames.specs.Stacks.{FlatStack}
use Rattle.icn_code.specs.Codes.{Tables}
use Rattle.icn_streams.specs.Handed.{CallStreams}
use Rattle.icn_apply.specs.SizesAfter.{WorldsKeepSizes}
use Rattle.icn_run.specs.Calls as calls
use Rattle.icn_run.specs.Stacks.{Frames, flat}
use Rattle.icn_run.specs.Step as code
use Rattle.icn_run.specs.Step.{State, Store, failing, fails, here, running, with_at}
use Rattle.law_frames.proofs.ScansRead.{suspend_read}
use Rattle.law_names.specs.NamedSettings.{ItemNamed, WorldNamed}
use Rattle.law_steps.specs.StateNames.{StackNamed}
use Rattle.law_steps.proofs.CallsNamed as named
use Rattle.icn_control.specs.LiveStacks.{IsLiveStack, StaysLive}
use Rattle.icn_control.specs.Soundness.{LeavesWorld, UnlessEnded}
use Rattle.icn_control.specs.StackAndWorld.{StandsWith}
use Rattle.icn_control.specs.StackViews.{reading_of, stack_in}
use Rattle.icn_control.specs.declared.machine.RunState.{RunState}
use Rattle.icn_control.specs.declared.machine.RunState.TheVariants as RunStates
use Rattle.icn_control.proofs.StackAndWorldSteps.{same_world}
use Rattle.icn_control.proofs.FailingStackSteps.{falls_by}
use Rattle.icn_machine.specs.Counts.{CountsOn, FailsAsTurn, count_if, count_outcome}
use Rattle.icn_machine.specs.Giving.{GivesOutcome, StandsAs}
use Rattle.icn_machine.specs.Performing.{LeavesNamed, PerformsRow, over_outside}
use Rattle.icn_machine.proofs.GiveSteps.{fails_given, suspends_given, suspends_live}
use Rattle.icn_machine.proofs.OperateSteps.{in_turn, performs_idle, performs_still}
use Rattle.icn_machine.proofs.PlainOperationSteps.{locals_back}

-- Giving

given_if : (b : Bool) (count : Count) → b ≡ true → count_if b count
    ≡ HeldOutcomes.Suspends (Items.Val (Vals.Integer count.given)) (Counting count.given count.last count.step)
given_if b count e = ap (λ (x : Bool). count_if x count) e

failed_if : (b : Bool) (count : Count) → b ≡ false → count_if b count ≡ HeldOutcomes.Fails
failed_if b count e = ap (λ (x : Bool). count_if x count) e

-- the integer was given, and its count suspended
pub count_given : (m n : FlatStack) (count : Count) → counts_on count.step count.last count.given ≡ true
    → held.given_to (Some (Items.Val (Vals.Integer count.given))) (held.suspend_by (Op (Counting count.given count.last count.step)) m) ≡ Some n
    → GivesOutcome (count_outcome count) m n RunStates.Running
count_given m n count on e =
    suspends_given (count_outcome count) (Items.Val (Vals.Integer count.given)) (Counting count.given count.last count.step) m n
    (given_if (counts_on count.step count.last count.given) count on) e

pub count_live : (m n : FlatStack) (count : Count)
    → held.given_to (Some (Items.Val (Vals.Integer count.given))) (held.suspend_by (Op (Counting count.given count.last count.step)) m) ≡ Some n
    → StaysLive m n
count_live m n count e t reach l =
    suspends_live t reach (count_if true count) (Items.Val (Vals.Integer count.given)) (Counting count.given count.last count.step) m n refl e l
    (record { live = (record { live = record { live = tt } }, record { live = tt }) })

pub count_named : (m n : FlatStack) (count : Count)
    → held.given_to (Some (Items.Val (Vals.Integer count.given))) (held.suspend_by (Op (Counting count.given count.last count.step)) m) ≡ Some n
    → (names : Names) (all : Extent) → StackNamed names (stack_in all m) → StackNamed names (stack_in all n)
count_named m n count e names all h =
    let rest : Residual = Counting count.given count.last count.step in
    let one : ItemNamed names (values.Val (values.Integer count.given)) = record { named = tt } in
    let suspended : named.NamedStack names (stack_in all (held.suspend (Op rest) m))
    = subst (λ (x : Frames). named.NamedStack names x) (suspend_read (reading_of all) (Op rest) m)
    (named.suspend names (calls.Op (residual_in all rest)) (stack_in all m) (record { named = tt }) (named.stack_in names (stack_in all m) h)) in
    subst (λ (x : FlatStack). StackNamed names (stack_in all x)) (same_Some _ _ e)
    (named.stack_out names (stack_in all (held.push (Items.Val (Vals.Integer count.given)) (held.suspend (Op rest) m))) (one, suspended))

-- the end was passed
pub count_ended : (m : FlatStack) (count : Count) → counts_on count.step count.last count.given ≡ false
    → GivesOutcome (count_outcome count) m m RunStates.Failing
count_ended m count off = fails_given (count_outcome count) m (failed_if (counts_on count.step count.last count.given) count off)

-- Going on

fitting_sum : (m n : ℤ) → result_ok (sum m n) ≡ if_fits (m +ℤ n)
fitting_sum m n = by_found (if_fits (m +ℤ n))
  where
    by_found : (found : Option ℤ) → result_ok (ok_or found Overflow) ≡ found
    by_found (Some k) = refl
    by_found None = refl

-- what a count comes to, as the definitions say it
pub counted : (count : Count) (all : Extent) (seen : Setting)
    → count_from count.last count.step (Some count.given) seen ≡ outcome_in all (count_outcome count) seen
counted count all seen = by_end (counts_on count.step count.last count.given)
  where
    by_end : (b : Bool) → fails_unless b (suspends (values.Val (values.Integer count.given)) (RowCounting count.given count.last count.step)) seen
        ≡ outcome_in all (count_if b count) seen
    by_end true = refl
    by_end false = refl

-- the next integer is given
pub counts_over : (count next : Count) (m n : FlatStack) (stage : RunState) → result_ok (sum count.given count.step) ≡ Some next.given
    → next.last ≡ count.last → next.step ≡ count.step → GivesOutcome (count_outcome next) m n stage → CountsOn count m n stage
counts_over count next m n stage e last step gives all old seen st s =
    let again : counting_again count.given count.last count.step seen ≡ outcome_in all (count_outcome next) seen
    = ap (λ (o : Option ℤ). count_from count.last count.step o seen) (sym (fitting_sum count.given count.step) ∙ e)
    ∙ ap (λ (l : ℤ). count_from l count.step (Some next.given) seen) (sym last)
    ∙ ap (λ (k : ℤ). count_from next.last k (Some next.given) seen) (sym step)
    ∙ counted next all seen in
    subst (λ (o : Outcome). StandsAs (code.outcome flat o old st) (stack_in all n) (with_at seen st) stage) (sym again) (gives all old seen st s)

-- 64 bits hold no next integer
pub counts_past : (count : Count) (m : FlatStack) → result_ok (sum count.given count.step) ≡ None → CountsOn count m m RunStates.Failing
counts_past count m e all old seen st s =
    ap (λ (o : Option ℤ). code.outcome flat (count_from count.last count.step o seen) old st) (sym (fitting_sum count.given count.step) ∙ e)
    ∙ ap (λ (y : Frames). failing y (with_at seen st)) s

-- the same where the next integer is given, or memory ran out
pub counts_if : {E : Type 0} (count next : Count) (m n : FlatStack) (result : Result RunState E)
    → result_ok (sum count.given count.step) ≡ Some next.given → next.last ≡ count.last → next.step ≡ count.step
    → IfOk result (GivesOutcome (count_outcome next) m n) → IfOk result (CountsOn count m n)
counts_if count next m n (Ok stage) e last step gives = counts_over count next m n stage e last step gives
counts_if count next m n (Err lack) e last step gives = tt

-- a sum of two integers of 64 bits, as a call has it
pub held_sum : (m n : ℤ) → FitsSigned w64 m → FitsSigned w64 n → sum (to_z w64 (of_z w64 m)) (to_z w64 (of_z w64 n)) ≡ sum m n
held_sum m n fits fits' = ap (λ k. sum k (to_z w64 (of_z w64 n))) (to_z-of_z w64 m fits) ∙ ap (sum m) (to_z-of_z w64 n fits')

-- what is kept of a count, as a call has it
pub counting_held : (n last step : ℤ) → FitsSigned w64 n → FitsSigned w64 last → FitsSigned w64 step
    → Counting n last step ≡ Counting (to_z w64 (of_z w64 n)) (to_z w64 (of_z w64 last)) (to_z w64 (of_z w64 step))
counting_held n last step a b d =
    ap (λ (x : ℤ). Counting x last step) (sym (to_z-of_z w64 n a))
    ∙ ap (λ (x : ℤ). Counting (to_z w64 (of_z w64 n)) x step) (sym (to_z-of_z w64 last b))
    ∙ ap (λ (x : ℤ). Counting (to_z w64 (of_z w64 n)) (to_z w64 (of_z w64 last)) x) (sym (to_z-of_z w64 step d))

-- Resuming

pub stands_with : (s : State Frames Frames) (w : World) (n : FlatStack) (st : Store Frames) (stage : RunState) → st.world ≡ world_of w
    → StandsAs s (stack_in (extent_of w.heap) n) st stage → StandsWith s st w n stage
stands_with s w n st RunStates.Running same h = h ∙ ap (running (stack_in (extent_of w.heap) n)) (same_world w st same)
stands_with s w n st RunStates.Failing same h = h ∙ ap (failing (stack_in (extent_of w.heap) n)) (same_world w st same)
stands_with s w n st RunStates.Hopping same h = absurd h
stands_with s w n st RunStates.Over same h = absurd h
stands_with s w n st RunStates.AtBound same h = absurd h

-- what the row of a count that is resumed comes to
pub count_resumed : (w : World) (m n : FlatStack) (count : Count) (rest : Residual) (b : CallStreams) (result : Result RunState Halt)
    → rest ≡ Counting count.given count.last count.step → held.set_locals (held.locals m) m ≡ m → IfOk result (CountsOn count m n)
    → IfErr result (λ halt. halt ≡ Halts.NoMemory) → PerformsRow (rows.again (residual_in (extent_of w.heap) rest)) w m b w n b result
count_resumed w m n count rest b (Ok stage) is back counts halt =
    let all : Extent = extent_of w.heap in
    let P : Residual → Type 0 = λ r. PerformsRow (rows.again (residual_in all r)) w m b w n b (Ok stage) in
    let there : P (Counting count.given count.last count.step)
    = λ st same. performs_still _ _ b stage (λ was.
    let at : Store Frames = over_outside was st in
    stands_with _ w n at stage same (counts all (stack_in all m) (here flat (stack_in all m) at) at (locals_back all m back))) in
    subst P (sym is) there
count_resumed w m n count rest b (Err halted) is back counts halt =
    let P : Halt → Type 0 = λ h. PerformsRow (rows.again (residual_in (extent_of w.heap) rest)) w m b w n b (Err h) in
    let there : P Halts.NoMemory = λ st same. performs_idle _ _ b in
    subst P (sym halt) there

keeps_all : (r : Reach) → KeepsItems r r
keeps_all r = record {
  extent = record {
    means = record { made = λ val l. l; value = λ val l. refl; text = λ span l. l; bytes = λ span l. refl };
    live = λ val l. l;
    value = λ val l. refl;
    text = λ span l. l;
    bytes = λ span l. refl;
  };
  fields = record { more = λ id. omega arith };
  globals = refl;
  statics = refl;
  locals = refl;
}

-- the world stays
pub world_left : (w : World) (result : Result RunState Halt) → IfErr result (λ halt. halt ≡ Halts.NoMemory) → LeavesWorld w w result
world_left w (Ok stage) halt = record { kept = keeps_all (reach_of w []); counts = record { bounds = refl; coexps = refl }; halt = tt }
world_left w (Err halted) halt =
    let P : Halt → Type 0 = λ h. let r : Result RunState Halt = Err h in LeavesWorld w w r in
    let there : P Halts.NoMemory = record { kept = keeps_all (reach_of w []); counts = tt; halt = tt } in
    subst P (sym halt) there

-- what stands on the stack is of the world still
pub live_left : (w : World) (m n : FlatStack) (t : Tables) (result : Result RunState Halt) → IfErr result (λ halt. halt ≡ Halts.NoMemory)
    → OnOk result (StaysLive m n) → IsLiveStack t (reach_of w []) m → UnlessEnded result (IsLiveStack t (reach_of w []) n)
live_left w m n t (Ok stage) halt live l = live t (reach_of w []) l
live_left w m n t (Err halted) halt live l =
    let P : Halt → Type 0 = λ h. let r : Result RunState Halt = Err h in UnlessEnded r (IsLiveStack t (reach_of w []) n) in
    let there : P Halts.NoMemory = tt in
    subst P (sym halt) there

pub sizes_left : (w : World) (result : Result RunState Halt) → IfErr result (λ halt. halt ≡ Halts.NoMemory) → UnlessEnded result (WorldsKeepSizes w w)
sizes_left w (Ok stage) halt = λ sizes. record { kinds = λ id kind is. is; fit = λ fits. fits }
sizes_left w (Err halted) halt =
    let P : Halt → Type 0 = λ h. let r : Result RunState Halt = Err h in UnlessEnded r (WorldsKeepSizes w w) in
    let there : P Halts.NoMemory = tt in
    subst P (sym halt) there

pub names_left : (names : Names) (w : World) (m n : FlatStack) (result : Result RunState Halt) → IfErr result (λ halt. halt ≡ Halts.NoMemory)
    → (StackNamed names (stack_in (extent_of w.heap) m) → OnOk result (StackNamed names (stack_in (extent_of w.heap) n)))
    → StackNamed names (stack_in (extent_of w.heap) m) → WorldNamed names (world_of w) → LeavesNamed names w n result
names_left names w m n (Ok stage) halt named there k = (named there, k)
names_left names w m n (Err halted) halt named there k =
    let P : Halt → Type 0 = λ h. let r : Result RunState Halt = Err h in LeavesNamed names w n r in
    let nothing : P Halts.NoMemory = tt in
    subst P (sym halt) nothing

-- Failing to a count

-- a step of failing that resumes a count is a turn on the stack alone
pub count_in_turn : (m k n : FlatStack) (count : Count) (stage : RunState)
    → held.resume m ≡ Some (why_counting count.given count.last count.step, k) → held.set_locals (held.locals k) k ≡ k → CountsOn count k n stage
    → FailsAsTurn m n stage
count_in_turn m k n count stage e same counts all tables st more =
    let on : Frames = stack_in all k in
    let later : Store Frames = record st { turns = suc st.turns } in
    let event : Store Frames → State Frames Frames = λ s. code.outcome flat (counting_again count.given count.last count.step (here flat on s)) on s in
    let leads : fails flat tables (stack_in all m) st ≡ event later
    = falls_by all m k (why_counting count.given count.last count.step) e tables st ∙ in_turn tables st event more in
    subst (λ (x : State Frames Frames). StandsAs x (stack_in all n) later stage) (sym leads)
    (counts all on (here flat on later) later (locals_back all k same))
