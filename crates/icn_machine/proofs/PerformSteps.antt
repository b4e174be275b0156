-- Rows on a stack in a world, as steps.
use Rattle.std.proofs.Common.{◌≡◌, ℕ, suc, List, [], ◌∷◌, ◌++◌, length, map, Option, Some, None, Result, Ok, Err, refl, sym, ap, ◌∙◌, subst}
use Rattle.std.specs.Prelude.{IfErr, IsErrAnd}
use Rattle.std.specs.Option.{option_map}
use Rattle.std.specs.List.{All}
use Rattle.std.proofs.lemmas.List.Elements.{All-head, All-tail}
use Rattle.icn_value.specs.declared.val.Val.{Val}
use Rattle.icn_value.specs.Values.{Value, Item}
use Rattle.icn_value.specs.Store.{ErrorByte, Event, Heap, Names, Outside, Setting, World as StoreWorld, bare_outside}
use Rattle.icn_defs.specs.Errors.{error_report, with_kept}
use Rattle.icn_defs.specs.Interruptions.{ExtendsBy}
use Rattle.icn_defs.proofs.Interruptions.{between_longer, extends_by_ending, extends_by_errors, extends_itself, extends_then, files_longer, reading_longer}
use Rattle.icn_defs.specs.Running.{with_errors}
use Rattle.icn_defs.specs.Rows.{Row, Outcome, Fails, Gives, Suspends, Error, Ends}
use Rattle.icn_defs.specs.Applying.{function_of}
use Rattle.icn_defs.specs.StepRows as step_rows
use Rattle.law_rows.proofs.EachOfList.{all_of, each_of}
use Rattle.icn_heap.specs.Extents.{Extent, IsLive, value_in}
use Rattle.icn_heap.specs.Heaps.{extent_of}
use Rattle.law_names.specs.RowsNamed.{OutcomeNamed}
use Rattle.law_names.specs.NamedSettings.{ErrorNamed, SettingNamed, ValueNamed, WorldNamed}
use Rattle.law_names.specs.RowSizes.{heap_after}
use Rattle.icn_vars.specs.declared.outcome.Outcome.{Outcome as HeldOutcome}
use Rattle.icn_vars.specs.declared.outcome.Outcome.TheVariants.{Fails as HeldFails, Gives as HeldGives, Suspends as HeldSuspends}
use Rattle.icn_vars.specs.declared.outcome.Halt.{Halt}
use Rattle.icn_vars.specs.declared.outcome.Halt.TheVariants as Halts
use Rattle.icn_vars.specs.declared.world.World.{World}
use Rattle.icn_vars.specs.Outcomes.{IsLiveHalt, IsLiveOutcome, outcome_in}
use Rattle.icn_vars.specs.Worlds.{KeepsItems, Reach, reach_of, setting_of, world_of}
use Rattle.icn_frames.specs.declared.layout.Cell.{Cell}
use Rattle.icn_frames.specs.declared.layout.Cell.TheVariants.{Base, Call, Local, Mark, Limit, Suspension, Operand}
use Rattle.icn_frames.specs.Stacks as held
use Rattle.icn_frames.specs.Stacks.{FlatStack, set_from, set_local}
use Rattle.icn_frames.specs.Heights.{cell_at}
use Rattle.law_frames.proofs.CallsRead.{locals_read, set_locals_read}
use Rattle.icn_code.specs.Codes.{Tables}
use Rattle.icn_streams.specs.Answers.{Answers, CausedBy, Comes, Stops, StopsFiles, StopsReading, StopsPutting, call_state, files, outside_after, idle, reading, putting, streams_telling}
use Rattle.icn_streams.proofs.CallSequences.{outside_told, told_so}
use Rattle.icn_streams.specs.Applies.{Applies}
use Rattle.icn_streams.specs.Handed.{CallStreams, Follows, uncounted}
use Rattle.icn_apply.specs.AppliedRows.{applied_of}
use Rattle.icn_apply.specs.NamesAfter.{AnswerNamed}
use Rattle.icn_apply.specs.SizesAfter.{AnswerKeepsSizes, WorldsKeepSizes}
use Rattle.icn_apply.specs.declared.applied.Applied.{Applied as HeldApplied}
use Rattle.icn_apply.specs.declared.applied.Applied.TheVariants.{Op, Func}
use Rattle.icn_run.specs.Stacks.{Frames, flat}
use Rattle.icn_run.specs.Step.{State, Store, errs, here, outcome, with_at, with_world}
use Rattle.icn_run.proofs.Errors.{at_error}
use Rattle.law_steps.specs.KeepingCounts.{KeepCounts}
use Rattle.law_steps.specs.StateNames.{StackNamed}
use Rattle.law_steps.proofs.CallsNamed as named
use Rattle.law_steps.proofs.RowCounts.{rows_keep_counts}
use Rattle.icn_control.specs.LiveStacks.{IsLiveStack, with_locals}
use Rattle.icn_control.specs.Soundness.{UnlessEnded}
use Rattle.icn_control.specs.StackViews.{reading_of, stack_in}
use Rattle.icn_control.specs.TakenOperands.{KeepsCounts}
use Rattle.icn_control.specs.declared.machine.RunState.{RunState}
use Rattle.icn_control.specs.declared.machine.RunState.TheVariants as RunStates
use Rattle.icn_control.proofs.KeptItems.{stack_same, stack_stays}
use Rattle.icn_control.proofs.LiveSets.{live_replace}
use Rattle.icn_machine.specs.InstructionAnswers as answering
use Rattle.icn_machine.specs.InstructionAnswers.{AnswersStep, BreaksFiles, BreaksOff, BreaksPutting, BreaksReading, IsCause, Tells, behind, outside_in}
use Rattle.icn_machine.specs.Giving.{GivesOutcome, StandsAs}
use Rattle.icn_machine.specs.Performing.{LeavesNamed, PerformsRow, StandsOver, over_outside, row_on}

-- Locals that a row has set

live_one : (t : Tables) (reach : Reach) (v : Val) (h : ℕ) (m : FlatStack) (o : Option Cell) → cell_at h m.cells ≡ o → IsLive reach.extent v
    → IsLiveStack t reach m → IsLiveStack t reach (record m { cells = set_local h v m.cells o })
live_one t reach v h m (Some (Local old)) e i l =
    live_replace t reach m h (Local old) (Local v) e (record { live = λ n s x. (i, x.1); locals = refl; frame = λ x. x; mark = λ b x. x }) l
live_one t reach v h m (Some (Base proc locals)) e i l = l
live_one t reach v h m (Some (Call proc locals level registers place)) e i l = l
live_one t reach v h m (Some (Mark label changed registers)) e i l = l
live_one t reach v h m (Some (Limit count registers)) e i l = l
live_one t reach v h m (Some (Suspension why registers place)) e i l = l
live_one t reach v h m (Some (Operand item)) e i l = l
live_one t reach v h m None e i l = l

pub live_from : (t : Tables) (reach : Reach) (vs : List Val) (h : ℕ) (m : FlatStack) → All (IsLive reach.extent) vs → IsLiveStack t reach m
    → IsLiveStack t reach (record m { cells = set_from h vs m.cells })
live_from t reach [] h m a l = l
live_from t reach (v ∷ vs) h m a l =
    live_from t reach vs (suc h) (record m { cells = set_local (suc h) v m.cells (cell_at (suc h) m.cells) }) (All-tail (IsLive reach.extent) v vs a)
    (live_one t reach v (suc h) m (cell_at (suc h) m.cells) refl (All-head (IsLive reach.extent) v vs a) l)

-- the stack with these locals is of the world after the row
pub live_after : (t : Tables) (w v : World) (m n : FlatStack) → KeepsItems (reach_of w []) (reach_of v []) → IsLiveStack t (reach_of w []) m
    → All (IsLive (extent_of v.heap)) (held.locals n)
    → held.set_locals (held.locals n) m ≡ n → IsLiveStack t (reach_of v []) n
live_after t w v m n k l a s =
    subst (λ (x : FlatStack). IsLiveStack t (reach_of v []) x) s
    (live_from t (reach_of v []) (held.locals n) m.registers.base m a (stack_stays t (reach_of w []) (reach_of v []) m k l))

-- what items may name that are of the activation that runs
pub reach_is : (w : World) (m : FlatStack) (count : ℕ) → count ≡ held.local_count m → count ≡ length (held.locals m)
    → with_locals (held.local_count m) (reach_of w []) ≡ reach_of w (held.locals m)
reach_is w m count e f = ap (λ (n : ℕ). with_locals n (reach_of w [])) (sym e ∙ f)

-- what the stack with these locals stands for
pub set_is : (t : Tables) (w v : World) (m n : FlatStack) → KeepsItems (reach_of w []) (reach_of v []) → IsLiveStack t (reach_of w []) m
    → held.set_locals (held.locals n) m ≡ n
    → flat.set_locals (map (value_in (extent_of v.heap)) (held.locals n)) (stack_in (extent_of w.heap) m) ≡ stack_in (extent_of v.heap) n
set_is t w v m n k l s =
    ap (flat.set_locals (map (value_in (extent_of v.heap)) (held.locals n))) (sym (stack_same t (reach_of w []) (reach_of v []) m k l))
    ∙ set_locals_read (reading_of (extent_of v.heap)) (held.locals n) m
    ∙ ap (stack_in (extent_of v.heap)) s

-- the locals of a stack whose cells have names
pub locals_named : (names : Names) (all : Extent) (m : FlatStack) → StackNamed names (stack_in all m)
    → All (ValueNamed names) (map (value_in all) (held.locals m))
locals_named names all m h =
    subst (λ (values : List Value). All (ValueNamed names) values) (locals_read (reading_of all) m)
    (all_of (ValueNamed names) (flat.locals (stack_in all m)) (named.locals names (stack_in all m) (named.stack_in names (stack_in all m) h)))

-- What a state's outside is

-- behind what a row does the report of an error may stand, and the writings of files that are open
behind_row : (oc : Outcome) (M : Frames) (st : Store Frames) (was : Outside)
    → (more : List Event) × ExtendsBy (outside_after oc) more (outside_in was (outcome flat oc M st))
behind_row (Fails seen) M st was = ([], extends_itself seen.outside)
behind_row (Gives item seen) M st was = ([], extends_itself seen.outside)
behind_row (Suspends item rest seen) M st was = ([], extends_itself seen.outside)
behind_row (Error n value seen) M st was =
    let report : List ℕ = error_report st.names seen.world.heap n value in
    let written = extends_by_ending seen.world.heap.files (with_errors report seen.outside) in
    at_error (λ (s : State Frames Frames). (more : List Event) × ExtendsBy seen.outside more (outside_in was s)) n value
    (flat.set_locals seen.locals M) (with_at seen st)
    (map ErrorByte report ++ written.0, extends_then (extends_by_errors report seen.outside) written.1) ([], extends_itself seen.outside)
behind_row (Ends n seen) M st was = extends_by_ending seen.world.heap.files seen.outside

-- Answers

pub here_is : (w : World) (m : FlatStack) (st : Store Frames) (was : Outside) → st.world ≡ world_of w
    → here flat (stack_in (extent_of w.heap) m) (over_outside was st) ≡ setting_of was w (held.locals m)
here_is w m st was same =
    let F : StoreWorld → List Value → Setting = λ x y. record { world = x; locals = y; outside = was } in
    ap (λ (x : StoreWorld). F x (flat.locals (stack_in (extent_of w.heap) m))) same ∙ ap (F (world_of w)) (locals_read (reading_of (extent_of w.heap)) m)

abbrev outcome_on : World → FlatStack → Store Frames → Outside → Outcome → State Frames Frames
outcome_on w m st was oc = outcome flat oc (stack_in (extent_of w.heap) m) (over_outside was st)

state_is : (row : Row) (w : World) (m : FlatStack) (st : Store Frames) (was : Outside) → st.world ≡ world_of w
    → row_on row w m st was ≡ outcome_on w m st was (row (setting_of was w (held.locals m)))
state_is row w m st was same = ap (λ (s : Setting). outcome_on w m st was (row s)) (here_is w m st was same)

-- where a row has set the locals of a stack: the worlds, the stack before and the one that is left
pub record Sets (w v : World) (m k : FlatStack) : Type 0 where
  pub same : flat.set_locals (map (value_in (extent_of v.heap)) (held.locals k)) (stack_in (extent_of w.heap) m) ≡ stack_in (extent_of v.heap) k

stands : (w v : World) (m n : FlatStack) (row : Row) (st : Store Frames) (was now : Outside) (stage : RunState) (x : State Frames Frames)
    → row_on row w m st was ≡ x
    → StandsAs x (stack_in (extent_of v.heap) n) (record st { world = world_of v; outside = now }) stage
    → StandsOver (row_on row w m st was) st v n now (Ok stage)
stands w v m n row st was now RunStates.Running x e g = e ∙ g
stands w v m n row st was now RunStates.Failing x e g = e ∙ g
stands w v m n row st was now RunStates.Hopping x e g = absurd g
stands w v m n row st was now RunStates.Over x e g = absurd g
stands w v m n row st was now RunStates.AtBound x e g = absurd g

tells_ok : (w v : World) (m k n : FlatStack) (row : Row) (st : Store Frames) (was : Outside) (b a : CallStreams) (oc : HeldOutcome) (stage : RunState)
    → st.world ≡ world_of w → Sets w v m k → GivesOutcome oc k n stage
    → Comes row was (call_state w (held.locals m) b) (call_state v (held.locals k) a) (Ok oc)
    → Tells (λ now answer. StandsOver (row_on row w m st was) st v n now answer) was b a (Ok stage)
tells_ok w v m k n row st was b a oc stage same s g c =
    let all : Extent = extent_of v.heap in
    let seen : Setting = setting_of c.now v (held.locals k) in
    record {
      now = c.now;
      follows = c.follows;
      is =
          stands w v m n row st was c.now stage (outcome_on w m st was (outcome_in all oc seen))
          (state_is row w m st was same ∙ ap (outcome_on w m st was) c.comes)
          (g all (stack_in (extent_of w.heap) m) seen (over_outside was st) s.same);
    }

reads_part : (w v : World) (m : FlatStack) (row : Row) (st : Store Frames) (was : Outside) (b a : CallStreams) → st.world ≡ world_of w
    → StopsReading row (setting_of was w (held.locals m)) b a → BreaksReading (row_on row w m st was) was b a
reads_part w v m row st was b a same r =
    let more = behind_row (row (setting_of was w (held.locals m))) (stack_in (extent_of w.heap) m) (over_outside was st) was in
    subst (λ (x : State Frames Frames). BreaksReading x was b a) (sym (state_is row w m st was same)) (reading_longer more.1 r)

puts_part : (w v : World) (m : FlatStack) (row : Row) (st : Store Frames) (was : Outside) (b a : CallStreams) → st.world ≡ world_of w
    → StopsPutting row (setting_of was w (held.locals m)) b a → BreaksPutting (row_on row w m st was) was b a
puts_part w v m row st was b a same p =
    let more = behind_row (row (setting_of was w (held.locals m))) (stack_in (extent_of w.heap) m) (over_outside was st) was in
    subst (λ (x : State Frames Frames). BreaksPutting x was b a) (sym (state_is row w m st was same)) (between_longer more.1 p)

files_part : (w v : World) (m : FlatStack) (row : Row) (st : Store Frames) (was : Outside) (b a : CallStreams) → st.world ≡ world_of w
    → StopsFiles row (setting_of was w (held.locals m)) b a → BreaksFiles (row_on row w m st was) was b a
files_part w v m row st was b a same p =
    let more = behind_row (row (setting_of was w (held.locals m))) (stack_in (extent_of w.heap) m) (over_outside was st) was in
    subst (λ (x : State Frames Frames). BreaksFiles x was b a) (sym (state_is row w m st was same)) (files_longer more.1 p)

breaks : (w v : World) (m : FlatStack) (row : Row) (st : Store Frames) (was : Outside) (b a : CallStreams) → st.world ≡ world_of w
    → Stops row (setting_of was w (held.locals m)) b a → BreaksOff (row_on row w m st was) was b a
breaks w v m row st was b a same (idle e) = answering.idle e
breaks w v m row st was b a same (reading r) = answering.reading (reads_part w v m row st was b a same r)
breaks w v m row st was b a same (files p) = answering.files (files_part w v m row st was b a same p)
breaks w v m row st was b a same (putting p) = answering.putting (puts_part w v m row st was b a same p)

outside_given : (all : Extent) (oc : HeldOutcome) (seen : Setting) (M : Frames) (st : Store Frames) (was : Outside)
    → outside_in was (outcome flat (outcome_in all oc seen) M st) ≡ seen.outside
outside_given all HeldFails seen M st was = refl
outside_given all (HeldGives item) seen M st was = refl
outside_given all (HeldSuspends item rest) seen M st was = refl

-- what is given finds no room
breaks_behind : (w v : World) (m k : FlatStack) (row : Row) (st : Store Frames) (was : Outside) (b a : CallStreams) (oc : HeldOutcome) → st.world ≡ world_of w
    → Comes row was (call_state w (held.locals m) b) (call_state v (held.locals k) a) (Ok oc) → BreaksOff (row_on row w m st was) was b a
breaks_behind w v m k row st was b a oc same c =
    let seen : Setting = setting_of c.now v (held.locals k) in
    let is : row_on row w m st was ≡ outcome_on w m st was (outcome_in (extent_of v.heap) oc seen)
    = state_is row w m st was same ∙ ap (outcome_on w m st was) c.comes in
    let out : outside_in was (row_on row w m st was) ≡ c.now
    = ap (outside_in was) is ∙ outside_given (extent_of v.heap) oc seen (stack_in (extent_of w.heap) m) (over_outside was st) was in
    behind (subst (λ (x : Outside). Follows b a was x) (sym out) c.follows)

halts : (w v : World) (m k n : FlatStack) (row : Row) (st : Store Frames) (was : Outside) (b a : CallStreams) (halt : Halt) → st.world ≡ world_of w
    → Sets w v m k → n ≡ k → Answers row was (call_state w (held.locals m) b) (call_state v (held.locals k) a) (Err halt)
    → AnswersStep (λ now answer. StandsOver (row_on row w m st was) st v n now answer) (row_on row w m st was) was b a (Err halt)
halts w v m k n row st was b a (Halts.Error number offending) same s p c =
    let all : Extent = extent_of v.heap in
    let value : Option Value = option_map (value_in all) offending in
    let at : Store Frames = with_world (world_of v) (over_outside c.now st) in
    record {
      now = c.now;
      follows = c.follows;
      is =
          state_is row w m st was same ∙ ap (outcome_on w m st was) c.comes
          ∙ ap (λ (x : Frames). errs number value x at) (s.same ∙ ap (stack_in all) (sym p));
    }
halts w v m k n row st was b a (Halts.Ends status) same s p c =
    record { now = c.now; follows = c.follows; is = state_is row w m st was same ∙ ap (outcome_on w m st was) c.comes }
halts w v m k n row st was b a Halts.ReadFault same s p c = reads_part w v m row st was b a same c
halts w v m k n row st was b a Halts.WriteFault same s p c = puts_part w v m row st was b a same c
halts w v m k n row st was b a Halts.FileFault same s p c = files_part w v m row st was b a same c
halts w v m k n row st was b a Halts.NoMemory same s p c = breaks w v m row st was b a same c

cause : (b a : CallStreams) (halt : Halt) → CausedBy (Err halt) b a → IsCause {A = RunState} (Err halt) b a
cause b a (Halts.Error number offending) c = c
cause b a (Halts.Ends status) c = c
cause b a Halts.ReadFault c = c
cause b a Halts.WriteFault c = c
cause b a Halts.FileFault c = c
cause b a Halts.NoMemory c = c

-- What is performed

pub performs_ok : (w v : World) (m k n : FlatStack) (row : Row) (b a : CallStreams) (oc : HeldOutcome) (stage : RunState) → Sets w v m k
    → GivesOutcome oc k n stage
    → Applies row (call_state w (held.locals m) b) (call_state v (held.locals k) a) (Ok oc) → PerformsRow row w m b v n a (Ok stage)
performs_ok w v m k n row b a oc stage s g r st same = record {
  answers = λ was told. tells_ok w v m k n row st was b a oc stage same s g (r.answers was told);
  had = r.meant.had;
  has = r.meant.has;
  allowed = r.meant.allowed;
  allows = r.meant.allows;
  meant = λ was left.
      tells_ok w v m k n row st was (streams_telling r.meant.had b) (streams_telling r.meant.has a) oc stage same s g
      (r.meant.answers was left);
  caused = r.caused;
}

pub performs_lack : (w v : World) (m k n : FlatStack) (row : Row) (b a : CallStreams) (oc : HeldOutcome)
    → Applies row (call_state w (held.locals m) b) (call_state v (held.locals k) a) (Ok oc) → PerformsRow row w m b v n a (Err Halts.NoMemory)
performs_lack w v m k n row b a oc r st same = record {
  answers = λ was told. breaks_behind w v m k row st was b a oc same (r.answers was told);
  had = r.meant.had;
  has = r.meant.has;
  allowed = r.meant.allowed;
  allows = r.meant.allows;
  meant = λ was left. breaks_behind w v m k row st was (streams_telling r.meant.had b) (streams_telling r.meant.has a) oc same (r.meant.answers was left);
  caused = uncounted r.caused;
}

performs_halt : (w v : World) (m k n : FlatStack) (row : Row) (b a : CallStreams) (halt : Halt) → Sets w v m k → n ≡ k
    → Applies row (call_state w (held.locals m) b) (call_state v (held.locals k) a) (Err halt) → PerformsRow row w m b v n a (Err halt)
performs_halt w v m k n row b a halt s p r st same = record {
  answers = λ was told. halts w v m k n row st was b a halt same s p (r.answers was told);
  had = r.meant.had;
  has = r.meant.has;
  allowed = r.meant.allowed;
  allows = r.meant.allows;
  meant = λ was left. halts w v m k n row st was (streams_telling r.meant.had b) (streams_telling r.meant.has a) halt same s p (r.meant.answers was left);
  caused = cause b a halt r.caused;
}

performs_err : (result : Result RunState Halt) (w v : World) (m k n : FlatStack) (row : Row) (b a : CallStreams) (halt : Halt)
    → IsErrAnd result (λ h. h ≡ halt) → Sets w v m k → n ≡ k
    → Applies row (call_state w (held.locals m) b) (call_state v (held.locals k) a) (Err halt) → PerformsRow row w m b v n a result
performs_err (Ok stage) w v m k n row b a halt e s p r = absurd e
performs_err (Err other) w v m k n row b a halt e s p r =
    subst (λ (h : Halt). PerformsRow row w m b v n a (Err h)) (sym e) (performs_halt w v m k n row b a halt s p r)

-- Counts

heap_given : (all : Extent) (oc : HeldOutcome) (seen : Setting) → heap_after (outcome_in all oc seen) ≡ seen.world.heap
heap_given all HeldFails seen = refl
heap_given all (HeldGives item) seen = refl
heap_given all (HeldSuspends item rest) seen = refl

pub apply_counts : (names : Names) (what : HeldApplied) (items : List Item) (at : Setting)
    → KeepCounts at.world.heap (heap_after (step_rows.apply names (applied_of what) items at))
apply_counts names (Op op) items at = rows_keep_counts.operations op items at
apply_counts names (Func func) items at = rows_keep_counts.values items (function_of names func) at (λ values. rows_keep_counts.functions names func values at)

counts_kept : (w v : World) (m k : FlatStack) (row : Row) (outside now : Outside) (after : Heap)
    → ((at : Setting) → KeepCounts at.world.heap (heap_after (row at)))
    → heap_after (row (setting_of outside w (held.locals m))) ≡ after → after ≡ (setting_of now v (held.locals k)).world.heap → KeepsCounts w v
counts_kept w v m k row outside now after h e f =
    let kept = subst (λ (x : Heap). KeepCounts (world_of w).heap x) (e ∙ f) (h (setting_of outside w (held.locals m))) in
    record { bounds = kept.bounds; coexps = kept.coexps }

pub counts_after : (w v : World) (m k : FlatStack) (row : Row) (b a : CallStreams) (oc : HeldOutcome)
    → ((at : Setting) → KeepCounts at.world.heap (heap_after (row at)))
    → Applies row (call_state w (held.locals m) b) (call_state v (held.locals k) a) (Ok oc) → KeepsCounts w v
counts_after w v m k row b a oc h r =
    let was : Outside = outside_told r.meant.had in
    let c = r.meant.answers was (told_so r.meant.had) in
    counts_kept w v m k row was c.now (heap_after (outcome_in (extent_of v.heap) oc (setting_of c.now v (held.locals k)))) h (ap heap_after c.comes)
    (heap_given (extent_of v.heap) oc (setting_of c.now v (held.locals k)))

-- and so of an error
pub counts_halted : (result : Result RunState Halt) (w v : World) (m k : FlatStack) (row : Row) (b a : CallStreams) (halt : Halt)
    → IsErrAnd result (λ h. h ≡ halt) → ((at : Setting) → KeepCounts at.world.heap (heap_after (row at)))
    → Applies row (call_state w (held.locals m) b) (call_state v (held.locals k) a) (Err halt) → UnlessEnded result (KeepsCounts w v)
counts_halted (Ok stage) w v m k row b a halt e h r = absurd e
counts_halted (Err other) w v m k row b a halt e h r = subst (λ (x : Halt). UnlessEnded {A = RunState} (Err x) (KeepsCounts w v)) (sym e) (by_halt halt r)
  where
    by_halt : (x : Halt) → Applies row (call_state w (held.locals m) b) (call_state v (held.locals k) a) (Err x)
        → UnlessEnded {A = RunState} (Err x) (KeepsCounts w v)
    by_halt (Halts.Error number offending) q =
        let was : Outside = outside_told q.meant.had in
        let c = q.meant.answers was (told_so q.meant.had) in
        counts_kept w v m k row was c.now (setting_of c.now v (held.locals k)).world.heap h (ap heap_after c.comes) refl
    by_halt (Halts.Ends status) q = tt
    by_halt Halts.ReadFault q = tt
    by_halt Halts.WriteFault q = tt
    by_halt Halts.FileFault q = tt
    by_halt Halts.NoMemory q = tt

-- Sizes

pub sizes_halted : (result : Result RunState Halt) (w v : World) (halt : Halt) → IsErrAnd result (λ h. h ≡ halt) → AnswerKeepsSizes w v (Err halt)
    → UnlessEnded result (WorldsKeepSizes w v)
sizes_halted (Ok stage) w v halt e h = absurd e
sizes_halted (Err other) w v halt e h = subst (λ (x : Halt). UnlessEnded {A = RunState} (Err x) (WorldsKeepSizes w v)) (sym e) (by_halt halt h)
  where
    by_halt : (x : Halt) → AnswerKeepsSizes w v (Err x) → UnlessEnded {A = RunState} (Err x) (WorldsKeepSizes w v)
    by_halt (Halts.Error number offending) q = q
    by_halt (Halts.Ends status) q = tt
    by_halt Halts.ReadFault q = tt
    by_halt Halts.WriteFault q = tt
    by_halt Halts.FileFault q = tt
    by_halt Halts.NoMemory q = tt

-- Names

seen_named : (names : Names) (all : Extent) (oc : HeldOutcome) (seen : Setting) → OutcomeNamed names (outcome_in all oc seen) → SettingNamed names seen
seen_named names all HeldFails seen h = h
seen_named names all (HeldGives item) seen h = h.1
seen_named names all (HeldSuspends item rest) seen h = h.1.1

-- the stack with locals that name only what has a name
stack_set : (names : Names) (w v : World) (m k : FlatStack) (outside : Outside) → Sets w v m k → StackNamed names (stack_in (extent_of w.heap) m)
    → SettingNamed names (setting_of outside v (held.locals k)) → StackNamed names (stack_in (extent_of v.heap) k)
stack_set names w v m k outside s h seen =
    let values : List Value = map (value_in (extent_of v.heap)) (held.locals k) in
    let M : Frames = stack_in (extent_of w.heap) m in
    subst (λ (x : Frames). StackNamed names x) s.same
    (named.stack_out names (flat.set_locals values M)
    (named.set_locals names values M (each_of (ValueNamed names) values seen.locals) (named.stack_in names M h)))

set_named : (names : Names) (w v : World) (m k : FlatStack) (oc : HeldOutcome) → Sets w v m k → StackNamed names (stack_in (extent_of w.heap) m)
    → OutcomeNamed names (outcome_in (extent_of v.heap) oc (setting_of bare_outside v (held.locals k)))
    → StackNamed names (stack_in (extent_of v.heap) k) × WorldNamed names (world_of v)
set_named names w v m k oc s h o =
    let seen = seen_named names (extent_of v.heap) oc (setting_of bare_outside v (held.locals k)) o in
    (stack_set names w v m k bare_outside s h seen, seen.world)

-- a world that names only what has a name, with an error kept that does
world_keeps : (names : Names) (world : StoreWorld) (number : ℕ) (offending : Option Value) → WorldNamed names world → ErrorNamed names number offending
    → WorldNamed names (with_kept number offending world)
world_keeps names world number offending h e = record { heap = h.heap; globals = h.globals; statics = h.statics; kept = e }

-- What follows of what a call said of a row, on a stack of which it has set the locals

abbrev AppliesOn : Row → World → FlatStack → CallStreams → World → FlatStack → CallStreams → Result HeldOutcome Halt → Type 0
AppliesOn row w m b v k a answer = Applies row (call_state w (held.locals m) b) (call_state v (held.locals k) a) answer

pub kept_after : (w v : World) (m k : FlatStack) (row : Row) (b a : CallStreams) (answer : Result HeldOutcome Halt) → AppliesOn row w m b v k a answer
    → KeepsItems (reach_of w []) (reach_of v [])
kept_after w v m k row b a answer r =
    record { extent = r.kept.extent; fields = r.kept.fields; globals = r.kept.globals; statics = r.kept.statics; locals = refl }

sets_in : (t : Tables) (w v : World) (m k : FlatStack) (row : Row) (b a : CallStreams) (answer : Result HeldOutcome Halt) → AppliesOn row w m b v k a answer
    → held.set_locals (held.locals k) m ≡ k
    → IsLiveStack t (reach_of w []) m → Sets w v m k
sets_in t w v m k row b a answer r s l = record { same = set_is t w v m k (kept_after w v m k row b a answer r) l s }

pub halted_row : (t : Tables) (result : Result RunState Halt) (w v : World) (m k : FlatStack) (row : Row) (b a : CallStreams) (halt : Halt)
    → IsErrAnd result (λ h. h ≡ halt) → AppliesOn row w m b v k a (Err halt) → held.set_locals (held.locals k) m ≡ k
    → IsLiveStack t (reach_of w []) m → PerformsRow row w m b v k a result
halted_row t result w v m k row b a halt e r s l = performs_err result w v m k k row b a halt e (sets_in t w v m k row b a (Err halt) r s l) refl r

pub given_row : (t : Tables) (w v : World) (m k n : FlatStack) (row : Row) (b a : CallStreams) (oc : HeldOutcome) (stage : RunState)
    → AppliesOn row w m b v k a (Ok oc) → held.set_locals (held.locals k) m ≡ k
    → IsLiveStack t (reach_of w []) m → GivesOutcome oc k n stage → PerformsRow row w m b v n a (Ok stage)
given_row t w v m k n row b a oc stage r s l g = performs_ok w v m k n row b a oc stage (sets_in t w v m k row b a (Ok oc) r s l) g r

without_locals : (v : World) (locals : List Val) (halt : Halt) → IsLiveHalt (reach_of v locals) halt → IsLiveHalt (reach_of v []) halt
without_locals v locals (Halts.Error number offending) l = l
without_locals v locals (Halts.Ends status) l = l
without_locals v locals Halts.ReadFault l = l
without_locals v locals Halts.WriteFault l = l
without_locals v locals Halts.FileFault l = l
without_locals v locals Halts.NoMemory l = l

pub halt_live : (result : Result RunState Halt) (w v : World) (m k : FlatStack) (row : Row) (b a : CallStreams) (halt : Halt) → IsErrAnd result (λ h. h ≡ halt)
    → AppliesOn row w m b v k a (Err halt)
    → IfErr result (IsLiveHalt (reach_of v []))
halt_live (Ok stage) w v m k row b a halt e r = absurd e
halt_live (Err other) w v m k row b a halt e r = subst (λ (h : Halt). IsLiveHalt (reach_of v []) h) (sym e) (without_locals v (held.locals k) halt r.live)

pub stack_live : (t : Tables) (w v : World) (m k : FlatStack) (row : Row) (b a : CallStreams) (answer : Result HeldOutcome Halt)
    → AppliesOn row w m b v k a answer → held.set_locals (held.locals k) m ≡ k
    → IsLiveStack t (reach_of w []) m → IsLiveStack t (reach_of v []) k
stack_live t w v m k row b a answer r s l = live_after t w v m k (kept_after w v m k row b a answer r) l r.locals s

pub outcome_live : (w v : World) (m k : FlatStack) (row : Row) (b a : CallStreams) (oc : HeldOutcome) (count : ℕ) → AppliesOn row w m b v k a (Ok oc)
    → count ≡ held.local_count k → count ≡ length (held.locals k)
    → IsLiveOutcome (with_locals (held.local_count k) (reach_of v [])) oc
outcome_live w v m k row b a oc count r f g = subst (λ (x : Reach). IsLiveOutcome x oc) (sym (reach_is v k count f g)) r.live

-- the stack with the locals that were set, its world and what is given name only what has a name
pub record NamedWith (names : Names) (v : World) (k : FlatStack) (oc : HeldOutcome) : Type 0 where
  pub stack : StackNamed names (stack_in (extent_of v.heap) k)
  pub world : WorldNamed names (world_of v)
  pub outcome : OutcomeNamed names (outcome_in (extent_of v.heap) oc (setting_of bare_outside v (held.locals k)))

pub named_with : (t : Tables) (names : Names) (w v : World) (m k : FlatStack) (row : Row) (b a : CallStreams) (oc : HeldOutcome)
    → AppliesOn row w m b v k a (Ok oc) → held.set_locals (held.locals k) m ≡ k
    → IsLiveStack t (reach_of w []) m → StackNamed names (stack_in (extent_of w.heap) m) → AnswerNamed names v (held.locals k) (Ok oc) → NamedWith names v k oc
named_with t names w v m k row b a oc r s l h n =
    let both = set_named names w v m k oc (sets_in t w v m k row b a (Ok oc) r s l) h n in
    record { stack = both.0; world = both.1; outcome = n }

-- what an error leaves
pub names_halted : (t : Tables) (result : Result RunState Halt) (names : Names) (w v : World) (m k : FlatStack) (row : Row) (b a : CallStreams) (halt : Halt)
    → IsErrAnd result (λ h. h ≡ halt) → AppliesOn row w m b v k a (Err halt) → held.set_locals (held.locals k) m ≡ k
    → IsLiveStack t (reach_of w []) m → StackNamed names (stack_in (extent_of w.heap) m) → AnswerNamed names v (held.locals k) (Err halt)
    → LeavesNamed names v k result
names_halted t (Ok stage) names w v m k row b a halt e r s l h n = absurd e
names_halted t (Err other) names w v m k row b a halt e r s l h n =
    subst (λ (x : Halt). LeavesNamed names v k (Err x)) (sym e) (by_halt halt (sets_in t w v m k row b a (Err halt) r s l) n)
  where
    by_halt : (x : Halt) → Sets w v m k → AnswerNamed names v (held.locals k) (Err x) → LeavesNamed names v k (Err x)
    by_halt (Halts.Error number offending) q f = λ goes. (
      stack_set names w v m k bare_outside q h f.1,
      world_keeps names (world_of v) number (option_map (value_in (extent_of v.heap)) offending) f.1.world f.0,
    )
    by_halt (Halts.Ends status) q f = tt
    by_halt Halts.ReadFault q f = tt
    by_halt Halts.WriteFault q f = tt
    by_halt Halts.FileFault q f = tt
    by_halt Halts.NoMemory q f = tt
