-- What is performed on a stack in a world, on a machine, and what neither reads nor puts anything.
use Rattle.std.proofs.Common.{◌≡◌, ℕ, suc, Bool, true, false, nat_lt, if◌then◌else◌, [], Some, Result, Ok, Err, MatchResult, refl, sym, ap, ◌∙◌, subst}
use Rattle.std.specs.Prelude.{IfOk, ⊤}
use Rattle.std.specs.Option.{option_map}
use Rattle.icn_value.specs.Store.{Names, Outside, bare_outside}
use Rattle.icn_defs.specs.Rows.{Outcome, Row, Fails, Gives, Suspends, Error, Ends}
use Rattle.icn_heap.specs.Extents.{value_in}
use Rattle.icn_heap.specs.Heaps.{extent_of, heap_of}
use Rattle.icn_vars.specs.declared.outcome.Halt.{Halt}
use Rattle.icn_vars.specs.declared.outcome.Halt.TheVariants as Halts
use Rattle.icn_vars.specs.declared.world.World.{World}
use Rattle.icn_vars.specs.Worlds.{KeepsItems, reach_of, world_of}
use Rattle.icn_frames.specs.Stacks.{FlatStack}
use Rattle.icn_coexp.specs.Transfers.{CoexpTable}
use Rattle.icn_code.specs.Codes.{Tables}
use Rattle.icn_run.specs.Rows.{Done}
use Rattle.icn_run.specs.Stacks.{Frames, flat}
use Rattle.icn_run.specs.Step.{State, Store, running, failing, all_names, errs, finish_run, is_main, outcome, over_with, stuck, with_at, with_world, turn, turn_if}
use Rattle.icn_run.proofs.Errors.{at_error}
use Rattle.icn_streams.proofs.IdleCalls.{allows_own, allows_still, keeps_all_counts_refl, leaves_streams_refl, told_of}
use Rattle.icn_streams.specs.Answers.{streams_telling}
use Rattle.icn_streams.specs.Handed.{CallStreams, TellsOutside, uncounted}
use Rattle.icn_streams.proofs.CallSequences.{follows_all, outside_told, tells_told, told_so}
use Rattle.icn_control.specs.Machines.{AreLiveStacks, ComesTo, running_of, stack_seen, store_in, store_seen}
use Rattle.icn_control.specs.Soundness.{UnlessEnded}
use Rattle.icn_control.specs.StackAndWorld.{HaltsWith, StandsWith}
use Rattle.icn_control.specs.StackViews.{stack_in}
use Rattle.icn_control.specs.declared.machine.Machine.{Machine}
use Rattle.icn_control.specs.declared.machine.RunState.{RunState}
use Rattle.icn_control.specs.declared.machine.RunState.TheVariants as RunStates
use Rattle.icn_control.proofs.GrowthSteps.{grown_store}
use Rattle.icn_calls.specs.Calling.{IsGoing}
use Rattle.icn_machine.specs.InstructionAnswers.{AnswersStep, BreaksFiles, BreaksOff, BreaksPutting, BreaksReading, IsCause, Performs, idle}
use Rattle.icn_machine.specs.Invoking.{PerformsEvent}
use Rattle.icn_machine.specs.Performing.{PerformsOn, PerformsRow, StandsOver, over_outside, row_on}

-- The same step, said otherwise

answers_as : {A : Type 0} (Comes Same : Outside → Result A Halt → Type 0) (a b : State Frames Frames) (was : Outside) (before after : CallStreams)
    (result : Result A Halt)
    → a ≡ b → ((now : Outside) → Comes now result → Same now result)
    → AnswersStep Comes b was before after result → AnswersStep Same a was before after result
answers_as Comes Same a b was before after (Ok x) e h t = record { now = t.now; follows = t.follows; is = h t.now t.is }
answers_as Comes Same a b was before after (Err (Halts.Error number offending)) e h t = record { now = t.now; follows = t.follows; is = h t.now t.is }
answers_as Comes Same a b was before after (Err (Halts.Ends status)) e h t = record { now = t.now; follows = t.follows; is = h t.now t.is }
answers_as Comes Same a b was before after (Err Halts.ReadFault) e h t = subst (λ (s : State Frames Frames). BreaksReading s was before after) (sym e) t
answers_as Comes Same a b was before after (Err Halts.WriteFault) e h t = subst (λ (s : State Frames Frames). BreaksPutting s was before after) (sym e) t
answers_as Comes Same a b was before after (Err Halts.FileFault) e h t = subst (λ (s : State Frames Frames). BreaksFiles s was before after) (sym e) t
answers_as Comes Same a b was before after (Err Halts.NoMemory) e h t = subst (λ (s : State Frames Frames). BreaksOff s was before after) (sym e) t

-- where the states to which a step leads are the same, and what is said of each answer follows
pub performs_as : {A : Type 0} (leads others : Outside → State Frames Frames) (Comes Same : Outside → Outside → Result A Halt → Type 0)
    (before after : CallStreams)
    (result : Result A Halt) → ((was : Outside) → leads was ≡ others was) → ((was now : Outside) → Comes was now result → Same was now result)
    → Performs others Comes before after result → Performs leads Same before after result
performs_as leads others Comes Same before after result e h p = record {
  answers = λ was told. answers_as (Comes was) (Same was) (leads was) (others was) was before after result (e was) (h was) (p.answers was told);
  had = p.had;
  has = p.has;
  allowed = p.allowed;
  allows = p.allows;
  meant =
      λ was left. answers_as (Comes was) (Same was) (leads was) (others was) was (streams_telling p.had before) (streams_telling p.has after) result
      (e was) (h was) (p.meant was left);
  caused = p.caused;
}

-- two things that are so unless the run ended
pub unless_both : {A : Type 0} (result : Result A Halt) (P Q R : Type 0) → UnlessEnded result P → UnlessEnded result Q → (P → Q → R) → UnlessEnded result R
unless_both (Ok a) P Q R p q f = f p q
unless_both (Err (Halts.Error number offending)) P Q R p q f = f p q
unless_both (Err (Halts.Ends status)) P Q R p q f = tt
unless_both (Err Halts.ReadFault) P Q R p q f = tt
unless_both (Err Halts.WriteFault) P Q R p q f = tt
unless_both (Err Halts.FileFault) P Q R p q f = tt
unless_both (Err Halts.NoMemory) P Q R p q f = tt

-- What neither reads nor puts anything

-- no object failed
abbrev pub IsFaultless : {A : Type 0} → Result A Halt → Type 0
IsFaultless (Ok a) = ⊤
IsFaultless (Err (Halts.Error number offending)) = ⊤
IsFaultless (Err (Halts.Ends status)) = ⊤
IsFaultless (Err Halts.ReadFault) = ⊥
IsFaultless (Err Halts.WriteFault) = ⊥
IsFaultless (Err Halts.FileFault) = ⊥
IsFaultless (Err Halts.NoMemory) = ⊤

still_answers : {A : Type 0} (Comes : Outside → Result A Halt → Type 0) (state : State Frames Frames) (was : Outside) (before : CallStreams)
    (result : Result A Halt)
    → TellsOutside before was → IsFaultless result → Comes was result → AnswersStep Comes state was before before result
still_answers Comes state was before (Ok a) told f h = record { now = was; follows = follows_all before was told; is = h }
still_answers Comes state was before (Err (Halts.Error number offending)) told f h = record { now = was; follows = follows_all before was told; is = h }
still_answers Comes state was before (Err (Halts.Ends status)) told f h = record { now = was; follows = follows_all before was told; is = h }
still_answers Comes state was before (Err Halts.ReadFault) told f h = absurd f
still_answers Comes state was before (Err Halts.WriteFault) told f h = absurd f
still_answers Comes state was before (Err Halts.FileFault) told f h = absurd f
still_answers Comes state was before (Err Halts.NoMemory) told f h = idle (leaves_streams_refl before)

still_caused : {A : Type 0} (before : CallStreams) (result : Result A Halt) → IsFaultless result → IsCause result before before
still_caused before (Ok a) f = keeps_all_counts_refl before
still_caused before (Err (Halts.Error number offending)) f =
    keeps_all_counts_refl before
still_caused before (Err (Halts.Ends status)) f =
    keeps_all_counts_refl before
still_caused before (Err Halts.ReadFault) f = absurd f
still_caused before (Err Halts.WriteFault) f = absurd f
still_caused before (Err Halts.FileFault) f = absurd f
still_caused before (Err Halts.NoMemory) f =
    uncounted (keeps_all_counts_refl before)

-- what is so over each outside is performed, where nothing is read or put
pub still_performs : {A : Type 0} (leads : Outside → State Frames Frames) (Comes : Outside → Outside → Result A Halt → Type 0) (before : CallStreams)
    (result : Result A Halt)
    → IsFaultless result → ((was : Outside) → Comes was was result) → Performs leads Comes before before result
still_performs leads Comes before result f h = record {
  answers = λ was told. still_answers (Comes was) (leads was) was before result told f (h was);
  had = told_of before;
  has = told_of before;
  allowed = allows_own before;
  allows = allows_still before;
  meant = λ was first.
      still_answers (Comes was) (leads was) was (streams_telling (told_of before) before) result
      (tells_told (told_of before) before was first) f (h was);
  caused = still_caused before result f;
}

comes_faultless : {K : Type 0} (tables : Tables) (outside : Outside) (state : State Frames Frames) (m : Machine K) (result : Result RunState Halt)
    → ComesTo tables outside state m result → IsFaultless result
comes_faultless tables outside state m (Ok stage) h = tt
comes_faultless tables outside state m (Err (Halts.Error number offending)) h = tt
comes_faultless tables outside state m (Err (Halts.Ends status)) h = tt
comes_faultless tables outside state m (Err Halts.ReadFault) h = absurd h
comes_faultless tables outside state m (Err Halts.WriteFault) h = absurd h
comes_faultless tables outside state m (Err Halts.FileFault) h = absurd h
comes_faultless tables outside state m (Err Halts.NoMemory) h = tt

-- an instruction over a machine that neither reads nor puts anything
pub comes_performs : {K : Type 0} (tables : Tables) (leads : Outside → State Frames Frames) (m : Machine K) (before : CallStreams)
    (result : Result RunState Halt)
    → ((outside : Outside) → ComesTo tables outside (leads outside) m result) → PerformsOn tables leads m before before result
comes_performs tables leads m before result h =
    still_performs leads (λ was now answer. ComesTo tables now (leads was) m answer) before result
    (comes_faultless tables bare_outside (leads bare_outside) m result (h bare_outside)) h

-- the same on a stack in a world

halts_over : (state : State Frames Frames) (st : Store Frames) (w : World) (m : FlatStack) (was : Outside) (halt : Halt)
    → HaltsWith state (over_outside was st) w (stack_in (extent_of w.heap) m) halt → StandsOver state st w m was (Err halt)
halts_over state st w m was (Halts.Error number offending) h = h
halts_over state st w m was (Halts.Ends status) h = absurd h
halts_over state st w m was Halts.ReadFault h = h
halts_over state st w m was Halts.WriteFault h = h
halts_over state st w m was Halts.FileFault h = h
halts_over state st w m was Halts.NoMemory h = tt

pub stands_over : (state : State Frames Frames) (st : Store Frames) (w : World) (m : FlatStack) (was : Outside) (result : Result RunState Halt)
    → MatchResult result (StandsWith state (over_outside was st) w m) (HaltsWith state (over_outside was st) w (stack_in (extent_of w.heap) m))
    → StandsOver state st w m was result
stands_over state st w m was (Ok stage) h = h
stands_over state st w m was (Err halt) h = halts_over state st w m was halt h

with_faultless : (state : State Frames Frames) (st : Store Frames) (w : World) (m : FlatStack) (result : Result RunState Halt)
    → MatchResult result (StandsWith state st w m) (HaltsWith state st w (stack_in (extent_of w.heap) m)) → IsFaultless result
with_faultless state st w m (Ok stage) h = tt
with_faultless state st w m (Err (Halts.Error number offending)) h = tt
with_faultless state st w m (Err (Halts.Ends status)) h = tt
with_faultless state st w m (Err Halts.ReadFault) h = absurd h
with_faultless state st w m (Err Halts.WriteFault) h = absurd h
with_faultless state st w m (Err Halts.FileFault) h = absurd h
with_faultless state st w m (Err Halts.NoMemory) h = tt

pub still_event : (names : Names) (event : Store Frames → State Frames Frames) (w v : World) (n : FlatStack) (before : CallStreams)
    (result : Result RunState Halt)
    → ((st : Store Frames) → st.world ≡ world_of w
    → MatchResult result (StandsWith (event st) st v n) (HaltsWith (event st) st v (stack_in (extent_of v.heap) n)))
    → PerformsEvent names event w before v n before result
still_event names event w v n before result h st same names_same =
    still_performs (λ was. event (over_outside was st)) (λ was now answer. StandsOver (event (over_outside was st)) st v n now answer) before result
    (with_faultless (event st) st v n result (h st same)) (λ was. stands_over (event (over_outside was st)) st v n was result (h (over_outside was st) same))

-- and where it is known which names the store has
pub named_event : (names : Names) (event : Store Frames → State Frames Frames) (w v : World) (n : FlatStack) (before : CallStreams)
    (result : Result RunState Halt)
    → ((st : Store Frames) → st.world ≡ world_of w → st.names ≡ names
    → MatchResult result (StandsWith (event st) st v n) (HaltsWith (event st) st v (stack_in (extent_of v.heap) n)))
    → PerformsEvent names event w before v n before result
named_event names event w v n before result h st same names_same =
    still_performs (λ was. event (over_outside was st)) (λ was now answer. StandsOver (event (over_outside was st)) st v n now answer) before result
    (with_faultless (event st) st v n result (h st same names_same))
    (λ was. stands_over (event (over_outside was st)) st v n was result (h (over_outside was st) same names_same))

-- an event that is another one, over whatever outside
pub event_as : (names : Names) (event other : Store Frames → State Frames Frames) (w v : World) (n : FlatStack) (before after : CallStreams)
    (result : Result RunState Halt)
    → ((st : Store Frames) → st.world ≡ world_of w → st.names ≡ names → event st ≡ other st)
    → PerformsEvent names other w before v n after result → PerformsEvent names event w before v n after result
event_as names event other w v n before after result e p st same names_same =
    performs_as (λ was. event (over_outside was st)) (λ was. other (over_outside was st))
    (λ was now answer. StandsOver (other (over_outside was st)) st v n now answer)
    (λ was now answer. StandsOver (event (over_outside was st)) st v n now answer) before after result (λ was. e (over_outside was st) same names_same)
    (λ was now h. subst (λ (s : State Frames Frames). StandsOver s st v n now result) (sym (e (over_outside was st) same names_same)) h) (p st same names_same)

-- a row is performed as an event
pub row_event : (names : Names) (row : Row) (w v : World) (m n : FlatStack) (before after : CallStreams) (result : Result RunState Halt)
    → PerformsRow row w m before v n after result
    → PerformsEvent names (λ st. row_on row w m st st.outside) w before v n after result
row_event names row w v m n before after result p st same names_same = p st same

-- Rows go on

never_finished : (o : Outcome) (m : Frames) (st other : Store Frames) → outcome flat o m st ≡ finish_run other → ⊥
never_finished o m st other e = by_main (is_main other.active) o e
  where
    by_main : (b : Bool) (o : Outcome) → outcome flat o m st ≡ (if b then over_with Done other.world other.outside else stuck) → ⊥
    by_main true (Fails seen) e = cc
    by_main true (Gives item seen) e = cc
    by_main true (Suspends item rest seen) e = cc
    by_main true (Error number value seen) e =
        at_error (λ (s : State Frames Frames). s ≡ over_with Done other.world other.outside → ⊥) number value (flat.set_locals seen.locals m) (with_at seen st)
        (λ q. absurd (cc)) (λ q. absurd (cc)) e
    by_main true (Ends status seen) e = cc
    by_main false (Fails seen) e = cc
    by_main false (Gives item seen) e = cc
    by_main false (Suspends item rest seen) e = cc
    by_main false (Error number value seen) e =
        at_error (λ (s : State Frames Frames). s ≡ stuck → ⊥) number value (flat.set_locals seen.locals m) (with_at seen st)
        (λ q. absurd (cc)) (λ q. absurd (cc)) e
    by_main false (Ends status seen) e = cc

pub row_going : (row : Row) (w v : World) (m n : FlatStack) (before after : CallStreams) (result : Result RunState Halt) (st : Store Frames)
    → st.world ≡ world_of w
    → PerformsRow row w m before v n after result → IfOk result IsGoing
row_going row w v m n before after (Ok RunStates.Running) st same p = tt
row_going row w v m n before after (Ok RunStates.Failing) st same p = tt
row_going row w v m n before after (Ok RunStates.Hopping) st same p = let q = p st same in (q.meant (outside_told q.had) (told_so q.had)).is
row_going row w v m n before after (Ok RunStates.Over) st same p =
    let q = p st same in
    let was : Outside = outside_told q.had in
    let t = q.meant was (told_so q.had) in
    never_finished (row _) (stack_in (extent_of w.heap) m) (over_outside was st) (with_world (world_of v) (over_outside t.now st)) t.is
row_going row w v m n before after (Ok RunStates.AtBound) st same p = let q = p st same in (q.meant (outside_told q.had) (told_so q.had)).is
row_going row w v m n before after (Err halt) st same p = tt

-- On a machine

pub stands_on : {K : Type 0} (m : Machine K) (t tables : Tables) (was now : Outside) (w : World) (turns : ℕ) (table : CoexpTable) (n : FlatStack)
    (state : State Frames Frames) (result : Result RunState Halt)
    → KeepsItems (reach_of w []) (reach_of m.world []) → AreLiveStacks t (reach_of w []) table → m.turns ≡ suc turns
    → m.stacks.table ≡ record table { running = Some n } → IfOk result IsGoing
    → StandsOver state (store_in (all_names tables) was (world_of w) (suc turns) m.begun.items (extent_of w.heap) table) m.world n now result
    → ComesTo tables now state m result
stands_on {K} m t tables was now w turns table n state result k l e f g h = by_result result g h
  where
    st : Store Frames
    st = store_in (all_names tables) was (world_of w) (suc turns) m.begun.items (extent_of w.heap) table

    after : ℕ → CoexpTable → Store Frames
    after count u = store_in (all_names tables) now (world_of m.world) count m.begun.items (extent_of m.world.heap) u

    seen : (next : Frames → Store Frames → State Frames Frames)
        → next (stack_in (extent_of m.world.heap) n) (store_in (all_names tables) now (world_of m.world) (suc turns) m.begun.items (extent_of w.heap) table)
        ≡ next (stack_seen m) (store_seen tables now m)
    seen next =
        let F : CoexpTable → ℕ → State Frames Frames = λ u count. next (stack_in (extent_of m.world.heap) (running_of u.running)) (after count u) in
        ap (next (stack_in (extent_of m.world.heap) n)) (grown_store t (all_names tables) now w m.world (suc turns) m.begun.items table (Some n) k l)
        ∙ ap (λ (count : ℕ). F (record table { running = Some n }) count) (sym e)
        ∙ ap (λ (u : CoexpTable). F u m.turns) (sym f)

    by_result : (result : Result RunState Halt) → IfOk result IsGoing → StandsOver state st m.world n now result → ComesTo tables now state m result
    by_result (Ok RunStates.Running) g h = h ∙ seen running
    by_result (Ok RunStates.Failing) g h = h ∙ seen failing
    by_result (Ok RunStates.Hopping) g h = absurd g
    by_result (Ok RunStates.Over) g h = absurd g
    by_result (Ok RunStates.AtBound) g h = absurd g
    by_result (Err (Halts.Error number offending)) g h = h ∙ seen (errs number (option_map (value_in (extent_of m.world.heap)) offending))
    by_result (Err (Halts.Ends status)) g h = h
    by_result (Err Halts.ReadFault) g h = absurd h
    by_result (Err Halts.WriteFault) g h = absurd h
    by_result (Err Halts.FileFault) g h = absurd h
    by_result (Err Halts.NoMemory) g h = tt

-- an event behind a turn, on the machine that is left
pub turn_performs : {K : Type 0} (m : Machine K) (t tables : Tables) (leads : Outside → State Frames Frames) (w : World) (turns : ℕ) (table : CoexpTable)
    (n : FlatStack)
    (event : Store Frames → State Frames Frames) (before after : CallStreams) (result : Result RunState Halt)
    → nat_lt turns (heap_of w.heap).bounds.turns ≡ true
    → KeepsItems (reach_of w []) (reach_of m.world []) → AreLiveStacks t (reach_of w []) table → m.turns ≡ suc turns
    → m.stacks.table ≡ record table { running = Some n } → IfOk result IsGoing
    → ((was : Outside) → leads was ≡ turn tables (store_in (all_names tables) was (world_of w) turns m.begun.items (extent_of w.heap) table) event)
    → PerformsEvent (all_names tables) event w before m.world n after result → PerformsOn tables leads m before after result
turn_performs m t tables leads w turns table n event before after result b k l e f g is p =
    let st : Outside → Store Frames = λ was. store_in (all_names tables) was (world_of w) (suc turns) m.begun.items (extent_of w.heap) table in
    let goes : (was : Outside) → leads was ≡ event (st was)
    = λ was. is was ∙ ap (λ (x : Bool). turn_if x (store_in (all_names tables) was (world_of w) turns m.begun.items (extent_of w.heap) table) event) b in
    performs_as leads (λ was. event (st was)) (λ was now answer. StandsOver (event (st was)) (st bare_outside) m.world n now answer)
    (λ was now answer. ComesTo tables now (leads was) m answer)
    before after result goes
    (λ was now h. subst (λ (s : State Frames Frames). ComesTo tables now s m result) (sym (goes was))
    (stands_on m t tables bare_outside now w turns table n (event (st was)) result k l e f g h))
    (p (st bare_outside) refl refl)
