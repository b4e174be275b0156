-- Rows that a machine performs as instructions, and as what was left is resumed.
use Rattle.std.proofs.Common.{◌≡◌, ℕ, zero, suc, ◌+◌, Bool, true, false, nat_lt, List, [], ◌∷◌, length, map, Option, Some, None, Result, Ok, Err, refl, sym, ap, ◌∙◌, subst}
use Rattle.std.proofs.lemmas.Option.{same_Some}
use Rattle.std.specs.Prelude.{if◌then◌else◌, IsSome}
use Rattle.std.specs.Option.{option_and_then, option_map}
use Rattle.icn_text.specs.declared.op.Op.{Op}
use Rattle.icn_text.specs.declared.op.Op.TheVariants as Ops
use Rattle.icn_value.specs.declared.item.Item.{Item}
use Rattle.icn_value.specs.declared.residual.Residual.{Residual}
use Rattle.icn_value.specs.Limited.{limits_of}
use Rattle.icn_value.specs.Store.{Names, Outside, bare_outside}
use Rattle.icn_defs.specs.Applying as rows
use Rattle.icn_defs.specs.Arities.{arity}
use Rattle.icn_defs.specs.Rows.{Row, Outcome, Fails, Gives, Suspends, Error, Ends}
use Rattle.icn_defs.specs.StepRows as step_rows
use Rattle.icn_defs.specs.StepRows.{Operation}
use Rattle.law_rows.proofs.EachOfList.{Each}
use Rattle.icn_heap.specs.Extents.{Extent, value_in}
use Rattle.icn_heap.specs.Heaps.{extent_of, heap_of}
use Rattle.law_names.specs.NamedSettings.{ItemNamed}
use Rattle.icn_vars.specs.declared.outcome.Halt.{Halt}
use Rattle.icn_vars.specs.declared.outcome.Halt.TheVariants as Halts
use Rattle.icn_vars.specs.declared.world.World.{World}
use Rattle.icn_vars.specs.Outcomes.{IsLiveResidual}
use Rattle.icn_vars.specs.Worlds.{KeepsItems, Reach, item_in, reach_of, world_of}
use Rattle.icn_frames.specs.Stacks as held
use Rattle.icn_frames.specs.Stacks.{FlatStack}
use Rattle.icn_coexp.specs.Transfers.{CoexpTable}
use Rattle.law_frames.proofs.CallsRead.{pop_read}
use Rattle.icn_code.specs.declared.instr.Instr.TheVariants as Instrs
use Rattle.icn_code.specs.Codes.{Tables}
use Rattle.icn_streams.proofs.CallSequences.{follows_all, outside_told, tells_told, told_so}
use Rattle.icn_streams.proofs.IdleCalls.{allows_own, allows_still, keeps_all_counts_refl, leaves_streams_refl, told_of}
use Rattle.icn_streams.specs.Answers.{streams_telling}
use Rattle.icn_streams.specs.Handed.{CallStreams, uncounted}
use Rattle.icn_run.specs.Calls as calls
use Rattle.icn_run.specs.Rows as run_rows
use Rattle.icn_run.specs.Stacks.{Frames, flat}
use Rattle.icn_run.specs.Step.{State, Store, running, failing, over, stuck, all_names, errs, finish_run, here, instruction, is_main, operate, outcome, over_with, resume_by, turn, turn_if, with_at, with_world}
use Rattle.icn_run.proofs.Errors.{at_error}
use Rattle.law_steps.specs.StateNames.{StackNamed}
use Rattle.law_steps.proofs.CallsNamed as named
use Rattle.icn_control.specs.Machines.{AreLiveStacks, ComesTo, IsSoundMachine, running_of, store_in}
use Rattle.icn_control.specs.Soundness.{HasItsStack}
use Rattle.icn_control.specs.StackViews.{reading_of, stack_in}
use Rattle.icn_control.specs.ResultCounts.{EnterOthers, FitTurns}
use Rattle.icn_control.specs.LiveStacks.{IsLiveStack, with_locals}
use Rattle.icn_control.specs.TakenOperands as counting
use Rattle.icn_control.specs.TakenOperands.{take_operands, taken_onto}
use Rattle.icn_control.specs.declared.machine.Machine.{Machine}
use Rattle.icn_control.specs.declared.machine.RunState.{RunState}
use Rattle.icn_control.specs.declared.machine.RunState.TheVariants as RunStates
use Rattle.icn_control.proofs.CountedSteps.{list_counts, turn_more}
use Rattle.icn_control.proofs.GrowthSteps.{grown_store, stacks_grow}
use Rattle.icn_control.proofs.ListSteps.{on_running}
use Rattle.icn_control.proofs.TakenOperandSteps.{taken_runs}
use Rattle.icn_machine.specs.InstructionAnswers as answering
use Rattle.icn_machine.specs.InstructionAnswers.{Performs}
use Rattle.icn_machine.specs.Performing.{PerformsRow, StandsOver, row_on}
use Rattle.icn_machine.proofs.PerformEvents.{performs_as}

-- Where nothing was read or put

-- the step itself neither reads nor puts
pub performs_still : {A : Type 0} (leads : Outside → State Frames Frames) (C : Outside → Outside → Result A Halt → Type 0) (b : CallStreams) (x : A)
    → ((was : Outside) → C was was (Ok x)) → Performs leads C b b (Ok x)
performs_still leads C b x h = record {
  answers = λ was told. record { now = was; follows = follows_all b was told; is = h was };
  had = told_of b;
  has = told_of b;
  allowed = allows_own b;
  allows = allows_still b;
  meant = λ was first. record {
    now = was;
    follows = follows_all (streams_telling (told_of b) b) was (tells_told (told_of b) b was first);
    is = h was;
  };
  caused = keeps_all_counts_refl b;
}

-- memory ran out before anything was read or put
pub performs_idle : {A : Type 0} (leads : Outside → State Frames Frames) (C : Outside → Outside → Result A Halt → Type 0) (b : CallStreams)
    → Performs leads C b b (Err Halts.NoMemory)
performs_idle leads C b = record {
  answers = λ was told. answering.idle (leaves_streams_refl _);
  had = told_of b;
  has = told_of b;
  allowed = allows_own b;
  allows = allows_still b;
  meant = λ was left. answering.idle (leaves_streams_refl _);
  caused = uncounted (keeps_all_counts_refl b);
}

-- What a row comes to, on the machine

-- the run is over as its starting call is, or something lacks
abbrev is_finished : State Frames Frames → Bool
is_finished (over run_rows.Done outside) = true
is_finished stuck = true
is_finished state = false

finished_is : (st : Store Frames) → is_finished (finish_run st) ≡ true
finished_is st = by_main (is_main st.active)
  where
    by_main : (b : Bool) → is_finished (if b then over_with run_rows.Done st.world st.outside else stuck) ≡ true
    by_main true = refl
    by_main false = refl

goes_on : (oc : Outcome) (m : Frames) (st : Store Frames) → is_finished (outcome flat oc m st) ≡ false
goes_on (Fails seen) m st = refl
goes_on (Gives item seen) m st = refl
goes_on (Suspends item rest seen) m st = refl
goes_on (Error n value seen) m st =
    at_error (λ (s : State Frames Frames). is_finished s ≡ false) n value (flat.set_locals seen.locals m) (with_at seen st) refl refl
goes_on (Ends n seen) m st = refl

-- no row is the end of the starting call
unfinished : (oc : Outcome) (m : Frames) (st other : Store Frames) → outcome flat oc m st ≡ finish_run other → ⊥
unfinished oc m st other e = by_test (sym (goes_on oc m st) ∙ ap is_finished e ∙ finished_is other)
  where
    by_test : false ≡ true → ⊥
    by_test q = cc

-- where the machine stands with the stack and the world that a row left, a turn more
comes_to : {K : Type 0} (m : Machine K) (t tables : Tables) (w : World) (turns : ℕ) (table : CoexpTable) (n : FlatStack) (oc : Outcome) (a : Frames)
    (st : Store Frames) (was now : Outside) (result : Result RunState Halt)
    → KeepsItems (reach_of w []) (reach_of m.world []) → AreLiveStacks t (reach_of w []) table → m.stacks.table ≡ record table { running = Some n }
    → m.turns ≡ suc turns
    → StandsOver (outcome flat oc a st) (store_in (all_names tables) was (world_of w) (suc turns) m.begun.items (extent_of w.heap) table) m.world n now result
    → ComesTo tables now (outcome flat oc a st) m result
comes_to m t tables w turns table n oc a st was now (Ok RunStates.Running) k l e f h =
    let F : CoexpTable → ℕ → State Frames Frames
    = λ x y. running (stack_in (extent_of m.world.heap) (running_of x.running))
    (store_in (all_names tables) now (world_of m.world) y m.begun.items (extent_of m.world.heap) x) in
    h ∙ ap (running (stack_in (extent_of m.world.heap) n)) (grown_store t (all_names tables) now w m.world (suc turns) m.begun.items table (Some n) k l)
    ∙ ap (λ (x : CoexpTable). F x (suc turns)) (sym e) ∙ ap (F m.stacks.table) (sym f)
comes_to m t tables w turns table n oc a st was now (Ok RunStates.Failing) k l e f h =
    let F : CoexpTable → ℕ → State Frames Frames
    = λ x y. failing (stack_in (extent_of m.world.heap) (running_of x.running))
    (store_in (all_names tables) now (world_of m.world) y m.begun.items (extent_of m.world.heap) x) in
    h ∙ ap (failing (stack_in (extent_of m.world.heap) n)) (grown_store t (all_names tables) now w m.world (suc turns) m.begun.items table (Some n) k l)
    ∙ ap (λ (x : CoexpTable). F x (suc turns)) (sym e) ∙ ap (F m.stacks.table) (sym f)
comes_to m t tables w turns table n oc a st was now (Ok RunStates.Hopping) k l e f h = absurd h
comes_to m t tables w turns table n oc a st was now (Ok RunStates.Over) k l e f h =
    absurd (unfinished oc a st
    (with_world (world_of m.world) (store_in (all_names tables) now (world_of w) (suc turns) m.begun.items (extent_of w.heap) table)) h)
comes_to m t tables w turns table n oc a st was now (Ok RunStates.AtBound) k l e f h = absurd h
comes_to m t tables w turns table n oc a st was now (Err (Halts.Error number offending)) k l e f h =
    let next : Frames → Store Frames → State Frames Frames = errs number (option_map (value_in (extent_of m.world.heap)) offending) in
    let F : CoexpTable → ℕ → State Frames Frames
    = λ x y. next (stack_in (extent_of m.world.heap) (running_of x.running))
    (store_in (all_names tables) now (world_of m.world) y m.begun.items (extent_of m.world.heap) x) in
    h ∙ ap (next (stack_in (extent_of m.world.heap) n)) (grown_store t (all_names tables) now w m.world (suc turns) m.begun.items table (Some n) k l)
    ∙ ap (λ (x : CoexpTable). F x (suc turns)) (sym e) ∙ ap (F m.stacks.table) (sym f)
comes_to m t tables w turns table n oc a st was now (Err (Halts.Ends status)) k l e f h = h
comes_to m t tables w turns table n oc a st was now (Err Halts.ReadFault) k l e f h = absurd h
comes_to m t tables w turns table n oc a st was now (Err Halts.WriteFault) k l e f h = absurd h
comes_to m t tables w turns table n oc a st was now (Err Halts.FileFault) k l e f h = absurd h
comes_to m t tables w turns table n oc a st was now (Err Halts.NoMemory) k l e f h = tt

-- the store of a machine in a turn
abbrev pub store_in_turn : {K : Type 0} → Tables → World → ℕ → CoexpTable → Machine K → Outside → Store Frames
store_in_turn tables w turns table m was = store_in (all_names tables) was (world_of w) (suc turns) m.begun.items (extent_of w.heap) table

-- what a call said of a row on the stack that runs, said of the machine for any states that are the row's
pub performs_on : {K : Type 0} (m : Machine K) (t tables : Tables) (w : World) (turns : ℕ) (table : CoexpTable) (k n : FlatStack) (row : Row)
    (leads : Outside → State Frames Frames) (b a : CallStreams) (result : Result RunState Halt)
    → KeepsItems (reach_of w []) (reach_of m.world []) → AreLiveStacks t (reach_of w []) table → m.stacks.table ≡ record table { running = Some n }
    → m.turns ≡ suc turns
    → ((was : Outside) → leads was ≡ row_on row w k (store_in_turn tables w turns table m was) was) → PerformsRow row w k b m.world n a result
    → Performs leads (λ was now answer. ComesTo tables now (leads was) m answer) b a result
performs_on m t tables w turns table k n row leads b a result kept live e f same p =
    let st : Store Frames = store_in_turn tables w turns table m bare_outside in
    let on : Frames = stack_in (extent_of w.heap) k in
    let at : Outside → Store Frames = store_in_turn tables w turns table m in
    performs_as leads (row_on row w k st) (λ was now answer. StandsOver (row_on row w k st was) st m.world n now answer)
    (λ was now answer. ComesTo tables now (leads was) m answer) b a result same
    (λ was now h. subst (λ (x : State Frames Frames). ComesTo tables now x m result) (sym (same was))
    (comes_to m t tables w turns table n (row (here flat on (at was))) on (at was) bare_outside now result kept live e f h))
    (p st refl)

-- a store of this world
abbrev store_of : World → Store Frames
store_of w =
    record { world = world_of w; outside = bare_outside; turns = 0; begun = []; coexps = []; active = 0; names = record { procedures = []; records = []; arguments = []; hidden = [] } }

-- a stack runs where a row was answered, which never comes to a hop
pub has_stack : {K : Type 0} (m : Machine K) (w : World) (k n : FlatStack) (row : Row) (b a : CallStreams) (result : Result RunState Halt)
    → m.stacks.table.running ≡ Some n → PerformsRow row w k b m.world n a result → HasItsStack m result
has_stack m w k n row b a (Ok RunStates.Running) e p = subst (λ (o : Option FlatStack). IsSome o) (sym e) refl
has_stack m w k n row b a (Ok RunStates.Failing) e p = subst (λ (o : Option FlatStack). IsSome o) (sym e) refl
has_stack m w k n row b a (Ok RunStates.Hopping) e p = let said = p (store_of w) refl in absurd (said.meant (outside_told said.had) (told_so said.had)).is
has_stack m w k n row b a (Ok RunStates.Over) e p = tt
has_stack m w k n row b a (Ok RunStates.AtBound) e p = tt
has_stack m w k n row b a (Err (Halts.Error number offending)) e p = subst (λ (o : Option FlatStack). IsSome o) (sym e) refl
has_stack m w k n row b a (Err (Halts.Ends status)) e p = tt
has_stack m w k n row b a (Err Halts.ReadFault) e p = tt
has_stack m w k n row b a (Err Halts.WriteFault) e p = tt
has_stack m w k n row b a (Err Halts.FileFault) e p = tt
has_stack m w k n row b a (Err Halts.NoMemory) e p = tt

-- Operations

-- but for one all operations are rows
pub operated_is : (op : Op) (xs : List run_rows.Item) (m : Frames) (st : Store Frames) → (op ≡ Ops.Refresh → ⊥)
    → operate flat op xs m st ≡ outcome flat (step_rows.apply st.names (Operation op) xs (here flat m st)) m st
operated_is Ops.Refresh xs m st d = absurd (d refl)
operated_is op xs m st d = refl

-- the turn is counted
pub in_turn : (tables : Tables) (st : Store Frames) (event : Store Frames → State Frames Frames) → nat_lt st.turns st.world.heap.bounds.turns ≡ true
    → turn tables st event ≡ event (record st { turns = suc st.turns })
in_turn tables st event b = ap (λ (x : Bool). turn_if x st event) b

-- what the instruction is once its operands are taken
pub op_is : (all : Extent) (tables : Tables) (table : CoexpTable) (m k : FlatStack) (items : List Item) (op : Op) (st : Store Frames)
    → table.running ≡ Some m → take_operands (arity op) m ≡ Some (items, k)
    → instruction flat tables (Instrs.Op op) (stack_in all (running_of table.running)) st
    ≡ turn tables st (operate flat op (map (item_in all) items) (stack_in all k))
op_is all tables table m k items op st e p =
    on_running table m (λ x. instruction flat tables (Instrs.Op op) (stack_in all x) st) e ∙ taken_runs all (arity op) m k items
    (λ xs a. turn tables st (operate flat op xs a)) p

pub operates : {K : Type 0} (tables : Tables) (names : Names) (w : World) (table : CoexpTable) (m k : FlatStack) (items : List Item) (op : Op)
    (after : Machine K) (turns : ℕ) (was : Outside)
    → (op ≡ Ops.Refresh → ⊥)
    → table.running ≡ Some m → take_operands (arity op) m ≡ Some (items, k) → nat_lt turns (heap_of w.heap).bounds.turns ≡ true → all_names tables ≡ names
    → instruction flat tables (Instrs.Op op) (stack_in (extent_of w.heap) (running_of table.running)) (store_in (all_names tables) was (world_of w)
    turns after.begun.items (extent_of w.heap) table)
    ≡ row_on (step_rows.apply names (Operation op) (map (item_in (extent_of w.heap)) items)) w k (store_in_turn tables w turns table after was) was
operates tables names w table m k items op after turns was d e p b n =
    let all : Extent = extent_of w.heap in
    let st : Store Frames = store_in (all_names tables) was (world_of w) turns after.begun.items all table in
    let xs = map (item_in all) items in
    op_is all tables table m k items op st e p ∙ in_turn tables st (operate flat op xs (stack_in all k)) b ∙ operated_is op xs (stack_in all k)
    (store_in_turn tables w turns table after was) d
    ∙ ap (λ (ns : Names). row_on (step_rows.apply ns (Operation op) xs) w k (store_in_turn tables w turns table after was) was) n

pub resumes : {K : Type 0} (tables : Tables) (w : World) (table : CoexpTable) (m : FlatStack) (rest : run_rows.Residual) (after : Machine K) (turns : ℕ)
    (was : Outside)
    → table.running ≡ Some m
    → nat_lt turns (heap_of w.heap).bounds.turns ≡ true
    → resume_by flat tables (calls.Op rest) (stack_in (extent_of w.heap) (running_of table.running)) (store_in (all_names tables) was (world_of w) turns
    after.begun.items (extent_of w.heap) table)
    ≡ row_on (rows.again rest) w m (store_in_turn tables w turns table after was) was
resumes tables w table m rest after turns was e b =
    let all : Extent = extent_of w.heap in
    let st : Store Frames = store_in (all_names tables) was (world_of w) turns after.begun.items all table in
    on_running table m (λ x. resume_by flat tables (calls.Op rest) (stack_in all x) st) e
    ∙ in_turn tables st (λ s. outcome flat (run_rows.again rest (here flat (stack_in all m) s)) (stack_in all m) s) b

-- Operands

-- the same operands, and the same stack, under other names
pub taken_as : (n o : ℕ) (m k l : FlatStack) (items xs : List Item) → take_operands n m ≡ Some (items, k) → n ≡ o → Some k ≡ Some l → xs ≡ items
    → take_operands o m ≡ Some (xs, l)
taken_as n o m k l items xs e same kept value =
    let F : List Item → FlatStack → Option (List Item × FlatStack) = λ x y. Some (x, y) in
    subst (λ (x : ℕ). take_operands x m ≡ Some (items, k)) same e ∙ ap (λ (x : List Item). F x k) (sym value) ∙ ap (F xs) (same_Some _ _ kept)

-- what is taken, and the stack without it, name only what has a name
pub record TakesNamed (names : Names) (all : Extent) (items : List Item) (k : FlatStack) : Type 0 where
  pub items_named : Each (ItemNamed names) (map (item_in all) items)
  pub rest : named.NamedStack names (stack_in all k)

popped_named : (names : Names) (all : Extent) (m : FlatStack) (popped : Item × FlatStack) → held.pop m ≡ Some popped → named.NamedStack names (stack_in all m)
    → ItemNamed names (item_in all popped.0) × named.NamedStack names (stack_in all popped.1)
popped_named names all m popped e h =
    let P : Option (run_rows.Item × Frames) → Type 0 = λ o. named.IfThere (named.NamedAndStack names (ItemNamed names)) o in
    subst P (pop_read (reading_of all) m ∙ ap (option_map (λ (x : Item × FlatStack). (item_in all x.0, stack_in all x.1))) e)
    (named.pop names (stack_in all m) h)

named_onto : (names : Names) (all : Extent) (n : ℕ) (m k : FlatStack) (onto items : List Item) → taken_onto n m onto ≡ Some (items, k)
    → Each (ItemNamed names) (map (item_in all) onto) → named.NamedStack names (stack_in all m) → TakesNamed names all items k
named_onto names all zero m k onto items e xs h =
    let here : List Item × FlatStack = (onto, m) in
    let there : TakesNamed names all onto m = record { items_named = xs; rest = h } in
    subst (λ (x : List Item × FlatStack). TakesNamed names all x.0 x.1) (same_Some here (items, k) e) there
named_onto names all (suc n) m k onto items e xs h = by_pop (held.pop m) refl e (named_onto names all n)
  where
    by_pop : (o : Option (Item × FlatStack)) → held.pop m ≡ o
        → option_and_then (λ (popped : Item × FlatStack). taken_onto n popped.1 (popped.0 ∷ onto)) o ≡ Some (items, k)
        → ((m k : FlatStack) (onto items : List Item) → taken_onto n m onto ≡ Some (items, k) → Each (ItemNamed names) (map (item_in all) onto)
        → named.NamedStack names (stack_in all m) → TakesNamed names all items k)
        → TakesNamed names all items k
    by_pop None p q f = cc
    by_pop (Some popped) p q f =
        let back = popped_named names all m popped p h in
        f popped.1 k (popped.0 ∷ onto) items q (back.0, xs) back.1

pub named_taken : (names : Names) (all : Extent) (n : ℕ) (m k : FlatStack) (items : List Item) → take_operands n m ≡ Some (items, k)
    → StackNamed names (stack_in all m) → TakesNamed names all items k
named_taken names all n m k items e h = named_onto names all n m k [] items e tt (named.stack_in names (stack_in all m) h)

-- what is said of the stack of a machine, said of the one that runs

pub named_running : (names : Names) (all : Extent) (table : CoexpTable) (m : FlatStack) → table.running ≡ Some m
    → StackNamed names (stack_in all (running_of table.running)) → StackNamed names (stack_in all m)
named_running names all table m e h = subst (λ (o : Option FlatStack). StackNamed names (stack_in all (running_of o))) e h

pub rest_running : (reach : Reach) (table : CoexpTable) (m : FlatStack) (rest : Residual) → table.running ≡ Some m
    → IsLiveResidual (with_locals (held.local_count (running_of table.running)) reach) rest
    → IsLiveResidual (with_locals (held.local_count m) reach) rest
rest_running reach table m rest e h = subst (λ (o : Option FlatStack). IsLiveResidual (with_locals (held.local_count (running_of o)) reach) rest) e h

-- what is kept by a row that is answered

pub sound_after : {K : Type 0} (m after : Machine K) (t : Tables) (n : FlatStack) → KeepsItems (reach_of m.world []) (reach_of after.world [])
    → after.stacks.table ≡ record m.stacks.table { running = Some n } → after.turns ≡ m.turns + 1
    → after.limits ≡ m.limits → IsSoundMachine t m → IsLiveStack t (reach_of after.world []) n → counting.KeepsCounts m.world after.world
    → IsSoundMachine t after
sound_after m after t n kept table turns limits s l c = record {
  stacks = subst (λ (x : CoexpTable). AreLiveStacks t (reach_of after.world []) x) (sym table)
      (stacks_grow t m.world after.world m.stacks.table n kept l s.stacks);
  bounds = c.bounds ∙ s.bounds ∙ ap limits_of (sym limits);
  counts = ap length c.coexps ∙ s.counts ∙ ap (λ (x : CoexpTable). length x.coexps) (sym table);
  counted = record {
    results = subst (λ (x : ℕ). FitTurns x after.stacks.table.active (heap_of after.world.heap).coexps) (sym turns)
        (subst (λ (x : CoexpTable). FitTurns (m.turns + 1) x.active (heap_of after.world.heap).coexps) (sym table)
        (list_counts (m.turns + 1) m.stacks.table.active (heap_of m.world.heap).coexps (heap_of after.world.heap).coexps c.coexps
        (turn_more m.turns m.stacks.table.active (heap_of m.world.heap).coexps s.counted.results)));
    activators = subst (λ (x : CoexpTable). EnterOthers x.coexps) (sym table) s.counted.activators;
  };
}
