-- Instructions that take operands, count a turn and then do something that may read or put.
use Rattle.std.proofs.Common.{◌≡◌, ◌+◌, ℕ, zero, suc, Bool, true, false, nat_lt, List, [], ◌∷◌, length, map, Option, Some, None, IsSome, Result, Ok, Err, MatchResult, refl, sym, ap, ◌∙◌, subst, arith}
use Rattle.std.specs.Prelude.{IfOk, IsErrAnd}
use Rattle.std.specs.List.{All}
use Rattle.std.specs.Option.{option_map, option_and_then}
use Rattle.std.proofs.lemmas.List.Elements.{All-cons, All-nil}
use Rattle.std.proofs.lemmas.Option.{same_Some}
use Rattle.icn_value.specs.declared.item.Item.{Item}
use Rattle.icn_value.specs.Store.{Names, Outside, bare_outside}
use Rattle.icn_heap.specs.Extents.{Extent}
use Rattle.icn_heap.specs.Heaps.{extent_of, heap_of}
use Rattle.law_names.specs.NamedSettings.{ItemNamed}
use Rattle.icn_vars.specs.declared.outcome.Halt.{Halt}
use Rattle.icn_vars.specs.declared.outcome.Halt.TheVariants as Halts
use Rattle.icn_value.specs.Limited.{limits_of}
use Rattle.icn_vars.specs.declared.world.World.{World}
use Rattle.icn_vars.specs.Worlds.{KeepsItems, item_in, reach_of, world_of}
use Rattle.icn_frames.specs.Stacks as held
use Rattle.icn_frames.specs.Stacks.{FlatStack}
use Rattle.law_frames.specs.ReadStacks.{popped_read}
use Rattle.law_frames.proofs.CallsRead.{pop_read}
use Rattle.icn_coexp.specs.Transfers.{Coexp, CoexpTable}
use Rattle.icn_code.specs.Codes.{Tables}
use Rattle.icn_code.specs.declared.instr.Instr.{Instr}
use Rattle.icn_run.specs.Rows as rows
use Rattle.icn_run.specs.Stacks.{Frames, flat}
use Rattle.icn_run.specs.Step.{State, Store, all_names, at_bound, instruction, on_pair, turn, turn_if, with_found}
use Rattle.law_steps.specs.StateNames.{CoexpNamed, StackNamed}
use Rattle.law_steps.proofs.CallsNamed as C
use Rattle.law_steps.proofs.CallsNamed.{IfThere}
use Rattle.icn_streams.specs.Handed.{CallStreams}
use Rattle.icn_control.specs.ResultCounts.{EnterOthers, FitTurns}
use Rattle.icn_control.specs.LiveStacks.{IsLiveStack}
use Rattle.icn_control.specs.Machines.{AreLiveStacks, ComesTo, IsSoundMachine, coexp_in, does, running_of, store_in, store_seen}
use Rattle.icn_control.specs.Soundness.{HasItsStack, UnlessEnded}
use Rattle.icn_control.specs.StackAndWorld.{HaltsWith, StandsWith}
use Rattle.icn_control.specs.StackViews.{reading_of, stack_in}
use Rattle.icn_control.specs.TakenOperands.{KeepsCounts, take_operands, taken_onto}
use Rattle.icn_control.specs.declared.machine.Machine.{Machine}
use Rattle.icn_control.specs.declared.machine.RunState.{RunState}
use Rattle.icn_control.specs.declared.machine.RunState.TheVariants as RunStates
use Rattle.icn_control.proofs.GrowthSteps.{grown_store, stacks_grow}
use Rattle.icn_control.proofs.CountedSteps.{list_counts, turn_more}
use Rattle.icn_control.proofs.ListSteps.{turn_bound}
use Rattle.icn_control.proofs.TakenOperandSteps.{taken_runs}
use Rattle.icn_calls.specs.Calling.{IsGoing}
use Rattle.icn_machine.specs.Invoking.{PerformsEvent}
use Rattle.icn_machine.specs.Performing.{PerformsOn}
use Rattle.icn_machine.proofs.PerformEvents.{comes_performs, stands_on, stands_over, still_performs, turn_performs}

-- Operands

onto_length : (n : ℕ) (m k : FlatStack) (xs items : List Item) → taken_onto n m xs ≡ Some (items, k) → length items ≡ n + length xs
onto_length zero m k xs items e =
    let here : List Item × FlatStack = (xs, m) in
    let same : length xs ≡ length items = ap (λ (pair : List Item × FlatStack). length pair.0) (same_Some here (items, k) e) in
    omega (arith, same)
onto_length (suc n) m k xs items e = by_pop (held.pop m) e (onto_length n)
  where
    by_pop : (o : Option (Item × FlatStack)) → option_and_then (λ (popped : Item × FlatStack). taken_onto n popped.1 (popped.0 ∷ xs)) o ≡ Some (items, k)
        → ((m k : FlatStack) (xs items : List Item) → taken_onto n m xs ≡ Some (items, k) → length items ≡ n + length xs) → length items ≡ suc n + length xs
    by_pop None q f = cc
    by_pop (Some popped) q f = let rest = f popped.1 k (popped.0 ∷ xs) items q in omega (arith, rest)

pub taken_length : (n : ℕ) (m k : FlatStack) (items : List Item) → take_operands n m ≡ Some (items, k) → length items ≡ n
taken_length n m k items e = let all = onto_length n m k [] items e in omega (arith, all)

pop_named : (names : Names) (all : Extent) (m n : FlatStack) (item : Item) → held.pop m ≡ Some (item, n) → StackNamed names (stack_in all m)
    → ItemNamed names (item_in all item) × StackNamed names (stack_in all n)
pop_named names all m n item e h =
    let same = pop_read (reading_of all) m ∙ ap (option_map (popped_read (reading_of all))) e in
    let back = subst (IfThere (C.NamedAndStack names (C.NamedItem names))) same (C.pop names (stack_in all m) (C.stack_in names (stack_in all m) h)) in
    (back.0, C.stack_out names (stack_in all n) back.1)

onto_named : (names : Names) (all : Extent) (n : ℕ) (m k : FlatStack) (xs items : List Item) → taken_onto n m xs ≡ Some (items, k)
    → All (ItemNamed names) (map (item_in all) xs) → StackNamed names (stack_in all m)
    → All (ItemNamed names) (map (item_in all) items) × StackNamed names (stack_in all k)
onto_named names all zero m k xs items e a h =
    let here : List Item × FlatStack = (xs, m) in
    let both : All (ItemNamed names) (map (item_in all) xs) × StackNamed names (stack_in all m) = (a, h) in
    subst (λ (pair : List Item × FlatStack). All (ItemNamed names) (map (item_in all) pair.0) × StackNamed names (stack_in all pair.1))
    (same_Some here (items, k) e) both
onto_named names all (suc n) m k xs items e a h = by_pop (held.pop m) refl e (onto_named names all n)
  where
    by_pop : (o : Option (Item × FlatStack)) → held.pop m ≡ o
        → option_and_then (λ (popped : Item × FlatStack). taken_onto n popped.1 (popped.0 ∷ xs)) o ≡ Some (items, k)
        → ((m k : FlatStack) (xs items : List Item) → taken_onto n m xs ≡ Some (items, k) → All (ItemNamed names) (map (item_in all) xs)
        → StackNamed names (stack_in all m)
        → All (ItemNamed names) (map (item_in all) items) × StackNamed names (stack_in all k))
        → All (ItemNamed names) (map (item_in all) items) × StackNamed names (stack_in all k)
    by_pop None p q f = cc
    by_pop (Some popped) p q f =
        let back = pop_named names all m popped.1 popped.0 p h in
        f popped.1 k (popped.0 ∷ xs) items q (All-cons (ItemNamed names) (item_in all popped.0) (map (item_in all) xs) back.0 a) back.1

-- what is taken off a stack names only what has a name, and so does what is left
pub taken_named : (names : Names) (all : Extent) (n : ℕ) (m k : FlatStack) (items : List Item) → take_operands n m ≡ Some (items, k)
    → StackNamed names (stack_in all m)
    → All (ItemNamed names) (map (item_in all) items) × StackNamed names (stack_in all k)
taken_named names all n m k items e h = onto_named names all n m k [] items e (All-nil (ItemNamed names)) h

-- An instruction that takes operands and counts a turn

abbrev pub TakesTurn : Tables → Instr → ℕ → (List rows.Item → Frames → Store Frames → State Frames Frames) → Type 0
TakesTurn tables instr n next =
    (m : Frames) (st : Store Frames) → instruction flat tables instr m st ≡ with_found (flat.take n m) (on_pair (λ xs a. turn tables st (next xs a)))

-- what it comes to, once its operands are taken
pub takes_turn : (all : Extent) (tables : Tables) (instr : Instr) (n : ℕ) (next : List rows.Item → Frames → Store Frames → State Frames Frames)
    (running : Option FlatStack) (m k : FlatStack) (items : List Item) (st : Store Frames)
    → TakesTurn tables instr n next → running ≡ Some m → take_operands n m ≡ Some (items, k)
    → instruction flat tables instr (stack_in all (running_of running)) st ≡ turn tables st (next (map (item_in all) items) (stack_in all k))
takes_turn all tables instr n next running m k items st is e p =
    ap (λ (o : Option FlatStack). instruction flat tables instr (stack_in all (running_of o)) st) e
    ∙ is (stack_in all m) st
    ∙ taken_runs all n m k items (λ xs a. turn tables st (next xs a)) p

pub operands_perform : {K : Type 0} (m after : Machine K) (t tables : Tables) (instr : Instr) (n : ℕ)
    (next : List rows.Item → Frames → Store Frames → State Frames Frames) (f k g l : FlatStack) (items xs : List Item)
    (before now : CallStreams) (result : Result RunState Halt) → TakesTurn tables instr n next → m.stacks.table.running ≡ Some f
    → take_operands n f ≡ Some (items, k) → k ≡
    g → xs ≡ items
    → nat_lt m.turns (heap_of m.world.heap).bounds.turns ≡ true → KeepsItems (reach_of m.world []) (reach_of after.world [])
    → AreLiveStacks t (reach_of m.world []) m.stacks.table
    → after.turns ≡ suc m.turns → after.begun.items ≡ m.begun.items → after.stacks.table ≡ record m.stacks.table { running = Some l } → IfOk result IsGoing
    → PerformsEvent (all_names tables) (next (map (item_in (extent_of m.world.heap)) xs)
    (stack_in (extent_of m.world.heap) g)) m.world before after.world l now result
    → PerformsOn tables (λ outside. does tables outside instr m) after before now result
operands_perform m after t tables instr n next f k g l items xs before now result is e p on of b kept live turns begun table going performs =
    let all : Extent = extent_of m.world.heap in
    let event : Store Frames → State Frames Frames = next (map (item_in all) xs) (stack_in all g) in
    let store : Outside → List Bool → Store Frames = λ was bs. store_in (all_names tables) was (world_of m.world) m.turns bs all m.stacks.table in
    turn_performs after t tables (λ outside. does tables outside instr m) m.world m.turns m.stacks.table l event before now result b kept live turns table going
    (λ was. takes_turn all tables instr n next m.stacks.table.running f k items (store_seen tables was m) is e p
    ∙ ap (λ (x : FlatStack). turn tables (store was m.begun.items) (next (map (item_in all) items) (stack_in all x))) on
    ∙ ap (λ (ys : List Item). turn tables (store was m.begun.items) (next (map (item_in all) ys) (stack_in all g))) (sym of)
    ∙ ap (λ (bs : List Bool). turn tables (store was bs) event) (sym begun))
    performs

-- the same of what neither reads nor puts anything
pub operands_come : {K : Type 0} (m after : Machine K) (t tables : Tables) (instr : Instr) (n : ℕ)
    (next : List rows.Item → Frames → Store Frames → State Frames Frames) (f k g l : FlatStack) (items xs : List Item)
    (result : Result RunState Halt) → TakesTurn tables instr n next → m.stacks.table.running ≡ Some f → take_operands n f ≡ Some (items, k) → k ≡ g → xs ≡ items
    → nat_lt m.turns (heap_of m.world.heap).bounds.turns ≡ true → KeepsItems (reach_of m.world []) (reach_of after.world [])
    → AreLiveStacks t (reach_of m.world []) m.stacks.table
    → after.turns ≡ suc m.turns → after.begun.items ≡ m.begun.items → after.stacks.table ≡ record m.stacks.table { running = Some l } → IfOk result IsGoing
    → ((st : Store Frames) → st.world ≡ world_of m.world
    → MatchResult result (StandsWith (next (map (item_in (extent_of m.world.heap)) xs) (stack_in (extent_of m.world.heap) g) st) st after.world l)
    (HaltsWith (next (map (item_in (extent_of m.world.heap)) xs) (stack_in (extent_of m.world.heap) g) st) st after.world
    (stack_in (extent_of after.world.heap) l)))
    → (outside : Outside) → ComesTo tables outside (does tables outside instr m) after result
operands_come m after t tables instr n next f k g l items xs result is e p on of b kept live turns begun table going comes outside =
    let all : Extent = extent_of m.world.heap in
    let event : Store Frames → State Frames Frames = next (map (item_in all) xs) (stack_in all g) in
    let store : List Bool → Store Frames = λ bs. store_in (all_names tables) outside (world_of m.world) m.turns bs all m.stacks.table in
    let st : Store Frames = store_in (all_names tables) outside (world_of m.world) (suc m.turns) after.begun.items all m.stacks.table in
    let goes : does tables outside instr m ≡ event st
    = takes_turn all tables instr n next m.stacks.table.running f k items (store_seen tables outside m) is e p
    ∙ ap (λ (x : FlatStack). turn tables (store m.begun.items) (next (map (item_in all) items) (stack_in all x))) on
    ∙ ap (λ (ys : List Item). turn tables (store m.begun.items) (next (map (item_in all) ys) (stack_in all g))) (sym of)
    ∙ ap (λ (bs : List Bool). turn tables (store bs) event) (sym begun)
    ∙ ap (λ (x : Bool). turn_if x (store after.begun.items) event) b in
    subst (λ (s : State Frames Frames). ComesTo tables outside s after result) (sym goes)
    (stands_on after t tables outside outside m.world m.turns m.stacks.table l (event st) result kept live turns table going
    (stands_over (event st) st after.world l outside result (comes st refl)))

-- one turn more would be past the bound

pub bound_comes : {K : Type 0} (m after : Machine K) (tables : Tables) (instr : Instr) (n : ℕ)
    (next : List rows.Item → Frames → Store Frames → State Frames Frames) (f k : FlatStack) (items : List Item)
    → TakesTurn tables instr n next → m.stacks.table.running ≡ Some f → take_operands n f ≡ Some (items, k)
    → nat_lt m.turns (heap_of m.world.heap).bounds.turns ≡ false
    → ((outside : Outside) → at_bound {K = Frames} {M = Frames} (store_seen tables outside m) ≡ at_bound (store_seen tables outside after))
    → (outside : Outside) → ComesTo tables outside (does tables outside instr m) after (Ok RunStates.AtBound)
bound_comes m after tables instr n next f k items is e p b same outside =
    let all : Extent = extent_of m.world.heap in
    takes_turn all tables instr n next m.stacks.table.running f k items (store_seen tables outside m) is e p
    ∙ turn_bound tables (store_seen tables outside m) (store_seen tables outside m) (next (map (item_in all) items) (stack_in all k)) b refl
    ∙ same outside

pub bound_performs : {K : Type 0} (m after : Machine K) (tables : Tables) (instr : Instr) (n : ℕ)
    (next : List rows.Item → Frames → Store Frames → State Frames Frames) (f k : FlatStack) (items : List Item) (before : CallStreams)
    → TakesTurn tables instr n next → m.stacks.table.running ≡ Some f → take_operands n f ≡ Some (items, k)
    → nat_lt m.turns (heap_of m.world.heap).bounds.turns ≡ false
    → ((outside : Outside) → at_bound {K = Frames} {M = Frames} (store_seen tables outside m) ≡ at_bound (store_seen tables outside after))
    → PerformsOn tables (λ outside. does tables outside instr m) after before before (Ok RunStates.AtBound)
bound_performs m after tables instr n next f k items before is e p b same =
    comes_performs tables (λ outside. does tables outside instr m) after before (Ok RunStates.AtBound)
    (bound_comes m after tables instr n next f k items is e p b same)

pub lacks_memory : {K : Type 0} (tables : Tables) (leads : Outside → State Frames Frames) (m : Machine K) (before : CallStreams)
    → PerformsOn tables leads m before before (Err Halts.NoMemory)
lacks_memory tables leads m before = still_performs leads (λ was now answer. ComesTo tables now (leads was) m answer) before (Err Halts.NoMemory) tt (λ was. tt)

-- What is left

pub going_has_stack : {K : Type 0} (m : Machine K) (result : Result RunState Halt) → IfOk result IsGoing → IsSome m.stacks.table.running
    → HasItsStack m result
going_has_stack m (Ok RunStates.Running) g r = r
going_has_stack m (Ok RunStates.Failing) g r = r
going_has_stack m (Ok RunStates.Hopping) g r = absurd g
going_has_stack m (Ok RunStates.Over) g r = absurd g
going_has_stack m (Ok RunStates.AtBound) g r = absurd g
going_has_stack m (Err (Halts.Error number offending)) g r = r
going_has_stack m (Err (Halts.Ends status)) g r = tt
going_has_stack m (Err Halts.ReadFault) g r = tt
going_has_stack m (Err Halts.WriteFault) g r = tt
going_has_stack m (Err Halts.FileFault) g r = tt
going_has_stack m (Err Halts.NoMemory) g r = tt

-- co-expressions name only what has a name, where they did in a world that has grown
pub coexps_left : (t : Tables) (names : Names) (w v : World) (table : CoexpTable) (n : FlatStack)
    → KeepsItems (reach_of w []) (reach_of v []) → AreLiveStacks t (reach_of w []) table
    → All (CoexpNamed names) (map (coexp_in (extent_of w.heap)) table.coexps)
    → All (CoexpNamed names) (map (coexp_in (extent_of v.heap)) (record table { running = Some n }).coexps)
coexps_left t names w v table n kept live h =
    subst (λ (st : Store Frames). All (CoexpNamed names) st.coexps) (grown_store t names bare_outside w v 0 [] table (Some n) kept live) h

-- a machine on which a turn was counted, and whose world has grown, is sound
pub sound_after : {K : Type 0} (m after : Machine K) (t : Tables) (n : FlatStack) → after.turns ≡ m.turns + 1 → after.limits ≡ m.limits
    → after.stacks.table ≡ record m.stacks.table {
      running =
          Some n;
    }
    → KeepsItems (reach_of m.world []) (reach_of after.world []) → IsLiveStack t (reach_of after.world []) n → KeepsCounts m.world after.world
    → IsSoundMachine t m
    → IsSoundMachine t after
sound_after m after t n turns limits table kept live counts k =
    let cs = (heap_of m.world.heap).coexps in
    let ds = (heap_of after.world.heap).coexps in
    let F : CoexpTable → Type 0 = λ u. AreLiveStacks t (reach_of after.world []) u in
    let same : after.stacks.table.coexps ≡ m.stacks.table.coexps = ap (λ (u : CoexpTable). u.coexps) table in
    let fits : FitTurns after.turns m.stacks.table.active ds
    = subst (λ (x : ℕ). FitTurns x m.stacks.table.active ds) (sym turns)
    (list_counts (m.turns + 1) m.stacks.table.active cs ds counts.coexps (turn_more m.turns m.stacks.table.active cs k.counted.results)) in
    record {
      stacks = subst F (sym table) (stacks_grow t m.world after.world m.stacks.table n kept live k.stacks);
      bounds = counts.bounds ∙ k.bounds ∙ ap limits_of (sym limits);
      counts = ap (λ (xs : List ℕ). length xs) counts.coexps ∙ k.counts ∙ ap (λ (xs : List Coexp). length xs) (sym same);
      counted = record {
        results = subst (λ (x : ℕ). FitTurns after.turns x ds) (ap (λ (u : CoexpTable). u.active) (sym table)) fits;
        activators = subst (λ (xs : List Coexp). EnterOthers xs) (sym same) k.counted.activators;
      };
    }

-- an error is no stage at which the run goes on
pub not_going : (result : Result RunState Halt) (halt : Halt) → IsErrAnd result (λ h. h ≡ halt) → IfOk result IsGoing
not_going (Ok stage) halt e = absurd e
not_going (Err other) halt e = tt

-- the same where an error came of it
pub erred_sound : {K : Type 0} (m after : Machine K) (t : Tables) (n : FlatStack) (result : Result RunState Halt) (halt : Halt)
    → IsErrAnd result (λ h. h ≡ halt) → after.turns ≡ m.turns + 1 → after.limits ≡ m.limits
    → after.stacks.table ≡ record m.stacks.table { running = Some n }
    → KeepsItems (reach_of m.world []) (reach_of after.world []) → UnlessEnded {A = Unit} (Err halt) (IsLiveStack t (reach_of after.world []) n)
    → KeepsCounts m.world after.world → IsSoundMachine t m → UnlessEnded result (IsSoundMachine t after)
erred_sound m after t n (Ok stage) halt e turns limits table kept live counts k = absurd e
erred_sound m after t n (Err other) halt e turns limits table kept live counts k =
    subst (λ (h : Halt). UnlessEnded {A = RunState} (Err h) (IsSoundMachine t after)) (sym e) (by_halt halt live)
  where
    by_halt : (h : Halt) → UnlessEnded {A = Unit} (Err h) (IsLiveStack t (reach_of after.world []) n)
        → UnlessEnded {A = RunState} (Err h) (IsSoundMachine t after)
    by_halt (Halts.Error number offending) l = sound_after m after t n turns limits table kept l counts k
    by_halt (Halts.Ends status) l = tt
    by_halt Halts.ReadFault l = tt
    by_halt Halts.WriteFault l = tt
    by_halt Halts.FileFault l = tt
    by_halt Halts.NoMemory l = tt

-- the top operand is one operand that is taken
pub one_taken : (m n : FlatStack) (item : Item) → held.pop m ≡ Some (item, n) → take_operands 1 m ≡ Some (item ∷ [], n)
one_taken m n item e = ap (option_and_then (λ (popped : Item × FlatStack). taken_onto 0 popped.1 (popped.0 ∷ []))) e
