-- Turns on a machine whose world grows, and lists that are made of operands.
use Rattle.std.proofs.Common.{◌≡◌, ℕ, suc, ◌≤◌, Bool, true, false, nat_lt, List, [], map, Option, Some, Result, Ok, Err, MatchResult, refl, sym, ap, ◌∙◌, subst, arith}
use Rattle.std.specs.Prelude.{IsErrAnd}
use Rattle.std.proofs.lemmas.Bool.Decides.{nat_tests}
use Rattle.std.specs.Option.{option_map}
use Rattle.icn_value.specs.declared.val.Val.{Val}
use Rattle.icn_value.specs.declared.item.Item.{Item}
use Rattle.icn_value.specs.declared.item.Item.TheVariants.{Val as HeldVal}
use Rattle.icn_value.specs.Values.{Value}
use Rattle.icn_value.specs.Store.{Names, Outside}
use Rattle.icn_defs.specs.StepRows.{list_row}
use Rattle.icn_heap.specs.Extents.{Extent, IsLive, value_in}
use Rattle.icn_heap.specs.Heaps.{extent_of, heap_of}
use Rattle.icn_vars.specs.declared.world.World.{World}
use Rattle.icn_vars.specs.declared.stop.Stop.{Stop}
use Rattle.icn_vars.specs.declared.outcome.Halt.{Halt}
use Rattle.icn_vars.specs.declared.outcome.Halt.TheVariants as Halts
use Rattle.icn_vars.specs.Stops.{halt_of}
use Rattle.icn_vars.specs.Worlds.{IsLiveItem, KeepsItems, item_in, reach_of, world_of}
use Rattle.icn_frames.specs.Stacks as held
use Rattle.icn_frames.specs.Stacks.{FlatStack}
use Rattle.icn_coexp.specs.Transfers.{CoexpTable}
use Rattle.icn_code.specs.declared.instr.Instr.TheVariants as Instrs
use Rattle.icn_code.specs.Codes.{Tables}
use Rattle.icn_run.specs.Rows as rows
use Rattle.icn_run.specs.Stacks.{Frames, flat}
use Rattle.icn_run.specs.Step.{State, Store, running, at_bound, turn, turn_if, all_names, errs, instruction, list_made, push_item, with_values, with_world}
use Rattle.icn_control.specs.LiveStacks.{with_locals, IsLiveStack}
use Rattle.icn_control.specs.Machines.{store_in, running_of, HaltsAt, AreLiveStacks}
use Rattle.icn_control.specs.declared.machine.Machine.{Machine}
use Rattle.icn_control.specs.StackAndWorld.{RunsWith, HaltsWith}
use Rattle.icn_control.specs.StackViews.{stack_in}
use Rattle.icn_control.specs.TakenOperands.{take_operands, with_values_in, MakesValue, push_list}
use Rattle.icn_control.proofs.GrowthSteps.{grown_store}
use Rattle.icn_control.proofs.KeptItems.{stack_stays}
use Rattle.icn_control.proofs.LiveCalls.{own_locals, live_push}
use Rattle.icn_control.proofs.StackAndWorldSteps.{match_halt}
use Rattle.icn_control.proofs.TakenOperandSteps.{taken_runs}

-- Turns

-- the test of `<` fails where it does not hold
pub nat_lt_false : (m n : ℕ) → n ≤ m → nat_lt m n ≡ false
nat_lt_false m n p = grind (arith, nat_tests)

pub turn_runs : (t tables : Tables) (names : Names) (outside : Outside) (w v : World) (turns : ℕ) (begun : List Bool) (table : CoexpTable) (n : FlatStack)
    (event : Store Frames → State Frames Frames) → nat_lt turns (heap_of w.heap).bounds.turns ≡ true
    → KeepsItems (reach_of w []) (reach_of v []) → AreLiveStacks t (reach_of w []) table
    → ((st : Store Frames) → st.world ≡ world_of w → RunsWith (event st) st v n)
    → turn tables (store_in names outside (world_of w) turns begun (extent_of w.heap) table) event
    ≡ running (stack_in (extent_of v.heap) n) (store_in names outside (world_of v) (suc turns) begun (extent_of v.heap) (record table { running = Some n }))
turn_runs t tables names outside w v turns begun table n event b k l h =
    let st : Store Frames = store_in names outside (world_of w) turns begun (extent_of w.heap) table in
    ap (λ (x : Bool). turn_if x st event) b ∙ h (store_in names outside (world_of w) (suc turns) begun (extent_of w.heap) table) refl
    ∙ ap (running (stack_in (extent_of v.heap) n)) (grown_store t names outside w v (suc turns) begun table (Some n) k l)

-- an instruction that halts after its turn was counted
pub turn_halts : {K : Type 0} (m : Machine K) (t tables : Tables) (outside : Outside) (w : World) (turns : ℕ) (table : CoexpTable) (n : FlatStack)
    (event : Store Frames → State Frames Frames) (halt : Halt) → nat_lt turns (heap_of w.heap).bounds.turns ≡ true
    → m.stacks.table ≡ record table { running = Some n } → m.turns ≡ suc turns
    → KeepsItems (reach_of w []) (reach_of m.world []) → AreLiveStacks t (reach_of w []) table
    → ((st : Store Frames) → st.world ≡ world_of w → HaltsWith (event st) st m.world (stack_in (extent_of m.world.heap) n) halt)
    → HaltsAt tables outside (turn tables (store_in (all_names tables) outside (world_of w) turns m.begun.items (extent_of w.heap) table) event) m halt
turn_halts m t tables outside w turns table n event (Halts.Error number offending) b e p k l h =
    let all : Extent = extent_of m.world.heap in
    let error : Frames → Store Frames → State Frames Frames = errs number (option_map (value_in all) offending) in
    let at : ℕ → CoexpTable → Store Frames = λ i x. store_in (all_names tables) outside (world_of m.world) i m.begun.items all x in
    ap (λ (x : Bool). turn_if x (store_in (all_names tables) outside (world_of w) turns m.begun.items (extent_of w.heap) table) event) b
    ∙ h (store_in (all_names tables) outside (world_of w) (suc turns) m.begun.items (extent_of w.heap) table) refl
    ∙ ap (error (stack_in all n)) (grown_store t (all_names tables) outside w m.world (suc turns) m.begun.items table (Some n) k l)
    ∙ ap (λ (i : ℕ). error (stack_in all n) (at i (record table { running = Some n }))) (sym p)
    ∙ ap (λ (x : CoexpTable). error (stack_in all (running_of x.running)) (at m.turns x)) (sym e)
turn_halts m t tables outside w turns table n event (Halts.Ends status) b e p k l h =
    absurd (h (store_in (all_names tables) outside (world_of w) (suc turns) m.begun.items (extent_of w.heap) table) refl)
turn_halts m t tables outside w turns table n event Halts.ReadFault b e p k l h =
    absurd (h (store_in (all_names tables) outside (world_of w) (suc turns) m.begun.items (extent_of w.heap) table) refl)
turn_halts m t tables outside w turns table n event Halts.WriteFault b e p k l h =
    absurd (h (store_in (all_names tables) outside (world_of w) (suc turns) m.begun.items (extent_of w.heap) table) refl)
turn_halts m t tables outside w turns table n event Halts.FileFault b e p k l h =
    absurd (h (store_in (all_names tables) outside (world_of w) (suc turns) m.begun.items (extent_of w.heap) table) refl)
turn_halts m t tables outside w turns table n event Halts.NoMemory b e p k l h = tt

-- at the bound of turns, a turn ends the run
pub turn_bound : (tables : Tables) (st other : Store Frames) (event : Store Frames → State Frames Frames) → nat_lt st.turns st.world.heap.bounds.turns ≡ false
    → other.outside ≡ st.outside → turn tables st event ≡ at_bound {K = Frames} {M = Frames} other
turn_bound tables st other event b o =
    let F : Outside → State Frames Frames = λ x. at_bound (record st { outside = x }) in
    ap (λ (x : Bool). turn_if x st event) b ∙ ap F (sym o)

-- what an instruction comes to on the stack that runs
pub on_running : (table : CoexpTable) (m : FlatStack) (F : FlatStack → State Frames Frames) → table.running ≡ Some m → F (running_of table.running) ≡ F m
on_running table m F e = ap (λ (o : Option FlatStack). F (running_of o)) e

pub halts_is : {K : Type 0} (m : Machine K) (tables : Tables) (outside : Outside) (halt : Halt) (a b : State Frames Frames) → a ≡ b
    → HaltsAt tables outside b m halt → HaltsAt tables outside a m halt
halts_is m tables outside halt a b e h = subst (λ (x : State Frames Frames). HaltsAt tables outside x m halt) (sym e) h

-- Lists

pub list_runs : (w v : World) (m k l n : FlatStack) (items : List Item) (vals : List Val) (val : Val)
    → ((st : Store Frames) (next : List Value → State Frames Frames) → st.world ≡ world_of w
    → with_values_in w m items st next ≡ next (map (value_in (extent_of w.heap)) vals)) → k ≡ m
    → MakesValue (list_row (map (value_in (extent_of w.heap)) vals)) w k v (Ok val) → l ≡ k → n ≡ held.push (HeldVal val) l → (st : Store Frames)
    → st.world ≡ world_of w → RunsWith (push_list w m items st) st v n
list_runs w v m k l n items vals val f p g q r st same =
    let pushes : Value → Frames → Store Frames → State Frames Frames = λ list a after. push_item flat (rows.Val list) a after in
    let here : MakesValue (list_row (map (value_in (extent_of w.heap)) vals)) w m v (Ok val) =
    subst (λ (x : FlatStack). MakesValue (list_row (map (value_in (extent_of w.heap)) vals)) w x v (Ok val)) p g in
    f st (λ values. list_made flat values (stack_in (extent_of w.heap) m) st pushes) same
    ∙ here st pushes same
    ∙ ap (λ (y : FlatStack). running (stack_in (extent_of v.heap) (held.push (HeldVal val) y)) (with_world (world_of v) st)) (sym (q ∙ p))
    ∙ ap (λ (y : FlatStack). running (stack_in (extent_of v.heap) y) (with_world (world_of v) st)) (sym r)

pub list_unfound : {A : Type 0} (result : Result A Halt) (w : World) (m n : FlatStack) (items : List Item) (stop : Stop)
    → IsErrAnd result (λ h. h ≡ halt_of stop) → n ≡ m
    → ((st : Store Frames) (next : List Value → State Frames Frames) → st.world ≡ world_of w
    → HaltsWith (with_values_in w m items st next) st w (stack_in (extent_of w.heap) m) (halt_of stop))
    → (st : Store Frames) → st.world ≡ world_of w
    → MatchResult result (λ (x : A). RunsWith (push_list w m items st) st w n)
    (HaltsWith (push_list w m items st) st w (stack_in (extent_of w.heap) n))
list_unfound {A} result w m n items stop err p f st same =
    match_halt result (halt_of stop) (λ (x : A). RunsWith (push_list w m items st) st w n)
    (HaltsWith (push_list w m items st) st w (stack_in (extent_of w.heap) n)) err
    (subst (λ (x : FlatStack). HaltsWith (push_list w m items st) st w (stack_in (extent_of w.heap) x) (halt_of stop)) (sym p)
    (f st (λ values. list_made flat values (stack_in (extent_of w.heap) m) st (λ list a after. push_item flat (rows.Val list) a after)) same))

pub list_unmade : {A : Type 0} (result : Result A Halt) (w v : World) (m k n : FlatStack) (items : List Item) (vals : List Val) (stop : Stop)
    → IsErrAnd result (λ h. h ≡ halt_of stop)
    → ((st : Store Frames) (next : List Value → State Frames Frames) → st.world ≡ world_of w
    → with_values_in w m items st next ≡ next (map (value_in (extent_of w.heap)) vals)) → k ≡ m
    → MakesValue (list_row (map (value_in (extent_of w.heap)) vals)) w k v (Err stop) → n ≡ k → (st : Store Frames) → st.world ≡ world_of w
    → MatchResult result (λ (x : A). RunsWith (push_list w m items st) st v n)
    (HaltsWith (push_list w m items st) st v (stack_in (extent_of v.heap) n))
list_unmade {A} result w v m k n items vals stop err f p g q st same =
    let pushes : Value → Frames → Store Frames → State Frames Frames = λ list a after. push_item flat (rows.Val list) a after in
    let here : MakesValue (list_row (map (value_in (extent_of w.heap)) vals)) w m v (Err stop) =
    subst (λ (x : FlatStack). MakesValue (list_row (map (value_in (extent_of w.heap)) vals)) w x v (Err stop)) p g in
    match_halt result (halt_of stop) (λ (x : A). RunsWith (push_list w m items st) st v n)
    (HaltsWith (push_list w m items st) st v (stack_in (extent_of v.heap) n)) err
    (subst (λ (x : FlatStack). HaltsWith (push_list w m items st) st v (stack_in (extent_of v.heap) x) (halt_of stop)) (sym (q ∙ p))
    (subst (λ (x : State Frames Frames). HaltsWith x st v (stack_in (extent_of v.heap) m) (halt_of stop))
    (sym (f st (λ values. list_made flat values (stack_in (extent_of w.heap) m) st pushes) same)) (here st pushes same)))

pub list_live : (t : Tables) (w v : World) (m n : FlatStack) (val : Val) → n ≡ held.push (HeldVal val) m → KeepsItems (reach_of w []) (reach_of v [])
    → IsLive (extent_of v.heap) val → IsLiveStack t (reach_of w []) m → IsLiveStack t (reach_of v []) n
list_live t w v m n val e k i l =
    let item : IsLiveItem (with_locals (own_locals m) (reach_of v [])) (HeldVal val) = record { live = i } in
    subst (λ (x : FlatStack). IsLiveStack t (reach_of v []) x) (sym e)
    (live_push t (reach_of v []) m (HeldVal val) (stack_stays t (reach_of w []) (reach_of v []) m k l) item)

-- what the instruction is once its operands are taken
pub llist_is : (all : Extent) (tables : Tables) (table : CoexpTable) (m k : FlatStack) (items : List Item) (count : ℕ) (st : Store Frames)
    → table.running ≡ Some m
    → take_operands count m ≡ Some (items, k)
    → instruction flat tables (Instrs.Llist count) (stack_in all (running_of table.running)) st
    ≡ turn tables st (λ s. with_values flat (map (item_in all) items) (stack_in all k) s
    (λ values. list_made flat values (stack_in all k) s (λ list a after. push_item flat (rows.Val list) a after)))
llist_is all tables table m k items count st e p =
    on_running table m (λ x. instruction flat tables (Instrs.Llist count) (stack_in all x) st) e
    ∙ taken_runs all count m k items
    (λ xs a. turn tables st (λ s. with_values flat xs a s (λ values. list_made flat values a s (λ list b after. push_item flat (rows.Val list) b after)))) p

-- the same on a stack and of operands that are the same

pub listed_halts : (w v : World) (k f : FlatStack) (m : Frames) (items xs : List Item) (halt : Halt) → k ≡ f → xs ≡ items
    → ((st : Store Frames) → st.world ≡ world_of w → HaltsWith (push_list w f xs st) st v m halt) → (st : Store Frames) → st.world ≡ world_of w
    → HaltsWith (push_list w k items st) st v m halt
listed_halts w v k f m items xs halt e d h =
    subst (λ (x : FlatStack). (st : Store Frames) → st.world ≡ world_of w → HaltsWith (push_list w x items st) st v m halt) (sym e)
    (subst (λ (ys : List Item). (st : Store Frames) → st.world ≡ world_of w → HaltsWith (push_list w f ys st) st v m halt) d h)

pub listed_runs : (w v : World) (k f n : FlatStack) (items xs : List Item)
    → k ≡ f → xs ≡ items → ((st : Store Frames) → st.world ≡ world_of w → RunsWith (push_list w f xs st) st v n) → (st : Store Frames) → st.world ≡ world_of w
    → RunsWith (push_list w k items st) st v n
listed_runs w v k f n items xs e d h =
    subst (λ (x : FlatStack). (st : Store Frames) → st.world ≡ world_of w → RunsWith (push_list w x items st) st v n) (sym e)
    (subst (λ (ys : List Item). (st : Store Frames) → st.world ≡ world_of w → RunsWith (push_list w f ys st) st v n) d h)
