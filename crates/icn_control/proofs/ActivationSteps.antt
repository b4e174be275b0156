-- Activations, results, hops and refreshed co-expressions, as steps.
use Rattle.std.proofs.Common.{◌≡◌, ◌≢◌, ◌<◌, ◌≤◌, ◌==◌, ℕ, zero, suc, ◌+◌, Bool, true, false, not, ◌&&◌, nat_lt, List, [], ◌∷◌, length, slice_get, slice_set, slice_index_or, Option, Some, None, IsSome, refl, sym, ap, ◌∙◌, subst, arith, add-one}
use Rattle.std.specs.Option.{option_map}
use Rattle.std.specs.Prelude.{slice_index, if◌then◌else◌}
use Rattle.std.proofs.lemmas.Bool.{eqb-true}
use Rattle.std.proofs.lemmas.Bool.Decides.{nat_tests}
use Rattle.icn_value.specs.declared.val.Val.{Val}
use Rattle.icn_value.specs.declared.val.Val.TheVariants.{Coexp as HeldCoexp}
use Rattle.icn_value.specs.declared.item.Item.{Item}
use Rattle.icn_value.specs.declared.item.Item.TheVariants.{Val as HeldVal}
use Rattle.icn_value.specs.Store.{Names, Outside, World as StoreWorld}
use Rattle.icn_value.specs.Values.{Value}
use Rattle.icn_defs.specs.Rows.{Gives}
use Rattle.icn_text.specs.declared.op.Op.TheVariants as Ops
use Rattle.icn_heap.specs.Extents.{Extent, IsLive, value_in}
use Rattle.icn_heap.specs.Heaps.{extent_of, heap_of}
use Rattle.icn_vars.specs.declared.stop.Stop.{Stop}
use Rattle.icn_vars.specs.declared.stop.Stop.TheVariants.{Error as StopError}
use Rattle.icn_vars.specs.declared.world.World.{World}
use Rattle.icn_vars.specs.Outcomes.{HaltsRow}
use Rattle.icn_vars.specs.Stops.{halt_of}
use Rattle.icn_vars.specs.Worlds.{KeepsItems, item_in, reach_of, setting_of, world_of}
use Rattle.icn_frames.specs.Stacks as held
use Rattle.icn_frames.specs.Stacks.{FlatStack}
use Rattle.law_frames.proofs.CallsRead.{is_base_read}
use Rattle.icn_coexp.specs.declared.table.AfterTransfer.{AfterTransfer}
use Rattle.icn_coexp.specs.Transfers as table
use Rattle.icn_coexp.specs.Transfers.{Coexp, CoexpTable, enter_other, exhausted_of, give, values_of, went_by, with_copy}
use Rattle.icn_coexp.proofs.OthersKept.{entered_runs}
use Rattle.icn_code.specs.declared.instr.Instr.TheVariants as Instrs
use Rattle.icn_code.specs.Codes.{Tables}
use Rattle.icn_run.specs.Rows.{Val as ItemVal, ACoexp, coexpression_row}
use Rattle.icn_run.specs.Stacks.{Frames, flat}
use Rattle.icn_run.specs.Step as code
use Rattle.icn_run.specs.Step.{State, Store, Status, Fresh, Active, Waiting, Exhausted, errs, running, failing, hopping, instruction, turn_if, turn, activation, activation_of, operate, refresh, result_given, counted_result, passed_value, passed_failure, activator_of, entered_if, entered_by, exhaust_active, hop, with_popped, with_status, with_value, with_world, at_bound, is_main, stuck}
use Rattle.icn_control.specs.Creations.{charged_and_made, copy_entry, copied_on}
use Rattle.icn_control.specs.TransfersRead.{Beside, is_moved, land, store_with}
use Rattle.icn_control.specs.LiveStacks.{IsLiveStack}
use Rattle.icn_control.specs.Machines.{running_of, status_in, store_in}
use Rattle.icn_control.specs.Operands.{having_result, with_top, with_two}
use Rattle.icn_control.specs.StackViews.{stack_in, reading_of}
use Rattle.icn_control.proofs.CreateSteps.{beside_in, charged_errs, charged_runs}
use Rattle.icn_control.proofs.CreationSteps.{creations_are}
use Rattle.icn_control.proofs.ExhaustSteps.{turned}
use Rattle.icn_control.proofs.Halts.{row_error}
use Rattle.icn_control.proofs.KeptItems.{stack_same}
use Rattle.icn_control.proofs.KeptTables.{store_same}
use Rattle.icn_control.proofs.LiveTables.{AllLive}
use Rattle.icn_control.proofs.OperandSteps.{one_popped, two_by_one}
use Rattle.icn_control.proofs.StackSteps.{popped_runs}
use Rattle.icn_control.proofs.TransferSteps.{transfers_read, status_at, status_put}

-- Where a transfer leads

pub lands_runs : (beside : Beside) (m : Frames) (u : CoexpTable) (went : AfterTransfer) → went ≡ went_by u.running → is_moved went ≡ true
    → land beside running m u u.running ≡ running (stack_in beside.all (running_of u.running)) (store_with beside u)
lands_runs beside m u went e w = by_running u.running (sym (ap is_moved e) ∙ w)
  where
    by_running : (o : Option FlatStack) → is_moved (went_by o) ≡ true
        → land beside running m u o ≡ running (stack_in beside.all (running_of o)) (store_with beside u)
    by_running (Some n) q = refl
    by_running None q = cc

pub lands_hops : (beside : Beside) (m : Frames) (u : CoexpTable) (went : AfterTransfer) → went ≡ went_by u.running → is_moved went ≡ false
    → land beside running m u u.running ≡ hopping m (store_with beside u)
lands_hops beside m u went e w = by_running u.running (sym (ap is_moved e) ∙ w)
  where
    by_running : (o : Option FlatStack) → is_moved (went_by o) ≡ false → land beside running m u o ≡ hopping m (store_with beside u)
    by_running (Some n) q = cc
    by_running None q = refl

lands_some : (beside : Beside) (m : Frames) (u : CoexpTable) → IsSome u.running
    → land beside running m u u.running ≡ running (stack_in beside.all (running_of u.running)) (store_with beside u)
lands_some beside m u k = by_running u.running k
  where
    by_running : (o : Option FlatStack) → IsSome o → land beside running m u o ≡ running (stack_in beside.all (running_of o)) (store_with beside u)
    by_running (Some n) q = refl
    by_running None q = cc

-- Activations

same_number : (n : ℕ) → (n == n) ≡ true
same_number n = grind (arith, nat_tests)

other_number : (n m : ℕ) → n ≢ m → (n == m) ≡ false
other_number n m d = by_test (n == m) refl
  where
    by_test : (b : Bool) → (n == m) ≡ b → (n == m) ≡ false
    by_test true e = absurd (d (eqb-true n m e))
    by_test false e = e

pub coact_goes : (tables : Tables) (names : Names) (outside : Outside) (w : World) (turns : ℕ) (begun : List Bool) (table : CoexpTable) (m : FlatStack)
    → table.running ≡ Some m → nat_lt turns (heap_of w.heap).bounds.turns ≡ true
    → instruction flat tables Instrs.Coact (stack_in (extent_of w.heap) (running_of table.running))
    (store_in names outside (world_of w) turns begun (extent_of w.heap) table)
    ≡ with_two (stack_in (extent_of w.heap) m) (store_in names outside (world_of w) (suc turns) begun (extent_of w.heap) table)
    (λ first second n. activation flat first second n (store_in names outside (world_of w) (suc turns) begun (extent_of w.heap) table))
coact_goes tables names outside w turns begun table m e b =
    let st : Store Frames = store_in names outside (world_of w) turns begun (extent_of w.heap) table in
    let M : Frames = stack_in (extent_of w.heap) m in
    ap (λ (o : Option FlatStack). instruction flat tables Instrs.Coact (stack_in (extent_of w.heap) (running_of o)) st) e
    ∙ two_by_one M (λ items n. turn tables st (activation_of flat items n))
    ∙ ap (λ (x : Bool). with_popped flat M (λ upper n. with_popped flat n (λ lower k. turn_if x st (activation_of flat (lower ∷ upper ∷ []) k)))) b

above_main : (n : ℕ) → 0 < n → not (is_main n) ≡ true
above_main zero p = absurd (omega (arith, p))
above_main (suc n) p = refl

-- what comes of a create body, and only of one
abbrev if_base : Bool → State Frames Frames → State Frames Frames
if_base x given = if x then given else stuck

-- what gives a result of a create body
pub create_body : (tables : Tables) (names : Names) (outside : Outside) (w : World) (turns : ℕ) (begun : List Bool) (table : CoexpTable) (m : FlatStack)
    → table.running ≡ Some m → held.is_base m ≡ true → 0 < table.active
    → instruction flat tables Instrs.Coret (stack_in (extent_of w.heap) (running_of table.running))
    (store_in names outside (world_of w) turns begun (extent_of w.heap) table)
    ≡ with_popped flat (stack_in (extent_of w.heap) m)
    (λ item n. turn tables (store_in names outside (world_of w) turns begun (extent_of w.heap) table)
    (λ st. with_value flat item n st (λ value. result_given flat value n st)))
create_body tables names outside w turns begun table m e base other =
    let st : Store Frames = store_in names outside (world_of w) turns begun (extent_of w.heap) table in
    let M : Frames = stack_in (extent_of w.heap) m in
    let given : State Frames Frames = with_popped flat M (λ item n. turn tables st (λ st. with_value flat item n st (λ value. result_given flat value n st))) in
    ap (λ (o : Option FlatStack). instruction flat tables Instrs.Coret (stack_in (extent_of w.heap) (running_of o)) st) e
    ∙ ap (λ (x : Bool). if_base (x && not (is_main table.active)) given) (is_base_read (reading_of (extent_of w.heap)) m ∙ base)
    ∙ ap (λ (x : Bool). if_base x given) (above_main table.active other)

-- no turn more may be made

-- the test of `<` fails where it does not hold
pub nat_lt_false : (m n : ℕ) → n ≤ m → nat_lt m n ≡ false
nat_lt_false m n p = grind (arith, nat_tests)

pub coact_bound : (tables : Tables) (names : Names) (outside : Outside) (w : World) (turns : ℕ) (begun : List Bool) (table : CoexpTable) (m l k : FlatStack)
    (upper lower : Item) → table.running ≡ Some m
    → nat_lt turns (heap_of w.heap).bounds.turns ≡ false → held.pop m ≡ Some (upper, l) → held.pop l ≡ Some (lower, k)
    → instruction flat tables Instrs.Coact (stack_in (extent_of w.heap) (running_of table.running))
    (store_in names outside (world_of w) turns begun (extent_of w.heap) table)
    ≡ at_bound (store_in names outside (world_of w) turns begun (extent_of w.heap) table)
coact_bound tables names outside w turns begun table m l k upper lower e b p q =
    let st : Store Frames = store_in names outside (world_of w) turns begun (extent_of w.heap) table in
    let all : Extent = extent_of w.heap in
    ap (λ (o : Option FlatStack). instruction flat tables Instrs.Coact (stack_in all (running_of o)) st) e
    ∙ two_by_one (stack_in all m) (λ items n. turn tables st (activation_of flat items n))
    ∙ popped_runs m l upper p all (λ i n. with_popped flat n (λ j y. turn tables st (activation_of flat (j ∷ i ∷ []) y)))
    ∙ popped_runs l k lower q all (λ j y. turn tables st (activation_of flat (j ∷ item_in all upper ∷ []) y))
    ∙ ap (λ (x : Bool). turn_if x st (activation_of flat (item_in all lower ∷ item_in all upper ∷ []) (stack_in all k))) b

pub refresh_bound : (tables : Tables) (names : Names) (outside : Outside) (w : World) (turns : ℕ) (begun : List Bool) (table : CoexpTable) (m k : FlatStack)
    (item : Item) → table.running ≡ Some m
    → nat_lt turns (heap_of w.heap).bounds.turns ≡ false → held.pop m ≡ Some (item, k)
    → instruction flat tables (Instrs.Op Ops.Refresh) (stack_in (extent_of w.heap) (running_of table.running))
    (store_in names outside (world_of w) turns begun (extent_of w.heap) table)
    ≡ at_bound (store_in names outside (world_of w) turns begun (extent_of w.heap) table)
refresh_bound tables names outside w turns begun table m k item e b p =
    let st : Store Frames = store_in names outside (world_of w) turns begun (extent_of w.heap) table in
    let all : Extent = extent_of w.heap in
    ap (λ (o : Option FlatStack). instruction flat tables (Instrs.Op Ops.Refresh) (stack_in all (running_of o)) st) e
    ∙ one_popped (stack_in all m) (λ items n. turn tables st (operate flat Ops.Refresh items n))
    ∙ popped_runs m k item p all (λ i n. turn tables st (operate flat Ops.Refresh (i ∷ []) n))
    ∙ ap (λ (x : Bool). turn_if x st (operate flat Ops.Refresh (item_in all item ∷ []) (stack_in all k))) b

pub coret_bound : (tables : Tables) (names : Names) (outside : Outside) (w : World) (turns : ℕ) (begun : List Bool) (table : CoexpTable) (m k : FlatStack)
    (item : Item) → table.running ≡ Some m
    → nat_lt turns (heap_of w.heap).bounds.turns ≡ false → held.pop m ≡ Some (item, k) → held.is_base m ≡ true → 0 < table.active
    → instruction flat tables Instrs.Coret (stack_in (extent_of w.heap) (running_of table.running))
    (store_in names outside (world_of w) turns begun (extent_of w.heap) table)
    ≡ at_bound (store_in names outside (world_of w) turns begun (extent_of w.heap) table)
coret_bound tables names outside w turns begun table m k item e b p base other =
    let st : Store Frames = store_in names outside (world_of w) turns begun (extent_of w.heap) table in
    let all : Extent = extent_of w.heap in
    create_body tables names outside w turns begun table m e base other
    ∙ popped_runs m k item p all (λ i n. turn tables st (λ st. with_value flat i n st (λ value. result_given flat value n st)))
    ∙ ap (λ (x : Bool). turn_if x st (λ st. with_value flat (item_in all item) (stack_in all k) st (λ value. result_given flat value (stack_in all k) st))) b

entered_exhausted : (b : Bool) (n : ℕ) (value : Value) (m : Frames) (st : Store Frames) → entered_if flat b Exhausted n value m st ≡ failing m st
entered_exhausted true n value m st = refl
entered_exhausted false n value m st = refl

entered_other : (all : Extent) (s : Status FlatStack) (n : ℕ) (value : Value) (m : Frames) (st : Store Frames) → exhausted_of s ≡ false
    → entered_if flat false (status_in all s) n value m st ≡ entered_by flat n value m st
entered_other all Fresh n value m st e = refl
entered_other all Active n value m st e = refl
entered_other all (Waiting k) n value m st e = refl
entered_other all Exhausted n value m st e = cc

-- the active one gives the value itself
pub activates_same : (beside : Beside) (t u : CoexpTable) (m n : FlatStack) (id : ℕ) (v w : Val) → t.running ≡ Some m → table.status_of t.active t ≡ Active
    → id ≡ t.active → w ≡ v → u ≡ t → n ≡ held.push (HeldVal w) m
    → activation flat (value_in beside.all v) (ACoexp id) (stack_in beside.all (running_of t.running)) (store_with beside t)
    ≡ running (stack_in beside.all n) (store_with beside (record u { running = Some n }))
activates_same beside t u m n id v w e s i f p q =
    let all : Extent = beside.all in
    let st : Store Frames = store_with beside t in
    let value : Value = value_in all v in
    let K : Frames = stack_in all m in
    ap (λ (o : Option FlatStack). activation flat value (ACoexp id) (stack_in all (running_of o)) st) e
    ∙ ap (λ (k : ℕ). entered_if flat (k == t.active) (code.status_of k st) k value K st) i
    ∙ ap (λ (b : Bool). entered_if flat b (code.status_of t.active st) t.active value K st) (same_number t.active)
    ∙ ap (λ (x : Status Frames). entered_if flat true x t.active value K st) (status_at all t.coexps t.active ∙ ap (status_in all) s)
    ∙ ap (λ (x : Val). running (stack_in all (held.push (HeldVal x) m)) st) (sym f)
    ∙ ap (λ (x : FlatStack). running (stack_in all x) st) (sym q)
    ∙ ap (λ (x : CoexpTable). running (stack_in all n) (store_with beside x)) (sym p)

-- an exhausted one fails
pub activates_exhausted : (beside : Beside) (t u : CoexpTable) (id : ℕ) (v : Val) → table.status_of id t ≡ Exhausted → u ≡ t
    → activation flat (value_in beside.all v) (ACoexp id) (stack_in beside.all (running_of t.running)) (store_with beside t)
    ≡ failing (stack_in beside.all (running_of u.running)) (store_with beside u)
activates_exhausted beside t u id v s p =
    let all : Extent = beside.all in
    let st : Store Frames = store_with beside t in
    let K : Frames = stack_in all (running_of t.running) in
    ap (λ (x : Status Frames). entered_if flat (id == t.active) x id (value_in all v) K st) (status_at all t.coexps id ∙ ap (status_in all) s)
    ∙ entered_exhausted (id == t.active) id (value_in all v) K st
    ∙ ap (λ (x : CoexpTable). failing (stack_in all (running_of x.running)) (store_with beside x)) (sym p)

-- another one is entered
pub activates_other : (beside : Beside) (t u : CoexpTable) (m : FlatStack) (id : ℕ) (v : Val) → t.running ≡ Some m → id ≢ t.active
    → exhausted_of (table.status_of id t) ≡ false → enter_other id v t ≡ Some u
    → activation flat (value_in beside.all v) (ACoexp id) (stack_in beside.all (running_of t.running)) (store_with beside t)
    ≡ running (stack_in beside.all (running_of u.running)) (store_with beside u)
activates_other beside t u m id v e d x g =
    let all : Extent = beside.all in
    let st : Store Frames = store_with beside t in
    let value : Value = value_in all v in
    let K : Frames = stack_in all m in
    ap (λ (o : Option FlatStack). activation flat value (ACoexp id) (stack_in all (running_of o)) st) e
    ∙ ap (λ (b : Bool). entered_if flat b (code.status_of id st) id value K st) (other_number id t.active d)
    ∙ ap (λ (s : Status Frames). entered_if flat false s id value K st) (status_at all t.coexps id)
    ∙ entered_other all (table.status_of id t) id value K st x
    ∙ (transfers_read beside t u K).enters id v m e g
    ∙ lands_some beside K u (entered_runs id v t u g d x)

-- Results

pub coret_goes : (tables : Tables) (names : Names) (outside : Outside) (w : World) (turns : ℕ) (begun : List Bool) (table : CoexpTable) (m : FlatStack)
    → table.running ≡ Some m → nat_lt turns (heap_of w.heap).bounds.turns ≡ true
    → held.is_base m ≡ true → 0 < table.active
    → instruction flat tables Instrs.Coret (stack_in (extent_of w.heap) (running_of table.running))
    (store_in names outside (world_of w) turns begun (extent_of w.heap) table)
    ≡ with_top (stack_in (extent_of w.heap) m) (store_in names outside (world_of w) (suc turns) begun (extent_of w.heap) table)
    (λ value n. result_given flat value n (store_in names outside (world_of w) (suc turns) begun (extent_of w.heap) table))
coret_goes tables names outside w turns begun table m e b base other =
    let st : Store Frames = store_in names outside (world_of w) turns begun (extent_of w.heap) table in
    let M : Frames = stack_in (extent_of w.heap) m in
    create_body tables names outside w turns begun table m e base other
    ∙ ap (λ (x : Bool). with_popped flat M (λ item n. turn_if x st (λ st. with_value flat item n st (λ value. result_given flat value n st)))) b

-- the active one is there
pub active_there : (cs : List Coexp) (n : ℕ) → table.status_in (slice_get cs n) ≡ Active → n < length cs
active_there [] n e = cc
active_there (c ∷ cs) zero e = omega arith
active_there (c ∷ cs) (suc n) e = let p : n < length cs = active_there cs n e in omega (arith, p)

index_or : (cs : List ℕ) (n : ℕ) → slice_index_or cs n 0 ≡ slice_index cs n
index_or [] n = refl
index_or (c ∷ cs) zero = refl
index_or (c ∷ cs) (suc n) = index_or cs n

-- a result is counted in the world
counted_world : (w v : World) (n : ℕ) (st : Store Frames) → st.world ≡ world_of w → world_of v ≡ having_result n (world_of w)
    → counted_result n st ≡ with_world (world_of v) st
counted_world w v n st same c =
    let F : StoreWorld → Store Frames = λ x. counted_result n (with_world x st) in
    let G : ℕ → StoreWorld = λ k. record (world_of w) { heap = record (heap_of w.heap) { coexps = slice_set (heap_of w.heap).coexps n k } } in
    let one : suc (slice_index_or (heap_of w.heap).coexps n 0) ≡ slice_index (heap_of w.heap).coexps n + 1 = ap (λ (k : ℕ). suc k)
    (index_or (heap_of w.heap).coexps n) ∙ sym (add-one (slice_index (heap_of w.heap).coexps n)) in
    ap F same ∙ ap (λ (k : ℕ). with_world (G k) st) one ∙ ap (λ (x : StoreWorld). with_world x st) (sym c)

pub result_passes : (t : Tables) (names : Names) (outside : Outside) (w v : World) (turns : ℕ) (begun : List Bool) (table u : CoexpTable) (k : FlatStack)
    (val : Val)
    → table.running ≡ Some k → give val table ≡ Some u
    → KeepsItems (reach_of w []) (reach_of v []) → world_of v ≡ having_result table.active (world_of w) → IsLive (extent_of w.heap) val
    → IsLiveStack t (reach_of w []) k → AllLive t (reach_of w []) table.coexps
    → result_given flat (value_in (extent_of w.heap) val) (stack_in (extent_of w.heap) k)
    (store_in names outside (world_of w) turns begun (extent_of w.heap) table)
    ≡ land (beside_in names outside v turns begun v) running (stack_in (extent_of v.heap) k) u u.running
result_passes t names outside w v turns begun table u k val e g keeps c value live all =
    let st : Store Frames = store_in names outside (world_of w) turns begun (extent_of v.heap) table in
    let K : Frames = stack_in (extent_of v.heap) k in
    let V : Value = value_in (extent_of v.heap) val in
    let beside : Beside = beside_in names outside v turns begun v in
    ap (λ (x : Frames). result_given flat (value_in (extent_of w.heap) val) x (store_in names outside (world_of w) turns begun (extent_of w.heap) table))
    (sym (stack_same t (reach_of w []) (reach_of v []) k keeps live))
    ∙ ap (λ (x : Value). result_given flat x K (store_in names outside (world_of w) turns begun (extent_of w.heap) table)) (sym (keeps.extent.value val value))
    ∙ ap (result_given flat V K) (sym (store_same names outside (world_of w) turns begun t (reach_of w []) (reach_of v []) table keeps all))
    ∙ ap (passed_value flat (activator_of table.active st) V K) (counted_world w v table.active (with_status table.active (Waiting K) st) refl c)
    ∙ (transfers_read beside table u K).gives val k e g

-- Hops

same_set : (cs : List Coexp) (n : ℕ) (c : Coexp) → slice_get cs n ≡ Some c → slice_set cs n c ≡ cs
same_set [] n c e = cc
same_set (x ∷ cs) zero c e = let q : x ≡ c = cc in ap (λ (y : Coexp). y ∷ cs) (sym q)
same_set (x ∷ cs) (suc n) c e = ap (λ (s : List Coexp). x ∷ s) (same_set cs n c e)

still_exhausted : (cs : List Coexp) (n : ℕ) → table.status_in (slice_get cs n) ≡ Exhausted → table.with_status n Exhausted cs ≡ cs
still_exhausted cs n e = by_coexp (slice_get cs n) refl e
  where
    by_coexp : (o : Option Coexp) → slice_get cs n ≡ o → table.status_in o ≡ Exhausted → table.with_status_in n Exhausted cs o ≡ cs
    by_coexp None g f = refl
    by_coexp (Some c) g f =
        let F : Status FlatStack → Coexp = λ s. record c { status = s } in
        same_set cs n (record c { status = Exhausted }) (g ∙ ap (λ (s : Status FlatStack). Some (F s)) f)

-- events that come to the same come to the same as a turn
same_turn : (b : Bool) (st : Store Frames) (f g : Store Frames → State Frames Frames)
    → (let next : Store Frames = record st { turns = suc st.turns } in f next ≡ g next) → turn_if b st f ≡ turn_if b st g
same_turn true st f g e = e
same_turn false st f g e = refl

-- a hop is what is done where one is exhausted, as it is already
pub hop_exhausts : (tables : Tables) (beside : Beside) (t : CoexpTable) (m : Frames) → table.status_of t.active t ≡ Exhausted
    → hop flat tables m (store_with beside t) ≡ exhaust_active flat tables m (store_with beside t)
hop_exhausts tables beside t m s =
    let st : Store Frames = store_with (turned beside) t in
    let F : List Coexp → Store Frames = λ cs. store_with (turned beside) (record t { coexps = cs }) in
    let same : with_status t.active Exhausted st ≡ st = status_put (turned beside) t t.active Exhausted ∙ ap F (still_exhausted t.coexps t.active s) in
    same_turn (nat_lt beside.turns beside.world.heap.bounds.turns) (store_with beside t) (λ st. passed_failure flat (activator_of st.active st) m st)
    (λ st. passed_failure flat (activator_of st.active st) m (with_status st.active Exhausted st))
    (ap (passed_failure flat (activator_of t.active st) m) (sym same))

-- the one that is reached is not `&main`
pub reached_other : (t : CoexpTable) → table.status_of t.active t ≡ Exhausted → table.status_of 0 t ≢ Exhausted → 0 < t.active
reached_other t e d = by_number t.active e
  where
    by_number : (n : ℕ) → table.status_of n t ≡ Exhausted → 0 < n
    by_number zero f = absurd (d f)
    by_number (suc n) f = omega arith

-- Refreshed ones

pub refresh_goes : (tables : Tables) (names : Names) (outside : Outside) (w : World) (turns : ℕ) (begun : List Bool) (table : CoexpTable) (m : FlatStack)
    → table.running ≡ Some m → nat_lt turns (heap_of w.heap).bounds.turns ≡ true
    → instruction flat tables (Instrs.Op Ops.Refresh) (stack_in (extent_of w.heap) (running_of table.running))
    (store_in names outside (world_of w) turns begun (extent_of w.heap) table)
    ≡ with_top (stack_in (extent_of w.heap) m) (store_in names outside (world_of w) (suc turns) begun (extent_of w.heap) table)
    (λ value n. refresh flat value n (store_in names outside (world_of w) (suc turns) begun (extent_of w.heap) table))
refresh_goes tables names outside w turns begun table m e b =
    let st : Store Frames = store_in names outside (world_of w) turns begun (extent_of w.heap) table in
    let M : Frames = stack_in (extent_of w.heap) m in
    ap (λ (o : Option FlatStack). instruction flat tables (Instrs.Op Ops.Refresh) (stack_in (extent_of w.heap) (running_of o)) st) e
    ∙ one_popped M (λ items n. turn tables st (operate flat Ops.Refresh items n))
    ∙ ap (λ (x : Bool). with_popped flat M (λ item n. turn_if x st (operate flat Ops.Refresh (item ∷ []) n))) b

pub copy_goes : (t : Tables) (w v : World) (m : FlatStack) (id : ℕ) (names : Names) (outside : Outside) (turns : ℕ) (begun : List Bool) (table : CoexpTable)
    → table.running ≡ Some m → 0 < id → id < length table.coexps
    → KeepsItems (reach_of w []) (reach_of v []) → IsLiveStack t (reach_of w []) m → AllLive t (reach_of w []) table.coexps
    → refresh flat (ACoexp id) (stack_in (extent_of w.heap) (running_of table.running))
    (store_in names outside (world_of w) turns begun (extent_of w.heap) table)
    ≡ charged_and_made (beside_in names outside w turns begun v) (length (values_of id table)) table (with_copy table (slice_get table.coexps id))
    (stack_in (extent_of v.heap) m)
copy_goes t w v m zero names outside turns begun table e p l keeps live all = absurd (omega (arith, p))
copy_goes t w v m (suc k) names outside turns begun table e p l keeps live all =
    let st : Store Frames = store_in names outside (world_of w) turns begun (extent_of w.heap) table in
    ap (λ (o : Option FlatStack). refresh flat (ACoexp (suc k)) (stack_in (extent_of w.heap) (running_of o)) st) e
    ∙ ap (λ (x : Frames). refresh flat (ACoexp (suc k)) x st) (sym (stack_same t (reach_of w []) (reach_of v []) m keeps live))
    ∙ ap (refresh flat (ACoexp (suc k)) (stack_in (extent_of v.heap) m))
    (sym (store_same names outside (world_of w) turns begun t (reach_of w []) (reach_of v []) table keeps all))
    ∙ (creations_are (beside_in names outside w turns begun v) table (stack_in (extent_of v.heap) m)).refreshes k l

-- what is copied, by its number
pub copied_is : (table u : CoexpTable) (m : FlatStack) (id number : ℕ) → table.running ≡ Some m → u ≡ copy_entry id table → number ≡ length table.coexps
    → record (with_copy table (slice_get table.coexps id)) { running = Some (held.push (HeldVal (HeldCoexp number)) m) } ≡ u
copied_is table u m id number e c n =
    let F : ℕ → CoexpTable = λ k. record (with_copy table (slice_get table.coexps id)) { running = Some (held.push (HeldVal (HeldCoexp k)) m) } in
    ap F n ∙ sym (ap (copied_on id table) e) ∙ sym c

-- a copy as a whole: what it comes to where it is charged, and where it is not

pub copy_runs : (t : Tables) (w v : World) (m : FlatStack) (id count number : ℕ) (names : Names) (outside : Outside) (turns : ℕ) (begun : List Bool)
    (table u : CoexpTable) → table.running ≡ Some m → 0 < id → id < length table.coexps
    → KeepsItems (reach_of w []) (reach_of v []) → IsLiveStack t (reach_of w []) m → AllLive t (reach_of w []) table.coexps
    → held.set_locals (held.locals m) m ≡ m → count ≡ length (values_of id table)
    → coexpression_row count (setting_of outside w (held.locals m)) ≡ Gives (ItemVal (ACoexp number)) (setting_of outside v (held.locals m))
    → number ≡ length table.coexps → u ≡ copy_entry id (record table { running = Some m })
    → refresh flat (ACoexp id) (stack_in (extent_of w.heap) (running_of table.running))
    (store_in names outside (world_of w) turns begun (extent_of w.heap) table)
    ≡ running (stack_in (extent_of v.heap) (running_of u.running)) (store_in names outside (world_of v) turns begun (extent_of v.heap) u)
copy_runs t w v m id count number names outside turns begun table u e p l keeps live all same c row n made =
    let after : CoexpTable = with_copy table (slice_get table.coexps id) in
    let F : CoexpTable → State Frames Frames = λ y. running (stack_in (extent_of v.heap) (running_of y.running))
    (store_in names outside (world_of v) turns begun (extent_of v.heap) y) in
    copy_goes t w v m id names outside turns begun table e p l keeps live all
    ∙ charged_runs t w v m (length (values_of id table)) number names outside turns begun table after keeps live same
    (copy_active table (slice_get table.coexps id))
    (subst (λ (x : ℕ). coexpression_row x (setting_of outside w (held.locals m)) ≡ Gives (ItemVal (ACoexp number)) (setting_of outside v (held.locals m))) c
    row)
    ∙ ap (λ (y : CoexpTable). F (record y { running = Some (held.push (HeldVal (HeldCoexp number)) m) })) (copy_on table m (slice_get table.coexps id))
    ∙ ap F (copied_is (record table { running = Some m }) u m id number refl made n)
  where
    copy_active : (t : CoexpTable) (o : Option Coexp) → (with_copy t o).active ≡ t.active
    copy_active t None = refl
    copy_active t (Some c) = refl

    copy_on : (t : CoexpTable) (m : FlatStack) (o : Option Coexp) → record (with_copy t o) { running = Some m } ≡ with_copy (record t { running = Some m }) o
    copy_on t m None = refl
    copy_on t m (Some c) = refl

pub copy_errs : (t : Tables) (w v : World) (m : FlatStack) (id count number : ℕ) (offending : Option Val) (stop : Stop) (names : Names) (outside : Outside)
    (turns : ℕ) (begun : List Bool) (table other : CoexpTable) (stack : Frames) → table.running ≡ Some m → 0 < id
    → id < length table.coexps → KeepsItems (reach_of w []) (reach_of v []) → IsLiveStack t (reach_of w []) m → AllLive t (reach_of w []) table.coexps
    → count ≡ length (values_of id table)
    → HaltsRow (extent_of v.heap) (coexpression_row count) (setting_of outside w (held.locals m)) (setting_of outside v (held.locals m)) (halt_of stop)
    → stop ≡ StopError number offending
    → refresh flat (ACoexp id) (stack_in (extent_of w.heap) (running_of table.running))
    (store_in names outside (world_of w) turns begun (extent_of w.heap) table)
    ≡ errs number (option_map (value_in (extent_of v.heap)) offending) stack (store_in names outside (world_of v) turns begun (extent_of v.heap) other)
copy_errs t w v m id count number offending stop names outside turns begun table other stack e p l keeps live all c row s =
    let after : CoexpTable = with_copy table (slice_get table.coexps id) in
    let halts : HaltsRow (extent_of v.heap) (coexpression_row (length (values_of id table))) (setting_of outside w (held.locals m))
    (setting_of outside v (held.locals m)) (halt_of stop)
    = subst (λ (x : ℕ). HaltsRow (extent_of v.heap) (coexpression_row x) (setting_of outside w (held.locals m)) (setting_of outside v (held.locals m))
    (halt_of stop)) c row in
    copy_goes t w v m id names outside turns begun table e p l keeps live all
    ∙ charged_errs t w v m (length (values_of id table)) number (option_map (value_in (extent_of v.heap)) offending) names outside turns begun table after other
    (extent_of v.heap) turns stack keeps live
    (row_error (extent_of v.heap) (coexpression_row (length (values_of id table))) (setting_of outside w (held.locals m))
    (setting_of outside v (held.locals m)) stop number offending halts s)
