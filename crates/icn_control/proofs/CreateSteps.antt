-- A co-expression is made, as a step.
use Rattle.std.proofs.Common.{◌≡◌, ℕ, suc, ◌+◌, Bool, true, false, nat_lt, List, [], ◌∷◌, ◌++◌, take, length, slice_get, Option, Some, None, refl, sym, ap, ◌∙◌, subst}
use Rattle.std.specs.Option.{option_map}
use Rattle.std.specs.Prelude.{nat_le, ⊤}
use Rattle.icn_value.specs.declared.val.Val.{Val}
use Rattle.icn_value.specs.declared.val.Val.TheVariants.{Coexp as HeldCoexp}
use Rattle.icn_value.specs.declared.item.Item.TheVariants.{Val as HeldVal}
use Rattle.icn_value.specs.Store.{Outside, Setting, Names, World as StoreWorld}
use Rattle.icn_value.specs.Values.{Value}
use Rattle.icn_defs.specs.Errors.{ends_run, is_fatal}
use Rattle.icn_defs.specs.Rows.{Row, Outcome, Gives, Error, check}
use Rattle.icn_defs.proofs.OnErrors.{fatal_ends, is_ended}
use Rattle.icn_heap.specs.Extents.{Extent, value_in}
use Rattle.icn_heap.specs.Heaps.{extent_of, heap_of}
use Rattle.icn_heap.proofs.GrowingHeaps.{values_kept}
use Rattle.icn_vars.specs.declared.stop.Stop.{Stop}
use Rattle.icn_vars.specs.declared.stop.Stop.TheVariants.{Error as StopError}
use Rattle.icn_vars.specs.declared.world.World.{World}
use Rattle.icn_vars.specs.Outcomes.{HaltsRow}
use Rattle.icn_vars.specs.Stops.{halt_of}
use Rattle.icn_vars.specs.Worlds.{KeepsItems, reach_of, setting_of, world_of}
use Rattle.icn_frames.specs.Stacks as held
use Rattle.icn_frames.specs.Stacks.{FlatStack}
use Rattle.law_frames.proofs.CallsRead.{locals_read, set_locals_read}
use Rattle.std.proofs.lemmas.List.{take_more}
use Rattle.std.proofs.lemmas.Option.{same_Some, get_or_from_slice_get, slice_get_within}
use Rattle.icn_coexp.specs.Transfers.{Coexp, CoexpTable, with_copy, with_new}
use Rattle.icn_code.specs.declared.instr.Instr.TheVariants as Instrs
use Rattle.icn_code.specs.Codes.{Tables}
use Rattle.icn_run.specs.Rows.{Val as ItemVal, ACoexp, coexpression_row}
use Rattle.icn_run.specs.Stacks.{Frames, flat}
use Rattle.icn_run.specs.Step.{State, Store, running, ended_by, errs, instruction, turn_if, coexp_made, here, with_made, push_item}
use Rattle.icn_control.specs.LiveStacks.{IsLiveStack}
use Rattle.icn_control.specs.TransfersRead.{Beside, store_with}
use Rattle.icn_control.specs.Machines.{store_in, running_of}
use Rattle.icn_control.specs.StackViews.{stack_in, reading_of}
use Rattle.icn_control.specs.Creations.{with_coexps, charged_and_made, copy_entry, copied_on, create_entry, created_on}
use Rattle.icn_control.proofs.CreationSteps.{creations_are}
use Rattle.icn_control.proofs.OperandValues.{live_locals}
use Rattle.icn_control.proofs.Halts.{row_error}
use Rattle.icn_control.proofs.KeptItems.{stack_same}
use Rattle.icn_control.proofs.KeptTables.{store_same}
use Rattle.icn_control.proofs.LiveCalls.{live_go}
use Rattle.icn_control.proofs.LiveTables.{AllLive}

-- what stands beside a table, by the texts of a later world
abbrev pub beside_in : Names → Outside → World → ℕ → List Bool → World → Beside
beside_in names outside w turns begun v = record { names = names; outside = outside; world = world_of w; turns = turns; begun = begun; all = extent_of v.heap }

-- the setting in which it is charged
charged_here : (t : Tables) (w v : World) (n : FlatStack) (st : Store Frames) → st.world ≡ world_of w → KeepsItems (reach_of w []) (reach_of v [])
    → IsLiveStack t (reach_of w []) n
    → here flat (stack_in (extent_of v.heap) n) st ≡ setting_of st.outside w (held.locals n)
charged_here t w v n st same keeps live =
    let F : StoreWorld → List Value → Setting = λ x y. record { world = x; locals = y; outside = st.outside } in
    ap (λ (x : StoreWorld). F x (flat.locals (stack_in (extent_of v.heap) n))) same
    ∙ ap (F (world_of w)) (locals_read (reading_of (extent_of v.heap)) n ∙ values_kept keeps.extent (held.locals n) (live_locals t (reach_of w []) n live))

-- what comes of a charge that is paid: the value is pushed
pub charged_runs : (t : Tables) (w v : World) (n : FlatStack) (count number : ℕ) (names : Names) (outside : Outside) (turns : ℕ) (begun : List Bool)
    (before after : CoexpTable)
    → KeepsItems (reach_of w []) (reach_of v []) → IsLiveStack t (reach_of w []) n → held.set_locals (held.locals n) n ≡ n → after.active ≡ before.active
    → coexpression_row count (setting_of outside w (held.locals n)) ≡ Gives (ItemVal (ACoexp number)) (setting_of outside v (held.locals n))
    → charged_and_made (beside_in names outside w turns begun v) count before after (stack_in (extent_of v.heap) n)
    ≡ running (stack_in (extent_of v.heap) (held.push (HeldVal (HeldCoexp number)) n))
    (store_in names outside (world_of v) turns begun (extent_of v.heap) after)
charged_runs t w v n count number names outside turns begun before after keeps live same active row =
    let b : Extent = extent_of v.heap in
    let beside : Beside = beside_in names outside w turns begun v in
    let st : Store Frames = store_with beside before in
    let next : Value → Frames → Store Frames → State Frames Frames = λ value n st. push_item flat (ItemVal value) n (with_coexps beside after st) in
    let done : ℕ → Store Frames = λ a. record (store_in names outside (world_of v) turns begun b after) { active = a } in
    ap (λ (s : Setting). with_made flat (coexpression_row count s) (stack_in b n) st next) (charged_here t w v n st refl keeps live)
    ∙ ap (λ (o : Outcome). with_made flat o (stack_in b n) st next) row
    ∙ ap (λ (x : Frames). running (flat.push (ItemVal (ACoexp number)) x) (done before.active))
    (set_locals_read (reading_of b) (held.locals n) n ∙ ap (stack_in b) same)
    ∙ ap (λ (a : ℕ). running (stack_in b (held.push (HeldVal (HeldCoexp number)) n)) (done a)) (sym active)

-- the error of one that is not made ends the run, whatever `&error` is

abbrev EndsIfError : Outcome → Type 0
EndsIfError (Error number offending seen) = is_fatal number ≡ true
EndsIfError outcome = ⊤

ends_unless : (b : Bool) (next : Row) (at : Setting) → EndsIfError (next at) → EndsIfError (check b 307 None next at)
ends_unless true next at h = h
ends_unless false next at h = refl

pub charge_ends : (count number : ℕ) (value : Option Value) (at seen : Setting) → coexpression_row count at ≡ Error number value seen → is_fatal number ≡ true
charge_ends count number value at seen e =
    subst EndsIfError e (ends_unless (nat_le (at.world.heap.cells + (1 + count)) at.world.heap.bounds.cells) _ at tt)

-- what comes of one that is not
pub charged_errs : (t : Tables) (w v : World) (n : FlatStack) (count number : ℕ) (value : Option Value) (names : Names) (outside : Outside) (turns : ℕ)
    (begun : List Bool) (before after other : CoexpTable) (all : Extent) (other_turns : ℕ) (stack : Frames)
    → KeepsItems (reach_of w []) (reach_of v []) → IsLiveStack t (reach_of w []) n
    → coexpression_row count (setting_of outside w (held.locals n)) ≡ Error number value (setting_of outside v (held.locals n))
    → charged_and_made (beside_in names outside w turns begun v) count before after (stack_in (extent_of v.heap) n)
    ≡ errs number value stack (store_in names outside (world_of v) other_turns begun all other)
charged_errs t w v n count number value names outside turns begun before after other all other_turns stack keeps live row =
    let b : Extent = extent_of v.heap in
    let beside : Beside = beside_in names outside w turns begun v in
    let st : Store Frames = store_with beside before in
    let next : Value → Frames → Store Frames → State Frames Frames = λ value n st. push_item flat (ItemVal value) n (with_coexps beside after st) in
    let ends : ends_run number (world_of v).error ≡ true =
    fatal_ends number (world_of v).error (charge_ends count number value (setting_of outside w (held.locals n)) (setting_of outside v (held.locals n)) row) in
    ap (λ (s : Setting). with_made flat (coexpression_row count s) (stack_in b n) st next) (charged_here t w v n st refl keeps live)
    ∙ ap (λ (o : Outcome). with_made flat o (stack_in b n) st next) row
    ∙ is_ended number value (world_of v) _ _ ends
    ∙ sym (is_ended number value (world_of v) (ended_by number value (store_in names outside (world_of v) other_turns begun all other)) _ ends)

-- create, up to its charge
pub create_goes : (t tables : Tables) (w v : World) (m : FlatStack) (label : ℕ) (names : Names) (outside : Outside) (turns : ℕ) (begun : List Bool)
    (table : CoexpTable) → table.running ≡ Some m
    → nat_lt turns (heap_of w.heap).bounds.turns ≡ true → KeepsItems (reach_of w []) (reach_of v []) → IsLiveStack t (reach_of w []) m
    → AllLive t (reach_of w []) table.coexps
    → instruction flat tables (Instrs.Create label) (stack_in (extent_of w.heap) (running_of table.running))
    (store_in names outside (world_of w) turns begun (extent_of w.heap) table)
    ≡ charged_and_made (beside_in names outside w (suc turns) begun v) (length (held.locals m)) table (with_new (held.locals m) (held.proc m) m.address table)
    (stack_in (extent_of v.heap) (held.go label m))
create_goes t tables w v m label names outside turns begun table e b keeps live all =
    let st : Store Frames = store_in names outside (world_of w) turns begun (extent_of w.heap) table in
    let M : Frames = stack_in (extent_of w.heap) m in
    let event : Store Frames → State Frames Frames = coexp_made flat (flat.locals M) (flat.proc M) (flat.address M) (flat.go label M) in
    let next : Store Frames = store_in names outside (world_of w) (suc turns) begun (extent_of w.heap) table in
    let beside : Beside = beside_in names outside w (suc turns) begun v in
    ap (λ (o : Option FlatStack). instruction flat tables (Instrs.Create label) (stack_in (extent_of w.heap) (running_of o)) st) e
    ∙ ap (λ (x : Bool). turn_if x st event) b
    ∙ ap (λ (x : Frames). coexp_made flat (flat.locals x) (flat.proc x) (flat.address x) (flat.go label x) next)
    (sym (stack_same t (reach_of w []) (reach_of v []) m keeps live))
    ∙ ap (coexp_made flat (flat.locals (stack_in (extent_of v.heap) m)) (flat.proc (stack_in (extent_of v.heap) m)) m.address
    (stack_in (extent_of v.heap) (held.go label m)))
    (sym (store_same names outside (world_of w) (suc turns) begun t (reach_of w []) (reach_of v []) table keeps all))
    ∙ (creations_are beside table (stack_in (extent_of v.heap) (held.go label m))).creates m

-- what is created, by its number
pub created_is : (table u : CoexpTable) (m : FlatStack) (label number : ℕ) → table.running ≡ Some m → u ≡ create_entry label table
    → number ≡ length table.coexps
    → record (with_new (held.locals m) (held.proc m) m.address table) { running = Some (held.push (HeldVal (HeldCoexp number)) (held.go label m)) } ≡ u
created_is table u m label number e c n =
    let F : ℕ
    → CoexpTable = λ k.
    record (with_new (held.locals m) (held.proc m) m.address table) { running = Some (held.push (HeldVal (HeldCoexp k)) (held.go label m)) } in
    ap F n ∙ sym (ap (created_on label table) e) ∙ sym c

-- what the table comes to whose stack was read, then grew, and went on
pub adds_here : (table t u : CoexpTable) (f e k n : FlatStack) (values : List Val) (proc place id label : ℕ) → table.running ≡ Some f → e ≡ f
    → values ≡ held.locals f → proc ≡ held.proc f → place ≡ f.address
    → t ≡ with_new values proc place (record table { running = Some e }) → id ≡ length table.coexps → t.running ≡ Some k
    → n ≡ held.push (HeldVal (HeldCoexp id)) (held.go label k) → u ≡ record t { running = Some n }
    → u ≡ create_entry label table
adds_here table t u f e k n values proc place id label r same v p q made i g push there =
    let back : k ≡ f = same_Some k f (sym g ∙ ap (λ (x : CoexpTable). x.running) made ∙ ap (λ (x : FlatStack). Some x) same) in
    let F : CoexpTable → FlatStack → CoexpTable = λ x y. record x { running = Some y } in
    let G : List Val → ℕ → ℕ → CoexpTable = λ a b c. record (with_new a b c table) { running = Some n } in
    there
    ∙ ap (λ (x : CoexpTable). F x n) made
    ∙ ap (λ (a : List Val). G a proc place) v
    ∙ ap (λ (b : ℕ). G (held.locals f) b place) p
    ∙ ap (G (held.locals f) (held.proc f)) q
    ∙ ap (F (with_new (held.locals f) (held.proc f) f.address table)) (push ∙ ap (λ (x : FlatStack). held.push (HeldVal (HeldCoexp id)) (held.go label x)) back
    ∙ ap (λ (x : ℕ). held.push (HeldVal (HeldCoexp x)) (held.go label f)) i)
    ∙ sym (ap (created_on label table) r)

pub copy_running : (t : CoexpTable) (o : Option Coexp) → (with_copy t o).running ≡ t.running
copy_running t None = refl
copy_running t (Some c) = refl

-- the same of a copy
pub adds_copy : (table t u : CoexpTable) (f k n : FlatStack) (id number : ℕ) → table.running ≡ Some f → t ≡ with_copy table (slice_get table.coexps id)
    → number ≡ length table.coexps → t.running ≡ Some k
    → n ≡ held.push (HeldVal (HeldCoexp number)) k → u ≡ record t { running = Some n } → u ≡ copy_entry id table
adds_copy table t u f k n id number r made i g push there =
    let back : k ≡ f = same_Some k f (sym g ∙ ap (λ (x : CoexpTable). x.running) made ∙ copy_running table (slice_get table.coexps id) ∙ r) in
    let F : CoexpTable → FlatStack → CoexpTable = λ x y. record x { running = Some y } in
    there
    ∙ ap (λ (x : CoexpTable). F x n) made
    ∙ ap (F (with_copy table (slice_get table.coexps id)))
    (push ∙ ap (held.push (HeldVal (HeldCoexp number))) back ∙ ap (λ (x : ℕ). held.push (HeldVal (HeldCoexp x)) f) i)
    ∙ sym (ap (copied_on id table) r)

-- create as a whole: what it comes to where it is charged, and where it is not

pub create_runs : (t tables : Tables) (w v : World) (m : FlatStack) (label count number : ℕ) (names : Names) (outside : Outside) (turns more : ℕ)
    (begun : List Bool) (table u : CoexpTable) → table.running ≡ Some m
    → nat_lt turns (heap_of w.heap).bounds.turns ≡ true → KeepsItems (reach_of w []) (reach_of v []) → IsLiveStack t (reach_of w []) m
    → AllLive t (reach_of w []) table.coexps → held.set_locals (held.locals m) m ≡ m → count ≡ length (held.locals m)
    → coexpression_row count (setting_of outside w (held.locals m)) ≡ Gives (ItemVal (ACoexp number)) (setting_of outside v (held.locals m))
    → number ≡ length table.coexps → u ≡ create_entry label (record table { running = Some m }) → more ≡ suc turns
    → instruction flat tables (Instrs.Create label) (stack_in (extent_of w.heap) (running_of table.running))
    (store_in names outside (world_of w) turns begun (extent_of w.heap) table)
    ≡ running (stack_in (extent_of v.heap) (running_of u.running)) (store_in names outside (world_of v) more begun (extent_of v.heap) u)
create_runs t tables w v m label count number names outside turns more begun table u e b keeps live all same c row n made k =
    let after : CoexpTable = with_new (held.locals m) (held.proc m) m.address table in
    let F : ℕ → CoexpTable → State Frames Frames = λ x y. running (stack_in (extent_of v.heap) (running_of y.running))
    (store_in names outside (world_of v) x begun (extent_of v.heap) y) in
    create_goes t tables w v m label names outside turns begun table e b keeps live all
    ∙ charged_runs t w v (held.go label m) (length (held.locals m)) number names outside (suc turns) begun table after keeps
    (live_go t (reach_of w []) m label live) (ap (held.go label) same) refl
    (subst (λ (x : ℕ). coexpression_row x (setting_of outside w (held.locals m)) ≡ Gives (ItemVal (ACoexp number)) (setting_of outside v (held.locals m))) c
    row)
    ∙ ap (F (suc turns)) (created_is (record table { running = Some m }) u m label number refl made n)
    ∙ ap (λ (x : ℕ). F x u) (sym k)

pub create_errs : (t tables : Tables) (w v : World) (m : FlatStack) (label count number : ℕ) (offending : Option Val) (stop : Stop) (names : Names)
    (outside : Outside) (turns more : ℕ) (begun : List Bool) (table other : CoexpTable) (stack : Frames) → table.running ≡ Some m
    → nat_lt turns (heap_of w.heap).bounds.turns ≡ true → KeepsItems (reach_of w []) (reach_of v []) → IsLiveStack t (reach_of w []) m
    → AllLive t (reach_of w []) table.coexps → count ≡ length (held.locals m)
    → HaltsRow (extent_of v.heap) (coexpression_row count) (setting_of outside w (held.locals m)) (setting_of outside v (held.locals m)) (halt_of stop)
    → stop ≡ StopError number offending
    → instruction flat tables (Instrs.Create label) (stack_in (extent_of w.heap) (running_of table.running))
    (store_in names outside (world_of w) turns begun (extent_of w.heap) table)
    ≡ errs number (option_map (value_in (extent_of v.heap)) offending) stack (store_in names outside (world_of v) more begun (extent_of v.heap) other)
create_errs t tables w v m label count number offending stop names outside turns more begun table other stack e b keeps live all c row s =
    let after : CoexpTable = with_new (held.locals m) (held.proc m) m.address table in
    let halts : HaltsRow (extent_of v.heap) (coexpression_row (length (held.locals m))) (setting_of outside w (held.locals m))
    (setting_of outside v (held.locals m)) (halt_of stop)
    = subst (λ (x : ℕ). HaltsRow (extent_of v.heap) (coexpression_row x) (setting_of outside w (held.locals m)) (setting_of outside v (held.locals m))
    (halt_of stop)) c row in
    create_goes t tables w v m label names outside turns begun table e b keeps live all
    ∙ charged_errs t w v (held.go label m) (length (held.locals m)) number (option_map (value_in (extent_of v.heap)) offending) names outside
    (suc turns) begun table after other (extent_of v.heap) more stack keeps (live_go t (reach_of w []) m label live)
    (row_error (extent_of v.heap) (coexpression_row (length (held.locals m))) (setting_of outside w (held.locals m))
    (setting_of outside v (held.locals m)) stop number offending halts s)

-- one more local was read
pub one_local : (xs ys : List Val) (i : ℕ) (v : Val) → ys ≡ take i xs → slice_get xs i ≡ Some v → ys ++ v ∷ [] ≡ take (i + 1) xs
one_local xs ys i v so e =
    ap (λ (w : List Val). w ++ v ∷ []) so
    ∙ sym (take_more xs i v (slice_get_within xs i v e) ∙ ap (λ (x : Val). take i xs ++ x ∷ []) (get_or_from_slice_get xs i v v e))
