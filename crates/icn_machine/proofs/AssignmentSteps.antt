-- Assignments to variables of the world that are done at once, as steps.
use Rattle.std.proofs.Common.{◌≡◌, ◌+◌, ℕ, Bool, true, false, nat_le, nat_lt, List, [], ◌∷◌, length, map, Option, Some, None, Ok, Err, refl, sym, ap, ◌∙◌, subst}
use Rattle.std.specs.List.{All}
use Rattle.std.specs.Option.{option_map}
use Rattle.std.specs.Prelude.{IsTrue, if◌then◌else◌, is_some}
use Rattle.std.proofs.lemmas.List.Elements.{All-head}
use Rattle.icn_text.specs.declared.op.Op.{Op}
use Rattle.icn_text.specs.declared.op.Op.TheVariants as Ops
use Rattle.icn_value.specs.declared.item.Item.{Item}
use Rattle.icn_value.specs.declared.item.Item.TheVariants as Items
use Rattle.icn_value.specs.declared.item.Root.{Root}
use Rattle.icn_value.specs.declared.item.Root.TheVariants as Roots
use Rattle.icn_value.specs.declared.item.VarRef.TheVariants as VarRefs
use Rattle.icn_value.specs.declared.residual.Residual.{Residual}
use Rattle.icn_value.specs.declared.residual.Residual.TheVariants as Residuals
use Rattle.icn_value.specs.declared.val.Val.{Val}
use Rattle.icn_value.specs.declared.full.Full.{Full}
use Rattle.icn_value.specs.declared.full.Full.TheVariants.{Cells}
use Rattle.icn_value.specs.Changes.{ChangedHeap, charged_cells, charged_unless, stored_in, value_at_key, with_pair}
use Rattle.icn_value.specs.Store.{Heap, Setting}
use Rattle.icn_value.specs.Values.{Value, Whole, Var}
use Rattle.icn_defs.specs.Applying.{operation_row}
use Rattle.icn_defs.specs.Arities.{arity}
use Rattle.icn_defs.specs.ReadAndAssign.{assigns, the_value, the_variable}
use Rattle.icn_defs.specs.RowFacts.{root_holds}
use Rattle.icn_defs.specs.Rows.{Outcome, UndoAssign, fails, gives, suspends}
use Rattle.icn_heap.specs.Extents.{Extent, IsLive, value_in}
use Rattle.icn_heap.specs.Heaps.{extent_of}
use Rattle.icn_vars.specs.declared.outcome.Outcome.{Outcome as HeldOutcome}
use Rattle.icn_vars.specs.declared.outcome.Outcome.TheVariants.{Gives as HeldGives, Suspends as HeldSuspends}
use Rattle.icn_vars.specs.declared.world.World.{World}
use Rattle.icn_vars.specs.Outcomes.{IsLiveOutcome, outcome_in}
use Rattle.icn_vars.specs.Worlds.{IsLiveItem, IsLiveRoot, KeepsItems, item_in, reach_of, root_in, setting_of, world_of}
use Rattle.icn_vars.proofs.HeapChanges.{charged_then}
use Rattle.icn_vars.proofs.KeptOutcomes.{outcome_kept, outcome_stays}
use Rattle.icn_frames.specs.CalledWith.{DropsWith, HasOperands, operands_above}
use Rattle.icn_frames.specs.declared.layout.Cell.{Cell}
use Rattle.icn_frames.specs.declared.layout.Cell.TheVariants.{Operand}
use Rattle.icn_frames.specs.declared.layout.Why.TheVariants as Whys
use Rattle.icn_frames.specs.declared.slots.StackSlot.{StackSlot}
use Rattle.icn_frames.specs.Slots.{plain_operand}
use Rattle.icn_frames.specs.Stacks as held
use Rattle.icn_frames.specs.Stacks.{FlatStack}
use Rattle.icn_code.specs.Codes.{Tables}
use Rattle.icn_code.specs.declared.instr.Instr.{Instr}
use Rattle.icn_code.specs.declared.instr.Instr.TheVariants as Instrs
use Rattle.icn_run.specs.Stacks.{Frames, flat}
use Rattle.icn_run.specs.Step.{State, Store, here, outcome, with_at}
use Rattle.icn_control.specs.LiveStacks.{IsLiveStack, with_locals}
use Rattle.icn_control.specs.StackAndWorld.{StandsWith}
use Rattle.icn_control.specs.StackViews.{instruction_state, stack_in}
use Rattle.icn_control.specs.TakenOperands.{KeepsCounts, take_operands}
use Rattle.icn_control.specs.declared.machine.RunState.{RunState}
use Rattle.icn_control.specs.declared.machine.RunState.TheVariants as RunStates
use Rattle.icn_control.proofs.KeptItems.{stack_stays}
use Rattle.icn_control.proofs.LiveCalls.{own_locals}
use Rattle.icn_control.proofs.OperandValues.{here_is, live_locals}
use Rattle.icn_control.proofs.TakenOperandSteps.{live_taken}
use Rattle.icn_machine.specs.declared.at_once.AtOnce.TheVariants as AtOnces
use Rattle.icn_machine.specs.AssignmentsInPlace.{IsInWorld, PutsInto}
use Rattle.icn_machine.specs.Giving.{GivesOutcome, StandsAs}
use Rattle.icn_machine.specs.HeldValues.{FindsBelow}
use Rattle.icn_machine.specs.TurnsAtOnce.{DoesAsTurn, a_turn_later}
use Rattle.icn_machine.specs.ValueOperations.{FindsOperand}
use Rattle.icn_machine.proofs.GiveSteps.{gives_given, gives_live, suspends_given, suspends_live}
use Rattle.icn_machine.proofs.HeldValueSteps.{below_live, below_there, moved}
use Rattle.icn_machine.proofs.InWorldSteps.{one_item}
use Rattle.icn_machine.proofs.PerformSteps.{set_is}
use Rattle.icn_machine.proofs.PlainFunctionSteps.{drops_taken}
use Rattle.icn_machine.proofs.PlainOperationSteps.{row_performed}

-- nothing was done
pub not_turned : (tables : Tables) (instr : Instr) (w : World) (m n : FlatStack) → n ≡ m → DoesAsTurn tables instr w m w n AtOnces.Not
not_turned tables instr w m n same =
    record { step = λ st is more. tt; live = tt; kept = tt; counts = tt; not_done = λ q. (same, refl) }

-- memory was wanting
pub memory_turned : (tables : Tables) (instr : Instr) (w v : World) (m n : FlatStack) → DoesAsTurn tables instr w m v n AtOnces.NoMemory
memory_turned tables instr w v m n =
    record { step = λ st is more. tt; live = tt; kept = tt; counts = tt; not_done = λ q. absurd (cc) }

-- Rows that change the world

-- where a stack stands with what a row gave, in the world that it left
pub stands_in : (v : World) (n : FlatStack) (locals : List Val) (st : Store Frames) (stage : RunState) (state : State Frames Frames)
    → StandsAs state (stack_in (extent_of v.heap) n) (with_at (setting_of st.outside v locals) st) stage → StandsWith state st v n stage
stands_in v n locals st RunStates.Running state h = h
stands_in v n locals st RunStates.Failing state h = h
stands_in v n locals st RunStates.Hopping state h = absurd h
stands_in v n locals st RunStates.Over state h = absurd h
stands_in v n locals st RunStates.AtBound state h = absurd h

-- an operation whose row comes to this outcome, in another world, was performed as a turn
pub row_turned : (op : Op) → (op ≡ Ops.Refresh → ⊥) → (t tables : Tables) (w v : World) (m k n : FlatStack) (items : List Item) (oc : HeldOutcome)
    (stage : RunState) → take_operands (arity op) m ≡ Some (items, k) → held.set_locals (held.locals k) k ≡ k
    → KeepsItems (reach_of w []) (reach_of v []) → IsLiveStack t (reach_of w []) k
    → ((st : Store Frames) → st.world ≡ world_of w
    → operation_row op (map (item_in (extent_of w.heap)) items) (here flat (stack_in (extent_of w.heap) k) st)
    ≡ outcome_in (extent_of v.heap) oc (setting_of st.outside v (held.locals k)))
    → GivesOutcome oc k n stage → (st : Store Frames) → st.world ≡ world_of w → nat_lt st.turns st.world.heap.bounds.turns ≡ true
    → StandsWith (instruction_state (extent_of w.heap) tables (Instrs.Op op) m st) (a_turn_later st) v n stage
row_turned op row t tables w v m k n items oc stage taken back kept live is gives st same more =
    let all = extent_of w.heap in
    let later : Store Frames = a_turn_later st in
    let seen : Setting = setting_of st.outside v (held.locals k) in
    let comes : instruction_state all tables (Instrs.Op op) m st ≡ outcome flat (outcome_in (extent_of v.heap) oc seen) (stack_in all k) later
    = row_performed all tables op m k items st row taken more ∙ ap (λ (o : Outcome). outcome flat o (stack_in all k) later) (is later same) in
    subst (λ (s : State Frames Frames). StandsWith s later v n stage) (sym comes)
    (stands_in v n (held.locals k) later stage (outcome flat (outcome_in (extent_of v.heap) oc seen) (stack_in all k) later)
    (gives (extent_of v.heap) (stack_in all k) seen later (set_is t w v k k kept live back)))

-- `x <- y`

-- a variable of the world holds any value
holds_any : (w : World) (root : Root) (value : Value) → IsInWorld w root → root_holds (root_in (extent_of w.heap) root) value ≡ true
holds_any w (Roots.Global index) value is = refl
holds_any w (Roots.Static index) value is = refl
holds_any w (Roots.Local index) value is = absurd is
holds_any w (Roots.Element list number) value is = refl
holds_any w (Roots.Field rec place) value is = refl
holds_any w (Roots.Key table key) value is = refl
holds_any w (Roots.Keyword word) value is = absurd is

-- the variable of a root
abbrev pub variable_item : Root → Item
variable_item root = Items.Var (VarRefs.Whole root)

-- what is given, and what takes it back
abbrev given_back : Root → Val → HeldOutcome
given_back root old = HeldSuspends (variable_item root) (Residuals.UndoAssign (VarRefs.Whole root) old)

reversed : (w v : World) (k : FlatStack) (root : Root) (y : Item) (old val : Val) → FindsOperand w k (variable_item root) old → FindsOperand w k y val
    → PutsInto w root val v → All (IsLive (extent_of w.heap)) (held.locals k) → (st : Store Frames) → st.world ≡ world_of w
    → operation_row Ops.ReversibleAssign (map (item_in (extent_of w.heap)) (variable_item root ∷ y ∷ [])) (here flat (stack_in (extent_of w.heap) k) st)
    ≡ outcome_in (extent_of w.heap) (given_back root old) (setting_of st.outside v (held.locals k))
reversed w v k root y old val first second puts live st same =
    let all = extent_of w.heap in
    let X = item_in all (variable_item root) in
    let Y = item_in all y in
    let held_before : Value = value_in all old in
    first st same (λ o. the_value Y (λ u. the_variable X (λ target. assigns target u (λ now. suspends (Var now) (UndoAssign now o)))))
    ∙ second st same (λ u. the_variable X (λ target. assigns target u (λ now. suspends (Var now) (UndoAssign now held_before))))
    ∙ ap (λ (s : Setting). assigns (Whole (root_in all root)) (value_in all val) (λ now. suspends (Var now) (UndoAssign now held_before)) s)
    (here_is w k st same)
    ∙ puts st.outside (held.locals k) live fails (suspends (Var (Whole (root_in all root))) (UndoAssign (Whole (root_in all root)) held_before))

-- with as many locals
keeps_with : (w v : World) (count : ℕ) → KeepsItems (reach_of w []) (reach_of v [])
    → KeepsItems (with_locals count (reach_of w [])) (with_locals count (reach_of v []))
keeps_with w v count kept =
    record { extent = kept.extent; fields = kept.fields; globals = kept.globals; statics = kept.statics; locals = refl }

-- both operands were dropped, and are told
pub record TakesBoth (w : World) (m k : FlatStack) (d : DropsWith 1 m k) (root : Root) (val : Val) : Type 0 where
  pub second : Item
  pub callee : d.callee ≡ variable_item root
  pub taken : take_operands 2 m ≡ Some (variable_item root ∷ second ∷ [], k)
  pub upper : FindsOperand w k second val

takes_both : (w : World) (m k : FlatStack) (d : DropsWith 1 m k) (root : Root) (val : Val)
    → ((x : Item) → m.cells ≡ operands_above d.items (Operand x ∷ k.cells) → x ≡ variable_item root) → FindsBelow w m 0 val → TakesBoth w m k d root val
takes_both w m k d root val is found =
    let one = one_item d.items d.many in
    let cells : m.cells ≡ operands_above d.items (Operand d.callee ∷ k.cells) = ap (λ (x : FlatStack). x.cells) d.was in
    let above : m.cells ≡ operands_above [] (Operand one.0 ∷ Operand d.callee ∷ k.cells)
    = cells ∙ ap (λ (xs : List Item). operands_above xs (Operand d.callee ∷ k.cells)) one.1 in
    let callee : d.callee ≡ variable_item root = is d.callee cells in
    record {
      second = one.0;
      callee = callee;
      taken = subst (λ (x : Item). take_operands 2 m ≡ Some (x ∷ one.0 ∷ [], k)) callee
          (subst (λ (xs : List Item). take_operands 2 m ≡ Some (d.callee ∷ xs, k)) one.1 (drops_taken 1 m k d));
      upper = moved w m k one.0 val d.locals_same (found one.0 [] (Operand d.callee ∷ k.cells) above refl);
    }

-- the variable is one of the stack below
variable_live : (t : Tables) (w : World) (m k : FlatStack) (d : DropsWith 1 m k) (root : Root) (val : Val) → IsLiveStack t (reach_of w []) m
    → TakesBoth w m k d root val → IsLiveItem (with_locals (held.local_count k) (reach_of w [])) (variable_item root)
variable_live t w m k d root val live b =
    let items : List Item = variable_item root ∷ b.second ∷ [] in
    All-head (IsLiveItem (with_locals (own_locals k) (reach_of w []))) (variable_item root) (b.second ∷ [])
    (live_taken t (reach_of w []) 2 m k items b.taken live).items_live

-- a row that gave the variable a value was performed so, where both operands were dropped
puts_as_turn : (op : Op) → (op ≡ Ops.Refresh → ⊥) → arity op ≡ 2 → (t tables : Tables) (w v : World) (m k n : FlatStack) (items : List Item)
    (oc : HeldOutcome) → take_operands 2 m ≡ Some (items, k) → IsLiveStack t (reach_of w []) m
    → IsLiveOutcome (with_locals (held.local_count k) (reach_of w [])) oc
    → KeepsItems (reach_of w []) (reach_of v []) → KeepsCounts w v → held.set_locals (held.locals k) k ≡ k
    → (All (IsLive (extent_of w.heap)) (held.locals k) → (st : Store Frames) → st.world ≡ world_of w
    → operation_row op (map (item_in (extent_of w.heap)) items) (here flat (stack_in (extent_of w.heap) k) st)
    ≡ outcome_in (extent_of w.heap) oc (setting_of st.outside v (held.locals k)))
    → GivesOutcome oc k n RunStates.Running
    → ((tables : Tables) → IsLiveStack tables (reach_of v []) k → IsLiveOutcome (with_locals (held.local_count k) (reach_of v [])) oc
    → IsLiveStack tables (reach_of v []) n)
    → DoesAsTurn tables (Instrs.Op op) w m v n AtOnces.Running
puts_as_turn op row two t tables w v m k n items oc taken live oc_live kept counts back is gives lives =
    let left = live_taken t (reach_of w []) 2 m k items taken live in
    let n_kept = keeps_with w v (held.local_count k) kept in
    record {
      step = row_turned op row t tables w v m k n items oc RunStates.Running
          (subst (λ (c : ℕ). take_operands c m ≡ Some (items, k)) (sym two) taken) back kept left.rest
          (λ st same. is (live_locals t (reach_of w []) k left.rest) st same
          ∙ sym (outcome_kept n_kept (setting_of st.outside v (held.locals k)) oc oc_live)) gives;
      live = λ l.
          lives tables (stack_stays tables (reach_of w []) (reach_of v []) k kept (live_taken tables (reach_of w []) 2 m k items taken l).rest)
          (outcome_stays n_kept oc oc_live);
      kept = kept;
      counts = counts;
      not_done = λ q. absurd (cc);
    }

pub reverses : (t tables : Tables) (w v : World) (m k n : FlatStack) (root : Root) (old val : Val) (d : DropsWith 1 m k)
    → IsLiveStack t (reach_of w []) m
    → ((x : Item) → m.cells ≡ operands_above d.items (Operand x ∷ k.cells) → x ≡ variable_item root)
    → IsInWorld w root → FindsBelow w m 1 old → FindsBelow w m 0 val → IsLive (extent_of w.heap) old → PutsInto w root val v
    → KeepsItems (reach_of w []) (reach_of v []) → KeepsCounts w v → held.set_locals (held.locals k) k ≡ k
    → held.given_to (Some (variable_item root)) (held.suspend_by (Whys.Op (Residuals.UndoAssign (VarRefs.Whole root) old)) k) ≡ Some n
    → DoesAsTurn tables (Instrs.Op Ops.ReversibleAssign) w m v n AtOnces.Running
reverses t tables w v m k n root old val d live is there first second old_live puts kept counts back given =
    let b = takes_both w m k d root val is second in
    let item : Item = variable_item root in
    let rest : Residual = Residuals.UndoAssign (VarRefs.Whole root) old in
    let oc : HeldOutcome = given_back root old in
    let cells : m.cells ≡ operands_above d.items (Operand d.callee ∷ k.cells) = ap (λ (x : FlatStack). x.cells) d.was in
    let lower : FindsOperand w k item old
    = subst (λ (x : Item). FindsOperand w k x old) b.callee (moved w m k d.callee old d.locals_same (first d.callee d.items k.cells cells d.many)) in
    let item_live = variable_live t w m k d root val live b in
    puts_as_turn Ops.ReversibleAssign (λ q. cc) refl t tables w v m k n (item ∷ b.second ∷ []) oc b.taken live
    (record {
      live = (
        item_live,
        record { live = record { live_variable = item_live.live; live_value = old_live; holds = holds_any w root (value_in (extent_of w.heap) old) there } },
      );
    })
    kept counts back (λ l st same. reversed w v k root b.second old val lower b.upper puts l st same) (suspends_given oc item rest k n refl given)
    (λ ts l o. suspends_live ts (reach_of v []) oc item rest k n refl given l o)

-- `x := y`

assigned : (w v : World) (k : FlatStack) (root : Root) (y : Item) (val : Val) → FindsOperand w k y val → PutsInto w root val v
    → All (IsLive (extent_of w.heap)) (held.locals k) → (st : Store Frames) → st.world ≡ world_of w
    → operation_row Ops.Assign (map (item_in (extent_of w.heap)) (variable_item root ∷ y ∷ [])) (here flat (stack_in (extent_of w.heap) k) st)
    ≡ outcome_in (extent_of w.heap) (HeldGives (variable_item root)) (setting_of st.outside v (held.locals k))
assigned w v k root y val found puts live st same =
    let all = extent_of w.heap in
    let X = item_in all (variable_item root) in
    found st same (λ u. the_variable X (λ target. assigns target u (λ now. gives (Var now))))
    ∙ ap (λ (s : Setting). assigns (Whole (root_in all root)) (value_in all val) (λ now. gives (Var now)) s) (here_is w k st same)
    ∙ puts st.outside (held.locals k) live fails (gives (Var (Whole (root_in all root))))

pub assigns_once : (t tables : Tables) (w v : World) (m k n : FlatStack) (root : Root) (val : Val) (d : DropsWith 1 m k)
    → IsLiveStack t (reach_of w []) m
    → ((x : Item) → m.cells ≡ operands_above d.items (Operand x ∷ k.cells) → x ≡ variable_item root)
    → FindsBelow w m 0 val → PutsInto w root val v → KeepsItems (reach_of w []) (reach_of v []) → KeepsCounts w v
    → held.set_locals (held.locals k) k ≡ k → n ≡ held.push (variable_item root) k
    → DoesAsTurn tables (Instrs.Op Ops.Assign) w m v n AtOnces.Running
assigns_once t tables w v m k n root val d live is found puts kept counts back pushed =
    let b = takes_both w m k d root val is found in
    let item : Item = variable_item root in
    let oc : HeldOutcome = HeldGives item in
    puts_as_turn Ops.Assign (λ q. cc) refl t tables w v m k n (item ∷ b.second ∷ []) oc b.taken live
    (record { live = variable_live t w m k d root val live b }) kept counts back
    (λ l st same. assigned w v k root b.second val b.upper puts l st same) (gives_given oc item k n refl pushed)
    (λ ts l o. gives_live ts (reach_of v []) oc item k n refl pushed l o)

-- Variables that slots tell

-- the variable is of the world
pub root_live : (t : Tables) (w : World) (m : FlatStack) (count : ℕ) (slot : StackSlot) (root : Root) → IsLiveStack t (reach_of w []) m
    → HasOperands (count + 1) m.cells
    → ((x y : Item) (items : List Item) (rest : List Cell) → m.cells ≡ operands_above items (Operand x ∷ rest) → length items ≡ count
    → plain_operand slot ≡ Some y → x ≡ y)
    → plain_operand slot ≡ Some (variable_item root) → IsLiveRoot (with_locals (own_locals m) (reach_of w [])) root
root_live t w m count slot root l there told is =
    let b = below_there count m.cells there in
    let live : IsLiveItem (with_locals (own_locals m) (reach_of w [])) (variable_item root)
    = subst (λ (y : Item). IsLiveItem (with_locals (own_locals m) (reach_of w [])) y) (told b.item (variable_item root) b.items b.rest b.is b.many is)
    (below_live t (reach_of w []) m b.item b.items b.rest l b.is) in
    live.live.live

-- an element that was found is there
pub element_found : (all : Extent) (o : Option Val) (held : Option Value) (t : Bool) → t ≡ is_some o → option_map (value_in all) o ≡ held → IsTrue t
    → is_some held ≡ true
element_found all (Some v) held t e f q = ap is_some (sym f)
element_found all None held t e f q = let no : IsTrue false = subst IsTrue e q in absurd (cc no)

-- Keys of tables

-- what a new pair costs changes no bound and no co-expression
pub record IsCounted (heap made : Heap) : Type 0 where
  pub bounds : made.bounds ≡ heap.bounds
  pub coexps : made.coexps ≡ heap.coexps

paid_counted : (t : Bool) (heap made : Heap) (count : ℕ) (why : Full)
    → (let r : ChangedHeap = if t then Ok (record heap { cells = count }) else Err why in r) ≡ Ok made → IsCounted heap made
paid_counted true heap made count why is =
    let same : record heap { cells = count } ≡ made = cc in
    subst (IsCounted heap) same (record { bounds = refl; coexps = refl })
paid_counted false heap made count why is = cc

pub charged_counted : (nothing : Bool) (heap made : Heap) → charged_unless nothing heap ≡ Ok made → IsCounted heap made
unfolding charged_cells
charged_counted true heap made is = let same : heap ≡ made = cc in subst (IsCounted heap) same (record { bounds = refl; coexps = refl })
charged_counted false heap made is =
    paid_counted (nat_le (heap.cells + 1) heap.bounds.cells) heap made (heap.cells + 1) (Cells heap.cells heap.bounds.cells) is

-- a stored pair changes none
pub stored_counted : (heap new : Heap) (table : ℕ) (key value : Value) → stored_in heap table key value ≡ Ok new → IsCounted heap new
stored_counted heap new table key value step =
    let nothing : Bool = is_some (value_at_key heap table key) in
    let made = charged_then (with_pair table key value) (charged_unless nothing heap) new step in
    let counted = charged_counted nothing heap made.0 made.1 in
    subst (IsCounted heap) made.2 (record { bounds = counted.bounds; coexps = counted.coexps })
