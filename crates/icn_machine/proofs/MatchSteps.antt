-- The matching of a text at the position, which is performed at once, as a turn, and the opening of a scan.
use Rattle.std.proofs.Common.{◌≡◌, ℕ, ◌+◌, true, false, nat_lt, Bool, List, [], ◌∷◌, length, get_or, Option, Some, None, IsSome, Ok, refl, sym, ap, ◌∙◌, subst}
use Rattle.std.proofs.lemmas.Option.{same_Some}
use Rattle.std.specs.Option.{option_and_then}
use Rattle.std.specs.Prelude.{if◌then◌else◌}
use Rattle.icn_text.specs.declared.op.Op.TheVariants as Ops
use Rattle.icn_value.specs.Values.{Text, Value}
use Rattle.icn_value.specs.declared.item.Item.{Item}
use Rattle.icn_value.specs.declared.val.Span.{Span}
use Rattle.icn_value.specs.declared.val.Val.{Val}
use Rattle.icn_value.specs.declared.val.Val.TheVariants as Vals
use Rattle.icn_value.specs.Store.{Setting}
use Rattle.icn_defs.specs.Arguments.{string}
use Rattle.icn_defs.specs.Arities.{arity}
use Rattle.icn_defs.specs.Rows.{◌>>=◌, Outcome, Row, costs_text, fails_unless, here as setting_here, thing_or_failure}
use Rattle.icn_defs.specs.Scanning.{stands, tabs_to}
use Rattle.icn_defs.specs.StepRows.{text_row}
use Rattle.icn_heap.specs.Extents.{text_in, value_in}
use Rattle.icn_heap.specs.Heaps.{extent_of}
use Rattle.icn_vars.specs.declared.outcome.Outcome.TheVariants as Outcomes
use Rattle.icn_vars.specs.declared.world.World.{World}
use Rattle.icn_vars.specs.Worlds.{reach_of, setting_of, world_of}
use Rattle.icn_vars.proofs.KeptItems.{keeps_items_refl}
use Rattle.icn_frames.specs.CalledWith.{DropsWith, operands_above}
use Rattle.icn_frames.specs.declared.layout.Cell.TheVariants.{Operand}
use Rattle.icn_frames.specs.Stacks as held
use Rattle.icn_frames.specs.Stacks.{FlatStack}
use Rattle.icn_code.specs.Codes.{Tables}
use Rattle.icn_code.specs.declared.instr.Instr.TheVariants as Instrs
use Rattle.icn_run.specs.Stacks.{Frames, flat}
use Rattle.icn_run.specs.Step.{Store, outcome, scan_opened}
use Rattle.icn_control.specs.LiveStacks.{IsLiveStack}
use Rattle.icn_control.specs.Soundness.{KeepsHeap}
use Rattle.icn_control.specs.StackAndWorld.{RunsWith}
use Rattle.icn_control.specs.StackViews.{instruction_state, stack_in}
use Rattle.icn_control.specs.TakenOperands.{MakesValue, take_operands, taken_onto}
use Rattle.icn_control.specs.declared.machine.RunState.{RunState}
use Rattle.icn_control.specs.declared.machine.RunState.TheVariants as RunStates
use Rattle.icn_control.proofs.OpenedScans.{bscan_runs, text_result}
use Rattle.icn_control.proofs.TakenOperandSteps.{FindsItem, live_taken}
use Rattle.icn_scanfn.specs.InSubject.{place_behind, subject_of}
use Rattle.icn_machine.specs.AnsweredAtOnce.{done_at}
use Rattle.icn_machine.specs.PlainFunctions.{HasValue, HasValueBelow}
use Rattle.icn_machine.specs.PlainScans.{MovesAs, OpensSo, moved_outcome}
use Rattle.icn_machine.specs.TurnsAtOnce.{DoesAsTurn, a_turn_later}
use Rattle.icn_machine.proofs.PerformSteps.{here_is}
use Rattle.icn_machine.proofs.PlainFunctionSteps.{drops_taken, found_there, value_is}
use Rattle.icn_machine.proofs.PlainOperationSteps.{row_performed}
use Rattle.icn_machine.proofs.RowsAtOnce.{does_row}
use Rattle.icn_machine.proofs.ScanCalls.{continues_moved, continues_refl, failure_of, fails_so, move_of}

-- a text is looked for at the position
matches_text : List ℕ → Row
matches_text wanted = do
  setting ← setting_here
  fails_unless (stands wanted setting.world.subject setting.world.position (length setting.world.subject + 1))
      (tabs_to (setting.world.position + length wanted))

by_test : (b : Bool) (place : ℕ) (s : Setting) → fails_unless b (tabs_to place) s ≡ thing_or_failure (if b then Some place else None) tabs_to s
by_test true place s = refl
by_test false place s = refl

none_more : (items : List Item) → length items ≡ 0 → items ≡ []
none_more [] e = refl
none_more (x ∷ items) e = cc

popped_top : (m k : FlatStack) (x : Item) → take_operands 1 m ≡ Some (x ∷ [], k) → held.pop m ≡ Some (x, k)
popped_top m k x taken = by_popped (held.pop m) refl taken
  where
    by_popped : (o : Option (Item × FlatStack)) → held.pop m ≡ o
        → option_and_then (λ (popped : Item × FlatStack). taken_onto 0 popped.1 (popped.0 ∷ [])) o ≡ Some (x ∷ [], k) → held.pop m ≡ Some (x, k)
    by_popped (Some popped) e q =
        let G : Item → FlatStack → Option (Item × FlatStack) = λ y z. Some (y, z) in
        let both : (popped.0 ∷ [], popped.1) ≡ (x ∷ [], k) = same_Some _ _ q in
        let first : popped.0 ≡ x = ap (λ (p : List Item × FlatStack). get_or p.0 0 x) both in
        e ∙ ap (λ (y : Item). G y popped.1) first ∙ ap (λ (z : FlatStack). G x z) (ap (λ (p : List Item × FlatStack). p.1) both)
    by_popped None e q = cc

-- an operand is there to be taken
pub one_taken_there : (m : FlatStack) → IsSome (held.pop m) → IsSome (take_operands 1 m)
one_taken_there m there = by_popped (held.pop m) there
  where
    by_popped : (o : Option (Item × FlatStack)) → IsSome o
        → IsSome (option_and_then (λ (popped : Item × FlatStack). taken_onto 0 popped.1 (popped.0 ∷ [])) o)
    by_popped (Some popped) q = refl
    by_popped None q = q

module _ (tables t : Tables) (w : World) (m k n : FlatStack) (d : DropsWith 0 m k) (back : held.set_locals (held.locals k) k ≡ k)
    (l : IsLiveStack t (reach_of w []) m) (wanted : Span) (below : HasValueBelow w.globals.items m 0 (Vals.Text wanted)) where
  left : (some : Tables) → IsLiveStack some (reach_of w []) m → IsLiveStack some (reach_of w []) k
  left some live = (live_taken some (reach_of w []) 1 m k (d.callee ∷ d.items) (drops_taken 0 m k d) live).rest

  taken : take_operands (arity Ops.TabMatch) m ≡ Some (d.callee ∷ [], k)
  taken = subst (λ (items : List Item). take_operands 1 m ≡ Some (d.callee ∷ items, k)) (none_more d.items d.many) (drops_taken 0 m k d)

  value : HasValue w.globals.items (held.locals k) d.callee (Vals.Text wanted)
  value =
      let cells : m.cells ≡ operands_above d.items (Operand d.callee ∷ k.cells) = ap (λ (x : FlatStack). x.cells) d.was in
      subst (λ (locals : List Val). HasValue w.globals.items locals d.callee (Vals.Text wanted)) d.locals_same (below d.callee d.items k.cells cells d.many)

  -- the row that it comes to
  matched : (found : Option ℕ) → found ≡ place_behind (text_in (extent_of w.heap) wanted) (subject_of w) w.pair.position
      → (st : Store Frames) → st.world ≡ world_of w → nat_lt st.turns st.world.heap.bounds.turns ≡ true
      → instruction_state (extent_of w.heap) tables (Instrs.Op Ops.TabMatch) m st
      ≡ outcome flat (thing_or_failure found tabs_to (setting_of st.outside w (held.locals k))) (stack_in (extent_of w.heap) k) (a_turn_later st)
  unfolding matches_text
  matched found is st same more =
      let all = extent_of w.heap in
      let after : Store Frames = a_turn_later st in
      let bytes : List ℕ = text_in all wanted in
      let s : Setting = setting_of after.outside w (held.locals k) in
      row_performed all tables Ops.TabMatch m k (d.callee ∷ []) st (λ e. cc) taken more
      ∙ ap (λ (o : Outcome). outcome flat o (stack_in all k) after)
      (value_is w k after d.callee (Vals.Text wanted) (λ (v : Value). string v (λ found. costs_text v (matches_text found))) same value
      ∙ ap (matches_text bytes) (here_is w k after after.outside same)
      ∙ by_test (stands bytes (subject_of w) w.pair.position (length (subject_of w) + 1)) (w.pair.position + length bytes) s
      ∙ ap (λ (o : Option ℕ). thing_or_failure o tabs_to s) (sym is))

  pub match_done : (v : World) (found : Option ℕ) (stage : RunState)
      → found ≡ place_behind (text_in (extent_of w.heap) wanted) (subject_of w) w.pair.position → MovesAs found w k v n stage
      → DoesAsTurn tables (Instrs.Op Ops.TabMatch) w m v n (done_at stage)
  match_done v (Some place) stage is moved =
      subst (λ (s : RunState). DoesAsTurn tables (Instrs.Op Ops.TabMatch) w m v n (done_at s)) (sym moved.0)
      (does_row w v k n (moved_outcome moved.1.text w.pair.position) RunStates.Running t (left t l) back (continues_moved w v moved.1)
      (move_of w v moved.1) moved.1.gives tables (Instrs.Op Ops.TabMatch) m (λ names s. tabs_to place s) (left tables) (matched (Some place) is)
      (λ names outside. moved.1.comes outside (held.locals k)))
  match_done v None stage is moved =
      subst (λ (s : RunState). DoesAsTurn tables (Instrs.Op Ops.TabMatch) w m v n (done_at s)) (sym moved.0)
      (subst (λ (u : World). DoesAsTurn tables (Instrs.Op Ops.TabMatch) w m u n (done_at RunStates.Failing)) (sym moved.1.1)
      (subst (λ (x : FlatStack). DoesAsTurn tables (Instrs.Op Ops.TabMatch) w m w x (done_at RunStates.Failing)) (sym moved.1.0)
      (does_row w w k k Outcomes.Fails RunStates.Failing t (left t l) back (continues_refl w) (failure_of w) (fails_so w k) tables
      (Instrs.Op Ops.TabMatch) m (λ names s. thing_or_failure None tabs_to s) (left tables) (matched None is) (λ names outside. refl))))

  -- a scan of the text is opened
  pub opens_so : (v : World)
      → ((st : Store Frames) → st.world ≡ world_of w
      → RunsWith (scan_opened flat (Text (text_in (extent_of w.heap) wanted)) (stack_in (extent_of w.heap) k) st) st v n)
      → ((some : Tables) → IsLiveStack some (reach_of w []) k → IsLiveStack some (reach_of v []) n) → KeepsHeap w v → OpensSo w m v n
  opens_so v opened live same =
      let val : Val = Vals.Text wanted in
      let finds : FindsItem w k d.callee (Ok val) = λ st e. found_there w k st d.callee val e value in
      let made : MakesValue (text_row (value_in (extent_of w.heap) val)) w k w (Ok val)
      = text_result t w w k val (Ok wanted) (keeps_items_refl (reach_of w (held.locals k))) (left t l) back (λ setting next. refl) (λ outside next. refl)
      refl in
      record {
        step = λ some st e. bscan_runs w w v m k k n d.callee val wanted (popped_top m k d.callee taken) finds made refl opened some st e;
        live = λ some whole. live some (left some whole);
        same = same;
      }
