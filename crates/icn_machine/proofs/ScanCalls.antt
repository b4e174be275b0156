-- Functions of scanning that are called at once, as turns.
use Rattle.std.proofs.Common.{◌≡◌, ℕ, suc, ◌+◌, ◌≤◌, pos, List, [], ◌∷◌, length, Option, Some, None, IfSome, IsSome, refl, sym, ap, ◌∙◌, subst, arith}
use Rattle.std.specs.Option.{option_and_then}
use Rattle.icn_text.specs.declared.func.Func.{Func}
use Rattle.icn_value.specs.Members.{members_of}
use Rattle.icn_value.specs.Values as values
use Rattle.icn_value.specs.declared.cset.Cset.{Cset}
use Rattle.icn_value.specs.declared.item.Item.{Item}
use Rattle.icn_value.specs.declared.item.Item.TheVariants as Items
use Rattle.icn_value.specs.declared.residual.Residual.{Residual as HeldResidual}
use Rattle.icn_value.specs.declared.val.Span.{Span}
use Rattle.icn_value.specs.declared.val.Val.{Val}
use Rattle.icn_value.specs.declared.val.Val.TheVariants as Vals
use Rattle.icn_value.specs.Store.{Outside, Setting}
use Rattle.icn_defs.specs.Rows.{Row, Among, Found, suspends, thing_or_failure}
use Rattle.icn_defs.specs.Scanning.{gives_position}
use Rattle.icn_heap.specs.Extents.{Extent, IsText, text_in}
use Rattle.icn_heap.specs.declared.heap.Heap.{Heap as HeldHeap}
use Rattle.icn_heap.specs.Heaps.{extent_of, heap_of}
use Rattle.icn_vars.specs.declared.outcome.Outcome.{Outcome as HeldOutcome}
use Rattle.icn_vars.specs.declared.outcome.Outcome.TheVariants as Outcomes
use Rattle.icn_vars.specs.declared.outcome.ValueOutcome.{ValueOutcome}
use Rattle.icn_vars.specs.declared.world.World.{World}
use Rattle.icn_vars.specs.Outcomes.{IsLiveResidual, outcome_in, outcome_of}
use Rattle.icn_vars.specs.Worlds.{KeepsItems, Reach, field_counts, reach_of, setting_of}
use Rattle.icn_vars.proofs.KeptItems.{keeps_items_refl}
use Rattle.icn_frames.specs.CalledWith.{DropsWith}
use Rattle.icn_frames.specs.Stacks as held
use Rattle.icn_frames.specs.Stacks.{FlatStack}
use Rattle.icn_code.specs.Codes.{Tables}
use Rattle.icn_control.specs.LiveStacks.{IsLiveStack, with_locals}
use Rattle.icn_control.specs.TakenOperands.{take_operands, taken_onto}
use Rattle.icn_control.specs.declared.machine.RunState.{RunState}
use Rattle.icn_control.specs.declared.machine.RunState.TheVariants as RunStates
use Rattle.icn_control.proofs.TakenOperandSteps.{live_taken}
use Rattle.icn_scanfn.specs.InSubject.{gives_found, gives_member, subject_of}
use Rattle.icn_machine.specs.AnsweredAtOnce.{done_at}
use Rattle.icn_machine.specs.PlainFunctions.{CallsFunction, HasValueBelow, NamesFunction}
use Rattle.icn_machine.specs.PlainScans.{CallsTop, GivesSo, MovesAs, MovesSo, MovesTop, TestsTop, members_outcome, moved_outcome, occurrences_outcome, place_outcome}
use Rattle.icn_machine.specs.TurnsAtOnce.{CallsAsTurn}
use Rattle.icn_machine.proofs.GiveSteps.{fails_given}
use Rattle.icn_machine.proofs.PlainFunctionSteps.{all_before, drops_taken, none_before, one_more}
use Rattle.icn_machine.proofs.RowsAtOnce.{Continues, IsOf, calls_row}

-- where more operands are there, one is
pub one_taken : (n : ℕ) (m : FlatStack) → IsSome (take_operands (suc n) m) → IsSome (take_operands 1 m)
one_taken n m there = by_popped (held.pop m) refl there
  where
    by_popped : (o : Option (Item × FlatStack)) → held.pop m ≡ o
        → IsSome (option_and_then (λ (popped : Item × FlatStack). taken_onto n popped.1 (popped.0 ∷ [])) o) → IsSome (take_operands 1 m)
    by_popped (Some top) e q =
        subst (λ (o : Option (Item × FlatStack)). IsSome (option_and_then (λ (popped : Item × FlatStack). taken_onto 0 popped.1 (popped.0 ∷ [])) o))
        (sym e) refl
    by_popped None e q = cc

-- a call with one operand, whose value is this
pub with_one : (tables : Tables) (globals : List Val) (m : FlatStack) (func : Func) (v : Val) → NamesFunction tables globals m 1 func
    → HasValueBelow globals m 0 v → CallsFunction tables globals m 1 (v ∷ []) func
with_one tables globals m func v names below = record {
  names = names;
  given = all_before globals m 1 0 (v ∷ []) refl
      (one_more globals m 1 1 [] (v ∷ []) v (omega arith) (omega arith) (none_before globals m 1 [] refl) below refl);
}

pub continues_refl : (w : World) → Continues w w
continues_refl w = record { kept = keeps_items_refl (reach_of w []); counts = record { bounds = refl; coexps = refl } }

-- Outcomes

pub failure_of : (w : World) → IsOf w Outcomes.Fails
failure_of w = λ n. record { live = tt }

pub place_of : (w : World) (found : Option ℕ) → IsOf w (outcome_of (place_outcome found))
place_of w (Some place) = λ n. record { live = record { live = record { live = tt } } }
place_of w None = failure_of w

-- a place over a search
pub search_of : (w : World) (place : ℕ) (rest : HeldResidual) → ((n : ℕ) → IsLiveResidual (with_locals n (reach_of w [])) rest)
    → IsOf w (Outcomes.Suspends (Items.Val (Vals.Integer (pos place))) rest)
search_of w place rest live = λ n. record { live = (record { live = record { live = tt } }, live n) }

-- nothing is given
pub fails_so : (v : World) (k : FlatStack) → GivesSo v Outcomes.Fails k k RunStates.Failing
fails_so v k = record { gives = fails_given Outcomes.Fails k refl; live = λ t reach l o. l; named = λ names seen h o. h }

-- the same of an outcome by another name
pub so_given : (w : World) (k n : FlatStack) (stage : RunState) (a b : ValueOutcome) → a ≡ b → GivesSo w (outcome_of a) k n stage
    → GivesSo w (outcome_of b) k n stage
so_given w k n stage a b e h = subst (λ (x : ValueOutcome). GivesSo w (outcome_of x) k n stage) e h

placed : (all : Extent) (found : Option ℕ) (s : Setting) → thing_or_failure found gives_position s ≡ outcome_in all (outcome_of (place_outcome found)) s
placed all (Some place) s = refl
placed all None s = refl

-- a search for bytes of a cset in the subject
pub members_live : (w : World) (wanted : Cset) (found : Option ℕ) → IfSome found (λ place. 1 ≤ place) → w.pair.subject.len ≡ length (subject_of w)
    → IsOf w (members_outcome w wanted found)
members_live w wanted (Some place) low size =
    search_of w place _
    (λ n. let high : w.pair.subject.len + 1 ≤ length (subject_of w) + 1 = omega (arith, size) in
    record { live = record { of = w.sound.subject; low = low; high = high } })
members_live w wanted None low size = failure_of w

pub members_given : (w : World) (wanted : Cset) (found : Option ℕ) (s : Setting) → w.pair.subject.len ≡ length (subject_of w)
    → thing_or_failure found (gives_member (members_of wanted) (subject_of w)) s ≡ outcome_in (extent_of w.heap) (members_outcome w wanted found) s
members_given w wanted (Some place) s size =
    ap (λ (n : ℕ). suspends (values.Val (values.Integer (pos place))) (Among (members_of wanted) (subject_of w) place (n + 1)) s) (sym size)
members_given w wanted None s size = refl

-- a search for a text in the subject
pub occurrences_live : (w : World) (wanted : Span) (found : Option ℕ) → IsText (extent_of w.heap) wanted → IfSome found (λ place. 1 ≤ place)
    → w.pair.subject.len ≡ length (subject_of w) → IsOf w (occurrences_outcome w wanted found)
occurrences_live w wanted (Some place) text low size =
    search_of w place _
    (λ n. let high : w.pair.subject.len + 1 ≤ length (subject_of w) + 1 = omega (arith, size) in
    record { live = (text, record { of = w.sound.subject; low = low; high = high }) })
occurrences_live w wanted None text low size = failure_of w

pub occurrences_given : (w : World) (wanted : Span) (found : Option ℕ) (s : Setting) → w.pair.subject.len ≡ length (subject_of w)
    → thing_or_failure found (gives_found (text_in (extent_of w.heap) wanted) (subject_of w)) s
    ≡ outcome_in (extent_of w.heap) (occurrences_outcome w wanted found) s
occurrences_given w wanted (Some place) s size =
    ap (λ (n : ℕ). suspends (values.Val (values.Integer (pos place))) (Found (text_in (extent_of w.heap) wanted) (subject_of w) place (n + 1)) s) (sym size)
occurrences_given w wanted None s size = refl

-- Moves

-- a world of which the position alone has changed
reach_at : (w v : World) → v.heap ≡ w.heap → v.globals.items ≡ w.globals.items → v.statics.items ≡ w.statics.items → reach_of v [] ≡ reach_of w []
reach_at w v heap globals statics =
    let F : HeldHeap → ℕ → ℕ
    → Reach = λ x g t. record { extent = extent_of x; fields = field_counts (heap_of x); globals = g; statics = t; locals = 0 } in
    ap (λ (x : HeldHeap). F x (length v.globals.items) (length v.statics.items)) heap
    ∙ ap (λ (vs : List Val). F w.heap (length vs) (length v.statics.items)) globals
    ∙ ap (λ (vs : List Val). F w.heap (length w.globals.items) (length vs)) statics

pub continues_moved : (w v : World) {k n : FlatStack} {place : ℕ} → MovesSo place w k v n → Continues w v
continues_moved w v moved = record {
  kept = subst (λ (r : Reach). KeepsItems (reach_of w []) r) (sym (reach_at w v moved.heap moved.globals moved.statics)) (keeps_items_refl (reach_of w []));
  counts = record { bounds = ap (λ (x : HeldHeap). (heap_of x).bounds) moved.heap; coexps = ap (λ (x : HeldHeap). (heap_of x).coexps) moved.heap };
}

pub move_of : (w v : World) {k n : FlatStack} {place : ℕ} → (moved : MovesSo place w k v n) → IsOf v (moved_outcome moved.text w.pair.position)
move_of w v moved = λ count. record { live = (record { live = record { live = moved.live } }, record { live = w.sound.low }) }

-- Calls

module _ (tables t : Tables) (w : World) (m k n : FlatStack) (func : Func) (d : DropsWith 1 m k) (back : held.set_locals (held.locals k) k ≡ k)
    (l : IsLiveStack t (reach_of w []) m) (names : NamesFunction tables w.globals.items m 1 func) where
  left : IsLiveStack t (reach_of w []) k
  left = (live_taken t (reach_of w []) 2 m k (d.callee ∷ d.items) (drops_taken 1 m k d) l).rest

  -- a function that tests the subject
  pub tests_called : (found : Option ℕ) (stage : RunState) → TestsTop func w m found → GivesSo w (outcome_of (place_outcome found)) k n stage
      → CallsAsTurn tables 1 w m w n (done_at stage)
  tests_called found stage top given =
      calls_row w w k n (outcome_of (place_outcome found)) stage t left back (continues_refl w) (place_of w found) given tables 1 (top.value ∷ []) func m d
      (with_one tables w.globals.items m func top.value names top.below) l
      (λ all outside. top.comes all outside (held.locals k) ∙ placed (extent_of w.heap) found (setting_of outside w (held.locals k)))

  -- one that searches
  pub searches_called : (next : ℕ → Row) (found : Option ℕ) (stage : RunState) (oc : HeldOutcome) → CallsTop func next w m found → IsOf w oc
      → GivesSo w oc k n stage
      → ((outside : Outside) → thing_or_failure found next (setting_of outside w (held.locals k))
      ≡ outcome_in (extent_of w.heap) oc (setting_of outside w (held.locals k)))
      → CallsAsTurn tables 1 w m w n (done_at stage)
  searches_called next found stage oc top plain given comes =
      calls_row w w k n oc stage t left back (continues_refl w) plain given tables 1 (top.value ∷ []) func m d
      (with_one tables w.globals.items m func top.value names top.below) l
      (λ all outside. top.comes all outside (held.locals k) ∙ comes outside)

  -- one that moves
  pub moves_called : (v : World) (found : Option ℕ) (stage : RunState) → MovesTop func w m found → MovesAs found w k v n stage
      → CallsAsTurn tables 1 w m v n (done_at stage)
  moves_called v (Some place) stage top moved =
      subst (λ (s : RunState). CallsAsTurn tables 1 w m v n (done_at s)) (sym moved.0)
      (calls_row w v k n (moved_outcome moved.1.text w.pair.position) RunStates.Running t left back (continues_moved w v moved.1) (move_of w v moved.1)
      moved.1.gives tables 1 (top.value ∷ []) func m d
      (with_one tables w.globals.items m func top.value names top.below) l
      (λ all outside. top.comes all outside (held.locals k) ∙ moved.1.comes outside (held.locals k)))
  moves_called v None stage top moved =
      subst (λ (s : RunState). CallsAsTurn tables 1 w m v n (done_at s)) (sym moved.0)
      (subst (λ (u : World). CallsAsTurn tables 1 w m u n (done_at RunStates.Failing)) (sym moved.1.1)
      (subst (λ (x : FlatStack). CallsAsTurn tables 1 w m w x (done_at RunStates.Failing)) (sym moved.1.0)
      (calls_row w w k k Outcomes.Fails RunStates.Failing t left back (continues_refl w) (failure_of w) (fails_so w k) tables 1 (top.value ∷ []) func m d
      (with_one tables w.globals.items m func top.value names top.below) l
      (λ all outside. top.comes all outside (held.locals k)))))
