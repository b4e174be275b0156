-- What an instruction that lacks nothing finds on its stack.
use Rattle.std.proofs.Common.{◌≡◌, ◌≢◌, ◌<◌, ℕ, zero, suc, Bool, true, false, ◌&&◌, not, if◌then◌else◌, List, [], ◌∷◌, length, ◌-◌, drop, map, slice_get, Option, Some, None, Ok, is_none, IsSome, IfSome, refl, sym, ap, ◌∙◌, subst, arith, eqb-true}
use Rattle.std.specs.Option.{option_map, option_and_then}
use Rattle.std.proofs.lemmas.Option.{same_Some, slice_get_within}
use Rattle.icn_frames.specs.Heights.{cut, cell_at}
use Rattle.icn_value.specs.declared.item.Item.{Item}
use Rattle.icn_value.specs.declared.val.Val.{Val}
use Rattle.icn_heap.specs.Extents.{Extent}
use Rattle.icn_heap.specs.Heaps.{extent_of}
use Rattle.icn_vars.specs.declared.world.World.{World}
use Rattle.icn_vars.specs.Worlds.{Reach, item_in}
use Rattle.icn_frames.specs.declared.layout.Registers.{Registers}
use Rattle.icn_frames.specs.declared.layout.Cell.{Cell}
use Rattle.icn_frames.specs.declared.layout.Cell.TheVariants.{Base, Call, Local, Mark, Limit, Suspension, Operand}
use Rattle.icn_frames.specs.Stacks as held
use Rattle.icn_frames.specs.Stacks.{FlatStack}
use Rattle.law_frames.specs.ReadStacks.{popped_read, unmarked_read, cell_read}
use Rattle.law_frames.proofs.CellsRead.{at_read}
use Rattle.law_frames.proofs.CallsRead.{pop_read, taken_pop, below_read, relabel_read, is_base_read}
use Rattle.law_frames.proofs.ScansRead.{suspend_mark_read, unmark_read}
use Rattle.icn_code.specs.declared.instr.Instr.TheVariants as Instrs
use Rattle.icn_code.specs.Codes.{Tables}
use Rattle.icn_run.specs.Rows as rows
use Rattle.icn_run.specs.Stacks as code
use Rattle.icn_run.specs.Stacks.{Frames, flat}
use Rattle.icn_run.specs.Step.{State, Store, stuck, on_pair, with_found, with_popped, with_taken, with_exchange, exhaust_active, here, is_main, pair_now, push_item, unmark_then}
use Rattle.icn_control.specs.LiveStacks.{IsFrame, IsRooted, IsLiveStack}
use Rattle.icn_control.specs.StackAndWorld.{FindsValue}
use Rattle.icn_control.specs.StackViews.{instruction_state, reading_of, stack_in}
use Rattle.icn_control.specs.TakenOperands.{take_operands, taken_onto}
use Rattle.icn_control.proofs.LiveCalls.{live_pop}
use Rattle.icn_control.proofs.LiveCells.{first_cut, live_cut}
use Rattle.icn_control.proofs.StackAndWorldSteps.{popped_value}
use Rattle.icn_control.proofs.ScanSteps.{pop_registers}
use Rattle.icn_control.proofs.StackSteps.{popped_runs}

-- Words

pub found_there : {A : Type 0} (o : Option A) (next : A → State Frames Frames) → with_found o next ≢ stuck → IsSome o
found_there (Some x) next d = refl
found_there None next d = absurd (d refl)

read_there : {A B : Type 0} (f : A → B) (o : Option A) → IsSome (option_map f o) → IsSome o
read_there f (Some x) h = refl
read_there f None h = h

there_as : {A : Type 0} (o p : Option A) → o ≡ p → IsSome o → IsSome p
there_as {A} o p e h = subst (λ (x : Option A). IsSome x) e h

pub if_some : {A : Type 0} (o : Option A) (P : A → Type 0) → ((x : A) → o ≡ Some x → P x) → IfSome o P
if_some (Some x) P h = h x refl
if_some None P h = tt

pub not_as : (s t : State Frames Frames) → s ≡ t → s ≢ stuck → t ≢ stuck
not_as s t e d = λ q. d (e ∙ q)

-- Operands

pub pop_there : (all : Extent) (m : FlatStack) (next : rows.Item → Frames → State Frames Frames) → with_popped flat (stack_in all m) next ≢ stuck
    → IsSome (held.pop m)
pop_there all m next d = read_there (popped_read (reading_of all)) (held.pop m)
    (there_as _ _ (pop_read (reading_of all) m) (found_there (flat.pop (stack_in all m)) (on_pair next) d))

pop_on : (all : Extent) (m k : FlatStack) (item : Item) (next : rows.Item → Frames → State Frames Frames) → held.pop m ≡ Some (item, k)
    → with_popped flat (stack_in all m) next ≢ stuck → next (item_in all item) (stack_in all k) ≢ stuck
pop_on all m k item next e d = not_as _ _ (popped_runs m k item e all next) d

-- what is taken from the top down, once it was done for one operand less
take_next : (all : Extent) (n : ℕ) (items : List Item)
    → ((m : FlatStack) (xs : List Item) → IsSome (code.take_top n (stack_in all m) (stack_in all m).cells (map (item_in all) xs)) → IsSome (taken_onto n m xs))
    → (o : Option (Item × FlatStack))
    → IsSome (option_and_then (λ (pair : rows.Item × Frames). code.take_top n pair.1 pair.1.cells (pair.0 ∷ map (item_in all) items))
    (option_map (popped_read (reading_of all)) o))
    → IsSome (option_and_then (λ (popped : Item × FlatStack). taken_onto n popped.1 (popped.0 ∷ items)) o)
take_next all n items h (Some popped) q = h popped.1 (popped.0 ∷ items) q
take_next all n items h None q = q

take_onto_there : (all : Extent) (n : ℕ) (m : FlatStack) (items : List Item)
    → IsSome (code.take_top n (stack_in all m) (stack_in all m).cells (map (item_in all) items)) → IsSome (taken_onto n m items)
take_onto_there all zero m items h = refl
take_onto_there all (suc n) m items h =
    take_next all n items (take_onto_there all n) (held.pop m)
    (there_as _ _ (taken_pop n (stack_in all m) (map (item_in all) items) ∙ ap
    (option_and_then (λ (pair : rows.Item × Frames). code.take_top n pair.1 pair.1.cells (pair.0 ∷ map (item_in all) items)))
    (pop_read (reading_of all) m)) h)

pub take_there : (all : Extent) (n : ℕ) (m : FlatStack) (next : List rows.Item → Frames → State Frames Frames)
    → with_taken flat n (stack_in all m) next ≢ stuck → IsSome (take_operands n m)
take_there all n m next d = take_onto_there all n m [] (found_there (flat.take n (stack_in all m)) (on_pair next) d)

pub one_there : (m : FlatStack) → IsSome (take_operands 1 m) → IsSome (held.pop m)
one_there m h = by_pop (held.pop m) h
  where
    by_pop : (o : Option (Item × FlatStack)) → IsSome (option_and_then (λ (popped : Item × FlatStack). taken_onto 0 popped.1 (popped.0 ∷ [])) o) → IsSome o
    by_pop (Some popped) q = refl
    by_pop None q = q

two_first : (o : Option (Item × FlatStack)) → IsSome (option_and_then (λ (popped : Item × FlatStack). taken_onto 1 popped.1 (popped.0 ∷ [])) o) → IsSome o
two_first (Some popped) h = refl
two_first None h = h

two_second : (o : Option (Item × FlatStack)) → IsSome (option_and_then (λ (popped : Item × FlatStack). taken_onto 1 popped.1 (popped.0 ∷ [])) o)
    → IfSome o (λ popped. IsSome (held.pop popped.1))
two_second None h = tt
two_second (Some popped) h = by_pop (held.pop popped.1) h
  where
    by_pop : (o : Option (Item × FlatStack)) → IsSome (option_and_then (λ (next : Item × FlatStack). taken_onto 0 next.1 (next.0 ∷ popped.0 ∷ [])) o) →
        IsSome o
    by_pop (Some next) q = refl
    by_pop None q = q

pub upper_there : (m : FlatStack) → IsSome (take_operands 2 m) → IsSome (held.pop m)
upper_there m h = two_first (held.pop m) h

pub lower_there : (m : FlatStack) → IsSome (take_operands 2 m) → IfSome (held.pop m) (λ popped. IsSome (held.pop popped.1))
lower_there m h = two_second (held.pop m) h

-- Marks

-- where the innermost mark is no frame
marked_off : (m : FlatStack) (x : Cell) → IsRooted m.registers m.cells → cell_at m.registers.mark m.cells ≡ Some x → (IsFrame (Some x) → ⊥)
    → held.at_base m ≡ false
marked_off m x r c d = by_test (held.at_base m) refl
  where
    by_test : (b : Bool) → held.at_base m ≡ b → held.at_base m ≡ false
    by_test false e = e
    by_test true e =
        let same : cell_at m.registers.base m.cells ≡ Some x = ap (λ (h : ℕ). cell_at h m.cells) (sym (eqb-true m.registers.mark m.registers.base e)) ∙ c in
        absurd (d (subst IsFrame same r.frame))

pub unmarks_off : (m : FlatStack) → IsRooted m.registers m.cells → IsSome (held.unmark m) → held.at_base m ≡ false
unmarks_off m r h = by_cells (cut m.registers.mark m.cells) refl h
  where
    by_cells : (s : List Cell) → cut m.registers.mark m.cells ≡ s → IsSome (held.unmark_from m s) → held.at_base m ≡ false
    by_cells (Mark label changed old ∷ below) c q = marked_off m (Mark label changed old) r (first_cut m.registers.mark m.cells _ below c) (λ f. f)
    by_cells (Limit count old ∷ below) c q = marked_off m (Limit count old) r (first_cut m.registers.mark m.cells _ below c) (λ f. f)
    by_cells [] c q = cc
    by_cells (Operand item ∷ below) c q = cc
    by_cells (Local value ∷ below) c q = cc
    by_cells (Base proc locals ∷ below) c q = cc
    by_cells (Call proc locals level old place ∷ below) c q = cc
    by_cells (Suspension why old place ∷ below) c q = cc

pub suspends_off : (m : FlatStack) → IsRooted m.registers m.cells → IsSome (held.suspend_mark m) → held.at_base m ≡ false
suspends_off m r h = by_cells (cut m.registers.mark m.cells) refl h
  where
    by_cells : (s : List Cell) → cut m.registers.mark m.cells ≡ s → IsSome (held.suspend_mark_from m s) → held.at_base m ≡ false
    by_cells (Mark label changed old ∷ below) c q = marked_off m (Mark label changed old) r (first_cut m.registers.mark m.cells _ below c) (λ f. f)
    by_cells (Limit count old ∷ below) c q = marked_off m (Limit count old) r (first_cut m.registers.mark m.cells _ below c) (λ f. f)
    by_cells [] c q = cc
    by_cells (Operand item ∷ below) c q = cc
    by_cells (Local value ∷ below) c q = cc
    by_cells (Base proc locals ∷ below) c q = cc
    by_cells (Call proc locals level old place ∷ below) c q = cc
    by_cells (Suspension why old place ∷ below) c q = cc

pub counts_off : (m : FlatStack) → IsRooted m.registers m.cells → IsSome (held.count_down m) → held.at_base m ≡ false
counts_off m r h = by_cell (cell_at m.registers.mark m.cells) refl h
  where
    by_cell : (o : Option Cell) → cell_at m.registers.mark m.cells ≡ o → IsSome (held.count_down_at m o) → held.at_base m ≡ false
    by_cell (Some (Limit (suc count) old)) c q = marked_off m (Limit (suc count) old) r c (λ f. f)
    by_cell (Some (Limit zero old)) c q = cc
    by_cell (Some (Mark label changed old)) c q = cc
    by_cell None c q = cc
    by_cell (Some (Operand item)) c q = cc
    by_cell (Some (Local value)) c q = cc
    by_cell (Some (Base proc locals)) c q = cc
    by_cell (Some (Call proc locals level old place)) c q = cc
    by_cell (Some (Suspension why old place)) c q = cc

-- a count is above 0

drop_get : (s : List Cell) (i : ℕ) (x : Cell) → slice_get s i ≡ Some x → drop i s ≡ x ∷ drop (suc i) s
drop_get [] i x e = cc
drop_get (y ∷ s) zero x e = ap (λ (w : Cell). w ∷ s) (same_Some _ _ e)
drop_get (y ∷ s) (suc i) x e = drop_get s i x e

counts_there : (t : Tables) (reach : Reach) (all : Extent) (m : FlatStack) → IsLiveStack t reach m → IsSome (flat.count_down (stack_in all m))
    → IsSome (held.count_down m)
counts_there t reach all m k h = by_cell (cell_at m.registers.mark m.cells) refl
    (there_as _ _ (ap (code.count_in (stack_in all m)) (at_read (reading_of all) m.registers.mark m.cells)) h)
  where
    none_left : (r : Registers) → cell_at m.registers.mark m.cells ≡ Some (Limit 0 r) → ⊥
    none_left r c =
        let i : ℕ = length m.cells - m.registers.mark in
        let there = live_cut t reach i _ m.cells (Limit 0 r) (drop (suc i) m.cells) (drop_get m.cells i (Limit 0 r) c) k.cells in
        absurd (omega (arith, there.1.0))

    by_cell : (o : Option Cell) → cell_at m.registers.mark m.cells ≡ o
        → IsSome (code.count_in (stack_in all m) (option_map (cell_read (reading_of all)) o)) → IsSome (held.count_down_at m o)
    by_cell (Some (Limit (suc count) r)) c q = refl
    by_cell (Some (Limit zero r)) c q = absurd (none_left r c)
    by_cell (Some (Mark label changed r)) c q = cc
    by_cell None c q = cc
    by_cell (Some (Operand item)) c q = cc
    by_cell (Some (Local value)) c q = cc
    by_cell (Some (Base proc locals)) c q = cc
    by_cell (Some (Call proc locals level r place)) c q = cc
    by_cell (Some (Suspension why r place)) c q = cc

-- Instructions

get_within : {A : Type 0} (xs : List A) (n : ℕ) → IsSome (slice_get xs n) → n < length xs
get_within {A} xs n h = by_entry (slice_get xs n) refl h
  where
    by_entry : (o : Option A) → slice_get xs n ≡ o → IsSome o → n < length xs
    by_entry (Some x) e q = slice_get_within xs n x e
    by_entry None e q = cc

pub string_lacks : (all : Extent) (tables : Tables) (m : FlatStack) (k : ℕ) (st : Store Frames) → instruction_state all tables (Instrs.Str k) m st ≢ stuck
    → k < length tables.strings
string_lacks all tables m k st d = get_within tables.strings k (found_there (slice_get tables.strings k) _ d)

pub unmark_lacks : (all : Extent) (tables : Tables) (reach : Reach) (m : FlatStack) (st : Store Frames) → IsLiveStack tables reach m
    → instruction_state all tables Instrs.Unmark m st ≢ stuck → held.at_base m ≡ false
unmark_lacks all tables reach m st k d = unmarks_off m k.root
    (read_there (unmarked_read (reading_of all)) (held.unmark m) (there_as _ _ (unmark_read (reading_of all) m)
    (found_there (flat.unmark (stack_in all m)) _ d)))

pub esusp_operand : (all : Extent) (tables : Tables) (m : FlatStack) (st : Store Frames) → instruction_state all tables Instrs.Esusp m st ≢ stuck
    → IsSome (held.pop m)
esusp_operand all tables m st d = pop_there all m _ d

pub esusp_mark : (all : Extent) (tables : Tables) (reach : Reach) (m : FlatStack) (st : Store Frames) → IsLiveStack tables reach m
    → instruction_state all tables Instrs.Esusp m st ≢ stuck → IfSome (held.pop m) (λ popped. held.at_base popped.1 ≡ false)
esusp_mark all tables reach m st k d =
    if_some (held.pop m) (λ popped. held.at_base popped.1 ≡ false)
    (λ popped e. suspends_off popped.1 (live_pop tables reach m popped.1 popped.0 e k).rest.root
    (read_there (stack_in all) (held.suspend_mark popped.1) (there_as _ _ (suspend_mark_read (reading_of all) popped.1)
    (found_there (flat.suspend_mark (stack_in all popped.1)) _ (pop_on all m popped.1 popped.0 _ e d)))))

pub lsusp_count : (all : Extent) (tables : Tables) (reach : Reach) (m : FlatStack) (st : Store Frames) → IsLiveStack tables reach m
    → instruction_state all tables Instrs.Lsusp m st ≢ stuck → IfSome (held.pop m) (λ popped. IsSome (held.count_down popped.1))
lsusp_count all tables reach m st k d =
    if_some (held.pop m) (λ popped. IsSome (held.count_down popped.1))
    (λ popped e. counts_there tables reach all popped.1 (live_pop tables reach m popped.1 popped.0 e k).rest
    (found_there (flat.count_down (stack_in all popped.1)) _ (pop_on all m popped.1 popped.0 _ e d)))

pub lsusp_mark : (all : Extent) (tables : Tables) (reach : Reach) (m : FlatStack) (st : Store Frames) → IsLiveStack tables reach m
    → instruction_state all tables Instrs.Lsusp m st ≢ stuck → IfSome (held.pop m) (λ popped. held.at_base popped.1 ≡ false)
lsusp_mark all tables reach m st k d =
    if_some (held.pop m) (λ popped. held.at_base popped.1 ≡ false)
    (λ popped e. let rest : IsLiveStack tables reach popped.1 = (live_pop tables reach m popped.1 popped.0 e k).rest in
    counts_off popped.1 rest.root
    (counts_there tables reach all popped.1 rest (found_there (flat.count_down (stack_in all popped.1)) _ (pop_on all m popped.1 popped.0 _ e d))))

pub chfail_lacks : (all : Extent) (tables : Tables) (m : FlatStack) (label : ℕ) (st : Store Frames)
    → instruction_state all tables (Instrs.Chfail label) m st ≢ stuck
    → IsSome (held.relabel label m)
chfail_lacks all tables m label st d = read_there (stack_in all) (held.relabel label m)
    (there_as _ _ (relabel_read (reading_of all) label m) (found_there (flat.relabel label (stack_in all m)) _ d))

pub ccase_operand : (all : Extent) (tables : Tables) (m : FlatStack) (st : Store Frames) → instruction_state all tables Instrs.Ccase m st ≢ stuck
    → IsSome (held.below m)
ccase_operand all tables m st d = read_there (item_in all) (held.below m)
    (there_as _ _ (below_read (reading_of all) m) (found_there (flat.below (stack_in all m)) _ d))

not_none : {A : Type 0} (o : Option A) → IsSome o → is_none o ≡ false
not_none (Some x) h = refl
not_none None h = cc

pub ccase_mark : (all : Extent) (m : FlatStack) → IsSome (code.unmark (stack_in all m)) → is_none (held.unmark m) ≡ false
ccase_mark all m h = not_none (held.unmark m) (read_there (unmarked_read (reading_of all)) (held.unmark m) (there_as _ _ (unmark_read (reading_of all) m) h))

-- the value that is given out comes before its mark is asked for
pub eret_operand : (all : Extent) (tables : Tables) (m : FlatStack) (st : Store Frames) → instruction_state all tables Instrs.Eret m st ≢ stuck
    → IsSome (held.pop m)
eret_operand all tables m st d = pop_there all m _ d

pub eret_mark : (w : World) (tables t : Tables) (reach : Reach) (m k : FlatStack) (item : Item) (val : Val) (st : Store Frames)
    → held.pop m ≡ Some (item, k) → IsLiveStack t reach m
    → FindsValue (extent_of w.heap) (item_in (extent_of w.heap) item) (here flat (stack_in (extent_of w.heap) k) st) (Ok val)
    → instruction_state (extent_of w.heap) tables Instrs.Eret m st ≢ stuck → held.at_base k ≡ false
eret_mark w tables t reach m k item val st e l h d =
    let all : Extent = extent_of w.heap in
    let found = not_as _ _ (popped_value w m k item val e st h (λ value a. unmark_then flat a st (push_item flat (rows.Val value)))) d in
    unmarks_off k (live_pop t reach m k item e l).rest.root
    (read_there (unmarked_read (reading_of all)) (held.unmark k) (there_as _ _ (unmark_read (reading_of all) k)
    (found_there (flat.unmark (stack_in all k)) _ found)))

exchanged_lacks : (all : Extent) (k : FlatStack) (next : Frames → Store Frames → State Frames Frames) (st : Store Frames) → k.registers.scan ≡ None
    → with_exchange (flat.swap_newest (pair_now st) (stack_in all k)) next st ≡ stuck
exchanged_lacks all k next st q = ap (λ (scan : Option ℕ). with_exchange (code.swap_at (pair_now st) (stack_in all k) scan) next st) q

pub escan_scan : (all : Extent) (tables : Tables) (m : FlatStack) (st : Store Frames) → instruction_state all tables Instrs.Escan m st ≢ stuck
    → IsSome m.registers.scan
escan_scan all tables m st d = by_pop (held.pop m) refl (pop_there all m _ d)
  where
    by_scan : (k : FlatStack) (item : Item) → held.pop m ≡ Some (item, k) → (scan : Option ℕ) → m.registers.scan ≡ scan → IsSome scan
    by_scan k item e (Some h) q = refl
    by_scan k item e None q =
        let gone : k.registers.scan ≡ None = ap (λ (r : Registers). r.scan) (sym (pop_registers m k item e)) ∙ q in
        absurd (pop_on all m k item _ e d (exchanged_lacks all k _ st gone))

    by_pop : (o : Option (Item × FlatStack)) → held.pop m ≡ o → IsSome o → IsSome m.registers.scan
    by_pop (Some popped) e h = by_scan popped.1 popped.0 e m.registers.scan refl
    by_pop None e h = cc

-- Create bodies

above_main : (n : ℕ) → not (is_main n) ≡ true → 0 < n
above_main zero e = cc
above_main (suc n) e = omega arith

body_is : (base : Bool) (active : ℕ) (given : State Frames Frames) → (if (base && not (is_main active)) then given else stuck) ≢ stuck
    → ((base ≡ true) × (0 < active)) × (given ≢ stuck)
body_is false active given d = absurd (d refl)
body_is true active given d = by_main (not (is_main active)) refl
  where
    F : Bool → State Frames Frames
    F x = if x then given else stuck

    by_main : (b : Bool) → not (is_main active) ≡ b → ((true ≡ true) × (0 < active)) × (given ≢ stuck)
    by_main true e = ((refl, above_main active e), λ q. d (ap F e ∙ q))
    by_main false e = absurd (d (ap F e))

pub coret_body : (all : Extent) (tables : Tables) (m : FlatStack) (st : Store Frames) → instruction_state all tables Instrs.Coret m st ≢ stuck
    → (held.is_base m ≡ true) × (0 < st.active)
coret_body all tables m st d = let is = (body_is (flat.is_base (stack_in all m)) st.active _ d).0 in (sym (is_base_read (reading_of all) m) ∙ is.0, is.1)

pub coret_operand : (all : Extent) (tables : Tables) (m : FlatStack) (st : Store Frames) → instruction_state all tables Instrs.Coret m st ≢ stuck
    → IsSome (held.pop m)
coret_operand all tables m st d = pop_there all m _ (body_is (flat.is_base (stack_in all m)) st.active _ d).1

pub cofail_body : (all : Extent) (tables : Tables) (m : FlatStack) (st : Store Frames) → instruction_state all tables Instrs.Cofail m st ≢ stuck
    → (held.is_base m ≡ true) × (0 < st.active)
cofail_body all tables m st d = let is = (body_is (flat.is_base (stack_in all m)) st.active _ d).0 in (sym (is_base_read (reading_of all) m) ∙ is.0, is.1)

-- a create body that fails is exhausted
pub cofail_is : (all : Extent) (tables : Tables) (m : FlatStack) (st : Store Frames) → held.is_base m ≡ true → 0 < st.active
    → instruction_state all tables Instrs.Cofail m st ≡ exhaust_active flat tables (stack_in all m) st
cofail_is all tables m st e p =
    let F : Bool → State Frames Frames = λ x. if x then exhaust_active flat tables (stack_in all m) st else stuck in
    ap (λ (x : Bool). F (x && not (is_main st.active))) (is_base_read (reading_of all) m ∙ e) ∙ ap F (not_main st.active p)
  where
    not_main : (n : ℕ) → 0 < n → (true && not (is_main n)) ≡ true
    not_main zero q = absurd (omega (arith, q))
    not_main (suc n) q = refl
