-- What each call of a stack leaves is of the world.
use Rattle.std.proofs.Common.{◌≡◌, ℕ, suc, ◌-◌, ◌<◌, ◌≤◌, List, [], ◌∷◌, length, drop, Option, Some, None, IsSome, refl, sym, ap, ◌∙◌, subst, arith}
use Rattle.std.proofs.lemmas.Option.{same_Some}
use Rattle.icn_frames.specs.Heights.{cell_at, cut}
use Rattle.icn_value.specs.declared.item.Item.{Item}
use Rattle.icn_value.specs.declared.item.Item.TheVariants.{Val as HeldVal}
use Rattle.icn_value.specs.declared.val.Val.TheVariants.{Null}
use Rattle.icn_value.specs.declared.item.Pair.{Pair}
use Rattle.icn_vars.specs.Worlds.{Reach, IsLiveItem}
use Rattle.icn_frames.specs.declared.layout.Why.{Why}
use Rattle.icn_frames.specs.declared.layout.Why.TheVariants.{Alt}
use Rattle.icn_frames.specs.declared.layout.Registers.{Registers}
use Rattle.icn_frames.specs.declared.layout.Cell.{Cell}
use Rattle.icn_frames.specs.declared.layout.Cell.TheVariants.{Base, Call, Local, Mark, Limit, Suspension, Operand}
use Rattle.icn_frames.specs.Stacks.{FlatStack, locals_of, copy_up, push, pop, pop_from, open_either, suspend, suspend_onto, suspend_mark, suspend_mark_from, unmark, unmark_from, oldest, pair_at, go, given_to}
use Rattle.icn_frames.proofs.SoundStacks.{cell_at_top}
use Rattle.icn_code.specs.Codes.{Tables}
use Rattle.icn_control.specs.LiveStacks.{with_locals, MaybeLivePair, IsLiveWhy, locals_at, IsMarkOf, IsRooted, AreLive, IsLiveStack}
use Rattle.icn_control.proofs.LiveCells.{rooted_on, owner_on, rooted_off, rooted_above, owner_above, first_cut, live_cut, live_pair_at, live_copy, rooted_copy, owner_copy}

-- so many locals in the activation that runs
abbrev pub own_locals : FlatStack → ℕ
own_locals m = locals_at m.registers m.cells

-- another address leaves the stack of the world
pub live_go : (t : Tables) (reach : Reach) (m : FlatStack) (place : ℕ) → IsLiveStack t reach m → IsLiveStack t reach (go place m)
live_go t reach m place k = record { root = k.root; cells = k.cells }

-- an item of the world that is pushed leaves the stack of the world
pub live_push : (t : Tables) (reach : Reach) (m : FlatStack) (item : Item) → IsLiveStack t reach m → IsLiveItem (with_locals (own_locals m) reach) item
    → IsLiveStack t reach (push item m)
live_push t reach m item k i =
    let cells : AreLive t reach (own_locals m) (Operand item ∷ m.cells) = (i, k.cells) in
    record {
      root = rooted_on (Operand item) m.cells m.registers k.root;
      cells = subst (λ (n : ℕ). AreLive t reach n (Operand item ∷ m.cells)) (sym (owner_on (Operand item) m.cells m.registers k.root)) cells;
    }

pub null_live : {reach : Reach} → IsLiveItem reach (HeldVal Null)
null_live {reach} = record { live = record { live = tt } }

-- an operand that is taken, and what stands without it
pub record PopsLive (t : Tables) (reach : Reach) (item : Item) (n : FlatStack) : Type 0 where
  pub item_live : IsLiveItem (with_locals (own_locals n) reach) item
  pub rest : IsLiveStack t reach n

-- an operand that is taken off is of the world, and so is what is left
pub live_pop : (t : Tables) (reach : Reach) (m n : FlatStack) (item : Item) → pop m ≡ Some (item, n) → IsLiveStack t reach m → PopsLive t reach item n
live_pop t reach m n item e k = by_cells m.cells e k.root k.cells
  where
    by_cells : (s : List Cell) → pop_from m s ≡ Some (item, n) → IsRooted m.registers s → AreLive t reach (locals_at m.registers s) s → PopsLive t reach item n
    by_cells (Operand x ∷ s) q root l =
        let here : Item × FlatStack = (x, record m { cells = s }) in
        let there : Item × FlatStack = (item, n) in
        let p : here ≡ there = same_Some _ _ q in
        let inner : IsRooted m.registers s = rooted_off x s m.registers root in
        let cells : AreLive t reach (locals_at m.registers s) (Operand x ∷ s)
        = subst (λ (c : ℕ). AreLive t reach c (Operand x ∷ s)) (owner_on (Operand x) s m.registers inner) l in
        let rest : IsLiveStack t reach (record m { cells = s }) = record { root = inner; cells = cells.1 } in
        let both : PopsLive t reach x (record m { cells = s }) = record { item_live = cells.0; rest = rest } in
        subst (λ (w : Item × FlatStack). PopsLive t reach w.0 w.1) p both
    by_cells [] q root l = cc
    by_cells (Local value ∷ s) q root l = cc
    by_cells (Base proc locals ∷ s) q root l = cc
    by_cells (Call proc locals level r place ∷ s) q root l = cc
    by_cells (Mark label changed r ∷ s) q root l = cc
    by_cells (Limit count r ∷ s) q root l = cc
    by_cells (Suspension why r place ∷ s) q root l = cc

-- an operand that is dropped leaves a stack of the world
pub live_dropped : (t : Tables) (reach : Reach) (m n : FlatStack) → IsSome (pop m) → ((x : Item) (rest : FlatStack) → pop m ≡ Some (x, rest) → n ≡ rest)
    → IsLiveStack t reach m → IsLiveStack t reach n
live_dropped t reach m n there left k = by_popped (pop m) refl there
  where
    by_popped : (o : Option (Item × FlatStack)) → pop m ≡ o → IsSome o → IsLiveStack t reach n
    by_popped (Some popped) e q =
        subst (λ (x : FlatStack). IsLiveStack t reach x) (sym (left popped.0 popped.1 e)) (live_pop t reach m popped.1 popped.0 e k).rest
    by_popped None e q = cc

-- an operand that is taken and put back twice
pub live_twice : (t : Tables) (reach : Reach) (m n k l : FlatStack) (item : Item) → pop m ≡ Some (item, n) → k ≡ push item n → l ≡ push item k
    → IsLiveStack t reach m → IsLiveStack t reach l
live_twice t reach m n k l item e f h live =
    let popped = live_pop t reach m n item e live in
    let once : IsLiveStack t reach (push item n) = live_push t reach n item popped.rest popped.item_live in
    let same : own_locals (push item n) ≡ own_locals n = owner_on (Operand item) n.cells n.registers popped.rest.root in
    let again : IsLiveStack t reach (push item (push item n))
    = live_push t reach (push item n) item once (subst (λ (c : ℕ). IsLiveItem (with_locals c reach) item) (sym same) popped.item_live) in
    subst (λ (w : FlatStack). IsLiveStack t reach w) (sym (h ∙ ap (push item) f)) again

-- Marks

rooted_mark : (x : Cell) (m : FlatStack) → IsRooted m.registers m.cells → IsMarkOf m.registers.base (Some x)
    → IsRooted (record m.registers { mark = suc (length m.cells); newest = None }) (x ∷ m.cells)
rooted_mark x m k h =
    let on : IsRooted m.registers (x ∷ m.cells) = rooted_on x m.cells m.registers k in
    let top : suc (length m.cells) ≤ suc (length m.cells) = omega arith in
    record { within = on.within; frame = on.frame; mark_within = top; mark = subst (IsMarkOf m.registers.base) (sym (cell_at_top x m.cells)) h }

pub live_limit : (t : Tables) (reach : Reach) (m : FlatStack) (label : Option ℕ) (count : ℕ) → 0 < count → IsLiveStack t reach m
    → IsLiveStack t reach (open_either label (Some count) m)
live_limit t reach m label count p k = record { root = rooted_mark (Limit count m.registers) m k.root refl; cells = (p, (k.root, k.cells)) }

-- what is left where the innermost mark is dropped, with the pair that comes back
pub record UnmarksLive (t : Tables) (reach : Reach) (before : ℕ) (n : FlatStack) (pair : Option Pair) : Type 0 where
  pub rest : IsLiveStack t reach n
  pub pair_live : MaybeLivePair reach.extent pair
  pub same : own_locals n ≡ before

-- the registers outside a mark lead to the same activation
pub outside_owner : (m : FlatStack) (x : Cell) (below : List Cell) (r : Registers) → cut m.registers.mark m.cells ≡ x ∷ below → IsRooted r below
    → r.base ≡ m.registers.base → locals_at r below ≡ own_locals m
outside_owner m x below r e root same =
    sym (owner_above (length m.cells - m.registers.mark) m.cells x below r e root) ∙ ap (λ (b : ℕ). locals_of (cell_at b m.cells)) same

pub mark_is : (m : FlatStack) (x : Cell) (below : List Cell) → IsRooted m.registers m.cells → cut m.registers.mark m.cells ≡ x ∷ below
    → IsMarkOf m.registers.base (Some x)
mark_is m x below k e = subst (IsMarkOf m.registers.base) (first_cut m.registers.mark m.cells x below e) k.mark

-- leaving a mark leaves a stack of the world
pub live_unmark : (t : Tables) (reach : Reach) (m n : FlatStack) (pair : Option Pair) → unmark m ≡ Some (n, pair) → IsLiveStack t reach m
    → UnmarksLive t reach (own_locals m) n pair
live_unmark t reach m n pair e k = by_cells (cut m.registers.mark m.cells) refl e
  where
    made : (x : Cell) (below : List Cell) (r : Registers) → cut m.registers.mark m.cells ≡ x ∷ below → IsRooted r below
        → AreLive t reach (locals_at r below) below → r.base ≡ m.registers.base
        → UnmarksLive t reach (own_locals m) (record m { cells = below; registers = r }) (pair_at m.cells (oldest r.scan m))
    made x below r c root cells same = record {
      rest = record { root = root; cells = cells };
      pair_live = live_pair_at t reach (own_locals m) m.cells (oldest r.scan m) k.cells;
      same = outside_owner m x below r c root same;
    }

    by_cells : (s : List Cell) → cut m.registers.mark m.cells ≡ s → unmark_from m s ≡ Some (n, pair) → UnmarksLive t reach (own_locals m) n pair
    by_cells (Mark label changed r ∷ below) c q =
        let l = live_cut t reach (length m.cells - m.registers.mark) (own_locals m) m.cells (Mark label changed r) below c k.cells in
        subst (λ (w : FlatStack × Option Pair). UnmarksLive t reach (own_locals m) w.0 w.1) (same_Some _ _ q)
        (made (Mark label changed r) below r c l.1.0 l.1.1 (mark_is m (Mark label changed r) below k.root c))
    by_cells (Limit count r ∷ below) c q =
        let l = live_cut t reach (length m.cells - m.registers.mark) (own_locals m) m.cells (Limit count r) below c k.cells in
        subst (λ (w : FlatStack × Option Pair). UnmarksLive t reach (own_locals m) w.0 w.1) (same_Some _ _ q)
        (made (Limit count r) below r c l.1.1.0 l.1.1.1 (mark_is m (Limit count r) below k.root c))
    by_cells [] c q = cc
    by_cells (Operand item ∷ below) c q = cc
    by_cells (Local value ∷ below) c q = cc
    by_cells (Base proc locals ∷ below) c q = cc
    by_cells (Call proc locals level r place ∷ below) c q = cc
    by_cells (Suspension why r place ∷ below) c q = cc

-- Suspensions

-- suspending leaves a stack of the world
pub live_suspend : (t : Tables) (reach : Reach) (m : FlatStack) (why : Why) → IsLiveStack t reach m → IsLiveWhy (with_locals (own_locals m) reach) why
    → IsLiveStack t reach (suspend why m)
live_suspend t reach m why k w =
    let onto : List Cell = Suspension why m.registers m.address ∷ m.cells in
    let under : IsRooted m.registers onto = rooted_on (Suspension why m.registers m.address) m.cells m.registers k.root in
    let root : IsRooted m.registers (copy_up m.cells onto) = rooted_copy m.cells onto m.registers under in
    let same : own_locals m ≡ locals_at m.registers (copy_up m.cells onto)
    = sym (owner_copy m.cells onto m.registers under ∙ owner_on (Suspension why m.registers m.address) m.cells m.registers k.root) in
    let live : AreLive t reach (own_locals m) onto = (w, (k.root, k.cells)) in
    record {
      root = record { within = root.within; frame = root.frame; mark_within = root.mark_within; mark = root.mark };
      cells = subst (λ (n : ℕ). AreLive t reach n (copy_up m.cells onto)) same (live_copy t reach (own_locals m) m.cells onto k.cells live);
    }

pub suspend_owner : (m : FlatStack) (why : Why) → IsRooted m.registers m.cells → own_locals (suspend why m) ≡ own_locals m
suspend_owner m why k =
    let x : Cell = Suspension why m.registers m.address in
    owner_copy m.cells (x ∷ m.cells) m.registers (rooted_on x m.cells m.registers k) ∙ owner_on x m.cells m.registers k

-- what is left suspended with the operands of lower cells
pub record LeavesLive (t : Tables) (reach : Reach) (count : ℕ) (n : FlatStack) : Type 0 where
  pub rest : IsLiveStack t reach n
  pub same : own_locals n ≡ count

pub live_onto : (t : Tables) (reach : Reach) (m : FlatStack) (why : Why) (i : ℕ) (x : Cell) (below : List Cell) (r : Registers) (place : ℕ)
    → drop i m.cells ≡ x ∷ below → IsLiveStack t reach m
    → IsLiveWhy (with_locals (own_locals m) reach) why → IsRooted r below → AreLive t reach (locals_at r below) below
    → LeavesLive t reach (locals_at r below) (suspend_onto why m below r place)
live_onto t reach m why i x below r place c k w rooted cells =
    let onto : List Cell = Suspension why m.registers m.address ∷ m.cells in
    let above : IsRooted r m.cells = rooted_above i m.cells x below r c rooted in
    let under : IsRooted r onto = rooted_on (Suspension why m.registers m.address) m.cells r above in
    let root : IsRooted r (copy_up below onto) = rooted_copy below onto r under in
    let same : locals_at r (copy_up below onto) ≡ locals_at r below
    = owner_copy below onto r under ∙ owner_on (Suspension why m.registers m.address) m.cells r above ∙ owner_above i m.cells x below r c rooted in
    let live : AreLive t reach (locals_at r below) onto = (w, (k.root, k.cells)) in
    record {
      rest = record {
        root = record { within = root.within; frame = root.frame; mark_within = root.mark_within; mark = root.mark };
        cells = subst (λ (n : ℕ). AreLive t reach n (copy_up below onto)) (sym same) (live_copy t reach (locals_at r below) below onto cells live);
      };
      same = same;
    }

pub live_suspend_mark : (t : Tables) (reach : Reach) (m n : FlatStack) → suspend_mark m ≡ Some n → IsLiveStack t reach m → LeavesLive t reach (own_locals m) n
live_suspend_mark t reach m n e k = by_cells (cut m.registers.mark m.cells) refl e
  where
    made : (x : Cell) (below : List Cell) (r : Registers) → cut m.registers.mark m.cells ≡ x ∷ below → IsRooted r below
        → AreLive t reach (locals_at r below) below → r.base ≡ m.registers.base
        → LeavesLive t reach (own_locals m) (suspend_onto Alt m below r m.address)
    made x below r c root cells same =
        subst (λ (count : ℕ). LeavesLive t reach count (suspend_onto Alt m below r m.address)) (outside_owner m x below r c root same)
        (live_onto t reach m Alt (length m.cells - m.registers.mark) x below r m.address c k tt root cells)

    by_cells : (s : List Cell) → cut m.registers.mark m.cells ≡ s → suspend_mark_from m s ≡ Some n → LeavesLive t reach (own_locals m) n
    by_cells (Mark label changed r ∷ below) c q =
        let l = live_cut t reach (length m.cells - m.registers.mark) (own_locals m) m.cells (Mark label changed r) below c k.cells in
        subst (λ (w : FlatStack). LeavesLive t reach (own_locals m) w) (same_Some _ _ q)
        (made (Mark label changed r) below r c l.1.0 l.1.1 (mark_is m (Mark label changed r) below k.root c))
    by_cells (Limit count r ∷ below) c q =
        let l = live_cut t reach (length m.cells - m.registers.mark) (own_locals m) m.cells (Limit count r) below c k.cells in
        subst (λ (w : FlatStack). LeavesLive t reach (own_locals m) w) (same_Some _ _ q)
        (made (Limit count r) below r c l.1.1.0 l.1.1.1 (mark_is m (Limit count r) below k.root c))
    by_cells [] c q = cc
    by_cells (Operand item ∷ below) c q = cc
    by_cells (Local value ∷ below) c q = cc
    by_cells (Base proc locals ∷ below) c q = cc
    by_cells (Call proc locals level r place ∷ below) c q = cc
    by_cells (Suspension why r place ∷ below) c q = cc

-- a result is put where something is left suspended
pub given_split : (item : Item) (left : Option FlatStack) (n : FlatStack) → given_to (Some item) left ≡ Some n
    → (k : FlatStack) × ((left ≡ Some k) × (push item k ≡ n))
given_split item (Some k) n e = (k, (refl, same_Some _ _ e))
given_split item None n e = cc

-- a result is given where a mark is left suspended
pub live_given : (t : Tables) (reach : Reach) (m n : FlatStack) (item : Item) → given_to (Some item) (suspend_mark m) ≡ Some n → IsLiveStack t reach m
    → IsLiveItem (with_locals (own_locals m) reach) item → IsLiveStack t reach n
live_given t reach m n item e k i =
    let split = given_split item (suspend_mark m) n e in
    let left = live_suspend_mark t reach m split.0 split.1.0 k in
    let on : IsLiveStack t reach (push item split.0) = live_push t reach split.0 item left.rest
    (subst (λ (c : ℕ). IsLiveItem (with_locals c reach) item) (sym left.same) i) in
    subst (λ (w : FlatStack). IsLiveStack t reach w) split.1.1 on

-- taking an operand keeps the activation
pub pop_owner : (m n : FlatStack) (item : Item) → pop m ≡ Some (item, n) → IsRooted m.registers m.cells → own_locals m ≡ own_locals n
pop_owner m n item e k = by_cells m.cells e k
  where
    by_cells : (s : List Cell) → pop_from m s ≡ Some (item, n) → IsRooted m.registers s → locals_at m.registers s ≡ own_locals n
    by_cells (Operand x ∷ s) q root =
        owner_on (Operand x) s m.registers (rooted_off x s m.registers root) ∙ ap (λ (w : Item × FlatStack). own_locals w.1) (same_Some _ _ q)
    by_cells [] q root = cc
    by_cells (Local value ∷ s) q root = cc
    by_cells (Base proc locals ∷ s) q root = cc
    by_cells (Call proc locals level r place ∷ s) q root = cc
    by_cells (Mark label changed r ∷ s) q root = cc
    by_cells (Limit count r ∷ s) q root = cc
    by_cells (Suspension why r place ∷ s) q root = cc

pub live_esusp : (t : Tables) (reach : Reach) (m k n : FlatStack) (item : Item) → pop m ≡ Some (item, k) → given_to (Some item) (suspend_mark k) ≡ Some n
    → IsLiveStack t reach m → IsLiveStack t reach n
live_esusp t reach m k n item e f live =
    let popped = live_pop t reach m k item e live in
    live_given t reach k n item f popped.rest popped.item_live

-- the operand on top that is pushed once more leaves a stack of the world
pub live_once_more : (t : Tables) (reach : Reach) (m k n : FlatStack) (item : Item) → pop m ≡ Some (item, k) → n ≡ push item m → IsLiveStack t reach m
    → IsLiveStack t reach n
live_once_more t reach m k n item e p live =
    let popped = live_pop t reach m k item e live in
    subst (λ (x : FlatStack). IsLiveStack t reach x) (sym p)
    (live_push t reach m item live
    (subst (λ (c : ℕ). IsLiveItem (with_locals c reach) item) (sym (pop_owner m k item e live.root)) popped.item_live))
