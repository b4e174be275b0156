-- What stays of the world where a cell changes in its place.
use Rattle.std.proofs.Common.{◌≡◌, ℕ, zero, suc, ◌-◌, ◌<◌, ◌≤◌, true, false, List, [], ◌∷◌, length, drop, slice_get, slice_set, Option, Some, None, is_none, refl, sym, ap, ◌∙◌, subst, arith}
use Rattle.std.proofs.lemmas.Option.{same_Some}
use Rattle.std.proofs.lemmas.List.{length-set}
use Rattle.icn_frames.specs.Heights.{cell_at, cut, set_cell}
use Rattle.icn_value.specs.declared.item.Item.{Item}
use Rattle.icn_value.specs.declared.item.Pair.{Pair}
use Rattle.icn_vars.specs.Worlds.{Reach, IsLiveItem}
use Rattle.icn_frames.specs.declared.layout.Registers.{Registers}
use Rattle.icn_frames.specs.declared.layout.Cell.{Cell}
use Rattle.icn_frames.specs.declared.layout.Cell.TheVariants.{Base, Call, Local, Mark, Limit, Suspension, Operand}
use Rattle.icn_frames.specs.Stacks.{FlatStack, locals_of, relabel, relabel_at, count_down, count_down_at, unmark, unmark_from, oldest, pair_of, pair_at, below, below_in, pop, push, suspend_mark, given_to}
use Rattle.icn_code.specs.Codes.{Tables}
use Rattle.icn_control.specs.LiveStacks.{with_locals, MaybeLivePair, IsLiveWhy, IsFrame, locals_at, IsMarkOf, IsRooted, AreLive, IsLiveStack}
use Rattle.icn_control.proofs.LiveCells.{live_cut, live_pair}
use Rattle.icn_control.proofs.LiveCalls.{own_locals, UnmarksLive, mark_is, outside_owner, live_pop, live_push, live_given}

-- a cell that may stand in the place of another
pub record Replaces (t : Tables) (reach : Reach) (old new : Cell) : Type 0 where
  pub live : (n : ℕ) (s : List Cell) → AreLive t reach n (old ∷ s) → AreLive t reach n (new ∷ s)
  pub locals : locals_of (Some new) ≡ locals_of (Some old)
  pub frame : IsFrame (Some old) → IsFrame (Some new)
  pub mark : (base : ℕ) → IsMarkOf base (Some old) → IsMarkOf base (Some new)

get_set : (P : Option Cell → Type 0) (s : List Cell) (i j : ℕ) (old new : Cell) → slice_get s i ≡ Some old → (P (Some old) → P (Some new)) → P (slice_get s j)
    → P (slice_get (slice_set s i new) j)
get_set P [] i j old new e f p = cc
get_set P (x ∷ s) zero zero old new e f p = f (subst P e p)
get_set P (x ∷ s) zero (suc j) old new e f p = p
get_set P (x ∷ s) (suc i) zero old new e f p = p
get_set P (x ∷ s) (suc i) (suc j) old new e f p = get_set P s i j old new e f p

at_set : (P : Option Cell → Type 0) (s : List Cell) (i h : ℕ) (old new : Cell) → slice_get s i ≡ Some old → (P (Some old) → P (Some new)) → P (cell_at h s)
    → P (cell_at h (slice_set s i new))
at_set P s i h old new e f p =
    subst (λ (n : ℕ). P (slice_get (slice_set s i new) (n - h))) (sym (length-set s i new)) (get_set P s i (length s - h) old new e f p)

rooted_set : (t : Tables) (reach : Reach) (s : List Cell) (i : ℕ) (old new : Cell) (r : Registers) → slice_get s i ≡ Some old → Replaces t reach old new
    → IsRooted r s → IsRooted r (slice_set s i new)
rooted_set t reach s i old new r e k q =
    let n : length (slice_set s i new) ≡ length s = length-set s i new in
    let within : r.base ≤ length (slice_set s i new) = omega (arith, n, q.within) in
    let mark_within : r.mark ≤ length (slice_set s i new) = omega (arith, n, q.mark_within) in
    record {
      within = within;
      frame = at_set IsFrame s i r.base old new e k.frame q.frame;
      mark_within = mark_within;
      mark = at_set (IsMarkOf r.base) s i r.mark old new e (k.mark r.base) q.mark;
    }

owner_set : (t : Tables) (reach : Reach) (s : List Cell) (i : ℕ) (old new : Cell) (r : Registers) → slice_get s i ≡ Some old → Replaces t reach old new
    → locals_at r s ≡ locals_at r (slice_set s i new)
owner_set t reach s i old new r e k =
    sym (at_set (λ (w : Option Cell). locals_of w ≡ locals_at r s) s i r.base old new e (λ (p : locals_of (Some old) ≡ locals_at r s). k.locals ∙ p) refl)

live_set : (t : Tables) (reach : Reach) (n i : ℕ) (s : List Cell) (old new : Cell) → slice_get s i ≡ Some old → Replaces t reach old new → AreLive t reach n s
    → AreLive t reach n (slice_set s i new)
live_set t reach n i [] old new e k l = cc
live_set t reach n zero (x ∷ s) old new e k l = k.live n s (subst (λ (w : Cell). AreLive t reach n (w ∷ s)) (same_Some _ _ e) l)
live_set t reach n (suc i) (Operand item ∷ s) old new e k l = (l.0, live_set t reach n i s old new e k l.1)
live_set t reach n (suc i) (Local value ∷ s) old new e k l = (l.0, live_set t reach n i s old new e k l.1)
live_set t reach n (suc i) (Base proc locals ∷ s) old new e k l = (l.0, live_set t reach 0 i s old new e k l.1)
live_set t reach n (suc i) (Call proc locals level r place ∷ s) old new e k l =
    let inner = live_set t reach (locals_at r s) i s old new e k l.1.1.1 in (
      l.0,
      (
        l.1.0,
        (rooted_set t reach s i old new r e k l.1.1.0, subst (λ (c : ℕ). AreLive t reach c (slice_set s i new)) (owner_set t reach s i old new r e k) inner),
      ),
    )
live_set t reach n (suc i) (Mark label changed r ∷ s) old new e k l =
    let inner = live_set t reach (locals_at r s) i s old new e k l.1 in
    (rooted_set t reach s i old new r e k l.0, subst (λ (c : ℕ). AreLive t reach c (slice_set s i new)) (owner_set t reach s i old new r e k) inner)
live_set t reach n (suc i) (Limit count r ∷ s) old new e k l =
    let inner = live_set t reach (locals_at r s) i s old new e k l.1.1 in
    (l.0, (rooted_set t reach s i old new r e k l.1.0, subst (λ (c : ℕ). AreLive t reach c (slice_set s i new)) (owner_set t reach s i old new r e k) inner))
live_set t reach n (suc i) (Suspension why r place ∷ s) old new e k l =
    let inner = live_set t reach (locals_at r s) i s old new e k l.1.1 in
    let same = owner_set t reach s i old new r e k in (
      subst (λ (c : ℕ). IsLiveWhy (with_locals c reach) why) same l.0,
      (rooted_set t reach s i old new r e k l.1.0, subst (λ (c : ℕ). AreLive t reach c (slice_set s i new)) same inner),
    )

pub live_replace : (t : Tables) (reach : Reach) (m : FlatStack) (h : ℕ) (old new : Cell) → cell_at h m.cells ≡ Some old → Replaces t reach old new
    → IsLiveStack t reach m → IsLiveStack t reach (record m { cells = set_cell h new m.cells })
live_replace t reach m h old new e k l =
    let i : ℕ = length m.cells - h in
    record {
      root = rooted_set t reach m.cells i old new m.registers e k l.root;
      cells = subst (λ (c : ℕ). AreLive t reach c (slice_set m.cells i new)) (owner_set t reach m.cells i old new m.registers e k)
          (live_set t reach (own_locals m) i m.cells old new e k l.cells);
    }

pub owner_replace : (t : Tables) (reach : Reach) (m : FlatStack) (h : ℕ) (old new : Cell) → cell_at h m.cells ≡ Some old → Replaces t reach old new
    → locals_at m.registers (set_cell h new m.cells) ≡ own_locals m
owner_replace t reach m h old new e k = sym (owner_set t reach m.cells (length m.cells - h) old new m.registers e k)

-- Labels and counts

pub live_relabel : (t : Tables) (reach : Reach) (m n : FlatStack) (label : ℕ) → relabel label m ≡ Some n → IsLiveStack t reach m → IsLiveStack t reach n
live_relabel t reach m n label e k = by_cell (cell_at m.registers.mark m.cells) refl e
  where
    by_cell : (cell : Option Cell) → cell_at m.registers.mark m.cells ≡ cell → relabel_at label m cell ≡ Some n → IsLiveStack t reach n
    by_cell (Some (Mark old changed r)) c q =
        let other : Cell = Mark (Some label) true r in
        let f : Replaces t reach (Mark old changed r) other = record { live = λ w s l. l; locals = refl; frame = λ w. w; mark = λ base w. w } in
        subst (λ (w : FlatStack). IsLiveStack t reach w) (same_Some _ _ q) (live_replace t reach m m.registers.mark (Mark old changed r) other c f k)
    by_cell None c q = cc
    by_cell (Some (Base proc locals)) c q = cc
    by_cell (Some (Call proc locals level r place)) c q = cc
    by_cell (Some (Local value)) c q = cc
    by_cell (Some (Limit count r)) c q = cc
    by_cell (Some (Suspension why r place)) c q = cc
    by_cell (Some (Operand item)) c q = cc

-- a count that stays above 0, with the stack on which it is one lower
pub record CountsLive (t : Tables) (reach : Reach) (before count : ℕ) (n : FlatStack) : Type 0 where
  pub rest : 0 < count → IsLiveStack t reach n
  pub same : 0 < count → own_locals n ≡ before

pub live_count : (t : Tables) (reach : Reach) (m n : FlatStack) (count : ℕ) → count_down m ≡ Some (count, n) → IsLiveStack t reach m
    → CountsLive t reach (own_locals m) count n
live_count t reach m n count e k = by_cell (cell_at m.registers.mark m.cells) refl e
  where
    made : (c : ℕ) (r : Registers) → cell_at m.registers.mark m.cells ≡ Some (Limit (suc c) r)
        → CountsLive t reach (own_locals m) c (record m { cells = set_cell m.registers.mark (Limit c r) m.cells })
    made c r at =
        let f : 0 < c
        → Replaces t reach (Limit (suc c) r) (Limit c r) = λ p. record { live = λ w s l. (p, l.1); locals = refl; frame = λ w. w; mark = λ base w. w } in
        record {
          rest = λ p. live_replace t reach m m.registers.mark (Limit (suc c) r) (Limit c r) at (f p) k;
          same = λ p. sym (owner_set t reach m.cells (length m.cells - m.registers.mark) (Limit (suc c) r) (Limit c r) m.registers at (f p));
        }

    by_cell : (cell : Option Cell) → cell_at m.registers.mark m.cells ≡ cell → count_down_at m cell ≡ Some (count, n)
        → CountsLive t reach (own_locals m) count n
    by_cell (Some (Limit (suc c) r)) at q = subst (λ (w : ℕ × FlatStack). CountsLive t reach (own_locals m) w.0 w.1) (same_Some _ _ q) (made c r at)
    by_cell (Some (Limit zero r)) at q = cc
    by_cell None at q = cc
    by_cell (Some (Base proc locals)) at q = cc
    by_cell (Some (Call proc locals level r place)) at q = cc
    by_cell (Some (Local value)) at q = cc
    by_cell (Some (Mark label changed r)) at q = cc
    by_cell (Some (Suspension why r place)) at q = cc
    by_cell (Some (Operand item)) at q = cc

-- The mark of a limit is dropped as its count comes to 0.

drop_get : (s : List Cell) (i : ℕ) (x : Cell) → slice_get s i ≡ Some x → drop i s ≡ x ∷ drop (suc i) s
drop_get [] i x e = cc
drop_get (y ∷ s) zero x e = ap (λ (w : Cell). w ∷ s) (same_Some _ _ e)
drop_get (y ∷ s) (suc i) x e = drop_get s i x e

drop_set : (s : List Cell) (i : ℕ) (old new : Cell) → slice_get s i ≡ Some old → drop i (slice_set s i new) ≡ new ∷ drop (suc i) s
drop_set [] i old new e = cc
drop_set (y ∷ s) zero old new e = refl
drop_set (y ∷ s) (suc i) old new e = drop_set s i old new e

cut_set : (s : List Cell) (h : ℕ) (old new : Cell) → cell_at h s ≡ Some old → cut h (set_cell h new s) ≡ new ∷ drop (suc (length s - h)) s
cut_set s h old new e =
    ap (λ (n : ℕ). drop (n - h) (set_cell h new s)) (length-set s (length s - h) new) ∙ drop_set s (length s - h) old new e

pair_set : (t : Tables) (reach : Reach) (m : FlatStack) (c : ℕ) (r : Registers) (height : Option ℕ) → cell_at m.registers.mark m.cells ≡ Some (Limit (suc c) r)
    → IsLiveStack t reach m
    → MaybeLivePair reach.extent (pair_at (set_cell m.registers.mark (Limit c r) m.cells) height)
pair_set t reach m c r None at k = tt
pair_set t reach m c r (Some h) at k =
    at_set (λ (w : Option Cell). MaybeLivePair reach.extent (pair_of w)) m.cells (length m.cells - m.registers.mark) h (Limit (suc c) r) (Limit c r) at (λ q. q)
    (live_pair t reach (own_locals m) (length m.cells - h) m.cells k.cells)

pub live_last : (t : Tables) (reach : Reach) (m l n : FlatStack) (count : ℕ) (pair : Option Pair) → count_down m ≡ Some (count, l) → unmark l ≡ Some (n, pair)
    → IsLiveStack t reach m → UnmarksLive t reach (own_locals m) n pair
live_last t reach m l n count pair e u k = by_cell (cell_at m.registers.mark m.cells) refl e
  where
    made : (c : ℕ) (r : Registers) → cell_at m.registers.mark m.cells ≡ Some (Limit (suc c) r)
        → unmark (record m { cells = set_cell m.registers.mark (Limit c r) m.cells }) ≡ Some (n, pair)
        → UnmarksLive t reach (own_locals m) n pair
    made c r at v =
        let i : ℕ = length m.cells - m.registers.mark in
        let after : FlatStack = record m { cells = set_cell m.registers.mark (Limit c r) m.cells } in
        let under : List Cell = drop (suc i) m.cells in
        let here : cut m.registers.mark m.cells ≡ Limit (suc c) r ∷ under = drop_get m.cells i (Limit (suc c) r) at in
        let there : unmark after
        ≡ unmark_from after (Limit c r ∷ under) = ap (unmark_from after) (cut_set m.cells m.registers.mark (Limit (suc c) r) (Limit c r) at) in
        let w = live_cut t reach i (own_locals m) m.cells (Limit (suc c) r) under here k.cells in
        let result : UnmarksLive t reach (own_locals m) (record after { cells = under; registers = r }) (pair_at after.cells (oldest r.scan after)) = record {
          rest = record { root = w.1.1.0; cells = w.1.1.1 };
          pair_live = pair_set t reach m c r (oldest r.scan after) at k;
          same = outside_owner m (Limit (suc c) r) under r here w.1.1.0 (mark_is m (Limit (suc c) r) under k.root here);
        } in
        subst (λ (q : FlatStack × Option Pair). UnmarksLive t reach (own_locals m) q.0 q.1) (same_Some _ _ (sym there ∙ v)) result

    by_cell : (cell : Option Cell) → cell_at m.registers.mark m.cells ≡ cell → count_down_at m cell ≡ Some (count, l)
        → UnmarksLive t reach (own_locals m) n pair
    by_cell (Some (Limit (suc c) r)) at q =
        let same : record m { cells = set_cell m.registers.mark (Limit c r) m.cells } ≡ l = ap (λ (w : ℕ × FlatStack). w.1) (same_Some _ _ q) in
        made c r at (subst (λ (w : FlatStack). unmark w ≡ Some (n, pair)) (sym same) u)
    by_cell (Some (Limit zero r)) at q = cc
    by_cell None at q = cc
    by_cell (Some (Base proc locals)) at q = cc
    by_cell (Some (Call proc locals level r place)) at q = cc
    by_cell (Some (Local value)) at q = cc
    by_cell (Some (Mark label changed r)) at q = cc
    by_cell (Some (Suspension why r place)) at q = cc
    by_cell (Some (Operand item)) at q = cc

-- Results of a limited expression

pub live_more : (t : Tables) (reach : Reach) (m k l n : FlatStack) (item : Item) (count : ℕ) → pop m ≡ Some (item, k) → count_down k ≡ Some (count, l)
    → 0 < count → given_to (Some item) (suspend_mark l) ≡ Some n → IsLiveStack t reach m
    → IsLiveStack t reach n
live_more t reach m k l n item count e f p u live =
    let popped = live_pop t reach m k item e live in
    let counts = live_count t reach k l count f popped.rest in
    live_given t reach l n item u (counts.rest p) (subst (λ (c : ℕ). IsLiveItem (with_locals c reach) item) (sym (counts.same p)) popped.item_live)

pub live_last_result : (t : Tables) (reach : Reach) (m k l o n : FlatStack) (item : Item) (count : ℕ) (pair : Option Pair) → pop m ≡ Some (item, k)
    → count_down k ≡ Some (count, l) → unmark l ≡ Some (o, pair) → n ≡ push item o
    → IsLiveStack t reach m → UnmarksLive t reach (own_locals n) n pair
live_last_result t reach m k l o n item count pair e f u p live =
    let popped = live_pop t reach m k item e live in
    let left = live_last t reach k l o count pair f u popped.rest in
    let on : IsLiveStack t reach (push item o) = live_push t reach o item left.rest
    (subst (λ (c : ℕ). IsLiveItem (with_locals c reach) item) (sym left.same) popped.item_live) in
    record { rest = subst (λ (w : FlatStack). IsLiveStack t reach w) (sym p) on; pair_live = left.pair_live; same = refl }

-- The operand below a mark that is no frame is of the activation that runs.

pub live_below : (t : Tables) (reach : Reach) (m : FlatStack) (item : Item) → below m ≡ Some item → is_none (unmark m) ≡ false → IsLiveStack t reach m
    → IsLiveItem (with_locals (own_locals m) reach) item
live_below t reach m item e d k = by_cells (cut m.registers.mark m.cells) refl e d
  where
    made : (x : Cell) (under : List Cell) (r : Registers) → cut m.registers.mark m.cells ≡ x ∷ under → IsRooted r under
        → AreLive t reach (locals_at r under) under → r.base ≡ m.registers.base → below_in (x ∷ under) ≡ Some item
        → IsLiveItem (with_locals (own_locals m) reach) item
    made x (Operand y ∷ s) r c root cells same q =
        let there : IsLiveItem (with_locals (own_locals m) reach) y = subst (λ (n : ℕ). IsLiveItem (with_locals n reach) y)
        (outside_owner m x (Operand y ∷ s) r c root same) cells.0 in
        subst (λ (w : Item). IsLiveItem (with_locals (own_locals m) reach) w) (same_Some _ _ q) there
    made x [] r c root cells same q = cc
    made x (Local value ∷ s) r c root cells same q = cc
    made x (Base proc locals ∷ s) r c root cells same q = cc
    made x (Call proc locals level saved place ∷ s) r c root cells same q = cc
    made x (Mark label changed saved ∷ s) r c root cells same q = cc
    made x (Limit count saved ∷ s) r c root cells same q = cc
    made x (Suspension why saved place ∷ s) r c root cells same q = cc

    by_cells : (s : List Cell) → cut m.registers.mark m.cells ≡ s → below_in s ≡ Some item → is_none (unmark_from m s) ≡ false
        → IsLiveItem (with_locals (own_locals m) reach) item
    by_cells (Mark label changed r ∷ under) c q d =
        let l = live_cut t reach (length m.cells - m.registers.mark) (own_locals m) m.cells (Mark label changed r) under c k.cells in
        made (Mark label changed r) under r c l.1.0 l.1.1 (mark_is m (Mark label changed r) under k.root c) q
    by_cells (Limit count r ∷ under) c q d =
        let l = live_cut t reach (length m.cells - m.registers.mark) (own_locals m) m.cells (Limit count r) under c k.cells in
        made (Limit count r) under r c l.1.1.0 l.1.1.1 (mark_is m (Limit count r) under k.root c) q
    by_cells [] c q d = cc
    by_cells (Operand x ∷ under) c q d = cc
    by_cells (Local value ∷ under) c q d = cc
    by_cells (Base proc locals ∷ under) c q d = cc
    by_cells (Call proc locals level r place ∷ under) c q d = cc
    by_cells (Suspension why r place ∷ under) c q d = cc
