-- What stays of the world on a stack whose cells change.
use Rattle.std.proofs.Common.{◌≡◌, ℕ, zero, suc, ◌-◌, ◌≤◌, List, [], ◌∷◌, length, drop, slice_get, Option, Some, None, inl, inr, refl, sym, ap, ◌∙◌, subst, arith, length-drop}
use Rattle.std.proofs.lemmas.Bool.{cases_lt}
use Rattle.icn_frames.specs.Heights.{cell_at, cut}
use Rattle.icn_value.specs.declared.item.Item.{Item}
use Rattle.icn_vars.specs.Worlds.{Reach}
use Rattle.icn_frames.specs.declared.layout.Why.{Why}
use Rattle.icn_frames.specs.declared.layout.Why.TheVariants.{Alt, Op, Scan, Escan, Proc}
use Rattle.icn_frames.specs.declared.layout.Registers.{Registers}
use Rattle.icn_frames.specs.declared.layout.Cell.{Cell}
use Rattle.icn_frames.specs.declared.layout.Cell.TheVariants.{Base, Call, Local, Mark, Limit, Suspension, Operand}
use Rattle.icn_frames.specs.Stacks.{locals_of, copy_up, pair_of, pair_at}
use Rattle.icn_frames.proofs.SoundStacks.{cell_at_on, cell_at_top}
use Rattle.icn_code.specs.Codes.{Tables}
use Rattle.icn_control.specs.LiveStacks.{with_locals, MaybeLivePair, IsLiveWhy, IsFrame, locals_at, IsMarkOf, IsRooted, AreLive}

-- Where registers lead

pub rooted_on : (x : Cell) (s : List Cell) (r : Registers) → IsRooted r s → IsRooted r (x ∷ s)
rooted_on x s r k =
    let within : r.base ≤ suc (length s) = omega (arith, k.within) in
    let mark_within : r.mark ≤ suc (length s) = omega (arith, k.mark_within) in
    record {
      within = within;
      frame = subst IsFrame (sym (cell_at_on x s r.base k.within)) k.frame;
      mark_within = mark_within;
      mark = subst (IsMarkOf r.base) (sym (cell_at_on x s r.mark k.mark_within)) k.mark;
    }

pub owner_on : (x : Cell) (s : List Cell) (r : Registers) → IsRooted r s → locals_at r (x ∷ s) ≡ locals_at r s
owner_on x s r k = ap locals_of (cell_at_on x s r.base k.within)

-- at the top cell, or below it
top_or : (s : List Cell) (h : ℕ) (x : Cell) (P : Option Cell → Type 0) → h ≤ suc (length s) → P (cell_at h (x ∷ s)) → (P (Some x) → ⊥) → h ≤ length s
top_or s h x P p q absent = elim (cases_lt (length s) h) as (λ w. h ≤ length s) [
  | inl w ↦
      let e : h ≡ suc (length s) = omega arith in
      let at : cell_at h (x ∷ s) ≡ Some x = ap (λ (n : ℕ). cell_at n (x ∷ s)) e ∙ cell_at_top x s in
      absurd (absent (subst P at q))
  | inr w ↦ w
]

pub rooted_off : (item : Item) (s : List Cell) (r : Registers) → IsRooted r (Operand item ∷ s) → IsRooted r s
rooted_off item s r k =
    let within : r.base ≤ length s = top_or s r.base (Operand item) IsFrame k.within k.frame (λ w. w) in
    let mark_within : r.mark ≤ length s = top_or s r.mark (Operand item) (IsMarkOf r.base) k.mark_within k.mark (λ w. w) in
    record {
      within = within;
      frame = subst IsFrame (cell_at_on (Operand item) s r.base within) k.frame;
      mark_within = mark_within;
      mark = subst (IsMarkOf r.base) (cell_at_on (Operand item) s r.mark mark_within) k.mark;
    }

-- What is cut

pub dropped_short : (k : ℕ) (s : List Cell) (x : Cell) (below : List Cell) → drop k s ≡ x ∷ below → suc (length below) ≤ length s
dropped_short k s x below e =
    let n : length (drop k s) ≡ suc (length below) = ap length e in
    omega (arith, n, length-drop k s)

pub dropped_at : (k : ℕ) (s : List Cell) (x : Cell) (below : List Cell) (h : ℕ) → drop k s ≡ x ∷ below → h ≤ length below → cell_at h s ≡ cell_at h below
dropped_at zero s x below h e p = ap (λ (w : List Cell). cell_at h w) e ∙ cell_at_on x below h p
dropped_at (suc k) [] x below h e p = cc
dropped_at (suc k) (y ∷ s) x below h e p =
    let n : h ≤ length s = omega (arith, dropped_short k s x below e) in
    cell_at_on y s h n ∙ dropped_at k s x below h e p

pub rooted_above : (k : ℕ) (s : List Cell) (x : Cell) (below : List Cell) (r : Registers) → drop k s ≡ x ∷ below → IsRooted r below → IsRooted r s
rooted_above k s x below r e q =
    let short : suc (length below) ≤ length s = dropped_short k s x below e in
    let within : r.base ≤ length s = omega (arith, short, q.within) in
    let mark_within : r.mark ≤ length s = omega (arith, short, q.mark_within) in
    record {
      within = within;
      frame = subst IsFrame (sym (dropped_at k s x below r.base e q.within)) q.frame;
      mark_within = mark_within;
      mark = subst (IsMarkOf r.base) (sym (dropped_at k s x below r.mark e q.mark_within)) q.mark;
    }

pub owner_above : (k : ℕ) (s : List Cell) (x : Cell) (below : List Cell) (r : Registers) → drop k s ≡ x ∷ below → IsRooted r below
    → locals_at r s ≡ locals_at r below
owner_above k s x below r e q = ap locals_of (dropped_at k s x below r.base e q.within)

first_drop : (k : ℕ) (s : List Cell) → slice_get s k ≡ slice_get (drop k s) 0
first_drop zero s = refl
first_drop (suc k) [] = refl
first_drop (suc k) (x ∷ s) = first_drop k s

pub first_cut : (h : ℕ) (s : List Cell) (x : Cell) (below : List Cell) → cut h s ≡ x ∷ below → cell_at h s ≡ Some x
first_cut h s x below e = first_drop (length s - h) s ∙ ap (λ (w : List Cell). slice_get w 0) e

-- cells that are cut off leave cells of the world, for some number of locals
pub live_cut : (t : Tables) (reach : Reach) (k n : ℕ) (s : List Cell) (x : Cell) (below : List Cell) → drop k s ≡ x ∷ below → AreLive t reach n s
    → (other : ℕ) × AreLive t reach other (x ∷ below)
live_cut t reach zero n s x below e l = (n, subst (λ (w : List Cell). AreLive t reach n w) e l)
live_cut t reach (suc k) n [] x below e l = cc
live_cut t reach (suc k) n (Operand item ∷ s) x below e l = live_cut t reach k n s x below e l.1
live_cut t reach (suc k) n (Local value ∷ s) x below e l = live_cut t reach k n s x below e l.1
live_cut t reach (suc k) n (Base proc locals ∷ s) x below e l = live_cut t reach k 0 s x below e l.1
live_cut t reach (suc k) n (Call proc locals level r place ∷ s) x below e l = live_cut t reach k (locals_at r s) s x below e l.1.1.1
live_cut t reach (suc k) n (Mark label changed r ∷ s) x below e l = live_cut t reach k (locals_at r s) s x below e l.1
live_cut t reach (suc k) n (Limit count r ∷ s) x below e l = live_cut t reach k (locals_at r s) s x below e l.1.1
live_cut t reach (suc k) n (Suspension why r place ∷ s) x below e l = live_cut t reach k (locals_at r s) s x below e l.1.1

-- each saved pair is of the heap

why_pair : (reach : Reach) (why : Why) (r : Registers) (place : ℕ) → IsLiveWhy reach why → MaybeLivePair reach.extent (pair_of (Some (Suspension why r place)))
why_pair reach Alt r place l = tt
why_pair reach (Op residual) r place l = tt
why_pair reach (Scan pair) r place l = l
why_pair reach Escan r place l = tt
why_pair reach Proc r place l = tt

pub live_pair : (t : Tables) (reach : Reach) (n i : ℕ) (s : List Cell) → AreLive t reach n s → MaybeLivePair reach.extent (pair_of (slice_get s i))
live_pair t reach n i [] l = tt
live_pair t reach n zero (Operand item ∷ s) l = tt
live_pair t reach n zero (Local value ∷ s) l = tt
live_pair t reach n zero (Base proc locals ∷ s) l = tt
live_pair t reach n zero (Call proc locals level r place ∷ s) l = tt
live_pair t reach n zero (Mark label changed r ∷ s) l = tt
live_pair t reach n zero (Limit count r ∷ s) l = tt
live_pair t reach n zero (Suspension why r place ∷ s) l = why_pair (with_locals (locals_at r s) reach) why r place l.0
live_pair t reach n (suc i) (Operand item ∷ s) l = live_pair t reach n i s l.1
live_pair t reach n (suc i) (Local value ∷ s) l = live_pair t reach n i s l.1
live_pair t reach n (suc i) (Base proc locals ∷ s) l = live_pair t reach 0 i s l.1
live_pair t reach n (suc i) (Call proc locals level r place ∷ s) l = live_pair t reach (locals_at r s) i s l.1.1.1
live_pair t reach n (suc i) (Mark label changed r ∷ s) l = live_pair t reach (locals_at r s) i s l.1
live_pair t reach n (suc i) (Limit count r ∷ s) l = live_pair t reach (locals_at r s) i s l.1.1
live_pair t reach n (suc i) (Suspension why r place ∷ s) l = live_pair t reach (locals_at r s) i s l.1.1

pub live_pair_at : (t : Tables) (reach : Reach) (n : ℕ) (s : List Cell) (height : Option ℕ) → AreLive t reach n s
    → MaybeLivePair reach.extent (pair_at s height)
live_pair_at t reach n s None l = tt
live_pair_at t reach n s (Some h) l = live_pair t reach n (length s - h) s l

-- Operands that are copied

pub live_copy : (t : Tables) (reach : Reach) (n : ℕ) (s onto : List Cell) → AreLive t reach n s → AreLive t reach n onto → AreLive t reach n (copy_up s onto)
live_copy t reach n [] onto l m = m
live_copy t reach n (Operand item ∷ s) onto l m = (l.0, live_copy t reach n s onto l.1 m)
live_copy t reach n (Local value ∷ s) onto l m = m
live_copy t reach n (Base proc locals ∷ s) onto l m = m
live_copy t reach n (Call proc locals level r place ∷ s) onto l m = m
live_copy t reach n (Mark label changed r ∷ s) onto l m = m
live_copy t reach n (Limit count r ∷ s) onto l m = m
live_copy t reach n (Suspension why r place ∷ s) onto l m = m

pub rooted_copy : (s onto : List Cell) (r : Registers) → IsRooted r onto → IsRooted r (copy_up s onto)
rooted_copy [] onto r k = k
rooted_copy (Operand item ∷ s) onto r k = rooted_on (Operand item) (copy_up s onto) r (rooted_copy s onto r k)
rooted_copy (Local value ∷ s) onto r k = k
rooted_copy (Base proc locals ∷ s) onto r k = k
rooted_copy (Call proc locals level saved place ∷ s) onto r k = k
rooted_copy (Mark label changed saved ∷ s) onto r k = k
rooted_copy (Limit count saved ∷ s) onto r k = k
rooted_copy (Suspension why saved place ∷ s) onto r k = k

pub owner_copy : (s onto : List Cell) (r : Registers) → IsRooted r onto → locals_at r (copy_up s onto) ≡ locals_at r onto
owner_copy [] onto r k = refl
owner_copy (Operand item ∷ s) onto r k =
    owner_on (Operand item) (copy_up s onto) r (rooted_copy s onto r k) ∙ owner_copy s onto r k
owner_copy (Local value ∷ s) onto r k = refl
owner_copy (Base proc locals ∷ s) onto r k = refl
owner_copy (Call proc locals level saved place ∷ s) onto r k = refl
owner_copy (Mark label changed saved ∷ s) onto r k = refl
owner_copy (Limit count saved ∷ s) onto r k = refl
owner_copy (Suspension why saved place ∷ s) onto r k = refl
