-- What resuming, scans and calls leave is of the world.
use Rattle.std.proofs.Common.{◌≡◌, ℕ, zero, suc, ◌-◌, ◌≤◌, Bool, true, false, List, [], ◌∷◌, length, slice_get, Option, Some, None, refl, sym, ap, subst, arith}
use Rattle.std.specs.Option.{option_and_then}
use Rattle.std.specs.List.{All}
use Rattle.std.proofs.lemmas.List.Elements.{All-head, All-tail}
use Rattle.std.proofs.lemmas.Option.{same_Some}
use Rattle.icn_frames.specs.Heights.{cell_at, cut, set_cell}
use Rattle.icn_value.specs.declared.val.Val.{Val}
use Rattle.icn_value.specs.declared.item.Pair.{Pair}
use Rattle.icn_heap.specs.Extents.{IsLive}
use Rattle.icn_vars.specs.Worlds.{Reach}
use Rattle.icn_frames.specs.declared.layout.Why.{Why}
use Rattle.icn_frames.specs.declared.layout.Why.TheVariants.{Alt, Op, Scan, Escan, Proc}
use Rattle.icn_frames.specs.declared.layout.Registers.{Registers}
use Rattle.icn_frames.specs.declared.layout.Cell.{Cell}
use Rattle.icn_frames.specs.declared.layout.Cell.TheVariants.{Base, Call, Local, Mark, Limit, Suspension, Operand}
use Rattle.icn_frames.specs.Stacks.{FlatStack, proc, proc_of, locals_of, level_of, put_above, begin, enter, leave, leave_from, level, resume, resume_from, swap_by, swap_at, with_pair, scan_chosen, pair_of, suspend_proc, suspend_proc_from, registers_at}
use Rattle.icn_frames.proofs.FrameBelow.{frame_at}
use Rattle.icn_code.specs.Codes.{Tables}
use Rattle.icn_control.specs.LiveStacks.{with_locals, IsLivePair, MaybeLivePair, IsLiveWhy, IsFrame, locals_at, IsMarkOf, IsRooted, AreLive, IsLiveStack, variable_count}
use Rattle.icn_control.proofs.LiveCells.{live_cut, live_pair}
use Rattle.icn_control.proofs.LiveCalls.{own_locals, live_onto}
use Rattle.icn_control.proofs.LiveSets.{Replaces, live_replace, owner_replace}

-- Resuming

pub record ResumesLive (t : Tables) (reach : Reach) (why : Why) (n : FlatStack) : Type 0 where
  pub why_live : IsLiveWhy (with_locals (own_locals n) reach) why
  pub rest : IsLiveStack t reach n

pub live_resume : (t : Tables) (reach : Reach) (m n : FlatStack) (why : Why) → resume m ≡ Some (why, n) → IsLiveStack t reach m → ResumesLive t reach why n
live_resume t reach m n why e k = by_height m.registers.newest e
  where
    by_cells : (h : ℕ) (s : List Cell) → cut h m.cells ≡ s → resume_from s ≡ Some (why, n) → ResumesLive t reach why n
    by_cells h (Suspension reason r place ∷ below) c q =
        let l = live_cut t reach (length m.cells - h) (own_locals m) m.cells (Suspension reason r place) below c k.cells in
        let made : ResumesLive t reach reason (record { cells = below; registers = r; address = place }) =
        record { why_live = l.1.0; rest = record { root = l.1.1.0; cells = l.1.1.1 } } in
        subst (λ (w : Why × FlatStack). ResumesLive t reach w.0 w.1) (same_Some _ _ q) made
    by_cells h [] c q = cc
    by_cells h (Operand item ∷ below) c q = cc
    by_cells h (Local value ∷ below) c q = cc
    by_cells h (Base proc locals ∷ below) c q = cc
    by_cells h (Call proc locals level r place ∷ below) c q = cc
    by_cells h (Mark label changed r ∷ below) c q = cc
    by_cells h (Limit count r ∷ below) c q = cc

    by_height : (newest : Option ℕ) → option_and_then (λ height. resume_from (cut height m.cells)) newest ≡ Some (why, n) → ResumesLive t reach why n
    by_height (Some h) q = by_cells h (cut h m.cells) refl q
    by_height None q = cc

-- Scans

pub record SwapsLive (t : Tables) (reach : Reach) (before : ℕ) (old : Pair) (n : FlatStack) : Type 0 where
  pub pair_live : IsLivePair reach.extent old
  pub rest : IsLiveStack t reach n
  pub same : own_locals n ≡ before

pub live_swap : (t : Tables) (reach : Reach) (m n : FlatStack) (oldest : Bool) (pair old : Pair) → swap_by oldest pair m ≡ Some (old, n)
    → IsLivePair reach.extent pair → IsLiveStack t reach m → SwapsLive t reach (own_locals m) old n
live_swap t reach m n oldest pair old e p k = by_choice oldest e
  where
    made : (h : ℕ) (was : Pair) (r : Registers) (place : ℕ) → cell_at h m.cells ≡ Some (Suspension (Scan was) r place)
        → SwapsLive t reach (own_locals m) was (record m { cells = set_cell h (Suspension (Scan pair) r place) m.cells })
    made h was r place at =
        let before : Cell = Suspension (Scan was) r place in
        let after : Cell = Suspension (Scan pair) r place in
        let f : Replaces t reach before after = record { live = λ w s l. (p, l.1); locals = refl; frame = λ w. w; mark = λ base w. w } in
        record {
          pair_live = subst (λ (w : Option Cell). MaybeLivePair reach.extent (pair_of w)) at
              (live_pair t reach (own_locals m) (length m.cells - h) m.cells k.cells);
          rest = live_replace t reach m h before after at f k;
          same = owner_replace t reach m h before after at f;
        }

    by_cell : (h : ℕ) (cell : Option Cell) → cell_at h m.cells ≡ cell → with_pair pair h m cell ≡ Some (old, n) → SwapsLive t reach (own_locals m) old n
    by_cell h (Some (Suspension (Scan was) r place)) at q =
        subst (λ (w : Pair × FlatStack). SwapsLive t reach (own_locals m) w.0 w.1) (same_Some _ _ q) (made h was r place at)
    by_cell h (Some (Suspension Alt r place)) at q = cc
    by_cell h (Some (Suspension (Op residual) r place)) at q = cc
    by_cell h (Some (Suspension Escan r place)) at q = cc
    by_cell h (Some (Suspension Proc r place)) at q = cc
    by_cell h None at q = cc
    by_cell h (Some (Base proc locals)) at q = cc
    by_cell h (Some (Call proc locals level r place)) at q = cc
    by_cell h (Some (Local value)) at q = cc
    by_cell h (Some (Mark label changed r)) at q = cc
    by_cell h (Some (Limit count r)) at q = cc
    by_cell h (Some (Operand item)) at q = cc

    by_scan : (scan : Option ℕ) → swap_at pair m scan ≡ Some (old, n) → SwapsLive t reach (own_locals m) old n
    by_scan (Some h) q = by_cell h (cell_at h m.cells) refl q
    by_scan None q = cc

    by_choice : (b : Bool) → swap_by b pair m ≡ Some (old, n) → SwapsLive t reach (own_locals m) old n
    by_choice true q = by_scan (scan_chosen true m) q
    by_choice false q = by_scan (scan_chosen false m) q

-- Calls

-- how many locals the activation that runs has is how many its procedure has
framed : (t : Tables) (reach : Reach) (n i : ℕ) (s : List Cell) → AreLive t reach n s → IsFrame (slice_get s i)
    → locals_of (slice_get s i) ≡ variable_count t (proc_of (slice_get s i))
framed t reach n i [] l f = absurd f
framed t reach n zero (Base proc locals ∷ s) l f = l.0
framed t reach n zero (Call proc locals level r place ∷ s) l f = l.0
framed t reach n zero (Operand item ∷ s) l f = absurd f
framed t reach n zero (Local value ∷ s) l f = absurd f
framed t reach n zero (Mark label changed r ∷ s) l f = absurd f
framed t reach n zero (Limit count r ∷ s) l f = absurd f
framed t reach n zero (Suspension why r place ∷ s) l f = absurd f
framed t reach n (suc i) (Operand item ∷ s) l f = framed t reach n i s l.1 f
framed t reach n (suc i) (Local value ∷ s) l f = framed t reach n i s l.1 f
framed t reach n (suc i) (Base proc locals ∷ s) l f = framed t reach 0 i s l.1 f
framed t reach n (suc i) (Call proc locals level r place ∷ s) l f = framed t reach (locals_at r s) i s l.1.1.1 f
framed t reach n (suc i) (Mark label changed r ∷ s) l f = framed t reach (locals_at r s) i s l.1 f
framed t reach n (suc i) (Limit count r ∷ s) l f = framed t reach (locals_at r s) i s l.1.1 f
framed t reach n (suc i) (Suspension why r place ∷ s) l f = framed t reach (locals_at r s) i s l.1.1 f

pub own_count : (t : Tables) (reach : Reach) (m : FlatStack) → IsLiveStack t reach m → own_locals m ≡ variable_count t (proc m)
own_count t reach m k = framed t reach (own_locals m) (length m.cells - m.registers.base) m.cells k.cells k.root.frame

-- a call is not deeper than 32 bits count
leveled : (t : Tables) (reach : Reach) (n i : ℕ) (s : List Cell) → AreLive t reach n s → IsFrame (slice_get s i) → level_of (slice_get s i) ≤ 4294967295
leveled t reach n i [] l f = absurd f
leveled t reach n zero (Base proc locals ∷ s) l f = omega arith
leveled t reach n zero (Call proc locals level r place ∷ s) l f = l.1.0
leveled t reach n zero (Operand item ∷ s) l f = absurd f
leveled t reach n zero (Local value ∷ s) l f = absurd f
leveled t reach n zero (Mark label changed r ∷ s) l f = absurd f
leveled t reach n zero (Limit count r ∷ s) l f = absurd f
leveled t reach n zero (Suspension why r place ∷ s) l f = absurd f
leveled t reach n (suc i) (Operand item ∷ s) l f = leveled t reach n i s l.1 f
leveled t reach n (suc i) (Local value ∷ s) l f = leveled t reach n i s l.1 f
leveled t reach n (suc i) (Base proc locals ∷ s) l f = leveled t reach 0 i s l.1 f
leveled t reach n (suc i) (Call proc locals level r place ∷ s) l f = leveled t reach (locals_at r s) i s l.1.1.1 f
leveled t reach n (suc i) (Mark label changed r ∷ s) l f = leveled t reach (locals_at r s) i s l.1 f
leveled t reach n (suc i) (Limit count r ∷ s) l f = leveled t reach (locals_at r s) i s l.1.1 f
leveled t reach n (suc i) (Suspension why r place ∷ s) l f = leveled t reach (locals_at r s) i s l.1.1 f

pub level_low : (t : Tables) (reach : Reach) (m : FlatStack) → IsLiveStack t reach m → level m ≤ 4294967295
level_low t reach m k = leveled t reach (own_locals m) (length m.cells - m.registers.base) m.cells k.cells k.root.frame

-- locals of the world above cells of the world
live_above : (t : Tables) (reach : Reach) (n : ℕ) (values : List Val) (s : List Cell) → All (IsLive reach.extent) values → AreLive t reach n s
    → AreLive t reach n (put_above values s)
live_above t reach n [] s a l = l
live_above t reach n (v ∷ values) s a l =
    live_above t reach n values (Local v ∷ s) (All-tail (IsLive reach.extent) v values a) (All-head (IsLive reach.extent) v values a, l)

above_short : (values : List Val) (s : List Cell) → length s ≤ length (put_above values s)
above_short [] s = omega arith
above_short (v ∷ values) s = omega (arith, above_short values (Local v ∷ s))

frame_rooted : (values : List Val) (x : Cell) (s : List Cell) → IsFrame (Some x) → IsMarkOf (suc (length s)) (Some x)
    → IsRooted (registers_at (suc (length s))) (put_above values (x ∷ s))
frame_rooted values x s f g =
    let within : suc (length s) ≤ length (put_above values (x ∷ s)) = above_short values (x ∷ s) in
    record {
      within = within;
      frame = subst IsFrame (sym (frame_at values x s)) f;
      mark_within = within;
      mark = subst (IsMarkOf (suc (length s))) (sym (frame_at values x s)) g;
    }

pub live_begin : (t : Tables) (reach : Reach) (proc : ℕ) (values : List Val) (place : ℕ) → length values ≡ variable_count t proc
    → All (IsLive reach.extent) values → IsLiveStack t reach (begin proc values place)
live_begin t reach proc values place c a =
    let x : Cell = Base proc (length values) in
    let base : AreLive t reach (length values) (x ∷ []) = (c, tt) in
    record {
      root = frame_rooted values x [] tt tt;
      cells = subst (λ (n : ℕ). AreLive t reach n (put_above values (x ∷ []))) (sym (ap locals_of (frame_at values x [])))
          (live_above t reach (length values) values (x ∷ []) a base);
    }

pub live_enter : (t : Tables) (reach : Reach) (m : FlatStack) (proc : ℕ) (values : List Val) (place : ℕ) → length values ≡ variable_count t proc
    → suc (level m) ≤ 4294967295 → All (IsLive reach.extent) values → IsLiveStack t reach m
    → IsLiveStack t reach (enter proc values place m)
live_enter t reach m proc values place c d a k =
    let x : Cell = Call proc (length values) (suc (level m)) m.registers m.address in
    let base : AreLive t reach (length values) (x ∷ m.cells) = (c, (d, (k.root, k.cells))) in
    record {
      root = frame_rooted values x m.cells tt tt;
      cells = subst (λ (n : ℕ). AreLive t reach n (put_above values (x ∷ m.cells))) (sym (ap locals_of (frame_at values x m.cells)))
          (live_above t reach (length values) values (x ∷ m.cells) a base);
    }

pub live_leave : (t : Tables) (reach : Reach) (m n : FlatStack) → leave m ≡ Some n → IsLiveStack t reach m → IsLiveStack t reach n
live_leave t reach m n e k = by_cells (cut m.registers.base m.cells) refl e
  where
    by_cells : (s : List Cell) → cut m.registers.base m.cells ≡ s → leave_from s ≡ Some n → IsLiveStack t reach n
    by_cells (Call proc locals level r place ∷ below) c q =
        let l = live_cut t reach (length m.cells - m.registers.base) (own_locals m) m.cells (Call proc locals level r place) below c k.cells in
        let made : IsLiveStack t reach (record { cells = below; registers = r; address = place }) = record { root = l.1.1.1.0; cells = l.1.1.1.1 } in
        subst (λ (w : FlatStack). IsLiveStack t reach w) (same_Some _ _ q) made
    by_cells [] c q = cc
    by_cells (Operand item ∷ below) c q = cc
    by_cells (Local value ∷ below) c q = cc
    by_cells (Base proc locals ∷ below) c q = cc
    by_cells (Mark label changed r ∷ below) c q = cc
    by_cells (Limit count r ∷ below) c q = cc
    by_cells (Suspension why r place ∷ below) c q = cc

pub live_suspend_proc : (t : Tables) (reach : Reach) (m n : FlatStack) → suspend_proc m ≡ Some n → IsLiveStack t reach m → IsLiveStack t reach n
live_suspend_proc t reach m n e k = by_cells (cut m.registers.base m.cells) refl e
  where
    by_cells : (s : List Cell) → cut m.registers.base m.cells ≡ s → suspend_proc_from m s ≡ Some n → IsLiveStack t reach n
    by_cells (Call proc locals level r place ∷ below) c q =
        let l = live_cut t reach (length m.cells - m.registers.base) (own_locals m) m.cells (Call proc locals level r place) below c k.cells in
        let left = live_onto t reach m Proc (length m.cells - m.registers.base) (Call proc locals level r place) below r place c k tt l.1.1.1.0 l.1.1.1.1 in
        subst (λ (w : FlatStack). IsLiveStack t reach w) (same_Some _ _ q) left.rest
    by_cells [] c q = cc
    by_cells (Operand item ∷ below) c q = cc
    by_cells (Local value ∷ below) c q = cc
    by_cells (Base proc locals ∷ below) c q = cc
    by_cells (Mark label changed r ∷ below) c q = cc
    by_cells (Limit count r ∷ below) c q = cc
    by_cells (Suspension why r place ∷ below) c q = cc
