-- What suspending, resuming and dropping a mark do to a flat stack.
use Rattle.std.proofs.Common.{◌≡◌, ℕ, zero, suc, ◌+◌, ◌-◌, ◌≤◌, List, [], ◌∷◌, ◌++◌, length, map, Option, Some, None, refl, sym, ap, ◌∙◌, subst, arith, length-append}
use Rattle.std.specs.Prelude.{slice_get, drop}
use Rattle.std.specs.Option.{option_and_then}
use Rattle.icn_run.specs.Rows.{Item}
use Rattle.icn_run.specs.Calls.{Pair, Why, Alt, Proc}
use Rattle.icn_run.specs.Stacks.{Cell, base, call, local, mark, limit, suspension, operand, Registers, Frames, cut, cell_at, copy_up, pair_at, oldest, push, suspend, mark_suspended, proc_suspended, resume_from, unmark_in, unmark}
use Rattle.law_stacks.specs.StackLaws.{IsBare, AreOnTop, SameUpTo, IsCallFrom, SuspendsTo, registers_within, Suspends, ResumesTo, Resumes, IsMarkOn, UnmarksTo, Unmarks}
use Rattle.icn_run.specs.Step.{on_pair, with_found, running, scans_left}
use Rattle.law_stacks.proofs.CellLists.{none_is_not_some, some_injective, get_seam}

-- what is copied are the operands on top
copied_none : (rest onto : List Cell) → IsBare rest → copy_up rest onto ≡ onto
copied_none [] onto h = refl
copied_none (base p n ∷ rest) onto h = refl
copied_none (call p n l r q ∷ rest) onto h = refl
copied_none (local v ∷ rest) onto h = refl
copied_none (mark l c r ∷ rest) onto h = refl
copied_none (limit n r ∷ rest) onto h = refl
copied_none (suspension w r q ∷ rest) onto h = refl
copied_none (operand x ∷ rest) onto h = absurd h

copied_items : (items : List Item) (rest onto : List Cell) → IsBare rest → copy_up (map operand items ++ rest) onto ≡ map operand items ++ onto
copied_items [] rest onto h = copied_none rest onto h
copied_items (x ∷ items) rest onto h = ap (λ l. operand x ∷ l) (copied_items items rest onto h)

copied : (items : List Item) (cells onto : List Cell) → AreOnTop items cells → copy_up cells onto ≡ map operand items ++ onto
copied items cells onto h = ap (λ l. copy_up l onto) h.is ∙ copied_items items h.rest onto h.bare

-- heights

get_behind : {A : Type 0} (above below : List A) (k : ℕ) → slice_get (above ++ below) (length above + k) ≡ slice_get below k
get_behind [] below k = let e : 0 + k ≡ k = omega arith in ap (slice_get below) e
get_behind (x ∷ above) below k =
    let e : suc (length above) + k ≡ suc (length above + k) = omega arith in ap (slice_get (x ∷ (above ++ below))) e ∙ get_behind above below k

same_below : (above below : List Cell) → SameUpTo (length below) (above ++ below) below
same_below above below height some low =
    let e : length (above ++ below) - height ≡ length above + (length below - height) = omega (arith, length-append above below, low) in
    sym (ap (slice_get (above ++ below)) e ∙ get_behind above below (length below - height))

same_onto : (above below : List Cell) → SameUpTo (length below) below (above ++ below)
same_onto above below height some low = sym (same_below above below height some low)

at_top : (above below : List Cell) (cell : Cell) → cell_at (suc (length below)) (above ++ cell ∷ below) ≡ Some cell
at_top above below cell =
    let e : length (above ++ cell ∷ below) - suc (length below) ≡ length above = omega (arith, length-append above (cell ∷ below)) in
    ap (slice_get (above ++ cell ∷ below)) e ∙ get_seam above cell below

-- what is cut off stands above
split : (n : ℕ) (cells : List Cell) (cell : Cell) (below : List Cell) → drop n cells ≡ cell ∷ below
    → (above : List Cell) × (cells ≡ above ++ (cell ∷ below)) × (length above ≡ n)
split zero cells cell below e = ([], e, refl)
split (suc n) [] cell below e = absurd (cc)
split (suc n) (x ∷ cells) cell below e = let o = split n cells cell below e in (x ∷ o.0, ap (λ l. x ∷ l) o.1, ap suc o.2)

start_at : (height : ℕ) (cells above below : List Cell) (cell : Cell) → cells ≡ above ++ (cell ∷ below) → length above ≡ length cells - height
    → height ≤ length cells → height ≡ suc (length below)
start_at height cells above below cell e l low = omega (arith, ap length e, length-append above (cell ∷ below), l, low)

kept_below : (cells above below : List Cell) (cell : Cell) → cells ≡ above ++ (cell ∷ below) → SameUpTo (length below) cells below
kept_below cells above below cell e height some low =
    let whole : SameUpTo (length (cell ∷ below)) (above ++ (cell ∷ below)) (cell ∷ below) = same_below above (cell ∷ below) in
    same_below (cell ∷ []) below height some low ∙ whole height some (omega (arith, low)) ∙ ap (cell_at height) (sym e)

-- Suspending

suspended_by : (why : Why) (before : Frames) (outside : Registers) (place : ℕ) (items : List Item) (result : Item) (after : Frames)
    → after.cells ≡ operand result ∷ (map operand items ++ suspension why before.registers before.address ∷ before.cells)
    → after.registers ≡ record outside { newest = Some (suc (length before.cells)) } → after.address ≡ place
    → SuspendsTo why before outside place items result after
suspended_by why before outside place items result after e n at =
    let frame : Cell = suspension why before.registers before.address in
    let above : List Cell = operand result ∷ (map operand items ++ frame ∷ []) in
    let whole : after.cells ≡ above ++ before.cells = e ∙ ap (λ l. operand result ∷ l) (sym (joined (map operand items) frame before.cells)) in
    record {
      below = λ height some low. ap (cell_at height) whole ∙ same_onto above before.cells height some low;
      frame = ap (cell_at (suc (length before.cells))) e ∙ at_top (operand result ∷ map operand items) before.cells frame;
      above = e;
      registers = n;
      address = at;
    }
  where
    joined : (xs : List Cell) (y : Cell) (ys : List Cell) → (xs ++ y ∷ []) ++ ys ≡ xs ++ y ∷ ys
    joined [] y ys = refl
    joined (x ∷ xs) y ys = ap (λ l. x ∷ l) (joined xs y ys)

suspends_in_mark : (why : Why) (m : Frames) (items : List Item) (result : Item) → AreOnTop items m.cells
    → SuspendsTo why m (registers_within why m) m.address items result (push result (suspend why m))
suspends_in_mark why m items result h =
    suspended_by why m (registers_within why m) m.address items result (push result (suspend why m))
    (ap (λ l. operand result ∷ l) (copied items m.cells (suspension why m.registers m.address ∷ m.cells) h)) refl refl

-- what goes on outside, with these registers and at this place
outside_by : (why : Why) (m after : Frames) (outside : List Cell) (registers : Registers) (place : ℕ) (items : List Item) (result : Item)
    → record {
      cells = copy_up outside (suspension why m.registers m.address ∷ m.cells);
      registers = record registers { newest = Some (suc (length m.cells)) };
      address = place;
    } ≡ after
    → AreOnTop items outside → SuspendsTo why m registers place items result (push result after)
outside_by why m after outside registers place items result e h =
    suspended_by why m registers place items result (push result after)
    (ap (λ (x : Frames). operand result ∷ x.cells) (sym e)
    ∙ ap (λ l. operand result ∷ l) (copied items outside (suspension why m.registers m.address ∷ m.cells) h))
    (ap (λ (x : Frames). x.registers) (sym e)) (ap (λ (x : Frames). x.address) (sym e))

mark_by : (m : Frames) (cell : Cell) (outside : List Cell) (registers : Registers) (items : List Item) (result : Item) (after : Frames)
    → mark_suspended m (cell ∷ outside) ≡ Some after → IsMarkOn registers cell → AreOnTop items outside
    → SuspendsTo Alt m registers m.address items result (push result after)
mark_by m (mark l c r) outside registers items result after e is h =
    subst (λ (kept : Registers). SuspendsTo Alt m kept m.address items result (push result after))
    is (outside_by Alt m after outside r m.address items result (some_injective e) h)
mark_by m (limit n r) outside registers items result after e is h =
    subst (λ (kept : Registers). SuspendsTo Alt m kept m.address items result (push result after))
    is (outside_by Alt m after outside r m.address items result (some_injective e) h)
mark_by m (base p n) outside registers items result after e is h = none_is_not_some after e
mark_by m (call p n l r q) outside registers items result after e is h = none_is_not_some after e
mark_by m (local v) outside registers items result after e is h = none_is_not_some after e
mark_by m (suspension w r q) outside registers items result after e is h = none_is_not_some after e
mark_by m (operand x) outside registers items result after e is h = none_is_not_some after e

proc_by : (m : Frames) (cell : Cell) (outside : List Cell) (registers : Registers) (place : ℕ) (items : List Item) (result : Item) (after : Frames)
    → proc_suspended m (cell ∷ outside) ≡ Some after → IsCallFrom registers place cell → AreOnTop items outside
    → SuspendsTo Proc m registers place items result (push result after)
proc_by m (call p n l r q) outside registers place items result after e is h =
    subst (λ (kept : Registers). SuspendsTo Proc m kept place items result (push result after)) is.0
    (subst (λ (back : ℕ). SuspendsTo Proc m r back items result (push result after)) is.1
    (outside_by Proc m after outside r q items result (some_injective e) h))
proc_by m (base p n) outside registers place items result after e is h = none_is_not_some after e
proc_by m (mark l c r) outside registers place items result after e is h = none_is_not_some after e
proc_by m (limit n r) outside registers place items result after e is h = none_is_not_some after e
proc_by m (local v) outside registers place items result after e is h = none_is_not_some after e
proc_by m (suspension w r q) outside registers place items result after e is h = none_is_not_some after e
proc_by m (operand x) outside registers place items result after e is h = none_is_not_some after e

pub suspends : Suspends
suspends = record {
  in_mark = suspends_in_mark;
  mark = λ m after cell outside registers items result e at is h. mark_by m cell outside registers items result after (ap (mark_suspended m) (sym at) ∙ e) is h;
  proc = λ m after cell outside registers place items result e at is h. proc_by m cell outside registers place items result after
      (ap (proc_suspended m) (sym at) ∙ e) is h;
}

-- Resuming

resumed_by : (m : Frames) (height : ℕ) (why : Why) (after : Frames) (cells : List Cell) → m.registers.newest ≡ Some height → cut height m.cells ≡ cells
    → resume_from cells ≡ Some (why, after) → ResumesTo m why after
resumed_by m height why after (suspension w r q ∷ below) n c e =
    let e' : (w, record { cells = below; registers = r; address = q }) ≡ (why, after) = some_injective e in
    let o = split (length m.cells - height) m.cells (suspension w r q) below c in
    subst (λ (back : Why × Frames). ResumesTo m back.0 back.1) e' (record {
      height = height;
      newest = n;
      above = o.0;
      cells = o.1;
      start = start_at height m.cells o.0 below (suspension w r q) o.1 o.2;
      kept = kept_below m.cells o.0 below (suspension w r q) o.1;
    })
resumed_by m height why after [] n c e = none_is_not_some (why, after) e
resumed_by m height why after (base p k ∷ below) n c e = none_is_not_some (why, after) e
resumed_by m height why after (call p k l r q ∷ below) n c e = none_is_not_some (why, after) e
resumed_by m height why after (local v ∷ below) n c e = none_is_not_some (why, after) e
resumed_by m height why after (mark l b r ∷ below) n c e = none_is_not_some (why, after) e
resumed_by m height why after (limit k r ∷ below) n c e = none_is_not_some (why, after) e
resumed_by m height why after (operand x ∷ below) n c e = none_is_not_some (why, after) e

pub resumes : Resumes
resumes m why after e = by m.registers.newest refl
  where
    by : (o : Option ℕ) → m.registers.newest ≡ o → ResumesTo m why after
    by None n = none_is_not_some (why, after) (ap (λ o. option_and_then (λ height. resume_from (cut height m.cells)) o) (sym n) ∙ e)
    by (Some height) n =
        resumed_by m height why after (cut height m.cells) n refl (ap (λ o. option_and_then (λ height. resume_from (cut height m.cells)) o) (sym n) ∙ e)

-- Dropping a mark

unmarked_by : (m after : Frames) (cell : Cell) (registers : Registers) (below : List Cell) (pair : Option Pair) → IsMarkOn registers cell
    → cut m.registers.mark m.cells ≡ cell ∷ below
    → record m { cells = below; registers = registers } ≡ after → pair_at m.cells (oldest registers.scan m) ≡ pair → UnmarksTo m after pair
unmarked_by m after cell registers below pair is c e f =
    let o = split (length m.cells - m.registers.mark) m.cells cell below c in
    subst (λ (left : Frames). UnmarksTo m left pair) e (record {
      above = o.0;
      marks = cell;
      is_mark = is;
      cells = o.1;
      start = start_at m.registers.mark m.cells o.0 below cell o.1 o.2;
      kept = kept_below m.cells o.0 below cell o.1;
      address = refl;
      saved = sym f;
    })

unmarked_at : (m after : Frames) (pair : Option Pair) (cells : List Cell) → cut m.registers.mark m.cells ≡ cells → unmark_in m cells ≡ Some (after, pair)
    → UnmarksTo m after pair
unmarked_at m after pair (mark l b r ∷ below) c e =
    unmarked_by m after (mark l b r) r below pair refl c (ap (λ (x : Frames × Option Pair). x.0) (some_injective e))
    (ap (λ (x : Frames × Option Pair). x.1) (some_injective e))
unmarked_at m after pair (limit k r ∷ below) c e =
    unmarked_by m after (limit k r) r below pair refl c (ap (λ (x : Frames × Option Pair). x.0) (some_injective e))
    (ap (λ (x : Frames × Option Pair). x.1) (some_injective e))
unmarked_at m after pair [] c e = none_is_not_some (after, pair) e
unmarked_at m after pair (base p k ∷ below) c e = none_is_not_some (after, pair) e
unmarked_at m after pair (call p k l r q ∷ below) c e = none_is_not_some (after, pair) e
unmarked_at m after pair (local v ∷ below) c e = none_is_not_some (after, pair) e
unmarked_at m after pair (suspension w r q ∷ below) c e = none_is_not_some (after, pair) e
unmarked_at m after pair (operand x ∷ below) c e = none_is_not_some (after, pair) e

pub unmarks : Unmarks
unmarks = record {
  drops = drops;
  last_result = λ item m after pair st e. record {
    unmarked = drops m after pair e;
    goes_on = ap (λ (o : Option (Frames × Option Pair)). with_found o (on_pair (λ outside pair. running (push item outside) (scans_left pair st)))) e;
  };
}
  where
    drops : (m after : Frames) (pair : Option Pair) → unmark m ≡ Some (after, pair) → UnmarksTo m after pair
    drops m after pair e = unmarked_at m after pair (cut m.registers.mark m.cells) refl e
