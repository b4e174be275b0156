-- Fewer cells stand after a step of failing.
use Rattle.std.proofs.Common.{◌≡◌, ℕ, suc, ◌-◌, ◌<◌, ◌≤◌, Bool, true, false, List, [], ◌∷◌, length, Option, Some, None, refl, sym, ap, ◌∙◌, arith}
use Rattle.std.specs.Option.{option_and_then}
use Rattle.std.proofs.lemmas.Option.{same_Some}
use Rattle.std.proofs.lemmas.List.{length-set}
use Rattle.icn_frames.specs.Heights.{cut, cell_at}
use Rattle.icn_value.specs.declared.item.Pair.{Pair}
use Rattle.icn_frames.specs.declared.layout.Why.{Why}
use Rattle.icn_frames.specs.declared.layout.Why.TheVariants.{Alt, Op, Scan, Escan, Proc}
use Rattle.icn_frames.specs.declared.layout.Cell.{Cell}
use Rattle.icn_frames.specs.declared.layout.Cell.TheVariants.{Base, Call, Local, Mark, Limit, Suspension, Operand}
use Rattle.icn_frames.specs.Stacks.{FlatStack, resume, resume_from, unmark, unmark_from, swap_by, swap_at, with_pair, scan_chosen}
use Rattle.icn_control.proofs.LiveCells.{dropped_short}

pub resume_less : (m n : FlatStack) (why : Why) → resume m ≡ Some (why, n) → length n.cells < length m.cells
resume_less m n why e = by_height m.registers.newest e
  where
    by_cells : (h : ℕ) (s : List Cell) → cut h m.cells ≡ s → resume_from s ≡ Some (why, n) → length n.cells < length m.cells
    by_cells h (Suspension reason r place ∷ below) c q =
        let short : suc (length below) ≤ length m.cells = dropped_short (length m.cells - h) m.cells (Suspension reason r place) below c in
        let same : length below ≡ length n.cells = ap (λ (w : Why × FlatStack). length w.1.cells) (same_Some _ _ q) in
        omega (arith, short, same)
    by_cells h [] c q = cc
    by_cells h (Operand item ∷ below) c q = cc
    by_cells h (Local value ∷ below) c q = cc
    by_cells h (Base proc locals ∷ below) c q = cc
    by_cells h (Call proc locals level r place ∷ below) c q = cc
    by_cells h (Mark label changed r ∷ below) c q = cc
    by_cells h (Limit count r ∷ below) c q = cc

    by_height : (newest : Option ℕ) → option_and_then (λ height. resume_from (cut height m.cells)) newest ≡ Some (why, n) → length n.cells < length m.cells
    by_height (Some h) q = by_cells h (cut h m.cells) refl q
    by_height None q = cc

pub unmark_less : (m n : FlatStack) (pair : Option Pair) → unmark m ≡ Some (n, pair) → length n.cells < length m.cells
unmark_less m n pair e = by_cells (cut m.registers.mark m.cells) refl e
  where
    below_less : (x : Cell) (below : List Cell) → cut m.registers.mark m.cells ≡ x ∷ below → length below ≡ length n.cells → length n.cells < length m.cells
    below_less x below c same =
        let short : suc (length below) ≤ length m.cells = dropped_short (length m.cells - m.registers.mark) m.cells x below c in
        omega (arith, short, same)

    by_cells : (s : List Cell) → cut m.registers.mark m.cells ≡ s → unmark_from m s ≡ Some (n, pair) → length n.cells < length m.cells
    by_cells (Mark label changed r ∷ below) c q =
        below_less (Mark label changed r) below c (ap (λ (w : FlatStack × Option Pair). length w.0.cells) (same_Some _ _ q))
    by_cells (Limit count r ∷ below) c q = below_less (Limit count r) below c (ap (λ (w : FlatStack × Option Pair). length w.0.cells) (same_Some _ _ q))
    by_cells [] c q = cc
    by_cells (Operand item ∷ below) c q = cc
    by_cells (Local value ∷ below) c q = cc
    by_cells (Base proc locals ∷ below) c q = cc
    by_cells (Call proc locals level r place ∷ below) c q = cc
    by_cells (Suspension why r place ∷ below) c q = cc

pub swap_length : (m n : FlatStack) (oldest : Bool) (pair old : Pair) → swap_by oldest pair m ≡ Some (old, n) → length n.cells ≡ length m.cells
swap_length m n oldest pair old e = by_choice oldest e
  where
    by_cell : (h : ℕ) (cell : Option Cell) → with_pair pair h m cell ≡ Some (old, n) → length n.cells ≡ length m.cells
    by_cell h (Some (Suspension (Scan was) r place)) q =
        sym (ap (λ (w : Pair × FlatStack). length w.1.cells) (same_Some _ _ q)) ∙ length-set m.cells (length m.cells - h) (Suspension (Scan pair) r place)
    by_cell h (Some (Suspension Alt r place)) q = cc
    by_cell h (Some (Suspension (Op residual) r place)) q = cc
    by_cell h (Some (Suspension Escan r place)) q = cc
    by_cell h (Some (Suspension Proc r place)) q = cc
    by_cell h None q = cc
    by_cell h (Some (Base proc locals)) q = cc
    by_cell h (Some (Call proc locals level r place)) q = cc
    by_cell h (Some (Local value)) q = cc
    by_cell h (Some (Mark label changed r)) q = cc
    by_cell h (Some (Limit count r)) q = cc
    by_cell h (Some (Operand item)) q = cc

    by_scan : (scan : Option ℕ) → swap_at pair m scan ≡ Some (old, n) → length n.cells ≡ length m.cells
    by_scan (Some h) q = by_cell h (cell_at h m.cells) q
    by_scan None q = cc

    by_choice : (b : Bool) → swap_by b pair m ≡ Some (old, n) → length n.cells ≡ length m.cells
    by_choice true q = by_scan (scan_chosen true m) q
    by_choice false q = by_scan (scan_chosen false m) q

pub swapped_less : (m k n : FlatStack) (why : Why) (pair old : Pair) → resume m ≡ Some (why, k) → swap_by false pair k ≡ Some (old, n)
    → length n.cells < length m.cells
swapped_less m k n why pair old e f =
    let less : length k.cells < length m.cells = resume_less m k why e in
    let same : length n.cells ≡ length k.cells = swap_length k n false pair old f in
    omega (arith, less, same)
