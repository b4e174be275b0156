-- Open scans, suspensions and calls of procedures, once they are read.
use Rattle.std.proofs.Common.{◌≡◌, ℕ, zero, suc, Bool, true, false, List, [], ◌∷◌, length, map, Option, Some, None, refl, ap, ◌∙◌}
use Rattle.std.specs.Option.{option_map, option_and_then}
use Rattle.std.proofs.lemmas.List.{length-map}
use Rattle.icn_frames.specs.Heights.{cut, cell_at}
use Rattle.icn_value.specs.declared.val.Val.{Val}
use Rattle.icn_value.specs.declared.item.Pair.{Pair}
use Rattle.icn_frames.specs.declared.layout.Registers.{Registers}
use Rattle.icn_frames.specs.declared.layout.Why.{Why}
use Rattle.icn_frames.specs.declared.layout.Why.TheVariants.{Alt, Op, Scan, Escan, Proc}
use Rattle.icn_frames.specs.declared.layout.Cell.{Cell}
use Rattle.icn_frames.specs.declared.layout.Cell.TheVariants.{Base, Call, Local, Mark, Limit, Suspension, Operand}
use Rattle.icn_frames.specs.Stacks as flat
use Rattle.icn_frames.specs.Stacks.{FlatStack}
use Rattle.icn_run.specs.Calls as calls
use Rattle.icn_run.specs.Stacks as code
use Rattle.law_frames.specs.ReadStacks.{Interpretation, why_read, registers_read, cell_read, stack_read, resumed_read, swapped_read, maybe_pair_read, unmarked_read}
use Rattle.law_frames.proofs.CellsRead.{cut_read, at_read, set_read, above_read, copy_read}
use Rattle.law_frames.proofs.CallsRead.{level_read}

-- open scans

pair_of_read : (read : Interpretation) (cell : Option Cell) → code.pair_of (option_map (cell_read read) cell) ≡ maybe_pair_read read (flat.pair_of cell)
pair_of_read read None = refl
pair_of_read read (Some (Suspension (Scan pair) registers place)) = refl
pair_of_read read (Some (Suspension Alt registers place)) = refl
pair_of_read read (Some (Suspension (Op residual) registers place)) = refl
pair_of_read read (Some (Suspension Escan registers place)) = refl
pair_of_read read (Some (Suspension Proc registers place)) = refl
pair_of_read read (Some (Base proc locals)) = refl
pair_of_read read (Some (Call proc locals level registers place)) = refl
pair_of_read read (Some (Local value)) = refl
pair_of_read read (Some (Mark label changed registers)) = refl
pair_of_read read (Some (Limit count registers)) = refl
pair_of_read read (Some (Operand item)) = refl

pair_at_read : (read : Interpretation) (s : List Cell) (scan : Option ℕ)
    → code.pair_at (map (cell_read read) s) scan ≡ maybe_pair_read read (flat.pair_at s scan)
pair_at_read read s None = refl
pair_at_read read s (Some h) = ap code.pair_of (at_read read h s) ∙ pair_of_read read (cell_at h s)

scan_of_read : (read : Interpretation) (cell : Option Cell) → code.scan_of (option_map (cell_read read) cell) ≡ flat.scan_of cell
scan_of_read read None = refl
scan_of_read read (Some (Suspension why registers place)) = refl
scan_of_read read (Some (Base proc locals)) = refl
scan_of_read read (Some (Call proc locals level registers place)) = refl
scan_of_read read (Some (Local value)) = refl
scan_of_read read (Some (Mark label changed registers)) = refl
scan_of_read read (Some (Limit count registers)) = refl
scan_of_read read (Some (Operand item)) = refl

older_read : (read : Interpretation) (s : List Cell) (scan : Option ℕ) → code.older_scan (map (cell_read read) s) scan ≡ flat.older_scan s scan
older_read read s None = refl
older_read read s (Some h) = ap code.scan_of (at_read read h s) ∙ scan_of_read read (cell_at h s)

same_read : (a b : Option ℕ) → code.is_same a b ≡ flat.is_same a b
same_read None None = refl
same_read None (Some n) = refl
same_read (Some m) None = refl
same_read (Some m) (Some n) = refl

chosen : Bool → Option ℕ → Option ℕ → Option ℕ
chosen b x y = elim b as (λ w. Option ℕ) [ true ↦ x | false ↦ y ]

oldest_from_read : (read : Interpretation) (n : ℕ) (s : List Cell) (until scan : Option ℕ)
    → code.oldest_from n (map (cell_read read) s) until scan ≡ flat.oldest_from n s until scan
unfolding chosen
oldest_from_read read zero s until scan = refl
oldest_from_read read (suc n) s until scan =
    ap (λ (w : Option ℕ). chosen (code.is_same w until) scan (code.oldest_from n (map (cell_read read) s) until w)) (older_read read s scan)
    ∙ ap (λ (b : Bool). chosen b scan (code.oldest_from n (map (cell_read read) s) until (flat.older_scan s scan))) (same_read (flat.older_scan s scan) until)
    ∙ ap (chosen (flat.is_same (flat.older_scan s scan) until) scan) (oldest_from_read read n s until (flat.older_scan s scan))

pub oldest_read : (read : Interpretation) (until : Option ℕ) (m : FlatStack) → code.oldest until (stack_read read m) ≡ flat.oldest until m
unfolding chosen
oldest_read read until m =
    ap (λ (b : Bool). chosen b None (code.oldest_from (length (map (cell_read read) m.cells)) (map (cell_read read) m.cells) until m.registers.scan))
    (same_read m.registers.scan until)
    ∙ ap (λ (n : ℕ). chosen (flat.is_same m.registers.scan until) None (code.oldest_from n (map (cell_read read) m.cells) until m.registers.scan))
    (length-map m.cells (cell_read read))
    ∙ ap (chosen (flat.is_same m.registers.scan until) None) (oldest_from_read read (length m.cells) m.cells until m.registers.scan)

with_pair_read : (read : Interpretation) (pair : Pair) (h : ℕ) (m : FlatStack) (cell : Option Cell)
    → code.with_pair (read.pair pair) h (stack_read read m) (option_map (cell_read read) cell) ≡ option_map (swapped_read read) (flat.with_pair pair h m cell)
with_pair_read read pair h m (Some (Suspension (Scan old) registers place)) =
    ap (λ (w : List code.Cell). let k : code.Frames = record (stack_read read m) { cells = w } in let swap : calls.Pair × code.Frames = (read.pair old, k) in
    Some swap)
    (set_read read h (Suspension (Scan pair) registers place) m.cells)
with_pair_read read pair h m None = refl
with_pair_read read pair h m (Some (Suspension Alt registers place)) = refl
with_pair_read read pair h m (Some (Suspension (Op residual) registers place)) = refl
with_pair_read read pair h m (Some (Suspension Escan registers place)) = refl
with_pair_read read pair h m (Some (Suspension Proc registers place)) = refl
with_pair_read read pair h m (Some (Base proc locals)) = refl
with_pair_read read pair h m (Some (Call proc locals level registers place)) = refl
with_pair_read read pair h m (Some (Local value)) = refl
with_pair_read read pair h m (Some (Mark label changed registers)) = refl
with_pair_read read pair h m (Some (Limit count registers)) = refl
with_pair_read read pair h m (Some (Operand item)) = refl

swap_at_read : (read : Interpretation) (pair : Pair) (m : FlatStack) (scan : Option ℕ)
    → code.swap_at (read.pair pair) (stack_read read m) scan ≡ option_map (swapped_read read) (flat.swap_at pair m scan)
swap_at_read read pair m None = refl
swap_at_read read pair m (Some h) =
    ap (code.with_pair (read.pair pair) h (stack_read read m)) (at_read read h m.cells) ∙ with_pair_read read pair h m (cell_at h m.cells)

-- so it is with the pair of the newest scan
pub swap_newest_read : (read : Interpretation) (pair : Pair) (m : FlatStack)
    → code.swap_newest (read.pair pair) (stack_read read m) ≡ option_map (swapped_read read) (flat.swap_newest pair m)
swap_newest_read read pair m = swap_at_read read pair m m.registers.scan

pub swap_oldest_read : (read : Interpretation) (pair : Pair) (m : FlatStack)
    → code.swap_oldest (read.pair pair) (stack_read read m) ≡ option_map (swapped_read read) (flat.swap_oldest pair m)
swap_oldest_read read pair m = ap (code.swap_at (read.pair pair) (stack_read read m)) (oldest_read read None m) ∙ swap_at_read read pair m (flat.oldest None m)

-- marks that are dropped

outside_read : (read : Interpretation) (m : FlatStack) (s : List Cell) (r : Registers)
    → (let u : code.Frames × Option calls.Pair = (
      record (stack_read read m) { cells = map (cell_read read) s; registers = registers_read r },
      code.pair_at (map (cell_read read) m.cells) (code.oldest r.scan (stack_read read m)),
    ) in Some u)
    ≡ (let v : FlatStack × Option Pair = (record m { cells = s; registers = r }, flat.pair_at m.cells (flat.oldest r.scan m)) in Some (unmarked_read read v))
outside_read read m s r =
    ap (λ (w : Option calls.Pair). let u : code.Frames
    × Option calls.Pair = (record (stack_read read m) { cells = map (cell_read read) s; registers = registers_read r }, w) in Some u)
    (ap (code.pair_at (map (cell_read read) m.cells)) (oldest_read read r.scan m) ∙ pair_at_read read m.cells (flat.oldest r.scan m))

unmark_from_read : (read : Interpretation) (m : FlatStack) (s : List Cell)
    → code.unmark_in (stack_read read m) (map (cell_read read) s) ≡ option_map (unmarked_read read) (flat.unmark_from m s)
unmark_from_read read m (Mark label changed registers ∷ s) = outside_read read m s registers
unmark_from_read read m (Limit count registers ∷ s) = outside_read read m s registers
unmark_from_read read m [] = refl
unmark_from_read read m (Base proc locals ∷ s) = refl
unmark_from_read read m (Call proc locals level registers place ∷ s) = refl
unmark_from_read read m (Local value ∷ s) = refl
unmark_from_read read m (Suspension why registers place ∷ s) = refl
unmark_from_read read m (Operand item ∷ s) = refl

-- and with leaving a mark
pub unmark_read : (read : Interpretation) (m : FlatStack) → code.unmark (stack_read read m) ≡ option_map (unmarked_read read) (flat.unmark m)
unmark_read read m = ap (code.unmark_in (stack_read read m)) (cut_read read m.registers.mark m.cells) ∙ unmark_from_read read m (cut m.registers.mark m.cells)

-- suspensions

scan_after_read : (read : Interpretation) (why : Why) (h : ℕ) (m : FlatStack)
    → code.scan_after (why_read read why) h (stack_read read m) ≡ flat.scan_after why h m
scan_after_read read (Scan pair) h m = refl
scan_after_read read Escan h m = older_read read m.cells m.registers.scan
scan_after_read read Alt h m = refl
scan_after_read read (Op residual) h m = refl
scan_after_read read Proc h m = refl

-- suspending and then reading is reading and then suspending
pub suspend_read : (read : Interpretation) (why : Why) (m : FlatStack)
    → code.suspend (why_read read why) (stack_read read m) ≡ stack_read read (flat.suspend why m)
suspend_read read why m =
    let F : List code.Cell → ℕ → Option ℕ → code.Frames = λ cells h scan.
    record { cells = cells; registers = record (registers_read m.registers) { newest = Some h; scan = scan }; address = m.address } in
    let h : ℕ = suc (length m.cells) in
    let s : List code.Cell = code.copy_up (map (cell_read read) m.cells) (map (cell_read read) (Suspension why m.registers m.address ∷ m.cells)) in
    ap (λ (n : ℕ). F s (suc n) (code.scan_after (why_read read why) (suc n) (stack_read read m))) (length-map m.cells (cell_read read))
    ∙ ap (F s h) (scan_after_read read why h m)
    ∙ ap (λ (w : List code.Cell). F w h (flat.scan_after why h m)) (copy_read read m.cells (Suspension why m.registers m.address ∷ m.cells))

onto_read : (read : Interpretation) (why : Why) (m : FlatStack) (s : List Cell) (r : Registers) (place : ℕ)
    → code.suspended_onto (why_read read why) (stack_read read m) (map (cell_read read) s) (registers_read r) place
    ≡ stack_read read (flat.suspend_onto why m s r place)
onto_read read why m s r place =
    let F : List code.Cell → ℕ
    → code.Frames = λ cells n. record { cells = cells; registers = record (registers_read r) { newest = Some (suc n) }; address = place } in
    let t : List code.Cell = code.copy_up (map (cell_read read) s) (map (cell_read read) (Suspension why m.registers m.address ∷ m.cells)) in
    ap (F t) (length-map m.cells (cell_read read))
    ∙ ap (λ (w : List code.Cell). F w (length m.cells)) (copy_read read s (Suspension why m.registers m.address ∷ m.cells))

mark_from_read : (read : Interpretation) (m : FlatStack) (s : List Cell)
    → code.mark_suspended (stack_read read m) (map (cell_read read) s) ≡ option_map (stack_read read) (flat.suspend_mark_from m s)
mark_from_read read m (Mark label changed registers ∷ s) = ap (λ (w : code.Frames). Some w) (onto_read read Alt m s registers m.address)
mark_from_read read m (Limit count registers ∷ s) = ap (λ (w : code.Frames). Some w) (onto_read read Alt m s registers m.address)
mark_from_read read m [] = refl
mark_from_read read m (Base proc locals ∷ s) = refl
mark_from_read read m (Call proc locals level registers place ∷ s) = refl
mark_from_read read m (Local value ∷ s) = refl
mark_from_read read m (Suspension why registers place ∷ s) = refl
mark_from_read read m (Operand item ∷ s) = refl

pub suspend_mark_read : (read : Interpretation) (m : FlatStack) → code.suspend_mark (stack_read read m) ≡ option_map (stack_read read) (flat.suspend_mark m)
suspend_mark_read read m =
    ap (code.mark_suspended (stack_read read m)) (cut_read read m.registers.mark m.cells) ∙ mark_from_read read m (cut m.registers.mark m.cells)

proc_from_read : (read : Interpretation) (m : FlatStack) (s : List Cell)
    → code.proc_suspended (stack_read read m) (map (cell_read read) s) ≡ option_map (stack_read read) (flat.suspend_proc_from m s)
proc_from_read read m (Call proc locals level registers place ∷ s) = ap (λ (w : code.Frames). Some w) (onto_read read Proc m s registers place)
proc_from_read read m [] = refl
proc_from_read read m (Base proc locals ∷ s) = refl
proc_from_read read m (Local value ∷ s) = refl
proc_from_read read m (Mark label changed registers ∷ s) = refl
proc_from_read read m (Limit count registers ∷ s) = refl
proc_from_read read m (Suspension why registers place ∷ s) = refl
proc_from_read read m (Operand item ∷ s) = refl

pub suspend_proc_read : (read : Interpretation) (m : FlatStack) → code.suspend_proc (stack_read read m) ≡ option_map (stack_read read) (flat.suspend_proc m)
suspend_proc_read read m =
    ap (code.proc_suspended (stack_read read m)) (cut_read read m.registers.base m.cells) ∙ proc_from_read read m (cut m.registers.base m.cells)

resume_from_read : (read : Interpretation) (s : List Cell) → code.resume_from (map (cell_read read) s) ≡ option_map (resumed_read read) (flat.resume_from s)
resume_from_read read (Suspension why registers place ∷ s) = refl
resume_from_read read [] = refl
resume_from_read read (Base proc locals ∷ s) = refl
resume_from_read read (Call proc locals level registers place ∷ s) = refl
resume_from_read read (Local value ∷ s) = refl
resume_from_read read (Mark label changed registers ∷ s) = refl
resume_from_read read (Limit count registers ∷ s) = refl
resume_from_read read (Operand item ∷ s) = refl

newest_read : (read : Interpretation) (s : List Cell) (newest : Option ℕ)
    → option_and_then (λ h. code.resume_from (code.cut h (map (cell_read read) s))) newest
    ≡ option_map (resumed_read read) (option_and_then (λ h. flat.resume_from (cut h s)) newest)
newest_read read s None = refl
newest_read read s (Some h) = ap code.resume_from (cut_read read h s) ∙ resume_from_read read (cut h s)

pub resume_read : (read : Interpretation) (m : FlatStack) → code.resume (stack_read read m) ≡ option_map (resumed_read read) (flat.resume m)
resume_read read m = newest_read read m.cells m.registers.newest

-- calls of procedures

pub enter_read : (read : Interpretation) (proc : ℕ) (values : List Val) (m : FlatStack)
    → code.enter proc (map read.value values) (stack_read read m) ≡ stack_read read (flat.enter proc values 0 m)
enter_read read proc values m =
    let s : List code.Cell = map (cell_read read) m.cells in
    let F : List code.Cell → ℕ → code.Frames = λ cells n. record { cells = cells; registers = registers_read (flat.registers_at (suc n)); address = 0 } in
    let A : ℕ → ℕ
    → List code.Cell = λ count level. code.put_above (map read.value values) (code.call proc count (suc level) (registers_read m.registers) m.address ∷ s) in
    ap (λ (n : ℕ). F (A n (code.level (stack_read read m))) (length s)) (length-map values read.value)
    ∙ ap (λ (n : ℕ). F (A (length values) n) (length s)) (level_read read m)
    ∙ ap (F (A (length values) (flat.level m))) (length-map m.cells (cell_read read))
    ∙ ap (λ (w : List code.Cell). F w (length m.cells))
    (above_read read values (Call proc (length values) (suc (flat.level m)) m.registers m.address ∷ m.cells))

leave_from_read : (read : Interpretation) (s : List Cell) → code.leave_from (map (cell_read read) s) ≡ option_map (stack_read read) (flat.leave_from s)
leave_from_read read (Call proc locals level registers place ∷ s) = refl
leave_from_read read [] = refl
leave_from_read read (Base proc locals ∷ s) = refl
leave_from_read read (Local value ∷ s) = refl
leave_from_read read (Mark label changed registers ∷ s) = refl
leave_from_read read (Limit count registers ∷ s) = refl
leave_from_read read (Suspension why registers place ∷ s) = refl
leave_from_read read (Operand item ∷ s) = refl

pub leave_read : (read : Interpretation) (m : FlatStack) → code.leave (stack_read read m) ≡ option_map (stack_read read) (flat.leave m)
leave_read read m = ap code.leave_from (cut_read read m.registers.base m.cells) ∙ leave_from_read read (cut m.registers.base m.cells)
