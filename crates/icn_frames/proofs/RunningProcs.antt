-- The number of the running procedure, as its frame has it.
use Rattle.std.proofs.Common.{◌≡◌, ℕ, zero, suc, ◌+◌, ◌-◌, ◌<◌, ◌≤◌, ◌==◌, Bool, true, false, List, [], ◌∷◌, ◌++◌, length, take, map, slice_get, slice_set, Some, refl, sym, ap, ◌∙◌, subst, arith}
use Rattle.std.proofs.lemmas.Bool.{eqb-true, eqb-false}
use Rattle.std.proofs.lemmas.List.{length-map, length-append, length-set}
use Rattle.icn_value.specs.declared.item.Item.{Item}
use Rattle.icn_frames.specs.Heights.{cut, cell_at, set_cell, with_copy}
use Rattle.icn_frames.specs.declared.layout.Registers.{Registers}
use Rattle.icn_frames.specs.CalledWith.{DropsWith, operands_above}
use Rattle.icn_frames.specs.declared.layout.Cell.{Cell}
use Rattle.icn_frames.specs.declared.layout.Cell.TheVariants.{Operand}
use Rattle.icn_frames.specs.StackInvariant.{Sound, shape}
use Rattle.icn_frames.specs.Stacks.{FlatStack, proc_of}
use Rattle.icn_frames.proofs.Locals.{get_other}
use Rattle.icn_frames.proofs.SoundStacks.{base_within, cell_at_on}

-- the frame stands among the cells
pub base_there : (s : List Cell) (r : Registers) → Sound s r → r.base ≤ length s
base_there s r t = subst (λ (n : ℕ). r.base ≤ n) (length-map s shape) (base_within (map shape s) r.base t.stands.leads.base)

-- cells on top

cell_at_over : (more s : List Cell) (h : ℕ) → h ≤ length s → cell_at h (more ++ s) ≡ cell_at h s
cell_at_over [] s h p = refl
cell_at_over (x ∷ more) s h p =
    let within : h ≤ length (more ++ s) = omega (arith, p, length-append more s) in
    cell_at_on x (more ++ s) h within ∙ cell_at_over more s h p

-- one more cell
pub runs_on : (x : Cell) (s : List Cell) (base proc : ℕ) → base ≤ length s → proc ≡ proc_of (cell_at base s) → proc ≡ proc_of (cell_at base (x ∷ s))
runs_on x s base proc within is = is ∙ sym (ap proc_of (cell_at_on x s base within))

-- one fewer
pub runs_off : (x : Cell) (s n : List Cell) (r : Registers) (proc : ℕ) → s ≡ x ∷ n → Sound n r → proc ≡ proc_of (cell_at r.base s)
    → proc ≡ proc_of (cell_at r.base n)
runs_off x s n r proc e t is = is ∙ ap (λ (w : List Cell). proc_of (cell_at r.base w)) e ∙ ap proc_of (cell_at_on x n r.base (base_there n r t))

-- a suspension with what is copied above it
pub runs_hung : (x : Cell) (s s' : List Cell) (r : Registers) (from to proc : ℕ) → Sound s r → s' ≡ with_copy from to (x ∷ s)
    → proc ≡ proc_of (cell_at r.base s) → proc ≡ proc_of (cell_at r.base s')
runs_hung x s s' r from to proc t e is =
    let within = base_there s r t in
    let more : r.base ≤ length (x ∷ s) = omega (arith, within) in
    is ∙ sym (ap proc_of
    (ap (λ (w : List Cell). cell_at r.base w) e ∙ cell_at_over (take (to - from) (cut to (x ∷ s))) (x ∷ s) r.base more ∙ cell_at_on x s r.base within))

-- and a result on top of it
pub runs_given : (y : Item) (x : Cell) (s s' after : List Cell) (r : Registers) (from to proc : ℕ) → Sound s r → s' ≡ with_copy from to (x ∷ s)
    → after ≡ Operand y ∷ s' → proc ≡ proc_of (cell_at r.base s) → proc ≡ proc_of (cell_at r.base after)
runs_given y x s s' after r from to proc t e top is =
    let over : List Cell = Operand y ∷ take (to - from) (cut to (x ∷ s)) in
    let within = base_there s r t in
    let more : r.base ≤ length (x ∷ s) = omega (arith, within) in
    is ∙ sym (ap proc_of
    (ap (λ (w : List Cell). cell_at r.base w) (top ∙ ap (λ (w : List Cell). Operand y ∷ w) e) ∙ cell_at_over over (x ∷ s) r.base more
    ∙ cell_at_on x s r.base within))

-- operands that are dropped
runs_under : (items : List Item) (n : List Cell) (base proc : ℕ) → base ≤ length n → proc ≡ proc_of (cell_at base (operands_above items n))
    → proc ≡ proc_of (cell_at base n)
runs_under [] n base proc within is = is
runs_under (x ∷ items) n base proc within is =
    let more : base ≤ length (Operand x ∷ n) = omega (arith, within) in
    runs_under items (Operand x ∷ n) base proc more is ∙ ap proc_of (cell_at_on (Operand x) n base within)

pub runs_dropped : (count : ℕ) (m : FlatStack) (n : List Cell) (proc : ℕ) → DropsWith count m (record m { cells = n }) → Sound n m.registers
    → proc ≡ proc_of (cell_at m.registers.base m.cells) → proc ≡ proc_of (cell_at m.registers.base n)
runs_dropped count m n proc d t is =
    let within = base_there n m.registers t in
    let more : m.registers.base ≤ length (Operand d.callee ∷ n) = omega (arith, within) in
    let cells : m.cells ≡ operands_above d.items (Operand d.callee ∷ n) = ap (λ (x : FlatStack). x.cells) d.was in
    runs_under d.items (Operand d.callee ∷ n) m.registers.base proc more (is ∙ ap (λ (w : List Cell). proc_of (cell_at m.registers.base w)) cells)
    ∙ ap proc_of (cell_at_on (Operand d.callee) n m.registers.base within)

-- another cell in the place of one

get_here : (s : List Cell) (k : ℕ) (x y : Cell) → slice_get s k ≡ Some x → slice_get (slice_set s k y) k ≡ Some y
get_here [] k x y is = cc
get_here (z ∷ s) zero x y is = refl
get_here (z ∷ s) (suc k) x y is = get_here s k x y is

get_same : (s : List Cell) (k i : ℕ) (x y : Cell) → slice_get s k ≡ Some x → proc_of (Some y) ≡ proc_of (Some x)
    → proc_of (slice_get (slice_set s k y) i) ≡ proc_of (slice_get s i)
get_same s k i x y there same = by_test (k == i) refl
  where
    by_test : (b : Bool) → (k == i) ≡ b → proc_of (slice_get (slice_set s k y) i) ≡ proc_of (slice_get s i)
    by_test true q =
        let here : k ≡ i = eqb-true _ _ q in
        subst (λ (n : ℕ). proc_of (slice_get (slice_set s k y) n) ≡ proc_of (slice_get s n)) here
        (ap proc_of (get_here s k x y there) ∙ same ∙ sym (ap proc_of there))
    by_test false q = ap proc_of (get_other s k i y (eqb-false _ _ q))

-- one that is no frame of another procedure
pub runs_same : (s s' : List Cell) (base h proc : ℕ) (x y : Cell) → cell_at h s ≡ Some x → proc_of (Some y) ≡ proc_of (Some x) → s' ≡ set_cell h y s
    → proc ≡ proc_of (cell_at base s) → proc ≡ proc_of (cell_at base s')
runs_same s s' base h proc x y there same e is =
    let long : length (set_cell h y s) ≡ length s = length-set s (length s - h) y in
    let here : proc_of (cell_at base (set_cell h y s)) ≡ proc_of (cell_at base s)
    = ap (λ (n : ℕ). proc_of (slice_get (set_cell h y s) (n - base))) long ∙ get_same s (length s - h) (length s - base) x y there same in
    is ∙ sym (ap (λ (w : List Cell). proc_of (cell_at base w)) e ∙ here)

-- one above the frame
pub runs_above : (s s' : List Cell) (base h proc : ℕ) (y : Cell) → base < h → h ≤ length s → s' ≡ set_cell h y s
    → proc ≡ proc_of (cell_at base s) → proc ≡ proc_of (cell_at base s')
runs_above s s' base h proc y above within e is =
    let long : length (set_cell h y s) ≡ length s = length-set s (length s - h) y in
    let apart : (length s - h ≡ length s - base) → ⊥ = λ q. omega arith in
    is ∙ sym (ap (λ (w : List Cell). proc_of (cell_at base w)) e
    ∙ ap (λ (n : ℕ). proc_of (slice_get (set_cell h y s) (n - base))) long
    ∙ ap proc_of (get_other s (length s - h) (length s - base) y apart))
