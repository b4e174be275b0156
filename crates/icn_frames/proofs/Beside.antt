-- What slots stand for, with what is kept beside them.
use Rattle.std.proofs.Common.{◌≡◌, ℕ, zero, suc, ◌+◌, ◌-◌, ◌<◌, ◌≤◌, List, [], ◌∷◌, length, slice_get, slice_set, Some, IsSome, refl, sym, ap, ◌∙◌, subst, arith, length-drop}
use Rattle.icn_frames.specs.Heights.{cut, cell_at, set_cell}
use Rattle.icn_frames.specs.declared.layout.Cell.{Cell}
use Rattle.icn_frames.specs.declared.slots.Control.{Control}
use Rattle.icn_frames.specs.declared.slots.Extra.{Extra}
use Rattle.icn_frames.specs.declared.slots.StackSlot.{StackSlot}
use Rattle.icn_frames.specs.Slots.{cell_of, control_at, extra_at, placed_cell, cells_of, ControlsElsewhere, ExtrasElsewhere, top_operand}
use Rattle.icn_value.specs.declared.item.Item.{Item}
use Rattle.icn_value.specs.declared.item.Pair.{Pair}
use Rattle.icn_frames.specs.declared.layout.Why.TheVariants as Whys
use Rattle.icn_frames.specs.declared.layout.Registers.{Registers}
use Rattle.icn_frames.specs.declared.layout.Cell.TheVariants.{Base, Call, Local, Mark, Limit, Suspension, Operand}
use Rattle.icn_frames.specs.StackInvariant.{shape, outer_of}
use Rattle.icn_frames.proofs.SlotFacts.{saved_is, return_is, pair_is, pair_set}
use Rattle.icn_frames.proofs.Numbered.{length_numbered, numbered_cut, numbered_at, numbered_set, numbered_push}

pub within : (controls : List Control) (extras : List Extra) (slots : List StackSlot) (i : ℕ) → i < length (cells_of controls extras slots) → i < length slots
within controls extras slots i p = omega (arith, length_numbered (placed_cell controls extras) slots)

-- the cell of a slot that was read
pub shown : (controls : List Control) (extras : List Extra) (slots : List StackSlot) (i : ℕ) (x : StackSlot) → i < length (cells_of controls extras slots)
    → cell_at (i + 1) slots ≡ Some x
    → cell_at (i + 1) (cells_of controls extras slots) ≡ Some (cell_of (control_at controls i) (extra_at extras i) x)
shown controls extras slots i x p e = numbered_at (placed_cell controls extras) slots i x (within controls extras slots i p) e

-- and the other way round, once it is known to be something
pub shown_is : (controls : List Control) (extras : List Extra) (slots : List StackSlot) (i : ℕ) (x : StackSlot) (cell : Cell)
    → i < length (cells_of controls extras slots)
    → cell_at (i + 1) slots ≡ Some x → cell_at (i + 1) (cells_of controls extras slots) ≡ Some cell
    → cell_of (control_at controls i) (extra_at extras i) x ≡ cell
shown_is controls extras slots i x cell p e k = let s = shown controls extras slots i x p e in cc

-- another slot on top, with what is kept beside it
pub pushed : (controls controls' : List Control) (extras extras' : List Extra) (slots slots' : List StackSlot) (slot : StackSlot) (cell : Cell)
    → slots' ≡ slot ∷ slots
    → ((i : ℕ) → (i ≡ length slots → ⊥) → control_at controls' i ≡ control_at controls i)
    → ExtrasElsewhere (length slots) extras extras'
    → cell_of (control_at controls' (length slots)) (extra_at extras' (length slots)) slot ≡ cell
    → cells_of controls' extras' slots' ≡ cell ∷ cells_of controls extras slots
pushed controls controls' extras extras' slots slots' slot cell s a b e =
    ap (cells_of controls' extras') s ∙ numbered_push (placed_cell controls extras) (placed_cell controls' extras') slots slot cell
    (λ i p z.
    let d : (i ≡ length slots) → ⊥ = λ k. omega arith in
    ap (λ (w : Control). cell_of w (extra_at extras i) z) (sym (a i d)) ∙ ap (λ (w : Extra). cell_of (control_at controls' i) w z) (sym (b i d)))
    e

-- another slot in the place of one, with what is kept beside it
pub placed : (controls : List Control) (extras extras' : List Extra) (slots slots' : List StackSlot) (at : ℕ) (slot : StackSlot) (cell : Cell)
    → at < length slots
    → slots' ≡ set_cell (at + 1) slot slots → ExtrasElsewhere at extras extras'
    → cell_of (control_at controls at) (extra_at extras' at) slot ≡ cell
    → cells_of controls extras' slots' ≡ set_cell (at + 1) cell (cells_of controls extras slots)
placed controls extras extras' slots slots' at slot cell p s b e =
    ap (cells_of controls extras') s ∙ numbered_set (placed_cell controls extras) (placed_cell controls extras') slots at slot p
    (λ j q d z. ap (λ (w : Extra). cell_of (control_at controls j) w z) (sym (b j d)))
    ∙ ap (λ (w : Cell). set_cell (at + 1) w (cells_of controls extras slots)) e

-- the same with other controls beside it
pub placed_beside : (controls controls' : List Control) (extras : List Extra) (slots slots' : List StackSlot) (at : ℕ) (slot : StackSlot) (cell : Cell)
    → at < length slots
    → slots' ≡ set_cell (at + 1) slot slots → ControlsElsewhere at controls controls'
    → cell_of (control_at controls' at) (extra_at extras at) slot ≡ cell
    → cells_of controls' extras slots' ≡ set_cell (at + 1) cell (cells_of controls extras slots)
placed_beside controls controls' extras slots slots' at slot cell p s a e =
    ap (cells_of controls' extras) s ∙ numbered_set (placed_cell controls extras) (placed_cell controls' extras) slots at slot p
    (λ j q d z. ap (λ (w : Control). cell_of w (extra_at extras j) z) (sym (a j d)))
    ∙ ap (λ (w : Cell). set_cell (at + 1) w (cells_of controls extras slots)) e

-- what is kept beside a slot that was not read

get_there : {T : Type 0} (s : List T) (n : ℕ) → n < length s → (x : T) × (slice_get s n ≡ Some x)
get_there [] n p = absurd (omega arith)
get_there (x ∷ s) zero p = (x, refl)
get_there (x ∷ s) (suc n) p = let q : n < length s = omega arith in get_there s n q

pub there : {T : Type 0} (s : List T) (i : ℕ) → i < length s → (x : T) × (cell_at (i + 1) s ≡ Some x)
there s i p = let q : length s - (i + 1) < length s = omega arith in get_there s (length s - (i + 1)) q

pub saved_there : (controls : List Control) (extras : List Extra) (slots : List StackSlot) (i : ℕ) (cell : Cell) (saved : Registers)
    → i < length (cells_of controls extras slots)
    → cell_at (i + 1) (cells_of controls extras slots) ≡ Some cell → outer_of (shape cell) ≡ Some saved → (control_at controls i).saved ≡ saved
saved_there controls extras slots i cell saved p e o =
    let t = there slots i (within controls extras slots i p) in
    saved_is (control_at controls i) (extra_at extras i) t.0 saved
    (ap (λ (w : Cell). outer_of (shape w)) (shown_is controls extras slots i t.0 cell p t.1 e) ∙ o)

pub return_there : (controls : List Control) (extras : List Extra) (slots : List StackSlot) (i : ℕ) (proc locals level : ℕ) (saved : Registers) (address : ℕ)
    → i < length (cells_of controls extras slots)
    → cell_at (i + 1) (cells_of controls extras slots) ≡ Some (Call proc locals level saved address) → (control_at controls i).address ≡ address
return_there controls extras slots i proc locals level saved address p e =
    let t = there slots i (within controls extras slots i p) in
    return_is (control_at controls i) (extra_at extras i) t.0 proc locals level saved address
    (shown_is controls extras slots i t.0 (Call proc locals level saved address) p t.1 e)

pub pair_there : (controls : List Control) (extras : List Extra) (slots : List StackSlot) (i : ℕ) (pair : Pair) (saved : Registers) (address : ℕ)
    → i < length (cells_of controls extras slots)
    → cell_at (i + 1) (cells_of controls extras slots) ≡ Some (Suspension (Whys.Scan pair) saved address) → (extra_at extras i).pair ≡ pair
pair_there controls extras slots i pair saved address p e =
    let t = there slots i (within controls extras slots i p) in
    pair_is (control_at controls i) (extra_at extras i) t.0 pair saved address
    (shown_is controls extras slots i t.0 (Suspension (Whys.Scan pair) saved address) p t.1 e)

set_same : {T : Type 0} (s : List T) (n : ℕ) (x : T) → slice_get s n ≡ Some x → slice_set s n x ≡ s
set_same [] n x e = cc
set_same (y ∷ s) zero x e = let k : y ≡ x = cc in ap (λ w. w ∷ s) (sym k)
set_same (y ∷ s) (suc n) x e = ap (λ w. y ∷ w) (set_same s n x e)

pub pair_placed : (controls : List Control) (extras extras' : List Extra) (slots : List StackSlot) (i : ℕ) (pair new : Pair) (saved : Registers) (address : ℕ)
    → i < length (cells_of controls extras slots)
    → cell_at (i + 1) (cells_of controls extras slots) ≡ Some (Suspension (Whys.Scan pair) saved address)
    → (extra_at extras' i).pair ≡ new → ExtrasElsewhere i extras extras'
    → cells_of controls extras' slots ≡ set_cell (i + 1) (Suspension (Whys.Scan new) saved address) (cells_of controls extras slots)
pair_placed controls extras extras' slots i pair new saved address p e n k =
    let t = there slots i (within controls extras slots i p) in
    placed controls extras extras' slots slots i t.0 (Suspension (Whys.Scan new) saved address) (within controls extras slots i p)
    (sym (set_same slots (length slots - (i + 1)) t.0 t.1)) k
    (pair_set (control_at controls i) (extra_at extras i) (extra_at extras' i) t.0 pair saved address
    (shown_is controls extras slots i t.0 (Suspension (Whys.Scan pair) saved address) p t.1 e)
    ∙ ap (λ (w : Pair). Suspension (Whys.Scan w) saved address) n)

-- the top one is taken

operand_top : (cell : Cell) (rest : List Cell) → IsSome (top_operand (cell ∷ rest)) → (x : Item) × (cell ≡ Operand x)
operand_top (Operand x) rest k = (x, refl)
operand_top (Base proc locals) rest k = cc
operand_top (Call proc locals level registers place) rest k = cc
operand_top (Local value) rest k = cc
operand_top (Mark label changed registers) rest k = cc
operand_top (Limit count registers) rest k = cc
operand_top (Suspension why registers place) rest k = cc

pub popped : (controls : List Control) (extras : List Extra) (slots slots' : List StackSlot) (slot : StackSlot) (n : ℕ) (x : Item)
    → slots ≡ slot ∷ slots' → n ≡ length slots' → IsSome (top_operand (cells_of controls extras slots))
    → ((control : Control) (y : Item) → cell_of control (extra_at extras n) slot ≡ Operand y → x ≡ y)
    → cells_of controls extras slots ≡ Operand x ∷ cells_of controls extras slots'
popped controls extras slots slots' slot n x s m k h =
    let a : cells_of controls extras slots
    ≡ cell_of (control_at controls (length slots')) (extra_at extras (length slots')) slot
    ∷ cells_of controls extras slots' = ap (cells_of controls extras) s in
    let t = operand_top _ _ (subst (λ (w : List Cell). IsSome (top_operand w)) a k) in
    let e : x
    ≡ t.0 = h (control_at controls (length slots')) t.0 (ap (λ (w : ℕ). cell_of (control_at controls (length slots')) (extra_at extras w) slot) m ∙ t.1) in
    a ∙ ap (λ (w : Cell). w ∷ cells_of controls extras slots') (t.1 ∙ ap (λ (w : Item). Operand w) (sym e))

-- some are dropped

pub length_cut : {T : Type 0} (n : ℕ) (s : List T) → n ≤ length s → length (cut n s) ≡ n
length_cut n s p = omega (arith, length-drop (length s - n) s)

pub cut_cells : (controls : List Control) (extras : List Extra) (slots slots' : List StackSlot) (n : ℕ) → slots' ≡ cut n slots
    → cells_of controls extras slots' ≡ cut n (cells_of controls extras slots)
cut_cells controls extras slots slots' n e = ap (cells_of controls extras) e ∙ numbered_cut (placed_cell controls extras) n slots
