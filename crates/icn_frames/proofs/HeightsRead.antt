-- What was read at the heights of the registers.
use Rattle.std.proofs.Common.{◌≡◌, ℕ, zero, suc, ◌+◌, ◌-◌, ◌<◌, ◌≤◌, ◌==◌, Bool, true, false, List, [], ◌∷◌, length, map, slice_get, Option, Some, None, IsSome, is_some, ltb, refl, sym, ap, ◌∙◌, subst, arith}
use Rattle.std.proofs.lemmas.Bool.Decides.{nat_tests}
use Rattle.std.proofs.lemmas.List.{length-map}
use Rattle.std.proofs.lemmas.Option.{slice_get-map}
use Rattle.std.specs.Option.{option_map}
use Rattle.icn_frames.specs.Heights.{cell_at, set_cell}
use Rattle.icn_value.specs.declared.val.Val.{Val}
use Rattle.icn_value.specs.declared.item.Item.{Item}
use Rattle.icn_value.specs.declared.item.Pair.{Pair}
use Rattle.icn_frames.specs.declared.layout.Registers.{Registers}
use Rattle.icn_frames.specs.declared.layout.Why.{Why}
use Rattle.icn_frames.specs.declared.layout.Why.TheVariants.{Alt, Op, Scan, Escan, Proc}
use Rattle.icn_frames.specs.declared.layout.Cell.{Cell}
use Rattle.icn_frames.specs.declared.layout.Cell.TheVariants.{Base, Call, Local, Mark, Limit, Suspension, Operand}
use Rattle.icn_frames.specs.Slots.{operand_in, is_plain_cell, count_in, top_operand}
use Rattle.icn_frames.specs.Stacks.{FlatStack, pop, pop_from, put_above, is_base_cell, locals_of, relabel_at, count_down_at, older_scan, pair_at, SwapsAt}
use Rattle.icn_frames.specs.StackInvariant.{AMark, ALocal, shape, outer_of, IsFramed, IsMarked, IsSuspended, IsScan, KindAt, FrameAt, Sound, count_of}
use Rattle.icn_frames.proofs.SoundStacks.{at_height, base_within}
use Rattle.icn_frames.proofs.CellFacts.{kind_of_cell, frame_kind, call_is, suspension_is, newest_at, local_count_at, below_of}
use Rattle.icn_frames.proofs.SuspensionFrames.{marked_kind}
use Rattle.icn_frames.proofs.Locals.{local_cell}
use Rattle.icn_frames.proofs.Beside.{there}

-- the cell at a height at which there is something of a kind
pub cell_there : (s : List Cell) (h : ℕ) → 1 ≤ h → h ≤ length (map shape s) → (x : Cell) × (cell_at (h - 1 + 1) s ≡ Some x)
cell_there s h a b = let n : h - 1 < length s = omega (arith, length-map s shape) in there s (h - 1) n

pub below_length : (s : List Cell) (h : ℕ) → 1 ≤ h → h ≤ length (map shape s) → h - 1 < length s
below_length s h a b = omega (arith, length-map s shape)

-- a mark

marked_is : (x : Cell) → IsMarked (Some (shape x)) → (r : Registers) × (shape x ≡ AMark r)
marked_is (Mark label changed registers) k = (registers, refl)
marked_is (Limit count registers) k = (registers, refl)
marked_is (Base proc locals) k = absurd k
marked_is (Call proc locals level registers place) k = absurd k
marked_is (Local value) k = absurd k
marked_is (Suspension why registers place) k = absurd k
marked_is (Operand item) k = absurd k

pub mark_saved : (s : List Cell) (r saved : Registers) → Sound s r → (r.mark == r.base) ≡ false
    → ((x : Cell) (o : Registers) → cell_at (r.mark - 1 + 1) s ≡ Some x → outer_of (shape x) ≡ Some o → saved ≡ o)
    → (x : Cell) × (cell_at (r.mark - 1 + 1) s ≡ Some x) × (shape x ≡ AMark saved)
mark_saved s r saved t n f =
    let k = t.stands.leads.mark in
    let w = cell_there s r.mark k.from k.to in
    let m = marked_is w.0 (marked_kind s r w.0 t n w.1) in
    let e : saved ≡ m.0 = f w.0 m.0 w.1 (ap outer_of m.1) in
    (w.0, w.1, m.1 ∙ ap (λ (o : Registers). AMark o) (sym e))

-- a frame that was called

pub call_saved : (s : List Cell) (r saved : Registers) (address : ℕ) → Sound s r → is_base_cell (cell_at r.base s) ≡ false
    → ((x : Cell) (o : Registers) → cell_at (r.base - 1 + 1) s ≡ Some x → outer_of (shape x) ≡ Some o → saved ≡ o)
    → ((proc locals level : ℕ) (o : Registers) (place : ℕ) → cell_at (r.base - 1 + 1) s ≡ Some (Call proc locals level o place) → address ≡ place)
    → (proc : ℕ) × (locals : ℕ) × (level : ℕ) × (cell_at (r.base - 1 + 1) s ≡ Some (Call proc locals level saved address))
call_saved s r saved address t n f g =
    let k = frame_kind s r.base t.stands.leads.base in
    let w = cell_there s r.base k.from k.to in
    let b : is_base_cell (Some w.0) ≡ false = sym (ap is_base_cell (at_height s r.base w.0 k.from w.1)) ∙ n in
    let c = call_is w.0 (kind_of_cell IsFramed s r.base w.0 k w.1) b in
    let e : cell_at (r.base - 1 + 1) s ≡ Some (Call c.0 c.1 c.2 c.3 c.4) = w.1 ∙ ap (λ (x : Cell). Some x) c.5 in
    let p : saved ≡ c.3 = f (Call c.0 c.1 c.2 c.3 c.4) c.3 e refl in
    let q : address ≡ c.4 = g c.0 c.1 c.2 c.3 c.4 e in
    (c.0, c.1, c.2, e ∙ ap (λ (o : Registers). Some (Call c.0 c.1 c.2 o c.4)) (sym p) ∙ ap (λ (a : ℕ). Some (Call c.0 c.1 c.2 saved a)) (sym q))

-- the newest suspension

pub newest_saved : (s : List Cell) (r saved : Registers) (h : ℕ) (why : Why) (address : ℕ) → Sound s r → r.newest ≡ Some h
    → ((w : Why) (o : Registers) (place : ℕ) → cell_at (h - 1 + 1) s ≡ Some (Suspension w o place) → why ≡ w)
    → ((x : Cell) (o : Registers) → cell_at (h - 1 + 1) s ≡ Some x → outer_of (shape x) ≡ Some o → saved ≡ o)
    → ((w : Why) (o : Registers) (place : ℕ) → cell_at (h - 1 + 1) s ≡ Some (Suspension w o place) → address ≡ place)
    → cell_at (h - 1 + 1) s ≡ Some (Suspension why saved address)
newest_saved s r saved h why address t n e f g =
    let k = newest_at s r h t n in
    let w = cell_there s h k.from k.to in
    let c = suspension_is w.0 (kind_of_cell IsSuspended s h w.0 k w.1) in
    let a : cell_at (h - 1 + 1) s ≡ Some (Suspension c.0 c.1 c.2) = w.1 ∙ ap (λ (x : Cell). Some x) c.3 in
    let p : why ≡ c.0 = e c.0 c.1 c.2 a in
    let q : saved ≡ c.1 = f (Suspension c.0 c.1 c.2) c.1 a refl in
    let u : address ≡ c.2 = g c.0 c.1 c.2 a in
    a ∙ ap (λ (x : Why). Some (Suspension x c.1 c.2)) (sym p) ∙ ap (λ (o : Registers). Some (Suspension why o c.2)) (sym q)
    ∙ ap (λ (m : ℕ). Some (Suspension why saved m)) (sym u)

-- an open scan

scan_is : (x : Cell) → IsScan (Some (shape x)) → (pair : Pair) × (r : Registers) × (place : ℕ) × (x ≡ Suspension (Scan pair) r place)
scan_is (Suspension (Scan pair) r place) k = (pair, r, place, refl)
scan_is (Suspension Alt r place) k = absurd k
scan_is (Suspension (Op rest) r place) k = absurd k
scan_is (Suspension Escan r place) k = absurd k
scan_is (Suspension Proc r place) k = absurd k
scan_is (Base proc locals) k = absurd k
scan_is (Call proc locals level registers place) k = absurd k
scan_is (Local value) k = absurd k
scan_is (Mark label changed registers) k = absurd k
scan_is (Limit count registers) k = absurd k
scan_is (Operand item) k = absurd k

pub scan_there : (s : List Cell) (h : ℕ) → KindAt IsScan (map shape s) h
    → (pair : Pair) × (r : Registers) × (place : ℕ) × (cell_at (h - 1 + 1) s ≡ Some (Suspension (Scan pair) r place))
scan_there s h k =
    let w = cell_there s h k.from k.to in
    let c = scan_is w.0 (kind_of_cell IsScan s h w.0 k w.1) in
    (c.0, c.1, c.2, w.1 ∙ ap (λ (x : Cell). Some x) c.3)

pub older_read : (s : List Cell) (h : ℕ) (saved : Registers) → KindAt IsScan (map shape s) h
    → ((x : Cell) (o : Registers) → cell_at (h - 1 + 1) s ≡ Some x → outer_of (shape x) ≡ Some o → saved ≡ o)
    → saved.scan ≡ older_scan s (Some h)
older_read s h saved k f =
    let w = scan_there s h k in
    let e : saved ≡ w.1 = f (Suspension (Scan w.0) w.1 w.2) w.1 w.3 refl in
    let a : cell_at h s ≡ Some (Suspension (Scan w.0) w.1 w.2) = at_height s h (Suspension (Scan w.0) w.1 w.2) k.from w.3 in
    cc

pub pair_read : (s : List Cell) (h : ℕ) (pair : Pair) → KindAt IsScan (map shape s) h
    → ((p : Pair) (o : Registers) (place : ℕ) → cell_at (h - 1 + 1) s ≡ Some (Suspension (Scan p) o place) → pair ≡ p)
    → Some pair ≡ pair_at s (Some h)
pair_read s h pair k f =
    let w = scan_there s h k in
    let e : pair ≡ w.0 = f w.0 w.1 w.2 w.3 in
    let a : cell_at h s ≡ Some (Suspension (Scan w.0) w.1 w.2) = at_height s h (Suspension (Scan w.0) w.1 w.2) k.from w.3 in
    cc

pub pair_swapped : (s s' : List Cell) (h : ℕ) (pair new : Pair) → KindAt IsScan (map shape s) h
    → ((p : Pair) (o : Registers) (place : ℕ) → cell_at (h - 1 + 1) s ≡ Some (Suspension (Scan p) o place) → pair ≡ p)
    → ((p : Pair) (o : Registers) (place : ℕ) → cell_at (h - 1 + 1) s ≡ Some (Suspension (Scan p) o place)
    → s' ≡ set_cell (h - 1 + 1) (Suspension (Scan new) o place) s)
    → SwapsAt h new s pair s'
pair_swapped s s' h pair new k f g =
    let w = scan_there s h k in
    let e : pair ≡ w.0 = f w.0 w.1 w.2 w.3 in
    let p : h - 1 + 1 ≡ h = omega (arith, k.from) in
    let a : cell_at h s ≡ Some (Suspension (Scan w.0) w.1 w.2) = at_height s h (Suspension (Scan w.0) w.1 w.2) k.from w.3 in
    record {
      registers = w.1;
      address = w.2;
      was = a ∙ ap (λ (q : Pair). Some (Suspension (Scan q) w.1 w.2)) (sym e);
      is = g w.0 w.1 w.2 w.3 ∙ ap (λ (n : ℕ). set_cell n (Suspension (Scan new) w.1 w.2) s) p;
    }

-- a frame has its place below the top
pub frame_below : (s : List Cell) (h : ℕ) → FrameAt (map shape s) h → h - 1 < length s
frame_below s h f = below_length s h f.from (base_within (map shape s) h f)

-- a local

pub local_there : (s : List Cell) (r : Registers) (i : ℕ) → Sound s r → i < locals_of (cell_at r.base s)
    → (v : Val) × (cell_at (r.base + i + 1) s ≡ Some (Local v))
local_there s r i t p =
    let q : i < count_of (cell_at r.base (map shape s)) = subst (λ (w : ℕ). i < w) (local_count_at s r.base) p in
    let h : option_map shape (cell_at (r.base + i + 1) s) ≡ Some ALocal
    = sym (slice_get-map shape s (length s - (r.base + i + 1))) ∙ ap (λ (x : ℕ). slice_get (map shape s) (x - (r.base + i + 1))) (sym (length-map s shape))
    ∙ t.stands.leads.base.locals i q in
    local_cell (cell_at (r.base + i + 1) s) h

pub local_within : (s : List Cell) (r : Registers) (i : ℕ) → Sound s r → i < locals_of (cell_at r.base s) → r.base + i < length s
local_within s r i t p = omega (arith, t.stands.leads.base.to, local_count_at s r.base, length-map s shape)

-- operands

pub operand_top : (m : FlatStack) (s : List Cell) → is_some (operand_in (slice_get s 0)) ≡ is_some (pop_from m s)
operand_top m [] = refl
operand_top m (Operand item ∷ s) = refl
operand_top m (Base proc locals ∷ s) = refl
operand_top m (Call proc locals level registers place ∷ s) = refl
operand_top m (Local value ∷ s) = refl
operand_top m (Mark label changed registers ∷ s) = refl
operand_top m (Limit count registers ∷ s) = refl
operand_top m (Suspension why registers place ∷ s) = refl

pub operand_popped : (m : FlatStack) (s : List Cell) → IsSome (pop_from m s) → IsSome (top_operand s)
operand_popped m [] k = cc
operand_popped m (Operand item ∷ s) k = refl
operand_popped m (Base proc locals ∷ s) k = cc
operand_popped m (Call proc locals level registers place ∷ s) k = cc
operand_popped m (Local value ∷ s) k = cc
operand_popped m (Mark label changed registers ∷ s) k = cc
operand_popped m (Limit count registers ∷ s) k = cc
operand_popped m (Suspension why registers place ∷ s) k = cc

pub has_top : (m : FlatStack) (n : ℕ) (b : Bool) → n ≡ length m.cells → 1 ≤ n → b ≡ is_some (operand_in (cell_at (n - 1 + 1) m.cells)) → b ≡ is_some (pop m)
has_top m n b e p k =
    let q : length m.cells - (n - 1 + 1) ≡ 0 = omega arith in
    k ∙ ap (λ (w : ℕ). is_some (operand_in (slice_get m.cells w))) q ∙ operand_top m m.cells

pub not_empty : (s : List Cell) (r : Registers) → Sound s r → 1 ≤ length s
not_empty s r t = omega (arith, t.stands.leads.base.from, t.stands.leads.base.to, length-map s shape)

pub operand_below : (o : Option Cell) → operand_in o ≡ below_of o
operand_below None = refl
operand_below (Some (Operand item)) = refl
operand_below (Some (Base proc locals)) = refl
operand_below (Some (Call proc locals level registers place)) = refl
operand_below (Some (Local value)) = refl
operand_below (Some (Mark label changed registers)) = refl
operand_below (Some (Limit count registers)) = refl
operand_below (Some (Suspension why registers place)) = refl

-- labels and counts

pub plain_relabels : (label : ℕ) (m : FlatStack) (o : Option Cell) → is_plain_cell o ≡ is_some (relabel_at label m o)
plain_relabels label m None = refl
plain_relabels label m (Some (Mark old changed registers)) = refl
plain_relabels label m (Some (Operand item)) = refl
plain_relabels label m (Some (Base proc locals)) = refl
plain_relabels label m (Some (Call proc locals level registers place)) = refl
plain_relabels label m (Some (Local value)) = refl
plain_relabels label m (Some (Limit count registers)) = refl
plain_relabels label m (Some (Suspension why registers place)) = refl

pub plain_is : (label : ℕ) (m : FlatStack) (o : Option Cell) → IsSome (relabel_at label m o)
    → (old : Option ℕ) × (changed : Bool) × (r : Registers) × (o ≡ Some (Mark old changed r))
plain_is label m (Some (Mark old changed registers)) k = (old, changed, registers, refl)
plain_is label m None k = cc
plain_is label m (Some (Operand item)) k = cc
plain_is label m (Some (Base proc locals)) k = cc
plain_is label m (Some (Call proc locals level registers place)) k = cc
plain_is label m (Some (Local value)) k = cc
plain_is label m (Some (Limit count registers)) k = cc
plain_is label m (Some (Suspension why registers place)) k = cc

pub count_tested : (m : FlatStack) (o : Option Cell) → ltb 0 (count_in o) ≡ is_some (count_down_at m o)
count_tested m (Some (Limit zero registers)) = refl
count_tested m (Some (Limit (suc n) registers)) = let p : 0 < suc n = omega arith in let k : ltb 0 (suc n) ≡ true = grind (arith, nat_tests) in k
count_tested m None = refl
count_tested m (Some (Mark old changed registers)) = refl
count_tested m (Some (Operand item)) = refl
count_tested m (Some (Base proc locals)) = refl
count_tested m (Some (Call proc locals level registers place)) = refl
count_tested m (Some (Local value)) = refl
count_tested m (Some (Suspension why registers place)) = refl

pub counted_is : (m : FlatStack) (o : Option Cell) → IsSome (count_down_at m o) → (n : ℕ) × (r : Registers) × (o ≡ Some (Limit (suc n) r))
counted_is m (Some (Limit (suc n) registers)) k = (n, registers, refl)
counted_is m (Some (Limit zero registers)) k = cc
counted_is m None k = cc
counted_is m (Some (Mark old changed registers)) k = cc
counted_is m (Some (Operand item)) k = cc
counted_is m (Some (Base proc locals)) k = cc
counted_is m (Some (Call proc locals level registers place)) k = cc
counted_is m (Some (Local value)) k = cc
counted_is m (Some (Suspension why registers place)) k = cc

-- locals above a frame that was put on top

pub framed_above : (values : List Val) (x : Cell) (s s1 s2 s3 : List Cell) → s3 ≡ put_above values s2 → s2 ≡ x ∷ s1 → s1 ≡ s → s3 ≡ put_above values (x ∷ s)
framed_above values x s s1 s2 s3 a b c = a ∙ ap (put_above values) (b ∙ ap (λ (w : List Cell). x ∷ w) c)

pub height_above : (x : Cell) (s s1 s2 : List Cell) (n : ℕ) → n ≡ length s2 → s2 ≡ x ∷ s1 → s1 ≡ s → n ≡ suc (length s)
height_above x s s1 s2 n a b c = a ∙ ap length b ∙ ap (λ (w : List Cell). suc (length w)) c

-- the top operand, and what stands without it

pub some_is : {T : Type 0} (o : Option T) → IsSome o → (x : T) × (o ≡ Some x)
some_is (Some x) k = (x, refl)
some_is None k = cc

pub popped_is : (m : FlatStack) (s : List Cell) (x : Item) (rest : FlatStack) → pop_from m s ≡ Some (x, rest)
    → (below : List Cell) × (s ≡ Operand x ∷ below) × (rest ≡ record m { cells = below })
popped_is m (Operand item ∷ s) x rest e =
    let q : (item, record m { cells = s }) ≡ (x, rest) = cc in
    (s, ap (λ (p : Item × FlatStack). Operand p.0 ∷ s) q, sym (ap (λ (p : Item × FlatStack). p.1) q))
popped_is m [] x rest e = cc
popped_is m (Base proc locals ∷ s) x rest e = cc
popped_is m (Call proc locals level registers place ∷ s) x rest e = cc
popped_is m (Local value ∷ s) x rest e = cc
popped_is m (Mark label changed registers ∷ s) x rest e = cc
popped_is m (Limit count registers ∷ s) x rest e = cc
popped_is m (Suspension why registers place ∷ s) x rest e = cc

pub top_at : (m : FlatStack) (n : ℕ) (x : Item) (rest : FlatStack) → n ≡ length m.cells → 1 ≤ n → pop m ≡ Some (x, rest)
    → cell_at (n - 1 + 1) m.cells ≡ Some (Operand x)
top_at m n x rest k p e =
    let w = popped_is m m.cells x rest e in
    let q : length m.cells - (n - 1 + 1) ≡ 0 = omega arith in
    ap (λ (i : ℕ). slice_get m.cells i) q ∙ ap (λ (s : List Cell). slice_get s 0) w.1
