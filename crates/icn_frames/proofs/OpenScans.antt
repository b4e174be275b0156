-- The open scans, from the newest to older ones.
use Rattle.std.proofs.Common.{◌≡◌, ℕ, zero, suc, ◌+◌, ◌-◌, ◌<◌, ◌≤◌, Bool, true, false, List, ◌∷◌, length, map, Option, Some, None, IsSome, refl, sym, ap, ◌∙◌, subst, arith, length-drop}
use Rattle.std.proofs.lemmas.List.{length-map}
use Rattle.icn_frames.specs.Heights.{cut, cell_at}
use Rattle.icn_frames.specs.declared.layout.Registers.{Registers}
use Rattle.icn_value.specs.declared.item.Pair.{Pair}
use Rattle.icn_frames.specs.declared.layout.Cell.{Cell}
use Rattle.icn_frames.specs.declared.layout.Cell.TheVariants.{Base, Call, Local, Mark, Limit, Suspension, Operand}
use Rattle.icn_frames.specs.Stacks.{FlatStack, older_scan, scan_of, is_same, oldest_from, oldest, pair_at, unmark_from, unmark, scan_chosen}
use Rattle.icn_frames.specs.StackInvariant.{AMark, shape, outer_of, IsScan, KindAt, MayBeAt, RegistersLead, RegistersFit, Fit, Sound, MaySave}
use Rattle.icn_frames.proofs.SoundStacks.{map_drop, fit_drop, cut_at}
use Rattle.icn_frames.proofs.CellFacts.{within_cells}
use Rattle.icn_frames.proofs.SuspensionFrames.{leads_lower}

abbrev pub height_of : Option ℕ → ℕ
height_of None = 0
height_of (Some h) = h

pub lower_may : (s : List Cell) (to : ℕ) (r : Registers) → to ≤ length s → RegistersLead (map shape (cut to s)) r → height_of r.scan ≤ to
lower_may s to r h l = at r.scan l.scan
  where
    at : (w : Option ℕ) → MayBeAt IsScan (map shape (cut to s)) w → height_of w ≤ to
    at None k = omega arith
    at (Some n) k = omega (arith, k.to, length-map (cut to s) shape, length-drop (length s - to) s)

pub saved_stands : (s : List Cell) (h : ℕ) (x : Cell) (outer : Registers) → Fit (map shape s) → 1 ≤ h → h ≤ length s → cell_at h s ≡ Some x
    → outer_of (shape x) ≡ Some outer → RegistersFit (map shape (cut (h - 1) s)) outer
saved_stands s h x outer t a b e o =
    let p : h - 1 + 1 ≡ h = omega arith in
    let c : cut h s ≡ x ∷ cut (h - 1) s = cut_at s h x a b (ap (λ (n : ℕ). cell_at n s) p ∙ e) in
    let f : Fit (map shape (cut h s)) = subst Fit (sym (map_drop shape (length s - h) s)) (fit_drop (length s - h) (map shape s) t) in
    let k : Fit (map shape (x ∷ cut (h - 1) s)) = subst (λ (w : List Cell). Fit (map shape w)) c f in
    subst (λ (w : Option Registers). MaySave (map shape (cut (h - 1) s)) w) o k.0

-- the older one is there, and lower
pub record Lower (s : List Cell) (h : ℕ) (scan : Option ℕ) : Type 0 where
  pub below : height_of scan < h
  pub is : MayBeAt IsScan (map shape s) scan

pub older_at : (s : List Cell) (h : ℕ) (c : Option Cell) → cell_at h s ≡ c → 1 ≤ h → h ≤ length s → Fit (map shape s) → Lower s h (scan_of c)
older_at s h (Some (Suspension why r place)) e a b t =
    let l = saved_stands s h (Suspension why r place) r t a b e refl in
    let n : h - 1 ≤ length s = omega arith in
    record { below = omega (arith, lower_may s (h - 1) r n l.leads); is = (leads_lower s (h - 1) r l.leads).scan }
older_at s h (Some (Base proc locals)) e a b t = record { below = omega arith; is = tt }
older_at s h (Some (Call proc locals level registers place)) e a b t = record { below = omega arith; is = tt }
older_at s h (Some (Local value)) e a b t = record { below = omega arith; is = tt }
older_at s h (Some (Mark label changed registers)) e a b t = record { below = omega arith; is = tt }
older_at s h (Some (Limit count registers)) e a b t = record { below = omega arith; is = tt }
older_at s h (Some (Operand item)) e a b t = record { below = omega arith; is = tt }
older_at s h None e a b t = record { below = omega arith; is = tt }

pub older_lower : (s : List Cell) (h : ℕ) → Fit (map shape s) → KindAt IsScan (map shape s) h → Lower s h (older_scan s (Some h))
older_lower s h t k = older_at s h (cell_at h s) refl k.from (within_cells s h k.to) t

-- the test of a step, with what comes where it fails
same_case : (b : Bool) (a c d : Option ℕ) → c ≡ d → elim b as (λ x. Option ℕ) [ true ↦ a | false ↦ c ] ≡ elim b as (λ x. Option ℕ) [ true ↦ a | false ↦ d ]
same_case true a c d e = refl
same_case false a c d e = e

none_case : (b : Bool) (c : Option ℕ) → c ≡ None → elim b as (λ x. Option ℕ) [ true ↦ None | false ↦ c ] ≡ None
none_case true c e = refl
none_case false c e = e

pub oldest_none : (n : ℕ) (s : List Cell) (until : Option ℕ) → oldest_from n s until None ≡ None
oldest_none zero s until = refl
oldest_none (suc n) s until = none_case (is_same None until) (oldest_from n s until None) (oldest_none n s until)

pub enough : (n k : ℕ) (s : List Cell) (until scan : Option ℕ) → Fit (map shape s) → MayBeAt IsScan (map shape s) scan → height_of scan ≤ n → height_of scan ≤ k
    → oldest_from n s until scan ≡ oldest_from k s until scan
enough n k s until None t m p q = oldest_none n s until ∙ sym (oldest_none k s until)
enough zero k s until (Some h) t m p q = absurd (omega (arith, m.from))
enough (suc n) zero s until (Some h) t m p q = absurd (omega (arith, m.from))
enough (suc n) (suc k) s until (Some h) t m p q =
    let l = older_lower s h t m in
    same_case (is_same (older_scan s (Some h)) until) (Some h) (oldest_from n s until (older_scan s (Some h))) (oldest_from k s until (older_scan s (Some h)))
    (enough n k s until (older_scan s (Some h)) t l.is (omega (arith, l.below)) (omega (arith, l.below)))

pub oldest_on : (s : List Cell) (until : Option ℕ) (h : ℕ) → Fit (map shape s) → KindAt IsScan (map shape s) h → is_same (older_scan s (Some h)) until ≡ false
    → oldest_from (length s) s until (Some h) ≡ oldest_from (length s) s until (older_scan s (Some h))
oldest_on s until h t k e =
    let b : h ≤ length s = within_cells s h k.to in
    let p : length s ≡ suc (length s - 1) = omega (arith, k.from) in
    let l = older_lower s h t k in
    ap (λ (n : ℕ). oldest_from n s until (Some h)) p
    ∙ ap (λ (w : Bool). elim w as (λ x. Option ℕ) [ true ↦ Some h | false ↦ oldest_from (length s - 1) s until (older_scan s (Some h)) ]) e
    ∙ enough (length s - 1) (length s) s until (older_scan s (Some h)) t l.is (omega (arith, l.below)) (omega (arith, l.below))

-- dropping a mark

pub unmarked_is : (m : FlatStack) (x : Cell) (below : List Cell) (r : Registers) → shape x ≡ AMark r
    → unmark_from m (x ∷ below) ≡ Some (record m { cells = below; registers = r }, pair_at m.cells (oldest r.scan m))
unmarked_is m (Mark label changed registers) below r e = let k : registers ≡ r = cc in ap (λ (w : Registers). unmark_from m (Mark label changed w ∷ below)) k
unmarked_is m (Limit count registers) below r e = let k : registers ≡ r = cc in ap (λ (w : Registers). unmark_from m (Limit count w ∷ below)) k
unmarked_is m (Base proc locals) below r e = cc
unmarked_is m (Call proc locals level registers place) below r e = cc
unmarked_is m (Local value) below r e = cc
unmarked_is m (Suspension why registers place) below r e = cc
unmarked_is m (Operand item) below r e = cc

pub unmark_is : (m : FlatStack) (x : Cell) (s' : List Cell) (r : Registers) (pair : Option Pair) → Sound m.cells m.registers
    → cell_at (m.registers.mark - 1 + 1) m.cells ≡ Some x → shape x ≡ AMark r
    → s' ≡ cut (m.registers.mark - 1) m.cells → pair ≡ pair_at m.cells (oldest r.scan m)
    → unmark m ≡ Some (record { cells = s'; registers = r; address = m.address }, pair)
unmark_is m x s' r pair t k e b p =
    let F : List Cell → Option Pair → Option (FlatStack × Option Pair) = λ v w. Some (record { cells = v; registers = r; address = m.address }, w) in
    ap (unmark_from m) (cut_at m.cells m.registers.mark x t.stands.leads.mark.from (within_cells m.cells m.registers.mark t.stands.leads.mark.to) k)
    ∙ unmarked_is m x (cut (m.registers.mark - 1) m.cells) r e
    ∙ ap (λ (v : List Cell). F v (pair_at m.cells (oldest r.scan m))) (sym b)
    ∙ ap (F s') (sym p)

-- exchanging a pair

some_case : (n : ℕ) (s : List Cell) (h : ℕ) (o : Option ℕ) → ((k : ℕ) → IsSome (oldest_from n s None (Some k)))
    → IsSome (elim (is_same o None) as (λ x. Option ℕ) [ true ↦ Some h | false ↦ oldest_from n s None o ])
some_case n s h None f = refl
some_case n s h (Some k) f = f k

pub never_none : (n : ℕ) (s : List Cell) (h : ℕ) → IsSome (oldest_from n s None (Some h))
never_none zero s h = refl
never_none (suc n) s h = some_case n s h (older_scan s (Some h)) (never_none n s)

pub oldest_some : (m : FlatStack) (scan : Option ℕ) → m.registers.scan ≡ scan → IsSome scan → IsSome (oldest None m)
oldest_some m None e k = cc
oldest_some m (Some h) e k =
    let F : Option ℕ → Type 0 = λ w. IsSome (elim (is_same w None) as (λ x. Option ℕ) [ true ↦ None | false ↦ oldest_from (length m.cells) m.cells None w ]) in
    subst F (sym e) (never_none (length m.cells) m.cells h)

pub scan_some : (old : Bool) (m : FlatStack) → IsSome m.registers.scan → IsSome (scan_chosen old m)
scan_some true m k = oldest_some m m.registers.scan refl k
scan_some false m k = k
