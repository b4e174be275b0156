-- How stacks stay sound.
use Rattle.std.proofs.Common.{◌≡◌, ℕ, zero, suc, ◌+◌, ◌-◌, ◌<◌, ◌≤◌, ◌==◌, Bool, true, false, List, [], ◌∷◌, ◌++◌, length, take, drop, map, slice_get, Option, Some, None, refl, sym, ap, ◌∙◌, subst, arith, length-drop, zero-add}
use Rattle.std.proofs.lemmas.Bool.Decides.{nat_tests}
use Rattle.std.proofs.lemmas.Bool.{cases_lt}
use Rattle.std.proofs.lemmas.List.{length-map, take-append-drop}
use Rattle.std.proofs.Common.{inl, inr}
use Rattle.icn_frames.specs.Heights.{cut, cell_at, with_copy}
use Rattle.icn_frames.specs.declared.layout.Registers.{Registers}
use Rattle.icn_value.specs.declared.item.Item.{Item}
use Rattle.icn_frames.specs.declared.layout.Why.{Why}
use Rattle.icn_frames.specs.declared.layout.Cell.{Cell}
use Rattle.icn_frames.specs.declared.layout.Cell.TheVariants.{Base, Call, Local, Mark, Limit, Suspension, Operand}
use Rattle.icn_frames.specs.Stacks.{mark_cell, copy_up}
use Rattle.icn_frames.specs.StackInvariant.{CellKind, is_scan, AMark, ASuspension, ALocal, AnOperand, shape, outer_of, operand_count, IsFramed, IsMarked, IsSuspended, IsScan, count_of, bottom_from, bottom, KindAt, MayBeAt, FrameAt, MarkOr, RegistersLead, RegistersFit, MaySave, Fit, Sound}

-- one more cell on top

pub cell_at_on : {T : Type 0} (x : T) (s : List T) (h : ℕ) → h ≤ length s → cell_at h (x ∷ s) ≡ cell_at h s
cell_at_on {T} x s h p =
    let e : suc (length s) - h ≡ suc (length s - h) = omega arith in
    ap (λ (n : ℕ). slice_get (x ∷ s) n) e

-- the newest cell stands at the height of the stack
pub cell_at_top : {T : Type 0} (x : T) (s : List T) → cell_at (suc (length s)) (x ∷ s) ≡ Some x
cell_at_top {T} x s =
    let e : suc (length s) - suc (length s) ≡ 0 = omega arith in
    ap (λ (n : ℕ). slice_get (x ∷ s) n) e

pub kind_on : {Kind : Option CellKind → Type 0} (x : CellKind) (s : List CellKind) (h : ℕ) → KindAt Kind s h → KindAt Kind (x ∷ s) h
kind_on {Kind} x s h k =
    let e = cell_at_on x s h k.to in
    let n : h ≤ suc (length s) = omega arith in
    record { from = k.from; to = n; is = subst Kind (sym e) k.is }

pub maybe_on : (Kind : Option CellKind → Type 0) (x : CellKind) (s : List CellKind) (h : Option ℕ) → MayBeAt Kind s h → MayBeAt Kind (x ∷ s) h
maybe_on Kind x s None k = tt
maybe_on Kind x s (Some h) k = kind_on {Kind = Kind} x s h k

pub base_within : (s : List CellKind) (h : ℕ) → FrameAt s h → h ≤ length s
base_within s h f = omega (arith, f.to)

pub frame_on : (x : CellKind) (s : List CellKind) (h : ℕ) → FrameAt s h → FrameAt (x ∷ s) h
frame_on x s h f =
    let e : cell_at h (x ∷ s) ≡ cell_at h s = cell_at_on x s h (base_within s h f) in
    let c : count_of (cell_at h (x ∷ s)) ≡ count_of (cell_at h s) = ap count_of e in
    let n : h + count_of (cell_at h (x ∷ s)) ≤ suc (length s) = omega (arith, c, f.to) in
    record {
      from = f.from;
      to = n;
      is = subst IsFramed (sym e) f.is;
      locals = λ k p.
          let q : k < count_of (cell_at h s) = subst (λ (w : ℕ). k < w) c p in
          let m : h + k + 1 ≤ length s = omega (arith, q, f.to) in
          cell_at_on x s (h + k + 1) m ∙ f.locals k q;
    }

pub leads_on : (x : CellKind) (s : List CellKind) (r : Registers) → RegistersLead s r → RegistersLead (x ∷ s) r
leads_on x s r l = record {
  base = frame_on x s r.base l.base;
  mark = kind_on {Kind = MarkOr (r.mark == r.base)} x s r.mark l.mark;
  newest = maybe_on IsSuspended x s r.newest l.newest;
  scan = maybe_on IsScan x s r.scan l.scan;
}

pub bottom_on : (x : CellKind) (s : List CellKind) (r : Registers) → RegistersLead s r → bottom (x ∷ s) r ≡ bottom s r
bottom_on x s r l =
    ap (λ (w : Option CellKind). bottom_from r.newest (r.mark == r.base) r.mark (r.base + count_of w)) (cell_at_on x s r.base (base_within s r.base l.base))

pub stands_push : (s : List CellKind) (r : Registers) → RegistersFit s r → RegistersFit (AnOperand ∷ s) r
stands_push s r t =
    let e = bottom_on AnOperand s r t.leads in
    let n : suc (operand_count s) + bottom (AnOperand ∷ s) r ≡ suc (length s) = omega (arith, e, t.top) in
    record { leads = leads_on AnOperand s r t.leads; top = n }

pub sound_push : (x : Item) (cells : List Cell) (r : Registers) → Sound cells r → Sound (Operand x ∷ cells) r
sound_push x cells r t = record { stands = stands_push (map shape cells) r t.stands; fit = (tt, t.fit) }

-- what lies below a height

-- mapping and dropping may change their order
pub map_drop : {A B : Type 0} (f : A → B) (n : ℕ) (s : List A) → map f (drop n s) ≡ drop n (map f s)
map_drop f zero s = refl
map_drop f (suc n) [] = refl
map_drop f (suc n) (x ∷ s) = map_drop f n s

pub fit_drop : (n : ℕ) (s : List CellKind) → Fit s → Fit (drop n s)
fit_drop zero s f = f
fit_drop (suc n) [] f = f
fit_drop (suc n) (x ∷ s) f = fit_drop n s f.1

pub drop_get : {T : Type 0} (n : ℕ) (s : List T) (x : T) → slice_get s n ≡ Some x → drop n s ≡ x ∷ drop (suc n) s
drop_get n [] x e = cc
drop_get zero (y ∷ s) x e = cc
drop_get (suc n) (y ∷ s) x e = drop_get n s x e

-- what `get` gives, with all below
pub cut_at : {T : Type 0} (s : List T) (h : ℕ) (x : T) → 1 ≤ h → h ≤ length s → cell_at (h - 1 + 1) s ≡ Some x → cut h s ≡ x ∷ cut (h - 1) s
cut_at {T} s h x a b e =
    let p : length s - (h - 1 + 1) ≡ length s - h = omega arith in
    let q : length s - (h - 1) ≡ suc (length s - h) = omega arith in
    drop_get (length s - h) s x (ap (λ (n : ℕ). slice_get s n) (sym p) ∙ e) ∙ ap (λ (n : ℕ). x ∷ drop n s) (sym q)

-- a height counts from 1, so that the cell below and one more is the cell at it
pub at_height : {T : Type 0} (s : List T) (h : ℕ) (x : T) → 1 ≤ h → cell_at (h - 1 + 1) s ≡ Some x → cell_at h s ≡ Some x
at_height {T} s h x a e =
    let p : h ≡ h - 1 + 1 = omega arith in
    ap (λ (n : ℕ). cell_at n s) p ∙ e

pub get_map : {A B : Type 0} (f : A → B) (s : List A) (n : ℕ) (x : A) → slice_get s n ≡ Some x → slice_get (map f s) n ≡ Some (f x)
get_map f [] n x e = cc
get_map f (y ∷ s) zero x e = cc
get_map f (y ∷ s) (suc n) x e = get_map f s n x e

pub shape_at : (s : List Cell) (h : ℕ) (x : Cell) → cell_at h s ≡ Some x → cell_at h (map shape s) ≡ Some (shape x)
shape_at s h x e = rw (length-map s shape) (get_map shape s (length s - h) x e)

pub sound_saved : (s : List Cell) (r : Registers) (h : ℕ) (x : Cell) (below : List Cell) (outer : Registers) → Sound s r → cut h s ≡ x ∷ below
    → outer_of (shape x) ≡ Some outer → Sound below outer
sound_saved s r h x below outer t e o =
    let f : Fit (map shape (cut h s)) = subst Fit (sym (map_drop shape (length s - h) s)) (fit_drop (length s - h) (map shape s) t.fit) in
    let k : Fit (map shape (x ∷ below)) = subst (λ (w : List Cell). Fit (map shape w)) e f in
    record { stands = subst (λ (w : Option Registers). MaySave (map shape below) w) o k.0; fit = k.1 }

-- marks

pub not_above : (b h : ℕ) → b < h → (h == b) ≡ false
not_above b h p = grind (arith, nat_tests)

pub stands_open : (s : List CellKind) (r : Registers) → RegistersFit s r → RegistersFit (AMark r ∷ s) (record r { mark = suc (length s); newest = None })
stands_open s r t =
    let b : r.base ≤ length s = base_within s r.base t.leads.base in
    let n : (suc (length s) == r.base) ≡ false = not_above r.base (suc (length s)) (omega arith) in
    let w : 1 ≤ suc (length s) = omega arith in
    let v : suc (length s) ≤ suc (length s) = omega arith in
    record {
      leads = record {
        base = frame_on (AMark r) s r.base t.leads.base;
        mark = record {
          from = w;
          to = v;
          is = subst (λ (q : Option CellKind). MarkOr (suc (length s) == r.base) q) (sym (cell_at_top (AMark r) s))
              (subst (λ (q : Bool). MarkOr q (Some (AMark r))) (sym n) tt);
        };
        newest = tt;
        scan = maybe_on IsScan (AMark r) s r.scan t.leads.scan;
      };
      top = zero-add _ ∙ ap (λ (q : Bool). bottom_from None q (suc (length s)) (r.base + count_of (cell_at r.base (AMark r ∷ s)))) n;
    }

pub shape_mark_cell : (label count : Option ℕ) (r : Registers) → shape (mark_cell label count r) ≡ AMark r
shape_mark_cell label None r = refl
shape_mark_cell label (Some n) r = refl

pub sound_open : (label count : Option ℕ) (cells : List Cell) (r : Registers) (n : ℕ) → n ≡ suc (length cells) → Sound cells r
    → Sound (mark_cell label count r ∷ cells) (record r { mark = n; newest = None })
sound_open label count cells r n e t =
    let k : n ≡ suc (length (map shape cells)) = rw (length-map cells shape) e in
    let x : AMark r ≡ shape (mark_cell label count r) = sym (shape_mark_cell label count r) in
    record {
      stands = subst (λ (w : CellKind). RegistersFit (w ∷ map shape cells) (record r { mark = n; newest = None })) x
          (subst (λ (w : ℕ). RegistersFit (AMark r ∷ map shape cells) (record r { mark = w; newest = None })) (sym k)
          (stands_open (map shape cells) r t.stands));
      fit = subst (λ (w : CellKind). Fit (w ∷ map shape cells)) x (t.stands, t.fit);
    }

-- the top cell is an operand, so nothing leads to it

pub not_top : (Kind : Option CellKind → Type 0) (s : List CellKind) (h : ℕ) → (Kind (Some AnOperand) → ⊥) → h ≤ suc (length s)
    → Kind (cell_at h (AnOperand ∷ s))
    → h ≤ length s
not_top Kind s h never to is = elim (cases_lt h (suc (length s))) as (λ w. h ≤ length s) [
  | inl p ↦ omega arith
  | inr p ↦
      let e : h ≡ suc (length s) = omega arith in
      absurd (never (subst Kind (ap (λ (n : ℕ). cell_at n (AnOperand ∷ s)) e ∙ cell_at_top AnOperand s) is))
]

pub kind_off : {Kind : Option CellKind → Type 0} (s : List CellKind) (h : ℕ) → (Kind (Some AnOperand) → ⊥) → KindAt Kind (AnOperand ∷ s) h → KindAt Kind s h
kind_off {Kind} s h never k =
    let n : h ≤ length s = not_top Kind s h never k.to k.is in
    record { from = k.from; to = n; is = subst Kind (cell_at_on AnOperand s h n) k.is }

pub maybe_off : (Kind : Option CellKind → Type 0) (s : List CellKind) (h : Option ℕ) → (Kind (Some AnOperand) → ⊥) → MayBeAt Kind (AnOperand ∷ s) h
    → MayBeAt Kind s h
maybe_off Kind s None never k = tt
maybe_off Kind s (Some h) never k = kind_off {Kind = Kind} s h never k

pub frame_off : (s : List CellKind) (h : ℕ) → FrameAt (AnOperand ∷ s) h → FrameAt s h
frame_off s h f =
    let n : h ≤ length s = not_top IsFramed s h (λ x. x) (omega (arith, f.to)) f.is in
    let e : cell_at h (AnOperand ∷ s) ≡ cell_at h s = cell_at_on AnOperand s h n in
    let c : count_of (cell_at h (AnOperand ∷ s)) ≡ count_of (cell_at h s) = ap count_of e in
    let there : (k : ℕ) → k < count_of (cell_at h s) → (h + k + 1 ≤ length s) × (cell_at (h + k + 1) s ≡ Some ALocal)
    = λ k p.
    let q : k < count_of (cell_at h (AnOperand ∷ s)) = subst (λ (w : ℕ). k < w) (sym c) p in
    let a : cell_at (h + k + 1) (AnOperand ∷ s) ≡ Some ALocal = f.locals k q in
    let m : h + k + 1 ≤ length s = not_top (λ (w : Option CellKind). w ≡ Some ALocal) s (h + k + 1) (λ x. cc) (omega (arith, q, f.to)) a in
    (m, sym (cell_at_on AnOperand s (h + k + 1) m) ∙ a) in
    let to : h + count_of (cell_at h s) ≤ length s
    = elim (cases_lt 0 (count_of (cell_at h s))) as (λ w. h + count_of (cell_at h s) ≤ length s) [
      | inl p ↦ omega (arith, (there (count_of (cell_at h s) - 1) (omega arith)).0)
      | inr p ↦ omega arith
    ] in
    record { from = f.from; to = to; is = subst IsFramed e f.is; locals = λ k p. (there k p).1 }

pub same : (a b : ℕ) → (a == b) ≡ true → a ≡ b
same a b e = grind (arith, nat_tests)

pub mark_off : (b : Bool) (s : List CellKind) (h base : ℕ) → (b ≡ true → h ≡ base) → base ≤ length s → KindAt (MarkOr b) (AnOperand ∷ s) h
    → KindAt (MarkOr b) s h
mark_off true s h base e n k = let m : h ≤ length s = omega (arith, e refl) in record { from = k.from; to = m; is = tt }
mark_off false s h base e n k = kind_off {Kind = IsMarked} s h (λ x. x) k

pub stands_pop : (s : List CellKind) (r : Registers) → RegistersFit (AnOperand ∷ s) r → RegistersFit s r
stands_pop s r t =
    let f : FrameAt s r.base = frame_off s r.base t.leads.base in
    let l : RegistersLead s r = record {
      base = f;
      mark = mark_off (r.mark == r.base) s r.mark r.base (λ e. same r.mark r.base e) (base_within s r.base f) t.leads.mark;
      newest = maybe_off IsSuspended s r.newest (λ x. x) t.leads.newest;
      scan = maybe_off IsScan s r.scan (λ x. x) t.leads.scan;
    } in
    let n : operand_count s + bottom s r ≡ length s = omega (arith, bottom_on AnOperand s r l, t.top) in
    record { leads = l; top = n }

pub sound_pop : (x : Item) (cells below : List Cell) (r : Registers) → cells ≡ Operand x ∷ below → Sound cells r → Sound below r
sound_pop x cells below r e t =
    let k : Sound (Operand x ∷ below) r = subst (λ (w : List Cell). Sound w r) e t in
    record { stands = stands_pop (map shape below) r k.stands; fit = k.fit.1 }

-- suspending: something that leads to a lower part leads to the same with more on top

pub leads_above : (above s : List CellKind) (r : Registers) → RegistersLead s r → RegistersLead (above ++ s) r
leads_above [] s r l = l
leads_above (x ∷ above) s r l = leads_on x (above ++ s) r (leads_above above s r l)

pub stands_suspended : (b : Bool) (s : List CellKind) (r r0 : Registers) (scan : Option ℕ) → RegistersLead s r0 → MayBeAt IsScan (ASuspension b r ∷ s) scan
    → RegistersFit (ASuspension b r ∷ s) (record r0 { newest = Some (suc (length s)); scan = scan })
stands_suspended b s r r0 scan l k =
    let w : 1 ≤ suc (length s) = omega arith in
    let v : suc (length s) ≤ suc (length s) = omega arith in
    record {
      leads = record {
        base = frame_on (ASuspension b r) s r0.base l.base;
        mark = kind_on {Kind = MarkOr (r0.mark == r0.base)} (ASuspension b r) s r0.mark l.mark;
        newest = record { from = w; to = v; is = subst IsSuspended (sym (cell_at_top (ASuspension b r) s)) tt };
        scan = k;
      };
      top = zero-add _;
    }

-- the operands on top of a part are copied onto what stands

pub sound_copy : (s onto : List Cell) (r : Registers) → Sound onto r → Sound (copy_up s onto) r
sound_copy [] onto r t = t
sound_copy (Operand x ∷ s) onto r t = sound_push x (copy_up s onto) r (sound_copy s onto r t)
sound_copy (Base proc locals ∷ s) onto r t = t
sound_copy (Call proc locals level registers place ∷ s) onto r t = t
sound_copy (Local value ∷ s) onto r t = t
sound_copy (Mark label changed registers ∷ s) onto r t = t
sound_copy (Limit count registers ∷ s) onto r t = t
sound_copy (Suspension why registers place ∷ s) onto r t = t

pub copy_up_is : (s onto : List Cell) → copy_up s onto ≡ take (operand_count (map shape s)) s ++ onto
copy_up_is [] onto = refl
copy_up_is (Operand x ∷ s) onto = ap (λ (w : List Cell). Operand x ∷ w) (copy_up_is s onto)
copy_up_is (Base proc locals ∷ s) onto = refl
copy_up_is (Call proc locals level registers place ∷ s) onto = refl
copy_up_is (Local value ∷ s) onto = refl
copy_up_is (Mark label changed registers ∷ s) onto = refl
copy_up_is (Limit count registers ∷ s) onto = refl
copy_up_is (Suspension why registers place ∷ s) onto = refl

-- `s` is all that stands, with registers r, and `below` a part of it to which the registers r0 belong; the code copies the cells between two heights
pub sound_suspend : (why : Why) (s below : List Cell) (r r0 : Registers) (place n : ℕ) (scan : Option ℕ) (to : ℕ)
    → Sound s r → below ≡ cut to s → Sound below r0 → n ≡ suc (length s) → MayBeAt IsScan (map shape (Suspension why r place ∷ s)) scan
    → Sound (copy_up below (Suspension why r place ∷ s)) (record r0 { newest = Some n; scan = scan })
sound_suspend why s below r r0 place n scan to t b u e k =
    let sp : List CellKind = map shape s in
    let d : RegistersLead (take (length s - to) sp ++ drop (length s - to) sp) r0
    = leads_above (take (length s - to) sp) (drop (length s - to) sp) r0
    (subst (λ (w : List CellKind). RegistersLead w r0) (ap (map shape) b ∙ map_drop shape (length s - to) s) u.stands.leads) in
    let l : RegistersLead sp r0 = subst (λ (w : List CellKind). RegistersLead w r0) (take-append-drop (length s - to) sp) d in
    let top : RegistersFit (map shape (Suspension why r place ∷ s)) (record r0 { newest = Some (suc (length sp)); scan = scan })
    = stands_suspended (is_scan why) sp r r0 scan l k in
    let same_n : suc (length sp) ≡ n = ap (λ (w : ℕ). suc w) (length-map s shape) ∙ sym e in
    sound_copy below (Suspension why r place ∷ s) (record r0 { newest = Some n; scan = scan })
    (record {
      stands = subst (λ (w : ℕ). RegistersFit (map shape (Suspension why r place ∷ s)) (record r0 { newest = Some w; scan = scan })) same_n top;
      fit = (t.stands, t.fit);
    })

-- what the code copies is what the definition copies
pub copied_is : (x : Cell) (s below : List Cell) (r0 : Registers) (from to : ℕ) → Sound below r0 → to ≤ length s → below ≡ cut to s
    → from ≡ bottom (map shape below) r0
    → with_copy from to (x ∷ s) ≡ copy_up below (x ∷ s)
copied_is x s below r0 from to u h b f =
    let e : suc (length s) - to ≡ suc (length s - to) = omega arith in
    let c : cut to (x ∷ s) ≡ below = ap (λ (n : ℕ). drop n (x ∷ s)) e ∙ sym b in
    let len : length below ≡ to = ap length b ∙ omega (arith, length-drop (length s - to) s) in
    let n : to - from ≡ operand_count (map shape below) = omega (arith, u.stands.top, f, len, length-map below shape) in
    ap (λ (w : List Cell). take (to - from) w ++ x ∷ s) c ∙ ap (λ (w : ℕ). take w below ++ x ∷ s) n ∙ sym (copy_up_is below (x ∷ s))
