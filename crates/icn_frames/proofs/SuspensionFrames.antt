-- A suspension frame with what is copied above it.
use Rattle.std.proofs.Common.{◌≡◌, ℕ, suc, ◌+◌, ◌-◌, ◌≤◌, ◌==◌, Bool, true, false, List, [], ◌∷◌, ◌++◌, length, take, drop, map, Option, Some, None, refl, sym, ap, ◌∙◌, subst, arith, length-drop, add-one}
use Rattle.std.proofs.lemmas.List.{length-map, take-append-drop}
use Rattle.std.proofs.lemmas.Bool.Decides.{nat_tests}
use Rattle.icn_frames.specs.Heights.{cut, cell_at, with_copy}
use Rattle.icn_frames.specs.declared.layout.Registers.{Registers}
use Rattle.icn_frames.specs.declared.layout.Why.{Why}
use Rattle.icn_frames.specs.declared.layout.Why.TheVariants.{Alt, Op, Scan, Escan, Proc}
use Rattle.icn_frames.specs.declared.layout.Cell.{Cell}
use Rattle.icn_frames.specs.declared.layout.Cell.TheVariants.{Base, Call, Local, Mark, Limit, Suspension, Operand}
use Rattle.icn_frames.specs.Stacks.{FlatStack, copy_up, suspend, suspend_mark, suspend_mark_from, suspend_onto, suspend_proc, suspend_proc_from, older_scan, scan_of, scan_by}
use Rattle.icn_frames.specs.StackInvariant.{CellKind, AMark, ASuspension, shape, IsMarked, IsScan, bottom, bottom_from, count_of, MayBeAt, MarkOr, RegistersLead, Sound}
use Rattle.icn_frames.proofs.SoundStacks.{cell_at_top, leads_above, bottom_on, maybe_on, map_drop, sound_suspend, copied_is, cut_at, base_within, at_height, shape_at}
use Rattle.icn_frames.proofs.CellFacts.{sound_cut, within_cells, kind_of_cell}

-- what a lower part leads to, the whole leads to

pub split_is : (s : List Cell) (to : ℕ) → take (length s - to) (map shape s) ++ map shape (cut to s) ≡ map shape s
split_is s to =
    ap (λ (w : List CellKind). take (length s - to) (map shape s) ++ w) (map_drop shape (length s - to) s) ∙ take-append-drop (length s - to) (map shape s)

pub leads_lower : (s : List Cell) (to : ℕ) (r : Registers) → RegistersLead (map shape (cut to s)) r → RegistersLead (map shape s) r
leads_lower s to r l =
    subst (λ (w : List CellKind). RegistersLead w r) (split_is s to) (leads_above (take (length s - to) (map shape s)) (map shape (cut to s)) r l)

pub bottom_above : (above s : List CellKind) (r : Registers) → RegistersLead s r → bottom (above ++ s) r ≡ bottom s r
bottom_above [] s r l = refl
bottom_above (x ∷ above) s r l = bottom_on x (above ++ s) r (leads_above above s r l) ∙ bottom_above above s r l

pub bottom_lower : (s : List Cell) (to : ℕ) (r : Registers) → RegistersLead (map shape (cut to s)) r → bottom (map shape s) r ≡ bottom (map shape (cut to s)) r
bottom_lower s to r l =
    ap (λ (w : List CellKind). bottom w r) (sym (split_is s to)) ∙ bottom_above (take (length s - to) (map shape s)) (map shape (cut to s)) r l

pub order_lower : (s : List Cell) (to from : ℕ) (r : Registers) → Sound (cut to s) r → to ≤ length s → from ≡ bottom (map shape s) r → from ≤ to
order_lower s to from r t h e =
    omega (arith, bottom_lower s to r t.stands.leads, t.stands.top, length-map (cut to s) shape, length-drop (length s - to) s)

pub cut_all : {T : Type 0} (s : List T) → cut (length s) s ≡ s
cut_all s = let e : length s - length s ≡ 0 = omega arith in ap (λ (n : ℕ). drop n s) e

-- the code's cells are the definition's

pub hung_is : (x : Cell) (s s' : List Cell) (r0 : Registers) (from to : ℕ) → Sound (cut to s) r0 → to ≤ length s
    → from ≡ bottom (map shape s) r0
    → s' ≡ with_copy from to (x ∷ s) → s' ≡ copy_up (cut to s) (x ∷ s)
hung_is x s s' r0 from to t h e n = n ∙ copied_is x s (cut to s) r0 from to t h refl (e ∙ bottom_lower s to r0 t.stands.leads)

pub sound_hung : (why : Why) (s s' : List Cell) (r r0 : Registers) (place n from to : ℕ) (scan : Option ℕ)
    → Sound s r → Sound (cut to s) r0 → to ≤ length s → from ≡ bottom (map shape s) r0 → n ≡ length s + 1
    → MayBeAt IsScan (map shape (Suspension why r place ∷ s)) scan
    → s' ≡ with_copy from to (Suspension why r place ∷ s) → Sound s' (record r0 { newest = Some n; scan = scan })
sound_hung why s s' r r0 place n from to scan t u h e m k b =
    subst (λ (w : List Cell). Sound w (record r0 { newest = Some n; scan = scan })) (sym (hung_is (Suspension why r place) s s' r0 from to u h e b))
    (sound_suspend why s (cut to s) r r0 place n scan to t refl u (m ∙ add-one (length s)) k)

pub scan_lower : (why : Why) (s : List Cell) (to place : ℕ) (r r0 : Registers) → Sound (cut to s) r0
    → MayBeAt IsScan (map shape (Suspension why r place ∷ s)) r0.scan
scan_lower why s to place r r0 t = maybe_on IsScan (shape (Suspension why r place)) (map shape s) r0.scan (leads_lower s to r0 t.stands.leads).scan

abbrev stack_of : List Cell → Registers → ℕ → Option FlatStack
stack_of cells r place = Some (record { cells = cells; registers = r; address = place })

-- the code's cells for the definition's
same_cells : (cells s' : List Cell) (r : Registers) (place : ℕ) → s' ≡ cells → stack_of cells r place ≡ stack_of s' r place
same_cells cells s' r place e = ap (λ (w : List Cell). stack_of w r place) (sym e)

-- a mark

pub mark_suspended_is : (m : FlatStack) (x : Cell) (below : List Cell) (r : Registers) → shape x ≡ AMark r
    → suspend_mark_from m (x ∷ below) ≡ Some (suspend_onto Alt m below r m.address)
mark_suspended_is m (Mark label changed registers) below r e =
    let k : registers ≡ r = cc in ap (λ (w : Registers). suspend_mark_from m (Mark label changed w ∷ below)) k
mark_suspended_is m (Limit count registers) below r e = let k : registers ≡ r = cc in ap (λ (w : Registers). suspend_mark_from m (Limit count w ∷ below)) k
mark_suspended_is m (Base proc locals) below r e = cc
mark_suspended_is m (Call proc locals level registers place) below r e = cc
mark_suspended_is m (Local value) below r e = cc
mark_suspended_is m (Suspension why registers place) below r e = cc
mark_suspended_is m (Operand item) below r e = cc

pub marked_kind : (s : List Cell) (r : Registers) (x : Cell) → Sound s r → (r.mark == r.base) ≡ false → cell_at (r.mark - 1 + 1) s ≡ Some x
    → IsMarked (Some (shape x))
marked_kind s r x t e k =
    let a : MarkOr (r.mark == r.base) (Some (shape x)) = kind_of_cell (MarkOr (r.mark == r.base)) s r.mark x t.stands.leads.mark k in
    subst (λ (b : Bool). MarkOr b (Some (shape x))) e a

pub suspend_mark_is : (m : FlatStack) (x : Cell) (s' : List Cell) (r0 : Registers) (n from : ℕ) → Sound m.cells m.registers
    → cell_at (m.registers.mark - 1 + 1) m.cells ≡ Some x → shape x ≡ AMark r0 → Sound (cut (m.registers.mark - 1) m.cells) r0
    → from ≡ bottom (map shape m.cells) r0 → n ≡ length m.cells + 1
    → s' ≡ with_copy from (m.registers.mark - 1) (Suspension Alt m.registers m.address ∷ m.cells)
    → suspend_mark m ≡ Some (record { cells = s'; registers = record r0 { newest = Some n }; address = m.address })
suspend_mark_is m x s' r0 n from t k e u f h b =
    let h1 : 1 ≤ m.registers.mark = t.stands.leads.mark.from in
    let h2 : m.registers.mark ≤ length m.cells = within_cells m.cells m.registers.mark t.stands.leads.mark.to in
    let h3 : m.registers.mark - 1 ≤ length m.cells = omega arith in
    let F : ℕ → Option FlatStack = λ w. Some (record {
      cells = copy_up (cut (m.registers.mark - 1) m.cells) (Suspension Alt m.registers m.address ∷ m.cells);
      registers = record r0 { newest = Some w };
      address = m.address;
    }) in
    ap (λ (w : List Cell). suspend_mark_from m w) (cut_at m.cells m.registers.mark x h1 h2 k)
    ∙ mark_suspended_is m x (cut (m.registers.mark - 1) m.cells) r0 e
    ∙ ap F (sym (h ∙ add-one (length m.cells)))
    ∙ same_cells (copy_up (cut (m.registers.mark - 1) m.cells) (Suspension Alt m.registers m.address ∷ m.cells)) s'
    (record r0 { newest = Some n }) m.address
    (hung_is (Suspension Alt m.registers m.address) m.cells s' r0 from (m.registers.mark - 1) u h3 f b)

-- a procedure

pub suspend_proc_is : (m : FlatStack) (proc locals level place : ℕ) (s' : List Cell) (r0 : Registers) (n from : ℕ)
    → Sound m.cells m.registers
    → cell_at (m.registers.base - 1 + 1) m.cells ≡ Some (Call proc locals level r0 place) → Sound (cut (m.registers.base - 1) m.cells) r0
    → from ≡ bottom (map shape m.cells) r0 → n ≡ length m.cells + 1
    → s' ≡ with_copy from (m.registers.base - 1) (Suspension Proc m.registers m.address ∷ m.cells)
    → suspend_proc m ≡ Some (record { cells = s'; registers = record r0 { newest = Some n }; address = place })
suspend_proc_is m proc locals level place s' r0 n from t k u f h b =
    let h1 : 1 ≤ m.registers.base = t.stands.leads.base.from in
    let h2 : m.registers.base ≤ length m.cells = within_cells m.cells m.registers.base (base_within (map shape m.cells) m.registers.base t.stands.leads.base) in
    let h3 : m.registers.base - 1 ≤ length m.cells = omega arith in
    let F : ℕ → Option FlatStack = λ w. Some (record {
      cells = copy_up (cut (m.registers.base - 1) m.cells) (Suspension Proc m.registers m.address ∷ m.cells);
      registers = record r0 { newest = Some w };
      address = place;
    }) in
    ap (λ (w : List Cell). suspend_proc_from m w) (cut_at m.cells m.registers.base (Call proc locals level r0 place) h1 h2 k)
    ∙ ap F (sym (h ∙ add-one (length m.cells)))
    ∙ same_cells (copy_up (cut (m.registers.base - 1) m.cells) (Suspension Proc m.registers m.address ∷ m.cells)) s' (record r0 { newest = Some n }) place
    (hung_is (Suspension Proc m.registers m.address) m.cells s' r0 from (m.registers.base - 1) u h3 f b)

-- the innermost mark goes on

pub sound_all : (s : List Cell) (r : Registers) → Sound s r → Sound (cut (length s) s) r
sound_all s r t = subst (λ (w : List Cell). Sound w r) (sym (cut_all s)) t

pub suspend_is : (m : FlatStack) (why : Why) (s' : List Cell) (scan : Option ℕ) (n from : ℕ) → Sound m.cells m.registers
    → from ≡ bottom (map shape m.cells) m.registers → n ≡ length m.cells + 1 → scan ≡ scan_by why n (older_scan m.cells m.registers.scan) m.registers.scan
    → s' ≡ with_copy from (length m.cells) (Suspension why m.registers m.address ∷ m.cells)
    → Some (suspend why m) ≡ Some (record { cells = s'; registers = record m.registers { newest = Some n; scan = scan }; address = m.address })
suspend_is m why s' scan n from t f h q b =
    let p : length m.cells ≤ length m.cells = omega arith in
    let F : List Cell → ℕ → Option FlatStack = λ v w. Some (record {
      cells = copy_up v (Suspension why m.registers m.address ∷ m.cells);
      registers = record m.registers { newest = Some w; scan = scan_by why w (older_scan m.cells m.registers.scan) m.registers.scan };
      address = m.address;
    }) in
    let G : Option ℕ
    → Option FlatStack = λ w. Some (record { cells = s'; registers = record m.registers { newest = Some n; scan = w }; address = m.address }) in
    ap (λ (w : ℕ). F m.cells w) (sym (h ∙ add-one (length m.cells)))
    ∙ ap (λ (v : List Cell). F v n) (sym (cut_all m.cells))
    ∙ same_cells (copy_up (cut (length m.cells) m.cells) (Suspension why m.registers m.address ∷ m.cells)) s'
    (record m.registers { newest = Some n; scan = scan_by why n (older_scan m.cells m.registers.scan) m.registers.scan }) m.address
    (hung_is (Suspension why m.registers m.address) m.cells s' m.registers from (length m.cells) (sound_all m.cells m.registers t) p f b)
    ∙ ap G (sym q)

-- the scans that are open

pub older_at : (s : List Cell) (r : Registers) (h : ℕ) (c : Option Cell) → cell_at h s ≡ c → 1 ≤ h → h ≤ length s → Sound s r
    → MayBeAt IsScan (map shape s) (scan_of c)
older_at s r h (Some (Suspension why r0 place)) e a b t =
    let p : h - 1 + 1 ≡ h = omega arith in
    (leads_lower s (h - 1) r0
    (sound_cut s (cut (h - 1) s) r h (Suspension why r0 place) r0 t a b (ap (λ (n : ℕ). cell_at n s) p ∙ e) refl refl).stands.leads).scan
older_at s r h (Some (Base proc locals)) e a b t = tt
older_at s r h (Some (Call proc locals level registers place)) e a b t = tt
older_at s r h (Some (Local value)) e a b t = tt
older_at s r h (Some (Mark label changed registers)) e a b t = tt
older_at s r h (Some (Limit count registers)) e a b t = tt
older_at s r h (Some (Operand item)) e a b t = tt
older_at s r h None e a b t = tt

pub older_in : (s : List Cell) (r : Registers) (scan : Option ℕ) → Sound s r → MayBeAt IsScan (map shape s) scan
    → MayBeAt IsScan (map shape s) (older_scan s scan)
older_in s r None t k = tt
older_in s r (Some h) t k = older_at s r h (cell_at h s) refl k.from (within_cells s h k.to) t

pub scan_here : (why : Why) (s : List Cell) (r : Registers) (place n : ℕ) (scan : Option ℕ) → Sound s r → n ≡ length s + 1
    → scan ≡ scan_by why n (older_scan s r.scan) r.scan → MayBeAt IsScan (map shape (Suspension why r place ∷ s)) scan
scan_here why s r place n scan t h e =
    subst (λ (w : Option ℕ). MayBeAt IsScan (map shape (Suspension why r place ∷ s)) w) (sym e) (here why)
  where
    on : (y : Why) (w : Option ℕ) → MayBeAt IsScan (map shape s) w → MayBeAt IsScan (map shape (Suspension y r place ∷ s)) w
    on y w k = maybe_on IsScan (shape (Suspension y r place)) (map shape s) w k

    here : (y : Why) → MayBeAt IsScan (map shape (Suspension y r place ∷ s)) (scan_by y n (older_scan s r.scan) r.scan)
    here (Scan pair) =
        let m : n ≡ suc (length (map shape s)) = h ∙ add-one (length s) ∙ ap (λ (w : ℕ). suc w) (sym (length-map s shape)) in
        let a : 1 ≤ n = omega arith in
        let b : n ≤ suc (length (map shape s)) = omega arith in
        record {
          from = a;
          to = b;
          is = subst IsScan
              (sym (ap (λ (w : ℕ). cell_at w (map shape (Suspension (Scan pair) r place ∷ s))) m ∙ cell_at_top (ASuspension true r) (map shape s))) tt;
        }
    here Escan = on Escan (older_scan s r.scan) (older_in s r r.scan t t.stands.leads.scan)
    here Alt = on Alt r.scan t.stands.leads.scan
    here (Op rest) = on (Op rest) r.scan t.stands.leads.scan
    here Proc = on Proc r.scan t.stands.leads.scan

pub bottom_is : (s : List Cell) (r : Registers) (x : Cell) (n : ℕ) → r.newest ≡ None → r.mark ≡ r.base → 1 ≤ r.base → cell_at (r.base - 1 + 1) s ≡ Some x
    → count_of (Some (shape x)) ≡ n → r.base + n ≡ bottom (map shape s) r
bottom_is s r x n e m h k c =
    let a : cell_at r.base (map shape s) ≡ Some (shape x) = shape_at s r.base x (at_height s r.base x h k) in
    let b : (r.mark == r.base) ≡ true = grind (arith, nat_tests) in
    let d : count_of (cell_at r.base (map shape s)) ≡ n = ap count_of a ∙ c in
    sym (ap (λ (w : Option ℕ). bottom_from w (r.mark == r.base) r.mark (r.base + count_of (cell_at r.base (map shape s)))) e
    ∙ ap (λ (w : Bool). bottom_from None w r.mark (r.base + count_of (cell_at r.base (map shape s)))) b
    ∙ ap (λ (w : ℕ). r.base + w) d)
