-- Chains and numbered cells: what the calls look up.
use Rattle.std.proofs.Common.{◌≡◌, ℕ, zero, suc, ◌+◌, List, [], ◌∷◌, ◌++◌, length, map, Bool, true, false, Option, Some, None, refl, sym, ap, ◌∙◌, subst, arith, append_assoc}
use Rattle.icn_run.specs.Rows.{Item}
use Rattle.icn_run.specs.Stacks as S
use Rattle.icn_run.specs.Stacks.{Registers, Cell, Frames}
use Rattle.icn_run.specs.Chains as L
use Rattle.icn_run.specs.Chains.{Label, fixed, flagged, Reason, because, scanning, Chain, chain, Outer, Frame, at_base, in_call, frame_of, outer_of}
use Rattle.law_stacks.specs.Rendered.{Content, Flag, Changed, Count, Saved, Locals, Memory, content_of, flag_name, NCell, n_base, n_call, n_local, n_mark, n_limit, n_suspension, n_operand, RenderedWorld, shown_label, shown_cell, render, AllOk, locs, Bare, FlatScans, f_no_scan, f_scan, IsFlat, f_chain, f_susp, FlatOuter, f_base, f_call, f_mark, f_limit}
use Rattle.law_stacks.proofs.CellLists.{render_cut, render_get}

-- No operand stands on top

abbrev pub Blank : List Cell → Type 0
Blank (S.operand item ∷ cells) = ⊥
Blank cells = Unit {0}

blank_label : (k : Option Content) (l : Option ℕ) (q : ℕ) (r : Registers) (z : List Cell) → Blank (shown_label k l q r ∷ z)
blank_label None l q r z = tt
blank_label (Some (Flag true)) l q r z = tt
blank_label (Some (Flag false)) l q r z = tt
blank_label (Some (Changed x)) l q r z = tt
blank_label (Some (Count x)) l q r z = tt
blank_label (Some (Saved x)) l q r z = tt
blank_label (Some (Locals x)) l q r z = tt

pub blank : (F : Memory) (z : List NCell) → Bare z → Blank (render F z)
blank F [] b = tt
blank F (n_operand x ∷ z) b = absurd b
blank F (n_base p a n ∷ z) b = tt
blank F (n_call p a n l r q ∷ z) b = tt
blank F (n_local a i ∷ z) b = tt
blank F (n_mark (fixed l) r ∷ z) b = tt
blank F (n_mark (flagged l f q) r ∷ z) b = blank_label (content_of F (flag_name f)) l q r (render F z)
blank F (n_limit n r ∷ z) b = tt
blank F (n_suspension (because w) r q ∷ z) b = tt
blank F (n_suspension (scanning n) r q ∷ z) b = tt

pub popped_blank : (m : Frames) (z : List Cell) → Blank z → S.pop_from m z ≡ None
popped_blank m [] b = refl
popped_blank m (S.operand x ∷ z) b = absurd b
popped_blank m (_ ∷ z) b = refl

pub taken_blank : (n : ℕ) (m : Frames) (z : List Cell) (frame_found : List Item) → Blank z → S.take_top (suc n) m z frame_found ≡ None
taken_blank n m [] frame_found b = refl
taken_blank n m (S.operand x ∷ z) frame_found b = absurd b
taken_blank n m (_ ∷ z) frame_found b = refl

copy_blank : (z onto : List Cell) → Blank z → S.copy_up z onto ≡ onto
copy_blank [] onto b = refl
copy_blank (S.operand x ∷ z) onto b = absurd b
copy_blank (_ ∷ z) onto b = refl

below_blank : (c : Cell) (z : List Cell) → Blank z → S.below_in (c ∷ z) ≡ None
below_blank c [] b = refl
below_blank c (S.operand x ∷ z) b = absurd b
below_blank c (_ ∷ z) b = refl

-- operands are copied onto cells
pub copied : (F : Memory) (items : List Item) (z y : List NCell) → Bare z
    → S.copy_up (render F (map n_operand items ++ z)) (render F y) ≡ render F (map n_operand items ++ y)
copied F [] z y b = copy_blank (render F z) (render F y) (blank F z b)
copied F (x ∷ items) z y b = ap (λ l. S.operand x ∷ l) (copied F items z y b)

-- a mark is shown as one
pub as_mark : (F : Memory) (label : Label) (r : Registers) → (l : Option ℕ) × (b : Bool) × (shown_cell F (n_mark label r) ≡ S.mark l b r)
as_mark F (fixed l) r = (l, false, refl)
as_mark F (flagged l f q) r = of_kept (content_of F (flag_name f))
  where
    of_kept : (k : Option Content) → (l' : Option ℕ) × (b : Bool) × (shown_label k l q r ≡ S.mark l' b r)
    of_kept None = (l, false, refl)
    of_kept (Some (Flag true)) = (Some q, true, refl)
    of_kept (Some (Flag false)) = (l, false, refl)
    of_kept (Some (Changed x)) = (Some x, true, refl)
    of_kept (Some (Count x)) = (l, false, refl)
    of_kept (Some (Saved x)) = (l, false, refl)
    of_kept (Some (Locals x)) = (l, false, refl)

-- Locals above a frame

pub locals_split : (a i n : ℕ) (z : List NCell) → locs a i n z ≡ locs a i n [] ++ z
locals_split a i zero z = refl
locals_split a i (suc n) z = locals_split a (suc i) n (n_local a i ∷ z) ∙ sym (append_assoc (locs a (suc i) n []) (n_local a i ∷ []) z)
    ∙ ap (λ l. l ++ z) (sym (locals_split a (suc i) n (n_local a i ∷ [])))

pub locals_bare : (a i n : ℕ) (c : NCell) (z : List NCell) → Bare (c ∷ z) → Bare (locs a i n (c ∷ z))
locals_bare a i zero c z b = b
locals_bare a i (suc n) c z b = locals_bare a (suc i) n (n_local a i) (c ∷ z) tt

pub locs_length : (a i n : ℕ) (z : List NCell) → length (locs a i n z) ≡ n + length z
locs_length a i zero z = omega arith
locs_length a i (suc n) z = let e = locs_length a (suc i) n (n_local a i ∷ z) in omega arith

-- what stands somewhere in cells stands there when there are operands on top
pub stands_under : {cells z : List NCell} (xs : List NCell) (above : List NCell) (y : List NCell) → cells ≡ xs ++ z → z ≡ above ++ y
    → cells ≡ (xs ++ above) ++ y
stands_under xs above y e f = e ∙ ap (λ l. xs ++ l) f ∙ sym (append_assoc xs above y)

-- open scans stay where they are when cells are put on top
pub raise_scans : {scans : List ℕ} {z y : List NCell} {h : Option ℕ} (xs : List NCell) → y ≡ xs ++ z → FlatScans scans z h → FlatScans scans y h
raise_scans xs e f_no_scan = f_no_scan
raise_scans xs e (f_scan q r above below f g k) = f_scan q r (xs ++ above) below (stands_under xs above _ e f) g k

module _ (repeats : ℕ → ℕ → Bool) (Opens : ℕ → ℕ → Option ℕ → Type 0) where
  -- more cells on top
  pub raise_outer : {o : Outer} {z y : List NCell} {h b : ℕ} (xs : List NCell) → y ≡ xs ++ z → FlatOuter repeats Opens o z h b → FlatOuter repeats Opens o y h b
  raise_outer xs e (f_base n above f g k) = f_base n (xs ++ above) (stands_under xs above _ e f) g k
  raise_outer xs e (f_call n r above below f g k i) = f_call n r (xs ++ above) below (stands_under xs above _ e f) g k i
  raise_outer xs e (f_mark r above below f g k l i) = f_mark r (xs ++ above) below (stands_under xs above _ e f) g k l i
  raise_outer xs e (f_limit r above below f g k i) = f_limit r (xs ++ above) below (stands_under xs above _ e f) g k i

  -- the frame of the procedure
  pub data FrameFound : Frame → List NCell → ℕ → Type 0 where
    found_base : {p a b : ℕ} {cells : List NCell} (n : ℕ) (above : List NCell) → cells ≡ above ++ locs a 0 n (n_base p a n ∷ []) → b ≡ 1
        → FrameFound (at_base p a) cells b
    found_call : {p a level q b : ℕ} {caller : Chain} {cells : List NCell} (n : ℕ) (r : Registers) (above below : List NCell)
        → cells ≡ above ++ locs a 0 n (n_call p a n level r q ∷ below) → b ≡ suc (length below)
        → IsFlat repeats Opens caller below r → FrameFound (in_call p a level q caller) cells b

  raise_found : {t : Frame} {z y : List NCell} {b : ℕ} (xs : List NCell) → y ≡ xs ++ z → FrameFound t z b → FrameFound t y b
  raise_found xs e (found_base n above f g) = found_base n (xs ++ above) (stands_under xs above _ e f) g
  raise_found xs e (found_call n r above below f g k) = found_call n r (xs ++ above) below (stands_under xs above _ e f) g k

  found_in : {o : Outer} {z : List NCell} {h b : ℕ} → FlatOuter repeats Opens o z h b → FrameFound (frame_of o) z b
  found_in (f_base n above f g k) = found_base n above f k
  found_in (f_call n r above below f g k i) = found_call n r above below f k i
  found_in (f_mark {label = label} {z = z} r above below f g k l (f_chain {items = items} {outer = o} zz e bare out su sc)) =
      subst (λ b. FrameFound (frame_of o) z b) (sym k) (raise_found (above ++ n_mark label r ∷ map n_operand items)
      (f ∙ ap (λ l. above ++ n_mark label r ∷ l) e ∙ sym (append_assoc above (n_mark label r ∷ map n_operand items) zz)) (found_in out))
  found_in (f_limit {n = n} {z = z} r above below f g k (f_chain {items = items} {outer = o} zz e bare out su sc)) =
      subst (λ b. FrameFound (frame_of o) z b) (sym k) (raise_found (above ++ n_limit n r ∷ map n_operand items)
      (f ∙ ap (λ l. above ++ n_limit n r ∷ l) e ∙ sym (append_assoc above (n_limit n r ∷ map n_operand items) zz)) (found_in out))

  -- the frame of a chain lies where the base of its flat stack is
  pub frame_found : {c : Chain} {cells : List NCell} {r : Registers} → IsFlat repeats Opens c cells r → FrameFound (frame_of (outer_of c)) cells r.base
  frame_found (f_chain {items = items} z e bare out su sc) = raise_found (map n_operand items) e (found_in out)

  -- the frame's cell
  pub frame_at : (F : Memory) {b : ℕ} {cells : List NCell} (a n : ℕ) (c : NCell) (above below : List NCell) → cells ≡ above ++ locs a 0 n (c ∷ below)
      → b ≡ suc (length below) → S.cell_at b (render F cells) ≡ Some (shown_cell F c)
  frame_at F a n c above below e g =
      render_get F (above ++ locs a 0 n []) c below _ (stands_under above (locs a 0 n []) (c ∷ below) e (locals_split a 0 n (c ∷ below))) g

  pub same_proc : (F : Memory) {t : Frame} {cells : List NCell} {b : ℕ} → FrameFound t cells b → L.proc_of t ≡ S.proc_of (S.cell_at b (render F cells))
  same_proc F (found_base {p} {a} n above f g) = sym (ap S.proc_of (frame_at F a n (n_base p a n) above [] f g))
  same_proc F (found_call {p} {a} {level} {q} n r above below f g k) = sym (ap S.proc_of (frame_at F a n (n_call p a n level r q) above below f g))

  pub same_level : (F : Memory) {t : Frame} {cells : List NCell} {b : ℕ} → FrameFound t cells b → L.level_of t ≡ S.level_of (S.cell_at b (render F cells))
  same_level F (found_base {p} {a} n above f g) = sym (ap S.level_of (frame_at F a n (n_base p a n) above [] f g))
  same_level F (found_call {p} {a} {level} {q} n r above below f g k) = sym (ap S.level_of (frame_at F a n (n_call p a n level r q) above below f g))

  pub same_base : (F : Memory) {t : Frame} {cells : List NCell} {b : ℕ} → FrameFound t cells b
      → L.is_base_frame t ≡ S.is_base_cell (S.cell_at b (render F cells))
  same_base F (found_base {p} {a} n above f g) = sym (ap S.is_base_cell (frame_at F a n (n_base p a n) above [] f g))
  same_base F (found_call {p} {a} {level} {q} n r above below f g k) = sym (ap S.is_base_cell (frame_at F a n (n_call p a n level r q) above below f g))

  -- what stands directly below a mark
  pub below_chain : (F : Memory) (c : Cell) {k : Chain} {cells : List NCell} {r : Registers} → IsFlat repeats Opens k cells r
      → L.first_of_chain k ≡ S.below_in (c ∷ render F cells)
  below_chain F c (f_chain {items = []} z e bare out su sc) = sym (ap (λ l. S.below_in (c ∷ render F l)) e ∙ below_blank c (render F z) (blank F z bare))
  below_chain F c (f_chain {items = x ∷ items} z e bare out su sc) = sym (ap (λ l. S.below_in (c ∷ render F l)) e)

  pub same_below : (F : Memory) {o : Outer} {cells z : List NCell} {h b : ℕ} (xs : List NCell) → cells ≡ xs ++ z → FlatOuter repeats Opens o z h b
      → L.below_outer o ≡ S.below_in (S.cut h (render F cells))
  same_below F xs e (f_base {p} {a} n above f g k) = sym (ap S.below_in
      (render_cut F ((xs ++ above) ++ locs a 0 n [])
      (n_base p a n) [] _ (stands_under (xs ++ above) (locs a 0 n []) _ (stands_under xs above _ e f) (locals_split a 0 n _)) g))
  same_below F xs e (f_call {p} {a} {level} {q} n r above below f g k i) =
      below_chain F (shown_cell F (n_call p a n level r q)) i ∙ sym (ap S.below_in (render_cut F
      ((xs ++ above) ++ locs a 0 n [])
      (n_call p a n level r q) below _ (stands_under (xs ++ above) (locs a 0 n []) _ (stands_under xs above _ e f) (locals_split a 0 n _)) g))
  same_below F xs e (f_mark {label = label} r above below f g k l i) =
      below_chain F (shown_cell F (n_mark label r)) i
      ∙ sym (ap S.below_in (render_cut F (xs ++ above) (n_mark label r) below _ (stands_under xs above _ e f) g))
  same_below F xs e (f_limit {n = n} r above below f g k i) =
      below_chain F (shown_cell F (n_limit n r)) i ∙ sym (ap S.below_in (render_cut F (xs ++ above) (n_limit n r) below _ (stands_under xs above _ e f) g))

  -- a suspension on cells that stand above those of a chain
  pub suspended_on : {k inside : Chain} {below cells : List NCell} {r r' : Registers} (reason : Reason) (q h : ℕ) (xs : List NCell)
      → IsFlat repeats Opens k below r' → IsFlat repeats Opens inside cells r → cells ≡ xs ++ below → h ≡ suc (length cells)
      → (F : Memory) (y : List NCell) → y ≡ n_suspension reason r q ∷ cells
      → (new : List NCell) × IsFlat repeats Opens (L.suspend_in (L.suspension reason q inside) k) new (record r' { newest = Some h })
      × (S.copy_up (render F below) (render F y) ≡ render F new)
      × ((w : RenderedWorld) (s : ℕ) → AllOk w s y → AllOk w s new)
  suspended_on {cells = cells} {r = r} reason q h xs (f_chain {items = items} z e bare out su sc) i f g F y d =
      let top = n_suspension reason r q in
      let up : top ∷ cells
      ≡ (top ∷ xs ++ map n_operand items) ++ z = ap (λ l. top ∷ l) (f ∙ ap (λ l. xs ++ l) e ∙ sym (append_assoc xs (map n_operand items) z)) in (
        map n_operand items ++ top ∷ cells,
        f_chain (top ∷ cells) refl tt (raise_outer (top ∷ xs ++ map n_operand items) up out) (f_susp g i) (raise_scans (top ∷ xs ++ map n_operand items) up sc),
        ap (λ l. S.copy_up (render F l) (render F y)) e ∙ ap (λ l. S.copy_up (render F (map n_operand items ++ z)) (render F l)) d
            ∙ copied F items z (top ∷ cells) bare,
        λ w s o. ok_operands w s items (top ∷ cells) (subst (AllOk w s) d o),
      )
    where
      ok_operands : (w : RenderedWorld) (s : ℕ) (items : List Item) (z : List NCell) → AllOk w s z → AllOk w s (map n_operand items ++ z)
      ok_operands w s [] z o = o
      ok_operands w s (x ∷ items) z o = (tt, ok_operands w s items z o)
