-- Flat stacks have a weight, so that each run on them ends.
use Rattle.std.proofs.Common.{◌≡◌, ℕ, zero, suc, ◌+◌, ◌-◌, ◌<◌, ◌≤◌, List, [], ◌∷◌, length, Option, Some, None, refl, sym, ap, ◌∙◌, subst, arith, Bool, true, false}
use Rattle.std.specs.Prelude.{slice_get, slice_set, pred, drop, unwrap_or, ◌==◌}
use Rattle.std.specs.Option.{option_and_then}
use Rattle.std.proofs.lemmas.List.{length-drop}
use Rattle.std.proofs.lemmas.Bool.{eqb-true, eqb-false}
use Rattle.icn_run.specs.Rows.{Value, Item}
use Rattle.icn_run.specs.Calls.{Pair, Why, Alt, Op, Scan, Escan, Proc}
use Rattle.icn_run.specs.Stacks.{Cell, base, call, local, mark, limit, suspension, operand, Registers, Frames, cut, cell_at, set_cell, put_above, begin, set_local, set_from, set_locals, push, pop_from, take_top, copy_up, open_mark, open_limit, relabel_in, count_in, with_pair, swap_at, oldest, unmark_in, drop_from, suspend, suspended_onto, mark_suspended, proc_suspended, resume_from, enter, leave_from, flat, level}
use Rattle.law_stacks.specs.Measure.{worth, worth_of, IfThere, Stays, Pays, DropsWell, ResumesWell, Weighs, IsInside}
use Rattle.law_stacks.specs.StackWeights.{label_weight, Back, Fit, fit, Newest, nothing, newest_at, Outer, at_mark, at_limit, at_call, at_base, Like, same, relabelled as l_relabelled, counted as l_counted, exchanged as l_exchanged, assigned as l_assigned}

-- Cutting

drop_none : {A : Type 0} (n : ℕ) → ◌≡◌ {A = List A} (drop n []) []
drop_none zero = refl
drop_none (suc n) = refl

drop_drop : {A : Type 0} (j k : ℕ) (xs : List A) → drop j (drop k xs) ≡ drop (k + j) xs
drop_drop j zero xs = let e : zero + j ≡ j = omega arith in rw e refl
drop_drop j (suc k) [] = drop_none j ∙ sym (drop_none (suc k + j))
drop_drop j (suc k) (x ∷ xs) = let e : suc k + j ≡ suc (k + j) = omega arith in rw e (drop_drop j k xs)

cut_top : (x : Cell) (cells : List Cell) → cut (suc (length cells)) (x ∷ cells) ≡ x ∷ cells
cut_top x cells = let e : length (x ∷ cells) - suc (length cells) ≡ 0 = omega arith in ap (λ k. drop k (x ∷ cells)) e

cut_push : (x : Cell) (cells : List Cell) (h : ℕ) → h ≤ length cells → cut h (x ∷ cells) ≡ cut h cells
cut_push x cells h le = let e : length (x ∷ cells) - h ≡ suc (length cells - h) = omega arith in ap (λ k. drop k (x ∷ cells)) e

height : (cells : List Cell) (h : ℕ) (x : Cell) (below : List Cell) → cut h cells ≡ x ∷ below → suc (length below) ≡ h → h ≤ length cells
height cells h x below e len = let a : length (cut h cells) ≡ length (x ∷ below) = ap length e in let b = length-drop (length cells - h) cells in omega arith

cut_cut : (cells : List Cell) (m h : ℕ) (x : Cell) (below : List Cell) → cut m cells ≡ x ∷ below → suc (length below) ≡ m → h ≤ length below
    → cut h cells ≡ cut h below
cut_cut cells m h x below e len le =
    let top = height cells m x below e len in
    let a : length (cut m cells) ≡ suc (length below) = ap length e in
    let b : (length cells - m) + (length (cut m cells) - h) ≡ length cells - h = omega arith in
    let c : cut h (cut m cells)
    ≡ drop ((length cells - m) + (length (cut m cells) - h)) cells = drop_drop (length (cut m cells) - h) (length cells - m) cells in
    let d : cut h (cut m cells) ≡ cut h cells = c ∙ ap (λ k. drop k cells) b in
    sym d ∙ ap (λ xs. cut h xs) e ∙ cut_push x below h le

module _ (N : ℕ) where
  abbrev pub F : List Cell → Registers → ℕ → ℕ → Type 0
  F = Fit N

  -- cells in which all that the heights of others lead to stands where it stood
  abbrev Above : List Cell → List Cell → Type 0
  Above cells after = (h : ℕ) → h ≤ length cells → cut h after ≡ cut h cells

  newest_above : (cells after : List Cell) (newest : Option ℕ) (s o : ℕ) → Above cells after → Newest N cells newest s o → Newest N after newest s o
  newest_above cells after newest s o up (nothing e) = nothing e
  newest_above cells after newest s o up (newest_at h why r q below s' o' e c l f b) =
      newest_at h why r q below s' o' e (up h (height cells h _ below c l) ∙ c) l f b

  outer_above : (cells after : List Cell) (m b o : ℕ) → Above cells after → Outer N cells m b o → Outer N after m b o
  outer_above cells after m b o up (at_mark label ch r below l s' o' c n w f e x) =
      at_mark label ch r below l s' o' (up m (height cells m _ below c n) ∙ c) n w f e x
  outer_above cells after m b o up (at_limit k r below s' o' c n f e x) = at_limit k r below s' o' (up m (height cells m _ below c n) ∙ c) n f e x
  outer_above cells after m b o up (at_call p k lv r q below s' o' c n f e x) = at_call p k lv r q below s' o' (up m (height cells m _ below c n) ∙ c) n f e x
  outer_above cells after m b o up (at_base p k below c n x) = at_base p k below (up m (height cells m _ below c n) ∙ c) n x

  fit_above : (cells after : List Cell) (r : Registers) (s o : ℕ) → Above cells after → F cells r s o → F after r s o
  fit_above cells after r s o up (fit nw ot) = fit (newest_above cells after r.newest s o up nw) (outer_above cells after r.mark r.base o up ot)

  fit_push : (x : Cell) (cells : List Cell) (r : Registers) (s o : ℕ) → F cells r s o → F (x ∷ cells) r s o
  fit_push x cells r s o f = fit_above cells (x ∷ cells) r s o (λ h le. cut_push x cells h le) f

  -- an operand on top is led to by nothing

  abbrev kind : Cell → ℕ
  kind (operand x) = 0
  kind (local v) = 1
  kind _ = 2

  abbrev kind_of : List Cell → ℕ
  kind_of [] = 3
  kind_of (x ∷ xs) = kind x

  below_top : (x : Cell) (cells : List Cell) (h : ℕ) (y : Cell) (below : List Cell) → cut h (x ∷ cells) ≡ y ∷ below → suc (length below) ≡ h → kind x < kind y
      → h ≤ length cells
  below_top x cells h y below c l lt = by_place (h == suc (length cells)) refl
    where
      by_place : (b : Bool) → (h == suc (length cells)) ≡ b → h ≤ length cells
      by_place true e = let same_place : h ≡ suc (length cells) = eqb-true _ _ e in
          let a : cut h (x ∷ cells) ≡ x ∷ cells = ap (λ k. cut k (x ∷ cells)) same_place ∙ cut_top x cells in
          let b : kind_of (y ∷ below) ≡ kind_of (x ∷ cells) = ap kind_of (sym c ∙ a) in absurd (omega arith)
      by_place false e = let differ = eqb-false _ _ e in let a = height (x ∷ cells) h y below c l in omega arith

  newest_below : (x : Item) (cells : List Cell) (newest : Option ℕ) (s o : ℕ) → Newest N (operand x ∷ cells) newest s o → Newest N cells newest s o
  newest_below x cells newest s o (nothing e) = nothing e
  newest_below x cells newest s o (newest_at h why r q below s' o' e c l f b) =
      newest_at h why r q below s' o' e (sym (cut_push (operand x) cells h (below_top (operand x) cells h _ below c l (omega arith))) ∙ c) l f b

  outer_below : (x : Item) (cells : List Cell) (m b o : ℕ) → Outer N (operand x ∷ cells) m b o → Outer N cells m b o
  outer_below x cells m b o (at_mark label ch r below l s' o' c n w f e z) =
      at_mark label ch r below l s' o' (sym (cut_push (operand x) cells m (below_top (operand x) cells m _ below c n (omega arith))) ∙ c) n w f e z
  outer_below x cells m b o (at_limit k r below s' o' c n f e z) =
      at_limit k r below s' o' (sym (cut_push (operand x) cells m (below_top (operand x) cells m _ below c n (omega arith))) ∙ c) n f e z
  outer_below x cells m b o (at_call p k lv r q below s' o' c n f e z) =
      at_call p k lv r q below s' o' (sym (cut_push (operand x) cells m (below_top (operand x) cells m _ below c n (omega arith))) ∙ c) n f e z
  outer_below x cells m b o (at_base p k below c n z) =
      at_base p k below (sym (cut_push (operand x) cells m (below_top (operand x) cells m _ below c n (omega arith))) ∙ c) n z

  fit_pop : (x : Item) (cells : List Cell) (r : Registers) (s o : ℕ) → F (operand x ∷ cells) r s o → F cells r s o
  fit_pop x cells r s o (fit nw ot) = fit (newest_below x cells r.newest s o nw) (outer_below x cells r.mark r.base o ot)

  fit_locals : (values : List Value) (cells : List Cell) (r : Registers) (s o : ℕ) → F cells r s o → F (put_above values cells) r s o
  fit_locals [] cells r s o f = f
  fit_locals (v ∷ values) cells r s o f = fit_locals values (local v ∷ cells) r s o (fit_push (local v) cells r s o f)

  copied : (xs ys : List Cell) (h : ℕ) → h ≤ length ys → (cut h (copy_up xs ys) ≡ cut h ys) × (length ys ≤ length (copy_up xs ys))
  copied [] ys h le = (refl, omega arith)
  copied (operand x ∷ xs) ys h le = let a = copied xs ys h le in let b = a.1 in (cut_push (operand x) (copy_up xs ys) h (omega arith) ∙ a.0, omega arith)
  copied (_ ∷ xs) ys h le = (refl, omega arith)

  -- cells that take the place of others

  data Likes : List Cell → List Cell → Type 0 where
    none : Likes [] []
    more : {x y : Cell} {xs ys : List Cell} → Like x y → Likes xs ys → Likes (x ∷ xs) (y ∷ ys)

  all_same : (xs : List Cell) → Likes xs xs
  all_same [] = none
  all_same (x ∷ xs) = more (same x) (all_same xs)

  likes_length : {xs ys : List Cell} → Likes xs ys → length ys ≡ length xs
  likes_length none = refl
  likes_length (more l ls) = ap suc (likes_length ls)

  likes_set : (xs : List Cell) (i : ℕ) (x y : Cell) → slice_get xs i ≡ Some x → Like x y → Likes xs (slice_set xs i y)
  likes_set [] i x y e l = none
  likes_set (z ∷ xs) zero x y e l = let a : z ≡ x = ap (λ o. unwrap_or o z) e in more (subst (λ w. Like w y) (sym a) l) (all_same xs)
  likes_set (z ∷ xs) (suc i) x y e l = more (same z) (likes_set xs i x y e l)

  likes_drop : {xs ys : List Cell} (n : ℕ) → Likes xs ys → Likes (drop n xs) (drop n ys)
  likes_drop zero ls = ls
  likes_drop (suc n) none = none
  likes_drop (suc n) (more l ls) = likes_drop n ls

  -- what a list of cells becomes where it began with a mark, a limit mark, a frame or a suspension frame
  data LikesTop (x : Cell) (xs ys : List Cell) : Type 0 where
    top : (y : Cell) (below : List Cell) → ys ≡ y ∷ below → Like x y → Likes xs below → LikesTop x xs ys

  likes_top : (zs : List Cell) (ys : List Cell) (x : Cell) (xs : List Cell) → Likes zs ys → zs ≡ x ∷ xs → LikesTop x xs ys
  likes_top [] [] x xs none e = absurd (let a : kind_of [] ≡ kind_of (x ∷ xs) = ap kind_of e in no_top x a)
    where
      no_top : (x : Cell) → 3 ≡ kind x → ⊥
      no_top (operand x) a = omega arith
      no_top (local x) a = omega arith
      no_top (base a b) q = omega arith
      no_top (call a b c d f) q = omega arith
      no_top (mark a b c) q = omega arith
      no_top (limit a b) q = omega arith
      no_top (suspension a b c) q = omega arith
  likes_top [] (y ∷ ys) x xs l e = elim l [ ]
  likes_top (z ∷ zs) [] x xs l e = elim l [ ]
  likes_top (z ∷ zs) (y ∷ ys) x xs (more l ls) e =
      let a : z ≡ x = ap (λ l. head_or l z) e in let b : zs ≡ xs = ap tail_of e in
      top y ys refl (subst (λ w. Like w y) a l) (subst (λ w. Likes w ys) b ls)
    where
      head_or : List Cell → Cell → Cell
      head_or [] z = z
      head_or (x ∷ xs) z = x

      tail_of : List Cell → List Cell
      tail_of [] = []
      tail_of (x ∷ xs) = xs

  -- the same cut of both
  likes_cut : (cells after : List Cell) (h : ℕ) (x : Cell) (below : List Cell) → Likes cells after → cut h cells ≡ x ∷ below → LikesTop x below (cut h after)
  likes_cut cells after h x below ls e =
      let a : length after - h ≡ length cells - h = let b = likes_length ls in omega arith in
      likes_top (cut h cells) (cut h after) x below (subst (λ k. Likes (cut h cells) (drop k after)) (sym a) (likes_drop (length cells - h) ls)) e

  newest_top : (after : List Cell) (newest : Option ℕ) (s o h : ℕ) (why : Why) (r : Registers) (q : ℕ) (below : List Cell) (s' o' : ℕ) → newest ≡ Some h
      → suc (length below) ≡ h
      → ((below' : List Cell) → Likes below below' → F below' r s' o') → Back why (s' + o') (s + o) → LikesTop (suspension why r q) below (cut h after)
      → Newest N after newest s o
  newest_top after newest s o h why r q below s' o' e n f b (top y below' c (same x) ls) =
      newest_at h why r q below' s' o' e c (let k = likes_length ls in omega arith) (f below' ls) b
  newest_top after newest s o h why r q below s' o' e n f b (top y below' c (l_exchanged old new r2 q2) ls) =
      newest_at h (Scan new) r q below' s' o' e c (let k = likes_length ls in omega arith) (f below' ls) b

  mark_top : (after : List Cell) (m b o : ℕ) (label : Option ℕ) (changed : Bool) (r : Registers) (below : List Cell) (l s' o' : ℕ) → suc (length below) ≡ m
      → label_weight N label changed ≤ l
      → ((below' : List Cell) → Likes below below' → F below' r s' o') → o ≡ suc l + (s' + o') → r.base ≡ b
      → LikesTop (mark label changed r) below (cut m after) → Outer N after m b o
  mark_top after m b o label changed r below l s' o' n w f e z (top y below' c (same x) ls) =
      at_mark label changed r below' l s' o' c (let k = likes_length ls in omega arith) w (f below' ls) e z
  mark_top after m b o label changed r below l s' o' n w f e z (top y below' c (l_relabelled old new changed2 r2) ls) =
      at_mark new true r below' l s' o' c (let k = likes_length ls in omega arith) (omega arith) (f below' ls) e z

  limit_top : (after : List Cell) (m b o count : ℕ) (r : Registers) (below : List Cell) (s' o' : ℕ) → suc (length below) ≡ m
      → ((below' : List Cell) → Likes below below' → F below' r s' o') → o ≡ suc (s' + o') → r.base ≡ b → LikesTop (limit count r) below (cut m after)
      → Outer N after m b o
  limit_top after m b o count r below s' o' n f e z (top y below' c (same x) ls) =
      at_limit count r below' s' o' c (let k = likes_length ls in omega arith) (f below' ls) e z
  limit_top after m b o count r below s' o' n f e z (top y below' c (l_counted old new r2) ls) =
      at_limit new r below' s' o' c (let k = likes_length ls in omega arith) (f below' ls) e z

  call_top : (after : List Cell) (m b o p k lv : ℕ) (r : Registers) (q : ℕ) (below : List Cell) (s' o' : ℕ) → suc (length below) ≡ m
      → ((below' : List Cell) → Likes below below' → F below' r s' o') → o ≡ suc (worth N q) + (s' + o') → m ≡ b
      → LikesTop (call p k lv r q) below (cut m after) → Outer N after m b o
  call_top after m b o p k lv r q below s' o' n f e z (top y below' c (same x) ls) =
      at_call p k lv r q below' s' o' c (let k = likes_length ls in omega arith) (f below' ls) e z

  base_top : (after : List Cell) (m b o p k : ℕ) (below : List Cell) → suc (length below) ≡ m → m ≡ b → LikesTop (base p k) below (cut m after)
      → Outer N after m b o
  base_top after m b o p k below n z (top y below' c (same x) ls) = at_base p k below' c (let k = likes_length ls in omega arith) z

  mutual
    fit_like : (cells after : List Cell) (r : Registers) (s o : ℕ) → Likes cells after → F cells r s o → F after r s o
    fit_like cells after r s o ls (fit nw ot) = fit (newest_like cells after r.newest s o ls nw) (outer_like cells after r.mark r.base o ls ot)

    newest_like : (cells after : List Cell) (newest : Option ℕ) (s o : ℕ) → Likes cells after → Newest N cells newest s o → Newest N after newest s o
    newest_like cells after newest s o ls (nothing e) = nothing e
    newest_like cells after newest s o ls (newest_at h why r q below s' o' e c n f b) =
        newest_top after newest s o h why r q below s' o' e n (λ below' ls'. fit_like below below' r s' o' ls' f) b (likes_cut cells after h _ below ls c)

    outer_like : (cells after : List Cell) (m b o : ℕ) → Likes cells after → Outer N cells m b o → Outer N after m b o
    outer_like cells after m b o ls (at_mark label ch r below l s' o' c n w f e z) =
        mark_top after m b o label ch r below l s' o' n w (λ below' ls'. fit_like below below' r s' o' ls' f) e z (likes_cut cells after m _ below ls c)
    outer_like cells after m b o ls (at_limit k r below s' o' c n f e z) =
        limit_top after m b o k r below s' o' n (λ below' ls'. fit_like below below' r s' o' ls' f) e z (likes_cut cells after m _ below ls c)
    outer_like cells after m b o ls (at_call p k lv r q below s' o' c n f e z) =
        call_top after m b o p k lv r q below s' o' n (λ below' ls'. fit_like below below' r s' o' ls' f) e z (likes_cut cells after m _ below ls c)
    outer_like cells after m b o ls (at_base p k below c n z) = base_top after m b o p k below n z (likes_cut cells after m _ below ls c)

  -- The frame of the procedure that runs

  data AtFrame (cells : List Cell) (b o : ℕ) : Type 0 where
    frame_call : (p k lv : ℕ) (r : Registers) (q : ℕ) (below : List Cell) (s' o' : ℕ) → cut b cells ≡ call p k lv r q ∷ below → suc (length below) ≡ b
        → F below r s' o' → suc (worth N q) + (s' + o') ≤ o → AtFrame cells b o
    frame_base : (p k : ℕ) (below : List Cell) → cut b cells ≡ base p k ∷ below → suc (length below) ≡ b → AtFrame cells b o

  lift_frame : (cells : List Cell) (m b b' o o' : ℕ) (x : Cell) (below : List Cell) → cut m cells ≡ x ∷ below → suc (length below) ≡ m → b' ≡ b → o' ≤ o
      → AtFrame below b' o' → AtFrame cells b o
  lift_frame cells m b b' o o' x below c n e le (frame_call p k lv r q low s2 o2 c2 n2 f w) =
      frame_call p k lv r q low s2 o2 (cut_cut cells m b x below c n (let h = height below b' _ low c2 n2 in omega arith) ∙ ap (λ h. cut h below) (sym e) ∙ c2)
      (omega arith) f (omega arith)
  lift_frame cells m b b' o o' x below c n e le (frame_base p k low c2 n2) =
      frame_base p k low (cut_cut cells m b x below c n (let h = height below b' _ low c2 n2 in omega arith) ∙ ap (λ h. cut h below) (sym e) ∙ c2) (omega arith)

  mutual
    frame_in : (cells : List Cell) (r : Registers) (s o : ℕ) → F cells r s o → AtFrame cells r.base o
    frame_in cells r s o (fit nw ot) = frame_at cells r.mark r.base o ot

    frame_at : (cells : List Cell) (m b o : ℕ) → Outer N cells m b o → AtFrame cells b o
    frame_at cells m b o (at_mark label ch r below l s' o' c n w f e z) =
        lift_frame cells m b r.base o o' _ below c n z (omega arith) (frame_in below r s' o' f)
    frame_at cells m b o (at_limit k r below s' o' c n f e z) = lift_frame cells m b r.base o o' _ below c n z (omega arith) (frame_in below r s' o' f)
    frame_at cells m b o (at_call p k lv r q below s' o' c n f e z) =
        frame_call p k lv r q below s' o' (ap (λ h. cut h cells) (sym z) ∙ c) (omega arith) f (omega arith)
    frame_at cells m b o (at_base p k below c n z) = frame_base p k below (ap (λ h. cut h cells) (sym z) ∙ c) (omega arith)

  -- The calls

  abbrev pub Bounded : Frames → ℕ → Type 0
  Bounded m v = (s : ℕ) × (o : ℕ) × F m.cells m.registers s o × (s + o ≤ v)

  abbrev Fits : Frames → Type 0
  Fits m = (v : ℕ) × Bounded m v

  abbrev place : Frames → ℕ
  place m = m.address

  outer_from : {cells : List Cell} {r : Registers} {s o : ℕ} → F cells r s o → Outer N cells r.mark r.base o
  outer_from (fit nw ot) = ot

  newest_from : {cells : List Cell} {r : Registers} {s o : ℕ} → F cells r s o → Newest N cells r.newest s o
  newest_from (fit nw ot) = nw

  keeps : (m after : Frames) (f : Fits m) → F after.cells after.registers f.1.0 f.1.1 → after.address ≡ m.address → Stays Bounded place 0 f.0 m after
  keeps m after f g e = record { fits = (f.0, (f.1.0, f.1.1, g, f.1.3)); weighs = omega arith; stands = e }

  set_like : (m : Frames) (h : ℕ) (x y : Cell) → cell_at h m.cells ≡ Some x → Like x y → (f : Fits m) → F (set_cell h y m.cells) m.registers f.1.0 f.1.1
  set_like m h x y e l f = fit_like m.cells _ m.registers f.1.0 f.1.1 (likes_set m.cells (length m.cells - h) x y e l) f.1.2

  relabel_law : (label : ℕ) (m : Frames) (o : Option Cell) → cell_at m.registers.mark m.cells ≡ o → (f : Fits m)
      → IfThere (relabel_in label m o) (λ after. Stays Bounded place 0 f.0 m after)
  relabel_law label m (Some (mark old ch r)) e f =
      keeps m _ f (set_like m m.registers.mark (mark old ch r) (mark (Some label) true r) e (l_relabelled old (Some label) ch r) f) refl
  relabel_law label m (Some _) e f = tt
  relabel_law label m None e f = tt

  count_law : (m : Frames) (o : Option Cell) → cell_at m.registers.mark m.cells ≡ o → (f : Fits m)
      → IfThere (count_in m o) (λ count. Stays Bounded place 0 f.0 m count.1)
  count_law m (Some (limit k r)) e f = keeps m _ f (set_like m m.registers.mark (limit k r) (limit (pred k) r) e (l_counted k (pred k) r) f) refl
  count_law m (Some _) e f = tt
  count_law m None e f = tt

  pair_law : (pair : Pair) (h : ℕ) (m : Frames) (o : Option Cell) → cell_at h m.cells ≡ o → (f : Fits m)
      → IfThere (with_pair pair h m o) (λ swap. Stays Bounded place 0 f.0 m swap.1)
  pair_law pair h m (Some (suspension (Scan old) r q)) e f =
      keeps m _ f (set_like m h (suspension (Scan old) r q) (suspension (Scan pair) r q) e (l_exchanged old pair r q) f) refl
  pair_law pair h m (Some (suspension Alt r q)) e f = tt
  pair_law pair h m (Some (suspension (Op x) r q)) e f = tt
  pair_law pair h m (Some (suspension Escan r q)) e f = tt
  pair_law pair h m (Some (suspension Proc r q)) e f = tt
  pair_law pair h m (Some _) e f = tt
  pair_law pair h m None e f = tt

  swap_law : (pair : Pair) (m : Frames) (o : Option ℕ) (f : Fits m) → IfThere (swap_at pair m o) (λ swap. Stays Bounded place 0 f.0 m swap.1)
  swap_law pair m None f = tt
  swap_law pair m (Some h) f = pair_law pair h m (cell_at h m.cells) refl f

  local_law : (h : ℕ) (v : Value) (cells : List Cell) (r : Registers) (s o : ℕ) (c : Option Cell) → cell_at h cells ≡ c → F cells r s o
      → F (set_local h v cells c) r s o
  local_law h v cells r s o (Some (local old)) e f = fit_like cells _ r s o (likes_set cells (length cells - h) (local old) (local v) e (l_assigned old v)) f
  local_law h v cells r s o (Some _) e f = f
  local_law h v cells r s o None e f = f

  locals_law : (values : List Value) (h : ℕ) (cells : List Cell) (r : Registers) (s o : ℕ) → F cells r s o → F (set_from h values cells) r s o
  locals_law [] h cells r s o f = f
  locals_law (v ∷ values) h cells r s o f = locals_law values (suc h) _ r s o (local_law (suc h) v cells r s o (cell_at (suc h) cells) refl f)

  pop_law : (m : Frames) (cells : List Cell) (f : Fits m) → F cells m.registers f.1.0 f.1.1
      → IfThere (pop_from m cells) (λ top. Stays Bounded place 0 f.0 m top.1)
  pop_law m (operand x ∷ cells) f g = keeps m _ f (fit_pop x cells m.registers f.1.0 f.1.1 g) refl
  pop_law m [] f g = tt
  pop_law m (_ ∷ cells) f g = tt

  take_law : (n : ℕ) (m : Frames) (cells : List Cell) (items : List Item) (f : Fits m) → F cells m.registers f.1.0 f.1.1
      → IfThere (take_top n m cells items) (λ tops. Stays Bounded place 0 f.0 m tops.1)
  take_law zero m cells items f g = keeps m _ f g refl
  take_law (suc n) m (operand x ∷ cells) items f g = take_law n m cells (x ∷ items) f (fit_pop x cells m.registers f.1.0 f.1.1 g)
  take_law (suc n) m [] items f g = tt
  take_law (suc n) m (_ ∷ cells) items f g = tt

  -- from the mark's cell downward

  abbrev Unmarks : (m : Frames) → ℕ → List Cell → Type 0
  Unmarks m v xs = IfThere (unmark_in m xs) (λ outside. Stays Bounded place 0 v m outside.0)

  unmark_law : (m : Frames) (f : Fits m) → Outer N m.cells m.registers.mark m.registers.base f.1.1 → Unmarks m f.0 (cut m.registers.mark m.cells)
  unmark_law m f (at_mark label ch r below l s' o' c n w g e z) = let x = f.1.3 in
      subst (Unmarks m f.0) (sym c) (record { fits = (s' + o', (s', o', g, omega arith)); weighs = omega arith; stands = refl })
  unmark_law m f (at_limit k r below s' o' c n g e z) = let x = f.1.3 in
      subst (Unmarks m f.0) (sym c) (record { fits = (s' + o', (s', o', g, omega arith)); weighs = omega arith; stands = refl })
  unmark_law m f (at_call p k lv r q below s' o' c n g e z) = subst (Unmarks m f.0) (sym c) tt
  unmark_law m f (at_base p k below c n z) = subst (Unmarks m f.0) (sym c) tt

  abbrev Drops : (m : Frames) → ℕ → List Cell → Type 0
  Drops m v xs = DropsWell Bounded place N v (drop_from m xs)

  drop_label : (m : Frames) (v : ℕ) (label : Option ℕ) (ch : Bool) (r : Registers) (below : List Cell) (l s' o' : ℕ) → label_weight N label ch ≤ l
      → F below r s' o' → suc l + (s' + o') ≤ v → Drops m v (mark label ch r ∷ below)
  drop_label m v (Some q) false r below l s' o' w g le = record { fits = (s' + o', (s', o', g, omega arith)); weighs = omega arith }
  drop_label m v (Some q) true r below l s' o' w g le = (s' + o', (s', o', g, omega arith))
  drop_label m v None false r below l s' o' w g le = record { fits = (s' + o', (s', o', g, omega arith)); weighs = omega arith }
  drop_label m v None true r below l s' o' w g le = record { fits = (s' + o', (s', o', g, omega arith)); weighs = omega arith }

  drop_law : (m : Frames) (f : Fits m) → Outer N m.cells m.registers.mark m.registers.base f.1.1 → Drops m f.0 (cut m.registers.mark m.cells)
  drop_law m f (at_mark label ch r below l s' o' c n w g e z) =
      let x = f.1.3 in subst (Drops m f.0) (sym c) (drop_label m f.0 label ch r below l s' o' w g (omega arith))
  drop_law m f (at_limit k r below s' o' c n g e z) =
      let x = f.1.3 in subst (Drops m f.0) (sym c) (record { fits = (s' + o', (s', o', g, omega arith)); weighs = omega arith })
  drop_law m f (at_call p k lv r q below s' o' c n g e z) = subst (Drops m f.0) (sym c) tt
  drop_law m f (at_base p k below c n z) = subst (Drops m f.0) (sym c) tt

  -- suspending

  copy_above : (xs : List Cell) (x : Cell) (cells : List Cell) → Above cells (copy_up xs (x ∷ cells))
  copy_above xs x cells h le = let a = copied xs (x ∷ cells) h (omega arith) in a.0 ∙ cut_push x cells h le

  copy_cut : (xs : List Cell) (x : Cell) (cells : List Cell) → cut (suc (length cells)) (copy_up xs (x ∷ cells)) ≡ x ∷ cells
  copy_cut xs x cells = let a = copied xs (x ∷ cells) (suc (length cells)) (omega arith) in a.0 ∙ cut_top x cells

  inside_back : (why : Why) (s o : ℕ) → IsInside why → Back why (s + o) (suc s + o)
  inside_back Alt s o i = absurd i
  inside_back (Op r) s o i = tt
  inside_back (Scan pair) s o i = omega arith
  inside_back Escan s o i = omega arith
  inside_back Proc s o i = absurd i

  suspend_law : (why : Why) (m : Frames) → IsInside why → (f : Fits m) → Stays Bounded place 1 f.0 m (suspend why m)
  suspend_law why m i f = let s = f.1.0 in let o = f.1.1 in let x = f.1.3 in
      let frame_cell = suspension why m.registers m.address in
      record {
        fits = (
          suc s + o,
          (
            suc s,
            o,
            fit (newest_at (suc (length m.cells)) why m.registers m.address m.cells s o refl (copy_cut m.cells frame_cell m.cells) refl f.1.2
                (inside_back why s o i))
                (outer_above m.cells _ m.registers.mark m.registers.base o (copy_above m.cells frame_cell m.cells) (outer_from f.1.2)),
            omega arith,
          ),
        );
        weighs = omega arith;
        stands = refl;
      }

  -- all that stands is suspended, and some lower cells go on
  onto_fits : (why : Why) (m : Frames) (f : Fits m) (h : ℕ) (x : Cell) (below : List Cell) (r : Registers) (q s' o' s2 : ℕ) → cut h m.cells ≡ x ∷ below
      → suc (length below) ≡ h → F below r s' o'
      → Back why (f.1.0 + f.1.1) (s2 + o') → F (suspended_onto why m below r q).cells (suspended_onto why m below r q).registers s2 o'
  onto_fits why m f h x below r q s' o' s2 c n g b =
      let frame_cell = suspension why m.registers m.address in let top = height m.cells h x below c n in
      fit (newest_at (suc (length m.cells)) why m.registers m.address m.cells f.1.0 f.1.1 refl (copy_cut below frame_cell m.cells) refl f.1.2 b)
      (outer_above below _ r.mark r.base o' (λ k le. copy_above below frame_cell m.cells k (omega arith) ∙ cut_cut m.cells h k x below c n le) (outer_from g))

  abbrev Leaves : (m : Frames) → ℕ → List Cell → Type 0
  Leaves m v xs = IfThere (mark_suspended m xs) (λ after. Stays Bounded place 1 v m after)

  suspend_mark_law : (m : Frames) (f : Fits m) → Outer N m.cells m.registers.mark m.registers.base f.1.1 → Leaves m f.0 (cut m.registers.mark m.cells)
  suspend_mark_law m f (at_mark label ch r below l s' o' c n w g e z) = let x = f.1.3 in let s2 = suc (f.1.0 + (suc l + s')) in
      subst (Leaves m f.0) (sym c) (record {
        fits = (s2 + o', (s2, o', onto_fits Alt m f m.registers.mark _ below r m.address s' o' s2 c n g (omega arith), omega arith));
        weighs = omega arith;
        stands = refl;
      })
  suspend_mark_law m f (at_limit k r below s' o' c n g e z) = let x = f.1.3 in let s2 = suc (f.1.0 + suc s') in
      subst (Leaves m f.0) (sym c) (record {
        fits = (s2 + o', (s2, o', onto_fits Alt m f m.registers.mark _ below r m.address s' o' s2 c n g (omega arith), omega arith));
        weighs = omega arith;
        stands = refl;
      })
  suspend_mark_law m f (at_call p k lv r q below s' o' c n g e z) = subst (Leaves m f.0) (sym c) tt
  suspend_mark_law m f (at_base p k below c n z) = subst (Leaves m f.0) (sym c) tt

  abbrev Yields : (m : Frames) → ℕ → List Cell → Type 0
  Yields m v xs = IfThere (proc_suspended m xs) (λ after. Pays Bounded place N v after)

  suspend_proc_law : (m : Frames) (f : Fits m) → AtFrame m.cells m.registers.base f.1.1 → Yields m f.0 (cut m.registers.base m.cells)
  suspend_proc_law m f (frame_call p k lv r q below s' o' c n g w) = let x = f.1.3 in
      subst (Yields m f.0) (sym c)
      (record { fits = (o', (0, o', onto_fits Proc m f m.registers.base _ below r q s' o' 0 c n g tt, omega arith)); weighs = omega arith })
  suspend_proc_law m f (frame_base p k below c n) = subst (Yields m f.0) (sym c) tt

  abbrev Returns : ℕ → List Cell → Type 0
  Returns v xs = IfThere (leave_from xs) (λ caller. Pays Bounded place N v caller)

  leave_law : (m : Frames) (f : Fits m) → AtFrame m.cells m.registers.base f.1.1 → Returns f.0 (cut m.registers.base m.cells)
  leave_law m f (frame_call p k lv r q below s' o' c n g w) = let x = f.1.3 in
      subst (Returns f.0) (sym c) (record { fits = (s' + o', (s', o', g, omega arith)); weighs = omega arith })
  leave_law m f (frame_base p k below c n) = subst (Returns f.0) (sym c) tt

  -- resuming

  back_law : (why : Why) (v : ℕ) (below : List Cell) (r : Registers) (q s' o' here : ℕ) → F below r s' o' → Back why (s' + o') here → here ≤ v
      → ResumesWell Bounded v why (record { cells = below; registers = r; address = q })
  back_law Alt v below r q s' o' here f b le = record { fits = (s' + o', (s', o', f, omega arith)); weighs = omega arith }
  back_law (Op x) v below r q s' o' here f b le = (s' + o', (s', o', f, omega arith))
  back_law (Scan pair) v below r q s' o' here f b le = record { fits = (s' + o', (s', o', f, omega arith)); weighs = omega arith }
  back_law Escan v below r q s' o' here f b le = record { fits = (s' + o', (s', o', f, omega arith)); weighs = omega arith }
  back_law Proc v below r q s' o' here f b le = (s' + o', (s', o', f, omega arith))

  abbrev Resumes : ℕ → List Cell → Type 0
  Resumes v xs = IfThere (resume_from xs) (λ back. ResumesWell Bounded v back.0 back.1)

  abbrev ResumesAt : (m : Frames) → ℕ → Option ℕ → Type 0
  ResumesAt m v newest = IfThere (option_and_then (λ h. resume_from (cut h m.cells)) newest) (λ back. ResumesWell Bounded v back.0 back.1)

  resume_law : (m : Frames) (f : Fits m) (newest : Option ℕ) → Newest N m.cells newest f.1.0 f.1.1 → ResumesAt m f.0 newest
  resume_law m f newest (nothing e) = subst (ResumesAt m f.0) (sym e) tt
  resume_law m f newest (newest_at h why r q below s' o' e c n g b) =
      let a : Resumes f.0 (cut h m.cells) = subst (Resumes f.0) (sym c) (back_law why f.0 below r q s' o' (f.1.0 + f.1.1) g b f.1.3) in
      subst (ResumesAt m f.0) (sym e) a

  -- opening

  mark_law : (label : Option ℕ) (m : Frames) (f : Fits m) → Stays Bounded place (suc (worth_of N label)) f.0 m (open_mark label m)
  mark_law label m f = let s = f.1.0 in let o = f.1.1 in let x = f.1.3 in let l = worth_of N label in
      record {
        fits = (
          suc l + (s + o),
          (
            0,
            suc l + (s + o),
            fit (nothing refl)
                (at_mark label false m.registers m.cells l s o (cut_top (mark label false m.registers) m.cells) refl (omega arith) f.1.2 refl refl),
            omega arith,
          ),
        );
        weighs = omega arith;
        stands = refl;
      }

  limit_law : (count : ℕ) (m : Frames) (f : Fits m) → Stays Bounded place 1 f.0 m (open_limit count m)
  limit_law count m f = let s = f.1.0 in let o = f.1.1 in let x = f.1.3 in
      record {
        fits = (
          suc (s + o),
          (
            0,
            suc (s + o),
            fit (nothing refl) (at_limit count m.registers m.cells s o (cut_top (limit count m.registers) m.cells) refl f.1.2 refl refl),
            omega arith,
          ),
        );
        weighs = omega arith;
        stands = refl;
      }

  enter_law : (p : ℕ) (values : List Value) (m : Frames) (f : Fits m) → Fits (enter p values m)
  enter_law p values m f = let s = f.1.0 in let o = f.1.1 in let total = suc (worth N m.address) + (s + o) in
      let frame_cell = call p (length values) (suc (level m)) m.registers m.address in (
        total,
        (
          0,
          total,
          fit_locals values (frame_cell ∷ m.cells) _ 0 total
              (fit (nothing refl)
              (at_call p (length values) (suc (level m)) m.registers m.address m.cells s o (cut_top frame_cell m.cells) refl f.1.2 refl refl)),
          omega arith,
        ),
      )

  begin_law : (p : ℕ) (values : List Value) (q : ℕ) (m : Frames) → Fits (begin p values q m)
  begin_law p values q m =
      (0, (0, 0, fit_locals values (base p (length values) ∷ []) _ 0 0 (fit (nothing refl) (at_base p (length values) [] refl refl refl)), omega arith))

  pub flat_weighs : Weighs flat N
  flat_weighs = record {
    Bounded = Bounded;
    FitsAway = Fits;
    kept = λ m f. f;
    taken_up = λ k m f. f;
    begin = begin_law;
    set_locals = λ values m f. keeps m (set_locals values m) f (locals_law values m.registers.base m.cells m.registers f.1.0 f.1.1 f.1.2) refl;
    go = λ p m v f. f;
    go_stands = λ p m. refl;
    push = λ item m f. keeps m (push item m) f (fit_push (operand item) m.cells m.registers f.1.0 f.1.1 f.1.2) refl;
    pop = λ m f. pop_law m m.cells f f.1.2;
    take = λ n m f. take_law n m m.cells [] f f.1.2;
    mark = mark_law;
    limit = limit_law;
    relabel = λ label m f. relabel_law label m (cell_at m.registers.mark m.cells) refl f;
    count_down = λ m f. count_law m (cell_at m.registers.mark m.cells) refl f;
    unmark = λ m f. unmark_law m f (outer_from f.1.2);
    drop_mark = λ m f. drop_law m f (outer_from f.1.2);
    suspend = suspend_law;
    suspend_mark = λ m f. suspend_mark_law m f (outer_from f.1.2);
    suspend_proc = λ m f. suspend_proc_law m f (frame_in m.cells m.registers f.1.0 f.1.1 f.1.2);
    resume = λ m f. resume_law m f m.registers.newest (newest_from f.1.2);
    swap_newest = λ pair m f. swap_law pair m m.registers.scan f;
    swap_oldest = λ pair m f. swap_law pair m (oldest None m) f;
    enter = enter_law;
    leave = λ m f. leave_law m f (frame_in m.cells m.registers f.1.0 f.1.1 f.1.2);
  }

  -- what bounds a stack, in its own words

  pub bounded_so : (m : Frames) (v : ℕ) → flat_weighs.Bounded m v → Bounded m v
  unfolding flat_weighs
  bounded_so m v b = b

  pub so_bounded : (m : Frames) (v : ℕ) → Bounded m v → flat_weighs.Bounded m v
  unfolding flat_weighs
  so_bounded m v b = b
