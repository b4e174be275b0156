-- Pieces of code: how long they are, where the labels of their `chfail` lie, and what is known where they
-- sit in the code of a procedure.
use Rattle.std.proofs.Common.{◌≡◌, ℕ, zero, suc, ◌+◌, ◌||◌, Bool, true, false, ◌<◌, ◌≤◌, List, [], ◌∷◌, ◌++◌, length, Some, refl, sym, ap, ◌∙◌, subst, arith, length-append}
use Rattle.std.specs.Prelude.{slice_get}
use Rattle.std.specs.List.{list_any}
use Rattle.icn_code.specs.declared.instr.Instr.{Instr}
use Rattle.icn_code.specs.declared.instr.Instr.TheVariants as I
use Rattle.icn_run.specs.LinkedStep.{is_chfail_to}
use Rattle.law_simulation.specs.Linkage.{Linkage, Here}
use Rattle.law_simulation.proofs.Application.{equal_self}
use Rattle.std.specs.Prelude.{◌==◌}
use Rattle.std.proofs.lemmas.Bool.Decides.{nat_tests}

abbrev pub has_chfail : ℕ → List Instr → Bool
has_chfail i xs = list_any (is_chfail_to i) xs

-- no `chfail`
abbrev pub Plain : Instr → Type 0
Plain x = (i : ℕ) → is_chfail_to i x ≡ false

pub record Seg (p m : ℕ) (xs : List Instr) : Type 0 where
  pub length_is : length xs ≡ m
  pub within : (i : ℕ) → has_chfail i xs ≡ true → (p ≤ i) × (i < p + m)

any_append : (i : ℕ) (xs ys : List Instr) → has_chfail i (xs ++ ys) ≡ (has_chfail i xs || has_chfail i ys)
any_append i [] ys = refl
any_append i (x ∷ xs) ys = ap (λ b. is_chfail_to i x || b) (any_append i xs ys)
    ∙ or_assoc (is_chfail_to i x) (has_chfail i xs) (has_chfail i ys)
  where
    or_assoc : (a b c : Bool) → (a || (b || c)) ≡ ((a || b) || c)
    or_assoc true b c = refl
    or_assoc false b c = refl

or_false : (b : Bool) → (b || false) ≡ b
or_false true = refl
or_false false = refl

or_true : (b : Bool) → (b || (true || false)) ≡ true
or_true true = refl
or_true false = refl

false_if : (b : Bool) → (b ≡ true → ⊥) → b ≡ false
false_if false h = refl
false_if true h = absurd (h refl)

pub seg_nil : (p : ℕ) → Seg p 0 []
seg_nil p = record { length_is = refl; within = λ i e. absurd (cc) }

pub seg_cons : {p m : ℕ} {ys : List Instr} (x : Instr) → Plain x → Seg (suc p) m ys → Seg p (suc m) (x ∷ ys)
seg_cons {p} {m} {ys} x h s = record {
  length_is = ap suc s.length_is;
  within = λ i e. let e' : has_chfail i ys ≡ true = subst (λ b. (b || has_chfail i ys) ≡ true) (h i) e in
      let w = s.within i e' in (omega arith, omega arith);
}

seg_by : (p n m i : ℕ) (a b : Bool) → (a ≡ true → (p ≤ i) × (i < p + n))
    → (b ≡ true → (p + n ≤ i) × (i < p + n + m)) → (a || b) ≡ true → (p ≤ i) × (i < p + (n + m))
seg_by p n m i true b f g e = let w = f refl in (omega arith, omega arith)
seg_by p n m i false b f g e = let w = g e in (omega arith, omega arith)

pub seg_append : {p n m : ℕ} {xs ys : List Instr} → Seg p n xs → Seg (p + n) m ys → Seg p (n + m) (xs ++ ys)
seg_append {p} {n} {m} {xs} {ys} s t = record {
  length_is = let a = s.length_is in let b = t.length_is in omega (arith, length-append xs ys);
  within = λ i e. seg_by p n m i (has_chfail i xs) (has_chfail i ys) (s.within i) (t.within i)
      (sym (any_append i xs ys) ∙ e);
}

pub seg_at : {p p' m m' : ℕ} {xs : List Instr} → p ≡ p' → m ≡ m' → Seg p m xs → Seg p' m' xs
seg_at {p} {p'} {m} {m'} {xs} e f s = subst (λ p. Seg p m' xs) e (subst (λ m. Seg p m xs) f s)

no_label : {p m : ℕ} {xs : List Instr} (i : ℕ) → Seg p m xs → ((p ≤ i) × (i < p + m) → ⊥)
    → has_chfail i xs ≡ false
no_label {xs = xs} i s h = false_if (has_chfail i xs) (λ e. h (s.within i e))

get_left : (xs ys : List Instr) (i : ℕ) (x : Instr) → slice_get xs i ≡ Some x
    → slice_get (xs ++ ys) i ≡ Some x
get_left [] ys i x e = absurd (cc)
get_left (y ∷ xs) ys zero x e = e
get_left (y ∷ xs) ys (suc i) x e = get_left xs ys i x e

get_right : (xs ys : List Instr) (i n : ℕ) → n ≡ length xs + i → slice_get (xs ++ ys) n ≡ slice_get ys i
get_right [] [] i n e = let h : n ≡ i = omega arith in ap (λ n. slice_get [] n) h
get_right [] (y ∷ ys) i n e = let h : n ≡ i = omega arith in ap (λ n. slice_get (y ∷ ys) n) h
get_right (x ∷ xs) ys i zero e = absurd (omega arith)
get_right (x ∷ xs) ys i (suc n) e = get_right xs ys i n (omega arith)

module _ (L : Linkage) (j : ℕ) where
  pub record Sits (p : ℕ) (xs : List Instr) : Type 0 where
    pub placed : (i : ℕ) (x : Instr) → slice_get xs i ≡ Some x → Here L j (p + i) x
    pub fresh : (i : ℕ) → i < length xs → L.repeats j (p + i) ≡ has_chfail (p + i) xs

  pub sits_at : {p p' : ℕ} {xs : List Instr} → p ≡ p' → Sits p xs → Sits p' xs
  sits_at {xs = xs} e s = subst (λ p. Sits p xs) e s

  pub sits_left : {p n m : ℕ} {xs ys : List Instr} → Seg p n xs → Seg (p + n) m ys → Sits p (xs ++ ys)
      → Sits p xs
  sits_left {p} {n} {m} {xs} {ys} a b s = record {
    placed = λ i x e. s.placed i x (get_left xs ys i x e);
    fresh = λ i h. let la = a.length_is in s.fresh i (omega (arith, length-append xs ys))
        ∙ any_append (p + i) xs ys
        ∙ ap (λ c. has_chfail (p + i) xs || c) (no_label (p + i) b (λ w. omega arith))
        ∙ or_false (has_chfail (p + i) xs);
  }

  pub sits_right : {p n m : ℕ} {xs ys : List Instr} → Seg p n xs → Seg (p + n) m ys → Sits p (xs ++ ys)
      → Sits (p + n) ys
  sits_right {p} {n} {m} {xs} {ys} a b s = record {
    placed = λ i x e. let la = a.length_is in let q : p + (n + i) ≡ p + n + i = omega arith in
        subst (λ q. Here L j q x) q (s.placed (n + i) x (get_right xs ys i (n + i) (omega arith) ∙ e));
    fresh = λ i h. let la = a.length_is in let q : p + (n + i) ≡ p + n + i = omega arith in
        subst (λ q. L.repeats j q ≡ has_chfail q ys) q
        (s.fresh (n + i) (omega (arith, length-append xs ys)) ∙ any_append (p + (n + i)) xs ys
        ∙ ap (λ c. c || has_chfail (p + (n + i)) ys) (no_label (p + (n + i)) a (λ w. omega arith)));
  }

  pub sits_head : {p m : ℕ} {ys : List Instr} (x : Instr) → Plain x → Seg (suc p) m ys → Sits p (x ∷ ys)
      → Here L j p x
  sits_head {p} x h b s = let e : p + 0 ≡ p = omega arith in subst (λ q. Here L j q x) e (s.placed 0 x refl)

  pub sits_free : {p m : ℕ} {ys : List Instr} (x : Instr) → Plain x → Seg (suc p) m ys → Sits p (x ∷ ys)
      → L.repeats j p ≡ false
  sits_free {p} {ys = ys} x h b s = let e : p + 0 ≡ p = omega arith in
      subst (λ q. L.repeats j q ≡ false) e
      (s.fresh 0 (omega arith) ∙ ap (λ c. c || has_chfail (p + 0) ys) (h (p + 0))
      ∙ no_label (p + 0) b (λ w. omega arith))

  pub sits_tail : {p m : ℕ} {ys : List Instr} (x : Instr) → Plain x → Seg (suc p) m ys → Sits p (x ∷ ys)
      → Sits (suc p) ys
  sits_tail {p} {ys = ys} x h b s = record {
    placed = λ i y e. let q : p + suc i ≡ suc p + i = omega arith in
        subst (λ q. Here L j q y) q (s.placed (suc i) y e);
    fresh = λ i l. let q : p + suc i ≡ suc p + i = omega arith in
        subst (λ q. L.repeats j q ≡ has_chfail q ys) q
        (s.fresh (suc i) (omega arith) ∙ ap (λ c. c || has_chfail (p + suc i) ys) (h (p + suc i)));
  }

  -- a piece of code, with what is known where it sits
  pub record CodePart (p m : ℕ) (xs : List Instr) (X : Type 0) : Type 0 where
    pub seg : Seg p m xs
    pub gives : Sits p xs → X

  pub part_nil : (p : ℕ) → CodePart p 0 [] (Unit {0})
  part_nil p = record { seg = seg_nil p; gives = λ s. tt }

  -- an instruction, that it is no place of a repeated alternation, and the rest
  pub part_cons : {p p' m : ℕ} {ys : List Instr} {Y : Type 0} (x : Instr) → Plain x → p' ≡ suc p
      → CodePart p' m ys Y → CodePart p (suc m) (x ∷ ys) (Here L j p x × (L.repeats j p ≡ false) × Y)
  part_cons {ys = ys} x h e b = let s = seg_at e refl b.seg in
      record {
        seg = seg_cons x h s;
        gives = λ t.
            (sits_head x h s t, sits_free x h s t, b.gives (sits_at (sym e) (sits_tail x h s t)));
      }

  pub part_append : {p p' n m : ℕ} {xs ys : List Instr} {X Y : Type 0} → p' ≡ p + n → CodePart p n xs X
      → CodePart p' m ys Y → CodePart p (n + m) (xs ++ ys) (X × Y)
  part_append e a b = let s = seg_at e refl b.seg in
      record {
        seg = seg_append a.seg s;
        gives = λ t.
            (a.gives (sits_left a.seg s t), b.gives (sits_at (sym e) (sits_right a.seg s t)));
      }

  pub part_map : {p m m' : ℕ} {xs : List Instr} {X Y : Type 0} → CodePart p m xs X → m ≡ m' → (X → Y)
      → CodePart p m' xs Y
  part_map a e f = record { seg = seg_at refl e a.seg; gives = λ t. f (a.gives t) }

  -- `|e`: the place of its mark is that of a repeated alternation
  ends_repeat : ℕ → List Instr
  ends_repeat p = I.Chfail p ∷ I.Esusp ∷ []

  equal_of : (a b : ℕ) → (a == b) ≡ true → a ≡ b
  equal_of a b e = grind (arith, nat_tests)

  unequal : (p i : ℕ) → (p == suc (p + i)) ≡ false
  unequal p i = grind (arith, nat_tests)

  within_by : (p m i : ℕ) (a b : Bool) → (a ≡ true → (suc p ≤ i) × (i < suc p + m)) → (b ≡ true → p ≡ i)
      → (a || (b || false)) ≡ true → (p ≤ i) × (i < p + (m + 3))
  within_by p m i true b f g e = let w = f refl in (omega arith, omega arith)
  within_by p m i false true f g e = let w = g refl in (omega arith, omega arith)
  within_by p m i false false f g e = absurd (cc)

  pub part_repeat : {p p' m : ℕ} {xs : List Instr} {X : Type 0} → p' ≡ suc p → CodePart p' m xs X
      → CodePart p (m + 3) (I.Mark0 ∷ xs ++ (I.Chfail p ∷ I.Esusp ∷ []))
      (Here L j p I.Mark0 × (L.repeats j p ≡ true) × X × Here L j (suc p + m) (I.Chfail p)
      × Here L j (suc (suc p + m)) I.Esusp)
  part_repeat {p} {p'} {m} {xs} ep a = let b = seg_at ep refl a.seg in let lb = b.length_is in record {
    seg = record {
      length_is = omega (arith, length-append xs (I.Chfail p ∷ I.Esusp ∷ []));
      within = λ i e. within_by p m i (has_chfail i xs) (p == i) (b.within i) (equal_of p i)
          (sym (any_append i xs (I.Chfail p ∷ I.Esusp ∷ [])) ∙ e);
    };
    gives = λ s.
        let e0 : p + 0 ≡ p = omega arith in
        let q1 : p + suc (m + 0) ≡ suc p + m = omega arith in
        let q2 : p + suc (m + 1) ≡ suc (suc p + m) = omega arith in
        let last : (k : ℕ) (x : Instr) → slice_get (I.Chfail p ∷ I.Esusp ∷ []) k ≡ Some x
        → Here L j (p + suc (m + k)) x =
        (λ k x e. s.placed (suc (m + k)) x
        (get_right xs (I.Chfail p ∷ I.Esusp ∷ []) k (m + k) (omega arith) ∙ e)) in
        let up : L.repeats j (p + 0) ≡ true = s.fresh 0 (omega arith)
        ∙ any_append (p + 0) xs (I.Chfail p ∷ I.Esusp ∷ [])
        ∙ ap (λ c. has_chfail (p + 0) xs || (c || false)) (ap (λ q. p == q) e0 ∙ equal_self p)
        ∙ or_true (has_chfail (p + 0) xs) in
        let inside : Sits (suc p) xs = record {
          placed = λ i x e. let q : p + suc i ≡ suc p + i = omega arith in
              subst (λ q. Here L j q x) q (s.placed (suc i) x
              (get_left xs (I.Chfail p ∷ I.Esusp ∷ []) i x e));
          fresh = λ i h. let q : p + suc i ≡ suc p + i = omega arith in let q' : p + suc i ≡ suc (p + i) =
              omega arith in
              subst (λ q. L.repeats j q ≡ has_chfail q xs) q
              (s.fresh (suc i) (omega (arith, length-append xs (I.Chfail p ∷ I.Esusp ∷ [])))
              ∙ any_append (p + suc i) xs (I.Chfail p ∷ I.Esusp ∷ [])
              ∙ ap (λ c. has_chfail (p + suc i) xs || (c || false)) (ap (λ q. p == q) q' ∙ unequal p i)
              ∙ or_false (has_chfail (p + suc i) xs));
        } in (
          subst (λ q. Here L j q I.Mark0) e0 (s.placed 0 I.Mark0 refl),
          subst (λ q. L.repeats j q ≡ true) e0
              up,
          a.gives (sits_at (sym ep) inside),
          subst (λ q. Here L j q (I.Chfail p)) q1
              (last 0 (I.Chfail p) refl),
          subst (λ q. Here L j q I.Esusp) q2 (last 1 I.Esusp refl),
        );
  }
