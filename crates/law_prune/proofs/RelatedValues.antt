-- Values of a run of the whole code, and of one of the pruned code: all are the same but that procedures have other numbers.
use Rattle.std.proofs.Common.{◌≡◌, ◌⊎◌, inl, inr, ℕ, ◌<◌, ◌≤◌, Bool, true, false, List, cond, refl, sym, ap, ◌∙◌, subst, arith}
use Rattle.std.specs.Prelude.{◌==◌, ℤ, nat_lt, pos}
use Rattle.std.specs.Ordering.{int_cmp, is_eq}
use Rattle.std.specs.declared.cmp.Ordering.TheVariants.{Less, Equal, Greater}
use Rattle.std.proofs.lemmas.Bool.{lt-ltb, ltb-false, ltb-true}
use Rattle.std.proofs.lemmas.Bool.Decides.{eqb_tells}
use Rattle.icn_value.specs.Sameness.{same, shape_cmp, shape_of}
use Rattle.icn_value.specs.Values.{Value, Null, Integer, Text, Chars, Std, Procedure, ARecord, AList, ASet, ATable, ACoexp, File}

-- numbers that are related one for one
pub record OneForOne (To : ℕ → ℕ → Type 0) : Type 0 where
  pub after : (x y z : ℕ) → To x y → To x z → y ≡ z
  pub before : (x w y : ℕ) → To x y → To w y → x ≡ w

-- and in their order
pub record InOrder (To : ℕ → ℕ → Type 0) : Type 0 where
  pub ordered : (x y w z : ℕ) → To x y → To w z → x < w → y < z

module _ (To : ℕ → ℕ → Type 0) where
  -- a value, and what it is in the run of the pruned code
  pub data ValueTo : Value → Value → Type 0 where
    null_to : ValueTo Null Null
    integer_to : (n : ℤ) → ValueTo (Integer n) (Integer n)
    text_to : (bytes : List ℕ) → ValueTo (Text bytes) (Text bytes)
    chars_to : (bytes : List ℕ) → ValueTo (Chars bytes) (Chars bytes)
    file_to : (file : File) → ValueTo (Std file) (Std file)
    procedure_to : (n k : ℕ) → To n k → ValueTo (Procedure n) (Procedure k)
    record_to : (id : ℕ) → ValueTo (ARecord id) (ARecord id)
    list_to : (id : ℕ) → ValueTo (AList id) (AList id)
    set_to : (id : ℕ) → ValueTo (ASet id) (ASet id)
    table_to : (id : ℕ) → ValueTo (ATable id) (ATable id)
    coexp_to : (id : ℕ) → ValueTo (ACoexp id) (ACoexp id)

  -- what looks at no number of a procedure is alike
  pub alike : {A : Type 0} (f : Value → A) → ((n k : ℕ) → f (Procedure n) ≡ f (Procedure k)) → (v w : Value) → ValueTo v w → f v ≡ f w
  alike f h v w null_to = refl
  alike f h v w (integer_to n) = refl
  alike f h v w (text_to bytes) = refl
  alike f h v w (chars_to bytes) = refl
  alike f h v w (file_to file) = refl
  alike f h v w (procedure_to n k t) = h n k
  alike f h v w (record_to id) = refl
  alike f h v w (list_to id) = refl
  alike f h v w (set_to id) = refl
  alike f h v w (table_to id) = refl
  alike f h v w (coexp_to id) = refl

  module _ (one : OneForOne To) (along : InOrder To) where
    -- Procedures by their numbers

    not_less : (x y w z : ℕ) → To x y → To w z → nat_lt x w ≡ false → y < z → ⊥
    not_less x y w z s t e l = apart (eqb_tells x w)
      where
        strict : (a c : ℕ) → a ≤ c → (a ≡ c → ⊥) → a < c
        strict a c le other = below (nat_lt a c) refl
          where
            below : (b : Bool) → nat_lt a c ≡ b → a < c
            below true e = ltb-true a c e
            below false e = let most = ltb-false a c e in absurd (other (omega (arith, most, le)))

        apart : (((x == w) ≡ true) × (x ≡ w)) ⊎ (((x == w) ≡ false) × (x ≡ w → ⊥)) → ⊥
        apart (inl a) = let equal = one.after w y z (subst (λ k. To k y) a.1 s) t in omega (arith, equal, l)
        apart (inr a) =
            let least : w ≤ x = ltb-false x w e in
            let k : z < y = along.ordered w z x y t s (strict w x least (λ q. a.1 (sym q))) in omega (arith, k, l)

    less_alike : (x y w z : ℕ) → To x y → To w z → nat_lt x w ≡ nat_lt y z
    less_alike x y w z s t = by (nat_lt x w) (nat_lt y z) refl refl
      where
        by : (a b : Bool) → nat_lt x w ≡ a → nat_lt y z ≡ b → nat_lt x w ≡ nat_lt y z
        by true true e f = e ∙ sym f
        by false false e f = e ∙ sym f
        by true false e f = e ∙ sym (lt-ltb y z (along.ordered x y w z s t (ltb-true x w e)))
        by false true e f = absurd (not_less x y w z s t e (ltb-true y z f))

    pub number_cmp_alike : (x y w z : ℕ) → To x y → To w z → int_cmp (pos x) (pos w) ≡ int_cmp (pos y) (pos z)
    number_cmp_alike x y w z s t =
        ap (λ b. cond b Less (cond (nat_lt w x) Greater Equal)) (less_alike x y w z s t)
        ∙ ap (λ b. cond (nat_lt y z) Less (cond b Greater Equal)) (less_alike w z x y t s)

    -- The order of values: against another value a procedure's number does not count

    procedure_cmp : (n k : ℕ) (a b : Value) → To n k → ValueTo a b
        → shape_cmp (shape_of (Procedure n)) (shape_of a) ≡ shape_cmp (shape_of (Procedure k)) (shape_of b)
    procedure_cmp n k a b s null_to = refl
    procedure_cmp n k a b s (integer_to i) = refl
    procedure_cmp n k a b s (text_to bytes) = refl
    procedure_cmp n k a b s (chars_to bytes) = refl
    procedure_cmp n k a b s (file_to file) = refl
    procedure_cmp n k a b s (procedure_to m j t) = number_cmp_alike n k m j s t
    procedure_cmp n k a b s (record_to id) = refl
    procedure_cmp n k a b s (list_to id) = refl
    procedure_cmp n k a b s (set_to id) = refl
    procedure_cmp n k a b s (table_to id) = refl
    procedure_cmp n k a b s (coexp_to id) = refl

    pub cmp_alike : (v w a b : Value) → ValueTo v w → ValueTo a b → shape_cmp (shape_of v) (shape_of a) ≡ shape_cmp (shape_of w) (shape_of b)
    cmp_alike v w a b null_to t = alike (λ x. shape_cmp (shape_of Null) (shape_of x)) (λ n k. refl) a b t
    cmp_alike v w a b (integer_to i) t = alike (λ x. shape_cmp (shape_of (Integer i)) (shape_of x)) (λ n k. refl) a b t
    cmp_alike v w a b (text_to bytes) t = alike (λ x. shape_cmp (shape_of (Text bytes)) (shape_of x)) (λ n k. refl) a b t
    cmp_alike v w a b (chars_to bytes) t = alike (λ x. shape_cmp (shape_of (Chars bytes)) (shape_of x)) (λ n k. refl) a b t
    cmp_alike v w a b (file_to file) t = alike (λ x. shape_cmp (shape_of (Std file)) (shape_of x)) (λ n k. refl) a b t
    cmp_alike v w a b (procedure_to n k s) t = procedure_cmp n k a b s t
    cmp_alike v w a b (record_to id) t = alike (λ x. shape_cmp (shape_of (ARecord id)) (shape_of x)) (λ n k. refl) a b t
    cmp_alike v w a b (list_to id) t = alike (λ x. shape_cmp (shape_of (AList id)) (shape_of x)) (λ n k. refl) a b t
    cmp_alike v w a b (set_to id) t = alike (λ x. shape_cmp (shape_of (ASet id)) (shape_of x)) (λ n k. refl) a b t
    cmp_alike v w a b (table_to id) t = alike (λ x. shape_cmp (shape_of (ATable id)) (shape_of x)) (λ n k. refl) a b t
    cmp_alike v w a b (coexp_to id) t = alike (λ x. shape_cmp (shape_of (ACoexp id)) (shape_of x)) (λ n k. refl) a b t

    -- `===` tells the same apart
    pub same_alike : (v w a b : Value) → ValueTo v w → ValueTo a b → same v a ≡ same w b
    same_alike v w a b s t = ap is_eq (cmp_alike v w a b s t)
