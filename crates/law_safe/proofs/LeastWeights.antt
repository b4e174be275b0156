-- The weight of a stack as a number is the least that bounds it.
use Rattle.std.proofs.Common.{◌≡◌, ℕ, zero, suc, ◌+◌, ◌-◌, ◌<◌, ◌≤◌, List, ◌∷◌, length, Option, refl, sym, ap, ◌∙◌, subst, arith}
use Rattle.std.specs.Prelude.{max}
use Rattle.std.proofs.Math.Nat.{le-max_left, le-max_right, max-le}
use Rattle.std.proofs.lemmas.List.{length-drop}
use Rattle.icn_run.specs.Calls.{Why, Alt, Op, Scan, Escan, Proc}
use Rattle.icn_run.specs.Stacks.{Cell, call, mark, limit, suspension, Registers, cut}
use Rattle.law_stacks.specs.Measure.{worth}
use Rattle.law_stacks.specs.StackWeights.{label_weight, Back, Fit, fit, Newest, nothing, newest_at, Outer, at_mark, at_limit, at_call, at_base}
use Rattle.law_safe.specs.LeastWeights.{back_weight, outer_weight, newest_weight, weight_up_to, weight_to_depth}

module _ (N : ℕ) where
  abbrev W : ℕ → List Cell → Registers → ℕ
  W = weight_to_depth N

  -- No bound is less

  back_least : (why : Why) (w inside here : ℕ) → w ≤ inside → Back why inside here → back_weight why w ≤ here
  back_least Alt w inside here le back = omega (arith, le, back)
  back_least (Op residual) w inside here le back = omega arith
  back_least (Scan pair) w inside here le back = omega (arith, le, back)
  back_least Escan w inside here le back = omega (arith, le, back)
  back_least Proc w inside here le back = omega arith

  mutual
    pub least : {cells : List Cell} {r : Registers} {s o : ℕ} → Fit N cells r s o → (n : ℕ) → W n cells r ≤ s + o
    least f zero = omega arith
    least {cells} {r} {s} {o} (fit newest outer) (suc n) =
        let below = outer_least outer n in
        max-le (omega (arith, below)) (newest_least newest n)

    outer_least : {cells : List Cell} {m b o : ℕ} → Outer N cells m b o → (n : ℕ) → outer_weight N (W n) (cut m cells) ≤ o
    outer_least {cells} {m} {b} {o} (at_mark label changed r below l s' o' c len le f e frame) n =
        let inside = least f n in subst (λ x. outer_weight N (W n) x ≤ o) (sym c) (omega (arith, le, inside, e))
    outer_least {cells} {m} {b} {o} (at_limit count r below s' o' c len f e frame) n =
        let inside = least f n in subst (λ x. outer_weight N (W n) x ≤ o) (sym c) (omega (arith, inside, e))
    outer_least {cells} {m} {b} {o} (at_call proc locals level r place below s' o' c len f e frame) n =
        let inside = least f n in subst (λ x. outer_weight N (W n) x ≤ o) (sym c) (omega (arith, inside, e))
    outer_least {cells} {m} {b} {o} (at_base proc locals below c len frame) n = subst (λ x. outer_weight N (W n) x ≤ o) (sym c) (omega arith)

    newest_least : {cells : List Cell} {newest : Option ℕ} {s o : ℕ} → Newest N cells newest s o → (n : ℕ)
        → weight_up_to (newest_weight (W n)) cells newest ≤ s + o
    newest_least {cells} {newest} {s} {o} (nothing e) n = subst (λ x. weight_up_to (newest_weight (W n)) cells x ≤ s + o) (sym e) (omega arith)
    newest_least {cells} {newest} {s} {o} (newest_at h why r place below s' o' e c len f back) n =
        subst (λ x. weight_up_to (newest_weight (W n)) cells x ≤ s + o) (sym e)
        (subst (λ x. newest_weight (W n) x ≤ s + o) (sym c) (back_least why (W n below r) (s' + o') (s + o) (least f n) back))

  -- It bounds the stack

  pub record Bounds (n : ℕ) (cells : List Cell) (r : Registers) : Type 0 where
    pub newest : ℕ
    pub outer : ℕ
    pub fits : Fit N cells r newest outer
    pub is : newest + outer ≡ W n cells r

  record BoundsOuter (n : ℕ) (cells : List Cell) (m b : ℕ) : Type 0 where
    outer : ℕ
    fits : Outer N cells m b outer
    is : outer ≡ outer_weight N (W n) (cut m cells)

  record BoundsNewest (n : ℕ) (cells : List Cell) (newest : Option ℕ) (o : ℕ) : Type 0 where
    inner : ℕ
    fits : Newest N cells newest inner o
    is : inner + o ≡ max o (weight_up_to (newest_weight (W n)) cells newest)

  fewer : (cells : List Cell) (h : ℕ) (x : Cell) (below : List Cell) → cut h cells ≡ x ∷ below → length below < length cells
  fewer cells h x below e =
      let a : length (cut h cells) ≡ suc (length below) = ap length e in let b = length-drop (length cells - h) cells in omega (arith, a, b)

  back_bounds : (why : Why) (w inside here : ℕ) → inside ≡ w → back_weight why w ≤ here → Back why inside here
  back_bounds Alt w inside here e le = omega (arith, e, le)
  back_bounds (Op residual) w inside here e le = tt
  back_bounds (Scan pair) w inside here e le = omega (arith, e, le)
  back_bounds Escan w inside here e le = omega (arith, e, le)
  back_bounds Proc w inside here e le = tt

  mutual
    pub bounds : {cells : List Cell} {r : Registers} {s o : ℕ} → Fit N cells r s o → (n : ℕ) → length cells < n → Bounds n cells r
    bounds f zero lt = absurd (omega (arith, lt))
    bounds {cells} {r} {s} {o} (fit newest outer) (suc n) lt =
        let out = outer_bounds outer n (omega (arith, lt)) in
        let new = newest_bounds newest out.outer n (omega (arith, lt)) in
        record {
          newest = new.inner;
          outer = out.outer;
          fits = fit new.fits out.fits;
          is = new.is ∙ ap (λ k. max k (weight_up_to (newest_weight (W n)) cells r.newest)) out.is;
        }

    outer_bounds : {cells : List Cell} {m b o : ℕ} → Outer N cells m b o → (n : ℕ) → length cells ≤ n → BoundsOuter n cells m b
    outer_bounds {cells} {m} {b} {o} (at_mark label changed r below l s' o' c len le f e frame) n few =
        let less = fewer cells m (mark label changed r) below c in
        let inside = bounds f n (omega (arith, less, few)) in
        let is = inside.is in
        record {
          outer = suc (label_weight N label changed) + (inside.newest + inside.outer);
          fits = at_mark label changed r below (label_weight N label changed) inside.newest inside.outer c len (omega arith) inside.fits refl frame;
          is = ap (λ k. suc (label_weight N label changed) + k) is ∙ ap (outer_weight N (W n)) (sym c);
        }
    outer_bounds {cells} {m} {b} {o} (at_limit count r below s' o' c len f e frame) n few =
        let less = fewer cells m (limit count r) below c in
        let inside = bounds f n (omega (arith, less, few)) in
        record {
          outer = suc (inside.newest + inside.outer);
          fits = at_limit count r below inside.newest inside.outer c len inside.fits refl frame;
          is = ap suc inside.is ∙ ap (outer_weight N (W n)) (sym c);
        }
    outer_bounds {cells} {m} {b} {o} (at_call proc locals level r place below s' o' c len f e frame) n few =
        let less = fewer cells m (call proc locals level r place) below c in
        let inside = bounds f n (omega (arith, less, few)) in
        record {
          outer = suc (worth N place) + (inside.newest + inside.outer);
          fits = at_call proc locals level r place below inside.newest inside.outer c len inside.fits refl frame;
          is = ap (λ k. suc (worth N place) + k) inside.is ∙ ap (outer_weight N (W n)) (sym c);
        }
    outer_bounds {cells} {m} {b} {o} (at_base proc locals below c len frame) n few =
        record { outer = 0; fits = at_base proc locals below c len frame; is = ap (outer_weight N (W n)) (sym c) }

    newest_bounds : {cells : List Cell} {newest : Option ℕ} {s o : ℕ} → Newest N cells newest s o → (out n : ℕ) → length cells ≤ n
        → BoundsNewest n cells newest out
    newest_bounds {cells} {newest} {s} {o} (nothing e) out n few =
        let w = weight_up_to (newest_weight (W n)) cells newest in
        let more = le-max_left out w in
        record { inner = max out w - out; fits = nothing e; is = omega (arith, more) }
    newest_bounds {cells} {newest} {s} {o} (newest_at h why r place below s' o' e c len f back) out n few =
        let w = weight_up_to (newest_weight (W n)) cells newest in
        let less = fewer cells h (suspension why r place) below c in
        let inside = bounds f n (omega (arith, less, few)) in
        let more = le-max_left out w in
        let most = le-max_right out w in
        let is : w ≡ back_weight why (W n below r) = ap (weight_up_to (newest_weight (W n)) cells) e ∙ ap (newest_weight (W n)) c in
        record {
          inner = max out w - out;
          fits = newest_at h why r place below inside.newest inside.outer e c len inside.fits
              (back_bounds why (W n below r) (inside.newest + inside.outer) ((max out w - out) + out) inside.is (omega (arith, more, most, is)));
          is = omega (arith, more);
        }
