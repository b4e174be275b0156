-- The globals that stay: what they begin with, their names, and those that kept procedures mention.
use Rattle.std.proofs.Common.{◌≡◌, ℕ, zero, suc, ◌+◌, ◌<◌, Bool, true, false, ◌||◌, not, List, [], ◌∷◌, length, map, if◌then◌else◌, refl, sym, ap, ◌∙◌, subst, arith, get_or}
use Rattle.std.specs.Prelude.{◌==◌}
use Rattle.std.specs.List.{list_any}
use Rattle.std.specs.Str.{bytes_eq}
use Rattle.std.proofs.lemmas.Bool.{and_from, and_parts, eq-eqb, false≢true, or_left, or_right}
use Rattle.icn_code.specs.declared.code.Global.{Global}
use Rattle.icn_code.specs.declared.code.Start.TheVariants.{Null}
use Rattle.icn_code.specs.Rules.{has_name, names_differ}
use Rattle.icn_prune.specs.PrunedCode.{globals_from, start_stays}
use Rattle.icn_prune.proofs.LeastSets.{Each}
use Rattle.icn_prune.proofs.PlacedEntries.{IsAmong}

-- what is looked up at a place in a whole table is what stands there in the rest of it, from a place on
abbrev pub LooksUp : (ℕ → Global) → ℕ → List Global → Type 0
LooksUp look n globals = (i : ℕ) → i < length globals → look (n + i) ≡ get_or globals i (record { name = 0; start = Null })

look_next : (look : ℕ → Global) (n : ℕ) (global : Global) (globals : List Global) → LooksUp look n (global ∷ globals) → LooksUp look (suc n) globals
look_next look n global globals h i l = ap look (next n i) ∙ h (suc i) (omega (arith, l))
  where
    next : (a b : ℕ) → suc a + b ≡ a + suc b
    next a b = omega arith

look_first : (look : ℕ → Global) (n : ℕ) (global : Global) (globals : List Global) → LooksUp look n (global ∷ globals) → look n ≡ global
look_first look n global globals h = ap look (same n) ∙ h 0 (omega arith)
  where
    same : (a : ℕ) → a ≡ a + 0
    same a = omega arith

module _ (keep : List Bool) (mentioned : List ℕ) where
  abbrev Stays : Global → ℕ → Type 0
  Stays global n = start_stays keep (list_any (λ other. other == n) mentioned) global.start ≡ true

  -- each that stays begins with what stays
  pub each_stays : (look : ℕ → Global) (n : ℕ) (globals : List Global) → LooksUp look n globals
      → Each (λ m. Stays (look m) m) (globals_from keep mentioned n globals)
  each_stays look n [] h = tt
  each_stays look n (global ∷ globals) h =
      by (start_stays keep (list_any (λ other. other == n) mentioned) global.start) refl (each_stays look (suc n) globals (look_next look n global globals h))
    where
      by : (stays : Bool) → start_stays keep (list_any (λ other. other == n) mentioned) global.start ≡ stays
          → Each (λ m. Stays (look m) m) (globals_from keep mentioned (suc n) globals)
          → Each (λ m. Stays (look m) m) (if stays then n ∷ globals_from keep mentioned (suc n) globals else globals_from keep mentioned (suc n) globals)
      by true is e = (subst (λ g. Stays g n) (sym (look_first look n global globals h)) is, e)
      by false is e = e

  -- and whatever does so stays
  pub stays_among : (look : ℕ → Global) (n : ℕ) (globals : List Global) → LooksUp look n globals → (i : ℕ) → i < length globals → Stays (look (n + i)) (n + i)
      → IsAmong (globals_from keep mentioned n globals) (n + i)
  stays_among look n [] h i l s = absurd (omega (arith, l))
  stays_among look n (global ∷ globals) h zero l s = by (start_stays keep (list_any (λ other. other == n) mentioned) global.start) refl
    where
      same : (a : ℕ) → a + 0 ≡ a
      same a = omega arith

      here : Stays global n
      here = subst (λ g. Stays g n) (look_first look n global globals h) (subst (λ m. Stays (look m) m) (same n) s)

      by : (stays : Bool) → start_stays keep (list_any (λ other. other == n) mentioned) global.start ≡ stays
          → IsAmong (if stays then n ∷ globals_from keep mentioned (suc n) globals else globals_from keep mentioned (suc n) globals) (n + 0)
      by true is = or_left (n == n + 0) (list_any (λ other. other == n + 0) (globals_from keep mentioned (suc n) globals)) (eq-eqb n (n + 0) (sym (same n)))
      by false is = absurd (false≢true (sym is ∙ here))
  stays_among look n (global ∷ globals) h (suc i) l s =
      by (start_stays keep (list_any (λ other. other == n) mentioned) global.start)
      (subst (IsAmong (globals_from keep mentioned (suc n) globals)) (next n i)
      (stays_among look (suc n) globals (look_next look n global globals h) i (omega (arith, l)) (subst (λ m. Stays (look m) m) (sym (next n i)) s)))
    where
      next : (a b : ℕ) → suc a + b ≡ a + suc b
      next a b = omega arith

      by : (stays : Bool) → IsAmong (globals_from keep mentioned (suc n) globals) (n + suc i)
          → IsAmong (if stays then n ∷ globals_from keep mentioned (suc n) globals else globals_from keep mentioned (suc n) globals) (n + suc i)
      by true e = or_right (n == n + suc i) (list_any (λ other. other == n + suc i) (globals_from keep mentioned (suc n) globals)) e
      by false e = e

  -- Names that differ still do

  module _ (look : ℕ → Global) (name : Global → List ℕ) where
    abbrev names_left : ℕ → List Global → List (List ℕ)
    names_left n globals = map (λ m. name (look m)) (globals_from keep mentioned n globals)

    fewer_names : (n : ℕ) (globals : List Global) → LooksUp look n globals → (text : List ℕ) → has_name (map name globals) text ≡ false
        → has_name (names_left n globals) text ≡ false
    fewer_names n [] h text e = refl
    fewer_names n (global ∷ globals) h text e =
        by (start_stays keep (list_any (λ other. other == n) mentioned) global.start) (bytes_eq (name global) text) refl
        (fewer_names (suc n) globals (look_next look n global globals h) text) e
      where
        by : (stays held : Bool) → bytes_eq (name global) text ≡ held
            → (has_name (map name globals) text ≡ false → has_name (names_left (suc n) globals) text ≡ false)
            → (held || has_name (map name globals) text) ≡ false
            → has_name (map (λ m. name (look m)) (if stays then n ∷ globals_from keep mentioned (suc n) globals else globals_from keep mentioned
            (suc n) globals)) text ≡ false
        by stays true is f e = absurd (cc)
        by true false is f e = ap (λ g. bytes_eq (name g) text || has_name (names_left (suc n) globals) text) (look_first look n global globals h)
            ∙ ap (λ b. b || has_name (names_left (suc n) globals) text) is ∙ f e
        by false false is f e = f e

    pub still_differ : (n : ℕ) (globals : List Global) → LooksUp look n globals → names_differ (map name globals) ≡ true
        → names_differ (names_left n globals) ≡ true
    still_differ n [] h d = refl
    still_differ n (global ∷ globals) h d =
        let t = and_parts (not (has_name (map name globals) (name global))) (names_differ (map name globals)) d in
        by (start_stays keep (list_any (λ other. other == n) mentioned) global.start) (has_name (map name globals) (name global)) refl t.0
        (fewer_names (suc n) globals (look_next look n global globals h) (name global))
        (still_differ (suc n) globals (look_next look n global globals h) t.1)
      where
        by : (stays held : Bool) → has_name (map name globals) (name global) ≡ held → not held ≡ true
            → (has_name (map name globals) (name global) ≡ false → has_name (names_left (suc n) globals) (name global) ≡ false)
            → names_differ (names_left (suc n) globals) ≡ true
            → names_differ (map (λ m. name (look m)) (if stays then n ∷ globals_from keep mentioned (suc n) globals else globals_from keep mentioned
            (suc n) globals)) ≡ true
        by stays true is fresh f g = absurd (cc)
        by true false is fresh f g =
            and_from _ _ (ap (λ b. not (has_name (names_left (suc n) globals) (name b))) (look_first look n global globals h) ∙ ap not (f is)) g
        by false false is fresh f g = g

-- the same globals stay where the same are mentioned
pub globals_alike : (keep : List Bool) (these those : List ℕ)
    → ((p : ℕ) → list_any (λ other. other == p) these ≡ list_any (λ other. other == p) those) → (n : ℕ) (globals : List Global)
    → globals_from keep these n globals ≡ globals_from keep those n globals
globals_alike keep these those same n [] = refl
globals_alike keep these those same n (global ∷ globals) =
    ap (λ mentioned. if start_stays keep mentioned global.start then n ∷ globals_from keep these (suc n) globals else globals_from keep these (suc n) globals)
    (same n)
    ∙ ap (λ rest. if start_stays keep (list_any (λ other. other == n) those) global.start then n ∷ rest else rest)
    (globals_alike keep these those same (suc n) globals)
