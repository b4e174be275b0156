-- Lists and options whose entries are related one by one, and lists in which places are related.
use Rattle.std.proofs.Common.{◌≡◌, ◌⊎◌, inl, inr, ℕ, zero, suc, Bool, true, false, ◌||◌, List, [], ◌∷◌, ◌++◌, length, Option, None, Some, cond, refl, sym, ap, ◌∙◌, subst, if◌then◌else◌}
use Rattle.std.specs.Prelude.{◌==◌, drop, filter, map, replicate, slice_get, slice_index_or, slice_set, take, unwrap_or}
use Rattle.std.specs.List.{list_any}
use Rattle.std.specs.Ordering.{is_lt}
use Rattle.std.specs.declared.cmp.Ordering.{Ordering}
use Rattle.std.proofs.lemmas.Bool.Decides.{eqb_tells}
use Rattle.icn_defs.specs.Conversions.{sort_list, sorted_in, sorted_onto}
use Rattle.law_stacks.proofs.CellLists.{get_set_other, get_set_same}
use Rattle.law_prune.proofs.RelatedValues.{OneForOne}

-- a thing on each side, or none on both
pub data OptionTo {A B : Type 0} (P : A → B → Type 0) : Option A → Option B → Type 0 where
  neither : OptionTo P None None
  each_to : {x : A} {y : B} → P x y → OptionTo P (Some x) (Some y)

-- as many on each side, related one by one
pub data Both {A B : Type 0} (P : A → B → Type 0) : List A → List B → Type 0 where
  both_nil : Both P [] []
  both_cons : {x : A} {y : B} {xs : List A} {ys : List B} → P x y → Both P xs ys → Both P (x ∷ xs) (y ∷ ys)

module _ {A B : Type 0} (P : A → B → Type 0) where
  pub both_append : (xs zs : List A) (ys ws : List B) → Both P xs ys → Both P zs ws → Both P (xs ++ zs) (ys ++ ws)
  both_append xs zs ys ws both_nil g = g
  both_append xs zs ys ws (both_cons h t) g = both_cons h (both_append _ zs _ ws t g)

  pub both_set : (xs : List A) (ys : List B) (n : ℕ) (x : A) (y : B) → Both P xs ys → P x y → Both P (slice_set xs n x) (slice_set ys n y)
  both_set xs ys n x y both_nil g = both_nil
  both_set xs ys zero x y (both_cons h t) g = both_cons g t
  both_set xs ys (suc n) x y (both_cons h t) g = both_cons h (both_set _ _ n x y t g)

  pub both_take : (n : ℕ) (xs : List A) (ys : List B) → Both P xs ys → Both P (take n xs) (take n ys)
  both_take zero xs ys h = both_nil
  both_take (suc n) xs ys both_nil = both_nil
  both_take (suc n) xs ys (both_cons h t) = both_cons h (both_take n _ _ t)

  pub both_drop : (n : ℕ) (xs : List A) (ys : List B) → Both P xs ys → Both P (drop n xs) (drop n ys)
  both_drop zero xs ys h = h
  both_drop (suc n) xs ys both_nil = both_nil
  both_drop (suc n) xs ys (both_cons h t) = both_drop n _ _ t

  pub both_replicate : (n : ℕ) (x : A) (y : B) → P x y → Both P (replicate n x) (replicate n y)
  both_replicate zero x y h = both_nil
  both_replicate (suc n) x y h = both_cons h (both_replicate n x y h)

  pub both_get : (xs : List A) (ys : List B) (n : ℕ) → Both P xs ys → OptionTo P (slice_get xs n) (slice_get ys n)
  both_get xs ys n both_nil = neither
  both_get xs ys zero (both_cons h t) = each_to h
  both_get xs ys (suc n) (both_cons h t) = both_get _ _ n t

  pub both_length : (xs : List A) (ys : List B) → Both P xs ys → length xs ≡ length ys
  both_length xs ys both_nil = refl
  both_length xs ys (both_cons h t) = ap suc (both_length _ _ t)

  pub unwrapped : (o : Option A) (o' : Option B) (d : A) (e : B) → OptionTo P o o' → P d e → P (unwrap_or o d) (unwrap_or o' e)
  unwrapped o o' d e neither h = h
  unwrapped o o' d e (each_to t) h = t

  pub both_at : (xs : List A) (ys : List B) (n : ℕ) (d : A) (e : B) → Both P xs ys → P d e → P (unwrap_or (slice_get xs n) d) (unwrap_or (slice_get ys n) e)
  both_at xs ys n d e h g = unwrapped _ _ d e (both_get xs ys n h) g

  pub both_index : (xs : List A) (ys : List B) (n : ℕ) (d : A) (e : B) → Both P xs ys → P d e → P (slice_index_or xs n d) (slice_index_or ys n e)
  both_index xs ys n d e both_nil g = g
  both_index xs ys zero d e (both_cons h t) g = h
  both_index xs ys (suc n) d e (both_cons h t) g = both_index _ _ n d e t g

  pub both_filter : (f : A → Bool) (g : B → Bool) → ((x : A) (y : B) → P x y → f x ≡ g y) → (xs : List A) (ys : List B) → Both P xs ys
      → Both P (filter f xs) (filter g ys)
  both_filter f g e xs ys both_nil = both_nil
  both_filter f g e xs ys (both_cons {x} {y} {xs = us} {ys = ws} h t) = by (f x) (g y) (e x y h) (both_filter f g e us ws t)
    where
      by : (a b : Bool) → a ≡ b → Both P (filter f us) (filter g ws)
          → Both P (cond a (x ∷ filter f us) (filter f us)) (cond b (y ∷ filter g ws) (filter g ws))
      by true true e r = both_cons h r
      by true false e r = absurd (cc)
      by false true e r = absurd (cc)
      by false false e r = r

  pub both_any : (f : A → Bool) (g : B → Bool) → ((x : A) (y : B) → P x y → f x ≡ g y) → (xs : List A) (ys : List B) → Both P xs ys
      → list_any f xs ≡ list_any g ys
  both_any f g e xs ys both_nil = refl
  both_any f g e xs ys (both_cons {x} {y} {xs = us} {ys = ws} h t) =
      ap (λ b. b || list_any f us) (e x y h) ∙ ap (λ b. g y || b) (both_any f g e us ws t)

  -- Sorted alike, where both orders agree

  sorted_to : (f : A → A → Ordering) (g : B → B → Ordering) → ((x u : A) (y w : B) → P x y → P u w → f x u ≡ g y w)
      → (x : A) (y : B) (xs : List A) (ys : List B) → P x y → Both P xs ys → Both P (sorted_in f x xs) (sorted_in g y ys)
  sorted_to f g e x y xs ys p both_nil = both_cons p both_nil
  sorted_to f g e x y xs ys p (both_cons {x = u} {y = w} {xs = us} {ys = ws} h t) =
      by (f x u) (g y w) (e x u y w p h) (sorted_to f g e x y us ws p t)
    where
      so : (a b : Bool) → a ≡ b → Both P (sorted_in f x us) (sorted_in g y ws)
          → Both P (if a then x ∷ (u ∷ us) else u ∷ sorted_in f x us) (if b then y ∷ (w ∷ ws) else w ∷ sorted_in g y ws)
      so true true e r = both_cons p (both_cons h t)
      so true false e r = absurd (cc)
      so false true e r = absurd (cc)
      so false false e r = both_cons h r

      by : (a b : Ordering) → a ≡ b → Both P (sorted_in f x us) (sorted_in g y ws)
          → Both P (if is_lt a then x ∷ (u ∷ us) else u ∷ sorted_in f x us) (if is_lt b then y ∷ (w ∷ ws) else w ∷ sorted_in g y ws)
      by a b e r = so (is_lt a) (is_lt b) (ap is_lt e) r

  placed_to : (f : A → A → Ordering) (g : B → B → Ordering) → ((x u : A) (y w : B) → P x y → P u w → f x u ≡ g y w)
      → (xs zs : List A) (ys ws : List B) → Both P xs ys → Both P zs ws → Both P (sorted_onto f xs zs) (sorted_onto g ys ws)
  placed_to f g e xs zs ys ws p both_nil = p
  placed_to f g e xs zs ys ws p (both_cons {x = u} {y = w} h t) =
      placed_to f g e (sorted_in f u xs) _ (sorted_in g w ys) _ (sorted_to f g e u w xs ys h p) t

  pub both_sorted : (f : A → A → Ordering) (g : B → B → Ordering) → ((x u : A) (y w : B) → P x y → P u w → f x u ≡ g y w)
      → (xs : List A) (ys : List B) → Both P xs ys → Both P (sort_list f xs) (sort_list g ys)
  both_sorted f g e xs ys h = placed_to f g e [] xs [] ys both_nil h

pub both_map : {A B C D : Type 0} (P : A → B → Type 0) (Q : C → D → Type 0) (f : A → C) (g : B → D) → ((x : A) (y : B) → P x y → Q (f x) (g y))
    → (xs : List A) (ys : List B) → Both P xs ys → Both Q (map f xs) (map g ys)
both_map P Q f g e xs ys both_nil = both_nil
both_map P Q f g e xs ys (both_cons {x} {y} h t) = both_cons (e x y h) (both_map P Q f g e _ _ t)

-- Related places

-- what stands at related places is related
pub record PlacesTo {A B : Type 0} (T : ℕ → ℕ → Type 0) (P : A → B → Type 0) (xs : List A) (ys : List B) : Type 0 where
  pub at : (k j : ℕ) → T k j → OptionTo P (slice_get xs k) (slice_get ys j)

module _ {A B : Type 0} (T : ℕ → ℕ → Type 0) (P : A → B → Type 0) where
  pub place_at : (xs : List A) (ys : List B) (k j : ℕ) (d : A) (e : B) → PlacesTo T P xs ys → T k j → P d e
      → P (unwrap_or (slice_get xs k) d) (unwrap_or (slice_get ys j) e)
  place_at xs ys k j d e h t g = unwrapped P _ _ d e (h.at k j t) g

  -- one is another on both sides
  pub places_set : OneForOne T → (xs : List A) (ys : List B) (k j : ℕ) (x : A) (y : B) → PlacesTo T P xs ys → T k j → P x y
      → PlacesTo T P (slice_set xs k x) (slice_set ys j y)
  places_set one xs ys k j x y h t g = record { at = at }
    where
      here : (o : Option A) (p : Option B) → slice_get xs k ≡ o → slice_get ys j ≡ p → OptionTo P o p
          → OptionTo P (slice_get (slice_set xs k x) k) (slice_get (slice_set ys j y) j)
      here o p e f neither = subst (λ r. OptionTo P r (slice_get (slice_set ys j y) j)) (sym (none_set xs k x e))
          (subst (OptionTo P None) (sym (none_set ys j y f)) neither)
        where
          none_set : {C : Type 0} (zs : List C) (n : ℕ) (z : C) → slice_get zs n ≡ None → slice_get (slice_set zs n z) n ≡ None
          none_set [] n z e = refl
          none_set (u ∷ zs) zero z e = absurd (cc)
          none_set (u ∷ zs) (suc n) z e = none_set zs n z e
      here o p e f (each_to {x = u} {y = w} r) = subst (λ r. OptionTo P r (slice_get (slice_set ys j y) j)) (sym (get_set_same xs k u x e))
          (subst (OptionTo P (Some x)) (sym (get_set_same ys j w y f)) (each_to g))

      at : (m n : ℕ) → T m n → OptionTo P (slice_get (slice_set xs k x) m) (slice_get (slice_set ys j y) n)
      at m n s = by (eqb_tells m k)
        where
          by : (((m == k) ≡ true) × (m ≡ k)) ⊎ (((m == k) ≡ false) × (m ≡ k → ⊥)) → OptionTo P (slice_get (slice_set xs k x) m) (slice_get (slice_set ys j y) n)
          by (inl e) =
              let other : n ≡ j = one.after k n j (subst (λ r. T r n) e.1 s) t in
              subst (λ r. OptionTo P (slice_get (slice_set xs k x) r) (slice_get (slice_set ys j y) n)) (sym e.1)
              (subst (λ r. OptionTo P (slice_get (slice_set xs k x) k) (slice_get (slice_set ys j y) r)) (sym other)
              (here (slice_get xs k) (slice_get ys j) refl refl (h.at k j t)))
          by (inr e) =
              subst (λ r. OptionTo P r (slice_get (slice_set ys j y) n)) (sym (get_set_other xs m k x e.1))
              (subst (OptionTo P (slice_get xs m)) (sym (get_set_other ys n j y (λ q. e.1 (one.before m k j (subst (T m) q s) t)))) (h.at m n s))
