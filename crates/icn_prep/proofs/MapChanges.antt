-- What a map of texts has after a change.
use Rattle.std.proofs.Common.{◌≡◌, ℕ, ◌+◌, List, Bool, true, false, cond, if◌then◌else◌, Option, None, Some, refl, sym, ap, subst, ◌∙◌, arith}
use Rattle.std.specs.Prelude.{Vec, is_some}
use Rattle.std.specs.HashMap.{HashMap, UpdatesBy, get_by, hash_map_len}
use Rattle.std.specs.Map.{update, lookup, IsKeyTest, AreApart, KeepsOthers}
use Rattle.std.specs.Option.{option_map}
use Rattle.std.specs.Str.{bytes_eq}
use Rattle.std.specs.Cmp.Lexicographic.{bytes_decides, nat_list_eq_equiv}
use Rattle.std.proofs.lemmas.Option.{none-some}
use Rattle.icn_prep.specs.DefinedNames.{TextOf, Texts, with_text, undefined_by}
use Rattle.icn_prep.specs.TextViews.{texts_in}

apart : (bs cs ks : List ℕ) → bytes_eq bs cs ≡ false → bytes_eq bs ks ≡ true → bytes_eq cs ks ≡ false
apart bs cs ks n y = nat_list_eq_equiv.symm cs ks ∙ sym (nat_list_eq_equiv.congr bs ks cs y) ∙ n

module _ {K : Type 0} (eq : K → K → Bool) (test : K → Bool) where
  other_entries : {X : Type 0} (old new : List (K × X)) → KeepsOthers eq test old new → (other : K → Bool) → IsKeyTest eq other → AreApart test other
      → lookup other new ≡ lookup other old
  unfolding KeepsOthers
  other_entries old new h = h

-- g is w at bs, and f at other bytes
by_bytes : {W : Type 0} (f g : List ℕ → W) (bs : List ℕ) (w : W) → g bs ≡ w → ((cs : List ℕ) → bytes_eq bs cs ≡ false → g cs ≡ f cs) → (cs : List ℕ)
    → g cs ≡ cond (bytes_eq bs cs) w (f cs)
by_bytes {W} f g bs w here other cs = by_test (bytes_eq bs cs) refl
  where
    by_test : (same : Bool) → bytes_eq bs cs ≡ same → g cs ≡ cond same w (f cs)
    by_test true e = subst (λ l. g l ≡ w) ((bytes_decides bs cs).0 e) here
    by_test false e = other cs e

-- what a change at the bytes bs leaves at any bytes cs
pub updates_at : {Y X S : Type 0} (bs : List ℕ) (m n : HashMap (Vec ℕ Y) X S) (w : Option X)
    → UpdatesBy (λ x y. bytes_eq x.items y.items) (λ key. bytes_eq bs key.items) m n w
    → (cs : List ℕ) → get_by (λ key. bytes_eq cs key.items) n ≡ update bytes_eq (λ ds. get_by (λ key. bytes_eq ds key.items) m) bs w cs
updates_at bs m n w h =
    by_bytes (λ ds. get_by (λ key. bytes_eq ds key.items) m) (λ ds. get_by (λ key. bytes_eq ds key.items) n) bs w h.1
    (λ cs e. other_entries _ _ _ _ h.3 _ (λ x y. nat_list_eq_equiv.congr cs x.items y.items) (λ key. apart bs cs key.items e))

pub same_texts : (a b : ℕ) (f g : TextOf) → a ≡ b → ((name : List ℕ) → f name ≡ g name) → let left : Texts = record { count = a; text_of = f } in
    let right : Texts = record { count = b; text_of = g } in left ≡ right
same_texts a b f g e h = λ i. record { count = e i; text_of = λ name. h name i }

choose : {A B : Type 0} (f : A → B) (b : Bool) (x y : A) → f (cond b x y) ≡ cond b (f x) (f y)
choose f true x y = refl
choose f false x y = refl

-- an insert of a name that had no text
pub defines : {Y Z S : Type 0} (m n : HashMap (Vec ℕ Y) (Vec ℕ Z) S) (name : List ℕ) (text : Vec ℕ Z)
    → UpdatesBy (λ x y. bytes_eq x.items y.items) (λ key. bytes_eq name key.items) m n (Some text)
    → hash_map_len n ≡ hash_map_len m + 1 → texts_in n ≡ with_text (texts_in m) name text.items
defines m n name text h len =
    same_texts _ _ _ _ len (λ q. ap (option_map (λ t. t.items)) (updates_at name m n (Some text) h q)
    ∙ choose (option_map (λ t. t.items)) (bytes_eq name q) (Some text) (get_by (λ key. bytes_eq q key.items) m))

-- a removal
pub undefines : {Y Z S : Type 0} (m n : HashMap (Vec ℕ Y) (Vec ℕ Z) S) (name : List ℕ) (found : Option (Vec ℕ Z))
    → found ≡ get_by (λ key. bytes_eq name key.items) m
    → UpdatesBy (λ x y. bytes_eq x.items y.items) (λ key. bytes_eq name key.items) m n None → hash_map_len n + (if is_some found then 1 else 0) ≡ hash_map_len m
    → (found ≡ None → n.entries ≡ m.entries) → texts_in n ≡ undefined_by (texts_in m) name (option_map (λ t. t.items) found)
undefines m n name None is h len same =
    same_texts _ _ _ _ (omega arith) (λ q. ap (λ es. option_map (λ t. t.items) (lookup (λ key. bytes_eq q key.items) es)) (same refl))
undefines m n name (Some text) is h len same =
    same_texts _ _ _ _ (omega arith) (λ q. ap (option_map (λ t. t.items)) (updates_at name m n None h q)
    ∙ choose (option_map (λ t. t.items)) (bytes_eq name q) None (get_by (λ key. bytes_eq q key.items) m))

pub added : {X : Type 0} (before after : ℕ) (old : Option X) → after ≡ before + (if is_some old then 0 else 1) → old ≡ None → after ≡ before + 1
added before after old len none = len ∙ ap (λ o. before + (if is_some o then 0 else 1)) none

-- a key with the bytes of a name that has no text is not there
pub missing : {Y Z S : Type 0} (m : HashMap (Vec ℕ Y) (Vec ℕ Z) S) (name bytes : List ℕ) → bytes ≡ name → (texts_in m).text_of name ≡ None
    → get_by (λ key. bytes_eq bytes key.items) m ≡ None
missing m name bytes is none = ap (λ b. get_by (λ key. bytes_eq b key.items) m) is ∙ unmapped (get_by (λ key. bytes_eq name key.items) m) none
  where
    unmapped : {Z : Type 0} (found : Option (Vec ℕ Z)) → option_map (λ t. t.items) found ≡ None → found ≡ None
    unmapped None h = refl
    unmapped (Some x) h = absurd (none-some (x.items) (sym h))
