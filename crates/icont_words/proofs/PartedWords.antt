-- Where the first `-x` parts the words.
use Rattle.std.proofs.Common.{◌≡◌, ◌∙◌, ◌≤◌, ◌<◌, ◌+◌, ◌-◌, refl, sym, ap, ap₂, ℕ, suc, true, false, cond, List, [], ◌∷◌, ◌++◌, map, length, take, drop, get_or, codes, string_bytes, String, Some, arith, add-one, append-nil, append_assoc, drop-cons, length-take}
use Rattle.std.proofs.lemmas.List.{drop-map, length-map, map-append, take-map, take_more, take_rest}
use Rattle.std.specs.Str.{bytes_eq}
use Rattle.icont_words.specs.Words.{before_run, behind_run, own_words}

-- the words before a place have no `-x`
pub record Parts (place : ℕ) (words : List (List ℕ)) : Type 0 where
  pub some : 1 ≤ place
  pub before : before_run (own_words words) ≡ own_words (take place words) ++ before_run (drop place words)
  pub behind : behind_run (own_words words) ≡ behind_run (drop place words)

pub first_place : (words : List (List ℕ)) → Parts 1 words
first_place [] = record { some = omega arith; before = refl; behind = refl }
first_place (program ∷ words) = record { some = omega arith; before = refl; behind = refl }

own_more : (xs ys : List (List ℕ)) → 1 ≤ length xs → own_words (xs ++ ys) ≡ own_words xs ++ ys
own_more [] ys some = absurd (omega (arith, some))
own_more (x ∷ xs) ys some = refl

module _ {Z : Type 0} (words : List (String Z)) (place : ℕ) (word : String Z) (parts : Parts place (map string_bytes words))
    (there : place < length words)
    (is : word ≡ get_or words place word) where
  abbrev seen : List (List ℕ)
  seen = map string_bytes words

  here : drop place seen ≡ string_bytes word ∷ drop (place + 1) seen
  here =
      drop-map string_bytes place words
      ∙ (ap (map string_bytes) (drop-cons words place word there)
      ∙ (ap (λ (w : String Z). string_bytes w ∷ map string_bytes (drop (suc place) words)) (sym is)
      ∙ ap (λ rest. string_bytes word ∷ rest)
      (sym (drop-map string_bytes (suc place) words) ∙ ap (λ n. drop n seen) (sym (add-one place)))))

  pub parted_before : bytes_eq (string_bytes word) (codes "-x") ≡ true
      → own_words (map string_bytes (take place words)) ≡ before_run (own_words seen)
  parted_before met =
      ap own_words (sym (take-map string_bytes place words))
      ∙ (sym (append-nil (own_words (take place seen)))
      ∙ sym (parts.before ∙ (ap (λ rest. own_words (take place seen) ++ before_run rest) here
      ∙ ap (λ t. own_words (take place seen) ++ cond t [] (string_bytes word ∷ before_run (drop (place + 1) seen))) met)))

  pub parted_behind : bytes_eq (string_bytes word) (codes "-x") ≡ true
      → Some (map string_bytes (take (length words - (place + 1)) (drop (place + 1) words))) ≡ behind_run (own_words seen)
  parted_behind met =
      ap (λ (ws : List (String Z)). Some (map string_bytes ws)) (take_rest words (place + 1))
      ∙ (ap Some (sym (drop-map string_bytes (place + 1) words))
      ∙ sym (parts.behind ∙ (ap behind_run here ∙ ap (λ t. cond t (Some (drop (place + 1) seen))
      (behind_run (drop (place + 1) seen))) met)))

  next_place : take (place + 1) seen ≡ take place seen ++ string_bytes word ∷ []
  next_place =
      take-map string_bytes (place + 1) words
      ∙ (ap (map string_bytes) (take_more words place word there)
      ∙ (map_push (take place words) (get_or words place word)
      ∙ ap₂ (λ (ws : List (List ℕ)) (w : String Z). ws ++ string_bytes w ∷ []) (sym (take-map string_bytes place words))
      (sym is)))
    where
      map_push : (xs : List (String Z)) (x : String Z)
          → map string_bytes (xs ++ x ∷ []) ≡ map string_bytes xs ++ string_bytes x ∷ []
      map_push xs x = map-append string_bytes xs (x ∷ [])

  some_before : 1 ≤ length (take place seen)
  some_before = omega (arith, parts.some, there, length-take place seen, length-map words (string_bytes {Z = Z}))

  pub passed : bytes_eq (string_bytes word) (codes "-x") ≡ false → Parts (place + 1) seen
  passed other = record {
    some = omega (arith, parts.some);
    before = parts.before
        ∙ (ap (λ rest. own_words (take place seen) ++ before_run rest) here
        ∙ (ap (λ t. own_words (take place seen) ++ cond t [] (string_bytes word ∷ before_run (drop (place + 1) seen))) other
        ∙ (sym (append_assoc (own_words (take place seen)) (string_bytes word ∷ []) (before_run (drop (place + 1) seen)))
        ∙ ap (λ ws. ws ++ before_run (drop (place + 1) seen))
        (sym (ap own_words next_place ∙ own_more (take place seen) (string_bytes word ∷ []) some_before)))));
    behind = parts.behind
        ∙ (ap behind_run here ∙ ap (λ t. cond t (Some (drop (place + 1) seen)) (behind_run (drop (place + 1) seen))) other);
  }
