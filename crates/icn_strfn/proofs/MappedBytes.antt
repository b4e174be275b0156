-- What each byte becomes, pair by pair.
use Rattle.std.proofs.Common.{◌⊎◌, inl, inr, ⊎_elim, ◌≡◌, ◌∙◌, refl, sym, ap, ℕ, ◌<◌, ◌==◌, List, [], ◌∷◌, length, drop, map, fold, get_or, if◌then◌else◌, min, suc, ◌≤◌, arith}
use Rattle.std.proofs.lemmas.List.{drop_all}
use Rattle.std.proofs.lemmas.Bool.{cases_lt}
use Rattle.std.specs.List.{zip}
use Rattle.icn_defs.specs.Strings.{map_byte}

-- a byte becomes what stands beside it
abbrev pub becomes : ℕ → ℕ → ℕ × ℕ → ℕ
becomes byte result pair = if pair.0 == byte then pair.1 else result

-- two ways to change bytes that agree on bytes
pub same_map : (f g : ℕ → ℕ) (bytes : List ℕ) → ((k : ℕ) → k < length bytes → get_or bytes k 0 < 256) → ((byte : ℕ) → byte < 256 → f byte ≡ g byte)
    → map f bytes ≡ map g bytes
same_map f g [] few agree = refl
same_map f g (byte ∷ bytes) few agree =
    ap (λ head. head ∷ map f bytes) (agree byte (few 0 (omega arith)))
    ∙ ap (λ tail. g byte ∷ tail) (same_map f g bytes (λ k within. few (suc k) (omega arith)) agree)

no_second : (xs : List ℕ) → zip xs (let none : List ℕ = [] in none) ≡ []
no_second [] = refl
no_second (x ∷ xs) = refl

none_left : (from to : List ℕ) (n : ℕ) → (length from ≤ n) ⊎ (length to ≤ n) → zip (drop n from) (drop n to) ≡ []
none_left from to n (inl past) = ap (λ front. zip front (drop n to)) (drop_all n from past)
none_left from to n (inr past) = ap (zip (drop n from)) (drop_all n to past) ∙ no_second (drop n from)

past_one : (m n k : ℕ) → k ≡ min m n → (m ≤ k) ⊎ (n ≤ k)
past_one m n k is = ⊎_elim (λ less. inl (omega (arith, is))) (λ most. inr (omega (arith, is))) (cases_lt m n)

-- no pair is left
pub pairs_done : (images from to : List ℕ) (n byte : ℕ) → n ≡ min (length from) (length to)
    → fold (becomes byte) (get_or images byte 0) (zip (drop n from) (drop n to)) ≡ map_byte from to byte → get_or images byte 0 ≡ map_byte from to byte
pairs_done images from to n byte last is =
    sym (ap (fold (becomes byte) (get_or images byte 0)) (none_left from to n (past_one (length from) (length to) n last))) ∙ is
