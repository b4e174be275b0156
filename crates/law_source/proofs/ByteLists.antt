-- What is cut from bytes, and put together of them, is bytes.
use Rattle.std.proofs.Common.{◌≡◌, ℕ, ◌<◌, zero, suc, Bool, true, false, cond, List, [], ◌∷◌, ◌++◌, take, drop, reverse, refl, sym, ◌∙◌, subst, arith}
use Rattle.std.specs.Prelude.{All}
use Rattle.std.proofs.lemmas.Bool.{and_from, and_parts, lt-ltb}
use Rattle.std.proofs.lemmas.List.{reverse-append}
use Rattle.std.proofs.lemmas.List.Folds.{list_all-append}
use Rattle.icn_tree.specs.TokenBounds.{is_byte}
use Rattle.law_source.specs.Bytes.{are_bytes}

-- a record, so that a fact says of which list it is
pub record AreBytes (bytes : List ℕ) : Type 0 where
  pub are : are_bytes bytes ≡ true

pub byte_below : (b : ℕ) → b < 256 → is_byte b ≡ true
byte_below b h = lt-ltb b 256 h

-- an empty list is bytes
pub no_bytes : AreBytes []
no_bytes = record { are = refl }

-- a byte in front of bytes makes bytes
pub with_first : {b : ℕ} {rest : List ℕ} → is_byte b ≡ true → AreBytes rest → AreBytes (b ∷ rest)
with_first h g = record { are = and_from _ _ h g.are }

-- the first of bytes is a byte
pub first_byte : {b : ℕ} {rest : List ℕ} → AreBytes (b ∷ rest) → is_byte b ≡ true
first_byte h = (and_parts _ _ h.are).0

pub other_bytes : {b : ℕ} {rest : List ℕ} → AreBytes (b ∷ rest) → AreBytes rest
other_bytes h = record { are = (and_parts _ _ h.are).1 }

pub bytes_joined : {a b : List ℕ} → AreBytes a → AreBytes b → AreBytes (a ++ b)
bytes_joined {a} {b} h g = record { are = list_all-append is_byte a b ∙ and_from _ _ h.are g.are }

pub bytes_taken : (n : ℕ) (bytes : List ℕ) → AreBytes bytes → AreBytes (take n bytes)
bytes_taken zero bytes h = no_bytes
bytes_taken (suc n) [] h = no_bytes
bytes_taken (suc n) (b ∷ rest) h = with_first (first_byte h) (bytes_taken n rest (other_bytes h))

pub bytes_dropped : (n : ℕ) (bytes : List ℕ) → AreBytes bytes → AreBytes (drop n bytes)
bytes_dropped zero bytes h = h
bytes_dropped (suc n) [] h = no_bytes
bytes_dropped (suc n) (b ∷ rest) h = bytes_dropped n rest (other_bytes h)

pub bytes_reversed : (bytes : List ℕ) → AreBytes bytes → AreBytes (reverse bytes)
bytes_reversed [] h = h
bytes_reversed (b ∷ rest) h = subst AreBytes (sym (reverse-append (b ∷ []) rest))
    (bytes_joined (bytes_reversed rest (other_bytes h)) (with_first (first_byte h) no_bytes))

pub bytes_chosen : (test : Bool) {a b : List ℕ} → AreBytes a → AreBytes b → AreBytes (cond test a b)
bytes_chosen true h g = h
bytes_chosen false h g = g

-- where each number of a list is below 256
pub bytes_held : (bytes : List ℕ) → All (λ byte. byte < 256) bytes → AreBytes bytes
bytes_held [] h = no_bytes
bytes_held (b ∷ rest) h = with_first (byte_below b (h 0 b (omega arith)))
    (bytes_held rest (λ k d l. h (suc k) d (omega arith)))
