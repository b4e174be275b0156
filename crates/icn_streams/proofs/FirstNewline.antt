-- The first newline of some bytes.
use Rattle.std.proofs.Common.{◌≡◌, refl, sym, ap, ℕ, Bool, true, false, List, length, arith}
use Rattle.std.proofs.Math.Nat.{le_refl}
use Rattle.std.proofs.lemmas.List.Sums.{prefix_len_is}
use Rattle.std.specs.Prelude.{not}
use Rattle.std.specs.List.{position_or_len}
use Rattle.icn_host.specs.Sources.{is_newline}
use Rattle.memchr.specs.Find.{NoneBefore, Nowhere, Passes, is_byte}

another_byte : (test : Bool) → (test ≡ true → ⊥) → not test ≡ true
another_byte true isnt = absurd (isnt refl)
another_byte false isnt = refl

-- one is found
pub newline_found : (bytes : List ℕ) (place : ℕ) → NoneBefore (Passes (is_byte 10) bytes) 0 (length bytes) place → Passes (is_byte 10) bytes place
    → place ≡ position_or_len is_newline bytes
newline_found bytes place none here =
    sym (prefix_len_is (λ byte. not (is_newline byte)) bytes place 0 (omega (arith, none.high)) (λ k less. another_byte _ (none.before k (omega arith) less))
    (λ less. ap not here))

-- none is there
pub newline_missing : (bytes : List ℕ) → Nowhere (Passes (is_byte 10) bytes) 0 (length bytes) → length bytes ≡ position_or_len is_newline bytes
newline_missing bytes none =
    sym (prefix_len_is (λ byte. not (is_newline byte)) bytes (length bytes) 0 (le_refl _) (λ k less. another_byte _ (none k (omega arith) less))
    (λ less. absurd (omega arith)))
