-- A number's decimal is bytes.
use Rattle.std.proofs.Common.{◌≡◌, ℕ, ◌+◌, ◌/◌, ◌%◌, ◌<◌, zero, suc, true, false, List, [], ◌∷◌, mod-lt, arith}
use Rattle.std.specs.Prelude.{◌==◌, nat_lt}
use Rattle.std.specs.Fmt.{decimal, digits, digits_onto, digit_glyph}
use Rattle.std.proofs.lemmas.Bool.{cond-true, lt-ltb}
use Rattle.icn_tree.specs.TokenBounds.{is_byte}
use Rattle.law_source.proofs.ByteLists.{AreBytes, no_bytes, byte_below, with_first, bytes_chosen}

glyph_byte : (d : ℕ) → d < 10 → is_byte (digit_glyph false d) ≡ true
glyph_byte d h = rw (cond-true (nat_lt d 10) (48 + d) (87 + d) (lt-ltb d 10 h))
    (byte_below (48 + d) (omega arith))

digits_bytes : (k n : ℕ) (behind : List ℕ) → AreBytes behind → AreBytes (digits_onto k 10 false n behind)
digits_bytes zero n behind h = h
digits_bytes (suc k) n behind h =
    let more = with_first (glyph_byte (n % 10) (mod-lt n (omega arith))) h in
    bytes_chosen (n / 10 == 0) more (digits_bytes k (n / 10) (digit_glyph false (n % 10) ∷ behind) more)

pub decimal_bytes : (n : ℕ) → AreBytes (decimal n)
unfolding digits
decimal_bytes n = digits_bytes 64 n [] no_bytes
