-- What stands inside a literal, step by step.
use Rattle.std.proofs.Common.{◌==◌, ◌≡◌, ℕ, ◌<◌, zero, Bool, true, false, ◌&&◌, List, [], ◌∷◌, length, drop, Some, refl, sym, ◌∙◌, ap, arith}
use Rattle.std.proofs.lemmas.Bool.{cond-true, cond-false, ne_eqb}
use Rattle.icn_tree.specs.declared.lines.SourceLine.{SourceLine}
use Rattle.icn_tree.specs.Literals.{OpenLiteral, with_byte, escape_of}
use Rattle.icn_tree.specs.IntegerLiterals.{is_nothing}
use Rattle.icn_tree.specs.Tokens.{Between, Inside, bytes_from, closed_then, escape_found, unclosed_literal}
use Rattle.icn_tree.proofs.KeptByScans.{scan_skips}
use Rattle.icn_lex.specs.Literals.{Later, scan_inside, scan_escape}

quote_test : (b q : ℕ) → b ≡ q → (b == q) ≡ true
quote_test b q h = rw h (eq_refl q) where
  eq_refl : (n : ℕ) → (n == n) ≡ true
  eq_refl n = grind arith

pub at_quote : (line : SourceLine) (literal : OpenLiteral) (b : ℕ) (rest : List ℕ) (later : Later) → b ≡ literal.quote
    → scan_inside line literal (b ∷ rest) later ≡ closed_then literal (bytes_from later line (Between false) zero rest)
unfolding bytes_from
at_quote line literal b rest later h = cond-true (b == literal.quote) _ _ (quote_test b literal.quote h)

pub at_backslash : (line : SourceLine) (literal : OpenLiteral) (b : ℕ) (rest : List ℕ) (later : Later) → (b ≡ literal.quote → ⊥) → b ≡ 92
    → scan_inside line literal (b ∷ rest) later ≡ scan_escape line literal rest later
unfolding bytes_from
at_backslash line literal b rest later h e = cond-false (b == literal.quote) _ _ (ne_eqb b literal.quote h) ∙ cond-true (b == 92) _ _ (quote_test b 92 e)

pub at_line_end : (line : SourceLine) (literal : OpenLiteral) (b : ℕ) (rest : List ℕ) (later : Later) → (b ≡ literal.quote → ⊥) → (b ≡ 92 → ⊥)
    → (b == 95 && is_nothing rest) ≡ true
    → scan_inside line literal (b ∷ rest) later ≡ later (Some literal)
unfolding bytes_from
at_line_end line literal b rest later h e n =
    cond-false (b == literal.quote) _ _ (ne_eqb b literal.quote h) ∙ (cond-false (b == 92) _ _ (ne_eqb b 92 e) ∙ cond-true (b == 95 && is_nothing rest) _ _ n)

pub at_plain : (line : SourceLine) (literal : OpenLiteral) (b : ℕ) (rest : List ℕ) (later : Later) → (b ≡ literal.quote → ⊥) → (b ≡ 92 → ⊥)
    → (b == 95 && is_nothing rest) ≡ false
    → scan_inside line literal (b ∷ rest) later ≡ scan_inside line (with_byte literal b) rest later
unfolding bytes_from
at_plain line literal b rest later h e n =
    cond-false (b == literal.quote) _ _ (ne_eqb b literal.quote h) ∙ (cond-false (b == 92) _ _ (ne_eqb b 92 e) ∙ cond-false (b == 95 && is_nothing rest) _ _ n)

-- a line's end inside a literal
pub at_end : (line : SourceLine) (literal : OpenLiteral) (bytes : List ℕ) (later : Later) → length bytes ≡ 0
    → scan_inside line literal bytes later ≡ unclosed_literal literal
unfolding bytes_from
at_end line literal [] later h = refl
at_end line literal (b ∷ rest) later h = absurd (omega arith)

pub at_escape : (line : SourceLine) (literal : OpenLiteral) (bytes : List ℕ) (later : Later) (byte count : ℕ) → 0 < length bytes
    → Some (byte, count) ≡ escape_of bytes
    → scan_escape line literal bytes later ≡ scan_inside line (with_byte literal byte) (drop count bytes) later
at_escape line literal [] later byte count h e = absurd (omega arith)
at_escape line literal (b ∷ rest) later byte count h e =
    ap (λ found. escape_found line found (λ byte count. bytes_from later line (Inside (with_byte literal byte)) count (b ∷ rest))) (sym e)
    ∙ scan_skips later line (Inside (with_byte literal byte)) count (b ∷ rest)

pub not_empty : (test : Bool) (bytes : List ℕ) → test ≡ false → test ≡ (length bytes == 0) → 0 < length bytes
not_empty test [] h e = absurd (cc)
not_empty test (b ∷ rest) h e = omega arith
