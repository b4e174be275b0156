-- Tokens that are spelled with blanks between them are the same tokens.
use Rattle.std.proofs.Common.{◌==◌, ◌≡◌, ℕ, ◌+◌, ◌-◌, ◌<◌, ◌≤◌, zero, suc, Bool, true, false, cond, ◌&&◌, ◌||◌, not, nat_le, List, [], ◌∷◌, ◌++◌, length, take, drop, map, Option, None, Some, Result, Ok, refl, sym, ◌∙◌, ap, subst, arith, append_assoc, append-nil, length-append, ◌⊎◌, inl, inr}
use Rattle.std.specs.List.{list_all, prefix_len}
use Rattle.std.specs.Option.{option_map}
use Rattle.std.specs.Str.{bytes_eq}
use Rattle.std.specs.Cmp.Lexicographic.{same_text}
use Rattle.std.proofs.lemmas.Bool.{cond-true, cond-false, eqb-true, false_from_ne_true, false≢true, cases_lt}
use Rattle.std.proofs.lemmas.Bool.Decides.{nat_tests}
use Rattle.std.proofs.lemmas.List.{take-append-drop}
use Rattle.std.proofs.Math.Seq.{take-append_seam, take-append-add, drop-append_seam}
use Rattle.icn_tree.specs.declared.lines.SourceLine.{SourceLine}
use Rattle.icn_tree.specs.declared.rule.Rule.{Rule}
use Rattle.icn_tree.specs.declared.token.Kind.{Kind}
use Rattle.icn_tree.specs.declared.token.Token.{Token}
use Rattle.icn_tree.specs.Characters.{is_space, begins_comment, begins_identifier, is_digit, continues_identifier, is_alphanumeric, is_quote, is_between}
use Rattle.icn_tree.specs.Literals.{OpenLiteral, with_byte, literal_kind, escape_of}
use Rattle.icn_tree.specs.IntegerLiterals.{is_nothing, is_radix_mark, is_real_mark, number_by, number}
use Rattle.icn_tree.specs.Semicolons.{LineToken, with_semicolons}
use Rattle.icn_tree.specs.Spellings.{lookup_text, marks_of}
use Rattle.icn_tree.specs.TokenSpellings.{is_special, with_backslashes, Spells, bare, string, cset, SpellsAll, nothing, last, more}
use Rattle.icn_tree.specs.Tokens.{name, dot_number, mark, one_token, front_token, first_of, Scan, Found, before, piece_on, token_then, open_literal, closed_then, escape_found, Between, Inside, bytes_from, lines_from, Scanned, finish_scan, tokens_of}
use Rattle.icn_tree.proofs.LongestTokens.{longest_is}
use Rattle.icn_tree.proofs.KeptByScans.{scan_skips, TokensSound, tokens_sound, choose_rows}

-- No token has a blank

abbrev no_blank : ℕ → Bool
no_blank b = not (b == 32)

abbrev is_clean : List ℕ → Bool
is_clean text = list_all no_blank text

both : (x y : Bool) → (x && y) ≡ true → (x ≡ true) × (y ≡ true)
both true y h = (refl, h)
both false y h = absurd (false≢true h)

and_true : (x y : Bool) → x ≡ true → y ≡ true → (x && y) ≡ true
and_true x y h g = rw h g

not_true : (x : Bool) → not x ≡ true → x ≡ false
not_true true h = absurd (false≢true h)
not_true false h = refl

passes_no_blank : (p : ℕ → Bool) (b : ℕ) → p 32 ≡ false → p b ≡ true → no_blank b ≡ true
passes_no_blank p b h g = by_test (b == 32) refl where
  by_test : (test : Bool) → (b == 32) ≡ test → not test ≡ true
  by_test true e = absurd (false≢true (sym h ∙ (ap p (sym (eqb-true b 32 e)) ∙ g)))
  by_test false e = refl

-- bytes that pass a test that the blank fails have none
all_clean : (p : ℕ → Bool) (text : List ℕ) → p 32 ≡ false → list_all p text ≡ true → is_clean text ≡ true
all_clean p [] h g = refl
all_clean p (b ∷ rest) h g =
    let parts = both (p b) (list_all p rest) g in
    and_true (no_blank b) (is_clean rest) (passes_no_blank p b h parts.0) (all_clean p rest h parts.1)

clean_append : (xs ys : List ℕ) → is_clean xs ≡ true → is_clean ys ≡ true → is_clean (xs ++ ys) ≡ true
clean_append [] ys h g = g
clean_append (b ∷ xs) ys h g =
    let parts = both (no_blank b) (is_clean xs) h in
    and_true (no_blank b) (is_clean (xs ++ ys)) parts.0 (clean_append xs ys parts.1 g)

-- what a text is, if anything, tells that it has no blank
abbrev Clean : Option (Result Kind Rule) → List ℕ → Type 0
Clean None text = Unit {0}
Clean (Some sense) text = is_clean text ≡ true

choose_clean : (test : Bool) (x y : Option (Result Kind Rule)) (text : List ℕ) → (test ≡ true → Clean x text) → (test ≡ false → Clean y text)
    → Clean (cond test x y) text
choose_clean true x y text h g = h refl
choose_clean false x y text h g = g refl

name_clean : (b : ℕ) (rest : List ℕ) → begins_identifier b ≡ true → Clean (name b rest) (b ∷ rest)
name_clean b rest h = choose_clean (list_all continues_identifier rest) _ None (b ∷ rest)
    (λ all. and_true (no_blank b) (is_clean rest) (passes_no_blank begins_identifier b refl h) (all_clean continues_identifier rest refl all)) (λ e. tt)

number_by_clean : (digits rest : List ℕ) → is_clean digits ≡ true → Clean (number_by digits rest) (digits ++ rest)
number_by_clean digits [] h = clean_append digits [] h refl
number_by_clean digits (c ∷ rest) h =
    choose_clean (is_radix_mark c && list_all is_alphanumeric rest) _ _ (digits ++ c ∷ rest)
    (λ e. let parts = both (is_radix_mark c) (list_all is_alphanumeric rest) e in
    clean_append digits (c ∷ rest) h
    (and_true (no_blank c) (is_clean rest) (passes_no_blank is_radix_mark c refl parts.0) (all_clean is_alphanumeric rest refl parts.1)))
    (λ e. choose_clean (is_real_mark c && is_nothing rest) _ None (digits ++ c ∷ rest)
    (λ e. let parts = both (is_real_mark c) (is_nothing rest) e in
    clean_append digits (c ∷ rest) h (and_true (no_blank c) (is_clean rest) (passes_no_blank is_real_mark c refl parts.0) (nothing_clean rest parts.1)))
    (λ e. tt)) where
      nothing_clean : (text : List ℕ) → is_nothing text ≡ true → is_clean text ≡ true
      nothing_clean [] e = refl
      nothing_clean (b ∷ rest) e = absurd (false≢true e)

run_passes : (p : ℕ → Bool) (xs : List ℕ) → list_all p (take (prefix_len p xs) xs) ≡ true
run_passes p [] = refl
run_passes p (x ∷ xs) = by_test (p x) refl (run_passes p xs) where
  by_test : (test : Bool) → p x ≡ test → list_all p (take (prefix_len p xs) xs) ≡ true → list_all p (take (cond test (1 + prefix_len p xs) 0) (x ∷ xs)) ≡ true
  by_test true e rest = let same : 1 + prefix_len p xs ≡ suc (prefix_len p xs) = omega arith in rw same (and_true (p x) _ e rest)
  by_test false e rest = refl

number_clean : (bytes : List ℕ) → Clean (number bytes) bytes
unfolding number
number_clean bytes =
    let n = prefix_len is_digit bytes in
    subst (λ (text : List ℕ). Clean (number_by (take n bytes) (drop n bytes)) text) (take-append-drop n bytes)
    (number_by_clean (take n bytes) (drop n bytes) (all_clean is_digit (take n bytes) refl (run_passes is_digit bytes)))

dotted_clean : (rest : List ℕ) → Clean (dot_number rest) (46 ∷ rest)
dotted_clean [] = refl
dotted_clean (b ∷ []) = choose_clean (is_digit b) _ None (46 ∷ b ∷ []) (λ e. and_true (no_blank b) true (passes_no_blank is_digit b refl e) refl) (λ e. tt)
dotted_clean (b ∷ c ∷ rest) = tt

abbrev row_clean : List ℕ × Kind → Bool
row_clean row = is_clean row.0

marks_clean : (b : ℕ) → list_all row_clean (marks_of b) ≡ true
unfolding marks_of
marks_clean b =
    choose_rows row_clean (b == 33) _ _ refl (choose_rows row_clean
    (b == 36) _ _ refl (choose_rows row_clean (b == 37) _ _ refl (choose_rows row_clean (b == 38) _ _ refl (choose_rows row_clean (b == 40) _ _ refl
    (choose_rows row_clean (b == 41) _ _ refl (choose_rows row_clean
    (b == 42) _ _ refl (choose_rows row_clean (b == 43) _ _ refl (choose_rows row_clean (b == 44) _ _ refl (choose_rows row_clean (b == 45) _ _ refl
    (choose_rows row_clean (b == 47) _ _ refl (choose_rows row_clean
    (b == 58) _ _ refl (choose_rows row_clean (b == 59) _ _ refl (choose_rows row_clean (b == 60) _ _ refl (choose_rows row_clean (b == 61) _ _ refl
    (choose_rows row_clean (b == 62) _ _ refl (choose_rows row_clean
    (b == 63) _ _ refl (choose_rows row_clean (b == 64) _ _ refl (choose_rows row_clean (b == 91) _ _ refl (choose_rows row_clean (b == 92) _ _ refl
    (choose_rows row_clean (b == 93) _ _ refl (choose_rows row_clean
    (b == 94) _ _ refl (choose_rows row_clean (b == 123) _ _ refl (choose_rows row_clean (b == 124) _ _ refl (choose_rows row_clean (b == 125) _ _ refl
    (choose_rows row_clean (b == 126) _ _ refl refl)))))))))))))))))))))))))

abbrev CleanAt : Option Kind → List ℕ → Type 0
CleanAt found text = Clean (option_map (λ kind. Ok kind) found) text

choose_row : (test : Bool) (kind : Kind) (others : Option Kind) (text : List ℕ) → (test ≡ true → is_clean text ≡ true) → CleanAt others text
    → CleanAt (cond test (Some kind) others) text
choose_row true kind others text h g = h refl
choose_row false kind others text h g = g

rows_clean : (rows : List (List ℕ × Kind)) (text : List ℕ) → list_all row_clean rows ≡ true → CleanAt (lookup_text rows text) text
rows_clean [] text h = tt
rows_clean (row ∷ rows) text h =
    let parts = both (row_clean row) (list_all row_clean rows) h in
    choose_row (bytes_eq text row.0) row.1 (lookup_text rows text) text (λ e. ap is_clean (same_text text row.0 (sym e)) ∙ parts.0)
    (rows_clean rows text parts.1)

spelled_clean : (text : List ℕ) → Clean (one_token text) text
unfolding one_token
spelled_clean [] = tt
spelled_clean (b ∷ rest) =
    choose_clean (begins_identifier b) (name b rest) (cond (is_digit b) (number (b ∷ rest)) (cond (b == 46) (dot_number rest) (mark b rest))) (b ∷ rest)
    (λ e. name_clean b rest e)
    (λ e. choose_clean (is_digit b) (number (b ∷ rest)) (cond (b == 46) (dot_number rest) (mark b rest)) (b ∷ rest) (λ e. number_clean (b ∷ rest))
    (λ e. choose_clean (b == 46) (dot_number rest) (mark b rest) (b ∷ rest)
    (λ e. subst (λ (c : ℕ). Clean (dot_number rest) (c ∷ rest)) (sym (eqb-true b 46 e)) (dotted_clean rest))
    (λ e. rows_clean (marks_of b) (b ∷ rest) (marks_clean b))))

pub blank_none : (text : List ℕ) → is_clean text ≡ false → one_token text ≡ None
blank_none text h = by_found (one_token text) refl (spelled_clean text) where
  by_found : (found : Option (Result Kind Rule)) → one_token text ≡ found → Clean found text → found ≡ None
  by_found None e c = refl
  by_found (Some sense) e c = absurd (false≢true (sym h ∙ c))

-- No token begins with white space, `#` or a quote

at_number : (b n : ℕ) (rest : List ℕ) → (b == n) ≡ true → one_token (n ∷ rest) ≡ None → one_token (b ∷ rest) ≡ None
at_number b n rest h e = ap (λ c. one_token (c ∷ rest)) (eqb-true b n h) ∙ e

none_at : (b : ℕ) (rest : List ℕ) → one_token (9 ∷ rest) ≡ None
unfolding one_token marks_of
none_at b rest = refl

either : (x y : Bool) → (x || y) ≡ true → (x ≡ true) ⊎ (y ≡ true)
either true y h = inl refl
either false y h = inr h

from_11 : (b : ℕ) (rest : List ℕ) → 11 ≤ b → b ≤ 13 → one_token (b ∷ rest) ≡ None
unfolding one_token marks_of
from_11 b rest l h = by_12 (cases_lt b 12) where
  at : (n : ℕ) → b ≡ n → one_token (n ∷ rest) ≡ None → one_token (b ∷ rest) ≡ None
  at n same e = ap (λ c. one_token (c ∷ rest)) same ∙ e

  by_13 : 12 ≤ b → (b < 13) ⊎ (13 ≤ b) → one_token (b ∷ rest) ≡ None
  by_13 g (inl e) = at 12 (omega arith) refl
  by_13 g (inr e) = at 13 (omega arith) refl

  by_12 : (b < 12) ⊎ (12 ≤ b) → one_token (b ∷ rest) ≡ None
  by_12 (inl e) = at 11 (omega arith) refl
  by_12 (inr e) = by_13 e (cases_lt b 13)

between_11 : (b : ℕ) → is_between 11 13 b ≡ true → (11 ≤ b) × (b ≤ 13)
between_11 b h = (grind (arith, nat_tests), grind (arith, nat_tests))

space_none : (b : ℕ) (rest : List ℕ) → is_space b ≡ true → one_token (b ∷ rest) ≡ None
unfolding one_token marks_of
space_none b rest h = by_last (either (b == 9 || is_between 11 13 b) (b == 32) h) where
  by_first : ((b == 9) ≡ true) ⊎ (is_between 11 13 b ≡ true) → one_token (b ∷ rest) ≡ None
  by_first (inl e) = at_number b 9 rest e refl
  by_first (inr e) = let range = between_11 b e in from_11 b rest range.0 range.1

  by_last : ((b == 9 || is_between 11 13 b) ≡ true) ⊎ ((b == 32) ≡ true) → one_token (b ∷ rest) ≡ None
  by_last (inl e) = by_first (either (b == 9) (is_between 11 13 b) e)
  by_last (inr e) = at_number b 32 rest e refl

comment_none : (b : ℕ) (rest : List ℕ) → begins_comment b ≡ true → one_token (b ∷ rest) ≡ None
unfolding one_token marks_of
comment_none b rest h = at_number b 35 rest h refl

quote_none : (b : ℕ) (rest : List ℕ) → is_quote b ≡ true → one_token (b ∷ rest) ≡ None
unfolding one_token marks_of
quote_none b rest h = by_quote (either (b == 34) (b == 39) h) where
  by_quote : ((b == 34) ≡ true) ⊎ ((b == 39) ≡ true) → one_token (b ∷ rest) ≡ None
  by_quote (inl e) = at_number b 34 rest e refl
  by_quote (inr e) = at_number b 39 rest e refl

is_not : (p : ℕ → Bool) (b : ℕ) (rest : List ℕ) (sense : Result Kind Rule) → (p b ≡ true → one_token (b ∷ rest) ≡ None) → one_token (b ∷ rest) ≡ Some sense
    → p b ≡ false
is_not p b rest sense none e = false_from_ne_true (p b) (λ h. absurd (some_none sense (sym e ∙ none h))) where
  some_none : (sense : Result Kind Rule) → ◌≡◌ {A = Option (Result Kind Rule)} (Some sense) None → ⊥
  some_none sense e = cc

-- One token before a blank or the end

abbrev Stops : List ℕ → Type 0
Stops [] = Unit {0}
Stops (b ∷ rest) = b ≡ 32

longer_none : (text tail : List ℕ) (m : ℕ) → Stops tail → length text < m → m ≤ length (text ++ tail) → one_token (take m (text ++ tail)) ≡ None
longer_none text [] m s l g = absurd (omega (arith, length-append text []))
longer_none text (b ∷ rest) m s l g =
    let n = length text in
    let size : m ≡ n + suc (m - n - 1) = omega arith in
    let cut : take m (text ++ b ∷ rest) ≡ text ++ b ∷ take (m - n - 1) rest = ap (λ k. take k (text ++ b ∷ rest)) size
    ∙ take-append-add text (b ∷ rest) (suc (m - n - 1)) in
    ap one_token cut ∙ blank_none (text ++ b ∷ take (m - n - 1) rest) (unclean text b (take (m - n - 1) rest) s) where
      unclean : (text : List ℕ) (b : ℕ) (rest : List ℕ) → b ≡ 32 → is_clean (text ++ b ∷ rest) ≡ false
      unclean [] b rest s = rw s refl
      unclean (x ∷ text) b rest s = no_more (no_blank x) (is_clean (text ++ b ∷ rest)) (unclean text b rest s) where
        no_more : (x y : Bool) → y ≡ false → (x && y) ≡ false
        no_more true y h = h
        no_more false y h = refl

first_alone : (b : ℕ) (rest tail : List ℕ) (kind : Kind) → one_token (b ∷ rest) ≡ Some (Ok kind) → Stops tail
    → first_of (b ∷ rest ++ tail) ≡ Ok (kind, length (b ∷ rest))
unfolding first_of
first_alone b rest tail kind e s =
    let text = b ∷ rest in
    let size : length (text ++ tail) ≡ length text + length tail = length-append text tail in
    ap front_token (longest_is one_token (length (text ++ tail)) (length text) (text ++ tail) (Ok kind) (omega arith) (omega (arith, size))
    (ap one_token (take-append_seam text tail) ∙ e) (λ m l g. longer_none text tail m s l g))

bare_step : (later : Option OpenLiteral → Scan) (line : SourceLine) (is_first : Bool) (text tail : List ℕ) (kind : Kind) → one_token text ≡ Some (Ok kind)
    → Stops tail
    → bytes_from later line (Between is_first) zero (text ++ tail) ≡ before (piece_on line is_first kind) (bytes_from later line (Between false) zero tail)
unfolding bytes_from one_token
bare_step later line is_first [] tail kind e s = absurd (cc)
bare_step later line is_first (b ∷ rest) tail kind e s =
    let one : suc (length rest) - 1 ≡ length rest = omega arith in
    cond-false (is_space b) _ _ (is_not is_space b rest (Ok kind) (space_none b rest) e)
    ∙ (cond-false (begins_comment b) _ _ (is_not begins_comment b rest (Ok kind) (comment_none b rest) e)
    ∙ (cond-false (is_quote b) _ _ (is_not is_quote b rest (Ok kind) (quote_none b rest) e)
    ∙ (ap (λ first. token_then line is_first first (λ count. bytes_from later line (Between false) (count - 1) (rest ++ tail)))
    (first_alone b rest tail kind e s)
    ∙ ap (before (piece_on line is_first kind))
    (ap (λ k. bytes_from later line (Between false) k (rest ++ tail)) one ∙ (scan_skips later line (Between false) (length rest) (rest ++ tail)
    ∙ ap (bytes_from later line (Between false) zero) (drop-append_seam rest tail))))))

-- Literals

special_escape : (b : ℕ) (rest : List ℕ) → is_special b ≡ true → escape_of (b ∷ rest) ≡ Some (b, 1)
unfolding escape_of
special_escape b rest h = by_last (either (b == 34 || b == 39 || b == 92) (b == 95) h) where
  at : (n : ℕ) → (b == n) ≡ true → escape_of (n ∷ rest) ≡ Some (n, 1) → escape_of (b ∷ rest) ≡ Some (b, 1)
  at n h e = let same : b ≡ n = eqb-true b n h in ap (λ c. escape_of (c ∷ rest)) same ∙ (e ∙ ap (λ c. Some (c, 1)) (sym same))

  by_first : ((b == 34) ≡ true) ⊎ ((b == 39) ≡ true) → escape_of (b ∷ rest) ≡ Some (b, 1)
  by_first (inl e) = at 34 e refl
  by_first (inr e) = at 39 e refl

  by_second : ((b == 34 || b == 39) ≡ true) ⊎ ((b == 92) ≡ true) → escape_of (b ∷ rest) ≡ Some (b, 1)
  by_second (inl e) = by_first (either (b == 34) (b == 39) e)
  by_second (inr e) = at 92 e refl

  by_last : ((b == 34 || b == 39 || b == 92) ≡ true) ⊎ ((b == 95) ≡ true) → escape_of (b ∷ rest) ≡ Some (b, 1)
  by_last (inl e) = by_second (either (b == 34 || b == 39) (b == 92) e)
  by_last (inr e) = at 95 e refl

none_of : (x y : Bool) → (x || y) ≡ false → (x ≡ false) × (y ≡ false)
none_of true y h = absurd (false≢true (sym h))
none_of false y h = (refl, h)

not_quote : (b q : ℕ) → is_quote q ≡ true → is_special b ≡ false → (b == q) ≡ false
not_quote b q h s = by_quote (either (q == 34) (q == 39) h)
    (none_of (b == 34) (b == 39) (none_of (b == 34 || b == 39) (b == 92) (none_of (b == 34 || b == 39 || b == 92) (b == 95) s).0).0) where
      by_quote : ((q == 34) ≡ true) ⊎ ((q == 39) ≡ true) → ((b == 34) ≡ false) × ((b == 39) ≡ false) → (b == q) ≡ false
      by_quote (inl e) nots = ap (λ n. b == n) (eqb-true q 34 e) ∙ nots.0
      by_quote (inr e) nots = ap (λ n. b == n) (eqb-true q 39 e) ∙ nots.1

not_backslash : (b : ℕ) → is_special b ≡ false → (b == 92) ≡ false
not_backslash b s = (none_of (b == 34 || b == 39) (b == 92) (none_of (b == 34 || b == 39 || b == 92) (b == 95) s).0).1

not_underscore : (b : ℕ) → is_special b ≡ false → (b == 95) ≡ false
not_underscore b s = (none_of (b == 34 || b == 39 || b == 92) (b == 95) s).1

quote_not_backslash : (q : ℕ) → is_quote q ≡ true → (92 == q) ≡ false
quote_not_backslash q h = by_quote (either (q == 34) (q == 39) h) where
  by_quote : ((q == 34) ≡ true) ⊎ ((q == 39) ≡ true) → (92 == q) ≡ false
  by_quote (inl e) = ap (λ n. 92 == n) (eqb-true q 34 e)
  by_quote (inr e) = ap (λ n. 92 == n) (eqb-true q 39 e)

-- more bytes of a literal
with_bytes : OpenLiteral → List ℕ → OpenLiteral
with_bytes literal bytes = record literal { bytes = literal.bytes ++ bytes }

quote_same : (n : ℕ) → (n == n) ≡ true
quote_same n = grind arith

special_step : (later : Option OpenLiteral → Scan) (line : SourceLine) (literal : OpenLiteral) (b : ℕ) (rest : List ℕ) → is_quote literal.quote ≡ true
    → is_special b ≡ true
    → bytes_from later line (Inside literal) zero (92 ∷ b ∷ rest) ≡ bytes_from later line (Inside (with_byte literal b)) zero rest
unfolding bytes_from
special_step later line literal b rest q s =
    cond-false (92 == literal.quote) _ _ (quote_not_backslash literal.quote q)
    ∙ (ap (λ found. escape_found line found (λ byte count. bytes_from later line (Inside (with_byte literal byte)) count (b ∷ rest))) (special_escape b rest s)
    ∙ scan_skips later line (Inside (with_byte literal b)) 1 (b ∷ rest))

plain_step : (later : Option OpenLiteral → Scan) (line : SourceLine) (literal : OpenLiteral) (b : ℕ) (rest : List ℕ) → is_quote literal.quote ≡ true
    → is_special b ≡ false
    → bytes_from later line (Inside literal) zero (b ∷ rest) ≡ bytes_from later line (Inside (with_byte literal b)) zero rest
unfolding bytes_from
plain_step later line literal b rest q s =
    cond-false (b == literal.quote) _ _ (not_quote b literal.quote q s)
    ∙ (cond-false (b == 92) _ _ (not_backslash b s) ∙ cond-false (b == 95 && is_nothing rest) _ _ (rw (not_underscore b s) refl))

quoted_step : (later : Option OpenLiteral → Scan) (line : SourceLine) (literal : OpenLiteral) (b : ℕ) (rest : List ℕ) (special : Bool)
    → is_quote literal.quote ≡ true
    → is_special b ≡ special
    → bytes_from later line (Inside literal) zero (cond special (92 ∷ b ∷ []) (b ∷ []) ++ rest) ≡ bytes_from later line (Inside (with_byte literal b)) zero rest
quoted_step later line literal b rest true q s = special_step later line literal b rest q s
quoted_step later line literal b rest false q s = plain_step later line literal b rest q s

at_close : (later : Option OpenLiteral → Scan) (line : SourceLine) (literal : OpenLiteral) (rest : List ℕ)
    → bytes_from later line (Inside literal) zero (literal.quote ∷ rest) ≡ closed_then literal (bytes_from later line (Between false) zero rest)
unfolding bytes_from
at_close later line literal rest = cond-true (literal.quote == literal.quote) _ _ (quote_same literal.quote)

-- quoted bytes up to the closing quote
inside_quoted : (later : Option OpenLiteral → Scan) (line : SourceLine) (literal : OpenLiteral) (bytes tail : List ℕ) → is_quote literal.quote ≡ true
    → bytes_from later line (Inside literal) zero (with_backslashes bytes ++ literal.quote ∷ tail)
    ≡ closed_then (with_bytes literal bytes) (bytes_from later line (Between false) zero tail)
unfolding with_bytes
inside_quoted later line literal [] tail q =
    at_close later line literal tail
    ∙ ap (λ bytes. closed_then (record literal { bytes = bytes }) (bytes_from later line (Between false) zero tail)) (sym (append-nil literal.bytes))
inside_quoted later line literal (b ∷ rest) tail q =
    ap (bytes_from later line (Inside literal) zero) (append_assoc (cond (is_special b) (92 ∷ b ∷ []) (b ∷ [])) (with_backslashes rest) (literal.quote ∷ tail))
    ∙ (quoted_step later line literal b (with_backslashes rest ++ literal.quote ∷ tail) (is_special b) q refl
    ∙ (inside_quoted later line (with_byte literal b) rest tail q
    ∙ ap (λ bytes. closed_then (record literal { bytes = bytes }) (bytes_from later line (Between false) zero tail))
    (append_assoc literal.bytes (b ∷ []) rest)))

literal_step : (later : Option OpenLiteral → Scan) (line : SourceLine) (is_first : Bool) (q : ℕ) (bytes tail : List ℕ) → is_space q ≡ false
    → begins_comment q ≡ false → is_quote q ≡ true → length bytes ≤ 65535
    → bytes_from later line (Between is_first) zero (q ∷ (with_backslashes bytes ++ q ∷ []) ++ tail)
    ≡ before (piece_on line is_first (literal_kind q bytes)) (bytes_from later line (Between false) zero tail)
unfolding bytes_from with_bytes
literal_step later line is_first q bytes tail s c h size =
    cond-false (is_space q) _ _ s ∙ (cond-false (begins_comment q) _ _ c ∙ (cond-true (is_quote q) _ _ h
    ∙ (ap (bytes_from later line (Inside (open_literal line is_first q)) zero) (append_assoc (with_backslashes bytes) (q ∷ []) tail)
    ∙ (inside_quoted later line (open_literal line is_first q) bytes tail h
    ∙ cond-true (nat_le (length bytes) 65535) _ _ (small (length bytes) size))))) where
      small : (n : ℕ) → n ≤ 65535 → nat_le n 65535 ≡ true
      small n h = grind (arith, nat_tests)

spell_step : (later : Option OpenLiteral → Scan) (line : SourceLine) (is_first : Bool) (kind : Kind) (text tail : List ℕ) → Spells kind text → Stops tail
    → bytes_from later line (Between is_first) zero (text ++ tail) ≡ before (piece_on line is_first kind) (bytes_from later line (Between false) zero tail)
spell_step later line is_first _ _ tail (bare kind text e) s = bare_step later line is_first text tail kind e s
spell_step later line is_first _ _ tail (string bytes size) s = literal_step later line is_first 34 bytes tail refl refl refl size
spell_step later line is_first _ _ tail (cset bytes size) s = literal_step later line is_first 39 bytes tail refl refl refl size

-- All tokens

pieces_of : SourceLine → Bool → List Kind → List LineToken
pieces_of line is_first [] = []
pieces_of line is_first (kind ∷ kinds) = piece_on line is_first kind ∷ pieces_of line false kinds

at_blank : (later : Option OpenLiteral → Scan) (line : SourceLine) (is_first : Bool) (rest : List ℕ)
    → bytes_from later line (Between is_first) zero (32 ∷ rest) ≡ bytes_from later line (Between is_first) zero rest
unfolding bytes_from
at_blank later line is_first rest = refl

at_end : (later : Option OpenLiteral → Scan) (line : SourceLine) (is_first : Bool) → bytes_from later line (Between is_first) zero [] ≡ later None
unfolding bytes_from
at_end later line is_first = refl

all_steps : (later : Option OpenLiteral → Scan) (line : SourceLine) (is_first : Bool) (kinds : List Kind) (text : List ℕ) → later None ≡ Found []
    → SpellsAll kinds text
    → bytes_from later line (Between is_first) zero text ≡ Found (pieces_of line is_first kinds)
unfolding pieces_of
all_steps later line is_first _ _ e nothing = at_end later line is_first ∙ e
all_steps later line is_first _ _ e (last kind text s) =
    ap (bytes_from later line (Between is_first) zero) (sym (append-nil text))
    ∙ (spell_step later line is_first kind text [] s tt ∙ ap (before (piece_on line is_first kind)) (at_end later line false ∙ e))
all_steps later line is_first _ _ e (more kind next others first rest s all) =
    spell_step later line is_first kind first (32 ∷ rest) s refl
    ∙ ap (before (piece_on line is_first kind)) (at_blank later line false rest ∙ all_steps later line false (next ∷ others) rest e all)

token_on : SourceLine → Kind → Token
token_on line kind = record { kind = kind; line = line.number; file = line.file }

no_semicolons : (line : SourceLine) (is_first : Bool) (kinds : List Kind)
    → with_semicolons (pieces_of line is_first kinds) ≡ map (λ (kind : Kind). token_on line kind) kinds
unfolding pieces_of token_on
no_semicolons line is_first [] = refl
no_semicolons line is_first (kind ∷ []) = refl
no_semicolons line is_first (kind ∷ next ∷ kinds) = ap (λ tokens. token_on line kind ∷ tokens) (no_semicolons line false (next ∷ kinds))

one_line : (line : SourceLine) → lines_from (line ∷ []) None ≡ bytes_from (λ begun. lines_from [] begun) line (Between true) zero line.bytes
unfolding lines_from
one_line line = refl

no_lines : lines_from [] None ≡ Found []
unfolding lines_from
no_lines = refl

pub spelled_again : (kinds : List Kind) (line : SourceLine) → SpellsAll kinds line.bytes
    → tokens_of (line ∷ []) ≡ Scanned (map (λ (kind : Kind). let token : Token = record { kind = kind; line = line.number; file = line.file } in token) kinds)
unfolding tokens_of token_on
spelled_again kinds line s =
    ap finish_scan (one_line line ∙ all_steps (λ begun. lines_from [] begun) line true kinds line.bytes no_lines s) ∙ ap Scanned (no_semicolons line true kinds)

spelling_next : (kind : Kind) (text : List ℕ) (kinds : List Kind) (rest : List ℕ) → Spells kind text → SpellsAll kinds rest
    → (all : List ℕ) × SpellsAll (kind ∷ kinds) all
spelling_next kind text [] rest s r = (text, last kind text s)
spelling_next kind text (next ∷ kinds) rest s r = (text ++ 32 ∷ rest, more kind next kinds text rest s r)

spelling_of : (tokens : List Token) → TokensSound tokens → (text : List ℕ) × SpellsAll (map (λ (token : Token). token.kind) tokens) text
spelling_of [] h = ([], nothing)
spelling_of (token ∷ tokens) h =
    let rest = spelling_of tokens h.1 in spelling_next token.kind h.0.text (map (λ (token : Token). token.kind) tokens) rest.0 h.0.spells rest.1

pub always_spelled : (lines : List SourceLine) (tokens : List Token) → tokens_of lines ≡ Scanned tokens
    → (text : List ℕ) × SpellsAll (map (λ (token : Token). token.kind) tokens) text
always_spelled lines tokens e = spelling_of tokens (tokens_sound lines tokens e)
