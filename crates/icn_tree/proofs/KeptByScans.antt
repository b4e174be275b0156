-- What every scan keeps: its tokens are within their bounds and can be spelled, and its fault is a rule of tokens.
use Rattle.std.proofs.Common.{◌==◌, ◌≡◌, pos, ℕ, ◌+◌, ◌-◌, ◌<◌, ◌≤◌, zero, suc, Bool, true, false, cond, ◌&&◌, nat_le, List, [], ◌∷◌, ◌++◌, length, take, drop, get_or, Option, None, Some, Result, Ok, Err, refl, sym, ◌∙◌, ap, subst, arith, append_assoc, length-append, length-drop}
use Rattle.std.specs.Prelude.{unwrap_or, All}
use Rattle.std.specs.List.{list_all, prefix_len}
use Rattle.std.specs.Option.{option_map}
use Rattle.std.specs.Str.{bytes_eq}
use Rattle.std.proofs.lemmas.Bool.{false≢true}
use Rattle.std.proofs.lemmas.Bool.Decides.{nat_tests}
use Rattle.icn_tree.specs.declared.lines.SourceLine.{SourceLine}
use Rattle.icn_tree.specs.declared.rule.Rule.{Rule}
use Rattle.icn_tree.specs.declared.rule.Rule.TheVariants.{L4, L5, L6, L7}
use Rattle.icn_tree.specs.declared.token.Kind.{Kind}
use Rattle.icn_tree.specs.declared.token.Kind.TheVariants.{Identifier, Integer, Text, Cset, Word as WordKind, Operator, Augmented, Punctuation}
use Rattle.icn_tree.specs.declared.token.Punctuation.TheVariants.{Semicolon}
use Rattle.icn_tree.specs.declared.token.Token.{Token}
use Rattle.icn_tree.specs.declared.token.Word.{Word}
use Rattle.icn_tree.specs.ByteSets.{members_of}
use Rattle.icn_tree.specs.Characters.{is_space, is_blank, begins_comment, begins_identifier, is_digit, continues_identifier, is_alphanumeric, is_quote, is_between}
use Rattle.icn_tree.specs.Literals.{OpenLiteral, with_byte, escape_of}
use Rattle.icn_tree.specs.IntegerLiterals.{is_nothing, is_radix_mark, is_real_mark, are_digits, number_in, within_size, integer_kind, integer, number_by, number}
use Rattle.icn_tree.specs.Semicolons.{LineToken, is_ender, is_beginner, semicolon_at, between, with_semicolons}
use Rattle.icn_tree.specs.SourceTexts.{joined_len}
use Rattle.icn_tree.specs.Spellings.{lookup_text, word_of, name_of, marks_of}
use Rattle.icn_tree.specs.TokenBounds.{IsScanRule, IsSized, IsFormed, is_name, is_augmented}
use Rattle.icn_tree.proofs.SetMembers.{members_ascend}
use Rattle.icn_tree.specs.TokenSpellings.{Spells, bare, string, cset}
use Rattle.icn_tree.specs.Tokens.{name, dot_number, mark, one_token, longer, longest, front_token, first_of, Scan, Found, Broken, before, piece_on, token_then, open_literal, literal_piece, closed_then, escape_found, escape_then, ScanState, Between, Inside, bytes_from, line_from, lines_from, after_blanks, Tokenized, Scanned, Fault, finish_scan, tokens_of}

-- One token

abbrev SenseSized : Result Kind Rule → Type 0
SenseSized (Ok kind) = IsSized kind × IsFormed kind
SenseSized (Err rule) = IsScanRule rule

abbrev FoundSized : Option (Result Kind Rule) → Type 0
FoundSized None = Unit {0}
FoundSized (Some sense) = SenseSized sense

choose_sense : (test : Bool) (x y : Result Kind Rule) → (test ≡ true → SenseSized x) → SenseSized y → SenseSized (cond test x y)
choose_sense true x y h g = h refl
choose_sense false x y h g = g

choose_found : (test : Bool) (x y : Option (Result Kind Rule)) → FoundSized x → FoundSized y → FoundSized (cond test x y)
choose_found true x y h g = h
choose_found false x y h g = g

-- the same where a test holds
choose_found_so : (test : Bool) (x y : Option (Result Kind Rule)) → (test ≡ true → FoundSized x) → FoundSized y → FoundSized (cond test x y)
choose_found_so true x y h g = h refl
choose_found_so false x y h g = g

at_most : (n m : ℕ) → nat_le n m ≡ true → n ≤ m
at_most n m h = grind (arith, nat_tests)

word_sized : (word : Option Word) (text : List ℕ) → word_of text ≡ word → is_name text ≡ true → 1 ≤ length text → length text ≤ 65535
    → SenseSized (Ok (unwrap_or (option_map WordKind word) (Identifier text)))
word_sized None text e n p h = ((p, h), (n, e))
word_sized (Some word) text e n p h = (tt, tt)

name_sized : (b : ℕ) (rest : List ℕ) → begins_identifier b ≡ true → FoundSized (name b rest)
name_sized b rest begins = choose_found_so (list_all continues_identifier rest) (Some (within_size (b ∷ rest) (Ok (name_of (b ∷ rest))))) None
    (λ goes_on. choose_sense (nat_le (length (b ∷ rest)) 65535) (Ok (name_of (b ∷ rest))) (Err L7)
    (λ h. word_sized (word_of (b ∷ rest)) (b ∷ rest) refl (ap (λ first. first && list_all continues_identifier rest) begins
    ∙ goes_on) (omega arith) (at_most (length (b ∷ rest)) 65535 h)) tt) tt

bounded_sized : (n : ℕ) → SenseSized (integer_kind n)
bounded_sized n = choose_sense (nat_le n 9223372036854775807) (Ok (Integer (pos n))) (Err L4) (λ h. (at_most n 9223372036854775807 h, tt)) tt

integer_sized : (radix : ℕ) (digits : List ℕ) → SenseSized (integer radix digits)
integer_sized radix digits = choose_sense (is_between 2 36 radix && are_digits radix digits) (integer_kind (number_in radix digits)) (Err L5)
    (λ h. bounded_sized (number_in radix digits)) tt

number_by_sized : (digits rest : List ℕ) → FoundSized (number_by digits rest)
number_by_sized digits [] =
    choose_sense (nat_le (length digits) 65535) (integer_kind (number_in 10 digits)) (Err L7) (λ h. bounded_sized (number_in 10 digits)) tt
number_by_sized digits (c ∷ rest) =
    choose_found (is_radix_mark c && list_all is_alphanumeric rest) (Some (within_size (digits ++ c ∷ rest) (integer (number_in 10 digits) rest)))
    (cond (is_real_mark c && is_nothing rest) (Some (Err L6)) None)
    (choose_sense (nat_le (length (digits ++ c ∷ rest)) 65535) (integer (number_in 10 digits) rest) (Err L7) (λ h. integer_sized (number_in 10 digits) rest) tt)
    (choose_found (is_real_mark c && is_nothing rest) (Some (Err L6)) None tt tt)

number_sized : (bytes : List ℕ) → FoundSized (number bytes)
unfolding number
number_sized bytes = number_by_sized (take (prefix_len is_digit bytes) bytes) (drop (prefix_len is_digit bytes) bytes)

dotted_sized : (rest : List ℕ) → FoundSized (dot_number rest)
dotted_sized [] = (tt, tt)
dotted_sized (b ∷ []) = choose_found (is_digit b) (Some (Err L6)) None tt tt
dotted_sized (b ∷ c ∷ rest) = tt

-- no literal and no identifier, and only augmented operators that are tokens
abbrev is_mark : Kind → Bool
is_mark (Operator operator) = true
is_mark (Augmented operator) = is_augmented operator
is_mark (Punctuation mark) = true
is_mark _ = false

mark_is_sized : (kind : Kind) → is_mark kind ≡ true → SenseSized (Ok kind)
mark_is_sized (Operator operator) h = (tt, tt)
mark_is_sized (Augmented operator) h = (tt, h)
mark_is_sized (Punctuation mark) h = (tt, tt)
mark_is_sized (WordKind word) h = (tt, tt)
mark_is_sized (Cset set) h = absurd (false≢true h)
mark_is_sized (Identifier text) h = absurd (false≢true h)
mark_is_sized (Integer n) h = absurd (false≢true h)
mark_is_sized (Text bytes) h = absurd (false≢true h)

abbrev pub row_marks : List ℕ × Kind → Bool
row_marks row = is_mark row.1

pub choose_rows : (p : List ℕ × Kind → Bool) (test : Bool) (x y : List (List ℕ × Kind)) → list_all p x ≡ true → list_all p y ≡ true
    → list_all p (cond test x y) ≡ true
choose_rows p true x y h g = h
choose_rows p false x y h g = g

marks_are : (b : ℕ) → list_all row_marks (marks_of b) ≡ true
unfolding marks_of
marks_are b =
    choose_rows row_marks (b == 33) _ _ refl (choose_rows row_marks
    (b == 36) _ _ refl (choose_rows row_marks (b == 37) _ _ refl (choose_rows row_marks (b == 38) _ _ refl (choose_rows row_marks (b == 40) _ _ refl
    (choose_rows row_marks (b == 41) _ _ refl (choose_rows row_marks
    (b == 42) _ _ refl (choose_rows row_marks (b == 43) _ _ refl (choose_rows row_marks (b == 44) _ _ refl (choose_rows row_marks (b == 45) _ _ refl
    (choose_rows row_marks (b == 47) _ _ refl (choose_rows row_marks
    (b == 58) _ _ refl (choose_rows row_marks (b == 59) _ _ refl (choose_rows row_marks (b == 60) _ _ refl (choose_rows row_marks (b == 61) _ _ refl
    (choose_rows row_marks (b == 62) _ _ refl (choose_rows row_marks
    (b == 63) _ _ refl (choose_rows row_marks (b == 64) _ _ refl (choose_rows row_marks (b == 91) _ _ refl (choose_rows row_marks (b == 92) _ _ refl
    (choose_rows row_marks (b == 93) _ _ refl (choose_rows row_marks
    (b == 94) _ _ refl (choose_rows row_marks (b == 123) _ _ refl (choose_rows row_marks (b == 124) _ _ refl (choose_rows row_marks (b == 125) _ _ refl
    (choose_rows row_marks (b == 126) _ _ refl refl)))))))))))))))))))))))))

both : (x y : Bool) → (x && y) ≡ true → (x ≡ true) × (y ≡ true)
both true y h = (refl, h)
both false y h = absurd (false≢true h)

abbrev SizedAt : Option Kind → Type 0
SizedAt found = FoundSized (option_map (λ kind. Ok kind) found)

choose_row : (test : Bool) (kind : Kind) (others : Option Kind) → SenseSized (Ok kind) → SizedAt others → SizedAt (cond test (Some kind) others)
choose_row true kind others h g = h
choose_row false kind others h g = g

rows_sized : (rows : List (List ℕ × Kind)) (text : List ℕ) → list_all row_marks rows ≡ true → SizedAt (lookup_text rows text)
rows_sized [] text h = tt
rows_sized (row ∷ rows) text h =
    let parts = both (row_marks row) (list_all row_marks rows) h in
    choose_row (bytes_eq text row.0) row.1 (lookup_text rows text) (mark_is_sized row.1 parts.0) (rows_sized rows text parts.1)

spelled_sized : (text : List ℕ) → FoundSized (one_token text)
unfolding one_token
spelled_sized [] = tt
spelled_sized (b ∷ rest) =
    choose_found_so (begins_identifier b) (name b rest) (cond (is_digit b) (number (b ∷ rest)) (cond (b == 46) (dot_number rest) (mark b rest)))
    (name_sized b rest)
    (choose_found (is_digit b) (number (b ∷ rest)) (cond (b == 46) (dot_number rest) (mark b rest)) (number_sized (b ∷ rest))
    (choose_found (b == 46) (dot_number rest) (mark b rest) (dotted_sized rest) (rows_sized (marks_of b) (b ∷ rest) (marks_are b))))

-- a token is within its bounds, is formed as the scanner forms tokens, and has a spelling
pub record IsSound (kind : Kind) : Type 0 where
  pub sized : IsSized kind
  pub formed : IsFormed kind
  pub text : List ℕ
  pub spells : Spells kind text

abbrev LongestSound : Option (Result Kind Rule × ℕ) → Type 0
LongestSound None = Unit {0}
LongestSound (Some (Ok kind, count)) = IsSound kind
LongestSound (Some (Err rule, count)) = IsScanRule rule

longer_sound : (found : Option (Result Kind Rule)) (text : List ℕ) (n : ℕ) (shorter : Option (Result Kind Rule × ℕ)) → one_token text ≡ found → FoundSized found
    → LongestSound shorter → LongestSound (longer found n shorter)
longer_sound None text n shorter e h g = g
longer_sound (Some (Ok kind)) text n shorter e h g = record { sized = h.0; formed = h.1; text = text; spells = bare kind text e }
longer_sound (Some (Err rule)) text n shorter e h g = h

longest_sound : (n : ℕ) (bytes : List ℕ) → LongestSound (longest one_token n bytes)
longest_sound zero bytes = tt
longest_sound (suc n) bytes = longer_sound (one_token (take (suc n) bytes)) (take (suc n) bytes) (suc n) (longest one_token n bytes) refl
    (spelled_sized (take (suc n) bytes)) (longest_sound n bytes)

abbrev FirstSound : Result (Kind × ℕ) Rule → Type 0
FirstSound (Ok first) = IsSound first.0
FirstSound (Err rule) = IsScanRule rule

judged_sound : (found : Option (Result Kind Rule × ℕ)) → LongestSound found → FirstSound (front_token found)
judged_sound None h = tt
judged_sound (Some (Ok kind, count)) h = h
judged_sound (Some (Err rule, count)) h = h

first_sound : (bytes : List ℕ) → FirstSound (first_of bytes)
unfolding first_of
first_sound bytes = judged_sound (longest one_token (length bytes) bytes) (longest_sound (length bytes) bytes)

-- All tokens

abbrev PiecesSound : List LineToken → Type 0
PiecesSound [] = Unit {0}
PiecesSound (piece ∷ pieces) = IsSound piece.token.kind × PiecesSound pieces

abbrev ScanSound : Scan → Type 0
ScanSound (Found pieces) = PiecesSound pieces
ScanSound (Broken rule line file) = IsScanRule rule

choose_scan : (test : Bool) (x y : Scan) → (test ≡ true → ScanSound x) → ScanSound y → ScanSound (cond test x y)
choose_scan true x y h g = h refl
choose_scan false x y h g = g

before_sound : (piece : LineToken) (later : Scan) → IsSound piece.token.kind → ScanSound later → ScanSound (before piece later)
before_sound piece (Found pieces) h g = (h, g)
before_sound piece (Broken rule line file) h g = g

token_sound : (line : SourceLine) (is_first : Bool) (found : Result (Kind × ℕ) Rule) (later : ℕ → Scan) → FirstSound found → ((n : ℕ) → ScanSound (later n))
    → ScanSound (token_then line is_first found later)
token_sound line is_first (Ok first) later h g = before_sound (piece_on line is_first first.0) (later first.1) h (g first.1)
token_sound line is_first (Err rule) later h g = h

kind_sound : (cset : Bool) (bytes : List ℕ) → length bytes ≤ 65535 → IsSound (cond cset (Cset (members_of bytes)) (Text bytes))
kind_sound true bytes h = record { sized = tt; formed = members_ascend bytes; text = _; spells = cset bytes h }
kind_sound false bytes h = record { sized = h; formed = tt; text = _; spells = string bytes h }

closed_sound : (literal : OpenLiteral) (later : Scan) → ScanSound later → ScanSound (closed_then literal later)
closed_sound literal later g =
    choose_scan (nat_le (length literal.bytes) 65535) (before (literal_piece literal) later) (Broken L7 literal.line literal.file)
    (λ h. before_sound (literal_piece literal) later (kind_sound (literal.quote == 39) literal.bytes (at_most (length literal.bytes) 65535 h)) g) tt

escape_found_sound : (line : SourceLine) (found : Option (ℕ × ℕ)) (later : ℕ → ℕ → Scan) → ((byte count : ℕ) → ScanSound (later byte count))
    → ScanSound (escape_found line found later)
escape_found_sound line None later g = tt
escape_found_sound line (Some found) later g = g found.0 found.1

escape_sound : (line : SourceLine) (literal : OpenLiteral) (bytes : List ℕ) (later : ℕ → ℕ → Scan) → ((byte count : ℕ) → ScanSound (later byte count))
    → ScanSound (escape_then line literal bytes later)
escape_sound line literal [] later g = tt
escape_sound line literal (b ∷ rest) later g = escape_found_sound line (escape_of (b ∷ rest)) later g

bytes_sound : (later : Option OpenLiteral → Scan) → ((begun : Option OpenLiteral) → ScanSound (later begun))
    → (line : SourceLine) (state : ScanState) (taken : ℕ) (bytes : List ℕ) → ScanSound (bytes_from later line state taken bytes)
unfolding bytes_from
bytes_sound later h line (Between is_first) taken [] = h None
bytes_sound later h line (Inside literal) taken [] = tt
bytes_sound later h line (Between is_first) (suc taken) (b ∷ rest) = bytes_sound later h line (Between is_first) taken rest
bytes_sound later h line (Inside literal) (suc taken) (b ∷ rest) = bytes_sound later h line (Inside literal) taken rest
bytes_sound later h line (Between is_first) zero (b ∷ rest) =
    choose_scan (is_space b) _ _ (λ e. bytes_sound later h line (Between is_first) zero rest)
    (choose_scan (begins_comment b) _ _ (λ e. h None)
    (choose_scan (is_quote b) _ _ (λ e. bytes_sound later h line (Inside (open_literal line is_first b)) zero rest)
    (token_sound line is_first (first_of (b ∷ rest)) (λ count. bytes_from later line (Between false) (count - 1) rest) (first_sound (b ∷ rest))
    (λ count. bytes_sound later h line (Between false) (count - 1) rest))))
bytes_sound later h line (Inside literal) zero (b ∷ rest) =
    choose_scan
    (b == literal.quote) _ _ (λ e. closed_sound literal (bytes_from later line (Between false) zero rest) (bytes_sound later h line (Between false) zero rest))
    (choose_scan (b == 92) _ _ (λ e. escape_sound line literal rest (λ byte count. bytes_from later line (Inside (with_byte literal byte)) count rest)
    (λ byte count. bytes_sound later h line (Inside (with_byte literal byte)) count rest))
    (choose_scan (b == 95 && is_nothing rest) _ _ (λ e. h (Some literal)) (bytes_sound later h line (Inside (with_byte literal b)) zero rest)))

line_sound : (later : Option OpenLiteral → Scan) → ((begun : Option OpenLiteral) → ScanSound (later begun)) → (line : SourceLine) (begun : Option OpenLiteral)
    → ScanSound (line_from later line begun)
line_sound later h line None = bytes_sound later h line (Between true) zero line.bytes
line_sound later h line (Some literal) = bytes_sound later h line (Inside literal) zero (after_blanks line.bytes)

pub lines_sound : (lines : List SourceLine) (begun : Option OpenLiteral) → ScanSound (lines_from lines begun)
unfolding lines_from
lines_sound [] None = tt
lines_sound [] (Some literal) = tt
lines_sound (line ∷ lines) begun = line_sound (λ begun. lines_from lines begun) (λ begun. lines_sound lines begun) line begun

-- the bytes of what was read are passed over
pub scan_skips : (later : Option OpenLiteral → Scan) (line : SourceLine) (state : ScanState) (n : ℕ) (bytes : List ℕ)
    → bytes_from later line state n bytes ≡ bytes_from later line state 0 (drop n bytes)
unfolding bytes_from
scan_skips later line state zero bytes = refl
scan_skips later line (Between is_first) (suc n) [] = refl
scan_skips later line (Inside literal) (suc n) [] = refl
scan_skips later line (Between is_first) (suc n) (b ∷ rest) = scan_skips later line (Between is_first) n rest
scan_skips later line (Inside literal) (suc n) (b ∷ rest) = scan_skips later line (Inside literal) n rest

-- Outcomes

rule_of : Tokenized → Rule → Rule
rule_of (Scanned tokens) other = other
rule_of (Fault rule file line) other = rule

fault_of : (scan : Scan) (rule : Rule) (file line : ℕ) → ScanSound scan → finish_scan scan ≡ Fault rule file line → IsScanRule rule
unfolding rule_of
fault_of (Found pieces) rule file line h e = absurd (cc)
fault_of (Broken found l f) rule file line h e = subst IsScanRule (ap (λ outcome. rule_of outcome rule) e) h

-- the rule that lines break is one of tokens
pub rule_of_scan : (lines : List SourceLine) (rule : Rule) (file line : ℕ) → tokens_of lines ≡ Fault rule file line → IsScanRule rule
unfolding tokens_of
rule_of_scan lines rule file line e = fault_of (lines_from lines None) rule file line (lines_sound lines None) e

abbrev pub TokensSound : List Token → Type 0
TokensSound [] = Unit {0}
TokensSound (token ∷ tokens) = IsSound token.kind × TokensSound tokens

semicolon_sound : IsSound (Punctuation Semicolon)
unfolding one_token marks_of
semicolon_sound = record { sized = tt; formed = tt; text = 59 ∷ []; spells = bare (Punctuation Semicolon) (59 ∷ []) refl }

choose_between : (test : Bool) (token : Token) (rest : List Token) → TokensSound rest → TokensSound (cond test (semicolon_at token ∷ []) [] ++ rest)
choose_between true token rest h = (semicolon_sound, h)
choose_between false token rest h = h

semicolons_sound : (pieces : List LineToken) → PiecesSound pieces → TokensSound (with_semicolons pieces)
semicolons_sound [] h = tt
semicolons_sound (a ∷ []) h = (h.0, tt)
semicolons_sound (a ∷ b ∷ rest) h = (
  h.0,
  choose_between (b.is_first && is_ender a.token.kind && is_beginner b.token.kind) a.token (with_semicolons (b ∷ rest)) (semicolons_sound (b ∷ rest) h.1),
)

tokens_in : Tokenized → List Token
tokens_in (Scanned tokens) = tokens
tokens_in (Fault rule file line) = []

scanned_of : (scan : Scan) (tokens : List Token) → ScanSound scan → finish_scan scan ≡ Scanned tokens → TokensSound tokens
unfolding tokens_in
scanned_of (Found pieces) tokens h e = subst TokensSound (ap tokens_in e) (semicolons_sound pieces h)
scanned_of (Broken rule line file) tokens h e = absurd (cc)

-- tokens that are scanned are within their bounds and can be spelled
pub tokens_sound : (lines : List SourceLine) (tokens : List Token) → tokens_of lines ≡ Scanned tokens → TokensSound tokens
unfolding tokens_of
tokens_sound lines tokens e = scanned_of (lines_from lines None) tokens (lines_sound lines None) e

pub all_none : {A : Type 0} (P : A → Type 0) → All P []
all_none P = λ k d l. absurd (omega arith)

pub all_next : {A : Type 0} (P : A → Type 0) (x : A) (xs : List A) → P x → All P xs → All P (x ∷ xs)
all_next {A} P x xs h g = at where
  at : (k : ℕ) (d : A) → k < length (x ∷ xs) → P (get_or (x ∷ xs) k d)
  at zero d l = h
  at (suc k) d l = g k d (omega arith)

pub all_sized : (tokens : List Token) → TokensSound tokens → All (λ token. IsSized token.kind) tokens
all_sized [] h = all_none (λ (token : Token). IsSized token.kind)
all_sized (token ∷ tokens) h = all_next (λ (token : Token). IsSized token.kind) token tokens h.0.sized (all_sized tokens h.1)

pub all_formed : (tokens : List Token) → TokensSound tokens → All (λ token. IsFormed token.kind) tokens
all_formed [] h = all_none (λ (token : Token). IsFormed token.kind)
all_formed (token ∷ tokens) h = all_next (λ (token : Token). IsFormed token.kind) token tokens h.0.formed (all_formed tokens h.1)

-- Semicolons

no_semicolon : (a : Token) (b : LineToken) → (is_ender a.kind && is_beginner b.token.kind) ≡ false → between a b ≡ []
no_semicolon a b h = by_first b.is_first where
  by_first : (first : Bool) → cond (first && is_ender a.kind && is_beginner b.token.kind) (semicolon_at a ∷ []) [] ≡ []
  by_first true = rw h refl
  by_first false = refl

no_ender : (x y : Bool) → x ≡ false → (x && y) ≡ false
no_ender x y h = rw h refl

no_beginner : (x y : Bool) → y ≡ false → (x && y) ≡ false
no_beginner true y h = h
no_beginner false y h = refl

cut : (front rest : List LineToken) (a b : LineToken) → between a.token b ≡ []
    → with_semicolons (front ++ a ∷ b ∷ rest) ≡ with_semicolons (front ++ a ∷ []) ++ with_semicolons (b ∷ rest)
cut [] rest a b h = ap (λ join. a.token ∷ join ++ with_semicolons (b ∷ rest)) h
cut (x ∷ []) rest a b h = ap (λ later. x.token ∷ between x.token a ++ later) (cut [] rest a b h)
    ∙ sym (append_assoc (x.token ∷ between x.token a) (with_semicolons (a ∷ [])) (with_semicolons (b ∷ rest)))
cut (x ∷ y ∷ front) rest a b h =
    ap (λ later. x.token ∷ between x.token y ++ later) (cut (y ∷ front) rest a b h)
    ∙ sym (append_assoc (x.token ∷ between x.token y) (with_semicolons (y ∷ front ++ a ∷ [])) (with_semicolons (b ∷ rest)))

pub cut_before : (front rest : List LineToken) (a b : LineToken) → is_beginner b.token.kind ≡ false
    → with_semicolons (front ++ a ∷ b ∷ rest) ≡ with_semicolons (front ++ a ∷ []) ++ with_semicolons (b ∷ rest)
cut_before front rest a b h = cut front rest a b (no_semicolon a.token b (no_beginner (is_ender a.token.kind) _ h))

pub cut_behind : (front rest : List LineToken) (a b : LineToken) → is_ender a.token.kind ≡ false
    → with_semicolons (front ++ a ∷ b ∷ rest) ≡ with_semicolons (front ++ a ∷ []) ++ with_semicolons (b ∷ rest)
cut_behind front rest a b h = cut front rest a b (no_semicolon a.token b (no_ender (is_ender a.token.kind) _ h))

-- How many tokens there are

-- what tokens cost: each one, and each that is the first on its line a semicolon; the first of all costs none unless that is said
abbrev flag : Bool → ℕ
flag true = 1
flag false = 0

abbrev price : Bool → List LineToken → ℕ
price counts [] = 0
price counts (piece ∷ pieces) = 1 + flag (counts && piece.is_first) + price true pieces

abbrev cost : Bool → Scan → ℕ
cost counts (Found pieces) = price counts pieces
cost counts (Broken rule line file) = 0

between_price : (a : Token) (b : LineToken) → length (between a b) ≤ flag b.is_first
between_price a b = by_first b.is_first where
  by_both : (test : Bool) → length (cond test (semicolon_at a ∷ []) []) ≤ 1
  by_both true = omega arith
  by_both false = omega arith

  by_first : (first : Bool) → length (cond (first && is_ender a.kind && is_beginner b.token.kind) (semicolon_at a ∷ []) []) ≤ flag first
  by_first true = by_both (is_ender a.kind && is_beginner b.token.kind)
  by_first false = omega arith

semicolons_price : (pieces : List LineToken) → length (with_semicolons pieces) ≤ price false pieces
semicolons_price [] = omega arith
semicolons_price (a ∷ []) = omega arith
semicolons_price (a ∷ b ∷ rest) =
    omega (arith, length-append (between a.token b) (with_semicolons (b ∷ rest)), between_price a.token b, semicolons_price (b ∷ rest))

-- the bytes of lines with a newline behind each
abbrev ended_len : List SourceLine → ℕ
ended_len [] = 0
ended_len (line ∷ lines) = length line.bytes + 1 + ended_len lines

abbrev begun_price : Bool → Option OpenLiteral → ℕ
begun_price counts None = 0
begun_price counts (Some literal) = 1 + flag (counts && literal.is_first)

abbrev state_price : Bool → ScanState → ℕ
state_price counts (Between is_first) = flag (counts && is_first)
state_price counts (Inside literal) = 1 + flag (counts && literal.is_first)

choose_cost : (counts test : Bool) (x y : Scan) (n : ℕ) → cost counts x ≤ n → cost counts y ≤ n → cost counts (cond test x y) ≤ n
choose_cost counts true x y n h g = h
choose_cost counts false x y n h g = g

before_cost : (counts : Bool) (piece : LineToken) (later : Scan) → cost counts (before piece later) ≤ 1 + flag (counts && piece.is_first) + cost true later
before_cost counts piece (Found pieces) = omega arith
before_cost counts piece (Broken rule line file) = omega arith

-- what later lines cost, whether the first token counts or not
abbrev LaterCost : (Option OpenLiteral → Scan) → ℕ → Type 0
LaterCost later n = (counts : Bool) (begun : Option OpenLiteral) → cost counts (later begun) ≤ n + begun_price counts begun

token_cost : (counts : Bool) (line : SourceLine) (is_first : Bool) (found : Result (Kind × ℕ) Rule) (later : ℕ → Scan) (n : ℕ)
    → ((count : ℕ) → cost true (later count) ≤ n)
    → cost counts (token_then line is_first found later) ≤ 1 + flag (counts && is_first) + n
token_cost counts line is_first (Ok first) later n h = omega (arith, before_cost counts (piece_on line is_first first.0) (later first.1), h first.1)
token_cost counts line is_first (Err rule) later n h = omega arith

closed_cost : (counts : Bool) (literal : OpenLiteral) (later : Scan) (n : ℕ) → cost true later ≤ n
    → cost counts (closed_then literal later) ≤ 1 + flag (counts && literal.is_first) + n
closed_cost counts literal later n h =
    choose_cost counts (nat_le (length literal.bytes) 65535) (before (literal_piece literal) later) (Broken L7 literal.line literal.file) _
    (omega (arith, before_cost counts (literal_piece literal) later, h)) (omega arith)

escape_found_cost : (counts : Bool) (line : SourceLine) (found : Option (ℕ × ℕ)) (later : ℕ → ℕ → Scan) (n : ℕ)
    → ((byte count : ℕ) → cost counts (later byte count) ≤ n) → cost counts (escape_found line found later) ≤ n
escape_found_cost counts line None later n h = omega arith
escape_found_cost counts line (Some found) later n h = h found.0 found.1

escape_cost : (counts : Bool) (line : SourceLine) (literal : OpenLiteral) (bytes : List ℕ) (later : ℕ → ℕ → Scan) (n : ℕ)
    → ((byte count : ℕ) → cost counts (later byte count) ≤ n) → cost counts (escape_then line literal bytes later) ≤ n
escape_cost counts line literal [] later n h = omega arith
escape_cost counts line literal (b ∷ rest) later n h = escape_found_cost counts line (escape_of (b ∷ rest)) later n h

no_flag : flag (true && false) ≡ 0
no_flag = refl

bytes_cost : (counts : Bool) (later : Option OpenLiteral → Scan) (n : ℕ) → LaterCost later n
    → (line : SourceLine) (state : ScanState) (taken : ℕ) (bytes : List ℕ)
    → cost counts (bytes_from later line state taken bytes) ≤ length bytes - taken + state_price counts state + n
unfolding bytes_from
bytes_cost counts later n h line (Between is_first) taken [] = omega (arith, h counts None)
bytes_cost counts later n h line (Inside literal) taken [] = omega arith
bytes_cost counts later n h line (Between is_first) (suc taken) (b ∷ rest) = omega (arith, bytes_cost counts later n h line (Between is_first) taken rest)
bytes_cost counts later n h line (Inside literal) (suc taken) (b ∷ rest) = omega (arith, bytes_cost counts later n h line (Inside literal) taken rest)
bytes_cost counts later n h line (Between is_first) zero (b ∷ rest) =
    choose_cost counts (is_space b) _ _ _ (omega (arith, bytes_cost counts later n h line (Between is_first) zero rest))
    (choose_cost counts (begins_comment b) _ _ _ (omega (arith, h counts None))
    (choose_cost counts (is_quote b) _ _ _ (omega (arith, bytes_cost counts later n h line (Inside (open_literal line is_first b)) zero rest))
    (let each : (count : ℕ) → cost true (bytes_from later line (Between false) (count - 1) rest)
    ≤ length rest + n = λ count. omega (arith, bytes_cost true later n h line (Between false) (count - 1) rest) in
    omega
    (arith, token_cost counts line is_first (first_of (b ∷ rest)) (λ count. bytes_from later line (Between false) (count - 1) rest) (length rest + n) each))))
bytes_cost counts later n h line (Inside literal) zero (b ∷ rest) =
    choose_cost counts (b == literal.quote) _ _ _
    (let behind : cost true (bytes_from later line (Between false) zero rest)
    ≤ length rest + n = omega (arith, bytes_cost true later n h line (Between false) zero rest) in
    omega (arith, closed_cost counts literal (bytes_from later line (Between false) zero rest) (length rest + n) behind))
    (choose_cost counts (b == 92) _ _ _
    (escape_cost counts line literal rest (λ byte count. bytes_from later line (Inside (with_byte literal byte)) count rest) _
    (λ byte count. omega (arith, bytes_cost counts later n h line (Inside (with_byte literal byte)) count rest)))
    (choose_cost counts (b == 95 && is_nothing rest) _ _ _ (omega (arith, h counts (Some literal)))
    (omega (arith, bytes_cost counts later n h line (Inside (with_byte literal b)) zero rest))))

line_cost : (counts : Bool) (later : Option OpenLiteral → Scan) (n : ℕ) → LaterCost later n → (line : SourceLine) (begun : Option OpenLiteral)
    → cost counts (line_from later line begun) ≤ length line.bytes + flag counts + begun_price counts begun + n
line_cost true later n h line None = omega (arith, bytes_cost true later n h line (Between true) zero line.bytes)
line_cost false later n h line None = omega (arith, bytes_cost false later n h line (Between true) zero line.bytes)
line_cost counts later n h line (Some literal) =
    omega (arith, bytes_cost counts later n h line (Inside literal) zero (after_blanks line.bytes), length-drop (prefix_len is_blank line.bytes) line.bytes)

at_most_one : (counts : Bool) → flag counts ≤ 1
at_most_one true = omega arith
at_most_one false = omega arith

lines_cost : (lines : List SourceLine) (counts : Bool) (begun : Option OpenLiteral)
    → cost counts (lines_from lines begun) ≤ ended_len lines + begun_price counts begun
unfolding lines_from
lines_cost [] counts None = omega arith
lines_cost [] counts (Some literal) = omega arith
lines_cost (line ∷ lines) counts begun =
    omega
    (arith, at_most_one counts, line_cost counts (λ begun. lines_from lines begun) (ended_len lines) (λ counts begun. lines_cost lines counts begun) line begun)

ended_joined : (line : SourceLine) (lines : List SourceLine) → length line.bytes + ended_len lines ≡ joined_len (line ∷ lines)
ended_joined line [] = omega arith
ended_joined line (next ∷ rest) = omega (arith, ended_joined next rest)

all_cost : (lines : List SourceLine) → cost false (lines_from lines None) ≤ joined_len lines
unfolding lines_from
all_cost [] = omega arith
all_cost (line ∷ lines) =
    omega (
      arith,
      ended_joined line lines,
      line_cost false (λ begun. lines_from lines begun) (ended_len lines) (λ counts begun. lines_cost lines counts begun) line None,
    )

count_of : (scan : Scan) (tokens : List Token) (n : ℕ) → cost false scan ≤ n → finish_scan scan ≡ Scanned tokens → length tokens ≤ n
unfolding tokens_in
count_of (Found pieces) tokens n h e = omega (arith, semicolons_price pieces, ap (λ outcome. length (tokens_in outcome)) e)
count_of (Broken rule line file) tokens n h e = absurd (cc)

pub tokens_counted : (lines : List SourceLine) (tokens : List Token) → tokens_of lines ≡ Scanned tokens → length tokens ≤ joined_len lines
unfolding tokens_of
tokens_counted lines tokens e = count_of (lines_from lines None) tokens (joined_len lines) (all_cost lines) e
