-- The names and the literals of tokens are bytes, where the lines are.
use Rattle.std.proofs.Common.{◌==◌, ◌≡◌, ℕ, ◌-◌, zero, suc, Bool, true, false, cond, ◌&&◌, nat_le, List, [], ◌∷◌, ◌++◌, length, take, drop, Option, None, Some, Result, Ok, Err, refl, ap, subst, pos}
use Rattle.std.specs.Prelude.{unwrap_or}
use Rattle.std.specs.List.{list_all, prefix_len}
use Rattle.std.specs.Option.{option_map}
use Rattle.std.specs.Str.{bytes_eq}
use Rattle.std.proofs.lemmas.Bool.{and_from, and_parts}
use Rattle.icn_tree.specs.declared.lines.SourceLine.{SourceLine}
use Rattle.icn_tree.specs.declared.rule.Rule.{Rule}
use Rattle.icn_tree.specs.declared.rule.Rule.TheVariants.{L4, L5, L6, L7}
use Rattle.icn_tree.specs.declared.token.Kind.{Kind}
use Rattle.icn_tree.specs.declared.token.Kind.TheVariants.{Identifier, Integer, Text, Cset, Word as WordKind}
use Rattle.icn_tree.specs.declared.token.Token.{Token}
use Rattle.icn_tree.specs.declared.token.Word.{Word}
use Rattle.icn_tree.specs.ByteSets.{members_of}
use Rattle.icn_tree.specs.Characters.{is_space, is_blank, begins_comment, begins_identifier, is_digit, continues_identifier, is_alphanumeric, is_quote, is_between}
use Rattle.icn_tree.specs.Literals.{OpenLiteral, with_byte, escape_of}
use Rattle.icn_tree.specs.IntegerLiterals.{is_nothing, is_radix_mark, is_real_mark, are_digits, number_in, within_size, integer_kind, integer, number_by, number}
use Rattle.icn_tree.specs.Semicolons.{LineToken, is_ender, is_beginner, semicolon_at, with_semicolons}
use Rattle.icn_tree.specs.Spellings.{lookup_text, word_of, name_of, marks_of}
use Rattle.icn_tree.specs.Tokens.{name, dot_number, mark, one_token, longer, longest, front_token, first_of, Scan, Found, Broken, before, piece_on, token_then, open_literal, literal_piece, closed_then, escape_found, escape_then, Between, Inside, bytes_from, line_from, lines_from, after_blanks, Tokenized, Scanned, Fault, finish_scan, tokens_of}
use Rattle.icn_tree.proofs.SetMembers.{members_ascend}
use Rattle.icn_tree.proofs.KeptByScans.{choose_rows}
use Rattle.law_source.specs.LineBytes.{line_is_of_bytes, lines_are_of_bytes}
use Rattle.law_source.specs.TokenBytes.{kind_is_of_bytes, tokens_are_of_bytes}
use Rattle.law_source.proofs.ByteLists.{AreBytes, no_bytes, with_first, first_byte, other_bytes, bytes_joined, bytes_taken, bytes_dropped}
use Rattle.law_source.proofs.Escapes.{IsByteOf, escape_byte}

-- One token

abbrev IsSense : Result Kind Rule → Type 0
IsSense (Ok kind) = kind_is_of_bytes kind ≡ true
IsSense (Err rule) = Unit {0}

abbrev IsFound : Option (Result Kind Rule) → Type 0
IsFound None = Unit {0}
IsFound (Some sense) = IsSense sense

sense_chosen : (test : Bool) (x y : Result Kind Rule) → IsSense x → IsSense y → IsSense (cond test x y)
sense_chosen true x y h g = h
sense_chosen false x y h g = g

found_chosen : (test : Bool) (x y : Option (Result Kind Rule)) → IsFound x → IsFound y → IsFound (cond test x y)
found_chosen true x y h g = h
found_chosen false x y h g = g

word_sense : (word : Option Word) (text : List ℕ) → AreBytes text
    → IsSense (Ok (unwrap_or (option_map WordKind word) (Identifier text)))
word_sense None text h = h.are
word_sense (Some word) text h = refl

name_found : (b : ℕ) (rest : List ℕ) → AreBytes (b ∷ rest) → IsFound (name b rest)
name_found b rest h = found_chosen (list_all continues_identifier rest)
    (Some (within_size (b ∷ rest) (Ok (name_of (b ∷ rest))))) None
    (sense_chosen (nat_le (length (b ∷ rest)) 65535) (Ok (name_of (b ∷ rest))) (Err L7)
    (word_sense (word_of (b ∷ rest)) (b ∷ rest) h) tt) tt

bounded_sense : (n : ℕ) → IsSense (integer_kind n)
bounded_sense n = sense_chosen (nat_le n 9223372036854775807) (Ok (Integer (pos n))) (Err L4) refl tt

integer_sense : (radix : ℕ) (digits : List ℕ) → IsSense (integer radix digits)
integer_sense radix digits = sense_chosen (is_between 2 36 radix && are_digits radix digits)
    (integer_kind (number_in radix digits)) (Err L5)
    (bounded_sense (number_in radix digits)) tt

number_found_by : (digits rest : List ℕ) → IsFound (number_by digits rest)
number_found_by digits [] = sense_chosen (nat_le (length digits) 65535) (integer_kind (number_in 10 digits)) (Err L7)
    (bounded_sense (number_in 10 digits)) tt
number_found_by digits (c ∷ rest) =
    found_chosen (is_radix_mark c && list_all is_alphanumeric rest)
    (Some (within_size (digits ++ c ∷ rest) (integer (number_in 10 digits) rest)))
    (cond (is_real_mark c && is_nothing rest) (Some (Err L6)) None)
    (sense_chosen (nat_le (length (digits ++ c ∷ rest)) 65535) (integer (number_in 10 digits) rest) (Err L7)
    (integer_sense (number_in 10 digits) rest) tt)
    (found_chosen (is_real_mark c && is_nothing rest) (Some (Err L6)) None tt tt)

number_found : (bytes : List ℕ) → IsFound (number bytes)
unfolding number
number_found bytes = number_found_by (take (prefix_len is_digit bytes) bytes)
    (drop (prefix_len is_digit bytes) bytes)

dotted_found : (rest : List ℕ) → IsFound (dot_number rest)
dotted_found [] = refl
dotted_found (b ∷ []) = found_chosen (is_digit b) (Some (Err L6)) None tt tt
dotted_found (b ∷ c ∷ rest) = tt

abbrev row_is : List ℕ × Kind → Bool
row_is row = kind_is_of_bytes row.1

marks_are : (b : ℕ) → list_all row_is (marks_of b) ≡ true
unfolding marks_of
marks_are b =
    choose_rows row_is (b == 33) _ _ refl (choose_rows row_is (b == 36) _ _ refl
    (choose_rows row_is (b == 37) _ _ refl (choose_rows row_is (b == 38) _ _ refl
    (choose_rows row_is (b == 40) _ _ refl (choose_rows row_is (b == 41) _ _ refl
    (choose_rows row_is (b == 42) _ _ refl (choose_rows row_is (b == 43) _ _ refl
    (choose_rows row_is (b == 44) _ _ refl (choose_rows row_is (b == 45) _ _ refl
    (choose_rows row_is (b == 47) _ _ refl (choose_rows row_is (b == 58) _ _ refl
    (choose_rows row_is (b == 59) _ _ refl (choose_rows row_is (b == 60) _ _ refl
    (choose_rows row_is (b == 61) _ _ refl (choose_rows row_is (b == 62) _ _ refl
    (choose_rows row_is (b == 63) _ _ refl (choose_rows row_is (b == 64) _ _ refl
    (choose_rows row_is (b == 91) _ _ refl (choose_rows row_is (b == 92) _ _ refl
    (choose_rows row_is (b == 93) _ _ refl (choose_rows row_is (b == 94) _ _ refl
    (choose_rows row_is (b == 123) _ _ refl (choose_rows row_is (b == 124) _ _ refl
    (choose_rows row_is (b == 125) _ _ refl (choose_rows row_is (b == 126) _ _ refl refl)))))))))))))))))))))))))

abbrev IsKindFound : Option Kind → Type 0
IsKindFound found = IsFound (option_map (λ kind. Ok kind) found)

row_chosen : (test : Bool) (kind : Kind) (others : Option Kind) → kind_is_of_bytes kind ≡ true
    → IsKindFound others
    → IsKindFound (cond test (Some kind) others)
row_chosen true kind others h g = h
row_chosen false kind others h g = g

rows_found : (rows : List (List ℕ × Kind)) (text : List ℕ) → list_all row_is rows ≡ true
    → IsKindFound (lookup_text rows text)
rows_found [] text h = tt
rows_found (row ∷ rows) text h =
    let parts = and_parts (row_is row) (list_all row_is rows) h in
    row_chosen (bytes_eq text row.0) row.1 (lookup_text rows text) parts.0 (rows_found rows text parts.1)

spelled_found : (text : List ℕ) → AreBytes text → IsFound (one_token text)
unfolding one_token
spelled_found [] h = tt
spelled_found (b ∷ rest) h =
    found_chosen (begins_identifier b) (name b rest)
    (cond (is_digit b) (number (b ∷ rest)) (cond (b == 46) (dot_number rest) (mark b rest)))
    (name_found b rest h)
    (found_chosen (is_digit b) (number (b ∷ rest)) (cond (b == 46) (dot_number rest) (mark b rest))
    (number_found (b ∷ rest))
    (found_chosen (b == 46) (dot_number rest) (mark b rest) (dotted_found rest)
    (rows_found (marks_of b) (b ∷ rest) (marks_are b))))

abbrev IsLongest : Option (Result Kind Rule × ℕ) → Type 0
IsLongest None = Unit {0}
IsLongest (Some (Ok kind, count)) = kind_is_of_bytes kind ≡ true
IsLongest (Some (Err rule, count)) = Unit {0}

longer_found : (found : Option (Result Kind Rule)) (n : ℕ) (shorter : Option (Result Kind Rule × ℕ))
    → IsFound found → IsLongest shorter
    → IsLongest (longer found n shorter)
longer_found None n shorter h g = g
longer_found (Some (Ok kind)) n shorter h g = h
longer_found (Some (Err rule)) n shorter h g = tt

longest_found : (n : ℕ) (bytes : List ℕ) → AreBytes bytes → IsLongest (longest one_token n bytes)
longest_found zero bytes h = tt
longest_found (suc n) bytes h = longer_found (one_token (take (suc n) bytes)) (suc n) (longest one_token n bytes)
    (spelled_found (take (suc n) bytes) (bytes_taken (suc n) bytes h)) (longest_found n bytes h)

abbrev IsFirst : Result (Kind × ℕ) Rule → Type 0
IsFirst (Ok first) = kind_is_of_bytes first.0 ≡ true
IsFirst (Err rule) = Unit {0}

judged_first : (found : Option (Result Kind Rule × ℕ)) → IsLongest found → IsFirst (front_token found)
judged_first None h = tt
judged_first (Some (Ok kind, count)) h = h
judged_first (Some (Err rule, count)) h = tt

first_found : (bytes : List ℕ) → AreBytes bytes → IsFirst (first_of bytes)
unfolding first_of
first_found bytes h = judged_first (longest one_token (length bytes) bytes) (longest_found (length bytes) bytes h)

-- All tokens

abbrev ArePieces : List LineToken → Type 0
ArePieces [] = Unit {0}
ArePieces (piece ∷ pieces) = (kind_is_of_bytes piece.token.kind ≡ true) × ArePieces pieces

abbrev IsScan : Scan → Type 0
IsScan (Found pieces) = ArePieces pieces
IsScan (Broken rule line file) = Unit {0}

scan_chosen : (test : Bool) (x y : Scan) → IsScan x → IsScan y → IsScan (cond test x y)
scan_chosen true x y h g = h
scan_chosen false x y h g = g

scan_before : (piece : LineToken) (later : Scan) → kind_is_of_bytes piece.token.kind ≡ true → IsScan later
    → IsScan (before piece later)
scan_before piece (Found pieces) h g = (h, g)
scan_before piece (Broken rule line file) h g = tt

token_scan : (line : SourceLine) (is_first : Bool) (found : Result (Kind × ℕ) Rule) (later : ℕ → Scan)
    → IsFirst found → ((n : ℕ) → IsScan (later n))
    → IsScan (token_then line is_first found later)
token_scan line is_first (Ok first) later h g = scan_before (piece_on line is_first first.0) (later first.1) h
    (g first.1)
token_scan line is_first (Err rule) later h g = tt

literal_kind_is : (cset : Bool) (bytes : List ℕ) → AreBytes bytes
    → kind_is_of_bytes (cond cset (Cset (members_of bytes)) (Text bytes)) ≡ true
literal_kind_is true bytes h = (members_ascend bytes).1
literal_kind_is false bytes h = h.are

closed_scan : (literal : OpenLiteral) (later : Scan) → AreBytes literal.bytes → IsScan later
    → IsScan (closed_then literal later)
closed_scan literal later h g =
    scan_chosen (nat_le (length literal.bytes) 65535) (before (literal_piece literal) later)
    (Broken L7 literal.line literal.file)
    (scan_before (literal_piece literal) later (literal_kind_is (literal.quote == 39) literal.bytes h) g) tt

escape_found_scan : (line : SourceLine) (found : Option (ℕ × ℕ)) (later : ℕ → ℕ → Scan) → IsByteOf found
    → ((byte count : ℕ) → AreBytes (byte ∷ []) → IsScan (later byte count))
    → IsScan (escape_found line found later)
escape_found_scan line None later h g = tt
escape_found_scan line (Some found) later h g = g found.0 found.1 (with_first h no_bytes)

escape_scan : (line : SourceLine) (literal : OpenLiteral) (bytes : List ℕ) (later : ℕ → ℕ → Scan) → AreBytes bytes
    → ((byte count : ℕ) → AreBytes (byte ∷ []) → IsScan (later byte count))
    → IsScan (escape_then line literal bytes later)
escape_scan line literal [] later h g = tt
escape_scan line literal (b ∷ rest) later h g = escape_found_scan line (escape_of (b ∷ rest)) later
    (escape_byte (b ∷ rest) h) g

-- what a literal stands for so far
abbrev AreBegun : Option OpenLiteral → Type 0
AreBegun None = Unit {0}
AreBegun (Some literal) = AreBytes literal.bytes

more_bytes : (literal : OpenLiteral) (b : ℕ) → AreBytes literal.bytes → AreBytes (b ∷ [])
    → AreBytes (with_byte literal b).bytes
more_bytes literal b h g = bytes_joined h g

one_byte : (b : ℕ) (rest : List ℕ) → AreBytes (b ∷ rest) → AreBytes (b ∷ [])
one_byte b rest h = with_first (first_byte h) no_bytes

module _ (later : Option OpenLiteral → Scan)
    (known : (begun : Option OpenLiteral) → AreBegun begun → IsScan (later begun)) (line : SourceLine) where
  mutual
    unfolding bytes_from

    between_scan : (is_first : Bool) (taken : ℕ) (bytes : List ℕ) → AreBytes bytes
        → IsScan (bytes_from later line (Between is_first) taken bytes)
    between_scan is_first taken [] h = known None tt
    between_scan is_first (suc taken) (b ∷ rest) h = between_scan is_first taken rest (other_bytes h)
    between_scan is_first zero (b ∷ rest) h =
        scan_chosen (is_space b) _ _ (between_scan is_first zero rest (other_bytes h))
        (scan_chosen (begins_comment b) _ _ (known None tt)
        (scan_chosen (is_quote b) _ _ (inside_scan (open_literal line is_first b) zero rest no_bytes (other_bytes h))
        (token_scan line is_first (first_of (b ∷ rest))
        (λ count. bytes_from later line (Between false) (count - 1) rest)
        (first_found (b ∷ rest) h) (λ count. between_scan false (count - 1) rest (other_bytes h)))))

    inside_scan : (literal : OpenLiteral) (taken : ℕ) (bytes : List ℕ) → AreBytes literal.bytes → AreBytes bytes
        → IsScan (bytes_from later line (Inside literal) taken bytes)
    inside_scan literal taken [] l h = tt
    inside_scan literal (suc taken) (b ∷ rest) l h = inside_scan literal taken rest l (other_bytes h)
    inside_scan literal zero (b ∷ rest) l h =
        scan_chosen (b == literal.quote) _ _ (closed_scan literal _ l
        (between_scan false zero rest (other_bytes h)))
        (scan_chosen (b == 92) _ _
        (escape_scan line literal rest (λ byte count. bytes_from later line
        (Inside (with_byte literal byte)) count rest) (other_bytes h)
        (λ byte count one. inside_scan (with_byte literal byte) count rest (more_bytes literal byte l one)
        (other_bytes h)))
        (scan_chosen (b == 95 && is_nothing rest) _ _ (known (Some literal) l)
        (inside_scan (with_byte literal b) zero rest (more_bytes literal b l (one_byte b rest h))
        (other_bytes h))))

line_scan : (later : Option OpenLiteral → Scan) → ((begun : Option OpenLiteral) → AreBegun begun → IsScan (later begun))
    → (line : SourceLine) → AreBytes line.bytes → (begun : Option OpenLiteral) → AreBegun begun
    → IsScan (line_from later line begun)
line_scan later known line h None l = between_scan later known line true zero line.bytes h
line_scan later known line h (Some literal) l =
    inside_scan later known line literal zero (after_blanks line.bytes) l
    (bytes_dropped (prefix_len is_blank line.bytes) line.bytes h)

lines_scan : (lines : List SourceLine) → lines_are_of_bytes lines ≡ true → (begun : Option OpenLiteral)
    → AreBegun begun → IsScan (lines_from lines begun)
unfolding lines_from
lines_scan [] h None l = tt
lines_scan [] h (Some literal) l = tt
lines_scan (line ∷ lines) h begun l =
    let parts = and_parts (line_is_of_bytes line) (lines_are_of_bytes lines) h in
    line_scan (λ begun. lines_from lines begun) (λ begun k. lines_scan lines parts.1 begun k) line
    (record { are = parts.0 }) begun l

-- Outcomes

semicolon_between : (test : Bool) (token : Token) (rest : List Token) → tokens_are_of_bytes rest ≡ true
    → tokens_are_of_bytes (cond test (semicolon_at token ∷ []) [] ++ rest) ≡ true
semicolon_between true token rest h = h
semicolon_between false token rest h = h

with_semicolons_are : (pieces : List LineToken) → ArePieces pieces
    → tokens_are_of_bytes (with_semicolons pieces) ≡ true
with_semicolons_are [] h = refl
with_semicolons_are (a ∷ []) h = and_from _ _ h.0 refl
with_semicolons_are (a ∷ b ∷ rest) h = and_from _ _ h.0
    (semicolon_between (b.is_first && is_ender a.token.kind && is_beginner b.token.kind) a.token
    (with_semicolons (b ∷ rest))
    (with_semicolons_are (b ∷ rest) h.1))

tokens_in : Tokenized → List Token
tokens_in (Scanned tokens) = tokens
tokens_in (Fault rule file line) = []

scanned_are : (scan : Scan) (tokens : List Token) → IsScan scan → finish_scan scan ≡ Scanned tokens
    → tokens_are_of_bytes tokens ≡ true
unfolding tokens_in
scanned_are (Found pieces) tokens h e = subst (λ (found : List Token). tokens_are_of_bytes found ≡ true)
    (ap tokens_in e) (with_semicolons_are pieces h)
scanned_are (Broken rule line file) tokens h e = absurd (cc)

-- the tokens of lines that are bytes
pub tokens_are_bytes : (lines : List SourceLine) (tokens : List Token) → lines_are_of_bytes lines ≡ true
    → tokens_of lines ≡ Scanned tokens
    → tokens_are_of_bytes tokens ≡ true
unfolding tokens_of
tokens_are_bytes lines tokens h e = scanned_are (lines_from lines None) tokens (lines_scan lines h None tt) e
