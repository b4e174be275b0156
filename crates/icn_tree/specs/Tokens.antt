-- The tokens of the lines of a program text, or the first fault among them.
use Rattle.std.specs.Prelude.{◌==◌, ℕ, ◌-◌, zero, suc, Bool, true, false, ◌&&◌, nat_le, List, [], ◌∷◌, length, take, drop, Option, Some, None, Result, Ok, Err, if◌then◌else◌}
use Rattle.std.specs.List.{list_all, prefix_len}
use Rattle.std.specs.Option.{option_map}
use Rattle.icn_profile.specs.Bytes.{backslash, full_stop, underscore}
use Rattle.icn_profile.specs.Numbers.{most_bytes_of_name}
use Rattle.icn_tree.specs.declared.lines.SourceLine.{SourceLine}
use Rattle.icn_tree.specs.declared.rule.Rule.{Rule}
use Rattle.icn_tree.specs.declared.rule.Rule.TheVariants.{L1, L2, L3, L6, L7}
use Rattle.icn_tree.specs.declared.token.Kind.{Kind}
use Rattle.icn_tree.specs.declared.token.Kind.TheVariants.{Operator}
use Rattle.icn_tree.specs.declared.token.Operator.TheVariants.{Dot}
use Rattle.icn_tree.specs.declared.token.Token.{Token}
use Rattle.icn_tree.specs.Characters.{is_space, is_blank, begins_comment, begins_identifier, is_digit, continues_identifier, is_quote}
use Rattle.icn_tree.specs.Literals.{OpenLiteral, with_byte, literal_kind, escape_of}
use Rattle.icn_tree.specs.IntegerLiterals.{is_nothing, number, within_size}
use Rattle.icn_tree.specs.Semicolons.{LineToken, with_semicolons}
use Rattle.icn_tree.specs.Spellings.{lookup_text, name_of, marks_of}

-- One token, where no literal begins

-- a letter or an underscore and what goes on with it
abbrev pub name : ℕ → List ℕ → Option (Result Kind Rule)
name b rest =
    if list_all continues_identifier rest then Some (within_size (b ∷ rest) (Ok (name_of (b ∷ rest))))
    else None

-- a dot, which with a digit behind it begins a number that is not whole
abbrev pub dot_number : List ℕ → Option (Result Kind Rule)
dot_number [] = Some (Ok (Operator Dot))
dot_number (b ∷ []) = if is_digit b then Some (Err L6) else None
dot_number (b ∷ c ∷ rest) = None

-- the operator or the mark that some bytes spell, if they spell one
abbrev pub mark : ℕ → List ℕ → Option (Result Kind Rule)
mark b rest = option_map (λ kind. Ok kind) (lookup_text (marks_of b) (b ∷ rest))

-- what the bytes are, all of them taken as one: a token, or one that breaks a rule
unfoldable pub one_token : List ℕ → Option (Result Kind Rule)
one_token [] = None
one_token (b ∷ rest) =
    if begins_identifier b then name b rest
    else (if is_digit b then number (b ∷ rest) else (if b == full_stop then dot_number rest else mark b rest))

-- this one where it is there, with its length; else the shorter one
abbrev pub longer : Option (Result Kind Rule) → ℕ → Option (Result Kind Rule × ℕ)
    → Option (Result Kind Rule × ℕ)
longer (Some sense) count shorter = Some (sense, count)
longer None count shorter = shorter

-- the longest front of at most so many bytes that is something: what it is, and how many bytes it has
abbrev pub longest : (List ℕ → Option (Result Kind Rule)) → ℕ → List ℕ → Option (Result Kind Rule × ℕ)
longest sense zero bytes = None
longest sense (suc n) bytes = longer (sense (take (suc n) bytes)) (suc n) (longest sense n bytes)

-- where no front is, the first byte begins no token
abbrev pub front_token : Option (Result Kind Rule × ℕ) → Result (Kind × ℕ) Rule
front_token None = Err L1
front_token (Some (Ok kind, count)) = Ok (kind, count)
front_token (Some (Err rule, count)) = Err rule

-- the token at the front of the bytes, the longest that fits, with the number of its bytes
unfoldable pub first_of : List ℕ → Result (Kind × ℕ) Rule
first_of bytes = front_token (longest one_token (length bytes) bytes)

-- All tokens

-- the tokens from some place on, or the first fault
pub data Scan : Type 0 where
  Found : List LineToken → Scan
  Broken : Rule → (line file : ℕ) → Scan

-- a piece in front of others
abbrev pub before : LineToken → Scan → Scan
before piece (Found pieces) = Found (piece ∷ pieces)
before piece (Broken rule line file) = Broken rule line file

-- a token that begins on a line
abbrev pub piece_on : SourceLine → Bool → Kind → LineToken
piece_on line is_first kind =
    record { token = record { kind = kind; line = line.number; file = line.file }; is_first = is_first }

-- a token, and what the bytes behind it give
abbrev pub token_then : SourceLine → Bool → Result (Kind × ℕ) Rule → (ℕ → Scan) → Scan
token_then line is_first (Ok first) later = before (piece_on line is_first first.0) (later first.1)
token_then line is_first (Err rule) later = Broken rule line.number line.file

-- a literal that begins with a quote on a line
abbrev pub open_literal : SourceLine → Bool → ℕ → OpenLiteral
open_literal line is_first quote =
    record { quote = quote; bytes = []; line = line.number; file = line.file; is_first = is_first }

-- a literal that is not closed before the end of the file
abbrev pub unclosed_literal : OpenLiteral → Scan
unclosed_literal literal = Broken L2 literal.line literal.file

-- the piece of a literal that is closed
abbrev pub literal_piece : OpenLiteral → LineToken
literal_piece literal = record {
  token =
      record { kind = literal_kind literal.quote literal.bytes; line = literal.line; file = literal.file };
  is_first = literal.is_first;
}

-- a literal at its closing quote, and what the bytes behind it give
abbrev pub closed_then : OpenLiteral → Scan → Scan
closed_then literal later =
    if nat_le (length literal.bytes) most_bytes_of_name then before (literal_piece literal) later
    else Broken L7 literal.line literal.file

-- an escape by the bytes behind its backslash, and what the bytes behind it give
abbrev pub escape_found : SourceLine → Option (ℕ × ℕ) → (ℕ → ℕ → Scan) → Scan
escape_found line None later = Broken L3 line.number line.file
escape_found line (Some found) later = later found.0 found.1

-- an escape of a literal, and what comes behind it; a backslash at the end of the file leaves the literal open
abbrev pub escape_then : SourceLine → OpenLiteral → List ℕ → (ℕ → ℕ → Scan) → Scan
escape_then line literal [] later = unclosed_literal literal
escape_then line literal (b ∷ rest) later = escape_found line (escape_of (b ∷ rest)) later

-- what comes next: a token, which is the first on its line or not, or more of a literal
pub data ScanState : Type 0 where
  Between : Bool → ScanState
  Inside : OpenLiteral → ScanState

-- What the rest of a line gives, before what later lines give. So many of its first bytes belong to what was read. A
-- literal goes on over the line's end where its last byte is a `_` of its own.
unfoldable pub bytes_from : (Option OpenLiteral → Scan) → SourceLine → ScanState → ℕ → List ℕ → Scan
bytes_from later line (Between is_first) taken [] = later None
bytes_from later line (Inside literal) taken [] = unclosed_literal literal
bytes_from later line state (suc taken) (b ∷ rest) = bytes_from later line state taken rest
bytes_from later line (Between is_first) zero (b ∷ rest) =
    if is_space b then bytes_from later line (Between is_first) zero rest
    else (if begins_comment b then later None
    else (if is_quote b then bytes_from later line (Inside (open_literal line is_first b)) zero rest
    else token_then line is_first (first_of (b ∷ rest))
    (λ count. bytes_from later line (Between false) (count - 1) rest)))
bytes_from later line (Inside literal) zero (b ∷ rest) =
    if b == literal.quote then closed_then literal (bytes_from later line (Between false) zero rest)
    else (if b == backslash then escape_then line literal rest
    (λ byte count. bytes_from later line (Inside (with_byte literal byte)) count rest)
    else (if b == underscore && is_nothing rest then later (Some literal)
    else bytes_from later line (Inside (with_byte literal b)) zero rest))

-- what stands behind the blanks at the start
abbrev pub after_blanks : List ℕ → List ℕ
after_blanks bytes = drop (prefix_len is_blank bytes) bytes

-- what a line gives, before what later lines give: a literal goes on from the line before, or none does
abbrev pub line_from : (Option OpenLiteral → Scan) → SourceLine → Option OpenLiteral → Scan
line_from later line None = bytes_from later line (Between true) zero line.bytes
line_from later line (Some literal) = bytes_from later line (Inside literal) zero (after_blanks line.bytes)

-- the pieces of lines, where a literal may be open from the line before
unfoldable pub lines_from : List SourceLine → Option OpenLiteral → Scan
lines_from [] None = Found []
lines_from [] (Some literal) = unclosed_literal literal
lines_from (line ∷ lines) begun = line_from (λ literal. lines_from lines literal) line begun

-- the tokens with their semicolons, or the first fault: its rule, file and line
pub data Tokenized : Type 0 where
  Scanned : List Token → Tokenized
  Fault : Rule → (file line : ℕ) → Tokenized

-- the tokens of pieces, with the semicolons between them
abbrev pub finish_scan : Scan → Tokenized
finish_scan (Found pieces) = Scanned (with_semicolons pieces)
finish_scan (Broken rule line file) = Fault rule file line

-- the tokens of all lines, or the first rule that is broken, with its file and line
unfoldable pub tokens_of : List SourceLine → Tokenized
tokens_of lines = finish_scan (lines_from lines None)
