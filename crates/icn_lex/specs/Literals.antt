-- The literal that an opening and bytes are, and what the rest of a line gives inside it, whatever later lines give.
use Rattle.std.specs.Prelude.{ℕ, zero, Bool, List, Option}
use Rattle.icn_tree.specs.declared.lines.SourceLine.{SourceLine}
use Rattle.icn_tree.specs.Literals.{OpenLiteral, with_byte}
use Rattle.icn_tree.specs.Tokens.{Scan, Inside, Between, bytes_from, escape_then, line_from}
use Rattle.icn_lex.specs.declared.literals.Opening.{Opening}

-- the literal with this opening and these bytes so far
abbrev pub literal_of : Opening → List ℕ → OpenLiteral
literal_of opening bytes = record {
  quote = opening.quote;
  bytes = bytes;
  line = opening.line;
  file = opening.file;
  is_first = opening.is_first;
}

-- what the later lines give, by the literal that is open at the end of this line
abbrev pub Later : Type 0
Later = Option OpenLiteral → Scan

-- what a line gives from here on inside a literal, before these later lines
abbrev pub scan_inside : SourceLine → OpenLiteral → List ℕ → Later → Scan
scan_inside line literal bytes later = bytes_from later line (Inside literal) zero bytes

-- behind a backslash
abbrev pub scan_escape : SourceLine → OpenLiteral → List ℕ → Later → Scan
scan_escape line literal bytes later = escape_then line literal bytes
    (λ byte count. bytes_from later line (Inside (with_byte literal byte)) count bytes)

-- what the rest of a line gives, between tokens
abbrev pub scan_text : SourceLine → Bool → List ℕ → Later → Scan
scan_text line is_first bytes later = bytes_from later line (Between is_first) zero bytes

-- what a line gives, inside a literal that was begun before it or not
abbrev pub scan_line : SourceLine → Option OpenLiteral → Later → Scan
scan_line line begun later = line_from later line begun
