-- How the bytes of a line stand to literals and comments.
use Rattle.std.specs.Prelude.{ℕ, Bool, if◌then◌else◌, ◌==◌, ◌||◌}
use Rattle.icn_profile.specs.Bytes.{backslash, caret, double_quote, number_sign, single_quote, underscore}
use Rattle.icn_prep.specs.declared.literal.LiteralState.{LiteralState}
use Rattle.icn_prep.specs.declared.literal.LiteralState.TheVariants.{Outside, Inside, Joining, Escape, Control, Comment}

-- behind a byte in a literal of this quote
abbrev pub after_in_literal : ℕ → ℕ → LiteralState
after_in_literal quote b =
    if b == quote then Outside
    else (if b == backslash then Escape quote else (if b == underscore then Joining quote else Inside quote))

-- behind a byte
abbrev pub after : LiteralState → ℕ → LiteralState
after Outside b = if b == number_sign then Comment
    else (if (b == double_quote) || (b == single_quote) then Inside b else Outside)
after (Inside quote) b = after_in_literal quote b
after (Joining quote) b = after_in_literal quote b
after (Escape quote) b = if b == caret then Control quote else Inside quote
after (Control quote) b = Inside quote
after Comment b = Comment

-- the same where a backslash is a byte like another
abbrev pub without_escape : LiteralState → LiteralState
without_escape (Escape quote) = Inside quote
without_escape Outside = Outside
without_escape (Inside quote) = Inside quote
without_escape (Joining quote) = Joining quote
without_escape (Control quote) = Control quote
without_escape Comment = Comment

-- behind a byte of a directive's operand, where a name has no escapes
abbrev pub after_in : Bool → LiteralState → ℕ → LiteralState
after_in is_name state b = if is_name then without_escape (after state b) else after state b

-- where the next line begins: inside a literal where this one ended with an underscore that joins them, else outside
abbrev pub next_line_state : LiteralState → LiteralState
next_line_state (Joining quote) = Inside quote
next_line_state Outside = Outside
next_line_state (Inside quote) = Outside
next_line_state (Escape quote) = Outside
next_line_state (Control quote) = Outside
next_line_state Comment = Outside
