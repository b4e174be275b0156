-- Lines that are directives, and their names.
use Rattle.std.specs.Prelude.{ℕ, Bool, true, false, List, [], ◌∷◌, Option, None, Some, if◌then◌else◌, ◌==◌, ◌&&◌, ◌||◌, not, drop, codes}
use Rattle.std.specs.Str.{bytes_eq}
use Rattle.icn_prep.specs.declared.keyword.DirectiveName.{DirectiveName}
use Rattle.icn_prep.specs.declared.keyword.DirectiveName.TheVariants.{Define, Undef, Include, Ifdef, Ifndef, Else, Endif, Line, Error}
use Rattle.icn_prep.specs.declared.literal.LiteralState.{LiteralState}
use Rattle.icn_prep.specs.declared.literal.LiteralState.TheVariants.{Outside, Inside, Joining, Escape, Control, Comment}
use Rattle.icn_prep.specs.LiteralStates.{after_in}
use Rattle.icn_prep.specs.Words.{first_word, behind_word, trim, trimmed_start}

-- `(`, `)`, `<` or `>`: with a `$` before it, it spells a brace or a bracket
abbrev pub is_pair_end : ℕ → Bool
is_pair_end b = (b == 40) || (b == 41) || (b == 60) || (b == 62)

-- the bytes begin with one of these
abbrev pub begins_pair_end : List ℕ → Bool
begins_pair_end [] = false
begins_pair_end (b ∷ rest) = is_pair_end b

-- the bytes begin with a `$` that spells no brace or bracket
abbrev pub begins_directive : List ℕ → Bool
begins_directive [] = false
begins_directive (b ∷ rest) = (b == 36) && not (begins_pair_end rest)

-- the line begins outside of literals, with a `$` that spells no brace or bracket
abbrev pub is_directive : LiteralState → List ℕ → Bool
is_directive Outside line = begins_directive line
is_directive (Inside quote) line = false
is_directive (Joining quote) line = false
is_directive (Escape quote) line = false
is_directive (Control quote) line = false
is_directive Comment line = false

-- what comes next stands in a comment
abbrev pub is_comment : LiteralState → Bool
is_comment Comment = true
is_comment Outside = false
is_comment (Inside quote) = false
is_comment (Joining quote) = false
is_comment (Escape quote) = false
is_comment (Control quote) = false

-- the bytes up to a comment; what has names has no escapes
abbrev pub without_comment : Bool → LiteralState → List ℕ → List ℕ
without_comment is_name state [] = []
without_comment is_name state (b ∷ rest) =
    if is_comment (after_in is_name state b) then []
    else b ∷ without_comment is_name (after_in is_name state b) rest

-- what stands behind the `$` of a directive, without the blanks before its name
abbrev pub directive_text : List ℕ → List ℕ
directive_text line = trimmed_start (drop 1 line)

-- the word behind the `$` of a directive
abbrev pub directive_name : List ℕ → List ℕ
directive_name line = first_word (directive_text line)

-- the directives whose quoted operand is the name of a file
abbrev pub names_file : List ℕ → Bool
names_file name = bytes_eq name (codes "include") || bytes_eq name (codes "line")

-- what stands behind a directive's name, without a comment and the blanks round it
abbrev pub operand : List ℕ → List ℕ
operand line =
    trim (without_comment (names_file (directive_name line)) Outside (behind_word (directive_text line)))

-- the directive of this name, if there is one
abbrev pub keyword_of : List ℕ → Option DirectiveName
keyword_of name =
    if bytes_eq name (codes "define") then Some Define
    else (if bytes_eq name (codes "undef") then Some Undef
    else (if bytes_eq name (codes "include") then Some Include
    else (if bytes_eq name (codes "ifdef") then Some Ifdef
    else (if bytes_eq name (codes "ifndef") then Some Ifndef
    else (if bytes_eq name (codes "else") then Some Else
    else (if bytes_eq name (codes "endif") then Some Endif
    else (if bytes_eq name (codes "line") then Some Line
    else (if bytes_eq name (codes "error") then Some Error
    else None))))))))
