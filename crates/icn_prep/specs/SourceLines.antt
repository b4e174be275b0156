-- The lines that a named file gives.
use Rattle.std.specs.Prelude.{ℕ, zero, suc, Bool, true, false, List, [], ◌∷◌, ◌++◌, Option, None, Some, is_some, Result, Ok, Err, if◌then◌else◌, not, nat_lt, length, slice_index_or}
use Rattle.std.specs.Str.{bytes_eq}
use Rattle.icn_profile.specs.Numbers.{most_bytes_of_source}
use Rattle.icn_host.specs.FileMaps.{FileMap}
use Rattle.icn_tree.specs.SourceTexts.{joined_len}
use Rattle.icn_tree.specs.declared.lines.SourceLine.{SourceLine}
use Rattle.icn_tree.specs.declared.rule.Rule.{Rule}
use Rattle.icn_tree.specs.declared.rule.Rule.TheVariants.{P1, P2, P3, P4, P5, P6, P7, P8, P9}
use Rattle.icn_prep.specs.declared.fault.PrepFault.{PrepFault}
use Rattle.icn_prep.specs.declared.fault.PrepFault.TheVariants.{Missing, Broken}
use Rattle.icn_prep.specs.declared.keyword.DirectiveName.{DirectiveName}
use Rattle.icn_prep.specs.declared.keyword.DirectiveName.TheVariants.{Define, Undef, Include, Ifdef, Ifndef, Else, Endif, Line, Error}
use Rattle.icn_prep.specs.declared.literal.LiteralState.{LiteralState}
use Rattle.icn_prep.specs.declared.literal.LiteralState.TheVariants.{Outside}
use Rattle.icn_prep.specs.declared.cursor.Conditional.{Conditional}
use Rattle.icn_prep.specs.Conditionals.{open_conditional, other_part, close_conditional}
use Rattle.icn_prep.specs.Directives.{is_directive, directive_name, operand, keyword_of}
use Rattle.icn_prep.specs.FileLines.{lines_of}
use Rattle.icn_prep.specs.LiteralStates.{next_line_state}
use Rattle.icn_prep.specs.Operands.{is_empty, name_operand, define_operand, file_operand, line_operand}
use Rattle.icn_prep.specs.RefusedSteps.{◌>>=◌}
use Rattle.icn_prep.specs.Cursors.{Cursor, start_of, next_line}
use Rattle.icn_prep.specs.Replacement.{replace_words, ReplacedText}
use Rattle.icn_prep.specs.DefinedNames.{Texts, no_texts, with_text, without_text}

-- What reading has come to: the names of files in the order in which they were met, the lines given so far, the names that are
-- defined, and how the next line begins. A line has its file by the index of the name.
pub record LineState : Type 0 where
  pub names : List (List ℕ)
  pub lines : List SourceLine
  pub texts : Texts
  pub literal : LiteralState

-- what reading has come to before the first line of the named file
abbrev pub first_state : LineState
first_state = record { names = []; lines = []; texts = no_texts; literal = Outside }

-- what reading has come to, or why it has ended
abbrev pub Preprocessed : Type 0
Preprocessed = Result LineState PrepFault

-- what comes of one line: what reading has come to, and where in the file it goes on
abbrev pub Step : Type 0
Step = Result (LineState × Cursor) PrepFault

-- what comes of a directive that includes a file of this name
abbrev pub IncludeStep : Type 0
IncludeStep = List ℕ → LineState → Cursor → Preprocessed

-- the name of a file, by its number
abbrev pub name_at : LineState → ℕ → List ℕ
name_at s file = slice_index_or s.names file []

-- a rule is broken in the line at the cursor
abbrev pub refuse : {A : Type 0} → LineState → Cursor → Rule → Result A PrepFault
refuse s cursor rule = Err (Broken rule (name_at s cursor.file) cursor.line)

-- the lines given so far with one more, unless they are too long then
abbrev pub given_more : LineState → LiteralState → List SourceLine → Preprocessed
given_more s literal lines =
    if nat_lt most_bytes_of_source (joined_len lines) then Err (Broken P9 (name_at s 0) 0)
    else Ok (record s { lines = lines; literal = literal })

-- one line more is given, of these bytes, with its file and number; the next one begins in this literal state
abbrev pub give_line : LineState → Cursor → List ℕ → LiteralState → Preprocessed
give_line s cursor bytes literal =
    given_more s literal
    (s.lines ++ (record { bytes = bytes; file = cursor.file; number = cursor.line }) ∷ [])

-- an empty line is given
abbrev pub left_empty : LineState → Cursor → Preprocessed
left_empty s cursor = give_line s cursor [] Outside

-- an empty line is given, and reading goes on at this cursor
abbrev pub pass_line : LineState → Cursor → Cursor → Step
pass_line s cursor onward = left_empty s cursor >>= λ s'. Ok (s', onward)

-- a line that is no directive
abbrev pub text_line : LineState → Cursor → ReplacedText → Step
text_line s cursor read =
    give_line s cursor read.bytes (next_line_state read.state) >>= λ s'. Ok (s', next_line cursor)

-- $define
abbrev pub define_again : LineState → Cursor → List ℕ → List ℕ → Option (List ℕ) → Step
define_again s cursor name text None =
    pass_line (record s { texts = with_text s.texts name text }) cursor (next_line cursor)
define_again s cursor name text (Some old) =
    if bytes_eq old text then pass_line s cursor (next_line cursor) else refuse s cursor P5

-- $define by its operand, a name with its text: P2 where it has another form
abbrev pub define_line : LineState → Cursor → Option (List ℕ × List ℕ) → Step
define_line s cursor None = refuse s cursor P2
define_line s cursor (Some named) = define_again s cursor named.0 named.1 (s.texts.text_of named.0)

-- $undef
abbrev pub undef_line : LineState → Cursor → Option (List ℕ) → Step
undef_line s cursor None = refuse s cursor P2
undef_line s cursor (Some name) =
    pass_line (record s { texts = without_text s.texts name }) cursor (next_line cursor)

-- $include
abbrev pub include_line : IncludeStep → LineState → Cursor → Option (List ℕ) → Step
include_line includes s cursor None = refuse s cursor P2
include_line includes s cursor (Some name) = includes name s cursor >>= λ s'. Ok (s', next_line cursor)

-- $ifdef and $ifndef, which choose the part behind them where the name has a text, or has none
abbrev pub if_line : LineState → Cursor → Bool → Option (List ℕ) → Step
if_line s cursor wanted None = refuse s cursor P2
if_line s cursor wanted (Some name) =
    pass_line s cursor (next_line (open_conditional cursor (if wanted then is_some (s.texts.text_of name)
    else not (is_some (s.texts.text_of name)))))

-- $else
abbrev pub else_line : LineState → Cursor → List Conditional → Step
else_line s cursor [] = refuse s cursor P3
else_line s cursor (innermost ∷ others) =
    if innermost.in_else then refuse s cursor P3
    else pass_line s cursor (next_line (other_part cursor innermost others))

-- $endif
abbrev pub endif_line : LineState → Cursor → List Conditional → Step
endif_line s cursor [] = refuse s cursor P3
endif_line s cursor (innermost ∷ others) =
    pass_line s cursor (next_line (close_conditional cursor innermost others))

-- $line: the next line has this number, and from there on the file may have another name
abbrev pub renumber : LineState → Cursor → ℕ → Option (List ℕ) → Step
renumber s cursor number None = pass_line s cursor (record cursor { line = number })
renumber s cursor number (Some name) =
    pass_line (record s { names = s.names ++ name ∷ [] }) cursor
    (record cursor { file = length s.names; line = number })

-- $line by its operand, a number and perhaps a name: P2 where it has another form
abbrev pub line_line : LineState → Cursor → Option (ℕ × Option (List ℕ)) → Step
line_line s cursor None = refuse s cursor P2
line_line s cursor (Some numbered) = renumber s cursor numbered.0 numbered.1

-- what is looked at only where it is taken
abbrev pub where_taken : LineState → Cursor → Step → Step
where_taken s cursor step = if cursor.taken then step else pass_line s cursor (next_line cursor)

-- one case for each directive
abbrev pub directive_line : IncludeStep → LineState → Cursor → Option DirectiveName → List ℕ → Step
directive_line includes s cursor None text = where_taken s cursor (refuse s cursor P1)
directive_line includes s cursor (Some Define) text =
    where_taken s cursor (define_line s cursor (define_operand text))
directive_line includes s cursor (Some Undef) text =
    where_taken s cursor (undef_line s cursor (name_operand text))
directive_line includes s cursor (Some Include) text =
    where_taken s cursor (include_line includes s cursor (file_operand text))
directive_line includes s cursor (Some Ifdef) text = if_line s cursor true (name_operand text)
directive_line includes s cursor (Some Ifndef) text = if_line s cursor false (name_operand text)
directive_line includes s cursor (Some Else) text =
    if is_empty text then else_line s cursor cursor.conditionals else refuse s cursor P2
directive_line includes s cursor (Some Endif) text =
    if is_empty text then endif_line s cursor cursor.conditionals else refuse s cursor P2
directive_line includes s cursor (Some Line) text =
    where_taken s cursor (line_line s cursor (line_operand text))
directive_line includes s cursor (Some Error) text = where_taken s cursor (refuse s cursor P8)

-- what comes of one line: a directive is done; another line is given with its words replaced, where it is taken
abbrev pub line_read : IncludeStep → LineState → Cursor → List ℕ → Step
line_read includes s cursor line =
    if is_directive s.literal line
    then directive_line includes s cursor (keyword_of (directive_name line)) (operand line)
    else where_taken s cursor
    (text_line s cursor (replace_words s.texts.count s.texts.text_of s.literal line))

-- a file ends, and closes what it began
abbrev pub end_file : LineState → List Conditional → Preprocessed
end_file s [] = Ok s
end_file s (innermost ∷ others) = Err (Broken P4 (name_at s innermost.file) innermost.line)

-- what comes of the lines up to the end of their file
abbrev pub lines_read : IncludeStep → LineState → Cursor → List (List ℕ) → Preprocessed
lines_read includes s cursor [] = end_file s cursor.conditionals
lines_read includes s cursor (line ∷ rest) =
    line_read includes s cursor line >>= λ after. lines_read includes after.0 after.1 rest

-- a file of this name and content, with a name of its own from the start
abbrev pub file_read : IncludeStep → List ℕ → LineState → List ℕ → Preprocessed
file_read includes name s bytes = lines_read includes (record s { names = s.names ++ name ∷ [] })
    (start_of (length s.names)) (lines_of bytes)

-- unless the file is too long
abbrev pub unless_long : List ℕ → List ℕ → Preprocessed → Preprocessed
unless_long name bytes outcome =
    if nat_lt most_bytes_of_source (length bytes) then Err (Broken P9 name 0) else outcome

-- the line that includes a file is left empty, and the lines of the file stand behind it
abbrev pub include_read : IncludeStep → List ℕ → LineState → Cursor → List ℕ → Preprocessed
include_read includes name s cursor bytes =
    unless_long name bytes (left_empty s cursor >>= λ s'. file_read includes name s' bytes)

-- no deeper file is read
abbrev pub too_deep : List ℕ → LineState → Cursor → Option (List ℕ) → Preprocessed
too_deep name s cursor None = refuse s cursor P6
too_deep name s cursor (Some bytes) = refuse s cursor P7

-- the lines of an included file come next: P6 where it is not there
abbrev pub include_found : IncludeStep → List ℕ → LineState → Cursor → Option (List ℕ) → Preprocessed
include_found includes name s cursor None = refuse s cursor P6
include_found includes name s cursor (Some bytes) = include_read includes name s cursor bytes

-- what including gives where files may still include one another so many levels deep
abbrev pub include_file : FileMap → ℕ → IncludeStep
include_file files zero name s cursor = too_deep name s cursor (files name)
include_file files (suc n) name s cursor = include_found (include_file files n) name s cursor (files name)

-- the named file with all that it includes, at most 32 levels deep
abbrev pub named_file : FileMap → List ℕ → Option (List ℕ) → Preprocessed
named_file files name None = Err Missing
named_file files name (Some bytes) =
    unless_long name bytes (file_read (include_file files 32) name first_state bytes)

-- what a named file gives: the names of files in the order in which they were met, the named one first, and the lines
pub record PreprocessedSource : Type 0 where
  pub names : List (List ℕ)
  pub lines : List SourceLine

-- what reading the named file has come to, at its end
abbrev pub source_of : Preprocessed → Result PreprocessedSource PrepFault
source_of (Ok s) = Ok (record { names = s.names; lines = s.lines })
source_of (Err fault) = Err fault

-- What the named file gives: its lines in order, each with the index of its file's name and its number there, or the first rule
-- that is broken, with the file and the line, or that it isn't there.
abbrev pub source_lines : FileMap → List ℕ → Result PreprocessedSource PrepFault
source_lines files name = source_of (named_file files name (files name))
