-- The faults that the definition gives.
use Rattle.std.proofs.Common.{◌≡◌, ℕ, zero, suc, Bool, true, false, cond, List, [], ◌∷◌, ◌++◌, nat_lt, length, Option, None, Some, Result, Ok, Err, subst}
use Rattle.std.specs.Prelude.{MatchResult}
use Rattle.icn_host.specs.FileMaps.{FileMap}
use Rattle.icn_tree.specs.declared.rule.Rule.{Rule}
use Rattle.icn_tree.specs.declared.rule.Rule.TheVariants.{P9}
use Rattle.icn_tree.specs.SourceTexts.{joined_len}
use Rattle.icn_prep.specs.declared.fault.PrepFault.{PrepFault}
use Rattle.icn_prep.specs.declared.fault.PrepFault.TheVariants.{Broken}
use Rattle.icn_prep.specs.declared.keyword.DirectiveName.{DirectiveName}
use Rattle.icn_prep.specs.declared.keyword.DirectiveName.TheVariants.{Define, Undef, Include, Ifdef, Ifndef, Else, Endif, Line, Error}
use Rattle.icn_prep.specs.declared.literal.LiteralState.{LiteralState}
use Rattle.icn_prep.specs.declared.cursor.Conditional.{Conditional}
use Rattle.icn_prep.specs.Answers.{IsTextFault}
use Rattle.icn_prep.specs.Directives.{is_directive, directive_name, operand, keyword_of}
use Rattle.icn_prep.specs.FileLines.{lines_of}
use Rattle.icn_prep.specs.LiteralStates.{next_line_state}
use Rattle.icn_prep.specs.Operands.{is_empty, name_operand, define_operand, file_operand, line_operand}
use Rattle.icn_prep.specs.RefusedSteps.{◌>>=◌}
use Rattle.icn_prep.specs.Cursors.{Cursor, start_of, next_line}
use Rattle.icn_prep.specs.Replacement.{ReplacedText, replace_words}
use Rattle.icn_prep.specs.DefinedNames.{with_text, without_text}
use Rattle.icn_prep.specs.SourceLines.{LineState, Preprocessed, Step, first_state, name_at, IncludeStep, give_line, left_empty, pass_line, text_line, define_again, define_line, undef_line, include_line, if_line, else_line, endif_line, renumber, line_line, where_taken, directive_line, line_read, end_file, lines_read, file_read, too_deep, include_found, include_file, named_file, source_of, source_lines}

-- the outcome is no fault but one of the text
record OfText {A : Type 0} (outcome : Result A PrepFault) : Type 0 where
  fault : MatchResult outcome (λ _. Unit {0}) IsTextFault

plain : {A : Type 0} (a : A) → OfText (let outcome : Result A PrepFault = Ok a in outcome)
plain a = record { fault = tt }

breaks : {A : Type 0} (rule : Rule) (file : List ℕ) (line : ℕ) → OfText (let outcome : Result A PrepFault = Err (Broken rule file line) in outcome)
breaks rule file line = record { fault = tt }

abbrev IncludesText : IncludeStep → Type 0
IncludesText includes = (name : List ℕ) (s : LineState) (cursor : Cursor) → OfText (includes name s cursor)

then_text : {A B : Type 0} (a : Result A PrepFault) (f : A → Result B PrepFault) → OfText a → ((x : A) → OfText (f x)) → OfText (a >>= f)
then_text (Ok a) f h g = g a
then_text (Err e) f h g = record { fault = h.fault }

either : {A : Type 0} (b : Bool) (x y : Result A PrepFault) → OfText x → OfText y → OfText (cond b x y)
either true x y h g = h
either false x y h g = g

given_text : (s : LineState) (cursor : Cursor) (bytes : List ℕ) (literal : LiteralState) → OfText (give_line s cursor bytes literal)
given_text s cursor bytes literal =
    given_by (nat_lt 16777216 (joined_len (s.lines ++ (record { bytes = bytes; file = cursor.file; number = cursor.line }) ∷ [])))
  where
    given_by : (b : Bool) → OfText (cond b (Err (Broken P9 (name_at s 0) 0))
        (Ok (record s { lines = s.lines ++ (record { bytes = bytes; file = cursor.file; number = cursor.line }) ∷ []; literal = literal })))
    given_by true = breaks P9 (name_at s 0) 0
    given_by false = plain _

passed_text : (s : LineState) (cursor onward : Cursor) → OfText (pass_line s cursor onward)
passed_text s cursor onward = then_text (left_empty s cursor) _ (given_text s cursor [] _) (λ s'. plain _)

taken_text : (s : LineState) (cursor : Cursor) (step : Step) → OfText step → OfText (where_taken s cursor step)
taken_text s cursor step h = either cursor.taken _ _ h (passed_text s cursor (next_line cursor))

again_text : (s : LineState) (cursor : Cursor) (name text : List ℕ) (old : Option (List ℕ)) → OfText (define_again s cursor name text old)
again_text s cursor name text None = passed_text (record s { texts = with_text s.texts name text }) cursor (next_line cursor)
again_text s cursor name text (Some old) = either _ _ _ (passed_text s cursor (next_line cursor)) (breaks _ _ _)

define_text : (s : LineState) (cursor : Cursor) (named : Option (List ℕ × List ℕ)) → OfText (define_line s cursor named)
define_text s cursor None = breaks _ _ _
define_text s cursor (Some named) = again_text s cursor named.0 named.1 (s.texts.text_of named.0)

undef_text : (s : LineState) (cursor : Cursor) (name : Option (List ℕ)) → OfText (undef_line s cursor name)
undef_text s cursor None = breaks _ _ _
undef_text s cursor (Some name) = passed_text (record s { texts = without_text s.texts name }) cursor (next_line cursor)

include_text : (includes : IncludeStep) → IncludesText includes → (s : LineState) (cursor : Cursor) (name : Option (List ℕ))
    → OfText (include_line includes s cursor name)
include_text includes h s cursor None = breaks _ _ _
include_text includes h s cursor (Some name) = then_text (includes name s cursor) _ (h name s cursor) (λ s'. plain _)

if_text : (s : LineState) (cursor : Cursor) (wanted : Bool) (name : Option (List ℕ)) → OfText (if_line s cursor wanted name)
if_text s cursor wanted None = breaks _ _ _
if_text s cursor wanted (Some name) = passed_text s cursor _

else_text : (s : LineState) (cursor : Cursor) (conditionals : List Conditional) → OfText (else_line s cursor conditionals)
else_text s cursor [] = breaks _ _ _
else_text s cursor (innermost ∷ others) = either innermost.in_else _ _ (breaks _ _ _) (passed_text s cursor _)

endif_text : (s : LineState) (cursor : Cursor) (conditionals : List Conditional) → OfText (endif_line s cursor conditionals)
endif_text s cursor [] = breaks _ _ _
endif_text s cursor (innermost ∷ others) = passed_text s cursor _

renumbered_text : (s : LineState) (cursor : Cursor) (number : ℕ) (name : Option (List ℕ)) → OfText (renumber s cursor number name)
renumbered_text s cursor number None = passed_text s cursor (record cursor { line = number })
renumbered_text s cursor number (Some name) =
    passed_text (record s { names = s.names ++ name ∷ [] }) cursor (record cursor { file = length s.names; line = number })

line_text : (s : LineState) (cursor : Cursor) (numbered : Option (ℕ × Option (List ℕ))) → OfText (line_line s cursor numbered)
line_text s cursor None = breaks _ _ _
line_text s cursor (Some numbered) = renumbered_text s cursor numbered.0 numbered.1

directive_text : (includes : IncludeStep) → IncludesText includes → (s : LineState) (cursor : Cursor) (keyword : Option DirectiveName) (text : List ℕ)
    → OfText (directive_line includes s cursor keyword text)
directive_text includes h s cursor None text = taken_text s cursor _ (breaks _ _ _)
directive_text includes h s cursor (Some Define) text = taken_text s cursor _ (define_text s cursor (define_operand text))
directive_text includes h s cursor (Some Undef) text = taken_text s cursor _ (undef_text s cursor (name_operand text))
directive_text includes h s cursor (Some Include) text = taken_text s cursor _ (include_text includes h s cursor (file_operand text))
directive_text includes h s cursor (Some Ifdef) text = if_text s cursor true (name_operand text)
directive_text includes h s cursor (Some Ifndef) text = if_text s cursor false (name_operand text)
directive_text includes h s cursor (Some Else) text = either (is_empty text) _ _ (else_text s cursor cursor.conditionals) (breaks _ _ _)
directive_text includes h s cursor (Some Endif) text = either (is_empty text) _ _ (endif_text s cursor cursor.conditionals) (breaks _ _ _)
directive_text includes h s cursor (Some Line) text = taken_text s cursor _ (line_text s cursor (line_operand text))
directive_text includes h s cursor (Some Error) text = taken_text s cursor _ (breaks _ _ _)

read_text : (includes : IncludeStep) → IncludesText includes → (s : LineState) (cursor : Cursor) (line : List ℕ) → OfText (line_read includes s cursor line)
read_text includes h s cursor line =
    either (is_directive s.literal line) _ _ (directive_text includes h s cursor (keyword_of (directive_name line)) (operand line))
    (taken_text s cursor _ (plain_text (replace_words s.texts.count s.texts.text_of s.literal line)))
  where
    plain_text : (read : ReplacedText) → OfText (text_line s cursor read)
    plain_text read =
        then_text (give_line s cursor read.bytes (next_line_state read.state)) _ (given_text s cursor read.bytes (next_line_state read.state)) (λ s'. plain _)

ended_text : (s : LineState) (conditionals : List Conditional) → OfText (end_file s conditionals)
ended_text s [] = plain _
ended_text s (innermost ∷ others) = breaks _ _ _

lines_text : (includes : IncludeStep) → IncludesText includes → (s : LineState) (cursor : Cursor) (lines : List (List ℕ))
    → OfText (lines_read includes s cursor lines)
lines_text includes h s cursor [] = ended_text s cursor.conditionals
lines_text includes h s cursor (line ∷ rest) =
    then_text (line_read includes s cursor line) _ (read_text includes h s cursor line) (λ after. lines_text includes h after.0 after.1 rest)

file_text : (includes : IncludeStep) → IncludesText includes → (name : List ℕ) (s : LineState) (bytes : List ℕ) → OfText (file_read includes name s bytes)
file_text includes h name s bytes = lines_text includes h (record s { names = s.names ++ name ∷ [] }) (start_of (length s.names)) (lines_of bytes)

deep_text : (name : List ℕ) (s : LineState) (cursor : Cursor) (content : Option (List ℕ)) → OfText (too_deep name s cursor content)
deep_text name s cursor None = breaks _ _ _
deep_text name s cursor (Some bytes) = breaks _ _ _

found_text : (includes : IncludeStep) → IncludesText includes → (name : List ℕ) (s : LineState) (cursor : Cursor) (content : Option (List ℕ))
    → OfText (include_found includes name s cursor content)
found_text includes h name s cursor None = breaks _ _ _
found_text includes h name s cursor (Some bytes) =
    either _ _ _ (breaks _ _ _) (then_text (left_empty s cursor) _ (given_text s cursor [] _) (λ s'. file_text includes h name s' bytes))

included_text : (files : FileMap) (n : ℕ) → IncludesText (include_file files n)
included_text files zero name s cursor = deep_text name s cursor (files name)
included_text files (suc n) name s cursor = found_text (include_file files n) (included_text files n) name s cursor (files name)

named_text : (files : FileMap) (name : List ℕ) (content : Option (List ℕ)) → OfText (named_file files name content)
named_text files name None = record { fault = tt }
named_text files name (Some bytes) = either _ _ _ (breaks _ _ _) (file_text (include_file files 32) (included_text files 32) name first_state bytes)

source_text : (outcome : Preprocessed) (fault : PrepFault) → OfText outcome → source_of outcome ≡ Err fault → IsTextFault fault
source_text (Ok s) fault h is = absurd (let no = is in cc)
source_text (Err e) fault h is = subst IsTextFault (let same : Err e ≡ Err fault = is in cc) h.fault

-- a fault of the definition is that the file is missing, or a broken rule
pub fault_of_text : (files : FileMap) (name : List ℕ) (fault : PrepFault) → source_lines files name ≡ Err fault → IsTextFault fault
fault_of_text files name fault is = source_text (named_file files name (files name)) fault (named_text files name (files name)) is
