-- A named file gives no more bytes than the scanner takes, whatever it includes.
use Rattle.std.proofs.Common.{◌≡◌, ◌≤◌, ℕ, zero, suc, Bool, true, false, cond, List, [], ◌∷◌, ◌++◌, nat_lt, length, Option, None, Some, Result, Ok, Err, refl, subst, arith}
use Rattle.std.specs.Prelude.{MatchResult}
use Rattle.std.proofs.lemmas.Bool.Decides.{nat_tests}
use Rattle.icn_host.specs.FileMaps.{FileMap}
use Rattle.icn_tree.specs.declared.lines.SourceLine.{SourceLine}
use Rattle.icn_tree.specs.declared.rule.Rule.TheVariants.{P9}
use Rattle.icn_tree.specs.SourceTexts.{joined_len}
use Rattle.icn_prep.specs.declared.fault.PrepFault.{PrepFault}
use Rattle.icn_prep.specs.declared.fault.PrepFault.TheVariants.{Broken}
use Rattle.icn_prep.specs.declared.keyword.DirectiveName.{DirectiveName}
use Rattle.icn_prep.specs.declared.keyword.DirectiveName.TheVariants.{Define, Undef, Include, Ifdef, Ifndef, Else, Endif, Line, Error}
use Rattle.icn_prep.specs.declared.literal.LiteralState.{LiteralState}
use Rattle.icn_prep.specs.declared.cursor.Conditional.{Conditional}
use Rattle.icn_prep.specs.Directives.{is_directive, directive_name, operand, keyword_of}
use Rattle.icn_prep.specs.FileLines.{lines_of}
use Rattle.icn_prep.specs.LiteralStates.{next_line_state}
use Rattle.icn_prep.specs.Operands.{is_empty, name_operand, define_operand, file_operand, line_operand}
use Rattle.icn_prep.specs.RefusedSteps.{◌>>=◌}
use Rattle.icn_prep.specs.Cursors.{Cursor, start_of, next_line}
use Rattle.icn_prep.specs.Replacement.{ReplacedText, replace_words}
use Rattle.icn_prep.specs.DefinedNames.{with_text, without_text}
use Rattle.icn_prep.specs.SourceLines.{LineState, PreprocessedSource, Preprocessed, Step, first_state, name_at, IncludeStep, give_line, given_more, left_empty, pass_line, text_line, define_again, define_line, undef_line, include_line, if_line, else_line, endif_line, renumber, line_line, where_taken, directive_line, line_read, end_file, lines_read, file_read, too_deep, include_found, include_file, named_file, source_of, source_lines}

abbrev Within : LineState → Type 0
Within s = joined_len s.lines ≤ 16777216

-- where reading goes on, the lines given so far are within the bound
record Bounded {A : Type 0} (state : A → LineState) (outcome : Result A PrepFault) : Type 0 where
  lines : MatchResult outcome (λ a. Within (state a)) (λ fault. Unit {0})

abbrev of_outcome : LineState → LineState
of_outcome s = s

abbrev of_step : LineState × Cursor → LineState
of_step after = after.0

breaks : {A : Type 0} {state : A → LineState} (fault : PrepFault) → Bounded state (Err fault)
breaks fault = record { lines = tt }

abbrev IncludesBounded : IncludeStep → Type 0
IncludesBounded includes = (name : List ℕ) (s : LineState) (cursor : Cursor) → Within s → Bounded of_outcome (includes name s cursor)

then_bound : {A B : Type 0} {at : A → LineState} {state : B → LineState} (a : Result A PrepFault) (f : A → Result B PrepFault) → Bounded at a
    → ((x : A) → Within (at x) → Bounded state (f x)) → Bounded state (a >>= f)
then_bound (Ok a) f h g = g a h.lines
then_bound (Err e) f h g = record { lines = tt }

either : {A : Type 0} {state : A → LineState} (b : Bool) (x y : Result A PrepFault) → Bounded state x → Bounded state y → Bounded state (cond b x y)
either true x y h g = h
either false x y h g = g

more_bound : (s : LineState) (literal : LiteralState) (lines : List SourceLine) → Bounded of_outcome (given_more s literal lines)
more_bound s literal lines = by_test (nat_lt 16777216 (joined_len lines)) refl where
  by_test : (b : Bool) → nat_lt 16777216 (joined_len lines) ≡ b
      → Bounded of_outcome (cond b (Err (Broken P9 (name_at s 0) 0)) (Ok (record s { lines = lines; literal = literal })))
  by_test true e = breaks _
  by_test false e = record { lines = grind (arith, nat_tests) }

given_bound : (s : LineState) (cursor : Cursor) (bytes : List ℕ) (literal : LiteralState) → Bounded of_outcome (give_line s cursor bytes literal)
given_bound s cursor bytes literal = more_bound s literal _

passed_bound : (s : LineState) (cursor onward : Cursor) → Bounded of_step (pass_line s cursor onward)
passed_bound s cursor onward = then_bound (left_empty s cursor) _ (given_bound s cursor [] _) (λ s' w. record { lines = w })

taken_bound : (s : LineState) (cursor : Cursor) (step : Step) → Bounded of_step step → Bounded of_step (where_taken s cursor step)
taken_bound s cursor step h = either cursor.taken _ _ h (passed_bound s cursor (next_line cursor))

again_bound : (s : LineState) (cursor : Cursor) (name text : List ℕ) (old : Option (List ℕ)) → Bounded of_step (define_again s cursor name text old)
again_bound s cursor name text None = passed_bound (record s { texts = with_text s.texts name text }) cursor (next_line cursor)
again_bound s cursor name text (Some old) = either _ _ _ (passed_bound s cursor (next_line cursor)) (breaks _)

define_bound : (s : LineState) (cursor : Cursor) (named : Option (List ℕ × List ℕ)) → Bounded of_step (define_line s cursor named)
define_bound s cursor None = breaks _
define_bound s cursor (Some named) = again_bound s cursor named.0 named.1 (s.texts.text_of named.0)

undef_bound : (s : LineState) (cursor : Cursor) (name : Option (List ℕ)) → Bounded of_step (undef_line s cursor name)
undef_bound s cursor None = breaks _
undef_bound s cursor (Some name) = passed_bound (record s { texts = without_text s.texts name }) cursor (next_line cursor)

include_bound : (includes : IncludeStep) → IncludesBounded includes → (s : LineState) (cursor : Cursor) (name : Option (List ℕ)) → Within s
    → Bounded of_step (include_line includes s cursor name)
include_bound includes h s cursor None w = breaks _
include_bound includes h s cursor (Some name) w = then_bound (includes name s cursor) _ (h name s cursor w) (λ s' v. record { lines = v })

if_bound : (s : LineState) (cursor : Cursor) (wanted : Bool) (name : Option (List ℕ)) → Bounded of_step (if_line s cursor wanted name)
if_bound s cursor wanted None = breaks _
if_bound s cursor wanted (Some name) = passed_bound s cursor _

else_bound : (s : LineState) (cursor : Cursor) (conditionals : List Conditional) → Bounded of_step (else_line s cursor conditionals)
else_bound s cursor [] = breaks _
else_bound s cursor (innermost ∷ others) = either innermost.in_else _ _ (breaks _) (passed_bound s cursor _)

endif_bound : (s : LineState) (cursor : Cursor) (conditionals : List Conditional) → Bounded of_step (endif_line s cursor conditionals)
endif_bound s cursor [] = breaks _
endif_bound s cursor (innermost ∷ others) = passed_bound s cursor _

renumbered_bound : (s : LineState) (cursor : Cursor) (number : ℕ) (name : Option (List ℕ)) → Bounded of_step (renumber s cursor number name)
renumbered_bound s cursor number None = passed_bound s cursor (record cursor { line = number })
renumbered_bound s cursor number (Some name) =
    passed_bound (record s { names = s.names ++ name ∷ [] }) cursor (record cursor { file = length s.names; line = number })

line_bound : (s : LineState) (cursor : Cursor) (numbered : Option (ℕ × Option (List ℕ))) → Bounded of_step (line_line s cursor numbered)
line_bound s cursor None = breaks _
line_bound s cursor (Some numbered) = renumbered_bound s cursor numbered.0 numbered.1

directive_bound : (includes : IncludeStep) → IncludesBounded includes → (s : LineState) (cursor : Cursor) (keyword : Option DirectiveName) (text : List ℕ)
    → Within s
    → Bounded of_step (directive_line includes s cursor keyword text)
directive_bound includes h s cursor None text w = taken_bound s cursor _ (breaks _)
directive_bound includes h s cursor (Some Define) text w = taken_bound s cursor _ (define_bound s cursor (define_operand text))
directive_bound includes h s cursor (Some Undef) text w = taken_bound s cursor _ (undef_bound s cursor (name_operand text))
directive_bound includes h s cursor (Some Include) text w = taken_bound s cursor _ (include_bound includes h s cursor (file_operand text) w)
directive_bound includes h s cursor (Some Ifdef) text w = if_bound s cursor true (name_operand text)
directive_bound includes h s cursor (Some Ifndef) text w = if_bound s cursor false (name_operand text)
directive_bound includes h s cursor (Some Else) text w = either (is_empty text) _ _ (else_bound s cursor cursor.conditionals) (breaks _)
directive_bound includes h s cursor (Some Endif) text w = either (is_empty text) _ _ (endif_bound s cursor cursor.conditionals) (breaks _)
directive_bound includes h s cursor (Some Line) text w = taken_bound s cursor _ (line_bound s cursor (line_operand text))
directive_bound includes h s cursor (Some Error) text w = taken_bound s cursor _ (breaks _)

text_bound : (s : LineState) (cursor : Cursor) (read : ReplacedText) → Bounded of_step (text_line s cursor read)
text_bound s cursor read =
    then_bound (give_line s cursor read.bytes (next_line_state read.state)) _ (given_bound s cursor read.bytes (next_line_state read.state))
    (λ s' w. record { lines = w })

read_bound : (includes : IncludeStep) → IncludesBounded includes → (s : LineState) (cursor : Cursor) (line : List ℕ) → Within s
    → Bounded of_step (line_read includes s cursor line)
read_bound includes h s cursor line w =
    either (is_directive s.literal line) _ _ (directive_bound includes h s cursor (keyword_of (directive_name line)) (operand line) w)
    (taken_bound s cursor _ (text_bound s cursor (replace_words s.texts.count s.texts.text_of s.literal line)))

ended_bound : (s : LineState) (conditionals : List Conditional) → Within s → Bounded of_outcome (end_file s conditionals)
ended_bound s [] w = record { lines = w }
ended_bound s (innermost ∷ others) w = breaks _

lines_bound : (includes : IncludeStep) → IncludesBounded includes → (s : LineState) (cursor : Cursor) (lines : List (List ℕ)) → Within s
    → Bounded of_outcome (lines_read includes s cursor lines)
lines_bound includes h s cursor [] w = ended_bound s cursor.conditionals w
lines_bound includes h s cursor (line ∷ rest) w =
    then_bound (line_read includes s cursor line) _ (read_bound includes h s cursor line w) (λ after v. lines_bound includes h after.0 after.1 rest v)

file_bound : (includes : IncludeStep) → IncludesBounded includes → (name : List ℕ) (s : LineState) (bytes : List ℕ) → Within s
    → Bounded of_outcome (file_read includes name s bytes)
file_bound includes h name s bytes w = lines_bound includes h (record s { names = s.names ++ name ∷ [] }) (start_of (length s.names)) (lines_of bytes) w

deep_bound : (name : List ℕ) (s : LineState) (cursor : Cursor) (content : Option (List ℕ)) → Bounded of_outcome (too_deep name s cursor content)
deep_bound name s cursor None = breaks _
deep_bound name s cursor (Some bytes) = breaks _

found_bound : (includes : IncludeStep) → IncludesBounded includes → (name : List ℕ) (s : LineState) (cursor : Cursor) (content : Option (List ℕ))
    → Bounded of_outcome (include_found includes name s cursor content)
found_bound includes h name s cursor None = breaks _
found_bound includes h name s cursor (Some bytes) =
    either _ _ _ (breaks _) (then_bound (left_empty s cursor) _ (given_bound s cursor [] _) (λ s' w. file_bound includes h name s' bytes w))

included_bound : (files : FileMap) (n : ℕ) → IncludesBounded (include_file files n)
included_bound files zero name s cursor w = deep_bound name s cursor (files name)
included_bound files (suc n) name s cursor w = found_bound (include_file files n) (included_bound files n) name s cursor (files name)

named_bound : (files : FileMap) (name : List ℕ) (content : Option (List ℕ)) → Bounded of_outcome (named_file files name content)
named_bound files name None = breaks _
named_bound files name (Some bytes) =
    either _ _ _ (breaks _) (file_bound (include_file files 32) (included_bound files 32) name first_state bytes (omega arith))

source_bound : (outcome : Preprocessed) (source : PreprocessedSource) → Bounded of_outcome outcome → source_of outcome ≡ Ok source
    → joined_len source.lines ≤ 16777216
source_bound (Ok s) source h is = subst (λ (lines : List SourceLine). joined_len lines ≤ 16777216) (same_lines s source is) h.lines where
  same_lines : (s : LineState) (source : PreprocessedSource)
      → ◌≡◌ {A = Result PreprocessedSource PrepFault} (Ok (record { names = s.names; lines = s.lines })) (Ok source)
      → s.lines ≡ source.lines
  same_lines s source e = cc
source_bound (Err e) source h is = absurd (let no = is in cc)

-- the lines that the definition gives are within the bound
pub lines_within : (files : FileMap) (name : List ℕ) (source : PreprocessedSource) → source_lines files name ≡ Ok source → joined_len source.lines ≤ 16777216
lines_within files name source is = source_bound (named_file files name (files name)) source (named_bound files name (files name)) is
