-- Each line that a named file gives is bytes, where files hold bytes: lines are cut from files, and the texts of names from lines.
use Rattle.std.proofs.Common.{◌≡◌, ℕ, zero, suc, Bool, true, false, cond, List, [], ◌∷◌, ◌++◌, take, reverse, length, Option, None, Some, Result, Ok, Err, refl, ◌∙◌, subst, ◌&&◌, ◌==◌}
use Rattle.std.specs.Prelude.{MatchResult, nat_lt, not}
use Rattle.std.specs.List.{prefix_len}
use Rattle.std.specs.Map.{update}
use Rattle.std.specs.Str.{bytes_eq}
use Rattle.std.proofs.lemmas.Bool.{and_from}
use Rattle.std.proofs.lemmas.List.Folds.{list_all-append}
use Rattle.std.proofs.lemmas.Option.{none-some, same_Some}
use Rattle.icn_host.specs.FileMaps.{FileMap, HoldBytes}
use Rattle.icn_tree.specs.declared.lines.SourceLine.{SourceLine}
use Rattle.icn_tree.specs.SourceTexts.{joined_len}
use Rattle.icn_prep.specs.declared.fault.PrepFault.{PrepFault}
use Rattle.icn_prep.specs.declared.keyword.DirectiveName.{DirectiveName}
use Rattle.icn_prep.specs.declared.keyword.DirectiveName.TheVariants.{Define, Undef, Include, Ifdef, Ifndef, Else, Endif, Line, Error}
use Rattle.icn_prep.specs.declared.literal.LiteralState.{LiteralState}
use Rattle.icn_prep.specs.declared.literal.LiteralState.TheVariants.{Outside}
use Rattle.icn_prep.specs.declared.cursor.Conditional.{Conditional}
use Rattle.icn_prep.specs.Directives.{is_directive, is_comment, without_comment, directive_text, directive_name, names_file, operand, keyword_of}
use Rattle.icn_prep.specs.FileLines.{begins_with, put_before, lines_of}
use Rattle.icn_prep.specs.LiteralStates.{after, after_in as state_in, next_line_state}
use Rattle.icn_prep.specs.Operands.{is_empty, name_operand, define_operand, file_operand, line_operand}
use Rattle.icn_prep.specs.RefusedSteps.{◌>>=◌}
use Rattle.icn_prep.specs.Cursors.{Cursor, start_of, next_line}
use Rattle.icn_prep.specs.Replacement.{ReplacedText, behind, begins_word, as_it_stands, read_from, word_read, replace_words}
use Rattle.icn_prep.specs.SourceLines.{LineState, PreprocessedSource, Preprocessed, Step, first_state, IncludeStep, give_line, left_empty, pass_line, text_line, define_again, define_line, undef_line, include_line, if_line, else_line, endif_line, renumber, line_line, where_taken, directive_line, line_read, end_file, lines_read, file_read, too_deep, include_found, include_file, named_file, source_of, source_lines}
use Rattle.icn_prep.specs.DefinedNames.{TextOf, without, with_text, without_text, undefined_by}
use Rattle.icn_tree.specs.Characters.{continues_identifier, is_blank}
use Rattle.icn_tree.specs.TokenBounds.{is_name}
use Rattle.icn_prep.specs.Words.{first_word, behind_word, trim, trimmed_start}
use Rattle.law_source.specs.LineBytes.{line_is_of_bytes, lines_are_of_bytes}
use Rattle.law_source.proofs.ByteLists.{AreBytes, no_bytes, with_first, first_byte, other_bytes, bytes_joined, bytes_taken, bytes_dropped, bytes_reversed, bytes_chosen, bytes_held}

-- The lines of a file

abbrev AreLines : List (List ℕ) → Type 0
AreLines [] = Unit {0}
AreLines (line ∷ lines) = AreBytes line × AreLines lines

line_put : (b : ℕ) (rest : List ℕ) (lines : List (List ℕ)) → AreBytes (b ∷ rest) → AreLines lines
    → AreLines (put_before b lines)
line_put b rest [] h g = (with_first (first_byte h) no_bytes, tt)
line_put b rest (line ∷ lines) h g = (with_first (first_byte h) g.0, g.1)

lines_chosen : (test : Bool) (a b : List (List ℕ)) → AreLines a → AreLines b → AreLines (cond test a b)
lines_chosen true a b h g = h
lines_chosen false a b h g = g

lines_cut : (bytes : List ℕ) → AreBytes bytes → AreLines (lines_of bytes)
lines_cut [] h = tt
lines_cut (b ∷ rest) h =
    let later = lines_cut rest (other_bytes h) in
    lines_chosen (b == 10) _ _ (no_bytes, later)
    (lines_chosen ((b == 13) && begins_with 10 rest) _ _ later (line_put b rest (lines_of rest) h later))

-- What stands in a directive

uncommented_bytes : (is_name : Bool) (state : LiteralState) (bytes : List ℕ) → AreBytes bytes
    → AreBytes (without_comment is_name state bytes)
uncommented_bytes is_name state [] h = no_bytes
uncommented_bytes is_name state (b ∷ rest) h = bytes_chosen (is_comment (state_in is_name state b)) no_bytes
    (with_first (first_byte h) (uncommented_bytes is_name (state_in is_name state b) rest (other_bytes h)))

start_trimmed : (bytes : List ℕ) → AreBytes bytes → AreBytes (trimmed_start bytes)
start_trimmed bytes h = bytes_dropped (prefix_len is_blank bytes) bytes h

both_trimmed : (bytes : List ℕ) → AreBytes bytes → AreBytes (trim bytes)
both_trimmed bytes h =
    let start = trimmed_start bytes in
    bytes_reversed (trimmed_start (reverse start))
    (start_trimmed (reverse start) (bytes_reversed start (start_trimmed bytes h)))

word_passed : (bytes : List ℕ) → AreBytes bytes → AreBytes (behind_word bytes)
word_passed bytes h = bytes_dropped (prefix_len continues_identifier bytes) bytes h

operand_bytes : (line : List ℕ) → AreBytes line → AreBytes (operand line)
operand_bytes line h =
    let text = directive_text line in
    both_trimmed _ (uncommented_bytes (names_file (directive_name line)) Outside (behind_word text)
    (word_passed text (start_trimmed _ (bytes_dropped 1 line h))))

-- Texts of names

-- each text of a name is bytes
pub record HaveBytes (texts : TextOf) : Type 0 where
  pub text : (name text : List ℕ) → texts name ≡ Some text → AreBytes text

texts_updated : (texts : TextOf) (name : List ℕ) (held : Option (List ℕ)) → HaveBytes texts
    → ((text : List ℕ) → held ≡ Some text → AreBytes text) → HaveBytes (update bytes_eq texts name held)
texts_updated texts name held h g = record { text = λ other text e. by (bytes_eq name other) other text e }
  where
    by : (test : Bool) (other text : List ℕ) → cond test held (texts other) ≡ Some text → AreBytes text
    by true other text e = g text e
    by false other text e = h.text other text e

texts_without : (texts : TextOf) (name : List ℕ) → HaveBytes texts → HaveBytes (without texts name)
texts_without texts name h = texts_updated texts name None h (λ text e. absurd (none-some text e))

texts_with : (texts : TextOf) (name text : List ℕ) → HaveBytes texts → AreBytes text
    → HaveBytes (update bytes_eq texts name (Some text))
texts_with texts name text h g = texts_updated texts name (Some text) h
    (λ other e. subst AreBytes (same_Some text other e) g)

-- A line with its words replaced

read_chosen : (test : Bool) (a b : ReplacedText) → AreBytes a.bytes → AreBytes b.bytes → AreBytes (cond test a b).bytes
read_chosen true a b h g = h
read_chosen false a b h g = g

read_bytes : (becomes : List ℕ → ReplacedText) → ((word : List ℕ) → AreBytes word → AreBytes (becomes word).bytes)
    → (taken : ℕ) (state : LiteralState) (bytes : List ℕ) → AreBytes bytes
    → AreBytes (read_from becomes taken state bytes).bytes
read_bytes becomes r taken state [] h = no_bytes
read_bytes becomes r (suc n) state (b ∷ rest) h = read_bytes becomes r n state rest (other_bytes h)
read_bytes becomes r zero state (b ∷ rest) h =
    let count = prefix_len continues_identifier rest in
    let word = becomes (b ∷ take count rest) in
    read_chosen (begins_word state b)
    (behind word.bytes (read_from becomes count word.state rest))
    (behind (b ∷ []) (read_from becomes zero (after state b) rest))
    (bytes_joined (r _ (with_first (first_byte h) (bytes_taken count rest (other_bytes h))))
    (read_bytes becomes r count word.state rest (other_bytes h)))
    (bytes_joined (with_first (first_byte h) no_bytes)
    (read_bytes becomes r zero (after state b) rest (other_bytes h)))

word_bytes : (reads : TextOf → LiteralState → List ℕ → ReplacedText)
    → ((texts : TextOf) → HaveBytes texts → (state : LiteralState) (bytes : List ℕ) → AreBytes bytes
    → AreBytes (reads texts state bytes).bytes)
    → (texts : TextOf) → HaveBytes texts → (word : List ℕ) (held : Option (List ℕ)) → texts word ≡ held
    → AreBytes word
    → AreBytes (word_read reads texts word held).bytes
word_bytes reads r texts h word None e g = g
word_bytes reads r texts h word (Some text) e g = r (without texts word)
    (texts_without texts word h) Outside text (h.text word text e)

replaced_bytes : (n : ℕ) (texts : TextOf) → HaveBytes texts → (state : LiteralState) (bytes : List ℕ)
    → AreBytes bytes
    → AreBytes (replace_words n texts state bytes).bytes
replaced_bytes zero texts h state bytes g = read_bytes as_it_stands (λ word w. w) zero state bytes g
replaced_bytes (suc n) texts h state bytes g = read_bytes
    (λ word. word_read (replace_words n) texts word (texts word))
    (λ word w. word_bytes (replace_words n) (λ t k s b q. replaced_bytes n t k s b q) texts h word
    (texts word) refl w) zero state bytes g

-- What reading has come to

pub record Known (s : LineState) : Type 0 where
  pub lines : lines_are_of_bytes s.lines ≡ true
  pub texts : HaveBytes s.texts.text_of

-- where reading goes on, this is known
record Gives {A : Type 0} (state : A → LineState) (outcome : Result A PrepFault) : Type 0 where
  known : MatchResult outcome (λ a. Known (state a)) (λ fault. Unit {0})

abbrev of_outcome : LineState → LineState
of_outcome s = s

abbrev of_step : LineState × Cursor → LineState
of_step after = after.0

breaks : {A : Type 0} {state : A → LineState} (fault : PrepFault) → Gives state (Err fault)
breaks fault = record { known = tt }

abbrev IncludesKnown : IncludeStep → Type 0
IncludesKnown includes = (name : List ℕ) (s : LineState) (cursor : Cursor) → Known s
    → Gives of_outcome (includes name s cursor)

then_known : {A B : Type 0} {at : A → LineState} {state : B → LineState} (a : Result A PrepFault)
    (f : A → Result B PrepFault)
    → Gives at a → ((x : A) → Known (at x) → Gives state (f x)) → Gives state (a >>= f)
then_known (Ok a) f h g = g a h.known
then_known (Err e) f h g = record { known = tt }

either : {A : Type 0} {state : A → LineState} (b : Bool) (x y : Result A PrepFault) → Gives state x → Gives state y
    → Gives state (cond b x y)
either true x y h g = h
either false x y h g = g

line_more : (lines : List SourceLine) (line : SourceLine) → lines_are_of_bytes lines ≡ true
    → AreBytes line.bytes
    → lines_are_of_bytes (lines ++ line ∷ []) ≡ true
line_more lines line h g = list_all-append line_is_of_bytes lines (line ∷ [])
    ∙ and_from _ _ h (and_from _ _ g.are refl)

given_known : (s : LineState) (cursor : Cursor) (bytes : List ℕ) (literal : LiteralState) → Known s → AreBytes bytes
    → Gives of_outcome (give_line s cursor bytes literal)
given_known s cursor bytes literal k h =
    let line : SourceLine = record { bytes = bytes; file = cursor.file; number = cursor.line } in
    let more : lines_are_of_bytes (s.lines ++ line ∷ []) ≡ true = line_more s.lines line k.lines h in
    either (nat_lt 16777216 (joined_len (s.lines ++ line ∷ []))) _
    (Ok (record s { lines = s.lines ++ line ∷ []; literal = literal })) (breaks _)
    (record { known = record { lines = more; texts = k.texts } })

passed_known : (s : LineState) (cursor onward : Cursor) → Known s → Gives of_step (pass_line s cursor onward)
passed_known s cursor onward k = then_known (left_empty s cursor) _ (given_known s cursor [] _ k no_bytes)
    (λ s' w. record { known = w })

taken_known : (s : LineState) (cursor : Cursor) (step : Step) → Known s → Gives of_step step
    → Gives of_step (where_taken s cursor step)
taken_known s cursor step k h = either cursor.taken _ _ h (passed_known s cursor (next_line cursor) k)

again_known : (s : LineState) (cursor : Cursor) (name text : List ℕ) (old : Option (List ℕ)) → Known s → AreBytes text
    → Gives of_step (define_again s cursor name text old)
again_known s cursor name text None k h =
    passed_known (record s { texts = with_text s.texts name text }) cursor (next_line cursor)
    (record { lines = k.lines; texts = texts_with s.texts.text_of name text k.texts h })
again_known s cursor name text (Some old) k h = either _ _ _ (passed_known s cursor (next_line cursor) k)
    (breaks _)

define_known : (s : LineState) (cursor : Cursor) (test : Bool) (name text : List ℕ) → Known s → AreBytes text
    → Gives of_step (define_line s cursor (cond test (Some (name, text)) None))
define_known s cursor false name text k h = breaks _
define_known s cursor true name text k h = again_known s cursor name text (s.texts.text_of name) k h

operand_known : (s : LineState) (cursor : Cursor) (text : List ℕ) → Known s → AreBytes text
    → Gives of_step (define_line s cursor (define_operand text))
operand_known s cursor text k h = define_known s cursor
    (is_name (first_word text) && not (begins_with 40 (behind_word text)))
    (first_word text) (trim (behind_word text)) k (both_trimmed (behind_word text) (word_passed text h))

undefined_known : (s : LineState) (name : List ℕ) (old : Option (List ℕ)) → Known s
    → HaveBytes (undefined_by s.texts name old).text_of
undefined_known s name None k = k.texts
undefined_known s name (Some text) k = texts_without s.texts.text_of name k.texts

undef_known : (s : LineState) (cursor : Cursor) (name : Option (List ℕ)) → Known s
    → Gives of_step (undef_line s cursor name)
undef_known s cursor None k = breaks _
undef_known s cursor (Some name) k = passed_known (record s { texts = without_text s.texts name }) cursor
    (next_line cursor)
    (record { lines = k.lines; texts = undefined_known s name (s.texts.text_of name) k })

include_known : (includes : IncludeStep) → IncludesKnown includes
    → (s : LineState) (cursor : Cursor) (name : Option (List ℕ)) → Known s
    → Gives of_step (include_line includes s cursor name)
include_known includes h s cursor None k = breaks _
include_known includes h s cursor (Some name) k = then_known (includes name s cursor) _ (h name s cursor k)
    (λ s' w. record { known = w })

if_known : (s : LineState) (cursor : Cursor) (wanted : Bool) (name : Option (List ℕ)) → Known s
    → Gives of_step (if_line s cursor wanted name)
if_known s cursor wanted None k = breaks _
if_known s cursor wanted (Some name) k = passed_known s cursor _ k

else_known : (s : LineState) (cursor : Cursor) (conditionals : List Conditional) → Known s
    → Gives of_step (else_line s cursor conditionals)
else_known s cursor [] k = breaks _
else_known s cursor (innermost ∷ others) k = either innermost.in_else _ _ (breaks _) (passed_known s cursor _ k)

endif_known : (s : LineState) (cursor : Cursor) (conditionals : List Conditional) → Known s
    → Gives of_step (endif_line s cursor conditionals)
endif_known s cursor [] k = breaks _
endif_known s cursor (innermost ∷ others) k = passed_known s cursor _ k

renumbered_known : (s : LineState) (cursor : Cursor) (number : ℕ) (name : Option (List ℕ)) → Known s
    → Gives of_step (renumber s cursor number name)
renumbered_known s cursor number None k = passed_known s cursor (record cursor { line = number }) k
renumbered_known s cursor number (Some name) k = passed_known (record s { names = s.names ++ name ∷ [] }) cursor
    (record cursor { file = length s.names; line = number }) (record { lines = k.lines; texts = k.texts })

line_known : (s : LineState) (cursor : Cursor) (numbered : Option (ℕ × Option (List ℕ))) → Known s
    → Gives of_step (line_line s cursor numbered)
line_known s cursor None k = breaks _
line_known s cursor (Some numbered) k = renumbered_known s cursor numbered.0 numbered.1 k

directive_known : (includes : IncludeStep) → IncludesKnown includes
    → (s : LineState) (cursor : Cursor) (keyword : Option DirectiveName) (text : List ℕ)
    → Known s → AreBytes text → Gives of_step (directive_line includes s cursor keyword text)
directive_known includes h s cursor None text k w = taken_known s cursor _ k (breaks _)
directive_known includes h s cursor (Some Define) text k w = taken_known s cursor _ k
    (operand_known s cursor text k w)
directive_known includes h s cursor (Some Undef) text k w = taken_known s cursor _ k
    (undef_known s cursor (name_operand text) k)
directive_known includes h s cursor (Some Include) text k w = taken_known s cursor _ k
    (include_known includes h s cursor (file_operand text) k)
directive_known includes h s cursor (Some Ifdef) text k w = if_known s cursor true (name_operand text) k
directive_known includes h s cursor (Some Ifndef) text k w = if_known s cursor false (name_operand text) k
directive_known includes h s cursor (Some Else) text k w = either (is_empty text) _ _
    (else_known s cursor cursor.conditionals k) (breaks _)
directive_known includes h s cursor (Some Endif) text k w = either (is_empty text) _ _
    (endif_known s cursor cursor.conditionals k) (breaks _)
directive_known includes h s cursor (Some Line) text k w = taken_known s cursor _ k
    (line_known s cursor (line_operand text) k)
directive_known includes h s cursor (Some Error) text k w = taken_known s cursor _ k (breaks _)

text_known : (s : LineState) (cursor : Cursor) (read : ReplacedText) → Known s → AreBytes read.bytes
    → Gives of_step (text_line s cursor read)
text_known s cursor read k h = then_known (give_line s cursor read.bytes (next_line_state read.state)) _
    (given_known s cursor read.bytes (next_line_state read.state) k h) (λ s' w. record { known = w })

read_known : (includes : IncludeStep) → IncludesKnown includes → (s : LineState) (cursor : Cursor) (line : List ℕ)
    → Known s → AreBytes line
    → Gives of_step (line_read includes s cursor line)
read_known includes h s cursor line k w =
    either (is_directive s.literal line) _ _
    (directive_known includes h s cursor (keyword_of (directive_name line)) (operand line) k
    (operand_bytes line w))
    (taken_known s cursor _ k (text_known s cursor (replace_words s.texts.count s.texts.text_of s.literal line) k
    (replaced_bytes s.texts.count s.texts.text_of k.texts s.literal line w)))

ended_known : (s : LineState) (conditionals : List Conditional) → Known s → Gives of_outcome (end_file s conditionals)
ended_known s [] k = record { known = k }
ended_known s (innermost ∷ others) k = breaks _

lines_known : (includes : IncludeStep) → IncludesKnown includes
    → (s : LineState) (cursor : Cursor) (lines : List (List ℕ)) → Known s → AreLines lines
    → Gives of_outcome (lines_read includes s cursor lines)
lines_known includes h s cursor [] k w = ended_known s cursor.conditionals k
lines_known includes h s cursor (line ∷ rest) k w = then_known (line_read includes s cursor line) _
    (read_known includes h s cursor line k w.0)
    (λ after v. lines_known includes h after.0 after.1 rest v w.1)

file_known : (includes : IncludeStep) → IncludesKnown includes → (name : List ℕ) (s : LineState) (bytes : List ℕ)
    → Known s → AreBytes bytes
    → Gives of_outcome (file_read includes name s bytes)
file_known includes h name s bytes k w = lines_known includes h (record s { names = s.names ++ name ∷ [] })
    (start_of (length s.names)) (lines_of bytes)
    (record { lines = k.lines; texts = k.texts }) (lines_cut bytes w)

-- Files

deep_known : (name : List ℕ) (s : LineState) (cursor : Cursor) (content : Option (List ℕ))
    → Gives of_outcome (too_deep name s cursor content)
deep_known name s cursor None = breaks _
deep_known name s cursor (Some bytes) = breaks _

module _ (files : FileMap) (hold : HoldBytes files) where
  content_bytes : (name bytes : List ℕ) → files name ≡ Some bytes → AreBytes bytes
  content_bytes name bytes e = bytes_held bytes (hold name bytes e)

  found_known : (includes : IncludeStep) → IncludesKnown includes
      → (name : List ℕ) (s : LineState) (cursor : Cursor) (content : Option (List ℕ))
      → files name ≡ content → Known s → Gives of_outcome (include_found includes name s cursor content)
  found_known includes h name s cursor None e k = breaks _
  found_known includes h name s cursor (Some bytes) e k = either _ _ _ (breaks _)
      (then_known (left_empty s cursor) _ (given_known s cursor [] _ k no_bytes)
      (λ s' w. file_known includes h name s' bytes w (content_bytes name bytes e)))

  included_known : (n : ℕ) → IncludesKnown (include_file files n)
  included_known zero name s cursor k = deep_known name s cursor (files name)
  included_known (suc n) name s cursor k = found_known (include_file files n) (included_known n) name s cursor
      (files name) refl k

  named_known : (name : List ℕ) (content : Option (List ℕ)) → files name ≡ content
      → Gives of_outcome (named_file files name content)
  named_known name None e = breaks _
  named_known name (Some bytes) e = either _ _ _ (breaks _)
      (file_known (include_file files 32) (included_known 32) name first_state bytes
      (record { lines = refl; texts = record { text = λ other text none. absurd (none-some text none) } })
      (content_bytes name bytes e))

source_known : (outcome : Preprocessed) (source : PreprocessedSource) → Gives of_outcome outcome → source_of outcome ≡ Ok source
    → lines_are_of_bytes source.lines ≡ true
source_known (Ok s) source h is = subst (λ (lines : List SourceLine). lines_are_of_bytes lines ≡ true)
    (same_lines s source is) h.known.lines where
      same_lines : (s : LineState) (source : PreprocessedSource)
          → ◌≡◌ {A = Result PreprocessedSource PrepFault} (Ok (record { names = s.names; lines = s.lines })) (Ok source)
          → s.lines ≡ source.lines
      same_lines s source e = cc
source_known (Err e) source h is = absurd (let no = is in cc)

-- the lines that the definition gives are bytes
pub lines_are_bytes : (files : FileMap) (name : List ℕ) (source : PreprocessedSource) → HoldBytes files
    → source_lines files name ≡ Ok source
    → lines_are_of_bytes source.lines ≡ true
lines_are_bytes files name source hold is = source_known (named_file files name (files name)) source
    (named_known files hold name (files name) refl) is
