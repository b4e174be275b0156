-- A file without directives gives its own lines.
use Rattle.std.proofs.Common.{◌≡◌, ℕ, ◌+◌, ◌≤◌, zero, suc, Bool, true, false, cond, not, nat_lt, eqb, ◌&&◌, List, [], ◌∷◌, ◌++◌, length, take, drop, Some, Ok, refl, sym, ap, ◌∙◌, arith, append_assoc}
use Rattle.std.specs.List.{prefix_len}
use Rattle.std.proofs.lemmas.Bool.{cond-false, false≢true}
use Rattle.std.proofs.lemmas.Bool.Decides.{nat_tests}
use Rattle.std.proofs.lemmas.List.{append-nil, take-append-drop}
use Rattle.std.proofs.lemmas.List.Sums.{sum_by-append}
use Rattle.icn_host.specs.FileMaps.{FileMap}
use Rattle.icn_tree.specs.declared.lines.SourceLine.{SourceLine}
use Rattle.icn_prep.specs.declared.literal.LiteralState.{LiteralState}
use Rattle.icn_prep.specs.declared.literal.LiteralState.TheVariants.{Outside, Inside, Joining, Escape, Control, Comment}
use Rattle.icn_prep.specs.Directives.{is_directive, begins_directive}
use Rattle.icn_prep.specs.FileLines.{begins_with, put_before, lines_of}
use Rattle.icn_prep.specs.LiteralStates.{after, next_line_state}
use Rattle.icn_prep.specs.RefusedSteps.{◌>>=◌}
use Rattle.icn_prep.specs.PlainFiles.{has_no_directive, numbered_lines}
use Rattle.icn_prep.specs.Cursors.{Cursor}
use Rattle.icn_prep.specs.Replacement.{ReplacedText, behind, begins_word, as_it_stands, read_from, replace_words}
use Rattle.icn_prep.specs.LineLengths.{ended_len}
use Rattle.icn_prep.specs.SourceLines.{LineState, Preprocessed, IncludeStep, first_state, give_line, line_read, lines_read, named_file, include_file, source_of, source_lines}
use Rattle.icn_prep.specs.DefinedNames.{Texts, no_texts}
use Rattle.icn_tree.specs.Characters.{continues_identifier}
use Rattle.icn_prep.proofs.GivingLines.{given_short}

-- Words as they stand: the bytes of a text are its own.

kept_by : (begins : Bool) (taken : ℕ) (b : ℕ) (rest : List ℕ) (word other : List ℕ) → word ≡ take taken rest ++ drop taken rest → other ≡ rest
    → cond begins ((b ∷ take taken rest) ++ drop taken rest) ((b ∷ []) ++ other) ≡ b ∷ rest
kept_by true taken b rest word other h g = ap (λ xs. b ∷ xs) (take-append-drop taken rest)
kept_by false taken b rest word other h g = ap (λ xs. b ∷ xs) g

bytes_by : (begins : Bool) (word front : List ℕ) (a b : ReplacedText)
    → (let read = cond begins (behind word a) (behind front b) in read).bytes ≡ cond begins (word ++ a.bytes) (front ++ b.bytes)
bytes_by true word front a b = refl
bytes_by false word front a b = refl

own_bytes : (taken : ℕ) (state : LiteralState) (rest : List ℕ) → (read_from as_it_stands taken state rest).bytes ≡ drop taken rest
own_bytes zero state [] = refl
own_bytes (suc n) state [] = refl
own_bytes (suc n) state (b ∷ rest) = own_bytes n state rest
own_bytes zero state (b ∷ rest) =
    let count = prefix_len continues_identifier rest in
    bytes_by (begins_word state b) (b ∷ take count rest) (b ∷ []) (read_from as_it_stands count Outside rest) (read_from as_it_stands zero (after state b) rest)
    ∙ (ap (λ xs. cond (begins_word state b) ((b ∷ take count rest) ++ xs) ((b ∷ []) ++ (read_from as_it_stands zero (after state b) rest).bytes))
    (own_bytes count Outside rest)
    ∙ kept_by (begins_word state b) count b rest (take count rest ++ drop count rest) (read_from as_it_stands zero (after state b) rest).bytes refl
    (own_bytes zero (after state b) rest))

-- How long the lines of a file are.

abbrev bytes_with_ends : List (List ℕ) → ℕ
bytes_with_ends [] = 0
bytes_with_ends (line ∷ lines) = length line + 1 + bytes_with_ends lines

put_len : (b : ℕ) (lines : List (List ℕ)) (n : ℕ) → bytes_with_ends lines ≤ n + 1 → bytes_with_ends (put_before b lines) ≤ suc n + 1
put_len b [] n h = omega arith
put_len b (line ∷ lines) n h = omega arith

within_by : (newline return : Bool) (b : ℕ) (lines : List (List ℕ)) (n : ℕ) → bytes_with_ends lines ≤ n + 1
    → bytes_with_ends (cond newline ([] ∷ lines) (cond return lines (put_before b lines))) ≤ suc n + 1
within_by true return b lines n h = omega arith
within_by false true b lines n h = omega arith
within_by false false b lines n h = put_len b lines n h

lines_within : (bytes : List ℕ) → bytes_with_ends (lines_of bytes) ≤ length bytes + 1
lines_within [] = omega arith
lines_within (b ∷ rest) = within_by (eqb b 10) (eqb b 13 && begins_with 10 rest) b (lines_of rest) (length rest) (lines_within rest)

-- A line that looks like no directive is none, however it begins.

no_directive : (state : LiteralState) (line : List ℕ) → begins_directive line ≡ false → is_directive state line ≡ false
no_directive Outside line h = h
no_directive (Inside q) line h = refl
no_directive (Joining q) line h = refl
no_directive (Escape q) line h = refl
no_directive (Control q) line h = refl
no_directive Comment line h = refl

plain_first : (a b : Bool) → (not a && b) ≡ true → (a ≡ false) × (b ≡ true)
plain_first true b h = absurd (false≢true h)
plain_first false b h = (refl, h)

-- Reading them.

abbrev cursor_at : ℕ → ℕ → Cursor
cursor_at file number = record { file = file; line = number; taken = true; conditionals = [] }

abbrev line_at : ℕ → ℕ → List ℕ → SourceLine
line_at file number line = record { bytes = line; file = file; number = number }

abbrev read_of : LineState → List ℕ → ReplacedText
read_of s line = replace_words s.texts.count s.texts.text_of s.literal line

read_own : (s : LineState) (line : List ℕ) → s.texts ≡ no_texts → (read_of s line).bytes ≡ line
read_own s line none = ap (λ (t : Texts). (replace_words t.count t.text_of s.literal line).bytes) none ∙ own_bytes zero s.literal line

abbrev state_behind : LineState → ℕ → ℕ → List ℕ → LineState
state_behind s file number line = record s { lines = s.lines ++ line_at file number line ∷ []; literal = next_line_state (read_of s line).state }

line_own : (includes : IncludeStep) (s : LineState) (file number : ℕ) (line : List ℕ) → s.texts ≡ no_texts → begins_directive line ≡ false
    → ended_len s.lines + length line ≤ 16777216
    → line_read includes s (cursor_at file number) line ≡ Ok (state_behind s file number line, cursor_at file (number + 1))
line_own includes s file number line none plain l =
    let literal = next_line_state (read_of s line).state in
    cond-false (is_directive s.literal line) _ _ (no_directive s.literal line plain)
    ∙ (ap (λ bytes. give_line s (cursor_at file number) bytes literal >>= λ s'. Ok (s', cursor_at file (number + 1))) (read_own s line none)
    ∙ ap (λ o. o >>= λ s'. Ok (s', cursor_at file (number + 1))) (given_short s (cursor_at file number) line literal (ended_len s.lines) refl l))

ended_more : (lines : List SourceLine) (line : SourceLine) → ended_len (lines ++ line ∷ []) ≡ ended_len lines + (length line.bytes + 1)
ended_more lines line = sum_by-append (λ line. length line.bytes + 1) lines (line ∷ []) ∙ ap (λ n. ended_len lines + n) (omega arith)

lines_own : (includes : IncludeStep) (s : LineState) (file number : ℕ) (lines : List (List ℕ)) → s.texts ≡ no_texts → has_no_directive lines ≡ true
    → ended_len s.lines + bytes_with_ends lines ≤ 16777217
    → (literal : LiteralState)
    × (lines_read includes s (cursor_at file number) lines ≡ Ok (record s { lines = s.lines ++ numbered_lines file number lines; literal = literal }))
lines_own includes s file number [] none plain l =
    (s.literal, ap (λ lines. let outcome : Preprocessed = Ok (record s { lines = lines; literal = s.literal }) in outcome) (sym (append-nil s.lines)))
lines_own includes s file number (line ∷ rest) none plain l =
    let parts = plain_first (begins_directive line) _ plain in
    let s' = state_behind s file number line in
    let len : ended_len s'.lines ≡ ended_len s.lines + (length line + 1) = ended_more s.lines (line_at file number line) in
    let more = lines_own includes s' file (number + 1) rest none parts.1 (omega arith) in (
      more.0,
      ap (λ o. o >>= λ after. lines_read includes after.0 after.1 rest) (line_own includes s file number line none parts.0 (omega arith))
          ∙ (more.1
          ∙ ap (λ lines. let outcome : Preprocessed = Ok (record s { lines = lines; literal = more.0 }) in outcome)
          (append_assoc s.lines (line_at file number line ∷ []) (numbered_lines file (number + 1) rest))),
    )

own_file : (outcome : Preprocessed) (names : List (List ℕ)) (lines : List SourceLine) (texts : Texts) (literal : LiteralState)
    → outcome ≡ Ok (record { names = names; lines = lines; texts = texts; literal = literal })
    → source_of outcome ≡ Ok (record { names = names; lines = lines })
own_file outcome names lines texts literal is = ap source_of is

pub own_source : (files : FileMap) (name bytes : List ℕ) → files name ≡ Some bytes → length bytes ≤ 16777216 → has_no_directive (lines_of bytes) ≡ true
    → source_lines files name ≡ Ok (record { names = name ∷ []; lines = numbered_lines 0 1 (lines_of bytes) })
own_source files name bytes there short plain =
    let within : nat_lt 16777216 (length bytes) ≡ false = grind (arith, nat_tests) in
    let few = lines_within bytes in
    let s : LineState = record first_state { names = name ∷ [] } in
    let own = lines_own (include_file files 32) s 0 1 (lines_of bytes) refl plain (omega arith) in
    own_file (named_file files name (files name)) (name ∷ []) (numbered_lines 0 1 (lines_of bytes)) no_texts own.0
    (ap (named_file files name) there ∙ (cond-false (nat_lt 16777216 (length bytes)) _ _ within ∙ own.1))
