-- What stands outside literals, step by step.
use Rattle.std.proofs.Common.{◌≡◌, ℕ, ◌-◌, ◌<◌, ◌≤◌, zero, suc, Bool, true, false, ◌&&◌, not, List, [], ◌∷◌, ◌++◌, length, drop, None, Result, Ok, Err, refl, sym, ◌∙◌, ap, arith, length-drop}
use Rattle.std.proofs.lemmas.Bool.{cond-true, cond-false, false≢true}
use Rattle.icn_tree.specs.declared.rule.Rule.{Rule}
use Rattle.icn_tree.specs.declared.lines.SourceLine.{SourceLine}
use Rattle.icn_tree.specs.declared.token.Kind.{Kind}
use Rattle.icn_tree.specs.declared.token.Token.{Token}
use Rattle.icn_tree.specs.Characters.{is_space, begins_comment, is_quote}
use Rattle.icn_tree.specs.Literals.{OpenLiteral}
use Rattle.icn_tree.specs.Semicolons.{LineToken}
use Rattle.icn_tree.specs.Tokens.{Scan, Broken, Between, bytes_from, before, piece_on, token_then, open_literal, first_of, one_token, closed_then}
use Rattle.icn_lex.specs.declared.fault.LexFault.{LexFault}
use Rattle.icn_lex.specs.declared.fault.LexFault.TheVariants.{Broken as BrokenFault, NoMemory}
use Rattle.icn_lex.specs.Literals.{Later, scan_inside, scan_text}
use Rattle.icn_lex.specs.Outcomes.{FaultIs, FirstIs, Reads, begins_bare}
use Rattle.icn_lex.specs.Reading.{first_read, with_piece}
use Rattle.icn_lex.proofs.LongestFronts.{first_is_longest}
use Rattle.icn_tree.proofs.LongestTokens.{first_within}
use Rattle.icn_tree.proofs.KeptByScans.{scan_skips}
use Rattle.icn_lex.proofs.ReadSoFar.{reads_same, reads_token, reads_fault}

pub at_space : (line : SourceLine) (is_first : Bool) (b : ℕ) (rest bytes : List ℕ) (later : Later) → bytes ≡ b ∷ rest → is_space b ≡ true
    → scan_text line is_first bytes later ≡ scan_text line is_first rest later
unfolding bytes_from
at_space line is_first b rest bytes later is h = ap (λ text. scan_text line is_first text later) is ∙ cond-true (is_space b) _ _ h

pub at_comment : (line : SourceLine) (is_first : Bool) (b : ℕ) (rest bytes : List ℕ) (later : Later) → bytes ≡ b ∷ rest → is_space b ≡ false
    → begins_comment b ≡ true
    → scan_text line is_first bytes later ≡ later None
unfolding bytes_from
at_comment line is_first b rest bytes later is h e =
    ap (λ text. scan_text line is_first text later) is ∙ (cond-false (is_space b) _ _ h ∙ cond-true (begins_comment b) _ _ e)

pub at_text_end : (line : SourceLine) (is_first : Bool) (bytes : List ℕ) (later : Later) → length bytes ≡ 0 → scan_text line is_first bytes later ≡ later None
unfolding bytes_from
at_text_end line is_first [] later h = refl
at_text_end line is_first (b ∷ rest) later h = absurd (omega arith)

pub at_opening : (line : SourceLine) (is_first : Bool) (b : ℕ) (rest bytes : List ℕ) (later : Later) → bytes ≡ b ∷ rest → is_space b ≡ false
    → begins_comment b ≡ false → is_quote b ≡ true
    → scan_text line is_first bytes later ≡ scan_inside line (open_literal line is_first b) rest later
unfolding bytes_from
at_opening line is_first b rest bytes later is h e q =
    ap (λ text. scan_text line is_first text later) is ∙ (cond-false (is_space b) _ _ h ∙ (cond-false (begins_comment b) _ _ e ∙ cond-true (is_quote b) _ _ q))

at_bare : (line : SourceLine) (is_first : Bool) (b : ℕ) (rest : List ℕ) (later : Later) (found : Result (Kind × ℕ) Rule) → is_space b ≡ false
    → begins_comment b ≡ false → is_quote b ≡ false
    → first_of (b ∷ rest) ≡ found
    → scan_text line is_first (b ∷ rest) later ≡ token_then line is_first found (λ count. bytes_from later line (Between false) (count - 1) rest)
unfolding bytes_from
at_bare line is_first b rest later found h e q is =
    cond-false (is_space b) _ _ h ∙ (cond-false (begins_comment b) _ _ e ∙ (cond-false (is_quote b) _ _ q
    ∙ ap (λ first. token_then line is_first first (λ count. bytes_from later line (Between false) (count - 1) rest)) is))

not_true : (x : Bool) → not x ≡ true → x ≡ false
not_true true h = absurd (false≢true h)
not_true false h = refl

both : (x y : Bool) → (x && y) ≡ true → (x ≡ true) × (y ≡ true)
both true y h = (refl, h)
both false y h = absurd (false≢true h)

pub bare_not : (b : ℕ) (rest : List ℕ) → begins_bare (b ∷ rest) ≡ true → (is_space b ≡ false) × (begins_comment b ≡ false) × (is_quote b ≡ false)
bare_not b rest h =
    let first = both (not (is_space b) && not (begins_comment b)) (not (is_quote b)) h in
    let second = both (not (is_space b)) (not (begins_comment b)) first.0 in
    (not_true (is_space b) second.0, not_true (begins_comment b) second.1, not_true (is_quote b) first.1)

drop_first : (count b : ℕ) (rest : List ℕ) → 0 < count → drop (count - 1) rest ≡ drop count (b ∷ rest)
drop_first zero b rest h = absurd (omega arith)
drop_first (suc n) b rest h = let e : suc n - 1 ≡ n = omega arith in ap (λ k. drop k rest) e

pub token_within : (bytes : List ℕ) (kind : Kind) (count : ℕ) → first_read bytes ≡ Ok (kind, count) → (0 < count) × (count ≤ length bytes)
unfolding first_of
token_within bytes kind count is = first_within one_token (length bytes) bytes kind count (sym (first_is_longest bytes) ∙ is)

pub at_token : (line : SourceLine) (is_first : Bool) (bytes : List ℕ) (later : Later) (kind : Kind) (count : ℕ) → begins_bare bytes ≡ true
    → first_read bytes ≡ Ok (kind, count)
    → scan_text line is_first bytes later ≡ before (piece_on line is_first kind) (scan_text line false (drop count bytes) later)
at_token line is_first [] later kind count h is = absurd (false≢true h)
at_token line is_first (b ∷ rest) later kind count h is =
    let nots = bare_not b rest h in
    let within = token_within (b ∷ rest) kind count is in
    at_bare line is_first b rest later (Ok (kind, count)) nots.0 nots.1 nots.2 (sym (first_is_longest (b ∷ rest)) ∙ is)
    ∙ ap (before (piece_on line is_first kind))
    (scan_skips later line (Between false) (count - 1) rest ∙ ap (bytes_from later line (Between false) 0) (drop_first count b rest within.0))

pub at_broken : (line : SourceLine) (is_first : Bool) (bytes : List ℕ) (later : Later) (rule : Rule) → begins_bare bytes ≡ true → first_read bytes ≡ Err rule
    → scan_text line is_first bytes later ≡ Broken rule line.number line.file
at_broken line is_first [] later rule h is = absurd (false≢true h)
at_broken line is_first (b ∷ rest) later rule h is =
    let nots = bare_not b rest h in
    at_bare line is_first b rest later (Err rule) nots.0 nots.1 nots.2 (sym (first_is_longest (b ∷ rest)) ∙ is)

-- a fault of the first token is one of all
pub broken_all : (line : SourceLine) (is_first : Bool) (bytes : List ℕ) (later : Later) (all : Scan) (found : List Token) (fault : LexFault)
    → begins_bare bytes ≡ true
    → FirstIs line (Err fault) (first_read bytes) → Reads all found (scan_text line is_first bytes later) → FaultIs fault all
broken_all line is_first bytes later all found NoMemory h is r = tt
broken_all line is_first bytes later all found (BrokenFault rule file number) h is r =
    rw (is.1, is.2) (reads_fault all found (scan_text line is_first bytes later) rule line.number line.file (at_broken line is_first bytes later rule h is.0) r)

pub token_all : (line : SourceLine) (is_first : Bool) (bytes : List ℕ) (later : Later) (all : Scan) (found : List Token) (kind : Kind) (count : ℕ)
    → begins_bare bytes ≡ true
    → first_read bytes ≡ Ok (kind, count) → Reads all found (scan_text line is_first bytes later)
    → let piece = piece_on line is_first kind in Reads all (found ++ with_piece found piece ++ piece.token ∷ []) (scan_text line false (drop count bytes) later)
token_all line is_first bytes later all found kind count h is r =
    reads_token all found (piece_on line is_first kind) (scan_text line false (drop count bytes) later)
    (reads_same all found _ _ (at_token line is_first bytes later kind count h is) r)

pub shorter : (bytes : List ℕ) (kind : Kind) (count : ℕ) → first_read bytes ≡ Ok (kind, count) → length (drop count bytes) < length bytes
shorter bytes kind count is = let within = token_within bytes kind count is in omega (arith, length-drop count bytes, within.0, within.1)

-- a literal that is closed
pub closed_all : (all : Scan) (found : List Token) (here : Scan) (literal : OpenLiteral) (token : Token) (later : Scan) → here ≡ closed_then literal later
    → closed_then literal later ≡ before (record { token = token; is_first = literal.is_first }) later → Reads all found here
    → let piece : LineToken = record { token = token; is_first = literal.is_first } in Reads all (found ++ with_piece found piece ++ token ∷ []) later
closed_all all found here literal token later is closes r =
    let piece : LineToken = record { token = token; is_first = literal.is_first } in
    reads_token all found piece later (reads_same all found here (before piece later) (is ∙ closes) r)
