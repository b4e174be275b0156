-- A scan goes over lines from the first, and ends with their outcome.
use Rattle.std.proofs.Common.{◌≡◌, ℕ, ◌+◌, ◌<◌, ◌≤◌, suc, List, [], ◌∷◌, length, drop, get_or, drop-cons, Option, None, Some, Result, Ok, Err, Vec, refl, sym, ◌∙◌, ap, arith, ◌⊎◌, inl, inr}
use Rattle.std.proofs.lemmas.List.{drop_all}
use Rattle.std.proofs.lemmas.Option.{same_Some}
use Rattle.icn_tree.specs.declared.rule.Rule.{Rule}
use Rattle.icn_tree.specs.declared.rule.Rule.TheVariants.{L2}
use Rattle.icn_tree.specs.declared.lines.SourceLine.{SourceLine}
use Rattle.icn_tree.specs.declared.token.Token.{Token}
use Rattle.icn_tree.specs.Literals.{OpenLiteral}
use Rattle.icn_tree.specs.Tokens.{Found, Broken, Scanned, Fault, line_from, lines_from, finish_scan, tokens_of}
use Rattle.icn_lex.specs.declared.fault.LexFault.{LexFault}
use Rattle.icn_lex.specs.declared.fault.LexFault.TheVariants.{Broken as BrokenFault, NoMemory}
use Rattle.icn_lex.specs.Literals.{Later, scan_line}
use Rattle.icn_lex.specs.Outcomes.{FaultIs, Reads, outcome_of}
use Rattle.icn_lex.proofs.ReadSoFar.{reads_same, reads_fault, reads_end}

-- what later lines give
abbrev pub later_of : List SourceLine → ℕ → Later
later_of lines i = λ begun. lines_from (drop i lines) begun

line_of : (line : SourceLine) (lines : List SourceLine) (begun : Option OpenLiteral)
    → lines_from (line ∷ lines) begun ≡ line_from (λ literal. lines_from lines literal) line begun
unfolding lines_from
line_of line lines begun = refl

-- one line more
pub line_more : (lines : List SourceLine) (i : ℕ) (line : SourceLine) (begun : Option OpenLiteral) → i < length lines → line ≡ get_or lines i line
    → lines_from (drop i lines) begun ≡ scan_line line begun (later_of lines (i + 1))
line_more lines i line begun within is =
    let cut : drop i lines ≡ line ∷ drop (suc i) lines = drop-cons lines i line within ∙ ap (λ first. first ∷ drop (suc i) lines) (sym is) in
    let next : suc i ≡ i + 1 = omega arith in
    ap (λ rest. lines_from rest begun) cut ∙ (line_of line (drop (suc i) lines) begun ∙ ap (λ k. line_from (later_of lines k) line begun) next)

pub fault_outcome : {Z : Type 0} (lines : List SourceLine) (fault : LexFault) → FaultIs fault (lines_from lines None)
    → let result : Result (Vec Token Z) LexFault = Err fault in (result ≡ Err NoMemory) ⊎ (outcome_of result ≡ Some (tokens_of lines))
unfolding tokens_of
fault_outcome lines NoMemory e = inl refl
fault_outcome lines (BrokenFault rule file line) e = inr (ap (λ scan. Some (finish_scan scan)) (sym e))

pub unclosed_outcome : {Z : Type 0} (lines : List SourceLine) (found : List Token) (i : ℕ) (literal : OpenLiteral) → length lines ≤ i
    → Reads (lines_from lines None) found (lines_from (drop i lines) (Some literal))
    → let result : Result (Vec Token Z) LexFault = Err (BrokenFault L2 literal.file literal.line) in
    (result ≡ Err NoMemory) ⊎ (outcome_of result ≡ Some (tokens_of lines))
unfolding tokens_of lines_from
unclosed_outcome lines found i literal h r =
    let here : lines_from (drop i lines) (Some literal)
    ≡ Broken L2 literal.line literal.file = ap (λ rest. lines_from rest (Some literal)) (drop_all i lines h) in
    inr (ap (λ scan. Some (finish_scan scan)) (sym (reads_fault (lines_from lines None) found _ L2 literal.line literal.file here r)))

pub scanned_outcome : (lines : List SourceLine) (found : List Token) (i : ℕ) → length lines ≤ i
    → Reads (lines_from lines None) found (lines_from (drop i lines) None) → Scanned found ≡ tokens_of lines
unfolding tokens_of lines_from
scanned_outcome lines found i h r =
    let here : lines_from (drop i lines) None ≡ Found [] = ap (λ rest. lines_from rest None) (drop_all i lines h) in
    let ends = reads_end (lines_from lines None) found (reads_same (lines_from lines None) found _ (Found []) here r) in
    ap Scanned ends.2 ∙ ap finish_scan (sym ends.1)

-- What an answer of `tokens` tells a caller

-- tokens that the scanner answers are those of the lines
pub found_tokens : {Z : Type 0} (lines : List SourceLine) (tokens : Vec Token Z) → let result : Result (Vec Token Z) LexFault = Ok tokens in
    (result ≡ Err NoMemory) ⊎ (outcome_of result ≡ Some (tokens_of lines))
    → tokens_of lines ≡ Scanned tokens.items
found_tokens lines tokens (inl e) = absurd (cc)
found_tokens lines tokens (inr e) = sym (same_Some _ _ e)

pub fault_of : {Z : Type 0} (lines : List SourceLine) (rule : Rule) (file line : ℕ)
    → let result : Result (Vec Token Z) LexFault = Err (BrokenFault rule file line) in
    (result ≡ Err NoMemory) ⊎ (outcome_of result ≡ Some (tokens_of lines)) → tokens_of lines ≡ Fault rule file line
fault_of lines rule file line (inl e) = absurd (cc)
fault_of lines rule file line (inr e) = sym (same_Some _ _ e)
