-- The unit of the program of a number.
use Rattle.std.proofs.Common.{◌≡◌, ◌⊎◌, inl, inr, ℕ, List, [], ◌∷◌, Result, Ok, Err, refl, sym, ap, subst, ◌∙◌}
use Rattle.icn_tree.specs.declared.lines.SourceLine.{SourceLine}
use Rattle.icn_tree.specs.Tokens.{Tokenized, Scanned, Fault, tokens_of}
use Rattle.icn_answer.specs.declared.answer.Answer.{Answer}
use Rattle.icn_answer.specs.Answers.{IsFault}
use Rattle.icont_units.specs.declared.members.Members.{Members}
use Rattle.icont_units.specs.Generated.{GeneratedComes, broken, generated_base, generated_lines, generated_name, made, not_scanned}
use Rattle.icont_units.specs.Generating.{AreMember, IsGenerated}
use Rattle.icont_units.specs.Sources.{ScannedSource, refused_at, tokens_read}
use Rattle.icont_units.specs.Units.{FromSource}
use Rattle.icont_units.proofs.EqualResults.{err_injective, ok_injective, ok_is_not_err}

-- the made lines have these tokens
pub record AreRead (number : ℕ) (scan : ScannedSource) : Type 0 where
  names : scan.names ≡ generated_name ∷ []
  tokens : tokens_of (generated_lines number) ≡ Scanned scan.tokens

-- what the names and the lines give is what the made lines give
read_made : (number : ℕ) (names : List (List ℕ)) (lines : List SourceLine) → names ≡ generated_name ∷ [] → lines ≡ generated_lines number
    → tokens_read (generated_name ∷ []) (tokens_of (generated_lines number)) ≡ tokens_read names (tokens_of lines)
read_made number names lines named are =
    ap (λ ls. tokens_read (generated_name ∷ []) (tokens_of ls)) (sym are) ∙ ap (λ ns. tokens_read ns (tokens_of lines)) (sym named)

of_outcome : (number : ℕ) (outcome : Tokenized) (scan : ScannedSource) → tokens_of (generated_lines number) ≡ outcome
    → tokens_read (generated_name ∷ []) outcome ≡ Ok scan → AreRead number scan
of_outcome number (Scanned tokens) scan is e =
    let same : ◌≡◌ {A = ScannedSource} (record { names = generated_name ∷ []; tokens = tokens }) scan = ok_injective _ scan e in
    record { names = ap (λ (s : ScannedSource). s.names) (sym same); tokens = is ∙ ap (λ (s : ScannedSource). Scanned s.tokens) same }
of_outcome number (Fault rule file line) scan is e =
    absurd (ok_is_not_err scan (refused_at (generated_name ∷ []) rule (record { line = line; file = file })) (sym e))

pub are_read : (number : ℕ) (names : List (List ℕ)) (lines : List SourceLine) (scan : ScannedSource) → names ≡ generated_name ∷ []
    → lines ≡ generated_lines number
    → tokens_read names (tokens_of lines) ≡ Ok scan → AreRead number scan
are_read number names lines scan named are e =
    of_outcome number (tokens_of (generated_lines number)) scan refl (read_made number names lines named are ∙ e)

-- Refusals

of_fault : (number : ℕ) (outcome : Tokenized) (answer : Answer) → tokens_of (generated_lines number) ≡ outcome
    → tokens_read (generated_name ∷ []) outcome ≡ Err answer → GeneratedComes number (Err answer)
of_fault number (Scanned tokens) answer is e = absurd (ok_is_not_err (record { names = generated_name ∷ []; tokens = tokens }) answer e)
of_fault number (Fault rule file line) answer is e =
    subst (λ a. GeneratedComes number (Err a)) (err_injective (refused_at (generated_name ∷ []) rule (record { line = line; file = file })) answer e)
    (not_scanned rule file line is)

pub not_read : (number : ℕ) (names : List (List ℕ)) (lines : List SourceLine) (answer : Answer) → names ≡ generated_name ∷ [] → lines ≡ generated_lines number
    → IsFault answer ⊎ (tokens_read names (tokens_of lines) ≡ Err answer) → IsFault answer ⊎ GeneratedComes number (Err answer)
not_read number names lines answer named are (inl f) = inl f
not_read number names lines answer named are (inr e) =
    inr (of_fault number (tokens_of (generated_lines number)) answer refl (read_made number names lines named are ∙ e))

-- What the tokens come to

pub member_comes : (number : ℕ) (scan : ScannedSource) (result : Result Members Answer) → AreRead number scan → AreMember scan result
    → IsGenerated number result
member_comes number scan (Ok held) read (file, (become, stands)) = (FromSource generated_base file ∷ [], (made scan.tokens file read.tokens become, stands))
member_comes number scan (Err answer) read (inl none) = inl (subst IsFault (sym none) refl)
member_comes number scan (Err answer) read (inr (rule, (place, (become, e)))) =
    inr (subst (λ a. GeneratedComes number (Err a)) (sym (e ∙ ap (λ names. refused_at names rule place) read.names))
    (broken scan.tokens rule place read.tokens become))
