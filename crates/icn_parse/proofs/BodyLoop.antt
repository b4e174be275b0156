-- The loop of a procedure's body.
use Rattle.std.proofs.Common.{◌≡◌, ℕ, zero, suc, ◌<◌, ◌≤◌, false, List, length, Option, Some, ap, ◌∙◌, arith}
use Rattle.icn_tree.specs.declared.token.Kind.TheVariants.{Punctuation as PunctuationKind}
use Rattle.icn_tree.specs.declared.token.Token.{Token}
use Rattle.icn_tree.specs.declared.token.Punctuation.TheVariants.{Semicolon}
use Rattle.icn_tree.specs.Phrases.{next}
use Rattle.icn_tree.specs.Trees.{Tree, Trees, Clauses}
use Rattle.icn_expr.specs.Capped.{WithHeight, builds_with_height}
use Rattle.icn_expr.specs.Reading.{expression_read}
use Rattle.icn_expr.proofs.CappedRuns.{capped_shows}
use Rattle.icn_expr.proofs.Exact.{expression_sound}
use Rattle.icn_parse.specs.FileReading.{◌>>=◌, is_end, is_semicolon, sign_read, body_by, body_read}
use Rattle.icn_parse.proofs.NamesExact.{sign_sound}
use Rattle.icn_parse.proofs.HeadsExact.{semicolon_tests, sign_shorter}
use Rattle.icn_parse.proofs.BodiesExact.{part_shorter}

-- no expression leaves more than there was
pub value_shorter : (level : ℕ) (here after : List Token) (value : WithHeight Tree) → level ≤ 12
    → expression_read builds_with_height level here ≡ Some (value, after)
    → length after ≤ length here
value_shorter level here after value h e =
    let p = expression_sound (WithHeight Tree) (WithHeight Trees) (WithHeight Clauses) builds_with_height capped_shows level here after value h e in
    part_shorter level p.tree here after p.part

-- so many steps from here are what all of it is
pub record BodySo (tokens : List Token) (done : WithHeight Trees) (rest : List Token) : Type 0 where
  pub steps : ℕ
  pub enough : length rest ≤ steps
  pub is : body_read builds_with_height (suc (length tokens)) builds_with_height.no_elements tokens ≡ body_read builds_with_height (suc steps) done rest

-- an expression and its semicolon
pub body_shorter : (rest middle after : List Token) (value : WithHeight Tree) → expression_read builds_with_height 0 rest ≡ Some (value, middle)
    → sign_read is_semicolon middle ≡ Some after → length after < length rest
body_shorter rest middle after value e s =
    omega (
      arith,
      value_shorter 0 rest middle value (omega arith) e,
      sign_shorter (PunctuationKind Semicolon) middle after (sign_sound is_semicolon (PunctuationKind Semicolon) semicolon_tests middle after s),
    )

pub body_more : (tokens : List Token) (done : WithHeight Trees) (rest middle after : List Token) (value : WithHeight Tree)
    → BodySo tokens done rest → is_end (next rest) ≡ false → expression_read builds_with_height 0 rest ≡ Some (value, middle)
    → sign_read is_semicolon middle ≡ Some after
    → BodySo tokens (builds_with_height.with_element done value) after
body_more tokens done rest middle after value so f e s = by_steps so.steps so.enough so.is
  where
    by_steps : (steps : ℕ) → length rest ≤ steps
        → body_read builds_with_height (suc (length tokens)) builds_with_height.no_elements tokens ≡ body_read builds_with_height (suc steps) done rest
        → BodySo tokens (builds_with_height.with_element done value) after
    by_steps zero h is = absurd (omega (arith, h, body_shorter rest middle after value e s))
    by_steps (suc steps) h is = record {
      steps = steps;
      enough = omega (arith, h, body_shorter rest middle after value e s);
      is = is ∙ ap (λ b. body_by builds_with_height b (body_read builds_with_height (suc steps)) done rest) f
          ∙ ap (λ (o : Option (WithHeight Tree × List Token)). o
          >>= λ v. sign_read is_semicolon v.1 >>= λ r. body_read builds_with_height (suc steps) (builds_with_height.with_element done v.0) r) e
          ∙ ap (λ (o : Option (List Token)). o >>= λ r. body_read builds_with_height (suc steps) (builds_with_height.with_element done value) r) s;
    }
