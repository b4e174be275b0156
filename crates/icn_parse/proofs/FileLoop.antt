-- The loop of the declarations.
use Rattle.std.proofs.Common.{◌≡◌, ℕ, zero, suc, ◌<◌, ◌≤◌, inl, inr, List, [], ◌∷◌, length, Option, Some, None, refl, sym, ap, ◌∙◌, arith, length-append}
use Rattle.std.proofs.lemmas.Option.{none-some, same_Some}
use Rattle.std.specs.Option.{option_map}
use Rattle.icn_tree.specs.declared.token.Token.{Token}
use Rattle.icn_tree.specs.declared.tree.Place.{Place}
use Rattle.icn_tree.specs.Phrases.{next}
use Rattle.icn_tree.specs.Trees.{Tree, Trees, Clauses, Declaration}
use Rattle.icn_tree.proofs.FormStretches.{declaration_framed}
use Rattle.icn_expr.specs.Capped.{WithHeight, builds_with_height}
use Rattle.icn_expr.proofs.CappedRuns.{capped_shows}
use Rattle.icn_parse.specs.FileReading.{◌>>=◌, declaration_read, file_read}
use Rattle.icn_parse.specs.KeptDeclarations.{CappedDeclaration, Finish, finish, high_with, done_with, kept_declarations}
use Rattle.icn_parse.specs.declared.stop.ParseStop.{ParseStop}
use Rattle.icn_parse.specs.Views.{ReadsNothing, finished_read}
use Rattle.icn_parse.proofs.DeclarationsExact.{declaration_sound}

-- the declaration behind what it comes to
pub record Reads (read : Option (CappedDeclaration × List Token)) (finished : Finish) (after : List Token) : Type 0 where
  pub declaration : CappedDeclaration
  pub is : read ≡ Some (declaration, after)
  pub finishes : finish declaration ≡ finished

pub reads_of : (read : Option (CappedDeclaration × List Token)) (finished : Finish) (after : List Token) → finished_read read ≡ Some (finished, after)
    → Reads read finished after
reads_of None finished after e = absurd (none-some (finished, after) e)
reads_of (Some found) finished after e =
    let same = same_Some (finish found.0, found.1) (finished, after) e in
    record {
      declaration = found.0;
      is = ap (λ (r : Finish × List Token). Some (found.0, r.1)) same;
      finishes = ap (λ (r : Finish × List Token). r.0) same;
    }

pub declaration_shorter : (rest after : List Token) (finished : Finish) → finished_read (declaration_read builds_with_height rest) ≡ Some (finished, after)
    → length after < length rest
declaration_shorter rest after finished e =
    let r = reads_of (declaration_read builds_with_height rest) finished after e in
    let s = declaration_sound (WithHeight Tree) (WithHeight Trees) (WithHeight Clauses) builds_with_height capped_shows
    (next rest) rest r.declaration after refl r.is in
    let f = declaration_framed s.0 rest after s.1 in
    omega (arith, ap length f.is, length-append f.taken after)

-- so many steps from here are what all of it is
pub record FileSo (tokens : List Token) (high : Option Place) (done : List Declaration) (rest : List Token) : Type 0 where
  pub steps : ℕ
  pub enough : length rest ≤ steps
  pub is : option_map (kept_declarations None []) (file_read builds_with_height (length tokens) tokens)
      ≡ option_map (kept_declarations high done) (file_read builds_with_height steps rest)

pub file_begun : (tokens : List Token) → FileSo tokens None [] tokens
file_begun tokens = record { steps = length tokens; enough = omega arith; is = refl }

joins : (high : Option Place) (done : List Declaration) (declaration : CappedDeclaration) (others : Option (List CappedDeclaration))
    → option_map (kept_declarations high done) (others >>= λ o. Some (declaration ∷ o))
    ≡ option_map (kept_declarations (high_with high (finish declaration)) (done_with done (finish declaration))) others
joins high done declaration None = refl
joins high done declaration (Some others) = refl

pub file_more : (tokens : List Token) (high : Option Place) (done : List Declaration) (rest after : List Token) (finished : Finish)
    → FileSo tokens high done rest → finished_read (declaration_read builds_with_height rest) ≡ Some (finished, after)
    → FileSo tokens (high_with high finished) (done_with done finished) after
file_more tokens high done [] after finished so e = absurd (omega (arith, declaration_shorter [] after finished e))
file_more tokens high done (token ∷ rest) after finished so e = by_steps so.steps so.enough so.is
  where
    by_steps : (steps : ℕ) → length (token ∷ rest) ≤ steps → option_map (kept_declarations None []) (file_read builds_with_height (length tokens) tokens)
        ≡ option_map (kept_declarations high done) (file_read builds_with_height steps (token ∷ rest))
        → FileSo tokens (high_with high finished) (done_with done finished) after
    by_steps zero h is = absurd (omega (arith, h))
    by_steps (suc steps) h is =
        let r = reads_of (declaration_read builds_with_height (token ∷ rest)) finished after e in
        record {
          steps = steps;
          enough = omega (arith, h, declaration_shorter (token ∷ rest) after finished e);
          is = is ∙ ap (λ (o : Option (CappedDeclaration × List Token)). option_map (kept_declarations high done) (o
              >>= λ first. file_read builds_with_height steps first.1 >>= λ others. Some (first.0 ∷ others))) r.is
              ∙ joins high done r.declaration (file_read builds_with_height steps after)
              ∙ ap (λ f. option_map (kept_declarations (high_with high f) (done_with done f)) (file_read builds_with_height steps after)) r.finishes;
        }

unread : (read : Option (CappedDeclaration × List Token)) → finished_read read ≡ None → read ≡ None
unread None e = refl
unread (Some found) e = absurd (none-some _ (sym e))

-- what stands here is no declaration
pub file_stops : (tokens : List Token) (high : Option Place) (done : List Declaration) (rest : List Token) → FileSo tokens high done rest → 0 < length rest
    → finished_read (declaration_read builds_with_height rest) ≡ None → file_read builds_with_height (length tokens) tokens ≡ None
file_stops tokens high done [] so some e = absurd (omega (arith, some))
file_stops tokens high done (token ∷ rest) so some e =
    none_before (file_read builds_with_height (length tokens) tokens) (so.is ∙ ap (option_map (kept_declarations high done)) (by_steps so.steps))
  where
    by_steps : (steps : ℕ) → file_read builds_with_height steps (token ∷ rest) ≡ None
    by_steps zero = refl
    by_steps (suc steps) =
        ap (λ (o : Option (CappedDeclaration × List Token)). o >>= λ first. file_read builds_with_height steps first.1 >>= λ others. Some (first.0 ∷ others))
        (unread (declaration_read builds_with_height (token ∷ rest)) e)

    none_before : (o : Option (List CappedDeclaration)) → option_map (kept_declarations None []) o ≡ None → o ≡ None
    none_before None e = refl
    none_before (Some all) e = absurd (none-some _ (sym e))

pub file_stopped : (tokens : List Token) (high : Option Place) (done : List Declaration) (rest : List Token) (stop : ParseStop) → FileSo tokens high done rest
    → 0 < length rest → ReadsNothing (finished_read (declaration_read builds_with_height rest)) stop
    → ReadsNothing (file_read builds_with_height (length tokens) tokens) stop
file_stopped tokens high done rest stop so some (inl is) = inl is
file_stopped tokens high done rest stop so some (inr e) = inr (file_stops tokens high done rest so some e)
