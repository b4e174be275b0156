-- What tokens come to: one thing, and one alone.
use Rattle.std.proofs.Common.{◌≡◌, List, [], ◌∷◌, Option, Some, Result, Ok, Err, refl, sym, ap, ◌∙◌}
use Rattle.std.proofs.lemmas.Option.{none-some, same_Some}
use Rattle.icn_tree.specs.declared.rule.Rule.{Rule}
use Rattle.icn_tree.specs.declared.rule.Rule.TheVariants.{S1, S2, S3}
use Rattle.icn_tree.specs.declared.token.Token.{Token}
use Rattle.icn_tree.specs.declared.tree.Place.{Place}
use Rattle.icn_tree.specs.Trees.{Declaration}
use Rattle.icn_parse.specs.Outcomes.{Parsed, NoProgram, TooHigh, Faulty, IsTree, UnknownKeyword, IsOutcome}
use Rattle.icn_parse.specs.Views.{broken_by as unparsed_by}
use Rattle.icn_parse.proofs.ReadOutcomes.{one_outcome, some_outcome}
use Rattle.icn_decls.specs.Contexts.{BrokenRule}
use Rattle.icn_decls.specs.Faults.{context_faults}
use Rattle.icn_decls.specs.Views.{first_of}
use Rattle.icont_units.specs.Translating.{TokensGive, not_parsed, out_of_context, is_file}
use Rattle.icont_units.proofs.EqualResults.{ok_injective}

abbrev pub Verdict : Type 0
Verdict = Result (List Declaration) (Rule × Place)

-- line 0 of the named file, the place of what has no token
abbrev pub whole_file : Place
whole_file = record { line = 0; file = 0 }

abbrev by_context : List BrokenRule → List Declaration → Verdict
by_context [] file = Ok file
by_context (fault ∷ faults) file = Err (fault.rule, fault.place)

abbrev verdict : Parsed → Verdict
verdict (NoProgram place) = Err (S1, place)
verdict (TooHigh place) = Err (S2, place)
verdict (Faulty (UnknownKeyword place)) = Err (S3, place)
verdict (IsTree file) = by_context (context_faults file) file

-- each stage

told : (a b : Rule × Place) → ◌≡◌ {A = Option (Rule × Place)} (Some a) (Some b) → ◌≡◌ {A = Verdict} (Err a) (Err b)
told a b e = ap (λ broken. Err broken) (same_Some a b e)

when_broken : (outcome : Parsed) (rule : Rule) (place : Place) → unparsed_by outcome ≡ Some (rule, place) → verdict outcome ≡ Err (rule, place)
when_broken (NoProgram p) rule place e = told _ _ e
when_broken (TooHigh p) rule place e = told _ _ e
when_broken (Faulty (UnknownKeyword p)) rule place e = told _ _ e
when_broken (IsTree file) rule place e = absurd (none-some (rule, place) e)

when_out_of_context : (faults : List BrokenRule) (file : List Declaration) (fault : BrokenRule) → first_of faults ≡ Some fault
    → by_context faults file ≡ Err (fault.rule, fault.place)
when_out_of_context [] file fault e = absurd (none-some fault e)
when_out_of_context (first ∷ faults) file fault e = ap (λ (f : BrokenRule). Err (f.rule, f.place)) (same_Some first fault e)

when_in_context : (file : List Declaration) → context_faults file ≡ [] → verdict (IsTree file) ≡ Ok file
when_in_context file e = ap (λ faults. by_context faults file) e

-- what tokens come to is what their outcome comes to
record OfOutcome (tokens : List Token) (found : Verdict) : Type 0 where
  pub outcome : Parsed
  pub is : IsOutcome tokens outcome
  pub same : found ≡ verdict outcome

of_outcome : {tokens : List Token} (found : Verdict) → TokensGive tokens found → OfOutcome tokens found
of_outcome _ (not_parsed outcome rule place is e) = record { outcome = outcome; is = is; same = sym (when_broken outcome rule place e) }
of_outcome _ (out_of_context file fault is e) =
    record { outcome = IsTree file; is = is; same = sym (when_out_of_context (context_faults file) file fault e) }
of_outcome _ (is_file file is e) = record { outcome = IsTree file; is = is; same = sym (when_in_context file e) }

pub one_become : (tokens : List Token) (a b : Verdict) → TokensGive tokens a → TokensGive tokens b → a ≡ b
one_become tokens a b x y =
    let p = of_outcome a x in
    let q = of_outcome b y in
    p.same ∙ (ap verdict (one_outcome tokens p.outcome q.outcome p.is q.is) ∙ sym q.same)

pub one_program : (tokens : List Token) (a b : List Declaration) → TokensGive tokens (Ok a) → TokensGive tokens (Ok b) → a ≡ b
one_program tokens a b x y = ok_injective a b (one_become tokens (Ok a) (Ok b) x y)

-- there is one

by_faults : (tokens : List Token) (file : List Declaration) → IsOutcome tokens (IsTree file) → (faults : List BrokenRule) → context_faults file ≡ faults
    → (v : Verdict) × TokensGive tokens v
by_faults tokens file is [] e = (_, is_file file is e)
by_faults tokens file is (fault ∷ faults) e = (_, out_of_context file fault is (ap first_of e))

by_outcome : (tokens : List Token) (outcome : Parsed) → IsOutcome tokens outcome → (v : Verdict) × TokensGive tokens v
by_outcome tokens (NoProgram place) is = (_, not_parsed (NoProgram place) S1 place is refl)
by_outcome tokens (TooHigh place) is = (_, not_parsed (TooHigh place) S2 place is refl)
by_outcome tokens (Faulty (UnknownKeyword place)) is = (_, not_parsed (Faulty (UnknownKeyword place)) S3 place is refl)
by_outcome tokens (IsTree file) is = by_faults tokens file is (context_faults file) refl

pub some_become : (tokens : List Token) → (v : Verdict) × TokensGive tokens v
some_become tokens = let some = some_outcome tokens in by_outcome tokens some.0 some.1
