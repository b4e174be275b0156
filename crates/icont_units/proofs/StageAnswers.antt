-- What the stages behind the tokens answer.
use Rattle.std.proofs.Common.{◌≡◌, ◌⊎◌, inl, inr, ℕ, List, Option, Some, Result, Ok, Err, IfErr, refl, sym, ap, subst, ◌∙◌}
use Rattle.std.proofs.lemmas.Option.{none-some, same_Some}
use Rattle.icn_tree.specs.declared.rule.Rule.{Rule}
use Rattle.icn_tree.specs.declared.rule.Rule.TheVariants.{K2}
use Rattle.icn_tree.specs.declared.token.Token.{Token}
use Rattle.icn_tree.specs.declared.tree.Place.{Place}
use Rattle.icn_tree.specs.Trees.{Declaration}
use Rattle.icn_parse.specs.declared.fault.ParseFault.{ParseFault}
use Rattle.icn_parse.specs.declared.fault.ParseFault.TheVariants as Parse
use Rattle.icn_parse.specs.Outcomes.{Parsed, NoProgram, TooHigh, Faulty, UnknownKeyword, IsTree, IsOutcome}
use Rattle.icn_parse.specs.Views.{Breaks, broken_by}
use Rattle.icn_decls.specs.declared.fault.ContextFault.{ContextFault}
use Rattle.icn_decls.specs.declared.fault.ContextFault.TheVariants as Context
use Rattle.icn_decls.specs.Faults.{context_faults}
use Rattle.icn_decls.specs.Views.{Checks}
use Rattle.icn_answer.specs.declared.answer.Answer.{Answer}
use Rattle.icn_answer.specs.declared.answer.Answer.TheVariants.{Refused, NoMemory}
use Rattle.icont_units.specs.Faults.{of_parse, of_context}
use Rattle.icont_units.specs.Sources.{refused_at, IsTreeRule, IsOfRead, IsOfTokens}
use Rattle.icont_units.specs.Stages.{Stops}
use Rattle.icont_units.specs.Translating.{TokensGive, not_parsed, out_of_context, is_file}
use Rattle.icont_units.proofs.ContextRules.{context_rules}
use Rattle.icont_units.proofs.EqualResults.{err_injective, ok_is_not_err}

pub parse_stops : (tokens : List Token) (fault : ParseFault) → Breaks (IsOutcome tokens) fault → Stops tokens (of_parse fault)
parse_stops tokens (Parse.Broken rule file line) b = not_parsed b.0 rule (record { line = line; file = file }) b.1 b.2
parse_stops tokens Parse.NoMemory b = tt

pub context_stops : (tokens : List Token) (file : List Declaration) (fault : ContextFault) → IsOutcome tokens (IsTree file)
    → Checks (context_faults file) (Err fault) → Stops tokens (of_context fault)
context_stops tokens file (Context.Broken rule f line) is e = out_of_context file (record { rule = rule; place = record { line = line; file = f } }) is (sym e)
context_stops tokens file Context.NoMemory is e = tt

-- the rules that refuse tokens

rule_is : (a b : Rule) (p place : Place) → ◌≡◌ {A = Option (Rule × Place)} (Some (a, p)) (Some (b, place)) → IsTreeRule a → IsTreeRule b
rule_is a b p place e h = subst IsTreeRule (ap (λ (broken : Rule × Place). broken.0) (same_Some (a, p) (b, place) e)) h

parse_rules : (outcome : Parsed) (rule : Rule) (place : Place) → broken_by outcome ≡ Some (rule, place) → IsTreeRule rule
parse_rules (NoProgram p) rule place e = rule_is _ rule _ place e tt
parse_rules (TooHigh p) rule place e = rule_is _ rule _ place e tt
parse_rules (Faulty (UnknownKeyword p)) rule place e = rule_is _ rule _ place e tt
parse_rules (IsTree file) rule place e = absurd (none-some (rule, place) e)

found_rules : {tokens : List Token} (found : Result (List Declaration) (Rule × Place)) → TokensGive tokens found → (rule : Rule) (place : Place)
    → found ≡ Err (rule, place) → IsTreeRule rule
found_rules _ (not_parsed outcome r p is e) rule place same =
    parse_rules outcome rule place (e ∙ ap (λ broken. Some broken) (err_injective (r, p) (rule, place) same))
found_rules _ (out_of_context file fault is e) rule place same =
    subst IsTreeRule (ap (λ (broken : Rule × Place). broken.0) (err_injective (fault.rule, fault.place) (rule, place) same)) (context_rules file fault e)
found_rules _ (is_file file is e) rule place same = absurd (ok_is_not_err file (rule, place) same)

-- a refusal, or want of memory
pub refused_rules : (names : List (List ℕ)) (tokens : List Token) (rule : Rule) (place : Place) (answer : Answer) → TokensGive tokens (Err (rule, place))
    → (answer ≡ refused_at names rule place) ⊎ (answer ≡ NoMemory) → IsOfTokens answer
refused_rules names tokens rule place answer are (inl e) = rw e (found_rules (Err (rule, place)) are rule place refl)
refused_rules names tokens rule place answer are (inr e) = rw e tt

-- no rule of trees and contexts speaks of a file that is linked
tree_unlinked : (rule : Rule) → IsTreeRule rule → rule ≡ K2 → ⊥
tree_unlinked rule is same = rw same at is

of_tokens : (answer : Answer) → IsOfTokens answer → IsOfRead answer
of_tokens (Refused file line rule) is = tree_unlinked rule is
of_tokens NoMemory is = tt
of_tokens _ is = absurd is

-- what tokens come to is what is read
pub tokens_others : {A : Type 0} (result : Result A Answer) → IfErr result IsOfTokens → IfErr result IsOfRead
tokens_others (Ok a) is = tt
tokens_others (Err answer) is = of_tokens answer is
