-- The run of a whole code in which no text names what is dropped, and that of the pruned code, are observed alike.
use Rattle.std.proofs.Common.{◌≡◌, ℕ, zero, Bool, false, true, List, [], ◌∷◌, length, None, refl, sym, ◌∙◌}
use Rattle.std.specs.Prelude.{◌↔◌, replicate}
use Rattle.icn_value.specs.Values.{Null}
use Rattle.icn_code.specs.Codes.{Tables}
use Rattle.icn_code.specs.Rules.{keeps_rules}
use Rattle.icn_defs.specs.KeptProcedures.{dropped_numbers}
use Rattle.icn_defs.specs.Running.{Launch, Observation}
use Rattle.icn_prune.specs.KeptCode.{MayBeKept}
use Rattle.icn_prune.specs.PrunedCode.{pruned_tables}
use Rattle.icn_prune.proofs.TableRules.{AreRuled, each_rule}
use Rattle.icn_run.specs.Chains.{WaitingChain, empty, linked_calls}
use Rattle.icn_run.specs.LinkedStep as Linked
use Rattle.icn_run.specs.LinkedStep.{repeats_anywhere, repeats_of}
use Rattle.icn_run.specs.FlatStep as Flat
use Rattle.law_stacks.proofs.SecondLaw.{agrees_everywhere}
use Rattle.icn_run.specs.Step as S
use Rattle.icn_run.specs.Step.{Active, Store, main_of}
use Rattle.law_prune.proofs.RelatedLists.{both_nil, neither}
use Rattle.law_prune.proofs.RelatedSettings.{Renaming}
use Rattle.law_prune.proofs.RelatedChains.{CallsTo, at_empty, linked_to}
use Rattle.law_prune.proofs.RelatedStates.{StoreParts, StoreTo, active_to, coexps_to}
use Rattle.law_prune.proofs.RelatedSteps.{Sta, after, seen_alike, started}
use Rattle.law_prune.proofs.RelatedNames.{renamed}
use Rattle.law_prune.proofs.RelatedTables.{begun_to, code_to, entries_to, globals_to, main_to, repeats_to, statics_to}

module _ (T : Tables) (keep : List Bool) (r : AreRuled T) (k : MayBeKept T keep) (repeats others : ℕ → ℕ → Bool)
    (agree : (p q address : ℕ) → (renamed T keep r k).To p q → repeats p address ≡ others q address) (launch : Launch) where
  abbrev R : Renaming
  R = renamed T keep r k

  abbrev Q : Tables
  Q = pruned_tables keep T

  abbrev G : CallsTo R (linked_calls repeats) (linked_calls others)
  G = linked_to R repeats others agree

  abbrev first : Store WaitingChain
  first = record (S.first_store T launch) { names = S.names_hiding (dropped_numbers keep) T }

  abbrev first_parts : StoreParts WaitingChain
  first_parts = record {
    parts = record {
      lists = [];
      sets = [];
      tables = [];
      records = [];
      globals = S.first_globals Q;
      statics = replicate (S.static_count Q) Null;
      locals = [];
      kept = None;
    };
    begun = replicate (length Q.procs) false;
    coexps = record { status = Active; activator = zero; values = []; proc = zero; address = zero } ∷ [];
    names = S.all_names Q;
  }

  first_to : StoreTo R G.Away first first_parts
  first_to = record {
    parts = record {
      lists = both_nil;
      sets = both_nil;
      tables = both_nil;
      records = both_nil;
      globals = globals_to T keep r k;
      statics = statics_to T keep r k;
      locals = both_nil;
      kept = neither;
    };
    begun = begun_to T keep r k;
    coexps = coexps_to (record { status = active_to; activator = refl; made = λ f. absurd f }) both_nil;
    whole = refl;
    left = refl;
  }

  starts : Sta R (linked_calls repeats) (linked_calls others) G T Q (code_to T keep r k) (Linked.start_hiding repeats T (dropped_numbers keep) launch)
      (Linked.start others Q launch)
  starts = started R (linked_calls repeats) (linked_calls others) G T Q (code_to T keep r k) launch.words (main_of T) (main_of Q) empty empty first first_parts
      (main_to T keep r k) (entries_to T keep r k) (at_empty R repeats others agree) first_to

  seen_after : (n : ℕ) → S.observation (Linked.steps repeats T n (Linked.start_hiding repeats T (dropped_numbers keep) launch))
      ≡ S.observation (Linked.steps others Q n (Linked.start others Q launch))
  seen_after n = seen_alike R (linked_calls repeats) (linked_calls others) G T Q (code_to T keep r k) _ _
      (after R (linked_calls repeats) (linked_calls others) G T Q (code_to T keep r k) n _ _ starts)

  pub marks_alike : (seen : Observation) → Linked.RunsHiding repeats (dropped_numbers keep) T launch seen ↔ Linked.Runs others Q launch seen
  marks_alike seen = (
    λ run. record { count = run.count; is = sym (seen_after run.count) ∙ run.is },
    λ run. record { count = run.count; is = seen_after run.count ∙ run.is },
  )

-- on linked marks
pub pruned_marks : (tables : Tables) (keep : List Bool) (launch : Launch) (seen : Observation) → keeps_rules tables ≡ true → MayBeKept tables keep
    → Linked.RunsHiding (repeats_of tables) (dropped_numbers keep) tables launch seen ↔ Linked.Runs (repeats_of (pruned_tables keep tables)) (pruned_tables keep tables) launch seen
pruned_marks tables keep launch seen h k =
    let r : AreRuled tables = each_rule tables h in
    marks_alike tables keep r k (repeats_of tables) (repeats_of (pruned_tables keep tables)) (repeats_to tables keep r k) launch seen

-- on flat stacks, which agree with linked marks where these may change their labels everywhere
pub pruned_stacks : (tables : Tables) (keep : List Bool) (launch : Launch) (seen : Observation) → keeps_rules tables ≡ true → MayBeKept tables keep
    → Flat.RunsHiding (dropped_numbers keep) tables launch seen ↔ Flat.Runs (pruned_tables keep tables) launch seen
pruned_stacks tables keep launch seen h k =
    let r : AreRuled tables = each_rule tables h in
    let whole = agrees_everywhere (dropped_numbers keep) tables launch in
    let left = agrees_everywhere [] (pruned_tables keep tables) launch in
    let both = marks_alike tables keep r k repeats_anywhere repeats_anywhere (λ p q address t. refl) launch seen in
    (λ run. left.to_flat seen (both.0 (whole.to_linked seen run)), λ run. whole.to_flat seen (both.1 (left.to_linked seen run)))
