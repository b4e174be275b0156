-- How the arguments of a search are found.
use Rattle.std.proofs.Common.{◌≡◌, ◌∙◌, sym, ap, subst, List, ℕ, [], ◌∷◌, Result}
use Rattle.std.specs.Prelude.{IsErrAnd}
use Rattle.icn_value.specs.Values.{Value}
use Rattle.icn_value.specs.Store.{Setting}
use Rattle.icn_defs.specs.Arguments.{arg, cset, string}
use Rattle.icn_defs.specs.Calls.{GoesOn, Passes}
use Rattle.icn_defs.specs.Conversions.{form_of, text_made}
use Rattle.icn_defs.specs.Rows.{Row, Finds, costs_texts}
use Rattle.icn_defs.specs.Scanning.{SearchedText, region_from}
use Rattle.icn_heap.specs.Extents.{Extent}
use Rattle.icn_vars.specs.declared.stop.Stop.{Stop}
use Rattle.icn_vars.specs.Stops.{StopsFinding, StopsPassing}
use Rattle.icn_args.specs.RowWords.{IsFound}
use Rattle.icn_args.proofs.RowAnswers.{first_stops, stops_behind, stops_within, then_stops}
use Rattle.icn_scanfn.specs.Regions.{charged_region}
use Rattle.icn_scanfn.specs.Searches.{cset_search, text_search}
use Rattle.icn_scanfn.proofs.GivenRegions.{both_cost_alike, stops_alike, stops_charging}

-- A cset and a region

module _ (args : List Value) (value : Value) (same : value ≡ arg args 0) where
  pub cset_finds : (bytes : List ℕ) (setting : Setting) → GoesOn (cset value) setting bytes setting → GoesOn (cset (arg args 0)) setting bytes setting
  cset_finds bytes setting is = subst (λ (v : Value). GoesOn (cset v) setting bytes setting) same is

  pub no_cset : {B : Type 0} (all : Extent) (setting : Setting) (shown : B → List ℕ × SearchedText) (stop : Stop) (result : Result B Stop)
      → IsErrAnd result (λ other. other ≡ stop)
      → StopsFinding all (cset value) setting setting stop → IsFound all (cset_search args) setting setting shown result
  no_cset all setting shown stop result answered is =
      first_stops all (cset (arg args 0)) (λ bytes next. charged_region args 1 (λ region. next (bytes, region))) setting setting shown stop result answered
      (subst (λ (v : Value). StopsFinding all (cset v) setting setting stop) same is)

  pub no_region : {B : Type 0} (all : Extent) (bytes : List ℕ) (before after : Setting) (shown : B → List ℕ × SearchedText) (stop : Stop)
      (result : Result B Stop)
      → IsErrAnd result (λ other. other ≡ stop)
      → GoesOn (cset value) before bytes before → StopsFinding all (charged_region args 1) before after stop
      → IsFound all (cset_search args) before after shown result
  no_region all bytes before after shown stop result answered finds is =
      then_stops all (cset (arg args 0)) bytes
      (λ bytes next. charged_region args 1 (λ region. next (bytes, region))) before before after shown stop result answered (cset_finds bytes before finds)
      (stops_within all (charged_region args 1) (λ region next. next (bytes, region)) before after stop is)

  pub cset_and_region : (bytes : List ℕ) (region : SearchedText) (before after : Setting) → GoesOn (cset value) before bytes before
      → GoesOn (charged_region args 1) before region after
      → (next : List ℕ × SearchedText → Row) → cset_search args next before ≡ next (bytes, region) after
  cset_and_region bytes region before after finds is next =
      cset_finds bytes before finds (λ bytes. charged_region args 1 (λ region. next (bytes, region))) ∙ is (λ region. next (bytes, region))

-- A text and a region

module _ (args : List Value) (value : Value) (same : value ≡ arg args 0) where
  text_finds : (bytes : List ℕ) (setting : Setting) → GoesOn (string value) setting bytes setting → GoesOn (string (arg args 0)) setting bytes setting
  text_finds bytes setting is = subst (λ (v : Value). GoesOn (string v) setting bytes setting) same is

  rest : List ℕ → Finds (List ℕ × SearchedText)
  rest bytes next = region_from args 1 (λ region. costs_texts (arg args 0 ∷ arg args 1 ∷ []) (next (bytes, region)))

  pub no_wanted : {B : Type 0} (all : Extent) (setting : Setting) (shown : B → List ℕ × SearchedText) (stop : Stop) (result : Result B Stop)
      → IsErrAnd result (λ other. other ≡ stop)
      → StopsFinding all (string value) setting setting stop → IsFound all (text_search args) setting setting shown result
  unfolding rest
  no_wanted all setting shown stop result answered is =
      first_stops all (string (arg args 0)) rest setting setting shown stop result answered
      (subst (λ (v : Value). StopsFinding all (string v) setting setting stop) same is)

  pub no_given : {B : Type 0} (all : Extent) (bytes : List ℕ) (setting : Setting) (shown : B → List ℕ × SearchedText) (stop : Stop) (result : Result B Stop)
      → IsErrAnd result (λ other. other ≡ stop)
      → GoesOn (string value) setting bytes setting → StopsFinding all (region_from args 1) setting setting stop
      → IsFound all (text_search args) setting setting shown result
  unfolding rest
  no_given all bytes setting shown stop result answered finds is =
      then_stops all (string (arg args 0)) bytes rest setting setting setting shown stop result answered (text_finds bytes setting finds)
      (stops_within all (region_from args 1) (λ region next. costs_texts (arg args 0 ∷ arg args 1 ∷ []) (next (bytes, region))) setting setting stop is)

  pub no_texts : {B : Type 0} (all : Extent) (bytes : List ℕ) (region : SearchedText) (other : Value) (before after : Setting)
      (shown : B → List ℕ × SearchedText)
      (stop : Stop) (result : Result B Stop)
      → IsErrAnd result (λ other. other ≡ stop) → GoesOn (string value) before bytes before → GoesOn (region_from args 1) before region before
      → text_made (form_of other) ≡ text_made (form_of (arg args 1))
      → StopsPassing all (costs_texts (value ∷ other ∷ [])) before after stop → IsFound all (text_search args) before after shown result
  unfolding rest
  no_texts all bytes region other before after shown stop result answered finds given made is =
      then_stops all (string (arg args 0)) bytes rest before before after shown stop result answered (text_finds bytes before finds)
      (stops_behind all (region_from args 1) region
      (λ region next. costs_texts (arg args 0 ∷ arg args 1 ∷ []) (next (bytes, region))) before before after stop given
      (stops_charging all (costs_texts (arg args 0 ∷ arg args 1 ∷ [])) (bytes, region) before after stop
      (stops_alike all (costs_texts (arg args 0 ∷ arg args 1 ∷ [])) (costs_texts (value ∷ other ∷ [])) before after stop
      (λ next. both_cost_alike (arg args 0) (arg args 1) value other same made next before) is)))

  pub text_and_region : (bytes wanted text : List ℕ) (region : SearchedText) (other : Value) (before after : Setting)
      → GoesOn (string value) before bytes before
      → GoesOn (region_from args 1) before region before
      → text_made (form_of other) ≡ text_made (form_of (arg args 1)) → Passes (costs_texts (value ∷ other ∷ [])) before after → wanted ≡ bytes
      → text ≡ region.text
      → (next : List ℕ × SearchedText → Row)
      → text_search args next before ≡ next (wanted, record { text = text; first = region.first; last = region.last }) after
  unfolding rest
  text_and_region bytes wanted text region other before after finds given made passes is_wanted is_text next =
      text_finds bytes before finds (λ bytes. rest bytes next)
      ∙ (given (λ region. costs_texts (arg args 0 ∷ arg args 1 ∷ []) (next (bytes, region)))
      ∙ (both_cost_alike (arg args 0) (arg args 1) value other same made (next (bytes, region)) before
      ∙ (passes (next (bytes, region))
      ∙ (ap (λ bytes. next (bytes, region) after) (sym is_wanted)
      ∙ ap (λ bytes. next (wanted, record { text = bytes; first = region.first; last = region.last }) after) (sym is_text)))))
