-- How the first three arguments of `bal` are found.
use Rattle.std.proofs.Common.{◌≡◌, ◌∙◌, sym, ap, ℕ, true, List, Result, codes}
use Rattle.std.specs.Prelude.{IsErrAnd}
use Rattle.icn_value.specs.Values.{Value, Chars}
use Rattle.icn_value.specs.Store.{Setting}
use Rattle.icn_defs.specs.Arguments.{arg, arg_or, cset, value_or}
use Rattle.icn_defs.specs.Calls.{GoesOn}
use Rattle.icn_defs.specs.Conversions.{members}
use Rattle.icn_defs.specs.Rows.{Row, Finds}
use Rattle.icn_heap.specs.Extents.{Extent}
use Rattle.icn_vars.specs.declared.stop.Stop.{Stop}
use Rattle.icn_vars.specs.Stops.{StopsFinding}
use Rattle.icn_args.specs.RowWords.{IsFound}
use Rattle.icn_args.proofs.RowAnswers.{stops_behind, stops_within}
use Rattle.icn_scanfn.specs.Searches.{Sets, balanced_sets}
use Rattle.icn_scanfn.proofs.GivenRegions.{found_as}

-- The values, once the defaults stand for those that are null

given : (args : List Value) (place : ℕ) (default value set : Value) → set ≡ value_or default value → value ≡ arg args place → set ≡ arg_or default args place
given args place default value set is same = is ∙ ap (value_or default) same

pub all_given : (args : List Value) (value set : Value) → set ≡ value_or (Chars (members (λ byte. true))) value → value ≡ arg args 0
    → set ≡ arg_or (Chars (members (λ byte. true))) args 0
all_given args value set is same = given args 0 (Chars (members (λ byte. true))) value set is same

pub opening_given : (args : List Value) (value set : Value) → set ≡ value_or (Chars (codes "(")) value → value ≡ arg args 1
    → set ≡ arg_or (Chars (codes "(")) args 1
opening_given args value set is same = given args 1 (Chars (codes "(")) value set is same

pub closing_given : (args : List Value) (value set : Value) → set ≡ value_or (Chars (codes ")")) value → value ≡ arg args 2
    → set ≡ arg_or (Chars (codes ")")) args 2
closing_given args value set is same = given args 2 (Chars (codes ")")) value set is same

-- three csets
abbrev three : Value → Value → Value → Finds Sets
three first second third next =
    cset first (λ wanted. cset second (λ opening. cset third (λ closing. next (record { wanted = wanted; opening = opening; closing = closing }))))

three_by : (a b c first second third : Value) → first ≡ a → second ≡ b → third ≡ c → (next : Sets → Row) (setting : Setting)
    → three a b c next setting ≡ three first second third next setting
three_by a b c first second third is_a is_b is_c next setting =
    ap (λ (v : Value). three v b c next setting) (sym is_a)
    ∙ (ap (λ (v : Value). three first v c next setting) (sym is_b)
    ∙ ap (λ (v : Value). three first second v next setting) (sym is_c))

module _ (args : List Value) (first : Value) (is_first : first ≡ arg_or (Chars (members (λ byte. true))) args 0) where
  pub no_wanted : {B : Type 0} (all : Extent) (setting : Setting) (shown : B → Sets) (stop : Stop) (result : Result B Stop)
      → IsErrAnd result (λ other. other ≡ stop)
      → StopsFinding all (cset first) setting setting stop → IsFound all (balanced_sets args) setting setting shown result
  no_wanted all setting shown stop result answered is =
      let b : Value = arg_or (Chars (codes "(")) args 1 in
      let c : Value = arg_or (Chars (codes ")")) args 2 in
      found_as all (balanced_sets args) (three first b c) setting setting shown stop result answered
      (λ next. ap (λ (v : Value). three v b c next setting) (sym is_first))
      (stops_within all (cset first)
      (λ wanted next. cset b (λ opening. cset c (λ closing. next (record { wanted = wanted; opening = opening; closing = closing })))) setting setting stop is)

  module _ (second : Value) (is_second : second ≡ arg_or (Chars (codes "(")) args 1) where
    pub no_opening : {B : Type 0} (wanted : List ℕ) (all : Extent) (setting : Setting) (shown : B → Sets) (stop : Stop) (result : Result B Stop)
        → IsErrAnd result (λ other. other ≡ stop)
        → GoesOn (cset first) setting wanted setting → StopsFinding all (cset second) setting setting stop
        → IsFound all (balanced_sets args) setting setting shown result
    no_opening wanted all setting shown stop result answered found is =
        let c : Value = arg_or (Chars (codes ")")) args 2 in
        found_as all (balanced_sets args) (three first second c) setting setting shown stop result answered
        (λ next. ap (λ (v : Value). three v (arg_or (Chars (codes "(")) args 1) c next setting) (sym is_first)
        ∙ ap (λ (v : Value). three first v c next setting) (sym is_second))
        (stops_behind all (cset first) wanted (λ wanted next.
        cset second (λ opening. cset c (λ closing. next (record { wanted = wanted; opening = opening; closing = closing })))) setting setting setting stop found
        (stops_within all (cset second)
        (λ opening next. cset c (λ closing. next (record { wanted = wanted; opening = opening; closing = closing }))) setting setting stop is))

    module _ (third : Value) (is_third : third ≡ arg_or (Chars (codes ")")) args 2) where
      pub no_closing : {B : Type 0} (wanted opening : List ℕ) (all : Extent) (setting : Setting) (shown : B → Sets) (stop : Stop) (result : Result B Stop)
          → IsErrAnd result (λ other. other ≡ stop)
          → GoesOn (cset first) setting wanted setting → GoesOn (cset second) setting opening setting → StopsFinding all (cset third) setting setting stop
          → IsFound all (balanced_sets args) setting setting shown result
      no_closing wanted opening all setting shown stop result answered found then is =
          found_as all (balanced_sets args) (three first second third) setting setting shown stop result answered
          (λ next. three_by _ _ _ first second third is_first is_second is_third next setting)
          (stops_behind all (cset first) wanted (λ wanted next. cset second
          (λ opening. cset third (λ closing. next (record { wanted = wanted; opening = opening; closing = closing })))) setting setting setting stop found
          (stops_behind all (cset second) opening
          (λ opening next. cset third (λ closing. next (record { wanted = wanted; opening = opening; closing = closing }))) setting setting setting stop then
          (stops_within all (cset third) (λ closing next. next (record { wanted = wanted; opening = opening; closing = closing })) setting setting stop is)))

      pub sets_found : (wanted opening closing : List ℕ) (setting : Setting) → GoesOn (cset first) setting wanted setting
          → GoesOn (cset second) setting opening setting → GoesOn (cset third) setting closing setting
          → (next : Sets → Row) → balanced_sets args next setting ≡ next (record { wanted = wanted; opening = opening; closing = closing }) setting
      sets_found wanted opening closing setting found then last next =
          three_by _ _ _ first second third is_first is_second is_third next setting
          ∙ (found (λ wanted. cset second (λ opening. cset third (λ closing. next (record { wanted = wanted; opening = opening; closing = closing }))))
          ∙ (then (λ opening. cset third (λ closing. next (record { wanted = wanted; opening = opening; closing = closing })))
          ∙ last (λ closing. next (record { wanted = wanted; opening = opening; closing = closing }))))
