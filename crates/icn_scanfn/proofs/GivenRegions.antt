-- How a text and two positions are found among arguments.
use Rattle.std.proofs.Common.{◌≡◌, ◌∙◌, refl, sym, ap, ℕ, ℤ, pos, ◌+◌, List, [], ◌∷◌, Result, if◌then◌else◌, FitsSigned}
use mir.Val.{of_z, to_z}
use Rattle.std.specs.Int.{w64}
use Rattle.std.proofs.lemmas.Int.{to_z-of_z}
use Rattle.std.specs.Prelude.{IsErrAnd}
use Rattle.icn_value.specs.Values.{Value, Null, Integer, Text, Chars, Std, Procedure, ARecord, AList, ASet, ATable, ACoexp}
use Rattle.icn_value.specs.Store.{Setting}
use Rattle.icn_defs.specs.Arguments.{arg, arg_or, integer, string, value_or}
use Rattle.icn_defs.specs.Calls.{GoesOn, Passes}
use Rattle.icn_defs.specs.Conversions.{form_of, is_null, text_made}
use Rattle.icn_defs.specs.Rows.{Row, Finds, costs_made, costs_text, costs_texts}
use Rattle.icn_defs.specs.Scanning.{SearchedText, region_from}
use Rattle.icn_heap.specs.Extents.{Extent}
use Rattle.icn_vars.specs.declared.stop.Stop.{Stop}
use Rattle.icn_vars.specs.declared.stop.Stop.TheVariants.{Error, NoMemory}
use Rattle.icn_vars.specs.Stops.{StopsFinding, StopsPassing}
use Rattle.icn_args.specs.RowWords.{IsFound}
use Rattle.icn_args.proofs.RowAnswers.{found_stops, stops_behind, stops_within, then_stops}
use Rattle.icn_scanfn.specs.Regions.{charged_region}

-- a text and two integers
abbrev pub three : Value → Value → Value → Finds SearchedText
three text first last next = string text (λ bytes. integer first (λ m. integer last (λ n. next (record { text = bytes; first = m; last = n }))))

pub region_by : (args : List Value) (place : ℕ) (text first last : Value) (setting : Setting) → text ≡ arg_or (Text setting.world.subject) args place
    → first ≡ arg_or (Integer (pos (if is_null (arg args place) then setting.world.position else 1))) args (place + 1)
    → last ≡ arg_or (Integer (pos 0)) args (place + 2)
    → (next : SearchedText → Row) → region_from args place next setting ≡ three text first last next setting
region_by args place text first last setting is_text is_first is_last next =
    ap (λ (v : Value). three v (arg_or (Integer (pos (if is_null (arg args place) then setting.world.position else 1))) args (place + 1))
    (arg_or (Integer (pos 0)) args (place + 2)) next setting) (sym is_text)
    ∙ (ap (λ (v : Value). three text v (arg_or (Integer (pos 0)) args (place + 2)) next setting) (sym is_first)
    ∙ ap (λ (v : Value). three text first v next setting) (sym is_last))

-- the three, once their defaults stand for those that are null
pub text_given : (args : List Value) (place : ℕ) (subject : List ℕ) (given text : Value) → text ≡ value_or (Text subject) given → given ≡ arg args place
    → text ≡ arg_or (Text subject) args place
text_given args place subject given text is same = is ∙ ap (value_or (Text subject)) same

pub first_given : (args : List Value) (place position : ℕ) (text default given first : Value) → first ≡ value_or default given
    → default ≡ Integer (pos (if is_null text then position else 1))
    → given ≡ arg args (place + 1) → text ≡ arg args place → first ≡ arg_or (Integer (pos (if is_null (arg args place) then position else 1))) args (place + 1)
first_given args place position text default given first is is_default is_given is_text =
    is
    ∙ (ap (λ (v : Value). value_or v given) is_default
    ∙ (ap (value_or (Integer (pos (if is_null text then position else 1)))) is_given
    ∙ ap (λ (v : Value). value_or (Integer (pos (if is_null v then position else 1))) (arg args (place + 1))) is_text))

pub last_given : (args : List Value) (place : ℕ) (given last : Value) → last ≡ value_or (Integer (pos 0)) given → given ≡ arg args (place + 2)
    → last ≡ arg_or (Integer (pos 0)) args (place + 2)
last_given args place given last is same = is ∙ ap (value_or (Integer (pos 0))) same

-- nothing is made of a text that stands for null
made_alike : (subject : List ℕ) (given : Value) → text_made (form_of (value_or (Text subject) given)) ≡ text_made (form_of given)
made_alike subject Null = refl
made_alike subject (Integer n) = refl
made_alike subject (Text bytes) = refl
made_alike subject (Chars bytes) = refl
made_alike subject (Std file) = refl
made_alike subject (Procedure number) = refl
made_alike subject (ARecord id) = refl
made_alike subject (AList id) = refl
made_alike subject (ASet id) = refl
made_alike subject (ATable id) = refl
made_alike subject (ACoexp id) = refl

pub made_given : (args : List Value) (place : ℕ) (subject : List ℕ) (given text : Value) → text ≡ value_or (Text subject) given → given ≡ arg args place
    → text_made (form_of text) ≡ text_made (form_of (arg args place))
made_given args place subject given text is same =
    ap (λ (v : Value). text_made (form_of v)) is ∙ (made_alike subject given ∙ ap (λ (v : Value). text_made (form_of v)) same)

-- The three are found, or one of them is not

pub region_found : (text first last : Value) (bytes : List ℕ) (m n : ℤ) (setting : Setting) → GoesOn (string text) setting bytes setting
    → GoesOn (integer first) setting m setting → GoesOn (integer last) setting n setting
    → (next : SearchedText → Row) → three text first last next setting ≡ next (record { text = bytes; first = m; last = n }) setting
region_found text first last bytes m n setting is_text is_first is_last next =
    is_text (λ bytes. integer first (λ m. integer last (λ n. next (record { text = bytes; first = m; last = n }))))
    ∙ (is_first (λ m. integer last (λ n. next (record { text = bytes; first = m; last = n })))
    ∙ is_last (λ n. next (record { text = bytes; first = m; last = n })))

-- the integers as they are held
pub region_held : (next : SearchedText → Row) (text : List ℕ) (m n : ℤ) (setting : Setting) → FitsSigned w64 m → FitsSigned w64 n
    → next (record { text = text; first = m; last = n }) setting
    ≡ next (record { text = text; first = to_z w64 (of_z w64 m); last = to_z w64 (of_z w64 n) }) setting
region_held next text m n setting first last =
    sym (ap (λ k. next (record { text = text; first = k; last = n }) setting) (to_z-of_z w64 m first))
    ∙ sym (ap (λ k. next (record { text = text; first = to_z w64 (of_z w64 m); last = k }) setting) (to_z-of_z w64 n last))

pub no_text : (all : Extent) (text first last : Value) (setting : Setting) (stop : Stop) → StopsFinding all (string text) setting setting stop
    → StopsFinding all (three text first last) setting setting stop
no_text all text first last setting stop is =
    stops_within all (string text)
    (λ bytes next. integer first (λ m. integer last (λ n. next (record { text = bytes; first = m; last = n })))) setting setting stop is

pub no_first : (all : Extent) (text first last : Value) (bytes : List ℕ) (setting : Setting) (stop : Stop) → GoesOn (string text) setting bytes setting
    → StopsFinding all (integer first) setting setting stop
    → StopsFinding all (three text first last) setting setting stop
no_first all text first last bytes setting stop is_text is =
    stops_behind all (string text) bytes
    (λ bytes next. integer first (λ m. integer last (λ n. next (record { text = bytes; first = m; last = n })))) setting setting setting stop is_text
    (stops_within all (integer first) (λ m next. integer last (λ n. next (record { text = bytes; first = m; last = n }))) setting setting stop is)

pub no_last : (all : Extent) (text first last : Value) (bytes : List ℕ) (m : ℤ) (setting : Setting) (stop : Stop) → GoesOn (string text) setting bytes setting
    → GoesOn (integer first) setting m setting
    → StopsFinding all (integer last) setting setting stop → StopsFinding all (three text first last) setting setting stop
no_last all text first last bytes m setting stop is_text is_first is =
    stops_behind all (string text) bytes
    (λ bytes next. integer first (λ m. integer last (λ n. next (record { text = bytes; first = m; last = n })))) setting setting setting stop is_text
    (stops_behind all (integer first) m
    (λ m next. integer last (λ n. next (record { text = bytes; first = m; last = n }))) setting setting setting stop is_first
    (stops_within all (integer last) (λ n next. next (record { text = bytes; first = m; last = n })) setting setting stop is))

stops_as : {A : Type 0} (all : Extent) (find other : Finds A) (before after : Setting) (stop : Stop) → ((next : A → Row) → find next before ≡ other next before)
    → StopsFinding all other before after stop
    → StopsFinding all find before after stop
stops_as all find other before after (Error number offending) same is = λ next. same next ∙ is next
stops_as all find other before after NoMemory same is = tt

-- what stops another search that finds the same stops this one
pub found_as : {A B : Type 0} (all : Extent) (find other : Finds A) (before after : Setting) (shown : B → A) (stop : Stop) (result : Result B Stop)
    → IsErrAnd result (λ other. other ≡ stop)
    → ((next : A → Row) → find next before ≡ other next before) → StopsFinding all other before after stop → IsFound all find before after shown result
found_as all find other before after shown stop result answered same is =
    found_stops all find before after shown stop result answered (stops_as all find other before after stop same is)

-- Charges

pub stops_charging : {A : Type 0} (all : Extent) (part : Row → Row) (thing : A) (before after : Setting) (stop : Stop) → StopsPassing all part before after stop
    → StopsFinding all (λ (next : A → Row). part (next thing)) before after stop
stops_charging all part thing before after (Error number offending) is = λ next. is (next thing)
stops_charging all part thing before after NoMemory is = tt

-- what costs the same stops alike
pub stops_alike : (all : Extent) (part other : Row → Row) (before after : Setting) (stop : Stop) → ((next : Row) → part next before ≡ other next before)
    → StopsPassing all other before after stop
    → StopsPassing all part before after stop
stops_alike all part other before after (Error number offending) same is = λ next. same next ∙ is next
stops_alike all part other before after NoMemory same is = tt

-- two values of which the same is made cost the same
pub costs_alike : (value other : Value) → text_made (form_of other) ≡ text_made (form_of value) → (next : Row) (setting : Setting)
    → costs_text value next setting ≡ costs_text other next setting
costs_alike value other same next setting = ap (λ made. costs_made made next setting) (sym same)

pub both_cost_alike : (first second one other : Value) → one ≡ first → text_made (form_of other) ≡ text_made (form_of second) → (next : Row) (setting : Setting)
    → costs_texts (first ∷ second ∷ []) next setting ≡ costs_texts (one ∷ other ∷ []) next setting
both_cost_alike first second one other same alike next setting =
    ap (λ (v : Value). costs_texts (v ∷ second ∷ []) next setting) (sym same)
    ∙ ap (λ made. costs_text one (costs_made made next) setting) (sym alike)

-- Regions whose text is charged

pub charged_found : (args : List Value) (n : ℕ) (given : SearchedText) (value : Value) (bytes : List ℕ) (before after : Setting)
    → GoesOn (region_from args n) before given before
    → text_made (form_of value) ≡ text_made (form_of (arg args n)) → Passes (costs_text value) before after → bytes ≡ given.text
    → (next : SearchedText → Row) → charged_region args n next before ≡ next (record { text = bytes; first = given.first; last = given.last }) after
charged_found args n given value bytes before after finds made passes same next =
    finds (λ region. costs_text (arg args n) (next region))
    ∙ (costs_alike (arg args n) value made (next given) before
    ∙ (passes (next given)
    ∙ ap (λ text. next (record { text = text; first = given.first; last = given.last }) after) (sym same)))

pub charge_stopped : {B : Type 0} (all : Extent) (args : List Value) (n : ℕ) (given : SearchedText) (value : Value) (before after : Setting)
    (shown : B → SearchedText)
    (stop : Stop) (result : Result B Stop)
    → IsErrAnd result (λ other. other ≡ stop) → GoesOn (region_from args n) before given before → text_made (form_of value) ≡ text_made (form_of (arg args n))
    → StopsPassing all (costs_text value) before after stop → IsFound all (charged_region args n) before after shown result
charge_stopped all args n given value before after shown stop result answered finds made is =
    then_stops all (region_from args n) given (λ region next. costs_text (arg args n) (next region)) before before after shown stop result answered finds
    (stops_charging all (costs_text (arg args n)) given before after stop
    (stops_alike all (costs_text (arg args n)) (costs_text value) before after stop (λ next. costs_alike (arg args n) value made next before) is))
