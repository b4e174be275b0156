-- What is left of a row once its checks are met.
use Rattle.std.proofs.Common.{◌≡◌, ◌∙◌, refl, sym, ap, subst, ℕ, ℤ, pos, negsuc, ◌-◌, ◌==◌, ◌≢◌, ◌<◌, ◌≤◌, nat_lt, true, false, arith, List, [], ◌∷◌, length, map, reverse, take, replicate, Some, None, codes}
use Rattle.std.specs.Prelude.{slice_index}
use Rattle.std.specs.List.{concat, suffix_len}
use Rattle.std.proofs.lemmas.Bool.Decides.{Decides-eqb, nat_tests}
use Rattle.std.proofs.lemmas.Bool.{lt-ltb, le-ltb}
use Rattle.icn_value.specs.Values.{Value, Text, Chars}
use Rattle.icn_value.specs.Store.{Setting}
use Rattle.icn_defs.specs.Arguments.{arg, arg_or}
use Rattle.icn_defs.specs.Calls.{Passes}
use Rattle.icn_defs.specs.Conversions.{contains, cset_of, integer_of, text_of}
use Rattle.icn_defs.specs.Rows.{Error, Fails, builds, check, costs_text, costs_texts, gives_value, natural}
use Rattle.icn_defs.specs.Strings.{char_row, field_row, gives_integer, map_row, map_byte, one, ord_row, repl_row, reverse_row, string_row, trim_row}
use Rattle.icn_args.specs.RowWords.{HasText, the_text}
use Rattle.icn_strfn.specs.declared.text_arguments.DefaultText.TheVariants.{Blank, Upper, Lower}
use Rattle.icn_strfn.specs.Checks.{IsField, IsMapping, natural_in}
use Rattle.icn_strfn.specs.TextArguments.{or_default}

pub string_left : (args : List Value) (text : Value) (setting : Setting) → text ≡ arg args 0 → HasText text
    → string_row args setting ≡ costs_text text (gives_value (Text (the_text text))) setting
string_left args text setting first has =
    subst (λ (t : Value). HasText t → string_row args setting ≡ costs_text t (gives_value (Text (the_text t))) setting) (sym first) (λ has. rw has.is refl) has

pub reverse_left : (args : List Value) (text : Value) (setting : Setting) → text ≡ arg args 0 → HasText text
    → reverse_row args setting ≡ costs_text text (builds (reverse (the_text text))) setting
reverse_left args text setting first has =
    subst (λ (t : Value). HasText t → reverse_row args setting ≡ costs_text t (builds (reverse (the_text t))) setting) (sym first) (λ has. rw has.is refl) has

pub repl_left : (args : List Value) (text times : Value) (n : ℤ) (count : ℕ) (setting : Setting) → text ≡ arg args 0 → times ≡ arg args 1 → HasText text
    → integer_of times ≡ Some n → n ≡ pos count
    → repl_row args setting ≡ costs_text text (builds (concat (replicate count (the_text text)))) setting
repl_left args text times n count setting first second has is natural =
    subst (λ (t : Value). HasText t → repl_row args setting ≡ costs_text t (builds (concat (replicate count (the_text t)))) setting) (sym first)
    (λ has. let whole : integer_of (arg args 1) ≡ Some (pos count) = ap integer_of (sym second) ∙ (is ∙ ap Some natural) in rw (has.is, whole) refl) has

pub trim_left : (args : List Value) (text set : Value) (bytes : List ℕ) (setting : Setting) → text ≡ arg args 0 → set ≡ arg_or (Chars (codes " ")) args 1
    → HasText text → cset_of set ≡ Some bytes
    → trim_row args setting
    ≡ costs_text text (gives_value (Text (take (length (the_text text) - suffix_len (contains bytes) (the_text text)) (the_text text)))) setting
trim_left args text set bytes setting first second has is =
    subst (λ (t : Value). HasText t → trim_row args setting
    ≡ costs_text t (gives_value (Text (take (length (the_text t) - suffix_len (contains bytes) (the_text t)) (the_text t)))) setting) (sym first)
    (λ has. let whole : cset_of (arg_or (Chars (codes " ")) args 1) ≡ Some bytes = ap cset_of (sym second) ∙ is in rw (has.is, whole) refl) has

pub ord_left : (args : List Value) (text : Value) (setting : Setting) → text ≡ arg args 0 → HasText text → length (the_text text) ≡ 1
    → ord_row args setting ≡ costs_text text (gives_integer (pos (slice_index (the_text text) 0))) setting
ord_left args text setting first has one_byte =
    subst (λ (t : Value). HasText t → length (the_text t) ≡ 1 → ord_row args setting ≡ costs_text t (gives_integer (pos (slice_index (the_text t) 0))) setting)
    (sym first)
    (λ has is. let test : (length (the_text (arg args 0)) == 1) ≡ true = (Decides-eqb (length (the_text (arg args 0))) 1).1 is in
    (rw has.is refl) ∙ ap (λ t. check t 205 (Some (arg args 0)) (costs_text (arg args 0) (gives_integer (pos (slice_index (the_text (arg args 0)) 0)))) setting)
    test) has one_byte

-- Checks that are not met

pub string_fails : (args : List Value) (text : Value) (setting : Setting) → text ≡ arg args 0 → text_of text ≡ None → string_row args setting ≡ Fails setting
string_fails args text setting first is =
    let none : text_of (arg args 0) ≡ None = ap text_of (sym first) ∙ is in rw none refl

pub trim_no_cset : (args : List Value) (text set : Value) (setting : Setting) → text ≡ arg args 0 → set ≡ arg_or (Chars (codes " ")) args 1 → HasText text
    → cset_of set ≡ None
    → trim_row args setting ≡ Error 104 (Some set) setting
trim_no_cset args text set setting first second has is =
    let found : text_of (arg args 0) ≡ Some (the_text text) = ap text_of (sym first) ∙ has.is in
    let none : cset_of (arg_or (Chars (codes " ")) args 1) ≡ None = ap cset_of (sym second) ∙ is in
    (rw (found, none) refl) ∙ ap (λ (v : Value). Error 104 (Some v) setting) (sym second)

pub repl_no_integer : (args : List Value) (text times : Value) (setting : Setting) → text ≡ arg args 0 → times ≡ arg args 1 → HasText text
    → integer_of times ≡ None
    → repl_row args setting ≡ Error 101 (Some times) setting
repl_no_integer args text times setting first second has is =
    let found : text_of (arg args 0) ≡ Some (the_text text) = ap text_of (sym first) ∙ has.is in
    let none : integer_of (arg args 1) ≡ None = ap integer_of (sym second) ∙ is in
    (rw (found, none) refl) ∙ ap (λ (v : Value). Error 101 (Some v) setting) (sym second)

pub natural_some : (n : ℤ) (count : ℕ) → natural_in n ≡ Some count → n ≡ pos count
natural_some (pos m) count is = let same : m ≡ count = cc in ap pos same
natural_some (negsuc m) count is = cc

natural_there : (m : ℕ) → natural_in (pos m) ≡ None → ⊥
natural_there m is = cc

pub repl_below : (args : List Value) (text times : Value) (n : ℤ) (setting : Setting) → text ≡ arg args 0 → times ≡ arg args 1 → HasText text
    → integer_of times ≡ Some n → natural_in n ≡ None
    → repl_row args setting ≡ Error 205 (Some times) setting
repl_below args text times (pos m) setting first second has is below = absurd (natural_there m below)
repl_below args text times (negsuc m) setting first second has is below =
    let found : text_of (arg args 0) ≡ Some (the_text text) = ap text_of (sym first) ∙ has.is in
    let whole : integer_of (arg args 1) ≡ Some (negsuc m) = ap integer_of (sym second) ∙ is in
    (rw (found, whole) refl) ∙ ap (λ (v : Value). Error 205 (Some v) setting) (sym second)

-- Fields

module _ (args : List Value) (text count given fill : Value) (laid : List ℕ → ℕ → List ℕ → List ℕ) (setting : Setting) (first : text ≡ arg args 0)
    (second : count ≡ arg_or one args 1)
    (raw : given ≡ arg args 1) (third : fill ≡ arg args 2) where
  pub field_no_text : text_of text ≡ None → field_row laid args setting ≡ Error 103 (Some text) setting
  field_no_text is =
      let none : text_of (arg args 0) ≡ None = ap text_of (sym first) ∙ is in
      (rw none refl) ∙ ap (λ (v : Value). Error 103 (Some v) setting) (sym first)

  pub field_no_count : HasText text → integer_of count ≡ None → field_row laid args setting ≡ Error 101 (Some count) setting
  field_no_count has is =
      let found : text_of (arg args 0) ≡ Some (the_text text) = ap text_of (sym first) ∙ has.is in
      let none : integer_of (arg_or one args 1) ≡ None = ap integer_of (sym second) ∙ is in
      (rw (found, none) refl) ∙ ap (λ (v : Value). Error 101 (Some v) setting) (sym second)

  pub field_no_fill : HasText text → (n : ℤ) → integer_of count ≡ Some n → text_of (or_default Blank fill) ≡ None → or_default Blank fill ≡ fill
      → field_row laid args setting ≡ Error 103 (Some fill) setting
  field_no_fill has n is none same =
      let found : text_of (arg args 0) ≡ Some (the_text text) = ap text_of (sym first) ∙ has.is in
      let whole : integer_of (arg_or one args 1) ≡ Some n = ap integer_of (sym second) ∙ is in
      let lacking : text_of (or_default Blank (arg args 2)) ≡ None = ap (λ (v : Value). text_of (or_default Blank v)) (sym third) ∙ none in
      (rw (found, whole, lacking) refl) ∙ ap (λ (v : Value). Error 103 (Some v) setting) (ap (or_default Blank) (sym third) ∙ same)

  pub field_below : HasText text → (n : ℤ) → integer_of count ≡ Some n → HasText (or_default Blank fill) → natural_in n ≡ None
      → field_row laid args setting ≡ Error 205 (Some given) setting
  field_below has (pos m) is filled below = absurd (natural_there m below)
  field_below has (negsuc m) is filled below =
      let found : text_of (arg args 0) ≡ Some (the_text text) = ap text_of (sym first) ∙ has.is in
      let whole : integer_of (arg_or one args 1) ≡ Some (negsuc m) = ap integer_of (sym second) ∙ is in
      let there : text_of (or_default Blank (arg args 2))
      ≡ Some (the_text (or_default Blank fill)) = ap (λ (v : Value). text_of (or_default Blank v)) (sym third) ∙ filled.is in
      (rw (found, whole, there) refl) ∙ ap (λ (v : Value). Error 205 (Some v) setting) (sym raw)

pub is_field : (args : List Value) (text count fill : Value) (n : ℤ) (width : ℕ) → text ≡ arg args 0 → count ≡ arg_or one args 1 → fill ≡ arg args 2
    → HasText text → integer_of count ≡ Some n
    → HasText (or_default Blank fill) → natural_in n ≡ Some width → IsField args width
is_field args text count fill n width first second third has is filled natural = record {
  text = subst HasText first has;
  count = ap integer_of (sym second) ∙ (is ∙ ap Some (natural_some n width natural));
  fill = subst (λ (v : Value). HasText (or_default Blank v)) third filled;
}

pub field_left : (args : List Value) (text fill : Value) (laid : List ℕ → ℕ → List ℕ → List ℕ) (width : ℕ) (setting : Setting) → text ≡ arg args 0
    → fill ≡ arg args 2 → IsField args width
    → field_row laid args setting ≡ costs_texts (text ∷ fill ∷ []) (builds (laid (the_text text) width (the_text (or_default Blank fill)))) setting
field_left args text fill laid width setting first third is =
    (rw (is.text.is, is.count, is.fill.is) refl)
    ∙ (ap (λ (v : Value). costs_texts (v ∷ arg args 2 ∷ []) (builds (laid (the_text v) width (the_text (or_default Blank (arg args 2))))) setting) (sym first)
    ∙ ap (λ (v : Value). costs_texts (text ∷ v ∷ []) (builds (laid (the_text text) width (the_text (or_default Blank v)))) setting) (sym third))

-- Mapping

eqb_no : (m n : ℕ) → m ≢ n → (m == n) ≡ false
eqb_no m n differ = grind (arith, nat_tests)

module _ (args : List Value) (text from to : Value) (setting : Setting) (first : text ≡ arg args 0) (second : from ≡ arg args 1) (third : to ≡ arg args 2) where
  pub map_no_text : text_of text ≡ None → map_row args setting ≡ Error 103 (Some text) setting
  map_no_text is =
      let none : text_of (arg args 0) ≡ None = ap text_of (sym first) ∙ is in
      (rw none refl) ∙ ap (λ (v : Value). Error 103 (Some v) setting) (sym first)

  pub map_no_from : HasText text → text_of (or_default Upper from) ≡ None → or_default Upper from ≡ from → map_row args setting ≡ Error 103 (Some from) setting
  map_no_from has is same =
      let found : text_of (arg args 0) ≡ Some (the_text text) = ap text_of (sym first) ∙ has.is in
      let none : text_of (or_default Upper (arg args 1)) ≡ None = ap (λ (v : Value). text_of (or_default Upper v)) (sym second) ∙ is in
      (rw (found, none) refl) ∙ ap (λ (v : Value). Error 103 (Some v) setting) (ap (or_default Upper) (sym second) ∙ same)

  pub map_no_to : HasText text → HasText (or_default Upper from) → text_of (or_default Lower to) ≡ None → or_default Lower to ≡ to
      → map_row args setting ≡ Error 103 (Some to) setting
  map_no_to has from_has is same =
      let found : text_of (arg args 0) ≡ Some (the_text text) = ap text_of (sym first) ∙ has.is in
      let there : text_of (or_default Upper (arg args 1))
      ≡ Some (the_text (or_default Upper from)) = ap (λ (v : Value). text_of (or_default Upper v)) (sym second) ∙ from_has.is in
      let none : text_of (or_default Lower (arg args 2)) ≡ None = ap (λ (v : Value). text_of (or_default Lower v)) (sym third) ∙ is in
      (rw (found, there, none) refl) ∙ ap (λ (v : Value). Error 103 (Some v) setting) (ap (or_default Lower) (sym third) ∙ same)

  pub map_unlike : HasText text → HasText (or_default Upper from) → HasText (or_default Lower to)
      → length (the_text (or_default Upper from)) ≢ length (the_text (or_default Lower to))
      → map_row args setting ≡ Error 208 None setting
  map_unlike has from_has to_has differ =
      let found : text_of (arg args 0) ≡ Some (the_text text) = ap text_of (sym first) ∙ has.is in
      let there : text_of (or_default Upper (arg args 1))
      ≡ Some (the_text (or_default Upper from)) = ap (λ (v : Value). text_of (or_default Upper v)) (sym second) ∙ from_has.is in
      let here : text_of (or_default Lower (arg args 2)) ≡ Some (the_text (or_default Lower to)) = ap (λ (v : Value). text_of (or_default Lower v)) (sym third)
      ∙ to_has.is in
      let test : (length (the_text (or_default Upper from)) == length (the_text (or_default Lower to))) ≡ false = eqb_no _ _ differ in
      rw (found, there, here, test) refl

  pub map_left : IsMapping args
      → map_row args setting
      ≡ costs_texts (text ∷ from ∷ to ∷ [])
      (builds (map (map_byte (the_text (or_default Upper from)) (the_text (or_default Lower to))) (the_text text))) setting
  map_left is =
      let test : (length (the_text (or_default Upper (arg args 1))) == length (the_text (or_default Lower (arg args 2)))) ≡ true =
      (Decides-eqb (length (the_text (or_default Upper (arg args 1)))) (length (the_text (or_default Lower (arg args 2))))).1 is.alike in
      (rw (is.text.is, is.from.is, is.to.is) refl)
      ∙ (ap (λ t. check t 208 None (costs_texts (arg args 0 ∷ arg args 1 ∷ arg args 2 ∷ [])
      (builds (map (map_byte (the_text (or_default Upper (arg args 1))) (the_text (or_default Lower (arg args 2)))) (the_text (arg args 0))))) setting) test
      ∙ (ap (λ (v : Value). costs_texts (v ∷ arg args 1 ∷ arg args 2 ∷ [])
      (builds (map (map_byte (the_text (or_default Upper (arg args 1))) (the_text (or_default Lower (arg args 2)))) (the_text v))) setting) (sym first)
      ∙ (ap (λ (v : Value). costs_texts (text ∷ v ∷ arg args 2 ∷ [])
      (builds (map (map_byte (the_text (or_default Upper v)) (the_text (or_default Lower (arg args 2)))) (the_text text))) setting) (sym second)
      ∙ ap (λ (v : Value). costs_texts (text ∷ from ∷ v ∷ [])
      (builds (map (map_byte (the_text (or_default Upper from)) (the_text (or_default Lower v))) (the_text text))) setting) (sym third))))

pub is_mapping : (args : List Value) (text from to : Value) → text ≡ arg args 0 → from ≡ arg args 1 → to ≡ arg args 2 → HasText text
    → HasText (or_default Upper from) → HasText (or_default Lower to)
    → length (the_text (or_default Upper from)) ≡ length (the_text (or_default Lower to)) → IsMapping args
is_mapping args text from to first second third has from_has to_has alike = record {
  text = subst HasText first has;
  from = subst (λ (v : Value). HasText (or_default Upper v)) second from_has;
  to = subst (λ (v : Value). HasText (or_default Lower v)) third to_has;
  alike = ap (λ (v : Value). length (the_text (or_default Upper v))) (sym second) ∙ (alike ∙ ap (λ (v : Value). length (the_text (or_default Lower v))) third);
}

-- Bytes

module _ (args : List Value) (code : Value) (setting : Setting) (first : code ≡ arg args 0) where
  pub char_no_integer : integer_of code ≡ None → char_row args setting ≡ Error 101 (Some code) setting
  char_no_integer is =
      let none : integer_of (arg args 0) ≡ None = ap integer_of (sym first) ∙ is in
      (rw none refl) ∙ ap (λ (v : Value). Error 101 (Some v) setting) (sym first)

  pub char_below : (n : ℤ) → integer_of code ≡ Some n → natural_in n ≡ None → char_row args setting ≡ Error 205 (Some code) setting
  char_below (pos m) is below = absurd (natural_there m below)
  char_below (negsuc m) is below =
      let whole : integer_of (arg args 0) ≡ Some (negsuc m) = ap integer_of (sym first) ∙ is in
      (rw whole refl) ∙ ap (λ (v : Value). Error 205 (Some v) setting) (sym first)

  pub char_above : (n : ℤ) (byte : ℕ) → integer_of code ≡ Some n → natural_in n ≡ Some byte → 256 ≤ byte → char_row args setting ≡ Error 205 (Some code) setting
  char_above n byte is natural high =
      let whole : integer_of (arg args 0) ≡ Some (pos byte) = ap integer_of (sym first) ∙ (is ∙ ap Some (natural_some n byte natural)) in
      let test : nat_lt byte 256 ≡ false = le-ltb byte 256 high in
      (rw (whole, test) refl) ∙ ap (λ (v : Value). Error 205 (Some v) setting) (sym first)

  pub char_left : (n : ℤ) (byte : ℕ) → integer_of code ≡ Some n → natural_in n ≡ Some byte → byte < 256
      → char_row args setting ≡ gives_value (Text (byte ∷ [])) setting
  char_left n byte is natural low =
      let whole : integer_of (arg args 0) ≡ Some (pos byte) = ap integer_of (sym first) ∙ (is ∙ ap Some (natural_some n byte natural)) in
      let test : nat_lt byte 256 ≡ true = lt-ltb byte 256 low in
      rw (whole, test) refl

-- What is left once the texts are made

pub reverse_made : (args : List Value) (text : Value) (made : List ℕ) (before between : Setting) → text ≡ arg args 0 → HasText text
    → Passes (costs_text text) before between → made ≡ the_text text → reverse_row args before ≡ builds (reverse made) between
reverse_made args text made before between first has passes same =
    reverse_left args text before first has
    ∙ (passes (builds (reverse (the_text text))) ∙ ap (λ (bytes : List ℕ). builds (reverse bytes) between) (sym same))

pub repl_made : (args : List Value) (text times : Value) (n : ℤ) (count : ℕ) (made : List ℕ) (before between : Setting) → text ≡ arg args 0
    → times ≡ arg args 1 → HasText text → integer_of times ≡ Some n → n ≡ pos count → Passes (costs_text text) before between → made ≡ the_text text
    → repl_row args before ≡ builds (concat (replicate count made)) between
repl_made args text times n count made before between first second has is natural passes same =
    repl_left args text times n count before first second has is natural
    ∙ (passes (builds (concat (replicate count (the_text text))))
    ∙ ap (λ (bytes : List ℕ). builds (concat (replicate count bytes)) between) (sym same))

pub field_made : (args : List Value) (text fill : Value) (laid : List ℕ → ℕ → List ℕ → List ℕ) (width : ℕ) (made filled : List ℕ) (before between : Setting)
    → text ≡ arg args 0 → fill ≡ arg args 2 → IsField args width → Passes (costs_texts (text ∷ fill ∷ [])) before between → made ≡ the_text text
    → filled ≡ the_text (or_default Blank fill) → field_row laid args before ≡ builds (laid made width filled) between
field_made args text fill laid width made filled before between first third is passes same same_fill =
    field_left args text fill laid width before first third is
    ∙ (passes (builds (laid (the_text text) width (the_text (or_default Blank fill))))
    ∙ ap (λ (bytes : List ℕ). builds bytes between)
    (ap (λ (bytes : List ℕ). laid bytes width (the_text (or_default Blank fill))) (sym same) ∙ ap (laid made width) (sym same_fill)))

pub map_made : (args : List Value) (text from to : Value) (made made_from made_to : List ℕ) (before middle between : Setting) → text ≡ arg args 0
    → from ≡ arg args 1 → to ≡ arg args 2 → IsMapping args → Passes (costs_texts (text ∷ from ∷ [])) before middle → Passes (costs_text to) middle between
    → made ≡ the_text text → made_from ≡ the_text (or_default Upper from) → made_to ≡ the_text (or_default Lower to)
    → map_row args before ≡ builds (map (map_byte made_from made_to) made) between
map_made args text from to made made_from made_to before middle between first second third is passes passes_then same same_from same_to =
    let source : List ℕ = the_text (or_default Upper from) in
    let target : List ℕ = the_text (or_default Lower to) in
    map_left args text from to before first second third is
    ∙ (passes (costs_text to (builds (map (map_byte source target) (the_text text))))
    ∙ (passes_then (builds (map (map_byte source target) (the_text text)))
    ∙ ap (λ (bytes : List ℕ). builds bytes between)
    (ap (λ (bytes : List ℕ). map (map_byte source target) bytes) (sym same)
    ∙ (ap (λ (bytes : List ℕ). map (map_byte bytes target) made) (sym same_from)
    ∙ ap (λ (bytes : List ℕ). map (map_byte made_from bytes) made) (sym same_to)))))
