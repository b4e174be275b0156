-- What rows come to once both places are known.
use Rattle.std.proofs.Common.{◌≡◌, ◌∙◌, refl, sym, ap, ℕ, pos, ◌+◌, ◌-◌, ◌^◌, ◌<◌, ◌≤◌, ◌&&◌, nat_lt, Bool, true, false, List, length, Option, Some, None, arith}
use Rattle.std.specs.List.{find, prefix_len, range_with_len}
use mir.Val.{to_z}
use Rattle.std.specs.Int.{w64}
use Rattle.std.proofs.lemmas.Bool.{lt-ltb, le-ltb}
use Rattle.std.proofs.lemmas.Int.{to_z_pos}
use Rattle.icn_value.specs.Values.{Integer, Val}
use Rattle.icn_value.specs.Store.{Setting}
use Rattle.icn_defs.specs.Conversions.{contains}
use Rattle.icn_defs.specs.Rows.{Row, Among, Balanced, Fails, Found, Residual, Suspends, thing_or_failure, fails_unless, suspends}
use Rattle.icn_defs.specs.Scanning.{SearchedText, among_from, balanced_again, balanced_from, balanced_position, between, byte_behind, count_behind, ends_of, found_from, gives_position, stands}
use Rattle.icn_scanfn.specs.Searches.{any_in, many_in, match_in}
use Rattle.icn_scanfn.proofs.PlaceByPlace.{between_none}

-- Tests at the first place

module _ (region : SearchedText) (setting : Setting) (from to : ℕ)
    (ends : (next : ℕ × ℕ → Row) (setting : Setting) → ends_of region next setting ≡ next (from, to) setting) where
  any_by : (bytes text : List ℕ) (test : Bool) → text ≡ region.text → test ≡ (nat_lt from to && contains bytes (byte_behind text from))
      → any_in bytes region setting ≡ fails_unless test (gives_position (from + 1)) setting
  any_by bytes text test same is =
      ends (λ ends. fails_unless (nat_lt ends.0 ends.1 && contains bytes (byte_behind region.text ends.0)) (gives_position (ends.0 + 1))) setting
      ∙ ap (λ t. fails_unless t (gives_position (from + 1)) setting) (ap (λ text. nat_lt from to && contains bytes (byte_behind text from)) (sym same) ∙ sym is)

  pub any_passes : (bytes text : List ℕ) (test : Bool) → text ≡ region.text → test ≡ (nat_lt from to && contains bytes (byte_behind text from)) → test ≡ true
      → any_in bytes region setting ≡ gives_position (from + 1) setting
  any_passes bytes text test same is passes = any_by bytes text test same is ∙ ap (λ t. fails_unless t (gives_position (from + 1)) setting) passes

  pub any_fails : (bytes text : List ℕ) (test : Bool) → text ≡ region.text → test ≡ (nat_lt from to && contains bytes (byte_behind text from)) → test ≡ false
      → any_in bytes region setting ≡ Fails setting
  any_fails bytes text test same is fails = any_by bytes text test same is ∙ ap (λ t. fails_unless t (gives_position (from + 1)) setting) fails

  many_by : (bytes text : List ℕ) (count : ℕ) → text ≡ region.text → count ≡ prefix_len (contains bytes) (between text from to)
      → many_in bytes region setting ≡ fails_unless (nat_lt 0 count) (gives_position (from + count)) setting
  many_by bytes text count same is =
      ends (λ ends. fails_unless (nat_lt 0 (prefix_len (contains bytes) (between region.text ends.0 ends.1)))
      (gives_position (ends.0 + prefix_len (contains bytes) (between region.text ends.0 ends.1)))) setting
      ∙ ap (λ n. fails_unless (nat_lt 0 n) (gives_position (from + n)) setting) (ap (λ text. prefix_len (contains bytes) (between text from to)) (sym same) ∙ sym is)

  pub many_passes : (bytes text : List ℕ) (count : ℕ) → text ≡ region.text → count ≡ prefix_len (contains bytes) (between text from to) → 0 < count
      → many_in bytes region setting ≡ gives_position (from + count) setting
  many_passes bytes text count same is some = many_by bytes text count same is ∙ ap (λ t. fails_unless t (gives_position (from + count)) setting) (lt-ltb 0 count some)

  pub many_fails : (bytes text : List ℕ) (count : ℕ) → text ≡ region.text → count ≡ prefix_len (contains bytes) (between text from to) → count ≤ 0
      → many_in bytes region setting ≡ Fails setting
  many_fails bytes text count same is none = many_by bytes text count same is ∙ ap (λ t. fails_unless t (gives_position (from + count)) setting) (le-ltb 0 count none)

  match_by : (wanted bytes text : List ℕ) (test : Bool) → bytes ≡ wanted → text ≡ region.text → test ≡ stands bytes text from to
      → match_in wanted region setting ≡ fails_unless test (gives_position (from + length bytes)) setting
  match_by wanted bytes text test is_wanted same is =
      ends (λ ends. fails_unless (stands wanted region.text ends.0 ends.1) (gives_position (ends.0 + length wanted))) setting
      ∙ (ap (λ wanted. fails_unless (stands wanted region.text from to) (gives_position (from + length wanted)) setting) (sym is_wanted)
      ∙ ap (λ t. fails_unless t (gives_position (from + length bytes)) setting) (ap (λ text. stands bytes text from to) (sym same) ∙ sym is))

  pub match_passes : (wanted bytes text : List ℕ) (test : Bool) → bytes ≡ wanted → text ≡ region.text → test ≡ stands bytes text from to → test ≡ true
      → match_in wanted region setting ≡ gives_position (from + length bytes) setting
  match_passes wanted bytes text test is_wanted same is passes =
      match_by wanted bytes text test is_wanted same is ∙ ap (λ t. fails_unless t (gives_position (from + length bytes)) setting) passes

  pub match_fails : (wanted bytes text : List ℕ) (test : Bool) → bytes ≡ wanted → text ≡ region.text → test ≡ stands bytes text from to → test ≡ false
      → match_in wanted region setting ≡ Fails setting
  match_fails wanted bytes text test is_wanted same is fails =
      match_by wanted bytes text test is_wanted same is ∙ ap (λ t. fails_unless t (gives_position (from + length bytes)) setting) fails

-- Searches: what is found is given, and a search that has come to its end finds nothing more

pub text_found : (wanted text bytes searched : List ℕ) (place last : ℕ) (result : Option ℕ) (setting : Setting) → bytes ≡ wanted → searched ≡ text
    → result ≡ find (λ place. stands bytes searched place last) (range_with_len place (last + 1 - place))
    → found_from wanted text place last setting ≡ thing_or_failure result (λ place. suspends (Val (Integer (pos place))) (Found wanted text place last)) setting
text_found wanted text bytes searched place last result setting is_wanted is_text is =
    ap (λ (o : Option ℕ). thing_or_failure o (λ place. suspends (Val (Integer (pos place))) (Found wanted text place last)) setting)
    (ap (λ wanted. find (λ place. stands wanted text place last) (range_with_len place (last + 1 - place))) (sym is_wanted)
    ∙ (ap (λ text. find (λ place. stands bytes text place last) (range_with_len place (last + 1 - place))) (sym is_text) ∙ sym is))

pub no_more_text : (wanted text : List ℕ) (place last : ℕ) (setting : Setting) → last ≤ place → found_from wanted text (place + 1) last setting ≡ Fails setting
no_more_text wanted text place last setting over =
    let none : last + 1 - (place + 1) ≡ 0 = omega arith in
    ap (λ n. thing_or_failure (find (λ place. stands wanted text place last) (range_with_len (place + 1) n))
    (λ place. suspends (Val (Integer (pos place))) (Found wanted text place last)) setting) none

pub member_found : (bytes text searched : List ℕ) (place last : ℕ) (result : Option ℕ) (setting : Setting) → searched ≡ text
    → result ≡ find (λ place. contains bytes (byte_behind searched place)) (range_with_len place (last - place))
    → among_from bytes text place last setting ≡ thing_or_failure result (λ place. suspends (Val (Integer (pos place))) (Among bytes text place last)) setting
member_found bytes text searched place last result setting is_text is =
    ap (λ (o : Option ℕ). thing_or_failure o (λ place. suspends (Val (Integer (pos place))) (Among bytes text place last)) setting)
    (ap (λ text. find (λ place. contains bytes (byte_behind text place)) (range_with_len place (last - place))) (sym is_text) ∙ sym is)

pub no_more_members : (bytes text : List ℕ) (place last : ℕ) (setting : Setting) → last ≤ place → among_from bytes text (place + 1) last setting ≡ Fails setting
no_more_members bytes text place last setting over =
    let none : last - (place + 1) ≡ 0 = omega arith in
    ap (λ n. thing_or_failure (find (λ place. contains bytes (byte_behind text place)) (range_with_len (place + 1) n))
    (λ place. suspends (Val (Integer (pos place))) (Among bytes text place last)) setting) none

module _ (wanted opening closing text : List ℕ) (last : ℕ) (setting : Setting) where
  pub balanced_found : (searched : List ℕ) (place count : ℕ) (result : Option ℕ) → searched ≡ text
      → result ≡ balanced_position wanted opening closing (between searched place last) place count
      → balanced_from wanted opening closing text place last count setting
      ≡ thing_or_failure result (λ place. suspends (Val (Integer (pos place))) (Balanced wanted opening closing text place last)) setting
  balanced_found searched place count result is_text is =
      ap (λ (o : Option ℕ). thing_or_failure o (λ place. suspends (Val (Integer (pos place))) (Balanced wanted opening closing text place last)) setting)
      (ap (λ text. balanced_position wanted opening closing (between text place last) place count) (sym is_text) ∙ sym is)

  over : (place : ℕ) → last ≤ place → (counted : Option ℕ)
      → thing_or_failure counted (λ count. balanced_from wanted opening closing text (place + 1) last count) setting ≡ Fails setting
  over place less None = refl
  over place less (Some count) =
      ap (λ bytes. thing_or_failure (balanced_position wanted opening closing bytes (place + 1) count)
      (λ place. suspends (Val (Integer (pos place))) (Balanced wanted opening closing text place last)) setting)
      (between_none text (place + 1) last (omega arith))

  pub no_more_balanced : (place : ℕ) → last ≤ place → balanced_again wanted opening closing text place last setting ≡ Fails setting
  no_more_balanced place less = over place less (count_behind opening closing (byte_behind text place) 0)

  pub balanced_on : (searched : List ℕ) (place : ℕ) (counted : Option ℕ) → searched ≡ text
      → counted ≡ count_behind opening closing (byte_behind searched place) 0
      → balanced_again wanted opening closing text place last setting
      ≡ thing_or_failure counted (λ count. balanced_from wanted opening closing text (place + 1) last count) setting
  balanced_on searched place counted is_text is =
      ap (λ (o : Option ℕ). thing_or_failure o (λ count. balanced_from wanted opening closing text (place + 1) last count) setting)
      (ap (λ text. count_behind opening closing (byte_behind text place) 0) (sym is_text) ∙ sym is)

-- a place that is given, as it is held
pub place_held : (place : ℕ) (rest : Residual) (setting : Setting) → place < 2 ^ 63
    → Suspends (Val (Integer (pos place))) rest setting ≡ Suspends (Val (Integer (to_z w64 place))) rest setting
place_held place rest setting small = sym (ap (λ n. Suspends (Val (Integer n)) rest setting) (to_z_pos w64 place small))
