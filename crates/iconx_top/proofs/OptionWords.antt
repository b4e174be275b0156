-- The words of options, one after the other.
use Rattle.std.proofs.Common.{◌≡◌, ℕ, List, ◌∷◌, Option, Some, map, sym, ap, ◌∙◌}
use Rattle.std.specs.Prelude.{String, string_bytes}
use Rattle.std.specs.Option.{option_map}
use Rattle.icn_value.specs.declared.limits.Limits.{Limits}
use Rattle.icn_value.specs.Limited.{Bounds, limits_of}
use Rattle.iconx_top.specs.declared.words.Limit.{Limit}
use Rattle.iconx_top.specs.Words.{WordsReading, with_limit, option_of, options, or_faulty, two_words}

after_option : (bounds next : Bounds) (word value : List ℕ) (words : List (List ℕ)) (which : Limit) → option_of word ≡ Some which
    → with_limit which bounds value ≡ Some next
    → options bounds (word ∷ value ∷ words) ≡ options next words
after_option bounds next word value words which e f =
    ap (λ (o : Option Limit). two_words bounds word value words o (λ next. options next words)) e
    ∙ ap (λ (o : Option Bounds). or_faulty o (λ next. options next words)) f

-- an option with its value was read
pub option_read : {Z : Type 0} (limits next : Limits) (rest others behind : List (String Z)) (word value : String Z) (which : Limit) (all : WordsReading)
    (found : Option Limits) → rest ≡ word ∷ others → others ≡ value ∷ behind
    → option_of (string_bytes word) ≡ Some which → option_map limits_of found ≡ with_limit which (limits_of limits) (string_bytes value) → found ≡ Some next
    → options (limits_of limits) (map string_bytes rest) ≡ all → options (limits_of next) (map string_bytes behind) ≡ all
option_read limits next rest others behind word value which all found r o w l f h =
    let is : rest ≡ word ∷ value ∷ behind = r ∙ ap (λ xs. word ∷ xs) o in
    let limits_are : with_limit which (limits_of limits) (string_bytes value) ≡ Some (limits_of next) = sym l ∙ ap (option_map limits_of) f in
    sym (after_option (limits_of limits) (limits_of next) (string_bytes word) (string_bytes value) (map string_bytes behind) which w limits_are)
    ∙ (sym (ap (λ xs. options (limits_of limits) (map string_bytes xs)) is) ∙ h)
