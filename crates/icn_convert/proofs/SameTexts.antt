-- Texts are the same where their bytes are.
use Rattle.std.proofs.Common.{◌≡◌, ◌∙◌, refl, sym, ℕ, List}
use Rattle.std.specs.Cmp.Lexicographic.{slice_cmp}
use Rattle.std.specs.Ordering.{ordering_then, nat_cmp, is_eq}
use Rattle.std.specs.Str.{bytes_eq}
use Rattle.std.specs.declared.cmp.Ordering.{Ordering}
use Rattle.std.specs.declared.cmp.Ordering.TheVariants.{Less, Equal, Greater}
use Rattle.std.proofs.lemmas.Map.Text.{is_eq-slice_cmp}
use Rattle.icn_value.specs.Sameness.{same}
use Rattle.icn_value.specs.Values.{Text, Chars}

then_equal : (order : Ordering) → is_eq (ordering_then order Equal) ≡ is_eq order
then_equal Less = refl
then_equal Equal = refl
then_equal Greater = refl

pub texts_same : (a b : List ℕ) → bytes_eq a b ≡ same (Text a) (Text b)
texts_same a b = sym (then_equal (slice_cmp nat_cmp a b) ∙ is_eq-slice_cmp a b)

pub csets_same : (a b : List ℕ) → bytes_eq a b ≡ same (Chars a) (Chars b)
csets_same a b = sym (then_equal (slice_cmp nat_cmp a b) ∙ is_eq-slice_cmp a b)
