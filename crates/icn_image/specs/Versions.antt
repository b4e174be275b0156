-- The versions of an image, and what each can hold.
use Rattle.std.specs.Prelude.{ℕ, Bool, List, [], ◌∷◌}
use Rattle.std.specs.Int.{Width, w16, w32}
use Rattle.icn_profile.specs.Numbers.{number_limit, number_limit_of_first_image}
use Rattle.icn_code.specs.Codes.{Tables}
use Rattle.icn_code.specs.Rules.{keeps_rules_below}
use Rattle.icn_image.specs.declared.version.Version.{Version}
use Rattle.icn_image.specs.declared.version.Version.TheVariants.{First, Second}

-- how wide its numbers are: counts, lengths, indices and operands that are no labels
abbrev pub width_of : Version → Width
width_of First = w16
width_of Second = w32

-- its numbers are below this one
abbrev pub limit_of : Version → ℕ
limit_of First = number_limit_of_first_image
limit_of Second = number_limit

-- the byte that tells it
abbrev pub version_byte : Version → ℕ
version_byte First = 1
version_byte Second = 2

-- `Icn9img` and the version
abbrev pub image_head : Version → List ℕ
image_head version = 73 ∷ 99 ∷ 110 ∷ 57 ∷ 105 ∷ 109 ∷ 103 ∷ version_byte version ∷ []

-- The version can hold the code: its tables keep the rules, and its numbers have room. The second version can hold each code.
unfoldable pub can_hold : Version → Tables → Bool
can_hold version tables = keeps_rules_below (limit_of version) tables
