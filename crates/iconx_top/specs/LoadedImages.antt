-- What the bytes of an image come to: a code that runs, or the rule that they break.
use Rattle.std.specs.Prelude.{◌≡◌, ◌≤◌, ◌<◌, ℕ, List, length, Result, Ok, Err}
use Rattle.icn_profile.specs.Numbers.{most_bytes_of_image}
use Rattle.icn_tree.specs.declared.rule.Rule.{Rule}
use Rattle.icn_tree.specs.declared.rule.Rule.TheVariants.{I6}
use Rattle.icn_code.specs.Codes.{Tables}
use Rattle.icn_image.specs.Reading.{image_read}
use Rattle.icn_verify.specs.Faults.{IsFirstFault, IsVerified}

-- An image has at most 1073741824 bytes. They spell a code, and the code is verified.
pub data IsJudged (bytes : List ℕ) : Result Tables Rule → Type 0 where
  too_long : most_bytes_of_image < length bytes → IsJudged bytes (Err I6)
  broken : (rule : Rule) → length bytes ≤ most_bytes_of_image → image_read bytes ≡ Err rule
      → IsJudged bytes (Err rule)
  unverified : (tables : Tables) (rule : Rule) (number place : ℕ) → length bytes ≤ most_bytes_of_image
      → image_read bytes ≡ Ok tables
      → IsFirstFault tables.procs rule number place → IsJudged bytes (Err rule)
  runs : (tables : Tables) → length bytes ≤ most_bytes_of_image → image_read bytes ≡ Ok tables
      → IsVerified tables
      → IsJudged bytes (Ok tables)
