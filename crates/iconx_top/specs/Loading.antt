-- How the code tells what it reads.
use Rattle.std.specs.Prelude.{◌≡◌, ◌⊎◌, ◌<◌, ℕ, List, length, take, Option, None, Some, Result, Ok, Err, Vec}
use Rattle.icn_host.specs.Counts.{one_more}
use Rattle.icn_profile.specs.Numbers.{most_bytes_of_image, most_bytes_told_of_image}
use Rattle.icn_tree.specs.declared.rule.Rule.{Rule}
use Rattle.icn_tree.specs.declared.rule.Rule.TheVariants.{I7}
use Rattle.icn_code.specs.Codes.{Tables}
use Rattle.icn_code.specs.CodeTables.{tables_of}
use Rattle.icn_image.specs.declared.fault.ImageFault.{ImageFault}
use Rattle.icn_image.specs.declared.fault.ImageFault.TheVariants.{Broken, NoMemory as WantsMemory}
use Rattle.icn_image.specs.Spelling.{image_of}
use Rattle.icn_verify.specs.Faults.{IsFirstFault, IsVerified}
use Rattle.icn_verify.specs.declared.verified.Verified.{Verified}
use Rattle.icn_answer.specs.declared.answer.Answer.{Answer}
use Rattle.icn_answer.specs.declared.answer.Answer.TheVariants.{Missing, BadImage, FileFault, NoMemory}
use Rattle.icn_answer.specs.Answers.{IsAbsence, IsFault}
use Rattle.iconx_top.specs.Job.{IsShort}
use Rattle.iconx_top.specs.LoadedImages.{IsJudged}

-- the first bytes of a text, up to one more than an image may have
abbrev pub Takes : List ℕ → List ℕ → Type 0
Takes bytes all = bytes ≡ take most_bytes_told_of_image all

-- a code is refused by this rule
abbrev pub IsRefused : Tables → Rule → Type 0
IsRefused tables rule = (number : ℕ) × ((place : ℕ) × IsFirstFault tables.procs rule number place)

-- a code is verified, or is refused, or memory was wanting
abbrev pub IsChecked : Tables → Result Verified Answer → Type 0
IsChecked tables (Ok verified) = (tables_of verified.code ≡ tables) × IsVerified tables
IsChecked tables (Err (BadImage rule)) = IsRefused tables rule
IsChecked tables (Err NoMemory) = Unit {0}
IsChecked tables (Err answer) = ⊥

-- the bytes of an image come to this, or memory was wanting
abbrev pub IsJudgement : List ℕ → Result Verified Answer → Type 0
IsJudgement bytes (Ok verified) = IsJudged bytes (Ok (tables_of verified.code))
IsJudgement bytes (Err (BadImage rule)) = IsJudged bytes (Err rule)
IsJudgement bytes (Err NoMemory) = Unit {0}
IsJudgement bytes (Err answer) = ⊥

-- what the store holds under the image's name comes to this, or the outside failed
abbrev pub IsLoaded : Option (List ℕ) → List ℕ → Result Verified Answer → Type 0
IsLoaded held name (Ok verified) =
    (bytes : List ℕ) × ((held ≡ Some bytes) × IsJudged bytes (Ok (tables_of verified.code)))
IsLoaded held name (Err (BadImage rule)) =
    (bytes : List ℕ) × ((held ≡ Some bytes) × IsJudged bytes (Err rule))
IsLoaded held name (Err (Missing other)) = (other ≡ name) × (held ≡ None)
IsLoaded held name (Err FileFault) = Unit {0}
IsLoaded held name (Err NoMemory) = Unit {0}
IsLoaded held name (Err answer) = ⊥

-- the answer where bytes are no image
abbrev pub of_image : ImageFault → Answer
of_image (Broken rule) = BadImage rule
of_image WantsMemory = NoMemory

-- an answer that the bytes of an image may come to
abbrev pub IsOfImage : Answer → Type 0
IsOfImage (BadImage rule) = Unit {0}
IsOfImage NoMemory = Unit {0}
IsOfImage answer = ⊥

-- an answer that loading an image may have
abbrev pub IsOfLoading : Answer → Type 0
IsOfLoading (Missing name) = Unit {0}
IsOfLoading (BadImage rule) = Unit {0}
IsOfLoading FileFault = Unit {0}
IsOfLoading NoMemory = Unit {0}
IsOfLoading answer = ⊥

-- The count of absences stayed, and no absence is answered; or it rose, once, and one is, or a fault in its place.
abbrev pub CountsAbsence : Answer → ℕ → ℕ → Type 0
CountsAbsence answer before now = ((now ≡ before) × (IsAbsence answer → ⊥))
    ⊎ ((now ≡ one_more before) × (IsAbsence answer ⊎ IsFault answer))

-- the same of what loading an image comes to
abbrev pub AbsencesOf : Result Verified Answer → ℕ → ℕ → Type 0
AbsencesOf (Ok verified) before now = now ≡ before
AbsencesOf (Err answer) before now = CountsAbsence answer before now

-- why there is no second version of a code: it would be too long, or memory was wanting
abbrev pub IsNoSecondImage : Tables → Answer → Type 0
IsNoSecondImage tables (BadImage rule) = (rule ≡ I7) × (most_bytes_of_image < length (image_of tables))
IsNoSecondImage tables NoMemory = Unit {0}
IsNoSecondImage tables answer = ⊥

-- the second version of a code, or the answer where there is none
abbrev pub IsSecondImage : {Z : Type 0} → Tables → Result (Vec ℕ Z) Answer → Type 0
IsSecondImage tables (Ok image) = (image.items ≡ image_of tables) × IsShort tables
IsSecondImage tables (Err answer) = IsNoSecondImage tables answer
