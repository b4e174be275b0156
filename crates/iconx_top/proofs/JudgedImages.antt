-- What bytes that were read come to.
use Rattle.std.proofs.Common.{◌≡◌, ℕ, ◌≤◌, ◌<◌, List, [], length, Option, None, Some, IfSome, IfErr, IsErrOf, Result, Ok, Err, refl, sym, ap, ◌∙◌, arith}
use Rattle.std.proofs.lemmas.List.{length-take, take_all}
use Rattle.icn_host.specs.FileMaps.{FileMap, Reads}
use Rattle.icn_tree.specs.declared.rule.Rule.TheVariants.{I6}
use Rattle.icn_code.specs.Codes.{Tables}
use Rattle.icn_image.specs.Reading.{image_read}
use Rattle.icn_image.specs.Readers.{Fails}
use Rattle.icn_image.specs.declared.fault.ImageFault.{ImageFault}
use Rattle.icn_image.specs.declared.fault.ImageFault.TheVariants.{Broken, NoMemory as WantsMemory}
use Rattle.icn_verify.specs.declared.verified.Verified.{Verified}
use Rattle.icn_answer.specs.declared.answer.Answer.{Answer}
use Rattle.icn_answer.specs.declared.answer.Answer.TheVariants.{Refused, Missing, BadImage, FileFault, NoMemory}
use Rattle.icn_answer.specs.Answers.{IsErrOfAbsence}
use Rattle.iconx_top.specs.LoadedImages.{IsJudged, too_long, broken, unverified, runs}
use Rattle.iconx_top.specs.Loading.{IsChecked, IsJudgement, IsLoaded, IsOfImage, IsOfLoading, Takes, of_image}

pub too_many : (bytes all : List ℕ) → 1073741824 < length bytes → Takes bytes all → IsJudged all (Err I6)
too_many bytes all long t = too_long (omega (arith, long, ap length t ∙ length-take 1073741825 all))

short : (bytes all : List ℕ) → length bytes ≤ 1073741824 → Takes bytes all → length all ≤ 1073741824
short bytes all within t = omega (arith, within, ap length t ∙ length-take 1073741825 all)

whole : (bytes all : List ℕ) → length bytes ≤ 1073741824 → Takes bytes all → bytes ≡ all
whole bytes all within t = let few : length all ≤ 1073741825 = omega (arith, short bytes all within t) in t ∙ take_all 1073741825 all few

checked_judged : (all : List ℕ) (tables : Tables) (result : Result Verified Answer) → length all ≤ 1073741824 → image_read all ≡ Ok tables
    → IsChecked tables result → IsJudgement all result
checked_judged all tables (Ok verified) few read is = rw is.0 (runs tables few read is.1)
checked_judged all tables (Err (BadImage rule)) few read is = unverified tables rule is.0 is.1.0 few read is.1.1
checked_judged all tables (Err NoMemory) few read is = tt
checked_judged all tables (Err _) few read is = is

pub code_judged : (bytes all : List ℕ) (tables : Tables) (result : Result Verified Answer) → length bytes ≤ 1073741824 → Takes bytes all
    → image_read bytes ≡ Ok tables → IsChecked tables result → IsJudgement all result
code_judged bytes all tables result within t read is =
    checked_judged all tables result (short bytes all within t) (ap image_read (sym (whole bytes all within t)) ∙ read) is

pub fault_judged : (bytes all : List ℕ) (fault : ImageFault) → length bytes ≤ 1073741824 → Takes bytes all → Fails fault (image_read bytes)
    → IsJudgement all (Err (of_image fault))
fault_judged bytes all (Broken rule) within t read = broken rule (short bytes all within t) (ap image_read (sym (whole bytes all within t)) ∙ read)
fault_judged bytes all WantsMemory within t read = tt

judged_loaded : (held : Option (List ℕ)) (name bytes : List ℕ) (result : Result Verified Answer) → held ≡ Some bytes → IsJudgement bytes result
    → IsLoaded held name result
judged_loaded held name bytes (Ok verified) e is = (bytes, (e, is))
judged_loaded held name bytes (Err (BadImage rule)) e is = (bytes, (e, is))
judged_loaded held name bytes (Err NoMemory) e is = tt
judged_loaded held name bytes (Err _) e is = absurd is

pub loaded : (held : Option FileMap) (name had bytes other : List ℕ) (result : Result Verified Answer) → had ≡ [] → bytes ≡ other
    → Reads held name 1073741825 had other → ((all : List ℕ) → Takes bytes all → IsJudgement all result)
    → IfSome held (λ files. IsLoaded (files name) name result)
loaded None name had bytes other result none same reads judged = tt
loaded (Some files) name had bytes other result none same reads judged =
    judged_loaded (files name) name reads.0 result reads.1 (judged reads.0 (same ∙ (reads.2 ∙ rw none refl)))

pub of_loading : (result : Result Verified Answer) → IfErr result IsOfImage → IfErr result IsOfLoading
of_loading (Ok verified) h = tt
of_loading (Err (BadImage rule)) h = tt
of_loading (Err NoMemory) h = tt
of_loading (Err _) h = absurd h

pub no_file_fault : (result : Result Verified Answer) → IfErr result IsOfImage → IsErrOf result FileFault → ⊥
no_file_fault (Ok verified) h is = cc
no_file_fault (Err answer) h is = let same : answer ≡ FileFault = cc in not_fault answer h same where
  not_fault : (answer : Answer) → IsOfImage answer → answer ≡ FileFault → ⊥
  not_fault (BadImage rule) h e = cc
  not_fault NoMemory h e = cc
  not_fault _ h e = h

pub no_absence : (result : Result Verified Answer) → IfErr result IsOfImage → IsErrOfAbsence result → ⊥
no_absence (Ok verified) h is = is
no_absence (Err (Missing name)) h is = h
no_absence (Err (Refused file line rule)) h is = h
no_absence (Err _) h is = is
