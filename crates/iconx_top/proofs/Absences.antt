-- How the count of absences stands behind a call.
use Rattle.std.proofs.Common.{◌≡◌, ◌⊎◌, inl, inr, ℕ, List, Result, Ok, Err, refl, sym, subst}
use Rattle.std.specs.Prelude.{IfErr}
use Rattle.icn_host.specs.Counts.{one_more}
use Rattle.icn_host.specs.Sinks.{SinkState}
use Rattle.icn_verify.specs.declared.verified.Verified.{Verified}
use Rattle.icn_answer.specs.declared.answer.Answer.{Answer}
use Rattle.icn_answer.specs.declared.answer.Answer.TheVariants.{Missing, NoMemory}
use Rattle.icn_answer.specs.Answers.{IsAbsence, IsFault}
use Rattle.icn_answer.specs.Refusing.{PutsItsLine, put, own, write_fault, want}
use Rattle.icn_run_answer.proofs.CountCauses.{absence_of}
use Rattle.iconx_top.specs.Loading.{AbsencesOf, CountsAbsence, IsOfImage}
use Rattle.iconx_top.proofs.JudgedImages.{no_absence}

-- an image that is there
pub judged_absences : {before now : ℕ} (result : Result Verified Answer) → IfErr result IsOfImage → now ≡ before → AbsencesOf result before now
judged_absences (Ok verified) others same = same
judged_absences (Err answer) others same = inl (same, no_absence (Err answer) others)

-- one that is not
pub missing_absences : {before now : ℕ} (answer : Answer) (name : List ℕ) → (answer ≡ Missing name) ⊎ (answer ≡ NoMemory) → now ≡ one_more before
    → CountsAbsence answer before now
missing_absences answer name (inl is) rose = inr (rose, inl (subst IsAbsence (sym is) tt))
missing_absences answer name (inr is) rose = inr (rose, inr (subst IsFault (sym is) refl))

-- what is answered in place of a refusal
pub refused_absences : {usage name : List ℕ} {before after : SinkState} {was now : ℕ} (answer given : Answer) → PutsItsLine usage name answer before after given
    → CountsAbsence answer was now → CountsAbsence given was now
refused_absences answer given line (inl (same, none)) = inl (same, λ absent. none (absence_of answer given line absent))
refused_absences answer _ (put n whole) (inr (rose, inl absent)) = inr (rose, inl absent)
refused_absences answer _ (put n whole) (inr (rose, inr fault)) = absurd (n fault)
refused_absences answer _ (own f puts) (inr (rose, told)) = inr (rose, inr f)
refused_absences answer _ (write_fault n stops) (inr (rose, told)) = inr (rose, inr refl)
refused_absences answer _ (want n between leads puts) (inr (rose, told)) = inr (rose, inr refl)
