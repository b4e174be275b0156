-- The check of one procedure after the other.
use Rattle.std.proofs.Common.{◌≡◌, ℕ, zero, suc, ◌+◌, ◌<◌, ◌≤◌, ◌⊎◌, inl, inr, List, [], ◌∷◌, length, slice_get, slice_index_or, Option, None, Some, Result, Ok, Err, IfOk, IfSome, sym, ap, subst, ◌∙◌, arith}
use Rattle.std.proofs.lemmas.Bool.{cases_lt}
use Rattle.std.proofs.lemmas.List.{length-map}
use Rattle.icn_tree.specs.declared.rule.Rule.{Rule}
use Rattle.icn_tree.specs.declared.rule.Rule.TheVariants.{V1, V2, V3, V4, V5}
use Rattle.icn_code.specs.declared.instr.Instr.{Instr}
use Rattle.icn_code.specs.declared.code.LinkedProcedure.{LinkedProcedure}
use Rattle.icn_code.specs.Codes.{Proc, proc_of, procs_of}
use Rattle.icn_verify.specs.ReachingShapes.{AreWithin}
use Rattle.icn_verify.specs.Faults.{Breaks, IsSound, AreSound}
use Rattle.icn_verify.specs.Passing.{fault_of}
use Rattle.icn_verify.proofs.FirstFaults.{reaches_within, some_within}
use Rattle.icn_verify.proofs.SoundInstructions.{found_means}

some_same : {A : Type 0} (a b : A) → Some a ≡ Some b → a ≡ b
some_same a b h = cc

pub proc_at : (procs : List LinkedProcedure) (number : ℕ) (proc : LinkedProcedure) → number < length procs → proc ≡ slice_index_or procs number proc
    → slice_get (procs_of procs) number ≡ Some (proc_of proc)
proc_at [] number proc lt is = absurd (omega arith)
proc_at (first ∷ procs) zero proc lt is = ap (λ p. Some (proc_of p)) (sym is)
proc_at (first ∷ procs) (suc number) proc lt is = proc_at procs number proc (omega arith) is

-- a rule is broken at a place of the instructions, or at their end
breaks_within : (instrs : List Instr) → AreWithin instrs → (place : ℕ) (rule : Rule) → Breaks instrs place rule → place ≤ length instrs
breaks_within instrs labels place V1 b = reaches_within instrs labels place b.shape b.met.reaches
breaks_within instrs labels place V2 (inl b) = reaches_within instrs labels place b.one b.reaches
breaks_within instrs labels place V2 (inr b) = reaches_within instrs labels place b.shape b.met.reaches
breaks_within instrs labels place V3 b = reaches_within instrs labels place b.shape b.met.reaches
breaks_within instrs labels place V4 b = reaches_within instrs labels place b.shape b.met.reaches
breaks_within instrs labels place V5 b = reaches_within instrs labels place b.shape b.reaches
breaks_within instrs labels place _ b = absurd b

pub found_within : {E : Type 0} (instrs : List Instr) → AreWithin instrs → (result : Result (Option (Rule × ℕ)) E)
    → IfOk result (λ found. found ≡ fault_of instrs) → IfOk result (λ found. IfSome found (λ f. f.1 ≤ length instrs))
found_within instrs labels (Err e) is = tt
found_within instrs labels (Ok None) is = tt
found_within instrs labels (Ok (Some f)) is = breaks_within instrs labels f.1 f.0 (found_means instrs labels (Some f) is).breaks

-- one more procedure is sound
pub sound_on : (procs : List LinkedProcedure) (number : ℕ) (proc : LinkedProcedure) → slice_get (procs_of procs) number ≡ Some (proc_of proc)
    → ((earlier : ℕ) (other : Proc) → earlier < number → slice_get (procs_of procs) earlier ≡ Some other → IsSound other.instrs) → IsSound (proc_of proc).instrs
    → (earlier : ℕ) (other : Proc) → earlier < number + 1 → slice_get (procs_of procs) earlier ≡ Some other → IsSound other.instrs
sound_on procs number proc at before here earlier other lt stands = by (cases_lt earlier number)
  where
    by : (earlier < number) ⊎ (number ≤ earlier) → IsSound other.instrs
    by (inl less) = before earlier other less stands
    by (inr ge) =
        let is : earlier ≡ number = omega arith in
        subst (λ p. IsSound p.instrs) (some_same (proc_of proc) other (sym at ∙ ap (slice_get (procs_of procs)) (sym is) ∙ stands)) here

pub sound_all : (procs : List LinkedProcedure) (number : ℕ) → length procs ≤ number
    → ((earlier : ℕ) (other : Proc) → earlier < number → slice_get (procs_of procs) earlier ≡ Some other → IsSound other.instrs) → AreSound (procs_of procs)
sound_all procs number ge before place other stands =
    let lt = some_within (procs_of procs) place other stands in
    let long = length-map procs proc_of in
    before place other (omega arith) stands
