-- The numbers of first statics that verified code keeps are those of the run.
use Rattle.std.proofs.Common.{◌≡◌, ℕ, zero, suc, ◌+◌, ◌<◌, List, [], ◌∷◌, length, take, slice_get, Some, ap, ◌∙◌, arith}
use Rattle.std.specs.List.{sum_by}
use Rattle.std.proofs.lemmas.List.Sums.{sum_by-cons}
use Rattle.icn_code.specs.Codes.{Proc, Tables}
use Rattle.icn_verify.specs.FirstStatics.{first_statics, first_statics_from}
use Rattle.icn_run.specs.Step.{statics_of, statics_before}
use Rattle.icn_instructions.specs.FirstStatics.{AreFirstStatics}

first_at : (before : ℕ) (procs : List Proc) (n : ℕ) → n < length procs
    → slice_get (first_statics_from before procs) n ≡ Some (before + sum_by statics_of (take n procs))
first_at before [] n within = absurd (omega (arith, within))
first_at before (p ∷ procs) zero within =
    let same : before ≡ before + sum_by statics_of (take 0 (p ∷ procs)) = omega arith in
    ap Some same
first_at before (p ∷ procs) (suc n) within =
    let sum : sum_by statics_of (p ∷ take n procs) ≡ p.statics + sum_by statics_of (take n procs) = sum_by-cons statics_of p (take n procs) in
    let less : n < length procs = omega (arith, within) in
    let same : (before + p.statics) + sum_by statics_of (take n procs) ≡ before + sum_by statics_of (p ∷ take n procs) = omega (arith, sum) in
    first_at (before + p.statics) procs n less ∙ ap Some same

pub first_statics_kept : (tables : Tables) (firsts : List ℕ) → firsts ≡ first_statics tables → AreFirstStatics tables firsts
first_statics_kept tables firsts same = record {
  each = λ proc within.
      let start : 0 + statics_before tables proc ≡ statics_before tables proc = omega arith in
      ap (λ (all : List ℕ). slice_get all proc) same ∙ first_at 0 tables.procs proc within ∙ ap Some start;
}
