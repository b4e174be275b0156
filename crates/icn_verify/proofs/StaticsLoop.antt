-- Counting the statics of one procedure behind the other, as a loop does.
use Rattle.std.proofs.Common.{◌≡◌, ℕ, ◌+◌, ◌≤◌, List, [], ◌∷◌, ◌++◌, sym, ap, ◌∙◌, append_assoc, arith}
use Rattle.std.specs.List.{sum_by}
use Rattle.std.proofs.lemmas.List.{append-nil}
use Rattle.std.proofs.lemmas.List.Sums.{sum_by-cons}
use Rattle.icn_code.specs.Codes.{Proc}
use Rattle.icn_verify.specs.FirstStatics.{first_statics_from}

abbrev pub statics_in : Proc → ℕ
statics_in proc = proc.statics

-- the statics of one procedure more, where so many stand before it
pub statics_sum : (before : ℕ) (proc : Proc) (rest others : List Proc) → rest ≡ proc ∷ others → before + sum_by statics_in rest ≤ 4294967295
    → (before + proc.statics) + sum_by statics_in others ≤ 4294967295
statics_sum before proc rest others split few =
    let sum : sum_by statics_in rest ≡ proc.statics + sum_by statics_in others = ap (sum_by statics_in) split ∙ sum_by-cons statics_in proc others in
    omega (arith, few, sum)

pub first_more : (done : List ℕ) (before : ℕ) (proc : Proc) (rest others : List Proc) (total : List ℕ) → rest ≡ proc ∷ others
    → done ++ first_statics_from before rest ≡ total → (done ++ before ∷ []) ++ first_statics_from (before + proc.statics) others ≡ total
first_more done before proc rest others total split so_far =
    append_assoc done (before ∷ []) (first_statics_from (before + proc.statics) others)
    ∙ (sym (ap (λ (procs : List Proc). done ++ first_statics_from before procs) split) ∙ so_far)

pub firsts_done : (done : List ℕ) (before : ℕ) (rest : List Proc) (total : List ℕ) → rest ≡ [] → done ++ first_statics_from before rest ≡ total → done ≡ total
firsts_done done before rest total none so_far =
    sym (append-nil done) ∙ (sym (ap (λ (procs : List Proc). done ++ first_statics_from before procs) none) ∙ so_far)
