-- Reading one procedure behind the other, as a loop does.
use Rattle.std.proofs.Common.{◌≡◌, ℕ, List, [], ◌∷◌, ◌++◌, Result, Ok, Err, refl, sym, ap, ◌∙◌}
use Rattle.std.specs.Int.{Width}
use Rattle.std.proofs.lemmas.List.{append-nil}
use Rattle.icn_tree.specs.declared.rule.Rule.{Rule}
use Rattle.icn_code.specs.Codes.{Proc}
use Rattle.icn_image.specs.declared.fault.ImageFault.{ImageFault}
use Rattle.icn_image.specs.declared.fault.ImageFault.TheVariants.{Broken, NoMemory}
use Rattle.icn_image.specs.declared.head.ImageHead.{ImageHead}
use Rattle.icn_image.specs.Fronts.{FrontTables}
use Rattle.icn_image.specs.Readers.{Fails}
use Rattle.icn_image.specs.Reading.{proc_at, procs_at}
use Rattle.icn_image.proofs.EntryLoop.{with_front, regroup}

pub proc_goes_on : (w : Width) (front : FrontTables) (done : List Proc) (head : ImageHead) (heads rest : List ImageHead) (bytes : List ℕ) (proc : Proc)
    (after : List ℕ)
    (total : Result (List Proc × List ℕ) Rule) → rest ≡ head ∷ heads
    → proc_at w front head bytes ≡ Ok (proc, after) → with_front done (procs_at w front rest bytes) ≡ total
    → with_front (done ++ proc ∷ []) (procs_at w front heads after) ≡ total
unfolding procs_at
proc_goes_on w front done head heads rest bytes proc after total split h so_far =
    let one : with_front done (procs_at w front rest bytes)
    ≡ with_front (done ++ proc ∷ []) (procs_at w front heads after) = rw (split, h) (regroup done proc (procs_at w front heads after)) in
    sym one ∙ so_far

pub proc_ends : (w : Width) (front : FrontTables) (fault : ImageFault) (done : List Proc) (head : ImageHead) (heads rest : List ImageHead) (bytes : List ℕ)
    (total : Result (List Proc × List ℕ) Rule) → rest ≡ head ∷ heads
    → Fails fault (proc_at w front head bytes) → with_front done (procs_at w front rest bytes) ≡ total → Fails fault total
unfolding procs_at
proc_ends w front NoMemory done head heads rest bytes total split h so_far = tt
proc_ends w front (Broken rule) done head heads rest bytes total split h so_far =
    let one : with_front done (procs_at w front rest bytes) ≡ Err rule = rw (split, h) refl in
    sym so_far ∙ one

pub procs_done : (w : Width) (front : FrontTables) (done : List Proc) (rest : List ImageHead) (bytes : List ℕ) (total : Result (List Proc × List ℕ) Rule)
    → rest ≡ []
    → with_front done (procs_at w front rest bytes) ≡ total → total ≡ Ok (done, bytes)
unfolding procs_at
procs_done w front done rest bytes total none so_far =
    let one : with_front done (procs_at w front rest bytes) ≡ Ok (done, bytes) = rw none (ap (λ (all : List Proc). Ok (all, bytes)) (append-nil done)) in
    sym so_far ∙ one
