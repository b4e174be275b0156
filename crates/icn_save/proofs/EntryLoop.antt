-- Reading one entry behind the other, as a loop does.
use Rattle.std.proofs.Common.{◌≡◌, ℕ, suc, ◌-◌, ◌+◌, ◌≤◌, ◌<◌, List, [], ◌∷◌, ◌++◌, Result, Ok, Err, refl, sym, ap, ◌∙◌, append_assoc, arith}
use Rattle.std.proofs.lemmas.List.{append-nil}
use Rattle.icn_tree.specs.declared.rule.Rule.{Rule}
use Rattle.icn_save.specs.declared.fault.SaveFault.{SaveFault}
use Rattle.icn_save.specs.declared.fault.SaveFault.TheVariants.{Broken, NoMemory}
use Rattle.icn_save.specs.Readers.{◌>>=◌, Reader, Fails, times}

-- what was read before, and what is still read
abbrev pub with_front : {A : Type 0} → List A → Result (List A × List ℕ) Rule → Result (List A × List ℕ) Rule
with_front done read = read >>= λ x. Ok (done ++ x.0, x.1)

pub regroup : {A : Type 0} (done : List A) (entry : A) (read : Result (List A × List ℕ) Rule)
    → with_front done (read >>= λ x. Ok (entry ∷ x.0, x.1)) ≡ with_front (done ++ entry ∷ []) read
regroup {A} done entry (Ok x) = ap (λ (all : List A). Ok (all, x.1)) (simp append_assoc)
regroup done entry (Err rule) = refl

-- one entry more leaves the same whole
pub loop_goes_on : {A : Type 0} (read : Reader A) (done : List A) (count i : ℕ) (bytes : List ℕ) (entry : A) (after : List ℕ)
    (total : Result (List A × List ℕ) Rule)
    → i < count → read bytes ≡ Ok (entry, after)
    → with_front done (times read (count - i) bytes) ≡ total → with_front (done ++ entry ∷ []) (times read (count - (i + 1)) after) ≡ total
unfolding times
loop_goes_on {A} read done count i bytes entry after total lt h so_far =
    let k : count - i ≡ suc (count - (i + 1)) = omega arith in
    let one : with_front done (times read (count - i) bytes)
    ≡ with_front (done ++ entry ∷ []) (times read (count - (i + 1)) after) = rw (k, h) (regroup done entry (times read (count - (i + 1)) after)) in
    sym one ∙ so_far

-- the fault of an entry is that of the whole
pub loop_fails : {A : Type 0} (read : Reader A) (fault : SaveFault) (done : List A) (count i : ℕ) (bytes : List ℕ) (total : Result (List A × List ℕ) Rule)
    → i < count → Fails fault (read bytes)
    → with_front done (times read (count - i) bytes) ≡ total → Fails fault total
unfolding times
loop_fails read NoMemory done count i bytes total lt h so_far = tt
loop_fails read (Broken rule) done count i bytes total lt h so_far =
    let k : count - i ≡ suc (count - (i + 1)) = omega arith in
    let one : with_front done (times read (count - i) bytes) ≡ Err rule = rw (k, h) refl in
    sym so_far ∙ one

-- where all entries were read, what was read is all
pub loop_done : {A : Type 0} (read : Reader A) (done : List A) (count i : ℕ) (bytes : List ℕ) (total : Result (List A × List ℕ) Rule) → count ≤ i
    → with_front done (times read (count - i) bytes) ≡ total → total ≡ Ok (done, bytes)
unfolding times
loop_done {A} read done count i bytes total le so_far =
    let k : count - i ≡ 0 = omega arith in
    let one : with_front done (times read (count - i) bytes) ≡ Ok (done, bytes) = rw k (ap (λ (all : List A). Ok (all, bytes)) (append-nil done)) in
    sym so_far ∙ one
