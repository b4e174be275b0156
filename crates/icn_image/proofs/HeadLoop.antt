-- Reading one head of a procedure behind the other, as a loop does.
use Rattle.std.proofs.Common.{◌≡◌, ℕ, suc, ◌-◌, ◌+◌, ◌≤◌, ◌<◌, List, [], ◌∷◌, ◌++◌, Result, Ok, Err, refl, sym, ap, ◌∙◌, arith}
use Rattle.std.specs.Int.{Width}
use Rattle.std.proofs.lemmas.List.{append-nil}
use Rattle.icn_tree.specs.declared.rule.Rule.{Rule}
use Rattle.icn_image.specs.declared.fault.ImageFault.{ImageFault}
use Rattle.icn_image.specs.declared.fault.ImageFault.TheVariants.{Broken, NoMemory}
use Rattle.icn_image.specs.declared.head.ImageHead.{ImageHead}
use Rattle.icn_image.specs.Readers.{Fails}
use Rattle.icn_image.specs.Reading.{head_at, heads_from}
use Rattle.icn_image.proofs.EntryLoop.{with_front, regroup}

pub head_goes_on : (w : Width) (strings before after_it : ℕ) (done : List ImageHead) (count i : ℕ) (bytes : List ℕ) (entry : ImageHead) (after : List ℕ)
    (total : Result (List ImageHead × List ℕ) Rule) → i < count → head_at w strings before bytes ≡ Ok (entry, after) → after_it ≡ before + entry.statics
    → with_front done (heads_from w strings before (count - i) bytes) ≡ total
    → with_front (done ++ entry ∷ []) (heads_from w strings after_it (count - (i + 1)) after) ≡ total
unfolding heads_from
head_goes_on w strings before after_it done count i bytes entry after total lt h same so_far =
    let k : count - i ≡ suc (count - (i + 1)) = omega arith in
    let one : with_front done (heads_from w strings before (count - i) bytes)
    ≡ with_front (done ++ entry ∷ []) (heads_from w strings (before + entry.statics) (count - (i + 1)) after) = rw (k, h)
    (regroup done entry (heads_from w strings (before + entry.statics) (count - (i + 1)) after)) in
    ap (λ (m : ℕ). with_front (done ++ entry ∷ []) (heads_from w strings m (count - (i + 1)) after)) same ∙ (sym one ∙ so_far)

pub head_ends : (w : Width) (strings before : ℕ) (fault : ImageFault) (done : List ImageHead) (count i : ℕ) (bytes : List ℕ)
    (total : Result (List ImageHead × List ℕ) Rule) → i < count → Fails fault (head_at w strings before bytes)
    → with_front done (heads_from w strings before (count - i) bytes) ≡ total → Fails fault total
unfolding heads_from
head_ends w strings before NoMemory done count i bytes total lt h so_far = tt
head_ends w strings before (Broken rule) done count i bytes total lt h so_far =
    let k : count - i ≡ suc (count - (i + 1)) = omega arith in
    let one : with_front done (heads_from w strings before (count - i) bytes) ≡ Err rule = rw (k, h) refl in
    sym so_far ∙ one

pub heads_done : (w : Width) (strings before : ℕ) (done : List ImageHead) (count i : ℕ) (bytes : List ℕ) (total : Result (List ImageHead × List ℕ) Rule)
    → count ≤ i → with_front done (heads_from w strings before (count - i) bytes) ≡ total → total ≡ Ok (done, bytes)
unfolding heads_from
heads_done w strings before done count i bytes total le so_far =
    let k : count - i ≡ 0 = omega arith in
    let one : with_front done (heads_from w strings before (count - i) bytes)
    ≡ Ok (done, bytes) = rw k (ap (λ (all : List ImageHead). Ok (all, bytes)) (append-nil done)) in
    sym so_far ∙ one
