-- Reading one global behind the other, as a loop does.
use Rattle.std.proofs.Common.{◌≡◌, ℕ, suc, ◌-◌, ◌+◌, ◌≤◌, ◌<◌, List, [], ◌∷◌, ◌++◌, Result, Ok, Err, refl, sym, ap, ◌∙◌, arith}
use Rattle.std.specs.Int.{Width}
use Rattle.std.proofs.lemmas.List.{append-nil}
use Rattle.icn_tree.specs.declared.rule.Rule.{Rule}
use Rattle.icn_code.specs.declared.code.Global.{Global}
use Rattle.icn_code.specs.Rules.{name_of}
use Rattle.icn_image.specs.declared.fault.ImageFault.{ImageFault}
use Rattle.icn_image.specs.declared.fault.ImageFault.TheVariants.{Broken, NoMemory}
use Rattle.icn_tree.specs.NameSets.{NameTest, with_name}
use Rattle.icn_image.specs.Readers.{Fails}
use Rattle.icn_image.specs.Reading.{global_at, globals_from}
use Rattle.icn_image.proofs.EntryLoop.{with_front, regroup}

pub global_goes_on : (w : Width) (strings : List (List ℕ)) (records : ℕ) (met met' : NameTest) (done : List Global) (count i : ℕ) (bytes : List ℕ)
    (entry : Global) (after : List ℕ) (total : Result (List Global × List ℕ) Rule) → i < count
    → global_at w strings records met bytes ≡ Ok (entry, after) → met' ≡ with_name met (name_of strings entry)
    → with_front done (globals_from w strings records met (count - i) bytes) ≡ total
    → with_front (done ++ entry ∷ []) (globals_from w strings records met' (count - (i + 1)) after) ≡ total
unfolding globals_from
global_goes_on w strings records met met' done count i bytes entry after total lt h same so_far =
    let k : count - i ≡ suc (count - (i + 1)) = omega arith in
    let one : with_front done (globals_from w strings records met (count - i) bytes)
    ≡ with_front (done ++ entry ∷ []) (globals_from w strings records (with_name met (name_of strings entry)) (count - (i + 1)) after) = rw (k, h)
    (regroup done entry (globals_from w strings records (with_name met (name_of strings entry)) (count - (i + 1)) after)) in
    ap (λ (m : NameTest). with_front (done ++ entry ∷ []) (globals_from w strings records m (count - (i + 1)) after)) same ∙ (sym one ∙ so_far)

pub global_ends : (w : Width) (strings : List (List ℕ)) (records : ℕ) (met : NameTest) (fault : ImageFault) (done : List Global) (count i : ℕ) (bytes : List ℕ)
    (total : Result (List Global × List ℕ) Rule) → i < count
    → Fails fault (global_at w strings records met bytes) → with_front done (globals_from w strings records met (count - i) bytes) ≡ total → Fails fault total
unfolding globals_from
global_ends w strings records met NoMemory done count i bytes total lt h so_far = tt
global_ends w strings records met (Broken rule) done count i bytes total lt h so_far =
    let k : count - i ≡ suc (count - (i + 1)) = omega arith in
    let one : with_front done (globals_from w strings records met (count - i) bytes) ≡ Err rule = rw (k, h) refl in
    sym so_far ∙ one

pub globals_done : (w : Width) (strings : List (List ℕ)) (records : ℕ) (met : NameTest) (done : List Global) (count i : ℕ) (bytes : List ℕ)
    (total : Result (List Global × List ℕ) Rule) → count ≤ i
    → with_front done (globals_from w strings records met (count - i) bytes) ≡ total → total ≡ Ok (done, bytes)
unfolding globals_from
globals_done w strings records met done count i bytes total le so_far =
    let k : count - i ≡ 0 = omega arith in
    let one : with_front done (globals_from w strings records met (count - i) bytes)
    ≡ Ok (done, bytes) = rw k (ap (λ (all : List Global). Ok (all, bytes)) (append-nil done)) in
    sym so_far ∙ one
