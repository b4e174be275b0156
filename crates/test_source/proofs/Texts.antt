-- Lines that grow one by one.
use Rattle.std.proofs.Common.{◌≡◌, ℕ, ◌+◌, ◌<◌, ◌≤◌, Bool, true, false, cond, ◌&&◌, nat_lt, List, [], ◌∷◌, ◌++◌, length, refl, sym, ◌∙◌, ap, subst, arith}
use Rattle.std.specs.Prelude.{IsTrue}
use Rattle.std.specs.List.{list_all}
use Rattle.std.proofs.lemmas.Bool.Decides.{nat_tests}
use Rattle.icn_tree.specs.declared.lines.SourceLine.{SourceLine}
use Rattle.icn_tree.specs.SourceTexts.{joined_len, names_files}

joined_push : (xs : List SourceLine) (x : SourceLine) → joined_len (xs ++ x ∷ []) ≤ joined_len xs + length x.bytes + 1
joined_push [] x = omega arith
joined_push (y ∷ []) x = omega arith
joined_push (y ∷ z ∷ xs) x = omega (arith, joined_push (z ∷ xs) x)

both : (x y z : Bool) → (x && y) ≡ true → (y ≡ true → z ≡ true) → (x && z) ≡ true
both true y z h rest = rest h
both false y z h rest = h

all_push : (p : SourceLine → Bool) (xs : List SourceLine) (x : SourceLine) → list_all p xs ≡ true → p x ≡ true → list_all p (xs ++ x ∷ []) ≡ true
all_push p [] x h g = rw g refl
all_push p (y ∷ xs) x h g = both (p y) (list_all p xs) (list_all p (xs ++ x ∷ [])) h (λ rest. all_push p xs x rest g)

pub joined_by : (ok : Bool) (old new : List SourceLine) (x : SourceLine) (n : ℕ) → new ≡ cond ok (old ++ x ∷ []) old → joined_len old ≤ n
    → joined_len new ≤ n + length x.bytes + 1
joined_by true old new x n e h = rw e (omega (arith, joined_push old x))
joined_by false old new x n e h = rw e (omega arith)

pub named_by : (ok : Bool) (old new : List SourceLine) (x : SourceLine) (names : List (List ℕ)) → new ≡ cond ok (old ++ x ∷ []) old
    → names_files names old ≡ true → x.file < length names
    → names_files names new ≡ true
named_by true old new x names e h g = rw e (all_push (λ line. nat_lt line.file (length names)) old x h (grind (arith, nat_tests)))
named_by false old new x names e h g = rw e h
