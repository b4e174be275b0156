-- Putting the spelling of one entry behind that of the others, as a loop does.
use Rattle.std.proofs.Common.{◌≡◌, ℕ, ◌+◌, ◌<◌, List, [], ◌∷◌, ◌++◌, length, get_or, take, map, refl, sym, ap, ◌∙◌, append_assoc}
use Rattle.std.specs.Int.{Width}
use Rattle.std.specs.List.{flat_map}
use Rattle.std.proofs.lemmas.List.{take_more, flat_map_more}
use Rattle.std.proofs.lemmas.List.Concat.{flat_map-cons}
use Rattle.icn_code.specs.declared.code.LinkedProcedure.{LinkedProcedure}
use Rattle.icn_code.specs.Codes.{proc_of, procs_of}
use Rattle.icn_image.specs.Fronts.{head_of}
use Rattle.icn_image.specs.Spelling.{head}

pub put_more : {A : Type 0} (f : A → List ℕ) (old front : List ℕ) (xs : List A) (i : ℕ) (d : A) (before after : List ℕ) → i < length xs
    → before ≡ old ++ (front ++ flat_map f (take i xs)) → after ≡ before ++ f (get_or xs i d)
    → after ≡ old ++ (front ++ flat_map f (take (i + 1) xs))
put_more {A} f old front xs i d before after lt h e =
    let more : take (i + 1) xs ≡ take i xs ++ get_or xs i d ∷ [] = take_more xs i d lt in
    e ∙ (ap (λ (t : List ℕ). t ++ f (get_or xs i d)) h ∙ (append_assoc old (front ++ flat_map f (take i xs)) (f (get_or xs i d))
    ∙ ap (λ (t : List ℕ). old ++ t) (flat_map_more f front (take i xs) (get_or xs i d) ∙ ap (λ (t : List A). front ++ flat_map f t) (sym more))))

pub head_at_once : Width → LinkedProcedure → List ℕ
head_at_once w proc = head w (head_of (proc_of proc))

pub heads_at_once : (w : Width) (procs : List LinkedProcedure) → flat_map (head w) (map head_of (procs_of procs)) ≡ flat_map (head_at_once w) procs
unfolding head_at_once
heads_at_once w [] = refl
heads_at_once w (proc ∷ procs) =
    flat_map-cons (head w) (head_of (proc_of proc)) (map head_of (procs_of procs))
    ∙ (ap (λ (t : List ℕ). head w (head_of (proc_of proc)) ++ t) (heads_at_once w procs) ∙ sym (flat_map-cons (head_at_once w) proc procs))

pub put_head_more : (w : Width) (old front : List ℕ) (procs : List LinkedProcedure) (i : ℕ) (d : LinkedProcedure) (before after : List ℕ) → i < length procs
    → before ≡ old ++ (front ++ flat_map (head w) (map head_of (procs_of (take i procs))))
    → after ≡ before ++ head w (head_of (proc_of (get_or procs i d)))
    → after ≡ old ++ (front ++ flat_map (head w) (map head_of (procs_of (take (i + 1) procs))))
unfolding head_at_once
put_head_more w old front procs i d before after lt h e =
    let at : (n : ℕ) → old ++ (front ++ flat_map (head w) (map head_of (procs_of (take n procs)))) ≡ old
    ++ (front ++ flat_map (head_at_once w) (take n procs)) = λ n. ap (λ (t : List ℕ). old ++ (front ++ t)) (heads_at_once w (take n procs)) in
    put_more (head_at_once w) old front procs i d before after lt (h ∙ at i) e ∙ sym (at (i + 1))
