-- Where a text is found among names.
use Rattle.std.proofs.Common.{◌≡◌, ◌<◌, ◌≤◌, ◌+◌, ◌∙◌, ℕ, zero, suc, true, false, not, ◌&&◌, List, [], ◌∷◌, ◌++◌, length, map, drop, Some, None, refl, sym, ap, subst, if◌then◌else◌, arith, length-append}
use Rattle.std.proofs.lemmas.List.{length-map}
use Rattle.std.specs.Prelude.{slice_get, unwrap_or}
use Rattle.std.specs.Str.{bytes_eq}
use Rattle.icn_text.specs.declared.func.Func.{Func}
use Rattle.icn_text.specs.Funcs.{func_name}
use Rattle.icn_value.specs.Store.{Names}
use Rattle.icn_defs.specs.Images.{functions, procedure_name}
use Rattle.icn_defs.specs.NamedValues.{all_names, is_hidden, number_from, number_named}
use Rattle.icn_convert.specs.ProgramNames.{name_count}

-- the next name is another
not_here : (names : List (List ℕ)) (n k : ℕ) (text : List ℕ) → n < length names
    → bytes_eq text (unwrap_or (slice_get names n) []) ≡ false
    → number_from [] k (drop n names) text ≡ number_from [] (suc k) (drop (suc n) names) text
not_here [] n k text l h = absurd (omega (arith, l))
not_here (name ∷ names) zero k text l h =
    ap (λ b. if b && not (is_hidden [] k) then Some k else number_from [] (suc k) names text) h
not_here (name ∷ names) (suc n) k text l h = not_here names n k text (omega (arith, l)) h

-- it is this one
here : (names : List (List ℕ)) (n k : ℕ) (text : List ℕ) → n < length names
    → bytes_eq text (unwrap_or (slice_get names n) []) ≡ true → number_from [] k (drop n names) text ≡ Some k
here [] n k text l h = absurd (omega (arith, l))
here (name ∷ names) zero k text l h =
    ap (λ b. if b && not (is_hidden [] k) then Some k else number_from [] (suc k) names text) h
here (name ∷ names) (suc n) k text l h = here names n k text (omega (arith, l)) h

-- behind all names nothing is
nowhere : (names : List (List ℕ)) (n k : ℕ) (text : List ℕ) → length names ≤ n → number_from [] k (drop n names) text ≡ None
nowhere [] zero k text l = refl
nowhere [] (suc n) k text l = refl
nowhere (name ∷ names) zero k text l = absurd (omega (arith, l))
nowhere (name ∷ names) (suc n) k text l = nowhere names n k text (omega (arith, l))

counted : (procedures records : List (List ℕ)) (name : Func → List ℕ) (others : List Func)
    → length (procedures ++ (records ++ map name others)) ≡ length procedures + length records + length others
counted procedures records name others =
    let all = length-append procedures (records ++ map name others) in
    let behind = length-append records (map name others) in
    let last = length-map others name in
    omega (arith, all, behind, last)

all_counted : (names : Names) → length (all_names names) ≡ name_count names
all_counted names = counted names.procedures names.records func_name functions

-- what a text names is found from the first name on
pub from_first : (names : Names) (text : List ℕ) → names.hidden ≡ [] → number_named names text ≡ number_from [] 0 (all_names names) text
from_first names text none = ap (λ hidden. number_from hidden 0 (all_names names) text) none

-- so it is behind a name that is another
pub passed : (names : Names) (n next : ℕ) (text name : List ℕ) → next ≡ suc n → n < name_count names → name ≡ procedure_name names n
    → bytes_eq text name ≡ false → number_named names text ≡ number_from [] n (drop n (all_names names)) text
    → number_named names text ≡ number_from [] next (drop next (all_names names)) text
passed names n next text name one l is other so_far =
    let within : n < length (all_names names) = let all = all_counted names in omega (arith, l, all) in
    let step = not_here (all_names names) n n text within (subst (λ held. bytes_eq text held ≡ false) is other) in
    subst (λ k. number_named names text ≡ number_from [] k (drop k (all_names names)) text) (sym one) (so_far ∙ step)

-- a name that is the text is what it names
pub met : (names : Names) (n : ℕ) (text name : List ℕ) → n < name_count names → name ≡ procedure_name names n → bytes_eq text name ≡ true
    → number_named names text ≡ number_from [] n (drop n (all_names names)) text → Some n ≡ number_named names text
met names n text name l is same so_far =
    let within : n < length (all_names names) = let all = all_counted names in omega (arith, l, all) in
    sym (so_far ∙ here (all_names names) n n text within (subst (λ held. bytes_eq text held ≡ true) is same))

-- behind all names it names nothing
pub unmet : (names : Names) (n : ℕ) (text : List ℕ) → name_count names ≤ n
    → number_named names text ≡ number_from [] n (drop n (all_names names)) text → None ≡ number_named names text
unmet names n text past so_far =
    let all = all_counted names in
    sym (so_far ∙ nowhere (all_names names) n n text (omega (arith, past, all)))
