-- The lines of the program of a number are bytes.
use Rattle.std.proofs.Common.{◌≡◌, ℕ, suc, true, List, [], ◌∷◌, ◌++◌, map, refl, ◌∙◌}
use Rattle.std.specs.Prelude.{codes}
use Rattle.std.specs.List.{flat_map, list_all}
use Rattle.std.specs.Fmt.{decimal}
use Rattle.std.proofs.lemmas.Bool.{and_from, and_parts}
use Rattle.std.proofs.lemmas.List.Folds.{list_all-append}
use Rattle.law_source.specs.Bytes.{are_bytes}
use Rattle.law_source.specs.LineBytes.{lines_are_of_bytes}
use Rattle.law_source.proofs.ByteLists.{AreBytes, bytes_joined}
use Rattle.law_source.proofs.Decimals.{decimal_bytes}
use Rattle.icont_units.specs.Generated.{numbers, procedure_lines, sum_line, program_lines, numbered_from, generated_lines}

all_of : (x : List ℕ) (xs : List (List ℕ)) → AreBytes x → list_all are_bytes xs ≡ true
    → list_all are_bytes (x ∷ xs) ≡ true
all_of x xs h g = and_from (are_bytes x) (list_all are_bytes xs) h.are g

all_joined : (xs ys : List (List ℕ)) → list_all are_bytes xs ≡ true → list_all are_bytes ys ≡ true
    → list_all are_bytes (xs ++ ys) ≡ true
all_joined xs ys h g = list_all-append are_bytes xs ys ∙ and_from _ _ h g

head_bytes : (i : ℕ) → AreBytes (codes "procedure p" ++ decimal i ++ codes "(n)")
head_bytes i = bytes_joined {a = codes "procedure p"} (record { are = refl })
    (bytes_joined (decimal_bytes i) (record { are = refl }))

body_bytes : (i : ℕ) → AreBytes (codes "suspend (n to n + 2) * " ++ decimal i)
body_bytes i = bytes_joined {a = codes "suspend (n to n + 2) * "} (record { are = refl }) (decimal_bytes i)

sum_bytes : (i : ℕ) → AreBytes (sum_line i)
sum_bytes i = bytes_joined {a = codes "every t +:= p"} (record { are = refl })
    (bytes_joined (decimal_bytes i) (record { are = refl }))

procedures_are : (places : List ℕ) → list_all are_bytes (flat_map procedure_lines places) ≡ true
procedures_are [] = refl
procedures_are (i ∷ places) = all_joined (procedure_lines i) (flat_map procedure_lines places)
    (all_of (codes "procedure p" ++ decimal i ++ codes "(n)")
    ((codes "suspend (n to n + 2) * " ++ decimal i) ∷ codes "end" ∷ [])
    (head_bytes i)
    (all_of (codes "suspend (n to n + 2) * " ++ decimal i) (codes "end" ∷ []) (body_bytes i) refl))
    (procedures_are places)

sums_are : (places : List ℕ) → list_all are_bytes (map sum_line places) ≡ true
sums_are [] = refl
sums_are (i ∷ places) = all_of (sum_line i) (map sum_line places) (sum_bytes i) (sums_are places)

program_is : (count : ℕ) → list_all are_bytes (program_lines count) ≡ true
program_is count =
    let procedures = flat_map procedure_lines (numbers count) in
    let sums = codes "procedure main()" ∷ codes "t := 0" ∷ map sum_line (numbers count) in
    all_joined (procedures ++ sums) (codes "write(t)" ∷ codes "end" ∷ [])
    (all_joined procedures sums (procedures_are (numbers count)) (sums_are (numbers count))) refl

numbered_are : (number : ℕ) (lines : List (List ℕ)) → list_all are_bytes lines ≡ true
    → lines_are_of_bytes (numbered_from number lines) ≡ true
numbered_are number [] h = refl
numbered_are number (line ∷ lines) h =
    let parts = and_parts (are_bytes line) (list_all are_bytes lines) h in
    and_from _ _ parts.0 (numbered_are (suc number) lines parts.1)

pub generated_are_bytes : (count : ℕ) → lines_are_of_bytes (generated_lines count) ≡ true
generated_are_bytes count = numbered_are 1 (program_lines count) (program_is count)
