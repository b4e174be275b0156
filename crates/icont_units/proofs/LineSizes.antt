-- How many lines the program of a number has, and how long they are.
use Rattle.std.proofs.Common.{◌≡◌, ◌<◌, ◌≤◌, ◌+◌, ◌*◌, ℕ, suc, zero, true, IsTrue, nat_lt, List, [], ◌∷◌, ◌++◌, map, length, codes, decimal, refl, sym, ap, ◌∙◌, arith, length-append}
use Rattle.std.specs.List.{flat_map, list_all, range_with_len}
use Rattle.std.proofs.lemmas.Fmt.{length-decimal-le}
use Rattle.icn_tree.specs.SourceTexts.{joined_len, names_files}
use Rattle.icn_tree.specs.declared.lines.SourceLine.{SourceLine}
use Rattle.icont_units.specs.Generated.{program_lines, numbered_from, numbers, procedure_lines, sizes_line, sizes_text, sum_line}

-- Their number

procedures_length : (a n : ℕ) → length (flat_map procedure_lines (range_with_len a n)) ≡ 3 * n
procedures_length a zero = refl
procedures_length a (suc n) = omega (arith, procedures_length (a + 1) n)

sums_length : (a n : ℕ) → length (map sum_line (range_with_len a n)) ≡ n
sums_length a zero = refl
sums_length a (suc n) = ap suc (sums_length (a + 1) n)

all_length : (count : ℕ) (procedures sums : List (List ℕ)) (a b c d : List ℕ) → length procedures ≡ 3 * count → length sums ≡ count
    → length (procedures ++ a ∷ b ∷ sums ++ c ∷ d ∷ []) ≡ 4 * count + 4
all_length count procedures sums a b c d p s =
    omega (arith, length-append (procedures ++ a ∷ b ∷ sums) (c ∷ d ∷ []), length-append procedures (a ∷ b ∷ sums), p, s)

pub generated_length : (count : ℕ) → length (program_lines count) ≡ 4 * count + 4
generated_length count = all_length count (flat_map procedure_lines (numbers count)) (map sum_line (numbers count)) (codes "procedure main()") (codes "t := 0")
    (codes "write(t)") (codes "end") (procedures_length 1 count) (sums_length 1 count)

-- Their bytes

-- each has fewer than 64
abbrev AreShort : List (List ℕ) → Type 0
AreShort [] = Unit {0}
AreShort (line ∷ lines) = (length line < 64) × AreShort lines

both_short : (a b : List (List ℕ)) → AreShort a → AreShort b → AreShort (a ++ b)
both_short [] b x y = y
both_short (line ∷ a) b x y = (x.0, both_short a b x.1 y)

-- a number behind a text
short_front : (front : List ℕ) (i : ℕ) → length front < 30 → i < 65536 → length (front ++ decimal i) < 40
short_front front i f few =
    omega (arith, length-append front (decimal i), length-decimal-le 5 i (omega arith) (omega (arith, few)) (omega (arith, few)), f)

-- and a text behind that
short_line : (front end : List ℕ) (i : ℕ) → length front < 30 → length end < 20 → i < 65536 → length (front ++ decimal i ++ end) < 64
short_line front end i f e few = omega (arith, length-append (front ++ decimal i) end, short_front front i f few, e)

procedures_short : (a n : ℕ) → a + n ≤ 65536 → AreShort (flat_map procedure_lines (range_with_len a n))
procedures_short a zero few = tt
procedures_short a (suc n) few =
    let small : a < 65536 = omega (arith, few) in
    let body : length (codes "suspend (n to n + 2) * " ++ decimal a) < 40 = short_front (codes "suspend (n to n + 2) * ") a (omega arith) small in (
      short_line (codes "procedure p") (codes "(n)") a (omega arith) (omega arith) small,
      (omega (arith, body), (omega arith, procedures_short (a + 1) n (omega (arith, few)))),
    )

sums_short : (a n : ℕ) → a + n ≤ 65536 → AreShort (map sum_line (range_with_len a n))
sums_short a zero few = tt
sums_short a (suc n) few =
    (short_line (codes "every t +:= p") (codes "(1 to 3)") a (omega arith) (omega arith) (omega (arith, few)), sums_short (a + 1) n (omega (arith, few)))

all_short : (count : ℕ) → count < 65536 → AreShort (program_lines count)
all_short count few =
    let procedures : List (List ℕ) = flat_map procedure_lines (numbers count) in
    let sums : List (List ℕ) = codes "procedure main()" ∷ codes "t := 0" ∷ map sum_line (numbers count) in
    let head : AreShort (procedures ++ sums) =
    both_short procedures sums (procedures_short 1 count (omega (arith, few))) (omega arith, (omega arith, sums_short 1 count (omega (arith, few)))) in
    both_short (procedures ++ sums) (codes "write(t)" ∷ codes "end" ∷ []) head (omega arith, (omega arith, tt))

joined_short : (n : ℕ) (lines : List (List ℕ)) → AreShort lines → joined_len (numbered_from n lines) ≤ 64 * length lines
joined_short n [] short = omega arith
joined_short n (line ∷ []) short = omega (arith, short.0)
joined_short n (line ∷ next ∷ lines) short = omega (arith, short.0, joined_short (suc n) (next ∷ lines) short.1)

-- joined they have no more than a program text may have
pub generated_fits : (count : ℕ) → count < 65536 → joined_len (numbered_from 1 (program_lines count)) ≤ 16777216
generated_fits count few = omega (arith, few, joined_short 1 (program_lines count) (all_short count few), generated_length count)

-- Their file

-- they are all lines of the first file
pub of_one_file : (n : ℕ) (lines : List (List ℕ)) → list_all (λ line. nat_lt line.file 1) (numbered_from n lines) ≡ true
of_one_file n [] = refl
of_one_file n (line ∷ lines) = of_one_file (suc n) lines

-- and it has the one name
pub file_is_named : (names : List (List ℕ)) (lines : List SourceLine) (none : List (List ℕ)) (name : List ℕ) (count : ℕ) → none ≡ [] → names ≡ none ++ name ∷ []
    → lines ≡ numbered_from 1 (program_lines count) → IsTrue (names_files names lines)
file_is_named names lines none name count empty named are =
    let one : names ≡ name ∷ [] = named ∙ ap (λ xs. xs ++ name ∷ []) empty in
    ap (λ xs. names_files xs lines) one ∙ (ap (names_files (name ∷ [])) are ∙ of_one_file 1 (program_lines count))

-- The line that tells their number

pub sizes_are : (count lines procedures : ℕ) → lines ≡ 4 * count + 4 → procedures ≡ count + 1 → sizes_text lines procedures ≡ sizes_line count
sizes_are count lines procedures l p =
    let lines_are : lines ≡ length (program_lines count) = l ∙ sym (generated_length count) in
    let procedures_are : procedures ≡ suc count = omega (arith, p) in
    ap (λ n. sizes_text n procedures) lines_are ∙ ap (sizes_text (length (program_lines count))) procedures_are
