-- The lines of the program of a number, as they are added one by one.
use Rattle.std.proofs.Common.{◌≡◌, ◌<◌, ◌≤◌, ◌+◌, ◌-◌, ◌*◌, ℕ, suc, List, [], ◌∷◌, ◌++◌, map, codes, decimal, sym, ap, ◌∙◌, arith}
use Rattle.std.specs.List.{flat_map, range_with_len}
use Rattle.std.proofs.lemmas.List.{append_assoc, append-nil}
use Rattle.icn_tree.specs.declared.lines.SourceLine.{SourceLine}
use Rattle.icont_units.specs.Generated.{program_lines, line_at, numbered_from, numbers, procedure_lines, sum_line}

-- Numbers in their order

one_before : (i count : ℕ) → i < count → count - i ≡ suc (count - (i + 1))
one_before i count l = omega (arith, l)

next_number : (i count : ℕ) → i < count → range_with_len (i + 1) (count - i) ≡ (i + 1) ∷ range_with_len (i + 1 + 1) (count - (i + 1))
next_number i count l = ap (range_with_len (i + 1)) (one_before i count l)

none_left : (i count : ℕ) → count ≤ i → range_with_len (i + 1) (count - i) ≡ []
none_left i count l = ap (range_with_len (i + 1)) none where
  none : count - i ≡ 0
  none = omega (arith, l)

pub none_done : (count : ℕ) → count - 0 ≡ count
none_done count = omega arith

pub plus_one : (n : ℕ) → n + 1 ≡ suc n
plus_one n = omega arith

pub plus_two : (n : ℕ) → n + 2 ≡ suc (n + 1)
plus_two n = omega arith

pub plus_three : (n : ℕ) → n + 3 ≡ suc (n + 2)
plus_three n = omega arith

pub plus_four : (n : ℕ) → n + 4 ≡ suc (n + 3)
plus_four n = omega arith

pub plus_none : (n : ℕ) → n + 0 ≡ n
plus_none n = omega arith

pub three_more : (i : ℕ) → 3 * (i + 1) + 1 ≡ suc (suc (suc (3 * i + 1)))
three_more i = omega arith

pub one_more : (n i : ℕ) → n + (i + 1) ≡ suc (n + i)
one_more n i = omega arith

same_number : (i count : ℕ) → i ≤ count → count ≤ i → count ≡ i
same_number i count l r = omega (arith, l, r)

-- Lines that are put behind others

two_put : (old x y : List SourceLine) (a b c d : SourceLine) → x ≡ old ++ a ∷ [] → y ≡ x ++ b ∷ [] → a ≡ c → b ≡ d → y ≡ old ++ (c ∷ d ∷ [])
two_put old x y a b c d one two first second =
    two ∙ (ap (λ xs. xs ++ b ∷ []) one ∙ (append_assoc old (a ∷ []) (b ∷ [])
    ∙ (ap (λ line. old ++ (line ∷ b ∷ [])) first ∙ ap (λ line. old ++ (c ∷ line ∷ [])) second)))

-- the lines of a procedure
pub procedure_put : (old x y z : List SourceLine) (a b c : SourceLine) (n second third i : ℕ) → second ≡ suc n → third ≡ suc second
    → x ≡ old ++ a ∷ [] → y ≡ x ++ b ∷ [] → z ≡ y ++ c ∷ []
    → a ≡ line_at n (codes "procedure p" ++ decimal i ++ codes "(n)") → b ≡ line_at second (codes "suspend (n to n + 2) * " ++ decimal i ++ [])
    → c ≡ line_at third (codes "end") → z ≡ old ++ numbered_from n (procedure_lines i)
procedure_put old x y z a b c n second third i next later one two three is_a is_b is_c =
    let head : SourceLine = line_at n (codes "procedure p" ++ decimal i ++ codes "(n)") in
    let body : List ℕ = codes "suspend (n to n + 2) * " ++ decimal i in
    let b_is : b ≡ line_at (suc n) body = is_b ∙ (ap (λ k. line_at k (body ++ [])) next ∙ ap (line_at (suc n)) (append-nil body)) in
    let c_is : c ≡ line_at (suc (suc n)) (codes "end") = is_c ∙ ap (λ k. line_at k (codes "end")) (later ∙ ap suc next) in
    three ∙ (ap (λ xs. xs ++ c ∷ []) (two_put old x y a b head (line_at (suc n) body) one two is_a b_is)
    ∙ (append_assoc old (head ∷ line_at (suc n) body ∷ []) (c ∷ []) ∙ ap (λ line. old ++ (head ∷ line_at (suc n) body ∷ line ∷ [])) c_is))

-- Lines in front of those that follow

-- what comes once the procedure behind the first `i` is added
pub procedure_step : (lines new whole : List SourceLine) (n m i count : ℕ) (later : List (List ℕ)) → i < count → m ≡ suc (suc (suc n))
    → new ≡ lines ++ numbered_from n (procedure_lines (i + 1))
    → lines ++ numbered_from n (flat_map procedure_lines (range_with_len (i + 1) (count - i)) ++ later) ≡ whole
    → new ++ numbered_from m (flat_map procedure_lines (range_with_len (i + 1 + 1) (count - (i + 1))) ++ later) ≡ whole
procedure_step lines new whole n m i count later l three made all =
    let rest : List (List ℕ) = flat_map procedure_lines (range_with_len (i + 1 + 1) (count - (i + 1))) ++ later in
    ap (λ xs. xs ++ numbered_from m rest) made ∙ (append_assoc lines (numbered_from n (procedure_lines (i + 1))) (numbered_from m rest)
    ∙ (ap (λ k. lines ++ (numbered_from n (procedure_lines (i + 1)) ++ numbered_from k rest)) three
    ∙ (ap (λ ns. lines ++ numbered_from n (flat_map procedure_lines ns ++ later)) (sym (next_number i count l)) ∙ all)))

pub procedures_done : (lines whole : List SourceLine) (i count : ℕ) (later : List (List ℕ)) → i ≤ count → count ≤ i
    → lines ++ numbered_from (3 * i + 1) (flat_map procedure_lines (range_with_len (i + 1) (count - i)) ++ later) ≡ whole
    → lines ++ numbered_from (3 * count + 1) later ≡ whole
procedures_done lines whole i count later l r all =
    ap (λ k. lines ++ numbered_from (3 * k + 1) later) (same_number i count l r)
    ∙ (ap (λ ns. lines ++ numbered_from (3 * i + 1) (flat_map procedure_lines ns ++ later)) (sym (none_left i count r)) ∙ all)

-- and once its line of the sum is
pub sum_step : (lines new whole : List SourceLine) (line : SourceLine) (n m i count : ℕ) (later : List (List ℕ)) → i < count → m ≡ suc n
    → line ≡ line_at n (sum_line (i + 1)) → new ≡ lines ++ line ∷ []
    → lines ++ numbered_from n (map sum_line (range_with_len (i + 1) (count - i)) ++ later) ≡ whole
    → new ++ numbered_from m (map sum_line (range_with_len (i + 1 + 1) (count - (i + 1))) ++ later) ≡ whole
sum_step lines new whole line n m i count later l one is made all =
    let rest : List (List ℕ) = map sum_line (range_with_len (i + 1 + 1) (count - (i + 1))) ++ later in
    ap (λ xs. xs ++ numbered_from m rest) (made ∙ ap (λ x. lines ++ x ∷ []) is) ∙ (append_assoc lines (line_at n (sum_line (i + 1)) ∷ []) (numbered_from m rest)
    ∙ (ap (λ k. lines ++ (line_at n (sum_line (i + 1)) ∷ numbered_from k rest)) one
    ∙ (ap (λ ns. lines ++ numbered_from n (map sum_line ns ++ later)) (sym (next_number i count l)) ∙ all)))

pub sums_done : (lines whole : List SourceLine) (i count : ℕ) (later : List (List ℕ)) → i ≤ count → count ≤ i
    → lines ++ numbered_from (3 * count + 3 + i) (map sum_line (range_with_len (i + 1) (count - i)) ++ later) ≡ whole
    → lines ++ numbered_from (4 * count + 3) later ≡ whole
sums_done lines whole i count later l r all =
    ap (λ k. lines ++ numbered_from k later) four
    ∙ (ap (λ ns. lines ++ numbered_from (3 * count + 3 + i) (map sum_line ns ++ later)) (sym (none_left i count r)) ∙ all) where
      four : 4 * count + 3 ≡ 3 * count + 3 + i
      four = omega (arith, l, r)

-- All lines: procedures, two lines, the sum, and two lines again.
pub all_lines : (count first second third fourth fifth : ℕ) (procedures x head sums y done : List SourceLine) (a b c d : SourceLine)
    → second ≡ suc first → third ≡ suc second → fifth ≡ suc fourth
    → ((later : List (List ℕ)) → procedures ++ numbered_from first later ≡ numbered_from 1 (flat_map procedure_lines (numbers count) ++ later))
    → x ≡ procedures ++ a ∷ [] → head ≡ x ++ b ∷ []
    → a ≡ line_at first (codes "procedure main()") → b ≡ line_at second (codes "t := 0")
    → ((later : List (List ℕ)) → sums ++ numbered_from fourth later ≡ head ++ numbered_from third (map sum_line (numbers count) ++ later))
    → y ≡ sums ++ c ∷ [] → done ≡ y ++ d ∷ []
    → c ≡ line_at fourth (codes "write(t)") → d ≡ line_at fifth (codes "end")
    → done ≡ numbered_from 1 (program_lines count)
all_lines count first second third fourth fifth procedures x head sums y done a b c d next after last made one two is_a is_b added three four is_c is_d =
    let procs : List (List ℕ) = flat_map procedure_lines (numbers count) in
    let ends : List (List ℕ) = codes "write(t)" ∷ codes "end" ∷ [] in
    let rest : List (List ℕ) = map sum_line (numbers count) ++ ends in
    let main : SourceLine = line_at first (codes "procedure main()") in
    let start : SourceLine = line_at (suc first) (codes "t := 0") in
    let begun : head ≡ procedures ++ (main ∷ start ∷ []) =
    two_put procedures x head a b main start one two is_a (is_b ∙ ap (λ k. line_at k (codes "t := 0")) next) in
    let ended : done ≡ sums ++ numbered_from fourth ends =
    two_put sums y done c d (line_at fourth (codes "write(t)")) (line_at (suc fourth) (codes "end")) three four is_c
    (is_d ∙ ap (λ k. line_at k (codes "end")) last) in
    ended ∙ (added ends ∙ (ap (λ k. head ++ numbered_from k rest) (after ∙ ap suc next) ∙ (ap (λ xs. xs ++ numbered_from (suc (suc first)) rest) begun
    ∙ (append_assoc procedures (main ∷ start ∷ []) (numbered_from (suc (suc first)) rest) ∙ (made (codes "procedure main()" ∷ codes "t := 0" ∷ rest)
    ∙ ap (numbered_from 1) (sym (append_assoc procs (codes "procedure main()" ∷ codes "t := 0" ∷ map sum_line (numbers count)) ends)))))))
