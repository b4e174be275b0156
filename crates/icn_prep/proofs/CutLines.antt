-- The first line of a text, as the library of byte strings cuts it.
use Rattle.std.proofs.Common.{◌≡◌, ◌≢◌, ◌⊎◌, inl, inr, ℕ, suc, zero, ◌+◌, ◌-◌, ◌<◌, ◌≤◌, Bool, true, false, ◌&&◌, eqb, List, [], ◌∷◌, ◌++◌, length, take, drop, map, get_or, refl, sym, ap, ◌∙◌, arith, nat_lt, lt-ltb, length-append}
use Rattle.std.proofs.lemmas.Bool.{cond-true, cond-false, eqb-true, eq-eqb}
use Rattle.std.proofs.lemmas.List.{drop_all, drop_more, take-append-drop, take_all, length-take-le}
use Rattle.std.proofs.lemmas.Bool.Decides.{nat_tests}
use Rattle.std.proofs.Math.Seq.{get_or-append_seam, take-append-add, take-append_seam}
use Rattle.bstr.specs.Text.{line_len, lines_of as cut_lines, no_cr, without_terminator}
use Rattle.bstr.proofs.lemmas.LineLemmas.{line_len-at, line_len-bounds, line_len-none, lines-step}
use Rattle.icn_prep.specs.FileLines.{lines_of, without_return}
use Rattle.icn_prep.proofs.FirstLines.{byte_at, cut_at, cut_none, return_at}

-- Where the first newline stands

none_more : (b : ℕ) (rest : List ℕ) (n : ℕ) → b ≢ 10 → ((k : ℕ) → k < n → get_or rest k 0 ≢ 10)
    → (k : ℕ) → k < suc n → get_or (b ∷ rest) k 0 ≢ 10
none_more b rest n first later zero l = first
none_more b rest n first later (suc k) l = later k (omega arith)

abbrev FirstNewline : List ℕ → Type 0
FirstNewline text =
    ((n : ℕ) × (n < length text) × (get_or text n 0 ≡ 10) × ((k : ℕ) → k < n → get_or text k 0 ≢ 10))
    ⊎ ((k : ℕ) → k < length text → get_or text k 0 ≢ 10)

newline_behind : (b : ℕ) (rest : List ℕ) → b ≢ 10 → FirstNewline rest → FirstNewline (b ∷ rest)
newline_behind b rest other (inl found) =
    inl (suc found.0, omega (arith, found.1), found.2, none_more b rest found.0 other found.3)
newline_behind b rest other (inr none) = inr (none_more b rest (length rest) other none)

newline_first : (b : ℕ) (rest : List ℕ) (newline : Bool) → eqb b 10 ≡ newline → FirstNewline rest → FirstNewline (b ∷ rest)
newline_first b rest true is later = inl (0, omega arith, eqb-true b 10 is, λ k l. absurd (omega arith))
newline_first b rest false is later = newline_behind b rest (λ e. let met : eqb b 10 ≡ true = eq-eqb b 10 e in cc) later

first_newline : (text : List ℕ) → FirstNewline text
first_newline [] = inr (λ k l. absurd (omega arith))
first_newline (b ∷ rest) = newline_first b rest (eqb b 10) refl (first_newline rest)

-- What stands in front of the end of a line

both_true : (a b : Bool) → a ≡ true → b ≡ true → (a && b) ≡ true
both_true true b h g = g
both_true false b h g = h

second_false : (a b : Bool) → b ≡ false → (a && b) ≡ false
second_false true b h = h
second_false false b h = refl

last_split : (bytes : List ℕ) → 0 < length bytes → bytes ≡ take (length bytes - 1) bytes ++ get_or bytes (length bytes - 1) 0 ∷ []
last_split bytes some =
    let n : ℕ = length bytes - 1 in
    sym (take-append-drop n bytes) ∙ ap (λ rest. take n bytes ++ rest)
    (drop_more bytes n 0 (omega arith) ∙ ap (λ rest. get_or bytes n 0 ∷ rest) (drop_all (n + 1) bytes (omega arith)))

return_by : (bytes : List ℕ) (return : Bool) → 0 < length bytes → eqb (get_or bytes (length bytes - 1) 0) 13 ≡ return
    → no_cr bytes ≡ without_return bytes
return_by bytes true some is =
    cond-true _ _ _ (both_true _ _ (lt-ltb 0 (length bytes) some) is)
    ∙ return_at bytes (take (length bytes - 1) bytes) (get_or bytes (length bytes - 1) 0) (last_split bytes some) (eqb-true _ 13 is)
return_by bytes false some is =
    cond-false _ _ _ (second_false (nat_lt 0 (length bytes)) _ is)
    ∙ byte_at bytes (take (length bytes - 1) bytes) (get_or bytes (length bytes - 1) 0) (last_split bytes some)
    (λ e. let met : eqb (get_or bytes (length bytes - 1) 0) 13 ≡ true = eq-eqb _ 13 e in cc)

-- a carriage return is dropped by both alike
same_return : (bytes : List ℕ) → no_cr bytes ≡ without_return bytes
same_return [] = refl
same_return (b ∷ rest) = return_by (b ∷ rest) _ (omega arith) refl

-- a newline is dropped, and then the carriage return
newline_dropped : (front : List ℕ) → without_terminator (front ++ 10 ∷ []) ≡ without_return front
newline_dropped front =
    let l : length (front ++ 10 ∷ []) ≡ length front + 1 = length-append front (10 ∷ []) in
    let at : length (front ++ 10 ∷ []) - 1 ≡ length front = omega arith in
    let byte : get_or (front ++ 10 ∷ []) (length (front ++ 10 ∷ []) - 1) 0 ≡ 10
    = ap (λ k. get_or (front ++ 10 ∷ []) k 0) at ∙ get_or-append_seam front 10 [] 0 in
    cond-true _ _ _ (both_true _ _ (lt-ltb 0 (length (front ++ 10 ∷ [])) (omega arith)) (eq-eqb _ 10 byte))
    ∙ (ap no_cr (ap (λ k. take k (front ++ 10 ∷ [])) at ∙ take-append_seam front (10 ∷ [])) ∙ same_return front)

taken_with : (text : List ℕ) (n : ℕ) → n < length text → get_or text n 0 ≡ 10 → take (n + 1) text ≡ take n text ++ 10 ∷ []
taken_with text n l is =
    let len : length (take n text) ≡ n = length-take-le n text (omega arith) in
    let whole : text ≡ take n text ++ 10 ∷ drop (n + 1) text = sym (take-append-drop n text)
    ∙ ap (λ rest. take n text ++ rest) (drop_more text n 0 l ∙ ap (λ b. b ∷ drop (n + 1) text) is) in
    ap (take (n + 1)) whole
    ∙ (ap (λ k. take (k + 1) (take n text ++ 10 ∷ drop (n + 1) text)) (sym len) ∙ take-append-add (take n text) (10 ∷ drop (n + 1) text) 1)

not_eqb : (a b : ℕ) → a ≢ b → eqb a b ≡ false
not_eqb a b h = grind (arith, nat_tests)

-- The first line

abbrev pub IsCut : List ℕ → List ℕ → ℕ → Type 0
IsCut text line used = (lines_of text ≡ line ∷ lines_of (drop used text)) × (0 < used) × (used ≤ length text)

cut_by : (text : List ℕ) → 0 < length text → FirstNewline text
    → lines_of text ≡ without_terminator (take (line_len text) text) ∷ lines_of (drop (line_len text) text)
cut_by text some (inl found) =
    let n : ℕ = found.0 in
    let len : line_len text ≡ n + 1 = line_len-at text n found.1 found.2 found.3 in
    cut_at text n found.1 found.2 (λ k l e. found.3 k l (eqb-true _ 10 e))
    ∙ (ap (λ line. line ∷ lines_of (drop (n + 1) text)) (sym (ap without_terminator (taken_with text n found.1 found.2) ∙ newline_dropped (take n text)))
    ∙ ap (λ k. without_terminator (take k text) ∷ lines_of (drop k text)) (sym len))
cut_by text some (inr none) =
    let len : line_len text ≡ length text = line_len-none text none in
    let last : eqb (get_or text (length text - 1) 0) 10 ≡ false = not_eqb _ 10 (none (length text - 1) (omega arith)) in
    let plain : without_terminator text ≡ text = cond-false _ _ _ (second_false (nat_lt 0 (length text)) _ last) in
    cut_none text some (λ k l e. none k l (eqb-true _ 10 e))
    ∙ (ap (λ line. line ∷ lines_of (drop (length text) text)) (sym (ap without_terminator (take_all (length text) text (omega arith)) ∙ plain))
    ∙ ap (λ k. without_terminator (take k text) ∷ lines_of (drop k text)) (sym len))

abbrev head_of : List ℕ → List (List ℕ) → List ℕ
head_of other [] = other
head_of other (line ∷ lines) = line

-- the first of the lines that the library gives, with its end and without
pub first_is : (text line whole : List ℕ) (lines more : List (List ℕ)) → 0 < length text → map without_terminator (cut_lines text) ≡ line ∷ lines
    → cut_lines text ≡ whole ∷ more → IsCut text line (length whole)
first_is text line whole lines more some trimmed given =
    let step : cut_lines text ≡ take (line_len text) text ∷ cut_lines (drop (line_len text) text) = lines-step text some in
    let bounds = line_len-bounds text some in
    let same : whole ≡ take (line_len text) text = ap (head_of []) (sym given ∙ step) in
    let len : length whole ≡ line_len text = ap length same ∙ length-take-le (line_len text) text bounds.1 in
    let is : line ≡ without_terminator (take (line_len text) text) = ap (head_of []) (sym trimmed ∙ ap (map without_terminator) step) in (
      cut_by text some (first_newline text) ∙ (ap (λ l. l ∷ lines_of (drop (line_len text) text)) (sym is)
          ∙ ap (λ k. line ∷ lines_of (drop k text)) (sym len)),
      omega (arith, bounds.0, len),
      omega (arith, bounds.1, len),
    )

-- a text that is not empty has a first line
pub none_given : (text : List ℕ) → 0 < length text → map without_terminator (cut_lines text) ≡ [] → ⊥
none_given text some none =
    let step : cut_lines text ≡ take (line_len text) text ∷ cut_lines (drop (line_len text) text) = lines-step text some in
    let given : without_terminator (take (line_len text) text) ∷ map without_terminator (cut_lines (drop (line_len text) text)) ≡ []
    = sym (ap (map without_terminator) step) ∙ none in cc
