-- The first line of a text.
use Rattle.std.proofs.Common.{◌≡◌, ◌≢◌, ℕ, ◌+◌, ◌<◌, Bool, true, false, cond, ◌&&◌, not, eqb, List, [], ◌∷◌, ◌++◌, length, take, drop, get_or, refl, sym, ap, ◌∙◌, arith}
use Rattle.std.specs.List.{list_all}
use Rattle.std.proofs.lemmas.Bool.{false≢true, cond-false}
use Rattle.std.proofs.lemmas.Bool.Decides.{nat_tests}
use Rattle.std.proofs.lemmas.List.{take-append-drop, drop_more, take_all, drop_all}
use Rattle.icn_prep.specs.FileLines.{put_before, lines_of, without_return}
use Rattle.icn_prep.proofs.TrimmedEnds.{all_before}

abbrev pub is_inner : ℕ → Bool
is_inner b = not (eqb b 10)

inner_first : (a b : Bool) → (not a && b) ≡ true → (a ≡ false) × (b ≡ true)
inner_first true b h = absurd (false≢true h)
inner_first false b h = (refl, h)

last_byte : (b : ℕ) (rest : List ℕ) (newline return : Bool) → newline ≡ false
    → cond newline ([] ∷ lines_of (10 ∷ rest)) (cond (return && true) (lines_of (10 ∷ rest)) (put_before b (lines_of (10 ∷ rest))))
    ≡ cond return [] (b ∷ []) ∷ lines_of rest
last_byte b rest newline true h = rw h refl
last_byte b rest newline false h = rw h refl

inner_byte : (b : ℕ) (newline return next : Bool) (lines : List (List ℕ)) (line : List ℕ) (more : List (List ℕ)) → newline ≡ false → next ≡ false
    → lines ≡ line ∷ more
    → cond newline ([] ∷ lines) (cond (return && next) lines (put_before b lines)) ≡ (b ∷ line) ∷ more
inner_byte b newline true next lines line more h g is = rw (h, g, is) refl
inner_byte b newline false next lines line more h g is = rw (h, is) refl

-- a line, a newline and what stands behind it
pub line_cut : (line rest : List ℕ) → list_all is_inner line ≡ true → lines_of (line ++ 10 ∷ rest) ≡ without_return line ∷ lines_of rest
line_cut [] rest h = refl
line_cut (b ∷ []) rest h = last_byte b rest (eqb b 10) (eqb b 13) (inner_first (eqb b 10) true h).0
line_cut (b ∷ c ∷ line) rest h =
    let parts = inner_first (eqb b 10) _ h in
    let others = inner_first (eqb c 10) _ parts.1 in
    inner_byte b (eqb b 10) (eqb b 13) (eqb c 10) (lines_of (c ∷ line ++ 10 ∷ rest)) (without_return (c ∷ line)) (lines_of rest) parts.0 others.0
    (line_cut (c ∷ line) rest parts.1)

alone_byte : (b : ℕ) (newline return : Bool) → newline ≡ false → cond newline ([] ∷ []) (cond (return && false) [] ((b ∷ []) ∷ [])) ≡ (b ∷ []) ∷ []
alone_byte b newline true h = rw h refl
alone_byte b newline false h = rw h refl

-- a line without a newline
pub line_alone : (b : ℕ) (line : List ℕ) → list_all is_inner (b ∷ line) ≡ true → lines_of (b ∷ line) ≡ (b ∷ line) ∷ []
line_alone b [] h = alone_byte b (eqb b 10) (eqb b 13) (inner_first (eqb b 10) true h).0
line_alone b (c ∷ line) h =
    let parts = inner_first (eqb b 10) _ h in
    let others = inner_first (eqb c 10) _ parts.1 in
    inner_byte b (eqb b 10) (eqb b 13) (eqb c 10) (lines_of (c ∷ line)) (c ∷ line) [] parts.0 others.0 (line_alone c line parts.1)

inner_at : (b : ℕ) → (eqb b 10 ≡ true → ⊥) → is_inner b ≡ true
inner_at b h = inner_by (eqb b 10) h
  where
    inner_by : (newline : Bool) → (newline ≡ true → ⊥) → not newline ≡ true
    inner_by true h = absurd (h refl)
    inner_by false h = refl

split_at : (xs : List ℕ) (n : ℕ) → n < length xs → xs ≡ take n xs ++ get_or xs n 0 ∷ drop (n + 1) xs
split_at xs n l = sym (take-append-drop n xs) ∙ ap (λ rest. take n xs ++ rest) (drop_more xs n 0 l)

-- where the first newline stands, the first line ends
pub cut_at : (text : List ℕ) (n : ℕ) → n < length text → get_or text n 0 ≡ 10 → ((k : ℕ) → k < n → eqb (get_or text k 0) 10 ≡ true → ⊥)
    → lines_of text ≡ without_return (take n text) ∷ lines_of (drop (n + 1) text)
cut_at text n l is none =
    let split : text ≡ take n text ++ 10 ∷ drop (n + 1) text = split_at text n l ∙ ap (λ b. take n text ++ b ∷ drop (n + 1) text) is in
    let inner = all_before is_inner text n (λ k g. inner_at (get_or text k 0) (none k g)) (omega arith) in
    ap lines_of split ∙ line_cut (take n text) (drop (n + 1) text) inner

cut_none_by : (text : List ℕ) → 0 < length text → list_all is_inner text ≡ true → lines_of text ≡ text ∷ []
cut_none_by [] l h = absurd (omega arith)
cut_none_by (b ∷ rest) l h = line_alone b rest h

-- where no newline stands, all of it is a line
pub cut_none : (text : List ℕ) → 0 < length text → ((k : ℕ) → k < length text → eqb (get_or text k 0) 10 ≡ true → ⊥)
    → lines_of text ≡ text ∷ lines_of (drop (length text) text)
cut_none text l none =
    let inner : list_all is_inner (take (length text) text)
    ≡ true = all_before is_inner text (length text) (λ k g. inner_at (get_or text k 0) (none k g)) (omega arith) in
    let whole : take (length text) text ≡ text = take_all (length text) text (omega arith) in
    let nothing : drop (length text) text ≡ [] = drop_all (length text) text (omega arith) in
    cut_none_by text l (rw whole at inner) ∙ ap (λ rest. text ∷ lines_of rest) (sym nothing)

-- a carriage return at the end is dropped, and another byte stays
pub return_dropped : (front : List ℕ) → without_return (front ++ 13 ∷ []) ≡ front
return_dropped [] = refl
return_dropped (b ∷ []) = refl
return_dropped (b ∷ c ∷ rest) = ap (λ xs. b ∷ xs) (return_dropped (c ∷ rest))

pub byte_kept : (front : List ℕ) (b : ℕ) → eqb b 13 ≡ false → without_return (front ++ b ∷ []) ≡ front ++ b ∷ []
byte_kept [] b h = cond-false (eqb b 13) [] (b ∷ []) h
byte_kept (a ∷ []) b h = ap (λ xs. a ∷ xs) (byte_kept [] b h)
byte_kept (a ∷ c ∷ rest) b h = ap (λ xs. a ∷ xs) (byte_kept (c ∷ rest) b h)

pub return_at : (bytes front : List ℕ) (b : ℕ) → bytes ≡ front ++ b ∷ [] → b ≡ 13 → front ≡ without_return bytes
return_at bytes front b is h = sym (ap without_return (is ∙ ap (λ c. front ++ c ∷ []) h) ∙ return_dropped front)

pub byte_at : (bytes front : List ℕ) (b : ℕ) → bytes ≡ front ++ b ∷ [] → b ≢ 13 → bytes ≡ without_return bytes
byte_at bytes front b is h = is ∙ (sym (byte_kept front b (grind (arith, nat_tests))) ∙ ap without_return (sym is))
