-- Fields of few bytes, which are laid out beside the heap.
use Rattle.std.proofs.Common.{◌≡◌, ◌∙◌, refl, sym, ap, ℕ, ◌+◌, ◌-◌, ◌≤◌, List, [], ◌∷◌, ◌++◌, length, length-drop, length-take, drop, take, arith}
use Rattle.std.proofs.Math.Seq.{take-append-add}
use Rattle.std.proofs.lemmas.List.{drop-replicate, length-replicate, take-replicate}
use Rattle.icn_strings.proofs.Fillings.{copies_of_one, one_from_left, one_from_right}
use Rattle.icn_strings.specs.RepeatedBytes.{filled_left, filled_right}
use Rattle.icn_strfn.specs.Layouts.{blanks, in_field}
use Rattle.icn_strfn.specs.declared.layouts.Field.{Field}

-- Blanks

take_blanks : (n more : ℕ) → take n (blanks (n + more)) ≡ blanks n
take_blanks n more = take-replicate n (n + more) 32 (omega arith)

drop_blanks : (n more : ℕ) → drop n (blanks (n + more)) ≡ blanks more
drop_blanks n more = let left : n + more - n ≡ more = omega arith in drop-replicate n (n + more) 32 ∙ ap blanks left

left_blanks : (n : ℕ) → filled_left n (32 ∷ []) ≡ blanks n
left_blanks n = sym (one_from_left n (32 ∷ []) refl) ∙ copies_of_one n (32 ∷ []) refl

right_blanks : (n : ℕ) → filled_right n (32 ∷ []) ≡ blanks n
right_blanks n = sym (one_from_right n (32 ∷ []) refl) ∙ copies_of_one n (32 ∷ []) refl

-- Bytes among blanks

pub part_size : (text part : List ℕ) (from len : ℕ) → part ≡ take len (drop from text) → from + len ≤ length text → length part ≡ len
part_size text part from len is within =
    let size : length (take len (drop from text)) ≡ len = omega (arith, within, length-take len (drop from text), length-drop from text) in
    ap length is ∙ size

-- the first bytes of so many blanks with a part of a text among them are the field
pub few_made : (field : Field) (text part : List ℕ) (width : ℕ) → part ≡ take field.len (drop field.from text) → length part ≡ field.len
    → field.before + (field.len + field.behind) ≡ width → width ≤ 64
    → take width (take field.before (blanks 64) ++ (part ++ drop (field.before + length part) (blanks 64))) ≡ in_field field text (32 ∷ [])
few_made field text part width is size whole few =
    let a : ℕ = field.before in
    let z : ℕ = field.behind in
    let rest : ℕ = 64 - width in
    let front : 64 ≡ a + (field.len + (z + rest)) = omega (arith, whole, few) in
    let both : 64 ≡ a + length part + (z + rest) = omega (arith, whole, few, size) in
    let taken : width ≡ length (blanks a) + (length part + z) = omega (arith, whole, size, length-replicate {A = ℕ} a 32) in
    let before : take a (blanks 64) ≡ blanks a
    = ap (λ (k : ℕ). take a (blanks k)) front ∙ take_blanks a (field.len + (z + rest)) in
    let behind : drop (a + length part) (blanks 64) ≡ blanks (z + rest)
    = ap (λ (k : ℕ). drop (a + length part) (blanks k)) both ∙ drop_blanks (a + length part) (z + rest) in
    ap (λ (xs : List ℕ). take width (xs ++ (part ++ drop (a + length part) (blanks 64)))) before
    ∙ ap (λ (xs : List ℕ). take width (blanks a ++ (part ++ xs))) behind
    ∙ ap (λ (k : ℕ). take k (blanks a ++ (part ++ blanks (z + rest)))) taken
    ∙ take-append-add (blanks a) (part ++ blanks (z + rest)) (length part + z)
    ∙ ap (λ (xs : List ℕ). blanks a ++ xs) (take-append-add part (blanks (z + rest)) z)
    ∙ ap (λ (xs : List ℕ). blanks a ++ (part ++ xs)) (take_blanks z rest)
    ∙ ap (λ (xs : List ℕ). xs ++ (part ++ blanks z)) (sym (left_blanks a))
    ∙ ap (λ (xs : List ℕ). filled_left a (32 ∷ []) ++ (xs ++ blanks z)) is
    ∙ ap (λ (xs : List ℕ). filled_left a (32 ∷ []) ++ (take field.len (drop field.from text) ++ xs)) (sym (right_blanks z))
