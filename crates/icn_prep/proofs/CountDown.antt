-- Counting down the names that are left never binds: each name is replaced once at most, since it is switched off in its own text.
use Rattle.std.proofs.Common.{◌≡◌, ℕ, ◌+◌, ◌≤◌, zero, suc, Bool, true, false, cond, ◌||◌, List, [], ◌∷◌, length, Option, None, Some, refl, sym, ap, ◌∙◌, arith}
use Rattle.std.specs.Str.{bytes_eq}
use Rattle.std.specs.Cmp.Lexicographic.{bytes_decides}
use Rattle.std.proofs.lemmas.Bool.{false≢true}
use Rattle.std.proofs.lemmas.Option.{none-some}
use Rattle.icn_prep.specs.declared.literal.LiteralState.TheVariants.{Outside}
use Rattle.icn_prep.specs.GivenLineLaws.{AreDefinedTexts, none, defined, undefined_in, CountNeverBinds}
use Rattle.icn_prep.specs.Replacement.{read_from, as_it_stands, word_read, replace_words}
use Rattle.icn_prep.specs.DefinedNames.{TextOf, Texts, without, undefined_by}

abbrev is_among : List ℕ → List (List ℕ) → Bool
is_among word [] = false
is_among word (name ∷ names) = bytes_eq name word || is_among word names

-- the names without the first that is this word
abbrev others : List ℕ → List (List ℕ) → List (List ℕ)
others word [] = []
others word (name ∷ names) = cond (bytes_eq name word) names (name ∷ others word names)

-- no other name has a text
abbrev Covers : List (List ℕ) → TextOf → Type 0
Covers names texts = (word : List ℕ) → is_among word names ≡ false → texts word ≡ None

neither : (a b : Bool) → (a || b) ≡ false → (a ≡ false) × (b ≡ false)
neither true b h = absurd (false≢true (sym h))
neither false b h = (refl, h)

both_false : (a b : Bool) → a ≡ false → b ≡ false → (a || b) ≡ false
both_false true b h g = h
both_false false b h g = g

fewer_by : (same : Bool) (word name : List ℕ) (names : List (List ℕ)) → (same || is_among word names) ≡ true
    → (is_among word names ≡ true → length names ≡ suc (length (others word names)))
    → length (name ∷ names) ≡ suc (length (cond same names (name ∷ others word names)))
fewer_by true word name names h rest = refl
fewer_by false word name names h rest = ap suc (rest h)

fewer : (word : List ℕ) (names : List (List ℕ)) → is_among word names ≡ true → length names ≡ suc (length (others word names))
fewer word [] h = absurd (false≢true h)
fewer word (name ∷ names) h = fewer_by (bytes_eq name word) word name names h (fewer word names)

not_among_by : (same : Bool) (word name v : List ℕ) (names : List (List ℕ)) → bytes_eq name word ≡ same → bytes_eq word v ≡ false
    → is_among v (cond same names (name ∷ others word names)) ≡ false → (is_among v (others word names) ≡ false → is_among v names ≡ false)
    → (bytes_eq name v || is_among v names) ≡ false
not_among_by true word name v names e apart h rest =
    both_false (bytes_eq name v) (is_among v names) (ap (λ n. bytes_eq n v) ((bytes_decides name word).0 e) ∙ apart) h
not_among_by false word name v names e apart h rest =
    let parts = neither (bytes_eq name v) (is_among v (others word names)) h in both_false (bytes_eq name v) (is_among v names) parts.0 (rest parts.1)

not_among : (word v : List ℕ) (names : List (List ℕ)) → bytes_eq word v ≡ false → is_among v (others word names) ≡ false → is_among v names ≡ false
not_among word v [] apart h = h
not_among word v (name ∷ names) apart h = not_among_by (bytes_eq name word) word name v names refl apart h (not_among word v names apart)

covers_by : (same : Bool) (word v : List ℕ) (names : List (List ℕ)) (texts : TextOf) → bytes_eq word v ≡ same → Covers names texts
    → is_among v (others word names) ≡ false
    → cond same None (texts v) ≡ None
covers_by true word v names texts e covers h = refl
covers_by false word v names texts e covers h = covers v (not_among word v names e h)

covers_others : (word : List ℕ) (names : List (List ℕ)) (texts : TextOf) → Covers names texts → Covers (others word names) (without texts word)
covers_others word names texts covers v h = covers_by (bytes_eq word v) word v names texts refl covers h

-- a word with a text is among the names
among_by : (found : Bool) (names : List (List ℕ)) (texts : TextOf) (word text : List ℕ) → is_among word names ≡ found → Covers names texts
    → texts word ≡ Some text
    → is_among word names ≡ true
among_by true names texts word text e covers h = e
among_by false names texts word text e covers h = absurd (none-some text (sym (covers word e) ∙ h))

among : (names : List (List ℕ)) (texts : TextOf) (word text : List ℕ) → Covers names texts → texts word ≡ Some text → is_among word names ≡ true
among names texts word text covers h = among_by (is_among word names) names texts word text refl covers h

abbrev Same : ℕ → ℕ → Type 0
Same n m = (names : List (List ℕ)) (texts : TextOf) → Covers names texts → length names ≤ n → length names ≤ m → replace_words n texts ≡ replace_words m texts

word_same : (n m : ℕ) → Same n m → (names : List (List ℕ)) (texts : TextOf) (word : List ℕ) (text : Option (List ℕ)) → texts word ≡ text → Covers names texts
    → length names ≤ suc n → length names ≤ suc m → word_read (replace_words n) texts word text ≡ word_read (replace_words m) texts word text
word_same n m same names texts word None e covers a b = refl
word_same n m same names texts word (Some text) e covers a b =
    let len = fewer word names (among names texts word text covers e) in
    ap (λ reads. reads Outside text)
    (same (others word names) (without texts word) (covers_others word names texts covers) (omega (arith, len, a)) (omega (arith, len, b)))

stands : (n : ℕ) (texts : TextOf) (word : List ℕ) (text : Option (List ℕ)) → text ≡ None → as_it_stands word ≡ word_read (replace_words n) texts word text
stands n texts word None e = refl
stands n texts word (Some text) e = absurd (none-some text (sym e))

same_reads : (n m : ℕ) → Same n m
same_reads zero zero names texts covers a b = refl
same_reads zero (suc m) [] texts covers a b =
    ap (λ becomes. read_from becomes zero) (λ i word. stands m texts word (texts word) (covers word refl) i)
same_reads zero (suc m) (name ∷ names) texts covers a b = absurd (omega (arith, a))
same_reads (suc n) zero [] texts covers a b =
    ap (λ becomes. read_from becomes zero) (λ i word. sym (stands n texts word (texts word) (covers word refl)) i)
same_reads (suc n) zero (name ∷ names) texts covers a b = absurd (omega (arith, b))
same_reads (suc n) (suc m) names texts covers a b =
    ap (λ becomes. read_from becomes zero) (λ i word. word_same n m (same_reads n m) names texts word (texts word) refl covers a b i)

-- names that are at most as many as are counted
abbrev Counted : Texts → Type 0
Counted texts = (names : List (List ℕ)) × (length names ≤ texts.count) × Covers names texts.text_of

more_covers : (texts : TextOf) (name text : List ℕ) (names : List (List ℕ)) → Covers names texts → (word : List ℕ) → is_among word (name ∷ names) ≡ false
    → cond (bytes_eq name word) (Some text) (texts word) ≡ None
more_covers texts name text names covers word h =
    let parts = neither (bytes_eq name word) (is_among word names) h in
    ap (λ same. cond same (Some text) (texts word)) parts.0 ∙ covers word parts.1

more_counted : (texts : Texts) (name text : List ℕ) → Counted texts
    → Counted (let more : Texts = record { count = texts.count + 1; text_of = λ word. cond (bytes_eq name word) (Some text) (texts.text_of word) } in more)
more_counted texts name text (names, len, covers) =
    (name ∷ names, omega (arith, len), λ word h. more_covers texts.text_of name text names covers word h)

less_counted : (texts : Texts) (name : List ℕ) (found : Option (List ℕ)) → texts.text_of name ≡ found → Counted texts → Counted (undefined_by texts name found)
less_counted texts name None e counted = counted
less_counted texts name (Some text) e (names, len, covers) =
    let one = fewer name names (among names texts.text_of name text covers e) in
    (others name names, omega (arith, one, len), covers_others name names texts.text_of covers)

counted : (texts : Texts) → AreDefinedTexts texts → Counted texts
counted texts none = ([], omega arith, λ word h. refl)
counted texts (defined before name text made) = more_counted before name text (counted before made)
counted texts (undefined_in before name made) = less_counted before name (before.text_of name) refl (counted before made)

pub never_binds : CountNeverBinds
never_binds texts made more state line =
    let names = counted texts made in
    ap (λ reads. reads state line) (same_reads (texts.count + more) texts.count names.0 texts.text_of names.2 (omega (arith, names.1)) names.1)
