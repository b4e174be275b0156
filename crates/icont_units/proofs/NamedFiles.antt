-- Which files names are.
use Rattle.std.proofs.Common.{◌≡◌, ℕ, ◌-◌, Bool, true, false, not, ◌&&◌, ◌||◌, cond, nat_eq, List, [], ◌∷◌, ◌++◌, map, filter, length, take, Option, None, Some, option_map, MatchOption, Bor, refl, sym, ap, ◌∙◌, append-nil, if◌then◌else◌}
use Rattle.icn_text.specs.WordTexts.{texts}
use Rattle.std.specs.List.{ends_with, list_any}
use Rattle.std.specs.Str.{bytes_eq}
use Rattle.std.specs.Str.Pattern.{FindsTextSuffix, StripsSuffix}
use Rattle.std.proofs.lemmas.Bool.{false≢true}
use Rattle.std.proofs.lemmas.Bool.Decides.{Decides-eqb}
use Rattle.std.proofs.lemmas.List.Folds.{list_any-append}
use Rattle.std.proofs.lemmas.Slice.Eq.{bytes_eq-Decides, ends_is}
use Rattle.std.proofs.lemmas.Str.Pattern.{ends_text}
use Rattle.indexmap.specs.IndexSet.{insert_key}
use Rattle.law_simulation.specs.Mentions.{firsts}
use Rattle.icont_units.specs.declared.files.CommandFile.{CommandFile as HeldFile}
use Rattle.icont_units.specs.Files.{CommandFile, base_before, file_named, files_named, is_source_file, same_base}
use Rattle.icont_units.specs.FetchedFiles.{file_seen, files_seen, new_files}

-- Suffixes

by_end : (name suffix : List ℕ) (ends : Bool) → ends ≡ ends_with nat_eq name suffix
    → (if ends then Some (take (length name - length suffix) name) else None) ≡ base_before name suffix
by_end name suffix ends e = ap (λ t. if t then Some (take (length name - length suffix) name) else None) e

pub before_end : (found : Option (Bor (List ℕ))) (suffix name : List ℕ)
    → MatchOption found (FindsTextSuffix suffix name None) (λ x. StripsSuffix (FindsTextSuffix suffix) name x.now)
    → option_map (λ base. base.now) found ≡ base_before name suffix
before_end None suffix name h = by_end name suffix false (ends_text false suffix name h)
before_end (Some x) suffix name h =
    ap (λ base. Some base) (h.2 ∙ ap (λ n. take (length name - n) name) h.1.0)
    ∙ by_end name suffix true (sym ((ends_is Decides-eqb name suffix _ refl).1 _ h.1.1))

-- Each base once

any_text : (text : List ℕ) (keys : List (Bor (List ℕ))) → list_any (λ key. bytes_eq text key.now) keys ≡ list_any (bytes_eq text) (texts keys)
any_text text [] = refl
any_text text (key ∷ keys) = ap (λ found. bytes_eq text key.now || found) (any_text text keys)

texts_behind : (keys : List (Bor (List ℕ))) (key : Bor (List ℕ)) → texts (keys ++ key ∷ []) ≡ texts keys ++ key.now ∷ []
texts_behind [] key = refl
texts_behind (other ∷ keys) key = ap (λ more. other.now ∷ more) (texts_behind keys key)

files_behind : (files : List HeldFile) (file : HeldFile) (rest : List CommandFile)
    → files_seen (files ++ file ∷ []) ++ rest ≡ files_seen files ++ file_seen file ∷ rest
files_behind [] file rest = refl
files_behind (other ∷ files) file rest = ap (λ more. file_seen other ∷ more) (files_behind files file rest)

-- a base that is known adds nothing
pub known_file : (keys new : List (Bor (List ℕ))) (file : HeldFile) (files : List HeldFile) (rest : List CommandFile)
    → list_any (λ key. bytes_eq file.base.now key.now) keys ≡ true → new ≡ insert_key (λ a b. bytes_eq a.now b.now) keys file.base
    → (named : CommandFile) → file_seen file ≡ named
    → files_seen files ++ new_files (texts new) rest ≡ files_seen files ++ new_files (texts keys) (named ∷ rest)
known_file keys new file files rest known e named is =
    ap (λ ks. files_seen files ++ new_files (texts ks) rest) (e ∙ ap (λ t. if t then keys else keys ++ file.base ∷ []) known)
    ∙ ap (λ t. files_seen files ++ (if t then new_files (texts keys) rest else file_seen file ∷ new_files (texts keys ++ file.base.now ∷ []) rest))
    (sym known ∙ any_text file.base.now keys)
    ∙ ap (λ f. files_seen files ++ new_files (texts keys) (f ∷ rest)) is

pub new_file : (keys new : List (Bor (List ℕ))) (file : HeldFile) (files : List HeldFile) (rest : List CommandFile)
    → list_any (λ key. bytes_eq file.base.now key.now) keys ≡ false → new ≡ insert_key (λ a b. bytes_eq a.now b.now) keys file.base
    → (named : CommandFile) → file_seen file ≡ named
    → files_seen (files ++ file ∷ []) ++ new_files (texts new) rest ≡ files_seen files ++ new_files (texts keys) (named ∷ rest)
new_file keys new file files rest unknown e named is =
    files_behind files file (new_files (texts new) rest)
    ∙ (ap (λ ks. files_seen files ++ file_seen file ∷ new_files ks rest)
    (ap texts (e ∙ ap (λ t. if t then keys else keys ++ file.base ∷ []) unknown) ∙ texts_behind keys file.base)
    ∙ ap (λ t. files_seen files ++ (if t then new_files (texts keys) rest else file_seen file ∷ new_files (texts keys ++ file.base.now ∷ []) rest))
    (sym unknown ∙ any_text file.base.now keys)
    ∙ ap (λ f. files_seen files ++ new_files (texts keys) (f ∷ rest)) is)

-- they are the first mentions

filter_by : {A : Type 0} (p q : A → Bool) → ((x : A) → p x ≡ q x) → (xs : List A) → filter p xs ≡ filter q xs
filter_by p q h [] = refl
filter_by p q h (x ∷ xs) = ap (λ b. cond b (x ∷ filter p xs) (filter p xs)) (h x) ∙ ap (λ ys. cond (q x) (x ∷ ys) ys) (filter_by p q h xs)

filter_all : {A : Type 0} (xs : List A) → filter (λ x. true) xs ≡ xs
filter_all [] = refl
filter_all (x ∷ xs) = ap (λ ys. x ∷ ys) (filter_all xs)

kept_by : {A : Type 0} (p : A → Bool) (x : A) (xs : List A) (s : Bool) → filter p (cond s (x ∷ xs) xs) ≡ cond (s && p x) (x ∷ filter p xs) (filter p xs)
kept_by p x xs true = refl
kept_by p x xs false = refl

filter_twice : {A : Type 0} (p q : A → Bool) (xs : List A) → filter p (filter q xs) ≡ filter (λ x. q x && p x) xs
filter_twice p q [] = refl
filter_twice p q (x ∷ xs) = kept_by p x (filter q xs) (q x) ∙ ap (λ ys. cond (q x && p x) (x ∷ ys) ys) (filter_twice p q xs)

abbrev is_new : List (List ℕ) → CommandFile → Bool
is_new known file = not (list_any (bytes_eq file.base) known)

-- a file of another base that is known is not new: what has the base of a known one is no new one itself
same_known : (known : List (List ℕ)) (a b : CommandFile) (same : Bool) (there : Bool) → same_base a b ≡ same → list_any (bytes_eq b.base) known ≡ there
    → list_any (bytes_eq a.base) known ≡ true → (not same && not there) ≡ not there
same_known known a b false there e t k = refl
same_known known a b true true e t k = refl
same_known known a b true false e t k =
    let is : a.base ≡ b.base = (bytes_eq-Decides a.base b.base).0 e in
    absurd (false≢true (sym t ∙ (ap (λ base. list_any (bytes_eq base) known) (sym is) ∙ k)))

swapped : (a b : List ℕ) (left right : Bool) → bytes_eq a b ≡ left → bytes_eq b a ≡ right → left ≡ right
swapped a b true right e f = sym (sym f ∙ (bytes_eq-Decides b a).1 (sym ((bytes_eq-Decides a b).0 e)))
swapped a b false true e f = absurd (false≢true (sym e ∙ (bytes_eq-Decides a b).1 (sym ((bytes_eq-Decides b a).0 f))))
swapped a b false false e f = refl

both_not : (same there again : Bool) → again ≡ same → (not same && not there) ≡ not (there || (again || false))
both_not true true true h = refl
both_not true false true h = refl
both_not false true false h = refl
both_not false false false h = refl
both_not true there false h = absurd (false≢true h)
both_not false there true h = absurd (false≢true (sym h))

one_more : (known : List (List ℕ)) (a b : CommandFile) → (not (same_base a b) && is_new known b) ≡ is_new (known ++ a.base ∷ []) b
one_more known a b =
    both_not (same_base a b) (list_any (bytes_eq b.base) known) (bytes_eq b.base a.base) (swapped b.base a.base _ _ refl refl)
    ∙ ap not (sym (list_any-append (bytes_eq b.base) known (a.base ∷ [])))

abbrev firsts_but : CommandFile → List CommandFile → List CommandFile
firsts_but file files = filter (λ y. not (same_base file y)) (firsts same_base files)

one_new : (known : List (List ℕ)) (file : CommandFile) (files : List CommandFile)
    → ((more : List (List ℕ)) → new_files more files ≡ filter (is_new more) (firsts same_base files))
    → (there : Bool) → list_any (bytes_eq file.base) known ≡ there
    → cond there (new_files known files) (file ∷ new_files (known ++ file.base ∷ []) files)
    ≡ cond (not there) (file ∷ filter (is_new known) (firsts_but file files)) (filter (is_new known) (firsts_but file files))
one_new known file files again true e =
    again known
    ∙ (filter_by (is_new known) (λ y. not (same_base file y) && is_new known y) (λ y. sym (same_known known file y _ _ refl refl e)) (firsts same_base files)
    ∙ sym (filter_twice (is_new known) (λ y. not (same_base file y)) (firsts same_base files)))
one_new known file files again false e =
    ap (λ more. file ∷ more) (again (known ++ file.base ∷ [])
    ∙ (filter_by (is_new (known ++ file.base ∷ [])) (λ y. not (same_base file y) && is_new known y) (λ y. sym (one_more known file y)) (firsts same_base files)
    ∙ sym (filter_twice (is_new known) (λ y. not (same_base file y)) (firsts same_base files))))

new_are : (known : List (List ℕ)) (files : List CommandFile) → new_files known files ≡ filter (is_new known) (firsts same_base files)
new_are known [] = refl
new_are known (file ∷ files) = one_new known file files (λ more. new_are more files) _ refl

pub new_firsts : (files : List CommandFile) → new_files [] files ≡ firsts same_base files
new_firsts files = new_are [] files ∙ filter_all (firsts same_base files)

pub all_named : (files : List CommandFile) (known : List (List ℕ)) (rest names : List (Bor (List ℕ)))
    → files ++ new_files known (map file_named (texts rest)) ≡ new_files [] (map file_named (texts names)) → rest ≡ [] → files ≡ files_named (texts names)
all_named files known rest names e done =
    sym (append-nil files) ∙ (ap (λ r. files ++ new_files known (map file_named (texts r))) (sym done) ∙ (e ∙ new_firsts (map file_named (texts names))))

-- what an insertion says of its key
pub was_new : (added there : Bool) → added ≡ not there → added ≡ true → there ≡ false
was_new true false e t = refl
was_new true true e t = absurd (false≢true (sym e))
was_new false there e t = absurd (false≢true t)

pub was_known : (added there : Bool) → added ≡ not there → added ≡ false → there ≡ true
was_known false true e t = refl
was_known false false e t = absurd (false≢true e)
was_known true there e t = absurd (false≢true (sym t))

-- Sources

pub source_behind : (found : List HeldFile) (file : HeldFile) (rest : List CommandFile) → is_source_file file.kind ≡ true
    → files_seen (found ++ file ∷ []) ++ filter (λ f. is_source_file f.kind) rest
    ≡ files_seen found ++ filter (λ f. is_source_file f.kind) (file_seen file ∷ rest)
source_behind found file rest is =
    files_behind found file (filter (λ f. is_source_file f.kind) rest)
    ∙ ap (λ t. files_seen found ++ cond t (file_seen file ∷ filter (λ f. is_source_file f.kind) rest) (filter (λ f. is_source_file f.kind) rest)) (sym is)
