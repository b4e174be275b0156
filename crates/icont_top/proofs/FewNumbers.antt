-- Words ask for the program of no number above 2000.
use Rattle.std.proofs.Common.{◌≡◌, ℕ, ◌≤◌, Bool, true, false, List, [], ◌∷◌, nat_le, Option, None, Some, refl, sym, ap, ◌∙◌, true≢false, arith}
use Rattle.std.specs.Prelude.{◌&&◌, if◌then◌else◌}
use Rattle.std.specs.List.{list_all}
use Rattle.std.specs.Option.{option_and_then, option_map, option_map_or}
use Rattle.std.proofs.lemmas.Bool.Decides.{nat_tests}
use Rattle.std.proofs.lemmas.Option.{none-some, same_Some}
use Rattle.icn_text.specs.WordNumbers.{is_digit, number_within, value_from, within}
use Rattle.icont_words.specs.Words.{Order, WordsReading, Run, Task, Translate, Link, Generate, Asks, Faulty, ComeTo, behind_run, bound_of, files_task, number_of, order_of, own_words, run_of, task_of, wrong_kind}
use Rattle.icont_units.proofs.ShortTexts.{and_second}

chosen : (test : Bool) (m n : ℕ) → (if test then Some m else None) ≡ Some n → (test ≡ true) × (m ≡ n)
chosen true m n e = (refl, same_Some m n e)
chosen false m n e = absurd (none-some n e)

within_high : (low high m n : ℕ) → within low high m ≡ Some n → n ≤ high
within_high low high m n e =
    let is = chosen (nat_le low m && nat_le m high) m n e in
    let high_test : nat_le m high ≡ true = and_second (nat_le low m) (nat_le m high) is.0 in
    let same : m ≡ n = is.1 in
    let most : m ≤ high = grind (arith, nat_tests) in omega (arith, same, most)

if_digits : (test : Bool) (found : Option ℕ) (n : ℕ) → (if test then found else None) ≡ Some n → found ≡ Some n
if_digits true found n e = e
if_digits false found n e = absurd (none-some n e)

number_high : (low high n : ℕ) (text : List ℕ) → number_within low high text ≡ Some n → n ≤ high
number_high low high n [] e = absurd (none-some n e)
number_high low high n (b ∷ rest) e =
    within_high low high (value_from 0 (b ∷ rest)) n (if_digits (list_all is_digit (b ∷ rest)) (within low high (value_from 0 (b ∷ rest))) n e)

said_high : (n : ℕ) (said : Option (List ℕ)) → option_and_then number_of said ≡ Some n → n ≤ 2000
said_high n None e = absurd (none-some n e)
said_high n (Some text) e = number_high 1 2000 n text e

-- Tasks

abbrev number_asked : Task → ℕ
number_asked (Translate names) = 0
number_asked (Link names image run) = 0
number_asked (Generate number turns) = number

abbrev generates : Task → Bool
generates (Translate names) = false
generates (Link names image run) = false
generates (Generate number turns) = true

files_alone : (units : Bool) (names : List (List ℕ)) (image : Option (List ℕ)) (run : Option Run)
    → generates (if units then Translate names else Link names image run) ≡ false
files_alone true names image run = refl
files_alone false names image run = refl

task_high : (n turns : ℕ) (order : Order) (found : Option ℕ) → option_and_then number_of order.number ≡ found
    → option_map_or (λ number. Generate number (bound_of order)) found (files_task order) ≡ Generate n turns → n ≤ 2000
task_high n turns order None is e =
    absurd (true≢false (sym (ap generates e) ∙ files_alone order.units order.names order.image (option_map (run_of order) order.run)))
task_high n turns order (Some m) is e = let same : m ≡ n = ap number_asked e in said_high n order.number (is ∙ ap (λ number. Some number) same)

-- Readings

abbrev task_asked : WordsReading → Task
task_asked (Asks task) = task
task_asked (Faulty kind) = Translate []

abbrev asks : WordsReading → Bool
asks (Asks task) = true
asks (Faulty kind) = false

judged_high : (n turns : ℕ) (order : Order) (kind : Option ℕ)
    → option_map_or (λ kind. Faulty kind) kind (Asks (task_of order)) ≡ Asks (Generate n turns) → n ≤ 2000
judged_high n turns order None e = task_high n turns order (option_and_then number_of order.number) refl (ap task_asked e)
judged_high n turns order (Some kind) e = absurd (true≢false (sym (ap asks e)))

comes_high : {words : List (List ℕ)} (reading : WordsReading) → ComeTo words reading → (n turns : ℕ) → reading ≡ Asks (Generate n turns) → n ≤ 2000
comes_high _ (ComeTo.unsaid none) n turns e = absurd (true≢false (sym (ap asks e)))
comes_high {words} _ (ComeTo.said pieces is) n turns e =
    judged_high n turns (order_of pieces (behind_run (own_words words))) (wrong_kind (order_of pieces (behind_run (own_words words)))) e

pub few_asked : {words : List (List ℕ)} (n turns : ℕ) → ComeTo words (Asks (Generate n turns)) → n ≤ 2000
few_asked n turns x = comes_high (Asks (Generate n turns)) x n turns refl
