-- What the words come to, by what they say.
use Rattle.std.proofs.Common.{◌≡◌, ◌∙◌, refl, sym, ap, subst, cond, ℕ, Bool, true, false, true≢false, List, [], ◌∷◌, unwrap_or, codes, Option, None, Some, Err}
use Rattle.std.proofs.lemmas.Option.{none-some, same_Some}
use Rattle.std.specs.Option.{option_map_or}
use Rattle.icont_words.specs.Words.{Piece, Says, Order, WordsReading, Faulty, Asks, AreSaid, ComeTo, unsaid, said, before_run, behind_run, order_reading, order_of, own_words, task_of, wrong_kind}
use Rattle.icont_words.specs.Asking.{IsReading}
use Rattle.icont_words.specs.Matched.{AreMeant, IsMatched, values_found}
use Rattle.icont_words.specs.declared.words.WordsFault.{WordsFault}
use Rattle.icont_words.specs.declared.words.WordsFault.TheVariants as Faults
use Rattle.icont_words.proofs.LeftToRight.{Pieces, said_is_found, said_from, pieces_are_said}
use Rattle.icont_words.proofs.Uses.{all_new}
use Rattle.icont_words.proofs.ClapAgrees.{all_new_from, once}

-- Every list of words comes to one thing

same_pieces : (words : List (List ℕ)) (a b : List Piece) → AreSaid words a → AreSaid words b → a ≡ b
same_pieces words a b first second =
    same_Some a b (sym (said_is_found (before_run (own_words words)) a first.said) ∙ said_is_found (before_run (own_words words)) b second.said)

abbrev seen_as : List (List ℕ) → List Piece → WordsReading
seen_as words pieces = order_reading (order_of pieces (behind_run (own_words words)))

once_or_not : (words : List (List ℕ)) (pieces : List Piece) → Says (before_run (own_words words)) pieces → (t : Bool)
    → all_new pieces [] ≡ t
    → (reading : WordsReading) × ComeTo words reading
once_or_not words pieces says true e = (seen_as words pieces, said pieces (record { said = says; once = once pieces e }))
once_or_not words pieces says false e = (
  Faulty 1,
  unsaid (λ others s.
      let same : others ≡ pieces =
      same_Some others pieces (sym (said_is_found (before_run (own_words words)) others s.said)
      ∙ said_is_found (before_run (own_words words)) pieces says) in
      true≢false (sym (all_new_from others s.once) ∙ (ap (λ (ps : List Piece). all_new ps []) same ∙ e))),
)

some_by : (words : List (List ℕ)) (read : Pieces) → said_from (before_run (own_words words)) None ≡ read
    → (reading : WordsReading) × ComeTo words reading
some_by words None e =
    (Faulty 1, unsaid (λ pieces s. none-some pieces (sym e ∙ said_is_found (before_run (own_words words)) pieces s.said)))
some_by words (Some pieces) e = once_or_not words pieces (pieces_are_said (before_run (own_words words)) pieces e) (all_new pieces []) refl

pub some_reading : (words : List (List ℕ)) → (reading : WordsReading) × ComeTo words reading
some_reading words = some_by words (said_from (before_run (own_words words)) None) refl

pub one_reading : (words : List (List ℕ)) (a b : WordsReading) → ComeTo words a → ComeTo words b → a ≡ b
one_reading words _ _ (unsaid h) (unsaid k) = refl
one_reading words _ _ (unsaid h) (said pieces s) = absurd (h pieces s)
one_reading words _ _ (said pieces s) (unsaid k) = absurd (k pieces s)
one_reading words _ _ (said pieces s) (said others t) = ap (seen_as words) (same_pieces words pieces others s t)

-- What the code answers

pub unread : (words before : List (List ℕ)) (fault : WordsFault) → own_words before ≡ before_run (own_words words)
    → IsMatched before (Err fault)
    → IsReading words (Err fault)
unread words before (Faults.Faulty kind) parts m =
    subst (λ k. ComeTo words (Faulty k)) (sym m.0)
    (unsaid (λ pieces s. m.1 pieces (record {
      said = subst (λ (ws : List (List ℕ)). Says ws pieces) (sym parts) s.said;
      once =
          s.once;
    })))
unread words before Faults.NoMemory parts m = tt

pub read : (words before : List (List ℕ)) (pieces : List Piece) (order : Order) (run : Option (List (List ℕ)))
    → own_words before ≡ before_run (own_words words) → run ≡ behind_run (own_words words) → AreMeant before pieces
    → order ≡ order_of pieces run
    → ComeTo words (order_reading order)
read words before pieces order run parts behind meant is =
    subst (ComeTo words) (ap (λ r. order_reading (order_of pieces r)) (sym behind) ∙ ap order_reading (sym is))
    (said pieces (record { said = subst (λ (ws : List (List ℕ)). Says ws pieces) parts meant.said; once = meant.once }))

pub read_faulty : (words : List (List ℕ)) (order : Order) (kind : ℕ) → Some kind ≡ wrong_kind order → ComeTo words (order_reading order)
    → ComeTo words (Faulty kind)
read_faulty words order kind is = subst (ComeTo words) (ap (λ o. option_map_or (λ k. Faulty k) o (Asks (task_of order))) (sym is))

pub read_task : (words : List (List ℕ)) (order : Order) → None ≡ wrong_kind order → ComeTo words (order_reading order)
    → ComeTo words (Asks (task_of order))
read_task words order is = subst (ComeTo words) (ap (λ o. option_map_or (λ k. Faulty k) o (Asks (task_of order))) (sym is))

-- An order by its parts

pub order_as : (a b : Order) → a.units ≡ b.units → a.image ≡ b.image → a.turns ≡ b.turns → a.number ≡ b.number → a.names ≡ b.names
    → a.run ≡ b.run → a ≡ b
order_as a b units image turns number names run =
    λ i. record { units = units i; image = image i; turns = turns i; number = number i; names = names i; run = run i }

pub flag_is : (text : Option (List ℕ)) (said flag : Bool) → (text ≡ Some (codes "true") → flag ≡ true)
    → (text ≡ Some (codes "false") → flag ≡ false)
    → text ≡ Some (cond said (codes "true") (codes "false")) → flag ≡ said
flag_is text true flag set unset e = set e
flag_is text false flag set unset e = unset e

pub found_names : (names : List (List ℕ)) → unwrap_or (values_found names) [] ≡ names
found_names [] = refl
found_names (name ∷ names) = refl
