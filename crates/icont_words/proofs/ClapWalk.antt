-- `clap`'s walk over the words takes what they say from left to right.
use Rattle.std.proofs.Common.{◌≡◌, ◌∙◌, ◌≤◌, ◌+◌, refl, sym, ap, ap₂, ◌&&◌, ◌||◌, Bool, true, false, cond, List, [], ◌∷◌, ◌++◌, map, length, length-append, codes, Option, None, Some, arith, fold}
use Rattle.std.proofs.lemmas.Option.{none-some, same_Some}
use Rattle.std.specs.Option.{option_map_or}
use Rattle.clap.specs.Lexer.{usize_max}
use Rattle.clap.specs.Walk.{Held, Row, Step, Text, Waiting, Walk, after_step, is_pending, positional, positional_held, pushed, settled, settled_rows, takes_several, to_positional, value, walked, word_met}
use Rattle.clap.specs.Kinds.{Kinds, or_else}
use Rattle.clap.specs.Faults.{positional_fault, settle_fault, step_fault, stray_fault, turn_fault, walk_fault, word_fault}
use Rattle.clap.specs.declared.error.kind.ErrorKind.TheVariants as kind
use Rattle.icont_words.specs.Words.{Piece, Named}
use Rattle.icont_words.proofs.LeftToRight.{Pieces, with_piece}
use Rattle.icont_words.proofs.ClapCommand.{file_taken, taken, command_shape, index_file, option_no_file}
use Rattle.icont_words.proofs.Uses.{with_use, with_uses, is_new, takes_said, is_clear, clear_or, Pending, no_use, some_names, one_value, pending_value, name_count, held_uses, rows_with, clear_with, clear_names, names_more, rows_of_names, and_assoc, and_none, takes_piece}

-- What is said of a walk

abbrev pub stands : Bool → List Row → Option (Text × List Text) → Waiting → Walk
stands is_trailing rows pending waiting =
    record { held = held_uses rows pending; waiting = waiting; position = 1; is_trailing = is_trailing; stopped = None }

abbrev pub end_of : Walk → List Text → Held
end_of w words = (fold (walked taken []) w words).held

abbrev pub end_clear : Walk → List Text → Bool
end_clear w words = is_clear (walk_fault command_shape [] w words) && is_clear (settle_fault taken false (end_of w words))

abbrev pub end_rows : Walk → List Text → List Row
end_rows w words = settled_rows taken (end_of w words).pending (end_of w words).rows

-- From here the walk takes the words where nothing was at fault before and they say pieces that may be used after these rows; then
-- it ends with their rows.
pub record Goes (fault : Bool) (w : Walk) (words : List Text) (before : Bool) (said : Pieces) (rows : List Row) : Type 0 where
  pub clear_is : (fault && end_clear w words) ≡ (before && takes_said said rows)
  pub rows_are : (pieces : List Piece) → said ≡ Some pieces → end_rows w words ≡ with_uses pieces rows

pub goes_as : (fault fault' : Bool) (w w' : Walk) (words : List Text) (before before' : Bool) (said : Pieces)
    (rows rows' : List Row)
    → fault ≡ fault' → w ≡ w' → before ≡ before' → rows ≡ rows' → Goes fault w words before said rows
    → Goes fault' w' words before' said rows'
goes_as fault fault' w w' words before before' said rows rows' f v b r g = record {
  clear_is = ap₂ (λ t x. t && end_clear x words) (sym f) (sym v) ∙ (g.clear_is ∙ ap₂ (λ t xs. t && takes_said said xs) b r);
  rows_are = λ pieces e. ap (λ x. end_rows x words) (sym v) ∙ (g.rows_are pieces e ∙ ap (with_uses pieces) r);
}

-- what was checked before counts too
pub guarded : (guard fault : Bool) (w : Walk) (words : List Text) (before : Bool) (said : Pieces) (rows : List Row)
    → Goes fault w words before said rows → Goes (guard && fault) w words (guard && before) said rows
guarded guard fault w words before said rows g = record {
  clear_is = and_assoc guard fault (end_clear w words)
      ∙ (ap (λ t. guard && t) g.clear_is ∙ sym (and_assoc guard before (takes_said said rows)));
  rows_are = g.rows_are;
}

piece_behind : (piece : Piece) (said : Pieces) (pieces : List Piece) → with_piece piece said ≡ Some pieces
    → (others : List Piece) × (said ≡ Some others) × (piece ∷ others ≡ pieces)
piece_behind piece None pieces h = absurd (none-some pieces h)
piece_behind piece (Some others) pieces h = (others, refl, same_Some (piece ∷ others) pieces h)

pub add_piece : (fault : Bool) (w : Walk) (words : List Text) (before : Bool) (piece : Piece) (said : Pieces) (rows : List Row)
    → Goes fault w words (before && is_new piece rows) said (with_use piece rows)
    → Goes fault w words before (with_piece piece said) rows
add_piece fault w words before piece said rows g = record {
  clear_is = g.clear_is
      ∙ (and_assoc before (is_new piece rows) (takes_said said (with_use piece rows))
      ∙ ap (λ t. before && t) (sym (takes_piece piece said rows)));
  rows_are = λ pieces e.
      let parts = piece_behind piece said pieces e in
      g.rows_are parts.0 parts.1 ∙ ap (λ (ps : List Piece). with_uses ps rows) parts.2;
}

pub ends_refused : (fault : Bool) (w : Walk) (words : List Text) (before : Bool) (rows : List Row)
    → (fault && end_clear w words) ≡ false → Goes fault w words before None rows
ends_refused fault w words before rows is = record {
  clear_is = is ∙ sym (and_none before);
  rows_are = λ pieces e. absurd (none-some pieces e);
}

pub refused : (fault : Bool) (w : Walk) (words : List Text) (before : Bool) (rows : List Row) → fault ≡ false
    → Goes fault w words before None rows
refused fault w words before rows is = ends_refused fault w words before rows (ap (λ t. t && end_clear w words) is)

-- one word
stepped : (w after : Walk) (word : Text) (words : List Text) (fault before : Bool) (said : Pieces) (rows : List Row)
    → is_clear (turn_fault command_shape [] w word) ≡ fault → walked taken [] w word ≡ after
    → Goes fault after words before said rows → Goes true w (word ∷ words) before said rows
unfolding walk_fault
stepped w after word words fault before said rows turn moved g = record {
  clear_is =
      ap (λ t. t && is_clear (settle_fault taken false (end_of (walked taken [] w word) words)))
      (clear_or (turn_fault command_shape [] w word) (walk_fault command_shape [] (walked taken [] w word) words))
      ∙ (and_assoc (is_clear (turn_fault command_shape [] w word)) (is_clear (walk_fault command_shape [] (walked taken [] w word) words))
      (is_clear (settle_fault taken false (end_of (walked taken [] w word) words)))
      ∙ (ap₂ (λ t x. t && end_clear x words) turn moved ∙ g.clear_is));
  rows_are = λ pieces e. ap (λ x. end_rows x words) moved ∙ g.rows_are pieces e;
}

pub and_true : (t : Bool) → (t && true) ≡ t
and_true true = refl
and_true false = refl

-- what is pending at the end
pub ends : (is_trailing : Bool) (rows : List Row) (p : Pending) (waiting : Waiting)
    → Goes true (stands is_trailing rows (pending_value p) waiting) [] (clear_with p rows) (Some []) (rows_with p rows)
unfolding walk_fault
ends is_trailing rows p waiting = record {
  clear_is = sym (and_true (clear_with p rows));
  rows_are = λ pieces e. ap (λ (ps : List Piece). with_uses ps (rows_with p rows)) (same_Some [] pieces e);
}

-- what a word was met as, and what comes of it
module _ (word : Text) (is_trailing : Bool) (rows : List Row) (pending : Option (Text × List Text)) (waiting : Waiting) (h : Held)
    (step : Step) (fault : Kinds)
    (met : word_met taken [] is_trailing waiting 1 word (held_uses rows pending) ≡ (h, step))
    (found : word_fault command_shape [] is_trailing waiting word (held_uses rows pending) ≡ fault) where
  turn_of : is_clear (turn_fault command_shape [] (stands is_trailing rows pending waiting) word)
      ≡ (is_clear fault && is_clear (step_fault command_shape 1 h step))
  turn_of =
      ap₂ (λ (f : Kinds) (m : Held × Step). is_clear (or_else f (step_fault command_shape 1 m.0 m.1))) found met
      ∙ clear_or fault (step_fault command_shape 1 h step)

  moved_to : walked taken [] (stands is_trailing rows pending waiting) word
      ≡ after_step taken word (stands is_trailing rows pending waiting) h step
  unfolding walked
  moved_to = ap (λ (m : Held × Step). after_step taken word (stands is_trailing rows pending waiting) m.0 m.1) met

  pub turned : (words : List Text) (before : Bool) (said : Pieces) (after : List Row)
      → Goes (is_clear fault && is_clear (step_fault command_shape 1 h step))
      (after_step taken word (stands is_trailing rows pending waiting) h step) words before said after
      → Goes true (stands is_trailing rows pending waiting) (word ∷ words) before said after
  turned words before said after g = stepped _ _ word words _ before said after turn_of moved_to g

-- Names

trails : (t : Bool) → (t || false) ≡ t
trails true = refl
trails false = refl

module _ (word : Text) (words : List Text) (is_trailing : Bool) (rows : List Row) (waiting : Waiting) (said : Pieces) where
  abbrev pub named : Pending → Type 0
  named p =
      Goes (is_clear (step_fault command_shape 1 (held_uses rows (pending_value p)) value))
      (after_step taken word (stands is_trailing rows (pending_value p) waiting) (held_uses rows (pending_value p)) value)
      words (clear_with p rows) (with_piece (Named word) said) (rows_with p rows)

  abbrev pub behind_name : Type 0
  behind_name = (p : Pending) (after : List Row) → name_count p + length words ≤ usize_max
      → Goes true (stands is_trailing after (pending_value p) positional) words (clear_with p after) said (rows_with p after)

  moved : (pending : Option (Text × List Text)) (h : Held) (after : Held) → positional_held taken file_taken word h ≡ after
      → after_step taken word (stands is_trailing rows pending waiting) h value
      ≡ record { held = after; waiting = positional; position = 1; is_trailing = is_trailing; stopped = None }
  moved pending h after is =
      ap (λ o. to_positional taken o word (stands is_trailing rows pending waiting) h) index_file
      ∙ ap₂ (λ (k : Held) (t : Bool). record { held = k; waiting = positional; position = 1; is_trailing = t; stopped = None }) is
      (trails is_trailing)

  fault_of_name : (h : Held) → step_fault command_shape 1 h value ≡ positional_fault taken false file_taken h
  fault_of_name h = ap (λ o. option_map_or (λ a. positional_fault taken false a h) o (stray_fault command_shape)) index_file

  -- what was pending is used before
  settles : (p : Pending) → is_pending file_taken (pending_value p) ≡ false → name_count p + length (word ∷ words) ≤ usize_max
      → behind_name → named p
  settles p other room behind =
      let one : length (word ∷ []) ≤ usize_max = omega (arith, room) in
      let after = rows_with p rows in
      let g = behind (some_names (word ∷ [])) after (omega (arith, room)) in
      let test : (is_pending file_taken (pending_value p) && takes_several file_taken) ≡ false =
      ap (λ t. t && takes_several file_taken) other in
      let fault : clear_with p rows ≡ is_clear (step_fault command_shape 1 (held_uses rows (pending_value p)) value) =
      sym (ap is_clear (fault_of_name (held_uses rows (pending_value p)) ∙ ap (λ t. cond t []
      (settle_fault taken false (held_uses rows (pending_value p)))) test)) in
      let here = moved (pending_value p) (held_uses rows (pending_value p)) (held_uses after (Some (codes "file", word ∷ [])))
      (ap (λ t. pushed (codes "file") word (cond t (held_uses rows (pending_value p)) (settled taken (held_uses rows (pending_value p))))) test) in
      add_piece _ _ words (clear_with p rows) (Named word) said after
      (goes_as (clear_with p rows && true) _ _ _ words (clear_with p rows && clear_with (some_names (word ∷ [])) after) _ said _ _
      (and_true (clear_with p rows) ∙ fault) (sym here) (ap (λ t. clear_with p rows && t) (clear_names (word ∷ []) after one))
      (rows_of_names (word ∷ []) after)
      (guarded (clear_with p rows) true _ words (clear_with (some_names (word ∷ [])) after) said _ g))

  -- one name more
  joins : (names : List Text) → length names + length (word ∷ words) ≤ usize_max → behind_name → named (some_names names)
  joins names room behind =
      let longer : length (names ++ word ∷ []) ≡ length names + 1 = length-append names (word ∷ []) in
      let g = behind (some_names (names ++ word ∷ [])) rows (omega (arith, room, longer)) in
      let fault : true ≡ is_clear (step_fault command_shape 1 (held_uses rows (pending_value (some_names names))) value) =
      sym (ap is_clear (fault_of_name (held_uses rows (pending_value (some_names names))))) in
      let here =
      moved (pending_value (some_names names)) (held_uses rows (pending_value (some_names names)))
      (held_uses rows (Some (codes "file", names ++ word ∷ []))) refl in
      let more = clear_names (names ++ word ∷ []) rows (omega (arith, room, longer)) in
      let had = clear_names names rows (omega (arith, room)) in
      add_piece _ _ words (clear_with (some_names names) rows) (Named word) said (rows_with (some_names names) rows)
      (goes_as true _ _ _ words _ _ said _ _ fault (sym here) (more ∙ sym (ap (λ t. t && true) had))
      (names_more names word rows) g)

  pub names_go : (p : Pending) → name_count p + length (word ∷ words) ≤ usize_max → behind_name → named p
  names_go no_use room behind = settles no_use refl room behind
  names_go (some_names names) room behind = joins names room behind
  names_go (one_value letter v) room behind = settles (one_value letter v) (option_no_file letter) room behind

-- behind `--` all are names
pub trailing_go : (words : List Text) (rows : List Row) (p : Pending) (waiting : Waiting)
    → name_count p + length words ≤ usize_max
    → Goes true (stands true rows (pending_value p) waiting) words (clear_with p rows) (Some (map Named words)) (rows_with p rows)
trailing_go [] rows p waiting room = ends true rows p waiting
trailing_go (word ∷ words) rows p waiting room =
    turned word true rows (pending_value p) waiting (held_uses rows (pending_value p)) value [] refl refl words _ _ _
    (names_go word words true rows waiting (Some (map Named words)) p room
    (λ q after more. trailing_go words after q positional more))
