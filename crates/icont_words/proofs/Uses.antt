-- Pieces as uses of the command's arguments, and what `clap` holds between two words.
use Rattle.std.proofs.Common.{◌≡◌, ◌∙◌, ◌≤◌, ◌+◌, refl, sym, ap, ap₂, ℕ, ◌&&◌, Bool, true, false, not, cond, List, [], ◌∷◌, ◌++◌, length, codes, Option, None, Some, nat_lt, arith, append_assoc}
use Rattle.std.proofs.lemmas.Bool.{le-ltb}
use Rattle.std.specs.Option.{option_map_or}
use Rattle.std.specs.Str.{bytes_eq}
use Rattle.clap.specs.Lexer.{usize_max}
use Rattle.clap.specs.Walk.{Held, Row, Text, has_row, more_values, settled_rows, stronger, used, used_by_id, values_or_missing, with_values}
use Rattle.clap.specs.Kinds.{Kinds, or_else, range_kinds, values_kinds}
use Rattle.clap.specs.Faults.{settle_fault, use_fault}
use Rattle.clap.specs.declared.builder.value_parser.Reading.TheVariants.{AsWritten}
use Rattle.clap.specs.declared.builder.value_parser.ValueParser.TheVariants as vp
use Rattle.clap.specs.declared.parser.matches.ValueSource.{ValueSource}
use Rattle.clap.specs.declared.parser.matches.ValueSource.TheVariants.{DefaultValue, CommandLine}
use Rattle.clap.specs.declared.error.kind.ErrorKind.TheVariants as kind
use Rattle.icont_words.specs.Words.{Letter, Piece, Units, Valued, Named}
use Rattle.icont_words.proofs.LeftToRight.{Pieces, with_piece}
use Rattle.icont_words.proofs.ClapCommand.{letter_id, units_taken, option_taken, file_taken, taken, id_option, id_file}

-- the rows after a piece
abbrev pub with_use : Piece → List Row → List Row
with_use Units rows = used units_taken [] rows
with_use (Valued letter value) rows = used (option_taken letter) (value ∷ []) rows
with_use (Named name) rows = used file_taken (name ∷ []) rows

abbrev pub with_uses : List Piece → List Row → List Row
with_uses [] rows = rows
with_uses (piece ∷ pieces) rows = with_uses pieces (with_use piece rows)

-- the flag and each option may be used once
abbrev pub is_new : Piece → List Row → Bool
is_new Units rows = not (has_row (codes "units") rows)
is_new (Valued letter value) rows = not (has_row (letter_id letter) rows)
is_new (Named name) rows = true

abbrev pub all_new : List Piece → List Row → Bool
all_new [] rows = true
all_new (piece ∷ pieces) rows = is_new piece rows && all_new pieces (with_use piece rows)

-- words that say these pieces are taken
abbrev pub takes_said : Pieces → List Row → Bool
takes_said None rows = false
takes_said (Some pieces) rows = all_new pieces rows

-- No faults

abbrev pub is_clear : Kinds → Bool
is_clear [] = true
is_clear (k ∷ ks) = false

pub clear_or : (a b : Kinds) → is_clear (or_else a b) ≡ (is_clear a && is_clear b)
clear_or [] b = refl
clear_or (k ∷ ks) b = refl

repeated : (t : Bool) → is_clear (or_else [] (or_else (cond (t && true) (kind.ArgumentConflict ∷ []) []) [])) ≡ not t
repeated true = refl
repeated false = refl

pub units_clear : (rows : List Row) → is_clear (use_fault false units_taken [] rows) ≡ is_new Units rows
units_clear rows = repeated (has_row (codes "units") rows)

pub option_clear : (letter : Letter) (value : Text) (rows : List Row)
    → is_clear (use_fault false (option_taken letter) (value ∷ []) rows) ≡ is_new (Valued letter value) rows
option_clear letter value rows = repeated (has_row (letter_id letter) rows)

no_value_fault : (values : List Text) → values_kinds false vp.String values ≡ []
no_value_fault [] = refl
no_value_fault (value ∷ values) = no_value_fault values

nothing_missing : (values : List Text) → values_or_missing file_taken values ≡ values
nothing_missing [] = refl
nothing_missing (value ∷ values) = refl

none_below : (n : ℕ) → nat_lt n 0 ≡ false
none_below n = le-ltb n 0 (omega arith)

in_range : (n : ℕ) → n ≤ usize_max → range_kinds 0 usize_max n ≡ []
in_range n within = rw (none_below n, le-ltb usize_max n within) refl

file_clear : (names : List Text) (rows : List Row) → length names ≤ usize_max → use_fault false file_taken names rows ≡ []
file_clear names rows within =
    ap₂ or_else (in_range (length names) within) (no_value_fault (values_or_missing file_taken names))

-- What is held

-- what was met and is not used yet: nothing, names of files, or an option with its value
pub data Pending : Type 0 where
  no_use : Pending
  some_names : List Text → Pending
  one_value : Letter → Text → Pending

abbrev pub pending_value : Pending → Option (Text × List Text)
pending_value no_use = None
pending_value (some_names names) = Some (codes "file", names)
pending_value (one_value letter value) = Some (letter_id letter, value ∷ [])

abbrev pub name_count : Pending → ℕ
name_count no_use = 0
name_count (some_names names) = length names
name_count (one_value letter value) = 0

abbrev pub held_uses : List Row → Option (Text × List Text) → Held
held_uses rows pending = record { rows = rows; pending = pending; skip = 0 }

-- the rows with what is pending, and whether it may be used
abbrev pub rows_with : Pending → List Row → List Row
rows_with p rows = settled_rows taken (pending_value p) rows

abbrev pub clear_with : Pending → List Row → Bool
clear_with p rows = is_clear (settle_fault taken false (held_uses rows (pending_value p)))

pub rows_of_value : (letter : Letter) (value : Text) (rows : List Row)
    → rows_with (one_value letter value) rows ≡ with_use (Valued letter value) rows
rows_of_value letter value rows = ap (λ o. used_by_id o (value ∷ []) rows) (id_option letter)

pub rows_of_names : (names : List Text) (rows : List Row) → rows_with (some_names names) rows ≡ used file_taken names rows
rows_of_names names rows = ap (λ o. used_by_id o names rows) id_file

pub clear_value : (letter : Letter) (value : Text) (rows : List Row)
    → clear_with (one_value letter value) rows ≡ is_new (Valued letter value) rows
clear_value letter value rows =
    ap (λ o. is_clear (option_map_or (λ a. use_fault false a (value ∷ []) rows) o [])) (id_option letter)
    ∙ option_clear letter value rows

pub clear_names : (names : List Text) (rows : List Row) → length names ≤ usize_max → clear_with (some_names names) rows ≡ true
clear_names names rows within =
    ap (λ o. is_clear (option_map_or (λ a. use_fault false a names rows) o [])) id_file ∙ ap is_clear (file_clear names rows within)

-- an option whose value is due is a fault
pub due_fault : (letter : Letter) (rows : List Row)
    → settle_fault taken false (held_uses rows (Some (letter_id letter, []))) ≡ kind.InvalidValue ∷ []
due_fault letter rows = ap (λ o. option_map_or (λ a. use_fault false a [] rows) o []) (id_option letter)

-- One name more

same_source : (s : Option ValueSource) → stronger s CommandLine ≡ stronger (Some (stronger s CommandLine)) CommandLine
same_source None = refl
same_source (Some CommandLine) = refl
same_source (Some DefaultValue) = refl

abbrev named : List Text → List Row → List Row
named names rows = with_values (codes "file") AsWritten CommandLine names rows

joined : (names : List Text) (name : Text) (r : Row) (rows : List Row)
    → more_values CommandLine (names ++ name ∷ []) r ++ rows
    ≡ (record r {
      values = (r.values ++ names) ++ name ∷ [];
      source = Some (stronger (Some (stronger r.source CommandLine)) CommandLine);
    } ∷ []) ++ rows
joined names name r rows =
    ap₂ (λ (values : List Text) (source : Option ValueSource). record r { values = values; source = source } ∷ rows)
    (sym (append_assoc r.values names (name ∷ []))) (ap Some (same_source r.source))

name_more : (names : List Text) (name : Text) (r : Row) (rows : List Row) (t : Bool) → bytes_eq r.id (codes "file") ≡ t
    → named (names ++ name ∷ []) rows ≡ named (name ∷ []) (named names rows)
    → named (names ++ name ∷ []) (r ∷ rows) ≡ named (name ∷ []) (named names (r ∷ rows))
name_more names name r rows true e behind = rw e (rw e (joined names name r rows))
name_more names name r rows false e behind = rw e (rw e (ap (λ rs. r ∷ rs) behind))

named_more : (names : List Text) (name : Text) (rows : List Row)
    → named (names ++ name ∷ []) rows ≡ named (name ∷ []) (named names rows)
named_more names name [] = refl
named_more names name (r ∷ rows) = name_more names name r rows (bytes_eq r.id (codes "file")) refl (named_more names name rows)

pub names_more : (names : List Text) (name : Text) (rows : List Row)
    → rows_with (some_names (names ++ name ∷ [])) rows ≡ with_use (Named name) (rows_with (some_names names) rows)
names_more names name rows =
    rows_of_names (names ++ name ∷ []) rows
    ∙ ap (λ values. named values rows) (nothing_missing (names ++ name ∷ []))
    ∙ named_more names name rows
    ∙ ap (λ values. named (name ∷ []) (named values rows)) (sym (nothing_missing names))
    ∙ ap (with_use (Named name)) (sym (rows_of_names names rows))

-- One piece more

pub and_assoc : (a b c : Bool) → ((a && b) && c) ≡ (a && (b && c))
and_assoc true b c = refl
and_assoc false b c = refl

pub and_none : (a : Bool) → (a && false) ≡ false
and_none true = refl
and_none false = refl

pub takes_piece : (piece : Piece) (said : Pieces) (rows : List Row)
    → takes_said (with_piece piece said) rows ≡ (is_new piece rows && takes_said said (with_use piece rows))
takes_piece piece None rows = sym (and_none (is_new piece rows))
takes_piece piece (Some pieces) rows = refl
