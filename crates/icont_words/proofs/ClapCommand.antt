-- The command as `clap` builds it, and what it finds of its arguments.
use Rattle.std.proofs.Common.{◌≡◌, ◌≢◌, refl, sym, ℕ, ◌==◌, Bool, true, false, List, [], ◌∷◌, codes, None, Some}
use Rattle.std.proofs.lemmas.Bool.{eqb-true}
use Rattle.std.specs.Str.{bytes_eq}
use Rattle.clap.specs.Walk.{Row, Rule, Text, arg_by_id, arg_by_index, arg_by_long, arg_by_short}
use Rattle.clap.specs.Simple.{App, Shape, built, filled, new_shape, with_index}
use Rattle.clap.specs.Faults.{is_simple_and_free, check_fault}
use Rattle.clap.proofs.OnLiterals.{clap_on_literals}
use Rattle.icont_words.specs.Words.{Letter, Image, Turns, Number, letter_byte}
use Rattle.icont_words.specs.Command.{units_rule, option_rule, file_rule, icont_app}

-- the name of an option in `clap`'s command
abbrev pub letter_id : Letter → Text
letter_id Image = codes "image"
letter_id Turns = codes "turns"
letter_id Number = codes "number"

abbrev pub units_taken : Rule
units_taken = filled units_rule

abbrev pub option_taken : Letter → Rule
option_taken letter = filled (option_rule (letter_id letter) (letter_byte letter))

abbrev pub file_taken : Rule
file_taken = with_index 1 (filled file_rule)

abbrev pub rules_taken : List Rule
rules_taken = units_taken ∷ option_taken Image ∷ option_taken Turns ∷ option_taken Number ∷ file_taken ∷ []

-- the same list, out of sight
unfoldable pub taken : List Rule
taken = rules_taken

pub taken_is : taken ≡ rules_taken
unfolding taken
taken_is = refl

abbrev pub shape_with : List Rule → Shape
shape_with rules =
    record (new_shape (codes "icont")) {
      rules = rules;
      disable_help_flag = true;
      disable_help_subcommand = true;
      is_built =
          true;
    }

abbrev pub command_shape : Shape
command_shape = shape_with taken

abbrev pub clap_command : App
clap_command = record { top = command_shape; subs = [] }

pub app_built : built icont_app ≡ clap_command
unfolding taken
app_built = refl

pub is_free : is_simple_and_free icont_app ≡ true
unfolding clap_on_literals
is_free = refl

pub short_units : arg_by_short taken 99 ≡ Some units_taken
unfolding taken
short_units = refl

pub short_option : (letter : Letter) → arg_by_short taken (letter_byte letter) ≡ Some (option_taken letter)
unfolding taken
short_option Image = refl
short_option Turns = refl
short_option Number = refl

unequal : (a b : ℕ) (t : Bool) → (a == b) ≡ t → b ≢ a → t ≡ false
unequal a b true e other = absurd (other (sym (eqb-true a b e)))
unequal a b false e other = refl

pub short_none : (x : ℕ) → x ≢ 99 → ((letter : Letter) → x ≢ letter_byte letter) → arg_by_short taken x ≡ None
unfolding taken
short_none x no_flag no_letter =
    let units : (99 == x) ≡ false = unequal 99 x (99 == x) refl no_flag in
    let image : (111 == x) ≡ false = unequal 111 x (111 == x) refl (no_letter Image) in
    let turns : (110 == x) ≡ false = unequal 110 x (110 == x) refl (no_letter Turns) in
    let number : (103 == x) ≡ false = unequal 103 x (103 == x) refl (no_letter Number) in
    rw (units, image, turns, number) refl

pub long_none : (name : Text) → arg_by_long taken name ≡ None
unfolding taken
long_none name = refl

pub index_file : arg_by_index taken 1 ≡ Some file_taken
unfolding taken
index_file = refl

pub id_option : (letter : Letter) → arg_by_id taken (letter_id letter) ≡ Some (option_taken letter)
unfolding taken
id_option Image = refl
id_option Turns = refl
id_option Number = refl

pub id_file : arg_by_id taken (codes "file") ≡ Some file_taken
unfolding taken
id_file = refl

pub option_no_file : (letter : Letter) → bytes_eq (letter_id letter) (codes "file") ≡ false
option_no_file Image = refl
option_no_file Turns = refl
option_no_file Number = refl

pub same_option : (letter : Letter) → bytes_eq (letter_id letter) (letter_id letter) ≡ true
same_option Image = refl
same_option Turns = refl
same_option Number = refl

pub nothing_wanted : (rows : List Row) → check_fault command_shape rows false ≡ []
unfolding taken
nothing_wanted rows = refl
