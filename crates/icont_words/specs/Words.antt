-- The words of the command line.
use Rattle.std.specs.Prelude.{◌≡◌, ◌≢◌, ℕ, ◌==◌, ◌||◌, ◌&&◌, ◌≤◌, Bool, true, false, not, is_some, List, [], ◌∷◌, map, length, Option, None, Some, if◌then◌else◌, codes, unwrap_or, count_by}
use Rattle.std.specs.Option.{option_map, option_and_then, option_map_or}
use Rattle.std.specs.Str.{bytes_eq}
use Rattle.icn_profile.specs.Numbers.{greatest_program, most_turns}
use Rattle.icn_text.specs.WordNumbers.{number_within}

-- Pieces

-- an option that has a value: `-o`, `-n` and `-g`
pub data Letter : Type 0 where
  Image : Letter
  Turns : Letter
  Number : Letter

-- what is said by words: `-c`, an option with its value, or the name of a file
pub data Piece : Type 0 where
  Units : Piece
  Valued : Letter → List ℕ → Piece
  Named : List ℕ → Piece

-- the byte of an option's letter
abbrev pub letter_byte : Letter → ℕ
letter_byte Image = 111
letter_byte Turns = 110
letter_byte Number = 103

-- the option of which a byte is the letter
abbrev pub letter_of : ℕ → Option Letter
letter_of b = if b == 111 then Some Image
    else (if b == 110 then Some Turns else (if b == 103 then Some Number else None))

-- `-` alone is no option
abbrev pub is_dashed : List ℕ → Bool
is_dashed [] = false
is_dashed (b ∷ []) = false
is_dashed (b ∷ c ∷ rest) = b == 45

-- the value that stands in the word of its option, where one `=` may be between
abbrev pub value_in_word : ℕ → List ℕ → List ℕ
value_in_word b rest = if b == 61 then rest else b ∷ rest

-- The words say these pieces. The flag `-c` may share a word with what follows it, so `-co x` is `-c -o x`; behind `--` all are names.
-- (45 is `-`, and 99 is `c`.)
pub data Says : List (List ℕ) → List Piece → Type 0 where
  says_nothing : Says [] []
  all_names : (words : List (List ℕ)) → Says ((45 ∷ 45 ∷ []) ∷ words) (map Named words)
  a_name : (word : List ℕ) (words : List (List ℕ)) (pieces : List Piece) → is_dashed word ≡ false
      → Says words pieces
      → Says (word ∷ words) (Named word ∷ pieces)
  a_flag : (words : List (List ℕ)) (pieces : List Piece) → Says words pieces
      → Says ((45 ∷ 99 ∷ []) ∷ words) (Units ∷ pieces)
  flag_before : (b : ℕ) (rest : List ℕ) (words : List (List ℕ)) (pieces : List Piece) → b ≢ 45
      → Says ((45 ∷ b ∷ rest) ∷ words) pieces → Says ((45 ∷ 99 ∷ b ∷ rest) ∷ words) (Units ∷ pieces)
  value_within : (letter : Letter) (a b : ℕ) (rest : List ℕ) (words : List (List ℕ)) (pieces : List Piece)
      → letter_of a ≡ Some letter
      → Says words pieces → Says ((45 ∷ a ∷ b ∷ rest) ∷ words) (Valued letter (value_in_word b rest) ∷ pieces)
  value_behind : (letter : Letter) (a : ℕ) (value : List ℕ) (words : List (List ℕ)) (pieces : List Piece)
      → letter_of a ≡ Some letter
      → is_dashed value ≡ false → Says words pieces
      → Says ((45 ∷ a ∷ []) ∷ value ∷ words) (Valued letter value ∷ pieces)

-- What the pieces say together

-- the piece is `-c`
abbrev pub is_units : Piece → Bool
is_units Units = true
is_units (Valued letter value) = false
is_units (Named name) = false

-- both are the same option
abbrev pub same_letter : Letter → Letter → Bool
same_letter a b = letter_byte a == letter_byte b

-- the values of an option
abbrev pub values : Letter → List Piece → List (List ℕ)
values letter [] = []
values letter (Units ∷ pieces) = values letter pieces
values letter (Valued other value ∷ pieces) =
    if same_letter letter other then value ∷ values letter pieces else values letter pieces
values letter (Named name ∷ pieces) = values letter pieces

-- the names of files, in their order
abbrev pub names_said : List Piece → List (List ℕ)
names_said [] = []
names_said (Units ∷ pieces) = names_said pieces
names_said (Valued letter value ∷ pieces) = names_said pieces
names_said (Named name ∷ pieces) = name ∷ names_said pieces

-- the flag and each option are said once, or not at all
pub record AreSaidOnce (pieces : List Piece) : Type 0 where
  pub units : count_by is_units pieces ≤ 1
  pub options : (letter : Letter) → length (values letter pieces) ≤ 1

-- The command and the arguments

-- what stands before the first `-x`
abbrev pub before_run : List (List ℕ) → List (List ℕ)
before_run [] = []
before_run (word ∷ words) = if bytes_eq word (codes "-x") then [] else word ∷ before_run words

-- what stands behind it, where it is there
abbrev pub behind_run : List (List ℕ) → Option (List (List ℕ))
behind_run [] = None
behind_run (word ∷ words) = if bytes_eq word (codes "-x") then Some words else behind_run words

-- the program's own name stands first
abbrev pub own_words : List (List ℕ) → List (List ℕ)
own_words [] = []
own_words (program ∷ words) = words

-- Orders

-- what is said: that units are asked for, the texts of the options, the names of files, and the arguments of a run
pub record Order : Type 0 where
  pub units : Bool
  pub image : Option (List ℕ)
  pub turns : Option (List ℕ)
  pub number : Option (List ℕ)
  pub names : List (List ℕ)
  pub run : Option (List (List ℕ))

-- the first of some texts, if there is one
abbrev pub first : List (List ℕ) → Option (List ℕ)
first [] = None
first (text ∷ texts) = Some text

-- `-c` is said
abbrev pub has_units : List Piece → Bool
has_units pieces = not (count_by is_units pieces == 0)

-- the order that pieces say, with the words of the run, if a run is asked for
abbrev pub order_of : List Piece → Option (List (List ℕ)) → Order
order_of pieces run = record {
  units = has_units pieces;
  image = first (values Image pieces);
  turns = first (values Turns pieces);
  number = first (values Number pieces);
  names = names_said pieces;
  run = run;
}

-- the bound of turns stands at the greatest number where none is said
abbrev pub turns_of : List ℕ → Option ℕ
turns_of text = number_within 0 most_turns text

-- the number of a program that is made by its number, from 1 on
abbrev pub number_of : List ℕ → Option ℕ
number_of text = number_within 1 greatest_program text

-- a text is said, and it is none of the numbers that are read so
abbrev pub is_wrong : (List ℕ → Option ℕ) → Option (List ℕ) → Bool
is_wrong read None = false
is_wrong read (Some text) = not (is_some (read text))

-- a file is named
abbrev pub has_names : Order → Bool
has_names order = not (length order.names == 0)

-- `-c` goes with neither `-o` nor `-x`, and `-g` with none of `-c`, `-o`, `-x` and no file
abbrev pub units_with_others : Order → Bool
units_with_others order = order.units && (is_some order.image || is_some order.run)

-- `-g` is said beside one of those
abbrev pub number_with_others : Order → Bool
number_with_others order =
    is_some order.number && (order.units || (is_some order.image || (is_some order.run || has_names order)))

-- The way in which an order is wrong: a number is out of its form or range; what is said does not go together; or there is nothing
-- to do.
abbrev pub wrong_kind : Order → Option ℕ
wrong_kind order =
    if is_wrong turns_of order.turns || is_wrong number_of order.number then Some 4
    else (if units_with_others order || number_with_others order then Some 6
    else (if not (has_names order) && not (is_some order.number) then Some 2 else None))

-- Tasks

-- a run: the arguments, and the bound of turns
pub record Run : Type 0 where
  pub arguments : List (List ℕ)
  pub turns : ℕ

-- What is to be done: files are translated to units; or they are linked, to an image that may have a name of its own, and perhaps run;
-- or the program of a number is made, and run under a bound of turns.
pub data Task : Type 0 where
  Translate : List (List ℕ) → Task
  Link : List (List ℕ) → Option (List ℕ) → Option Run → Task
  Generate : ℕ → ℕ → Task

-- the bound of turns that is said, or the greatest
abbrev pub bound_of : Order → ℕ
bound_of order = unwrap_or (option_and_then turns_of order.turns) most_turns

-- a run with these arguments under that bound
abbrev pub run_of : Order → List (List ℕ) → Run
run_of order arguments = record { arguments = arguments; turns = bound_of order }

-- what is to be done with files: they are translated where `-c` is said, else linked
abbrev pub files_task : Order → Task
files_task order = if order.units then Translate order.names
    else Link order.names order.image (option_map (run_of order) order.run)

-- of an order that is not wrong
abbrev pub task_of : Order → Task
task_of order = option_map_or (λ number. Generate number (bound_of order))
    (option_and_then number_of order.number) (files_task order)

-- what the words come to: a task, or the kind of what is wrong with them
pub data WordsReading : Type 0 where
  Asks : Task → WordsReading
  Faulty : ℕ → WordsReading

-- the kind of what is wrong with an order, or its task
abbrev pub order_reading : Order → WordsReading
order_reading order = option_map_or (λ kind. Faulty kind) (wrong_kind order) (Asks (task_of order))

-- these pieces are what the words before the first `-x` say
pub record AreSaid (words : List (List ℕ)) (pieces : List Piece) : Type 0 where
  pub said : Says (before_run (own_words words)) pieces
  pub once : AreSaidOnce pieces

-- What the words come to. They say no pieces, or some of them twice; or the pieces are judged.
pub data ComeTo (words : List (List ℕ)) : WordsReading → Type 0 where
  unsaid : ((pieces : List Piece) → AreSaid words pieces → ⊥) → ComeTo words (Faulty 1)
  said : (pieces : List Piece) → AreSaid words pieces
      → ComeTo words (order_reading (order_of pieces (behind_run (own_words words))))
