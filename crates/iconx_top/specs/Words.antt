-- What the words of the command ask for.
use Rattle.std.specs.Prelude.{⊤, ℕ, Bool, false, List, [], ◌∷◌, codes, ◌==◌, Option, None, Some, if◌then◌else◌}
use Rattle.std.specs.Option.{option_map}
use Rattle.std.specs.Str.{bytes_eq}
use Rattle.icn_profile.specs.Numbers.{most_cells, most_levels, most_strings, most_turns}
use Rattle.icn_value.specs.Limited.{Bounds, default_limits}
use Rattle.iconx_top.specs.declared.words.Limit.{Limit}
use Rattle.iconx_top.specs.declared.words.Limit.TheVariants.{Turns, Strings, Cells, Levels}
use Rattle.icn_text.specs.WordNumbers.{number_within}

-- a run of an image under these limits with these arguments; under a new name the second version of an image; or the way in which the first
-- wrong word is wrong
pub data WordsReading : Type 0 where
  Asks : Bounds → List ℕ → List (List ℕ) → WordsReading
  Migrates : List ℕ → List ℕ → WordsReading
  Faulty : ℕ → WordsReading

-- the limit that an option sets, if the word is one
abbrev pub option_of : List ℕ → Option Limit
option_of word =
    if bytes_eq word (codes "-n") then Some Turns
    else (if bytes_eq word (codes "-s") then Some Strings
    else (if bytes_eq word (codes "-b") then Some Cells
    else (if bytes_eq word (codes "-l") then Some Levels else None)))

-- the limits with this one as a word says it
abbrev pub with_limit : Limit → Bounds → List ℕ → Option Bounds
with_limit Turns bounds text =
    option_map (λ n. record bounds { turns = n }) (number_within 0 most_turns text)
with_limit Strings bounds text =
    option_map (λ n. record bounds { strings = n }) (number_within 0 most_strings text)
with_limit Cells bounds text = option_map (λ n. record bounds { cells = n }) (number_within 0 most_cells text)
with_limit Levels bounds text =
    option_map (λ n. record bounds { levels = n }) (number_within 1 most_levels text)

-- the word begins with `-`
abbrev pub is_dashed : List ℕ → Bool
is_dashed [] = false
is_dashed (b ∷ rest) = b == 45

-- the image, and the arguments behind it
abbrev pub image_asked : Bounds → List ℕ → List (List ℕ) → WordsReading
image_asked bounds word words = if is_dashed word then Faulty 5 else Asks bounds word words

-- where no word stands behind it: the image, or an option that lacks its value
abbrev pub last_word : Bounds → List ℕ → Option Limit → WordsReading
last_word bounds word None = image_asked bounds word []
last_word bounds word (Some option) = Faulty 3

-- a value that is no number of its range is faulty, and else the words go on with the limits
abbrev pub or_faulty : Option Bounds → (Bounds → WordsReading) → WordsReading
or_faulty None next = Faulty 4
or_faulty (Some bounds) next = next bounds

-- where words stand behind it: the image with its arguments, or an option with its value
abbrev pub two_words : Bounds → List ℕ → List ℕ → List (List ℕ) → Option Limit
    → (Bounds → WordsReading) → WordsReading
two_words bounds word value words None next = image_asked bounds word (value ∷ words)
two_words bounds word value words (Some option) next = or_faulty (with_limit option bounds value) next

-- While the next word is an option, the word after it is its value, and a later one replaces an earlier. Then the image stands.
abbrev pub options : Bounds → List (List ℕ) → WordsReading
options bounds [] = Faulty 2
options bounds (word ∷ []) = last_word bounds word (option_of word)
options bounds (word ∷ value ∷ words) =
    two_words bounds word value words (option_of word) (λ next. options next words)

-- Behind `-m` stand the new name, whatever it is, and the image, and nothing more.
abbrev pub migration : List (List ℕ) → WordsReading
migration [] = Faulty 3
migration (new ∷ []) = Faulty 2
migration (new ∷ image ∷ []) = Migrates new image
migration (new ∷ image ∷ word ∷ words) = Faulty 7

-- `-m` counts only as the first word behind the program's own name
abbrev pub words_behind : List (List ℕ) → WordsReading
words_behind [] = Faulty 2
words_behind (word ∷ words) =
    if bytes_eq word (codes "-m") then migration words else options default_limits (word ∷ words)

-- the program's own name stands first
abbrev pub words_reading : List (List ℕ) → WordsReading
words_reading [] = Faulty 2
words_reading (program ∷ words) = words_behind words

-- the image that words name, where they are not faulty
abbrev pub image_named : WordsReading → Option (List ℕ)
image_named (Asks bounds name arguments) = Some name
image_named (Migrates new name) = Some name
image_named (Faulty kind) = None

-- its name, as lines have it
abbrev pub image_name : WordsReading → List ℕ
image_name (Asks bounds name arguments) = name
image_name (Migrates new name) = name
image_name (Faulty kind) = []

-- the words ask for a file to be written
abbrev pub AsksToWrite : WordsReading → Type 0
AsksToWrite (Asks bounds name arguments) = ⊥
AsksToWrite (Migrates new name) = ⊤
AsksToWrite (Faulty kind) = ⊥
