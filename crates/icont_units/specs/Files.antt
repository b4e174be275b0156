-- The files that the words name.
use Rattle.std.specs.Prelude.{ℕ, ◌-◌, Bool, true, false, List, ◌++◌, filter, map, length, take, codes, nat_eq, if◌then◌else◌, Option, Some, None}
use Rattle.std.specs.List.{ends_with}
use Rattle.std.specs.Option.{option_map_or}
use Rattle.std.specs.Str.{bytes_eq}
use Rattle.law_simulation.specs.Mentions.{firsts}
use Rattle.icont_units.specs.declared.files.FileKind.{FileKind}
use Rattle.icont_units.specs.declared.files.FileKind.TheVariants.{Source, Ucode}

-- a file of a command: what it is, and its base name
pub record CommandFile : Type 0 where
  pub kind : FileKind
  pub base : List ℕ

-- what stands before a suffix, where a name has it
abbrev pub base_before : List ℕ → List ℕ → Option (List ℕ)
base_before name suffix =
    if ends_with nat_eq name suffix then Some (take (length name - length suffix) name) else None

-- a source of this base
abbrev pub source : List ℕ → CommandFile
source base = record { kind = Source; base = base }

-- the ucode of this base
abbrev pub ucode : List ℕ → CommandFile
ucode base = record { kind = Ucode; base = base }

-- of a name that does not end in `.icn`: without any suffix it is the base of a source
abbrev pub file_without_icn : List ℕ → CommandFile
file_without_icn name = option_map_or ucode (base_before name (codes ".u1"))
    (option_map_or ucode (base_before name (codes ".u2")) (source name))

-- the file that a word names: a source by `.icn` or without a suffix, ucode by `.u1` or `.u2`
abbrev pub file_named : List ℕ → CommandFile
file_named name = option_map_or source (base_before name (codes ".icn")) (file_without_icn name)

-- two files of one base are one unit
abbrev pub same_base : CommandFile → CommandFile → Bool
same_base a b = bytes_eq a.base b.base

-- each base once, where it is named first
abbrev pub files_named : List (List ℕ) → List CommandFile
files_named names = firsts same_base (map file_named names)

-- a source, and no ucode
abbrev pub is_source_file : FileKind → Bool
is_source_file Source = true
is_source_file Ucode = false

-- those that are sources
abbrev pub sources_in : List CommandFile → List CommandFile
sources_in files = filter (λ file. is_source_file file.kind) files

-- The names under which a file stands in the store

-- the name of a source in the store
abbrev pub source_name : List ℕ → List ℕ
source_name base = base ++ codes ".icn"

-- the two texts of a unit
abbrev pub first_name : List ℕ → List ℕ
first_name base = base ++ codes ".u1"

-- the name of the second text of a unit, of its declarations
abbrev pub second_name : List ℕ → List ℕ
second_name base = base ++ codes ".u2"
