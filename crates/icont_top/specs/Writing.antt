-- The texts that the code writes.
use Rattle.std.specs.Prelude.{ℕ, List, [], ◌∷◌, ◌++◌, map, string_bytes}
use Rattle.icn_unit.specs.PlainUnits.{UnitRead}
use Rattle.icn_unit.specs.UnitTexts.{decls_text, procs_text}
use Rattle.icont_units.specs.Files.{CommandFile, first_name, second_name}
use Rattle.icont_top.specs.declared.writing.FileToWrite.{FileToWrite}
use Rattle.icont_top.specs.Job.{WrittenFile}

-- a file that is written, as definitions see it
abbrev pub text_seen : FileToWrite → WrittenFile
text_seen text = record { name = string_bytes text.name; bytes = text.bytes.items }

-- the texts to write, each with its name
abbrev pub texts_seen : List FileToWrite → List WrittenFile
texts_seen texts = map text_seen texts

-- the base names of these files
abbrev pub bases : List CommandFile → List (List ℕ)
bases files = map (λ file. file.base) files

-- the two texts of a unit under a base name
abbrev pub unit_written : List ℕ → UnitRead → List WrittenFile
unit_written base unit = (record { name = first_name base; bytes = procs_text unit.procs })
    ∷ (record { name = second_name base; bytes = decls_text unit.decls }) ∷ []

-- those of some units, each under the name at its place, or the empty one where there is none
abbrev pub units_written : List (List ℕ) → List UnitRead → List WrittenFile
units_written bases [] = []
units_written [] (unit ∷ units) = unit_written [] unit ++ units_written [] units
units_written (base ∷ bases) (unit ∷ units) = unit_written base unit ++ units_written bases units
