-- What the definition of the given lines means, in other words.
use Rattle.std.specs.Prelude.{◌≡◌, ◌≤◌, ◌+◌, ℕ, true, List, [], ◌∷◌, length, Some, Result, Ok, Err}
use Rattle.icn_profile.specs.Numbers.{most_bytes_of_source}
use Rattle.icn_host.specs.FileMaps.{FileMap}
use Rattle.icn_prep.specs.declared.fault.PrepFault.{PrepFault}
use Rattle.icn_prep.specs.Answers.{IsTextFault}
use Rattle.icn_prep.specs.FileLines.{lines_of}
use Rattle.icn_prep.specs.PlainFiles.{has_no_directive, numbered_lines}
use Rattle.icn_prep.specs.declared.literal.LiteralState.{LiteralState}
use Rattle.icn_prep.specs.Replacement.{replace_words}
use Rattle.icn_prep.specs.SourceLines.{PreprocessedSource, source_lines}
use Rattle.icn_prep.specs.DefinedNames.{Texts, no_texts, with_text, without_text}

-- files and a name have one outcome, and no other
abbrev pub OneOutcome : Type 0
OneOutcome = (files : FileMap) (name : List ℕ)
    → (outcome : Result PreprocessedSource PrepFault) × (source_lines files name ≡ outcome)
    × ((other : Result PreprocessedSource PrepFault) → source_lines files name ≡ other → other ≡ outcome)

-- a file without directives, in which no name can be defined, gives its own lines, numbered from 1
abbrev pub OwnLines : Type 0
OwnLines =
    (files : FileMap) (name bytes : List ℕ) → files name ≡ Some bytes → length bytes ≤ most_bytes_of_source
    → has_no_directive (lines_of bytes) ≡ true
    → source_lines files name ≡ Ok (record { names = name ∷ []; lines = numbered_lines 0 1 (lines_of bytes) })

-- where there are no lines, the file is missing or a rule is broken
abbrev pub TextFaults : Type 0
TextFaults = (files : FileMap) (name : List ℕ) (fault : PrepFault) → source_lines files name ≡ Err fault
    → IsTextFault fault

-- texts that `$define` and `$undef` make
pub data AreDefinedTexts : Texts → Type 0 where
  none : AreDefinedTexts no_texts
  defined : (texts : Texts) (name text : List ℕ) → AreDefinedTexts texts
      → AreDefinedTexts (with_text texts name text)
  undefined_in : (texts : Texts) (name : List ℕ) → AreDefinedTexts texts
      → AreDefinedTexts (without_text texts name)

-- words are counted down in a replacement so that it ends by its form alone: where more of them are allowed than names have
-- a text, each line is replaced in the same way
abbrev pub CountNeverBinds : Type 0
CountNeverBinds = (texts : Texts) → AreDefinedTexts texts → (more : ℕ) (state : LiteralState) (line : List ℕ)
    → replace_words (texts.count + more) texts.text_of state line
    ≡ replace_words texts.count texts.text_of state line
