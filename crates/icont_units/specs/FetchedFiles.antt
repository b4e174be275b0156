-- How the code tells which files are named, and what it made of one.
use Rattle.std.specs.Prelude.{◌≡◌, ◌≢◌, ◌⊎◌, ℕ, ◌+◌, true, List, [], ◌∷◌, ◌++◌, map, take, if◌then◌else◌, Option, Some, None, Result, Ok, Err, IfOk, Vec}
use Rattle.std.specs.List.{list_any}
use Rattle.std.specs.Str.{bytes_eq, is_utf8}
use Rattle.icn_profile.specs.Numbers.{most_bytes_of_ucode}
use Rattle.icn_host.specs.FileMaps.{FileMap}
use Rattle.icn_tree.specs.TreeOf.{declarations_of}
use Rattle.icn_tree.specs.declared.rule.Rule.{Rule}
use Rattle.icn_tree.specs.declared.rule.Rule.TheVariants.{K2}
use Rattle.icn_tree.specs.declared.tree.Place.{Place}
use Rattle.icn_decls.specs.declared.checked.Checked.{Checked}
use Rattle.icn_unit.specs.declared.unit.Unit.{Unit as HeldUnit}
use Rattle.icn_link.specs.Units.{unit_seen}
use Rattle.icn_answer.specs.declared.answer.Answer.{Answer}
use Rattle.icn_answer.specs.declared.answer.Answer.TheVariants.{Missing, BadUcode, Refused, FileFault, NoMemory}
use Rattle.icn_answer.specs.Answers.{IsFault}
use Rattle.icont_units.specs.declared.files.CommandFile.{CommandFile as HeldFile}
use Rattle.icont_units.specs.declared.ucode.UnitTexts.{UnitTexts}
use Rattle.icont_units.specs.Files.{CommandFile, source, ucode}
use Rattle.icont_units.specs.Sources.{ScannedSource, refused_at}
use Rattle.icont_units.specs.Translating.{TokensGive}
use Rattle.icont_units.specs.Units.{FileComes, FromSource, FromUcode, AreJudged, IsAbsent, IsHeld}

-- Files that are named

-- a file of a command, as definitions see it
abbrev pub file_seen : HeldFile → CommandFile
file_seen file = record { kind = file.kind; base = file.base.now }

-- the files of a command, as definitions see them
abbrev pub files_seen : List HeldFile → List CommandFile
files_seen files = map file_seen files

-- those of these files whose base is not known yet, each once
abbrev pub new_files : List (List ℕ) → List CommandFile → List CommandFile
new_files known [] = []
new_files known (file ∷ files) =
    if list_any (bytes_eq file.base) known then new_files known files
    else file ∷ new_files (known ++ file.base ∷ []) files

-- Sources

-- the source of this base is these declarations, or what refuses it is answered, or a fault
abbrev pub IsSource : FileMap → List ℕ → Result Checked Answer → Type 0
IsSource files base (Ok checked) =
    FileComes files (source base) (Ok (FromSource base (declarations_of checked.text)))
IsSource files base (Err answer) = IsFault answer ⊎ FileComes files (source base) (Err answer)

-- the tokens are this file, or their refusal is answered, or want of memory
abbrev pub AreFile : ScannedSource → Result Checked Answer → Type 0
AreFile scan (Ok checked) = TokensGive scan.tokens (Ok (declarations_of checked.text))
AreFile scan (Err answer) = (answer ≡ NoMemory)
    ⊎ ((rule : Rule) × ((place : Place)
    × (TokensGive scan.tokens (Err (rule, place)) × (answer ≡ refused_at scan.names rule place))))

-- Texts

-- the first bytes of a text, one more than it may have: their number tells whether it has more
abbrev pub first_bytes : List ℕ → List ℕ
first_bytes text = take (most_bytes_of_ucode + 1) text

-- the text of this name has these first bytes, or it is not there, or a fault
abbrev pub IsText : {Z : Type 0} → Option (List ℕ) → List ℕ → Result (Vec ℕ Z) Answer → Type 0
IsText held name (Ok text) = (bytes : List ℕ) × ((held ≡ Some bytes) × (text.items ≡ first_bytes bytes))
IsText held name (Err answer) = IsFault answer ⊎ ((held ≡ None) × (answer ≡ Missing name))

-- both texts have these first bytes, or one is not there, or a fault
abbrev pub AreTexts : Result (List ℕ × List ℕ) (List ℕ) → Result UnitTexts Answer → Type 0
AreTexts held (Ok texts) = (first : List ℕ) × ((second : List ℕ) × ((held ≡ Ok (first, second))
    × ((texts.first.items ≡ first_bytes first) × (texts.second.items ≡ first_bytes second))))
AreTexts held (Err answer) =
    IsFault answer ⊎ ((name : List ℕ) × ((held ≡ Err name) × (answer ≡ Missing name)))

-- Units

-- what two texts come to, or want of memory
abbrev pub IsJudged : List ℕ → List ℕ → List ℕ → Result HeldUnit Answer → Type 0
IsJudged base first second (Ok unit) = AreJudged base first second (Ok (unit_seen unit))
IsJudged base first second (Err answer) = (answer ≡ NoMemory) ⊎ AreJudged base first second (Err answer)

-- the unit of this base that the words name, or what refuses it, or a fault
abbrev pub IsNamedUnit : FileMap → List ℕ → Result HeldUnit Answer → Type 0
IsNamedUnit files base (Ok unit) = FileComes files (ucode base) (Ok (FromUcode (unit_seen unit)))
IsNamedUnit files base (Err answer) = IsFault answer ⊎ FileComes files (ucode base) (Err answer)

-- both texts of the unit of this base are there, and come to this
abbrev pub HeldAre : FileMap → List ℕ → (List ℕ → List ℕ → Type 0) → Type 0
HeldAre files base claim =
    (first : List ℕ) × ((second : List ℕ) × (IsHeld files base first second × claim first second))

-- the unit of this base that is linked, or none, or what refuses it, or a fault
abbrev pub IsLinkedUnit : FileMap → List ℕ → Result (Option HeldUnit) Answer → Type 0
IsLinkedUnit files base (Ok (Some unit)) =
    HeldAre files base (λ first second. AreJudged base first second (Ok (unit_seen unit)))
IsLinkedUnit files base (Ok None) = IsAbsent files base
IsLinkedUnit files base (Err answer) =
    IsFault answer ⊎ HeldAre files base (λ first second. AreJudged base first second (Err answer))

-- a unit has this base name
abbrev pub IsUnitOf : List ℕ → Result HeldUnit Answer → Type 0
IsUnitOf base result = IfOk result (λ unit. unit.name ≡ base)

-- a unit that was found has this name
abbrev pub IsUnitOfSome : List ℕ → Result (Option HeldUnit) Answer → Type 0
IsUnitOfSome base (Ok (Some unit)) = unit.name ≡ base
IsUnitOfSome base (Ok None) = Unit {0}
IsUnitOfSome base (Err answer) = Unit {0}

-- a text of a linked unit was looked for, and is not there
abbrev pub IsLost : List ℕ → Result (Option HeldUnit) Answer → Type 0
IsLost base (Ok (Some unit)) = ⊥
IsLost base (Ok None) = is_utf8 base ≡ true
IsLost base (Err answer) = ⊥

-- Which answers there are

-- why a text was not had
abbrev pub IsOfTexts : Answer → Type 0
IsOfTexts (Missing name) = Unit {0}
IsOfTexts FileFault = Unit {0}
IsOfTexts NoMemory = Unit {0}
IsOfTexts _ = ⊥

-- what refuses two texts, or want of memory
abbrev pub IsOfJudged : Answer → Type 0
IsOfJudged (BadUcode name rule) = Unit {0}
IsOfJudged NoMemory = Unit {0}
IsOfJudged _ = ⊥

-- what refuses a unit that is linked, or a fault
abbrev pub IsOfLinked : Answer → Type 0
IsOfLinked (BadUcode name rule) = Unit {0}
IsOfLinked FileFault = Unit {0}
IsOfLinked NoMemory = Unit {0}
IsOfLinked _ = ⊥

-- what refuses a unit that is named, or a fault
abbrev pub IsOfNamed : Answer → Type 0
IsOfNamed (Missing name) = Unit {0}
IsOfNamed (BadUcode name rule) = Unit {0}
IsOfNamed FileFault = Unit {0}
IsOfNamed NoMemory = Unit {0}
IsOfNamed _ = ⊥

-- What refuses a source or a unit, or a fault. It is no missing file that is linked.
abbrev pub IsOfLoading : Answer → Type 0
IsOfLoading (Refused file line rule) = rule ≢ K2
IsOfLoading (Missing name) = Unit {0}
IsOfLoading (BadUcode name rule) = Unit {0}
IsOfLoading FileFault = Unit {0}
IsOfLoading NoMemory = Unit {0}
IsOfLoading _ = ⊥
