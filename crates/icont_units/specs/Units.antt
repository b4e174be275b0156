-- The units of a command: those of the files that are named, and those that they link.
use Rattle.std.specs.Prelude.{◌≡◌, ◌≤◌, ◌<◌, ℕ, Bool, true, false, List, [], ◌∷◌, ◌++◌, map, nat_lt, length, slice_index_or, Option, None, Some, Result, Ok, Err, if◌then◌else◌}
use Rattle.std.specs.List.{flat_map, list_any}
use Rattle.std.specs.Str.{bytes_eq, is_utf8}
use Rattle.icn_profile.specs.Numbers.{most_bytes_of_ucode}
use Rattle.icn_host.specs.FileMaps.{FileMap}
use Rattle.icn_tree.specs.declared.rule.Rule.{Rule}
use Rattle.icn_tree.specs.declared.rule.Rule.TheVariants.{U8}
use Rattle.icn_tree.specs.declared.rule.Rule.TheVariants as Rules
use Rattle.icn_tree.specs.declared.tree.Place.{Place}
use Rattle.icn_tree.specs.Trees.{Declaration}
use Rattle.icn_unit.specs.PlainUnits.{PlainDecl, Global, Procedure, Link, Invocable, Record, UnitRead}
use Rattle.icn_unit.specs.UnitTexts.{decls_text, procs_text}
use Rattle.icn_ucode.specs.UnitReading.{UnitOutcome, Whole, Faulty, unit_read}
use Rattle.icn_translate.specs.FileUnits.{translated_unit}
use Rattle.icn_link.specs.declared.fault.LinkFault.{LinkFault}
use Rattle.icn_link.specs.declared.fault.LinkFault.TheVariants.{K1, K2, K3, K4, NoMemory}
use Rattle.icn_link.specs.LinkFaults.{base_of as linked_base, unit_names}
use Rattle.icn_answer.specs.declared.answer.Answer.{Answer}
use Rattle.icn_answer.specs.declared.answer.Answer.TheVariants.{Refused, Missing, BadUcode}
use Rattle.icont_units.specs.Sources.{ScannedSource, refused_at, source_read}
use Rattle.icont_units.specs.Translating.{TokensGive}
use Rattle.icont_units.specs.Files.{CommandFile, source, ucode, source_name, first_name, second_name}

-- a unit with what it was made of: a source, as its declarations, or ucode
pub data Member : Type 0 where
  FromSource : List ℕ → List Declaration → Member
  FromUcode : UnitRead → Member

-- the unit of a member: the translation of its source, or its ucode itself
abbrev pub unit_of : Member → UnitRead
unit_of (FromSource base file) = translated_unit base file
unit_of (FromUcode unit) = unit

-- the units of these members
abbrev pub units_of : List Member → List UnitRead
units_of members = map unit_of members

-- Units from ucode

-- the two texts of a unit; or the name of the one that is not there, the first before the second
abbrev pub second_text : List ℕ → List ℕ → Option (List ℕ) → Result (List ℕ × List ℕ) (List ℕ)
second_text base first None = Err (second_name base)
second_text base first (Some second) = Ok (first, second)

-- the two texts where both are there, or the name of the first that is not
abbrev pub both_texts : List ℕ → Option (List ℕ) → Option (List ℕ) → Result (List ℕ × List ℕ) (List ℕ)
both_texts base None second = Err (first_name base)
both_texts base (Some first) second = second_text base first second

-- the two texts of the unit of a base in the store, or the name of the first that is not there
abbrev pub texts_held : FileMap → List ℕ → Result (List ℕ × List ℕ) (List ℕ)
texts_held files base = both_texts base (files (first_name base)) (files (second_name base))

-- the name of the text that is faulty, the first or the second
abbrev pub faulty_name : List ℕ → Bool → List ℕ
faulty_name base second = if second then second_name base else first_name base

-- a unit that was read, or the answer that names its faulty text and the rule
abbrev pub unit_found : List ℕ → UnitOutcome → Result UnitRead Answer
unit_found base (Whole unit) = Ok unit
unit_found base (Faulty rule second) = Err (BadUcode (faulty_name base second) rule)

-- a text of ucode with more bytes than the profile allows
abbrev pub is_too_long : List ℕ → Bool
is_too_long text = nat_lt most_bytes_of_ucode (length text)

-- What two texts come to. Neither has over 268435456 bytes, which is looked at before both are read.
pub data AreJudged (base first second : List ℕ) : Result UnitRead Answer → Type 0 where
  first_too_long : most_bytes_of_ucode < length first
      → AreJudged base first second (Err (BadUcode (first_name base) U8))
  second_too_long : length first ≤ most_bytes_of_ucode → most_bytes_of_ucode < length second
      → AreJudged base first second (Err (BadUcode (second_name base) U8))
  read : length first ≤ most_bytes_of_ucode → length second ≤ most_bytes_of_ucode
      → AreJudged base first second (unit_found base (unit_read base first second))

-- Files that are named

-- What a file comes to: a source gives no tokens, or its tokens break a rule, or they are a file; the texts of a unit are not there, or
-- they are judged.
pub data FileComes (files : FileMap) : CommandFile → Result Member Answer → Type 0 where
  no_tokens : (base : List ℕ) (answer : Answer) → source_read files (source_name base) ≡ Err answer
      → FileComes files (source base) (Err answer)
  broken : (base : List ℕ) (scan : ScannedSource) (rule : Rule) (place : Place)
      → source_read files (source_name base) ≡ Ok scan
      → TokensGive scan.tokens (Err (rule, place))
      → FileComes files (source base) (Err (refused_at scan.names rule place))
  translated : (base : List ℕ) (scan : ScannedSource) (file : List Declaration)
      → source_read files (source_name base) ≡ Ok scan
      → TokensGive scan.tokens (Ok file) → FileComes files (source base) (Ok (FromSource base file))
  not_there : (base name : List ℕ) → texts_held files base ≡ Err name
      → FileComes files (ucode base) (Err (Missing name))
  not_read : (base first second : List ℕ) (answer : Answer) → texts_held files base ≡ Ok (first, second)
      → AreJudged base first second (Err answer) → FileComes files (ucode base) (Err answer)
  read : (base first second : List ℕ) (unit : UnitRead) → texts_held files base ≡ Ok (first, second)
      → AreJudged base first second (Ok unit) → FileComes files (ucode base) (Ok (FromUcode unit))

-- What files come to, one after the other: the first that is refused refuses all.
pub data FilesCome (files : FileMap) : List CommandFile → Result (List Member) Answer → Type 0 where
  none : FilesCome files [] (Ok [])
  one_more : (file : CommandFile) (others : List CommandFile) (member : Member) (members : List Member)
      → FileComes files file (Ok member)
      → FilesCome files others (Ok members) → FilesCome files (file ∷ others) (Ok (member ∷ members))
  first_refused : (file : CommandFile) (others : List CommandFile) (answer : Answer)
      → FileComes files file (Err answer)
      → FilesCome files (file ∷ others) (Err answer)
  later_refused : (file : CommandFile) (others : List CommandFile) (member : Member) (answer : Answer)
      → FileComes files file (Ok member)
      → FilesCome files others (Err answer) → FilesCome files (file ∷ others) (Err answer)

-- Files that are linked

-- the base that a declaration links, if it links one
abbrev pub link_in : PlainDecl → List (List ℕ)
link_in (Link text) = linked_base text ∷ []
link_in (Invocable text) = []
link_in (Global name) = []
link_in (Procedure name) = []
link_in (Record name fields) = []

-- the base names that a unit links, in the order of its declarations
abbrev pub links_of : UnitRead → List (List ℕ)
links_of unit = flat_map link_in unit.decls

-- a member has this base
abbrev pub is_there : List Member → List ℕ → Bool
is_there members base = list_any (bytes_eq base) (unit_names (units_of members))

-- a base that is no text, or of which a text is not there, is passed over here, and breaks a rule of linking
pub data IsAbsent (files : FileMap) (base : List ℕ) : Type 0 where
  no_text : is_utf8 base ≡ false → IsAbsent files base
  not_held : (name : List ℕ) → texts_held files base ≡ Err name → IsAbsent files base

-- a base whose texts are there
pub record IsHeld (files : FileMap) (base first second : List ℕ) : Type 0 where
  pub text : is_utf8 base ≡ true
  pub held : texts_held files base ≡ Ok (first, second)

-- These members, with those that they link and that are there, breadth first: each base that is mentioned and not there yet is read, and
-- what it mentions itself comes behind what was mentioned before. The first that is refused refuses all.
pub data Gather (files : FileMap) : List Member → List (List ℕ) → Result (List Member) Answer → Type 0 where
  all : (members : List Member) → Gather files members [] (Ok members)
  known : (members : List Member) (base : List ℕ) (mentioned : List (List ℕ))
      (result : Result (List Member) Answer)
      → is_there members base ≡ true → Gather files members mentioned result
      → Gather files members (base ∷ mentioned) result
  absent : (members : List Member) (base : List ℕ) (mentioned : List (List ℕ))
      (result : Result (List Member) Answer)
      → is_there members base ≡ false → IsAbsent files base → Gather files members mentioned result
      → Gather files members (base ∷ mentioned) result
  refused : (members : List Member) (base : List ℕ) (mentioned : List (List ℕ)) (first second : List ℕ)
      (answer : Answer)
      → is_there members base ≡ false → IsHeld files base first second
      → AreJudged base first second (Err answer)
      → Gather files members (base ∷ mentioned) (Err answer)
  read : (members : List Member) (base : List ℕ) (mentioned : List (List ℕ)) (first second : List ℕ)
      (unit : UnitRead)
      (result : Result (List Member) Answer)
      → is_there members base ≡ false → IsHeld files base first second → AreJudged base first second (Ok unit)
      → Gather files (members ++ FromUcode unit ∷ []) (mentioned ++ links_of unit) result
      → Gather files members (base ∷ mentioned) result

-- the bases that the units of these members link
abbrev pub links_in : List Member → List (List ℕ)
links_in members = flat_map links_of (units_of members)

-- What named files come to with all that they link.
pub data Load (files : FileMap) (named : List CommandFile) : Result (List Member) Answer → Type 0 where
  refused : (answer : Answer) → FilesCome files named (Err answer) → Load files named (Err answer)
  gathered : (members : List Member) (result : Result (List Member) Answer)
      → FilesCome files named (Ok members)
      → Gather files members (links_in members) result → Load files named result

-- Rules of linking

-- the name of the unit at a place
abbrev pub unit_named : List UnitRead → ℕ → List ℕ
unit_named units place = slice_index_or (unit_names units) place []

-- a fault of linking is told of the base name of a unit: the later one, the one that links, or the first
abbrev pub link_answer : List UnitRead → LinkFault → Option Answer
link_answer units (K1 unit name first second) = Some (Refused (unit_named units unit) 0 Rules.K1)
link_answer units (K2 unit name) = Some (Refused (unit_named units unit) 0 Rules.K2)
link_answer units (K3 count) = Some (Refused (unit_named units 0) 0 Rules.K3)
link_answer units (K4 unit name) = Some (Refused (unit_named units unit) 0 Rules.K4)
link_answer units NoMemory = None

-- Files that are written

-- the names and the bytes of both texts of a unit
abbrev pub unit_texts : UnitRead → List (List ℕ × List ℕ)
unit_texts unit =
    (first_name unit.name, procs_text unit.procs) ∷ (second_name unit.name, decls_text unit.decls) ∷ []
