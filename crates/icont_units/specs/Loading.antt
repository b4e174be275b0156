-- How the code tells which units it has.
use Rattle.std.specs.Prelude.{◌≡◌, ◌⊎◌, ◌≤◌, ℕ, zero, suc, true, false, All, List, [], ◌∷◌, ◌++◌, length, map, Option, None, Some, Result, Ok, Err, MatchResult, unwrap_or, Vec}
use Rattle.std.specs.List.{flat_map, list_any}
use Rattle.std.specs.Option.{option_map}
use Rattle.std.specs.Str.{bytes_eq, is_utf8}
use Rattle.icn_host.specs.Counts.{Rose}
use Rattle.icn_host.specs.FileMaps.{FileMap}
use Rattle.icn_unit.specs.PlainUnits.{UnitRead}
use Rattle.icn_link.specs.declared.fault.LinkFault.TheVariants.{K2}
use Rattle.icn_link.specs.FirstMentions.{with_texts}
use Rattle.icn_link.specs.LinkFaults.{missing_unit, unit_names}
use Rattle.icn_link.specs.Units.{units_seen}
use Rattle.law_simulation.specs.Faultless.{IsFaultless}
use Rattle.icn_answer.specs.declared.answer.Answer.{Answer}
use Rattle.icn_answer.specs.Answers.{IsFault}
use Rattle.icont_units.specs.declared.members.Members.{Members}
use Rattle.icont_units.specs.Files.{CommandFile}
use Rattle.icont_units.specs.Units.{FilesCome, FileComes, FromSource, FromUcode, Gather, IsAbsent, Load, Member, links_of, units_of}

-- Units, and the members that they are

-- the place of the first unit that was read as ucode
abbrev pub ucode_index : List Member → Option ℕ
ucode_index [] = None
ucode_index (FromSource base file ∷ members) = option_map (λ place. suc place) (ucode_index members)
ucode_index (FromUcode unit ∷ members) = Some 0

-- a source breaks no rule
abbrev pub IsFaultlessMember : Member → Type 0
IsFaultlessMember (FromSource base file) = IsFaultless file
IsFaultlessMember (FromUcode unit) = Unit {0}

-- these units are those of the members, of which each source breaks no rule
pub record HoldsMembers (held : Members) (members : List Member) : Type 0 where
  pub units : units_seen held.units.items ≡ units_of members
  pub place : held.first_ucode ≡ ucode_index members
  pub faultless : All IsFaultlessMember members

-- the units are those of some members, whatever the files tell
pub record AreSoundMembers (held : Members) : Type 0 where
  pub members : List Member
  pub stands : HoldsMembers held members

-- What is kept of members: their units, and the place of the first that was read as ucode.
pub record KeptUnits : Type 0 where
  pub units : List UnitRead
  pub first_ucode : Option ℕ

-- the units that are kept, and the place of the first one from ucode
abbrev pub kept_units : Members → KeptUnits
kept_units held = record { units = units_seen held.units.items; first_ucode = held.first_ucode }

-- the kept units with one more, from a source
abbrev pub with_source : KeptUnits → UnitRead → KeptUnits
with_source kept unit = record kept { units = kept.units ++ unit ∷ [] }

-- with one unit more, which was read as ucode
abbrev pub with_ucode : KeptUnits → UnitRead → KeptUnits
with_ucode kept unit = record {
  units = kept.units ++ unit ∷ [];
  first_ucode = Some (unwrap_or kept.first_ucode (length kept.units));
}

-- Files that are named

-- the member that a file comes to stands behind these
pub record ComesBehind (files : FileMap) (file : CommandFile) (before : List Member)
    (held : Members) : Type 0 where
  pub member : Member
  pub comes : FileComes files file (Ok member)
  pub stands : HoldsMembers held (before ++ member ∷ [])

-- the file was read behind these members, or what refuses it is answered, or a fault
abbrev pub IsRead : {A : Type 0} → FileMap → CommandFile → List Member → Members → Result A Answer → Type 0
IsRead files file before held result =
    MatchResult result (λ _. ComesBehind files file before held)
    (λ answer. IsFault answer ⊎ FileComes files file (Err answer))

-- the named files came to members for which these units stand, or what refuses them is answered, or a fault
abbrev pub IsCome : FileMap → List CommandFile → Result Members Answer → Type 0
IsCome files named (Ok held) =
    (members : List Member) × (FilesCome files named (Ok members) × HoldsMembers held members)
IsCome files named (Err answer) = IsFault answer ⊎ FilesCome files named (Err answer)

-- Files that are linked

-- the bases that the unit at a place links
abbrev pub links_at : List UnitRead → ℕ → List (List ℕ)
links_at [] place = []
links_at (unit ∷ units) zero = links_of unit
links_at (unit ∷ units) (suc place) = links_at units place

-- texts as their bytes
abbrev pub texts_in : {Y : Type 0} → List (Vec ℕ Y) → List (List ℕ)
texts_in texts = map (λ text. text.items) texts

-- Among the bases that were looked for are all that have a unit, and each of the others is absent in this sense.
pub record Knows (IsLost : List ℕ → Type 0) (units : List UnitRead) (known : List (List ℕ)) : Type 0 where
  pub met : (base : List ℕ) → list_any (bytes_eq base) known ≡ true
      → (list_any (bytes_eq base) (unit_names units) ≡ true) ⊎ IsLost base
  pub new : (base : List ℕ) → list_any (bytes_eq base) known ≡ false
      → list_any (bytes_eq base) (unit_names units) ≡ false

-- the count of files that were not there has risen, or a base is no text
abbrev pub IsMissed : ℕ → ℕ → List ℕ → Type 0
IsMissed before now base = Rose before now ⊎ (is_utf8 base ≡ false)

-- members with units behind them that were read as ucode
abbrev pub with_units : List Member → List UnitRead → List Member
with_units members units = members ++ map (λ unit. FromUcode unit) units

-- From the one to the other these bases were looked for: what comes of the mentions behind them, and then of those of the new units,
-- comes of all.
pub record Adds (files : FileMap) (old new : Members) (bases : List (List ℕ)) : Type 0 where
  pub added : List UnitRead
  pub units : units_seen new.units.items ≡ units_seen old.units.items ++ added
  pub stands : (before : List Member) → HoldsMembers old before → HoldsMembers new (with_units before added)
  pub gathers : (before : List Member) (rest : List (List ℕ)) (result : Result (List Member) Answer)
      → HoldsMembers old before
      → Gather files (with_units before added) (rest ++ flat_map links_of added) result
      → Gather files before (bases ++ rest) result

-- The same whatever the files tell: units were added, these bases are known now, and those without a unit were missed.
pub record MembersGrow (before now : ℕ) (old new : Members)
    (known_old known_new bases : List (List ℕ)) : Type 0 where
  pub later : before ≤ now
  pub added : List UnitRead
  pub units : units_seen new.units.items ≡ units_seen old.units.items ++ added
  pub stands : (members : List Member) → HoldsMembers old members
      → HoldsMembers new (with_units members added)
  pub known : known_new ≡ with_texts known_old bases
  pub missed : (start : ℕ) → start ≤ before
      → Knows (IsMissed start before) (units_seen old.units.items) known_old
      → Knows (IsMissed start now) (units_seen new.units.items) known_new

-- what refuses one of these bases, whatever is mentioned behind them
pub record RefusesBases (files : FileMap) (old : Members) (bases : List (List ℕ))
    (answer : Answer) : Type 0 where
  pub gathers : (before : List Member) (rest : List (List ℕ)) → HoldsMembers old before
      → Gather files before (bases ++ rest) (Err answer)

-- these bases were looked for, and are known now; or what refuses one of them is answered, or a fault
abbrev pub IsSought : {A : Type 0} → FileMap → Members → Members → List (List ℕ) → List (List ℕ)
    → Result A Answer → Type 0
IsSought files old new bases known result =
    MatchResult result
    (λ _. Adds files old new bases × Knows (IsAbsent files) (units_seen new.units.items) known)
    (λ answer. IsFault answer ⊎ RefusesBases files old bases answer)

-- the members with those that they link, or what refuses one, or a fault
abbrev pub IsGathered : {A : Type 0} → FileMap → List Member → List (List ℕ) → Members → Result A Answer
    → Type 0
IsGathered files before mentioned held result =
    MatchResult result
    (λ _. (members : List Member) × (Gather files before mentioned (Ok members) × HoldsMembers held members))
    (λ answer. IsFault answer ⊎ Gather files before mentioned (Err answer))

-- the named files with those that they link, or what refuses one, or a fault
abbrev pub IsLoaded : FileMap → List CommandFile → Result Members Answer → Type 0
IsLoaded files named (Ok held) =
    (members : List Member) × (Load files named (Ok members) × HoldsMembers held members)
IsLoaded files named (Err answer) = IsFault answer ⊎ Load files named (Err answer)

-- the first base that is linked and has no unit was not there, or is no text
pub record AreSought (before now : ℕ) (units : List UnitRead) : Type 0 where
  pub missed : (unit : ℕ) (name : List ℕ) → missing_unit units ≡ Some (K2 unit name) → IsMissed before now name
