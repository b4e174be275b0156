-- Units that were written as ucode and are linked from it.
use Rattle.std.specs.Prelude.{◌≡◌, ◌≤◌, ℕ, false, All, List, length, map, Option, Some, Ok}
use Rattle.icn_profile.specs.Numbers.{most_bytes_of_ucode}
use Rattle.icn_host.specs.FileMaps.{FileMap}
use Rattle.icn_unit.specs.PlainUnits.{UnitRead}
use Rattle.icn_unit.specs.UnitTexts.{decls_text, procs_text}
use Rattle.icn_code.specs.Codes.{Tables}
use Rattle.icont_units.specs.Files.{CommandFile, first_name, second_name, ucode}
use Rattle.icont_units.specs.Units.{Member, FromUcode, Gather, Load, is_there, texts_held, unit_of, units_of}
use Rattle.icont_top.specs.Job.{image_file}
use Rattle.icont_top.specs.Programs.{Links}

-- Neither text of the unit is too long to be read again.
pub record FitsTexts (unit : UnitRead) : Type 0 where
  pub first : length (procs_text unit.procs) ≤ most_bytes_of_ucode
  pub second : length (decls_text unit.decls) ≤ most_bytes_of_ucode

-- no text of these units is too long to be read again
abbrev pub AllFit : List Member → Type 0
AllFit members = All (λ member. FitsTexts (unit_of member)) members

-- Both texts of the unit stand under its names, and can be read again.
pub record HoldsUnit (files : FileMap) (unit : UnitRead) : Type 0 where
  pub first : files (first_name unit.name) ≡ Some (procs_text unit.procs)
  pub second : files (second_name unit.name) ≡ Some (decls_text unit.decls)
  pub fits : FitsTexts unit

-- both texts of each of these units stand under their names, and can be read again
abbrev pub AreHeld : FileMap → List Member → Type 0
AreHeld files members = All (λ member. HoldsUnit files (unit_of member)) members

-- the units of members, named as ucode, and read from it
abbrev pub ucode_named : List Member → List CommandFile
ucode_named members = map (λ member. ucode (unit_of member).name) members

-- the same units, as members that were read from ucode
abbrev pub ucode_members : List Member → List Member
ucode_members members = map (λ member. FromUcode (unit_of member)) members

-- two stores have the same texts of all units but those of these members
abbrev pub HoldTheOthers : List Member → FileMap → FileMap → Type 0
HoldTheOthers members before after =
    (base : List ℕ) → is_there members base ≡ false → texts_held after base ≡ texts_held before base

-- the units of members stand in a later store, and all others as they did
pub record StandAgain (members : List Member) (before after : FileMap) : Type 0 where
  pub held : AreHeld after members
  pub others : HoldTheOthers members before after

-- these members gather others of the same units as more
pub record GathersAlike (files : FileMap) (members : List Member) (mentioned : List (List ℕ))
    (more : List Member) : Type 0 where
  pub others : List Member
  pub gathers : Gather files members mentioned (Ok others)
  pub units : units_of others ≡ units_of more

-- from the ucode of their units the same program comes as from the files themselves
pub record LinksAlike (files : FileMap) (named : List CommandFile) (members : List Member)
    (tables : Tables) : Type 0 where
  pub others : List Member
  pub loads : Load files named (Ok others)
  pub links : Links others (Ok tables)
  pub image : (name : Option (List ℕ)) → image_file name others tables ≡ image_file name members tables
