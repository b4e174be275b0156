-- Why units can't be joined: the first rule that they break.
use Rattle.std.specs.Prelude.{◌≡◌, ◌⊎◌, ℕ, suc, ◌-◌, ◌^◌, ◌||◌, min, Bool, not, is_some, List, [], ◌∷◌, ◌++◌, length, map, take, codes, find, nat_eq, nat_lt, Option, Some, None, if◌then◌else◌, count_by}
use Rattle.std.specs.List.{flat_map, list_any, sum_by, ends_with}
use Rattle.std.specs.Option.{option_map, option_or}
use Rattle.std.specs.Str.{bytes_eq}
use Rattle.icn_profile.specs.Numbers.{most_bytes_of_image, most_entries, most_fields, most_instructions, most_statics, most_variables}
use Rattle.icn_image.specs.Spelling.{image_of}
use Rattle.icn_unit.specs.declared.unit.UnitInstr.{UnitInstr}
use Rattle.icn_unit.specs.PlainUnits.{PlainProc, PlainDecl, Global, Procedure, Link, Invocable, Record, UnitRead, owned_names}
use Rattle.icn_unit.specs.UnitRules.{own_label}
use Rattle.icn_link.specs.declared.fault.DeclPlace.{DeclPlace}
use Rattle.icn_link.specs.declared.fault.LinkFault.{LinkFault}
use Rattle.icn_link.specs.declared.fault.LinkFault.TheVariants.{K1, K2, K3, K4, NoMemory}
use Rattle.icn_link.specs.Joined.{joined_of, locals_in, statics_in}
use Rattle.icn_link.specs.Mentions.{AllMentions, all_mentions, function_named, globals}
use Rattle.icn_link.specs.Units.{all_decls, all_procs}

-- Units that are linked and not there

-- the base name that a text of `link` names: it loses one suffix
abbrev pub base_of : List ℕ → List ℕ
base_of text = if ends_with nat_eq text (codes ".u1") then take (length text - 3) text
    else (if ends_with nat_eq text (codes ".u2") then take (length text - 3) text else text)

-- the unit that a declaration links, where no unit has that name
abbrev pub missing_by : List (List ℕ) → PlainDecl → Option (List ℕ)
missing_by names (Link text) = if list_any (bytes_eq (base_of text)) names then None else Some (base_of text)
missing_by names (Invocable text) = None
missing_by names (Global name) = None
missing_by names (Procedure name) = None
missing_by names (Record name fields) = None

-- the first unit that these declarations link and no unit is
abbrev pub missing_in : List (List ℕ) → List PlainDecl → Option (List ℕ)
missing_in names [] = None
missing_in names (decl ∷ decls) = option_or (missing_by names decl) (missing_in names decls)

-- a linked unit is not there
abbrev pub missing_fault : ℕ → List ℕ → LinkFault
missing_fault unit name = K2 unit name

-- the first of these units, where so many are before them
abbrev pub missing_from : List (List ℕ) → ℕ → List UnitRead → Option LinkFault
missing_from names place [] = None
missing_from names place (unit ∷ units) =
    option_or (option_map (missing_fault place) (missing_in names unit.decls))
    (missing_from names (suc place) units)

-- the names of the units
abbrev pub unit_names : List UnitRead → List (List ℕ)
unit_names units = map (λ unit. unit.name) units

-- the first declaration that links a unit which is not there
abbrev pub missing_unit : List UnitRead → Option LinkFault
missing_unit units = missing_from (unit_names units) 0 units

-- Names that are procedure or record in two units

-- a procedure or a record, with the place of its declaration
pub record Owner : Type 0 where
  pub name : List ℕ
  pub place : DeclPlace

-- a declaration, by the places of its unit and its own
abbrev pub place_at : ℕ → ℕ → DeclPlace
place_at unit decl = record { unit = unit; decl = decl }

-- the procedure or the record of this name at this place
abbrev pub owner : List ℕ → ℕ → ℕ → Owner
owner name unit decl = record { name = name; place = place_at unit decl }

-- the procedure or the record that a declaration is, if it is one
abbrev pub owner_in : ℕ → ℕ → PlainDecl → List Owner
owner_in unit place (Procedure name) = owner name unit place ∷ []
owner_in unit place (Record name fields) = owner name unit place ∷ []
owner_in unit place (Global name) = []
owner_in unit place (Link text) = []
owner_in unit place (Invocable text) = []

-- the procedures and records of a unit, from this declaration on
abbrev pub owners_in : ℕ → ℕ → List PlainDecl → List Owner
owners_in unit place [] = []
owners_in unit place (decl ∷ decls) = owner_in unit place decl ++ owners_in unit (suc place) decls

-- the procedures and records of all units, from this unit on
abbrev pub owners_from : ℕ → List UnitRead → List Owner
owners_from place [] = []
owners_from place (unit ∷ units) = owners_in place 0 unit.decls ++ owners_from (suc place) units

-- the first one of this name
abbrev pub owner_named : List ℕ → List Owner → Option Owner
owner_named name owners = find (λ other. bytes_eq name other.name) owners

-- the second one has the name of the first
abbrev pub repeat_of : Owner → Owner → LinkFault
repeat_of second first = K1 second.place.unit second.name first.place second.place

-- the first that has the name of an earlier one, where these are before
abbrev pub repeated_from : List Owner → List Owner → Option LinkFault
repeated_from before [] = None
repeated_from before (next ∷ others) = option_or (option_map (repeat_of next) (owner_named next.name before))
    (repeated_from (before ++ next ∷ []) others)

-- the first procedure or record that has the name of an earlier one
abbrev pub repeated_name : List UnitRead → Option LinkFault
repeated_name units = repeated_from [] (owners_from 0 units)

-- Names that may be called

-- `all`, and each name of a procedure or a record of some unit, and of a built-in function
abbrev pub may_be_called : List (List ℕ) → List ℕ → Bool
may_be_called owned text =
    bytes_eq text (codes "all") || (list_any (bytes_eq text) owned || is_some (function_named text))

-- what a declaration says may be called where nothing has that name
abbrev pub unknown_by : List (List ℕ) → PlainDecl → Option (List ℕ)
unknown_by owned (Invocable text) = if may_be_called owned text then None else Some text
unknown_by owned (Global name) = None
unknown_by owned (Procedure name) = None
unknown_by owned (Link text) = None
unknown_by owned (Record name fields) = None

-- the first such name of these declarations
abbrev pub unknown_in : List (List ℕ) → List PlainDecl → Option (List ℕ)
unknown_in owned [] = None
unknown_in owned (decl ∷ decls) = option_or (unknown_by owned decl) (unknown_in owned decls)

-- what may be called is not there
abbrev pub unknown_fault : ℕ → List ℕ → LinkFault
unknown_fault unit name = K4 unit name

-- the first of these units, where so many are before them
abbrev pub unknown_from : List (List ℕ) → ℕ → List UnitRead → Option LinkFault
unknown_from owned place [] = None
unknown_from owned place (unit ∷ units) =
    option_or (option_map (unknown_fault place) (unknown_in owned unit.decls))
    (unknown_from owned (suc place) units)

-- the first name that a unit says may be called, and that no procedure or record of a unit and no function has
abbrev pub unknown_name : List UnitRead → Option LinkFault
unknown_name units = unknown_from (owned_names (all_decls units)) 0 units

-- Programs that are too large

-- the number that a fault tells: the count, and of one past 64 bits the greatest number of 64 bits
abbrev pub count_told : ℕ → ℕ
count_told count = min count (2 ^ 64 - 1)

-- something is too large, by this count, as far as 64 bits can tell it
abbrev pub count_fault : ℕ → LinkFault
count_fault count = K3 (count_told count)

-- the first number above a bound
abbrev pub over : ℕ → List ℕ → Option LinkFault
over most counts = option_map count_fault (find (λ count. nat_lt most count) counts)

-- the place of a label is no instruction
abbrev pub is_instruction : UnitInstr → Bool
is_instruction instr = not (is_some (own_label instr))

-- how many instructions a procedure has, without the places of labels
abbrev pub size_of : PlainProc → ℕ
size_of proc = count_by is_instruction proc.instrs

-- how many entries each table has, in the order in which an image has them
abbrev pub field_counts : PlainDecl → List ℕ
field_counts (Record name fields) = length fields ∷ []
field_counts (Global name) = []
field_counts (Procedure name) = []
field_counts (Link text) = []
field_counts (Invocable text) = []

-- how many fields each record has
abbrev pub record_sizes : List PlainDecl → List ℕ
record_sizes decls = flat_map field_counts decls

-- how many entries each table has
abbrev pub table_sizes : AllMentions → List PlainDecl → List PlainProc → List ℕ
table_sizes tables decls procs =
    length tables.strings ∷ length tables.sets ∷ length tables.integers ∷ length tables.fields
    ∷ length (record_sizes decls) ∷ length tables.globals ∷ length procs ∷ []

-- how many fields and how many records there are
abbrev pub kind_counts : AllMentions → List PlainDecl → List ℕ
kind_counts tables decls = length tables.fields ∷ length (record_sizes decls) ∷ []

-- how many parameters and other locals each procedure has
abbrev pub local_counts : List (List ℕ) → List PlainProc → List ℕ
local_counts globals procs = map (λ proc. locals_in globals proc.names) procs

-- how many statics each procedure has
abbrev pub static_counts : List (List ℕ) → List PlainProc → List ℕ
static_counts globals procs = map (λ proc. statics_in globals proc.names) procs

-- how many statics all procedures have together
abbrev pub all_statics : List (List ℕ) → List PlainProc → ℕ
all_statics globals procs = sum_by (λ proc. statics_in globals proc.names) procs

infixr 5 ◌orelse◌
-- the first fault, where there is one, else the second
abbrev pub ◌orelse◌ : Option LinkFault → Option LinkFault → Option LinkFault
a orelse b = option_or a b

-- In this order: all instructions; the entries of each table; the statics of all procedures together; the fields and the
-- records; the fields of a record; the parameters and other locals of a procedure together; its statics; and the bytes of the
-- image.
abbrev pub too_large_of : List PlainDecl → List PlainProc → Option LinkFault
too_large_of decls procs =
    over most_instructions (sum_by size_of procs ∷ [])
    orelse over most_entries (table_sizes (all_mentions decls procs) decls procs)
    orelse over most_statics (all_statics (globals decls procs) procs ∷ [])
    orelse over most_fields (kind_counts (all_mentions decls procs) decls)
    orelse over most_fields (record_sizes decls)
    orelse over most_variables (local_counts (globals decls procs) procs)
    orelse over most_variables (static_counts (globals decls procs) procs)
    orelse over most_bytes_of_image (length (image_of (joined_of decls procs)) ∷ [])

-- the first bound that the units pass together
abbrev pub too_large : List UnitRead → Option LinkFault
too_large units = too_large_of (all_decls units) (all_procs units)

-- the first rule that units break
abbrev pub first_fault : List UnitRead → Option LinkFault
first_fault units =
    missing_unit units orelse repeated_name units orelse unknown_name units orelse too_large units

-- A fault is this one, or want of memory.
abbrev pub IsFault : Option LinkFault → LinkFault → Type 0
IsFault expected fault = (fault ≡ NoMemory) ⊎ (expected ≡ Some fault)
