-- The unit of a file.
use Rattle.std.specs.Prelude.{ℕ, List, [], ◌∷◌, map}
use Rattle.std.specs.List.{flat_map}
use Rattle.icn_tree.specs.declared.tree.DeclItem.{DeclItem}
use Rattle.icn_tree.specs.declared.tree.DeclItem.TheVariants.{Identifier, Text}
use Rattle.icn_tree.specs.Trees.{Declaration, Global, Link, Invocable, Record, ProcedureOf}
use Rattle.icn_unit.specs.PlainUnits.{PlainProc, PlainDecl, UnitRead}
use Rattle.icn_unit.specs.PlainUnits.{Global as GlobalLine, Link as LinkLine, Invocable as InvocableLine, Procedure as ProcedureLine, Record as RecordLine}
use Rattle.icn_translate.specs.ProcCodes.{proc_code, texts_of}

-- the code of a procedure
abbrev pub codes_in : Declaration → List PlainProc
codes_in (Global place names) = []
codes_in (Link place items) = []
codes_in (Invocable place items) = []
codes_in (Record place name fields) = []
codes_in (ProcedureOf procedure) = proc_code procedure ∷ []

-- the code of each procedure of a file, in their order
abbrev pub proc_codes : List Declaration → List PlainProc
proc_codes declarations = flat_map codes_in declarations

-- the text of an item of `link` or `invocable`
abbrev pub item_text : DeclItem → List ℕ
item_text (Identifier name) = name.text
item_text (Text name) = name.text

-- The declarations of a unit that a declaration gives: one for each name of `global`, for each file of `link`, and for each item of
-- `invocable`.
abbrev pub lines_in : Declaration → List PlainDecl
lines_in (Global place names) = map (λ name. GlobalLine name.text) names
lines_in (Link place items) = map (λ item. LinkLine (item_text item)) items
lines_in (Invocable place items) = map (λ item. InvocableLine (item_text item)) items
lines_in (Record place name fields) = RecordLine name.text (texts_of fields) ∷ []
lines_in (ProcedureOf procedure) = ProcedureLine procedure.name.text ∷ []

-- the declarations of a file, as a unit has them
abbrev pub unit_decls : List Declaration → List PlainDecl
unit_decls declarations = flat_map lines_in declarations

-- The unit of a file with this base name: its procedures and its declarations, in their order.
abbrev pub translated_unit : List ℕ → List Declaration → UnitRead
translated_unit name declarations =
    record { name = name; procs = proc_codes declarations; decls = unit_decls declarations }
