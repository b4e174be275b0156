-- The code of a procedure.
use Rattle.std.specs.Prelude.{ℕ, List, [], ◌++◌, length, map, drop}
use Rattle.std.specs.List.{flat_map}
use Rattle.icn_tree.specs.declared.tree.Name.{Name}
use Rattle.icn_tree.specs.declared.tree.LocalKind.{LocalKind}
use Rattle.icn_tree.specs.declared.tree.LocalKind.TheVariants as Kept
use Rattle.icn_tree.specs.Trees.{LocalDecl, Procedure}
use Rattle.icn_unit.specs.declared.unit.NameKind.{NameKind}
use Rattle.icn_unit.specs.declared.unit.NameKind.TheVariants.{Parameter, Local, Static, Undeclared}
use Rattle.icn_unit.specs.declared.unit.UnitInstr.TheVariants.{Pfail}
use Rattle.icn_unit.specs.declared.unit.UnitName.{UnitName}
use Rattle.icn_unit.specs.PlainUnits.{PlainProc}
use Rattle.icn_translate.specs.Drafts.{Draft, ◌▹◌, put, with_names}
use Rattle.icn_translate.specs.Translation.{initially, body}

-- Names

-- a name of a unit with its kind
abbrev pub entry_of : NameKind → List ℕ → UnitName
entry_of kind name = record { kind = kind; name = name }

-- names without their places
abbrev pub texts_of : List Name → List (List ℕ)
texts_of names = map (λ name. name.text) names

-- a local or a static variable as a kind of names
abbrev pub kind_of : LocalKind → NameKind
kind_of Kept.Local = Local
kind_of Kept.Static = Static

-- the names of a local declaration, with their kind
abbrev pub local_entries : LocalDecl → List UnitName
local_entries locals = map (λ name. entry_of (kind_of locals.kind) name.text) locals.names

-- the names of a local declaration
abbrev pub local_texts : LocalDecl → List (List ℕ)
local_texts locals = texts_of locals.names

-- the parameters, and then locals and statics as they are declared
abbrev pub declared_entries : Procedure → List UnitName
declared_entries procedure =
    map (λ name. entry_of Parameter name.text) procedure.parameters ++ flat_map local_entries procedure.locals

-- the names that a procedure declares: parameters first, then locals and statics
abbrev pub declared_texts : Procedure → List (List ℕ)
declared_texts procedure = texts_of procedure.parameters ++ flat_map local_texts procedure.locals

-- The draft before the first instruction. Rules of names see to it that each stands there once.
abbrev pub first_draft : Procedure → Draft
first_draft procedure = record {
  instrs = [];
  labels = 0;
  names = with_names [] (declared_texts procedure);
  loops = [];
  cases = [];
}

-- the draft of the whole procedure
abbrev pub draft_of : Procedure → Draft
draft_of procedure = first_draft procedure ▹ initially procedure.initial ▹ body procedure.body ▹ put Pfail

-- the names that it uses and does not declare, in the order of their first uses
abbrev pub undeclared_in : Procedure → List (List ℕ)
undeclared_in procedure = drop (length (first_draft procedure).names) (draft_of procedure).names

-- The code of a procedure: its names, and its instructions, whose labels are numbered from 1 in the order of their first
-- mentions.
abbrev pub proc_code : Procedure → PlainProc
proc_code procedure = record {
  name = procedure.name.text;
  collects = procedure.is_variadic;
  names = declared_entries procedure ++ map (entry_of Undeclared) (undeclared_in procedure);
  instrs = (draft_of procedure).instrs;
}
