-- Units as plain lists.
use Rattle.std.specs.Prelude.{ℕ, Bool, true, false, List, [], ◌∷◌, map, count_by}
use Rattle.std.specs.List.{flat_map}
use Rattle.icn_unit.specs.declared.unit.NameKind.{NameKind}
use Rattle.icn_unit.specs.declared.unit.NameKind.TheVariants.{Parameter, Local, Static, Undeclared}
use Rattle.icn_unit.specs.declared.unit.UnitInstr.{UnitInstr}
use Rattle.icn_unit.specs.declared.unit.UnitName.{UnitName}

-- a procedure: its name, whether its last parameter collects, its names with their kinds, and its
-- instructions
pub record PlainProc : Type 0 where
  pub name : List ℕ
  pub collects : Bool
  pub names : List UnitName
  pub instrs : List UnitInstr

-- a declaration: of a global, a procedure, a linked unit, something that may be called by its name, or a record with its fields
pub data PlainDecl : Type 0 where
  Global : List ℕ → PlainDecl
  Procedure : List ℕ → PlainDecl
  Link : List ℕ → PlainDecl
  Invocable : List ℕ → PlainDecl
  Record : List ℕ → List (List ℕ) → PlainDecl

-- a unit: its name, the code of its procedures, and its declarations
pub record UnitRead : Type 0 where
  pub name : List ℕ
  pub procs : List PlainProc
  pub decls : List PlainDecl

-- the kind of a parameter
abbrev pub is_parameter : NameKind → Bool
is_parameter Parameter = true
is_parameter Local = false
is_parameter Static = false
is_parameter Undeclared = false

-- how many of a procedure's names are parameters
abbrev pub params_in : List UnitName → ℕ
params_in names = count_by (λ name. is_parameter name.kind) names

-- the names of the procedures
abbrev pub proc_names : List PlainProc → List (List ℕ)
proc_names procs = map (λ proc. proc.name) procs

-- the names in a procedure's table of names
abbrev pub entry_names : List UnitName → List (List ℕ)
entry_names names = map (λ entry. entry.name) names

-- the name of a procedure or a record
abbrev pub owned_name : PlainDecl → List (List ℕ)
owned_name (Global name) = []
owned_name (Procedure name) = name ∷ []
owned_name (Link bytes) = []
owned_name (Invocable bytes) = []
owned_name (Record name fields) = name ∷ []

-- the names of the procedures and the records that are declared
abbrev pub owned_names : List PlainDecl → List (List ℕ)
owned_names decls = flat_map owned_name decls

-- the name of a procedure
abbrev pub declared_name : PlainDecl → List (List ℕ)
declared_name (Procedure name) = name ∷ []
declared_name (Global name) = []
declared_name (Link bytes) = []
declared_name (Invocable bytes) = []
declared_name (Record name fields) = []

-- the names of the procedures among declarations
abbrev pub declared_names : List PlainDecl → List (List ℕ)
declared_names decls = flat_map declared_name decls
