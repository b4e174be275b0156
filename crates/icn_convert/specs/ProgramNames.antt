-- Which procedures and records names have.
use Rattle.std.specs.Prelude.{ℕ, ◌+◌, ◌<◌, nat_lt, List, [], length, slice_get, unwrap_or, codes, if◌then◌else◌, ⊤}
use Rattle.std.specs.List.{All}
use Rattle.icn_value.specs.declared.val.Val.{Val}
use Rattle.icn_value.specs.declared.val.Val.TheVariants.{Null, Integer, Text, Chars, Std, Proc, Rec, List as ListVal, Set, Table, Coexp}
use Rattle.icn_value.specs.Store.{Names, Heap, Record}
use Rattle.icn_defs.specs.Images.{functions}
use Rattle.icn_convert.specs.declared.names.ProcKind.{ProcKind}
use Rattle.icn_convert.specs.declared.names.ProcKind.TheVariants.{Procedure, Constructor, Function}

-- how many procedures, constructors and functions there are
abbrev pub name_count : Names → ℕ
name_count names = length names.procedures + length names.records + length functions

-- procedures come first, then constructors, then functions
abbrev pub kind_of : Names → ℕ → ProcKind
kind_of names number =
    if nat_lt number (length names.procedures) then Procedure
    else (if nat_lt number (length names.procedures + length names.records) then Constructor else Function)

-- what stands in front of a procedure's name in its image
abbrev pub kind_name : ProcKind → List ℕ
kind_name Procedure = codes "procedure "
kind_name Constructor = codes "record constructor "
kind_name Function = codes "function "

-- the name of a constructor by its number among the constructors
abbrev pub constructor_name : Names → ℕ → List ℕ
constructor_name names kind = unwrap_or (slice_get names.records kind) []

-- a procedure has a name; other values need none
abbrev pub NamedBy : Names → Val → Type 0
NamedBy names Null = ⊤
NamedBy names (Integer n) = ⊤
NamedBy names (Text span) = ⊤
NamedBy names (Chars cset) = ⊤
NamedBy names (Std file) = ⊤
NamedBy names (Proc number) = number < name_count names
NamedBy names (Rec id) = ⊤
NamedBy names (ListVal id) = ⊤
NamedBy names (Set id) = ⊤
NamedBy names (Table id) = ⊤
NamedBy names (Coexp id) = ⊤

-- a procedure value has a name
pub record IsNamed (names : Names) (val : Val) : Type 0 where
  pub named : NamedBy names val

-- each record of the heap has a name
pub record AreRecordsNamed (names : Names) (heap : Heap) : Type 0 where
  pub kinds : All (λ (structure : Record). structure.kind < length names.records) heap.records
