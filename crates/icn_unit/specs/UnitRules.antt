-- The rules that a unit keeps.
use Rattle.std.specs.Prelude.{ℕ, ℤ, pos, negsuc, Bool, true, false, ◌&&◌, ◌||◌, not, nat_eq, nat_le, nat_lt, List, [], ◌∷◌, length, Option, Some, None}
use Rattle.std.specs.List.{list_all, list_any, flat_map}
use Rattle.std.specs.Option.{option_map_or}
use Rattle.std.specs.Str.{bytes_eq}
use Rattle.icn_profile.specs.Numbers.{greatest_integer, greatest_number, most_bytes_of_name}
use Rattle.icn_unit.specs.declared.unit.NameKind.{NameKind}
use Rattle.icn_unit.specs.declared.unit.NameKind.TheVariants.{Parameter, Local, Static, Undeclared}
use Rattle.icn_unit.specs.declared.unit.UnitInstr.{UnitInstr}
use Rattle.icn_unit.specs.declared.unit.UnitInstr.TheVariants.{Int, Str, Cset, Var, Llist, Field, Invoke, Mark, Chfail, Goto, Loop, Init, Create, Lab}
use Rattle.icn_unit.specs.declared.unit.UnitInstr.TheVariants as I
use Rattle.icn_unit.specs.declared.unit.UnitName.{UnitName}
use Rattle.icn_unit.specs.PlainUnits.{PlainProc, PlainDecl, Global, Procedure, Link, Invocable, Record, params_in, proc_names, entry_names, owned_names, declared_names}
use Rattle.icn_unit.specs.UnitOperands.{is_name, ascends}

-- Texts and numbers

-- a number below 256
abbrev pub is_byte : ℕ → Bool
is_byte b = nat_lt b 256

-- at most 65535 bytes
abbrev pub is_byte_text : List ℕ → Bool
is_byte_text bytes = list_all is_byte bytes && nat_le (length bytes) most_bytes_of_name

-- an integer that a literal writes: none is negative or above the greatest
abbrev pub is_integer : ℤ → Bool
is_integer (pos n) = nat_le n greatest_integer
is_integer (negsuc n) = false

-- every number but an integer's
abbrev pub is_number : ℕ → Bool
is_number n = nat_le n greatest_number

-- Names and labels that differ

-- one is the same as one of others
abbrev pub is_among : {A : Type 0} → (A → A → Bool) → List A → A → Bool
is_among same xs x = list_any (λ y. same x y) xs

-- no two are the same
abbrev pub all_differ : {A : Type 0} → (A → A → Bool) → List A → Bool
all_differ same [] = true
all_differ same (x ∷ xs) = not (is_among same xs x) && all_differ same xs

-- a name is among these
abbrev pub has_name : List (List ℕ) → List ℕ → Bool
has_name names name = is_among bytes_eq names name

-- no name is there twice
abbrev pub names_differ : List (List ℕ) → Bool
names_differ names = all_differ bytes_eq names

-- a label is among these
abbrev pub has_label : List ℕ → ℕ → Bool
has_label labels label = is_among nat_eq labels label

-- no label is there twice
abbrev pub labels_differ : List ℕ → Bool
labels_differ labels = all_differ nat_eq labels

-- Instructions

-- the operand, in a procedure of so many names
abbrev pub keeps_operand : ℕ → UnitInstr → Bool
keeps_operand names (Int n) = is_integer n
keeps_operand names (Str bytes) = is_byte_text bytes
keeps_operand names (Cset bytes) = is_byte_text bytes && ascends bytes
keeps_operand names (Var k) = nat_lt k names && is_number k
keeps_operand names (Field name) = is_name name
keeps_operand names (Llist n) = is_number n
keeps_operand names (Invoke n) = is_number n
keeps_operand names (Mark label) = is_number label
keeps_operand names (Chfail label) = is_number label
keeps_operand names (Goto label) = is_number label
keeps_operand names (Loop label) = is_number label
keeps_operand names (Init label) = is_number label
keeps_operand names (Create label) = is_number label
keeps_operand names (Lab label) = is_number label
keeps_operand names I.Pnull = true
keeps_operand names (I.Keywd keyword) = true
keeps_operand names I.Pop = true
keeps_operand names I.Dup = true
keeps_operand names (I.Op op) = true
keeps_operand names I.Appl = true
keeps_operand names I.Mark0 = true
keeps_operand names I.Unmark = true
keeps_operand names I.Eret = true
keeps_operand names I.Esusp = true
keeps_operand names I.Limit = true
keeps_operand names I.Lsusp = true
keeps_operand names I.Efail = true
keeps_operand names I.Bscan = true
keeps_operand names I.Escan = true
keeps_operand names I.Ccase = true
keeps_operand names I.Psusp = true
keeps_operand names I.Pret = true
keeps_operand names I.Pfail = true
keeps_operand names I.Coact = true
keeps_operand names I.Coret = true
keeps_operand names I.Cofail = true

-- the label that has its place there
abbrev pub own_label : UnitInstr → Option ℕ
own_label (Lab label) = Some label
own_label _ = None

-- none or one label as a list
abbrev pub own_labels : Option ℕ → List ℕ
own_labels None = []
own_labels (Some label) = label ∷ []

-- the labels that have their places among instructions
abbrev pub placed_labels : List UnitInstr → List ℕ
placed_labels instrs = flat_map (λ instr. own_labels (own_label instr)) instrs

-- the label that an instruction goes to
abbrev pub label_in : UnitInstr → Option ℕ
label_in (Mark label) = Some label
label_in (Chfail label) = Some label
label_in (Goto label) = Some label
label_in (Loop label) = Some label
label_in (Init label) = Some label
label_in (Create label) = Some label
label_in _ = None

-- the label that an instruction goes to, if any, has its place among instructions
abbrev pub label_placed : List UnitInstr → UnitInstr → Bool
label_placed instrs instr =
    option_map_or (λ label. has_label (placed_labels instrs) label) (label_in instr) true

-- each label that an instruction goes to has its place
abbrev pub labels_placed : List UnitInstr → Bool
labels_placed instrs = list_all (λ instr. label_placed instrs instr) instrs

-- the rules of the code of a procedure with so many names
abbrev pub keeps_code : ℕ → List UnitInstr → Bool
keeps_code names instrs = list_all (λ instr. keeps_operand names instr) instrs
    && labels_differ (placed_labels instrs) && labels_placed instrs

-- Procedures

-- parameters come first, then locals and statics, then undeclared names
abbrev pub rank : NameKind → ℕ
rank Parameter = 0
rank Local = 1
rank Static = 1
rank Undeclared = 2

-- names stand in the order of their kinds
abbrev pub in_order : List UnitName → Bool
in_order [] = true
in_order (a ∷ []) = true
in_order (a ∷ b ∷ rest) = nat_le (rank a.kind) (rank b.kind) && in_order (b ∷ rest)

-- the rules of the names of a procedure
abbrev pub keeps_names : List UnitName → Bool
keeps_names names = list_all is_name (entry_names names) && names_differ (entry_names names) && in_order names

-- the last parameter collects only where there is one
abbrev pub keeps_head : List ℕ → ℕ → Bool → Bool
keeps_head name params collects = is_name name && is_number params && (not collects || nat_lt 0 params)

-- the rules of a procedure
abbrev pub keeps_proc : PlainProc → Bool
keeps_proc proc = keeps_head proc.name (params_in proc.names) proc.collects && keeps_names proc.names
    && keeps_code (length proc.names) proc.instrs

-- the rules of the procedures of a unit, whose names differ
abbrev pub keeps_procs : List PlainProc → Bool
keeps_procs procs = list_all keeps_proc procs && names_differ (proc_names procs)

-- Declarations

-- the rules of a declaration
abbrev pub keeps_decl : PlainDecl → Bool
keeps_decl (Global name) = is_name name
keeps_decl (Procedure name) = is_name name
keeps_decl (Link bytes) = is_byte_text bytes
keeps_decl (Invocable bytes) = is_byte_text bytes
keeps_decl (Record name fields) = is_name name && list_all is_name fields && names_differ fields

-- the rules of the declarations of a unit, of which no two own the same name
abbrev pub keeps_decls : List PlainDecl → Bool
keeps_decls decls = list_all keeps_decl decls && names_differ (owned_names decls)

-- Units

-- the same texts in the same order
abbrev pub same_texts : List (List ℕ) → List (List ℕ) → Bool
same_texts [] [] = true
same_texts [] (y ∷ ys) = false
same_texts (x ∷ xs) [] = false
same_texts (x ∷ xs) (y ∷ ys) = bytes_eq x y && same_texts xs ys

-- the procedures in their order, by name, are those that the declarations name
abbrev pub same_names : List PlainProc → List PlainDecl → Bool
same_names procs decls = same_texts (proc_names procs) (declared_names decls)

-- the procedures and the declarations of a unit keep all rules
unfoldable pub keeps_rules : List PlainProc → List PlainDecl → Bool
keeps_rules procs decls = keeps_procs procs && keeps_decls decls && same_names procs decls
