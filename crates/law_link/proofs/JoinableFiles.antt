-- The unit of a file that breaks no rule, and whose texts are bytes, can be joined.
use Rattle.std.proofs.Common.{◌≡◌, ℕ, ◌<◌, true, ◌&&◌, List, [], ◌∷◌, length, map, refl, ◌∙◌}
use Rattle.std.specs.List.{list_all}
use Rattle.std.proofs.lemmas.List.Folds.{list_all-append}
use Rattle.icn_tree.specs.declared.tree.DeclItem.{DeclItem}
use Rattle.icn_tree.specs.declared.tree.Name.{Name}
use Rattle.icn_tree.specs.Trees.{Procedure, Declaration, Global, Link, Invocable, Record, ProcedureOf}
use Rattle.icn_decls.specs.Faults.{names_after, declarations_faults, procedure_faults}
use Rattle.icn_tree.specs.NameSets.{NameTest, none_met}
use Rattle.icn_unit.specs.declared.unit.UnitInstr.{UnitInstr}
use Rattle.icn_unit.specs.declared.unit.UnitInstr.TheVariants as I
use Rattle.icn_unit.specs.PlainUnits.{Global as GlobalLine, Link as LinkLine, Invocable as InvocableLine}
use Rattle.icn_unit.specs.UnitRules.{is_byte_text}
use Rattle.icn_link.specs.JoinableUnits.{is_joinable, is_joinable_decl, is_joinable_instr, is_joinable_proc}
use Rattle.icn_translate.specs.FileUnits.{item_text, lines_in, proc_codes, translated_unit, unit_decls}
use Rattle.icn_translate.specs.NumbersTaken.{HaveRoom, procedure_numbers}
use Rattle.icn_translate.specs.ProcCodes.{proc_code}
use Rattle.icn_units.specs.CodeNames.{variable_is_named}
use Rattle.icn_units.specs.Written.{name_fits, names_fit, all_locals_fit, initial_fits, trees_fit, operand_fits, procedure_fits, collects_fits, declaration_fits, file_fits}
use Rattle.icn_units.proofs.CodeTexts.{code_names_fit, code_operands_fit, texts_fit}
use Rattle.icn_units.proofs.EntryNames.{code_variables_named}
use Rattle.icn_units.proofs.FileNames.{first_faultless, others_faultless}
use Rattle.icn_units.proofs.RulesKept.{some_params}
use Rattle.icn_units.proofs.WrittenTrees.{and_first, and_second, and_intro}
use Rattle.law_simulation.specs.Faultless.{IsFaultless}
use Rattle.law_link.proofs.ElementCounts.{count_fits, counts_fit}

instr_joinable : (names : ℕ) (i : UnitInstr) → operand_fits is_byte_text i ≡ true → variable_is_named names i ≡ true
    → count_fits i ≡ true → is_joinable_instr names i ≡ true
instr_joinable names (I.Int n) o v c = o
instr_joinable names (I.Str bytes) o v c = o
instr_joinable names (I.Var k) o v c = v
instr_joinable names (I.Llist n) o v c = c
instr_joinable names (I.Field name) o v c = o
instr_joinable names (I.Invoke n) o v c = c
instr_joinable names i o v c = refl

instrs_joinable : (names : ℕ) (is : List UnitInstr) → list_all (operand_fits is_byte_text) is ≡ true
    → list_all (variable_is_named names) is ≡ true → list_all count_fits is ≡ true → list_all (λ i. is_joinable_instr names i) is ≡ true
instrs_joinable names [] o v c = refl
instrs_joinable names (i ∷ is) o v c =
    and_intro (instr_joinable names i (and_first (operand_fits is_byte_text i) (list_all (operand_fits is_byte_text) is) o)
    (and_first (variable_is_named names i) (list_all (variable_is_named names) is) v)
    (and_first (count_fits i) (list_all count_fits is) c))
    (instrs_joinable names is (and_second (operand_fits is_byte_text i) (list_all (operand_fits is_byte_text) is) o)
    (and_second (variable_is_named names i) (list_all (variable_is_named names) is) v)
    (and_second (count_fits i) (list_all count_fits is) c))

-- the name of a procedure
named : (p : Procedure) → procedure_fits is_byte_text p ≡ true → name_fits p.name ≡ true
named p w =
    and_first (name_fits p.name) (names_fit p.parameters && (all_locals_fit p.locals
    && (initial_fits is_byte_text p.initial && trees_fit is_byte_text p.body))) w

proc_joinable : (met : NameTest) (p : Procedure) → procedure_faults met p ≡ [] → procedure_fits is_byte_text p ≡ true
    → collects_fits p ≡ true → procedure_numbers p < 4294967296 → is_joinable_proc (proc_code p) ≡ true
proc_joinable met p f w collects room =
    and_intro (and_intro (and_intro (named p w) (some_params p collects)) (code_names_fit is_byte_text met p f w))
    (instrs_joinable (length (proc_code p).names) (proc_code p).instrs (code_operands_fit is_byte_text met p f w)
    (code_variables_named met p f) (counts_fit p room))

procs_joinable : (met : NameTest) (file : List Declaration) → declarations_faults met file ≡ [] → file_fits is_byte_text file ≡ true
    → HaveRoom file → list_all is_joinable_proc (proc_codes file) ≡ true
procs_joinable met [] f w room = refl
procs_joinable met (Global place names ∷ others) f w room =
    procs_joinable met others (others_faultless met (Global place names) others f)
    (and_second (declaration_fits is_byte_text (Global place names)) (file_fits is_byte_text others) w) room.1
procs_joinable met (Link place items ∷ others) f w room =
    procs_joinable met others (others_faultless met (Link place items) others f)
    (and_second (declaration_fits is_byte_text (Link place items)) (file_fits is_byte_text others) w) room.1
procs_joinable met (Invocable place items ∷ others) f w room =
    procs_joinable met others (others_faultless met (Invocable place items) others f)
    (and_second (declaration_fits is_byte_text (Invocable place items)) (file_fits is_byte_text others) w) room.1
procs_joinable met (Record place name fields ∷ others) f w room =
    procs_joinable (names_after met (Record place name fields)) others (others_faultless met (Record place name fields) others f)
    (and_second (declaration_fits is_byte_text (Record place name fields)) (file_fits is_byte_text others) w) room.1
procs_joinable met (ProcedureOf p ∷ others) f w room =
    let here = and_first (declaration_fits is_byte_text (ProcedureOf p)) (file_fits is_byte_text others) w in
    and_intro (proc_joinable met p (first_faultless met (ProcedureOf p) others f)
    (and_first (procedure_fits is_byte_text p) (collects_fits p) here)
    (and_second (procedure_fits is_byte_text p) (collects_fits p) here) room.0)
    (procs_joinable (names_after met (ProcedureOf p)) others (others_faultless met (ProcedureOf p) others f)
    (and_second (declaration_fits is_byte_text (ProcedureOf p)) (file_fits is_byte_text others) w) room.1)

-- Declarations

globals_joinable : (names : List Name) → names_fit names ≡ true
    → list_all is_joinable_decl (map (λ (name : Name). GlobalLine name.text) names) ≡ true
globals_joinable [] h = refl
globals_joinable (name ∷ names) h = and_intro (and_first (name_fits name) (names_fit names) h)
    (globals_joinable names (and_second (name_fits name) (names_fit names) h))

links_joinable : (items : List DeclItem) → list_all is_joinable_decl (map (λ (item : DeclItem). LinkLine (item_text item)) items) ≡ true
links_joinable [] = refl
links_joinable (item ∷ items) = links_joinable items

invocables_joinable : (items : List DeclItem) → list_all is_joinable_decl (map (λ (item : DeclItem). InvocableLine (item_text item)) items) ≡ true
invocables_joinable [] = refl
invocables_joinable (item ∷ items) = invocables_joinable items

lines_joinable : (declaration : Declaration) → declaration_fits is_byte_text declaration ≡ true
    → list_all is_joinable_decl (lines_in declaration) ≡ true
lines_joinable (Global place names) h = globals_joinable names h
lines_joinable (Link place items) h = links_joinable items
lines_joinable (Invocable place items) h = invocables_joinable items
lines_joinable (Record place name fields) h =
    and_intro (and_intro (and_first (name_fits name) (names_fit fields) h) (texts_fit fields (and_second (name_fits name) (names_fit fields) h))) refl
lines_joinable (ProcedureOf p) h = and_intro (named p (and_first (procedure_fits is_byte_text p) (collects_fits p) h)) refl

decls_joinable : (file : List Declaration) → file_fits is_byte_text file ≡ true → list_all is_joinable_decl (unit_decls file) ≡ true
decls_joinable [] w = refl
decls_joinable (declaration ∷ others) w =
    list_all-append is_joinable_decl (lines_in declaration) (unit_decls others)
    ∙ and_intro (lines_joinable declaration (and_first (declaration_fits is_byte_text declaration) (file_fits is_byte_text others) w))
    (decls_joinable others (and_second (declaration_fits is_byte_text declaration) (file_fits is_byte_text others) w))

pub file_joinable : (name : List ℕ) (file : List Declaration) → IsFaultless file → HaveRoom file → file_fits is_byte_text file ≡ true
    → is_joinable (translated_unit name file) ≡ true
file_joinable name file h room w = and_intro (procs_joinable none_met file h.context w room) (decls_joinable file w)
