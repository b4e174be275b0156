-- Units that keep the rules of units can be joined.
use Rattle.std.proofs.Common.{◌≡◌, ℕ, true, ◌&&◌, ◌||◌, not, nat_lt, List, [], ◌∷◌, length, refl, ◌∙◌}
use Rattle.std.specs.List.{list_all}
use Rattle.std.proofs.lemmas.Bool.{and_parts}
use Rattle.std.proofs.lemmas.List.Folds.{list_all-append}
use Rattle.icn_unit.specs.declared.unit.Unit.{Unit}
use Rattle.icn_unit.specs.declared.unit.UnitInstr.{UnitInstr}
use Rattle.icn_unit.specs.declared.unit.UnitInstr.TheVariants as U
use Rattle.icn_unit.specs.PlainUnits.{PlainProc, PlainDecl, Global as GlobalDecl, Procedure, Link, Invocable, Record, UnitRead, entry_names, owned_names, params_in, proc_names}
use Rattle.icn_unit.specs.UnitOperands.{is_name}
use Rattle.icn_unit.specs.UnitRules.{in_order, is_number, keeps_code, keeps_decl, keeps_decls, keeps_head, keeps_names, keeps_operand, keeps_proc, keeps_procs, keeps_rules, labels_differ, labels_placed, names_differ, placed_labels, same_names}
use Rattle.icn_link.specs.JoinableUnits.{is_joinable, is_joinable_decl, is_joinable_instr, is_joinable_proc}
use Rattle.icn_link.specs.Units.{all_decls, all_procs, unit_seen, units_seen}
use Rattle.icn_link.proofs.EachOnce.{all_then, and_intro}

instr_joinable : (names : ℕ) (instr : UnitInstr) → keeps_operand names instr ≡ true → is_joinable_instr names instr ≡ true
instr_joinable names (U.Int n) h = h
instr_joinable names (U.Str bytes) h = h
instr_joinable names (U.Var k) h = (and_parts (nat_lt k names) (is_number k) h).0
instr_joinable names (U.Llist n) h = h
instr_joinable names (U.Field name) h = h
instr_joinable names (U.Invoke n) h = h
instr_joinable names instr h = refl

proc_joinable : (proc : PlainProc) → keeps_proc proc ≡ true → is_joinable_proc proc ≡ true
proc_joinable proc kept =
    let few = is_number (params_in proc.names) in
    let collects = not proc.collects || nat_lt 0 (params_in proc.names) in
    let head = keeps_head proc.name (params_in proc.names) proc.collects in
    let named = list_all is_name (entry_names proc.names) in
    let differ = names_differ (entry_names proc.names) in
    let operands = list_all (λ instr. keeps_operand (length proc.names) instr) proc.instrs in
    let labels = labels_differ (placed_labels proc.instrs) in
    let parts = and_parts (head && keeps_names proc.names) (keeps_code (length proc.names) proc.instrs) kept in
    let front = and_parts head (keeps_names proc.names) parts.0 in
    let first = and_parts (is_name proc.name && few) collects front.0 in
    let names = and_parts (named && differ) (in_order proc.names) front.1 in
    let code = and_parts (operands && labels) (labels_placed proc.instrs) parts.1 in
    and_intro (and_intro (and_intro (and_parts (is_name proc.name) few first.0).0 first.1) (and_parts named differ names.0).0)
    (all_then _ _ (instr_joinable (length proc.names)) proc.instrs (and_parts operands labels code.0).0)

decl_joinable : (decl : PlainDecl) → keeps_decl decl ≡ true → is_joinable_decl decl ≡ true
decl_joinable (GlobalDecl name) h = h
decl_joinable (Procedure name) h = h
decl_joinable (Link text) h = refl
decl_joinable (Invocable text) h = refl
decl_joinable (Record name fields) h = (and_parts (is_name name && list_all is_name fields) (names_differ fields) h).0

pub unit_joinable : (unit : UnitRead) → keeps_rules unit.procs unit.decls ≡ true → is_joinable unit ≡ true
unfolding keeps_rules
unit_joinable unit kept =
    let first = and_parts (keeps_procs unit.procs && keeps_decls unit.decls) (same_names unit.procs unit.decls) kept in
    let parts = and_parts (keeps_procs unit.procs) (keeps_decls unit.decls) first.0 in
    let procs = and_parts (list_all keeps_proc unit.procs) (names_differ (proc_names unit.procs)) parts.0 in
    let decls = and_parts (list_all keeps_decl unit.decls) (names_differ (owned_names unit.decls)) parts.1 in
    and_intro (all_then keeps_proc is_joinable_proc proc_joinable unit.procs procs.0)
    (all_then keeps_decl is_joinable_decl decl_joinable unit.decls decls.0)

-- by their type
pub units_joinable : (units : List Unit) → list_all is_joinable (units_seen units) ≡ true
units_joinable [] = refl
units_joinable (unit ∷ units) = and_intro (unit_joinable (unit_seen unit) unit.rules) (units_joinable units)

-- All units

pub units_procs : (units : List UnitRead) → list_all is_joinable units ≡ true → list_all is_joinable_proc (all_procs units) ≡ true
units_procs [] h = refl
units_procs (unit ∷ units) h =
    let first = and_parts (is_joinable unit) (list_all is_joinable units) h in
    list_all-append is_joinable_proc unit.procs (all_procs units)
    ∙ and_intro (and_parts (list_all is_joinable_proc unit.procs) (list_all is_joinable_decl unit.decls) first.0).0 (units_procs units first.1)

pub units_decls : (units : List UnitRead) → list_all is_joinable units ≡ true → list_all is_joinable_decl (all_decls units) ≡ true
units_decls [] h = refl
units_decls (unit ∷ units) h =
    let first = and_parts (is_joinable unit) (list_all is_joinable units) h in
    list_all-append is_joinable_decl unit.decls (all_decls units)
    ∙ and_intro (and_parts (list_all is_joinable_proc unit.procs) (list_all is_joinable_decl unit.decls) first.0).1 (units_decls units first.1)
