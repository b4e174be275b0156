-- The unit of a text that breaks no rule keeps the rules of units, where its numbers and bytes are as their types say.
use Rattle.std.proofs.Common.{◌≡◌, ◌≤◌, ◌<◌, ◌⊎◌, inl, inr, ℕ, suc, ◌+◌, Bool, true, false, cond, not, ◌&&◌, ◌||◌, nat_le, nat_lt, List, [], ◌∷◌, ◌++◌, length, map, refl, sym, ap, ◌∙◌, subst, if◌then◌else◌, arith}
use Rattle.std.specs.List.{list_all, flat_map}
use Rattle.std.proofs.Math.Bool.{Bool-set}
use Rattle.std.proofs.Math.Logic.{∥∥₁_elim}
use Rattle.std.proofs.lemmas.Bool.Decides.{leb_tells}
use Rattle.std.proofs.lemmas.List.Folds.{list_all-append}
use Rattle.std.proofs.lemmas.List.Sums.{count_by-le-length, sum_by-append, sum_by-cons}
use Rattle.icn_tree.specs.declared.rule.Rule.TheVariants.{C1, C7, C8}
use Rattle.icn_tree.specs.declared.tree.DeclItem.{DeclItem}
use Rattle.icn_tree.specs.declared.tree.DeclItem.TheVariants as Items
use Rattle.icn_tree.specs.declared.tree.Name.{Name}
use Rattle.icn_tree.specs.Trees.{Procedure, Declaration, Global, Link, Invocable, Record, ProcedureOf}
use Rattle.icn_decls.specs.Contexts.{fault, outermost}
use Rattle.icn_decls.specs.Faults.{names_after, declared_names, too_many, fault_if_met, all_repeated, initial_faults, all_faults, procedure_faults, declarations_faults, context_faults}
use Rattle.icn_tree.specs.NameSets.{NameTest, none_met}
use Rattle.icn_decls.specs.CheckedTexts.{IsSpelled}
use Rattle.icn_unit.specs.declared.unit.UnitInstr.{UnitInstr}
use Rattle.icn_unit.specs.declared.unit.UnitInstr.TheVariants as I
use Rattle.icn_unit.specs.declared.unit.NameKind.TheVariants.{Parameter, Undeclared}
use Rattle.icn_unit.specs.declared.unit.UnitName.{UnitName}
use Rattle.icn_unit.specs.PlainUnits.{PlainProc, PlainDecl, is_parameter, params_in}
use Rattle.icn_unit.specs.PlainUnits.{Global as GlobalLine, Link as LinkLine, Invocable as InvocableLine}
use Rattle.icn_unit.specs.UnitOperands.{is_name, ascends}
use Rattle.icn_unit.specs.UnitRules.{is_byte, is_number, keeps_operand, keeps_proc, keeps_decl, keeps_rules, names_differ}
use Rattle.icn_translate.specs.FileUnits.{proc_codes, item_text, lines_in, unit_decls}
use Rattle.icn_translate.specs.ProcCodes.{entry_of, texts_of, local_entries, declared_entries, undeclared_in, proc_code}
use Rattle.icn_units.specs.CodeNames.{variable_is_named, fields_differ}
use Rattle.icn_units.specs.TypeBounds.{number_fits, numbers_fit, bytes_fit}
use Rattle.icn_units.specs.Written.{is_short, name_fits, names_fit, item_fits, operand_fits, procedure_fits, collects_fits, declaration_fits, file_fits, all_locals_fit, initial_fits, trees_fit}
use Rattle.icn_units.proofs.KeptByForms.{none_before}
use Rattle.icn_units.proofs.WrittenTrees.{and_intro, and_first, and_second, nat_le_of_le, le_of_nat_le}
use Rattle.icn_units.proofs.WrittenFiles.{spelled_fits}
use Rattle.icn_units.proofs.ProcedureLabels.{labels_are_distinct, are_placed}
use Rattle.icn_units.proofs.EntryNames.{declared_named, names_declared, names_length, code_names_differ, code_names_in_order, code_variables_named}
use Rattle.icn_units.proofs.CodeTexts.{code_names_fit, code_operands_fit, texts_fit}
use Rattle.icn_units.proofs.FileNames.{first_faultless, others_faultless, names_are_same, unit_fields_differ, unit_owners_differ, unit_procedures_differ}

-- Instructions

-- bytes that ascend are few
few_bytes : (low : ℕ) (members : List ℕ) → ascends (low ∷ members) ≡ true → list_all is_byte (low ∷ members) ≡ true
    → low + length members < 256
few_bytes low [] a h = let k = le_of_nat_le (suc low) 256 (and_first (is_byte low) true h) in omega arith
few_bytes low (b ∷ members) a h =
    let up = le_of_nat_le (suc low) b (and_first (nat_lt low b) (ascends (b ∷ members)) a) in
    let rest = few_bytes b members (and_second (nat_lt low b) (ascends (b ∷ members)) a)
    (and_second (is_byte low) (list_all is_byte (b ∷ members)) h) in
    omega arith

short_set : (members : List ℕ) → ascends members ≡ true → list_all is_byte members ≡ true
    → nat_le (length members) 65535 ≡ true
short_set [] a h = refl
short_set (b ∷ members) a h = let few = few_bytes b members a h in
    nat_le_of_le (suc (length members)) 65535 (omega arith)

operand_kept : (names : ℕ) (i : UnitInstr) → operand_fits is_short i ≡ true → number_fits i ≡ true
    → variable_is_named names i ≡ true → keeps_operand names i ≡ true
operand_kept names (I.Int n) o n' v = o
operand_kept names (I.Str bytes) o n v = and_intro n o
operand_kept names (I.Cset members) o n v =
    let bytes = and_first (list_all is_byte members) (ascends members) o in
    let up = and_second (list_all is_byte members) (ascends members) o in
    and_intro (and_intro bytes (short_set members up bytes)) up
operand_kept names (I.Var k) o n v = and_intro v n
operand_kept names (I.Field name) o n v = o
operand_kept names (I.Llist k) o n v = n
operand_kept names (I.Invoke k) o n v = n
operand_kept names (I.Mark label) o n v = n
operand_kept names (I.Chfail label) o n v = n
operand_kept names (I.Goto label) o n v = n
operand_kept names (I.Loop label) o n v = n
operand_kept names (I.Init label) o n v = n
operand_kept names (I.Create label) o n v = n
operand_kept names (I.Lab label) o n v = n
operand_kept names i o n v = refl

operands_kept : (names : ℕ) (is : List UnitInstr) → list_all (operand_fits is_short) is ≡ true → list_all number_fits is ≡ true
    → list_all (variable_is_named names) is ≡ true
    → list_all (keeps_operand names) is ≡ true
operands_kept names [] o n v = refl
operands_kept names (i ∷ is) o n v =
    and_intro (operand_kept names i (and_first (operand_fits is_short i) (list_all (operand_fits is_short) is) o)
    (and_first (number_fits i) (list_all number_fits is) n)
    (and_first (variable_is_named names i) (list_all (variable_is_named names) is) v))
    (operands_kept names is (and_second (operand_fits is_short i) (list_all (operand_fits is_short) is) o)
    (and_second (number_fits i) (list_all number_fits is) n)
    (and_second (variable_is_named names i) (list_all (variable_is_named names) is) v))

-- Parameters

none_undeclared : (texts : List (List ℕ)) → params_in (map (entry_of Undeclared) texts) ≡ 0
none_undeclared [] = refl
none_undeclared (text ∷ texts) = sum_by-cons (λ (x : UnitName). cond (is_parameter x.kind) 1 0)
    (entry_of Undeclared text) (map (entry_of Undeclared) texts) ∙ ap (λ n. 0 + n) (none_undeclared texts)

params_most : (procedure : Procedure) → params_in (proc_code procedure).names ≤ length (declared_entries procedure)
params_most procedure =
    let others = map (entry_of Undeclared) (undeclared_in procedure) in
    let sum = sum_by-append (λ (x : UnitName). cond (is_parameter x.kind) 1 0)
    (declared_entries procedure) others in
    let none = none_undeclared (undeclared_in procedure) in
    let most = count_by-le-length (λ (x : UnitName). is_parameter x.kind) (declared_entries procedure) in
    omega arith

at_most : (count : ℕ) (name : Name) → too_many count name ≡ [] → count ≤ 65535
at_most count name h = by (leb_tells (suc 65535) count) h
  where
    by : ((nat_lt 65535 count ≡ true) × (65536 ≤ count)) ⊎ ((nat_lt 65535 count ≡ false) × (count < 65536))
        → too_many count name ≡ [] → count ≤ 65535
    by (inl t) h = absurd (let f = t.0 in let g = sym (ap (λ b. if b then fault C7 name.place else []) t.0)
        ∙ h in cc)
    by (inr t) h = let k = t.1 in omega arith

some_counted : (names : List Name) (locals others : List UnitName) → nat_lt 0 (length names) ≡ true
    → 1 ≤ params_in ((map (λ (name : Name). entry_of Parameter name.text) names ++ locals) ++ others)
some_counted [] locals others h = absurd (cc)
some_counted (name ∷ names) locals others h =
    let rest = (map (λ (name : Name). entry_of Parameter name.text) names ++ locals) ++ others in
    let count = sum_by-cons (λ (x : UnitName). cond (is_parameter x.kind) 1 0)
    (entry_of Parameter name.text) rest in
    omega arith

pub some_params : (procedure : Procedure) → collects_fits procedure ≡ true
    → (not procedure.is_variadic || nat_lt 0 (params_in (proc_code procedure).names)) ≡ true
some_params procedure h = by procedure.is_variadic h
  where
    by : (b : Bool) → (not b || nat_lt 0 (length procedure.parameters)) ≡ true
        → (not b || nat_lt 0 (params_in (proc_code procedure).names)) ≡ true
    by false h = refl
    by true h = nat_le_of_le 1 (params_in (proc_code procedure).names)
        (some_counted procedure.parameters (flat_map local_entries procedure.locals)
        (map (entry_of Undeclared) (undeclared_in procedure)) h)

-- A procedure

module _ (met : NameTest) (procedure : Procedure) (faultless : procedure_faults met procedure ≡ [])
    (written : procedure_fits is_short procedure ≡ true)
    (collects : collects_fits procedure ≡ true) (numbers : numbers_fit (proc_code procedure) ≡ true) where
  few_params : is_number (params_in (proc_code procedure).names) ≡ true
  few_params =
      let many = too_many (length (declared_names procedure)) procedure.name in
      let rest = fault_if_met C8 met procedure.name
      ++ (all_repeated C1 none_met (declared_names procedure)
      ++ (initial_faults procedure.initial ++ all_faults outermost procedure.body)) in
      let few = at_most (length (declared_names procedure)) procedure.name (none_before many rest faultless) in
      let most = params_most procedure in
      let same : length (declared_entries procedure) ≡ length (declared_names procedure) =
      sym (names_length (declared_entries procedure)) ∙ ap length (declared_named procedure)
      ∙ ap length (sym (names_declared procedure)) ∙ texts_length (declared_names procedure) in
      nat_le_of_le (params_in (proc_code procedure).names) 4294967295 (omega arith)
    where
      texts_length : (names : List Name) → length (texts_of names) ≡ length names
      texts_length [] = refl
      texts_length (name ∷ names) = ap suc (texts_length names)

  proc_kept : keeps_proc (proc_code procedure) ≡ true
  proc_kept =
      let proc = proc_code procedure in
      let named = and_first (name_fits procedure.name)
      (names_fit procedure.parameters && (all_locals_fit procedure.locals &&
      (initial_fits is_short procedure.initial && trees_fit is_short procedure.body))) written in
      and_intro (and_intro (and_intro (and_intro named few_params) (some_params procedure collects))
      (and_intro (and_intro (code_names_fit is_short met procedure faultless written) (code_names_differ met procedure faultless))
      (code_names_in_order met procedure faultless)))
      (and_intro (and_intro (operands_kept (length proc.names) proc.instrs
      (code_operands_fit is_short met procedure faultless written) numbers
      (code_variables_named met procedure faultless))
      (labels_are_distinct met procedure faultless)) (are_placed met procedure faultless))

-- A whole text

codes_kept : (met : NameTest) (file : List Declaration) → declarations_faults met file ≡ [] → file_fits is_short file ≡ true
    → list_all numbers_fit (proc_codes file) ≡ true
    → list_all keeps_proc (proc_codes file) ≡ true
codes_kept met [] f w n = refl
codes_kept met (Global place names ∷ others) f w n =
    codes_kept met others (others_faultless met (Global place names) others f)
    (and_second (declaration_fits is_short (Global place names)) (file_fits is_short others) w) n
codes_kept met (Link place items ∷ others) f w n =
    codes_kept met others (others_faultless met (Link place items) others f)
    (and_second (declaration_fits is_short (Link place items)) (file_fits is_short others) w) n
codes_kept met (Invocable place items ∷ others) f w n =
    codes_kept met others (others_faultless met (Invocable place items) others f)
    (and_second (declaration_fits is_short (Invocable place items)) (file_fits is_short others) w) n
codes_kept met (Record place name fields ∷ others) f w n =
    codes_kept (names_after met (Record place name fields)) others
    (others_faultless met (Record place name fields) others f)
    (and_second (declaration_fits is_short (Record place name fields)) (file_fits is_short others) w) n
codes_kept met (ProcedureOf p ∷ others) f w n =
    let here = and_first (declaration_fits is_short (ProcedureOf p)) (file_fits is_short others) w in
    and_intro (proc_kept met p (first_faultless met (ProcedureOf p) others f)
    (and_first (procedure_fits is_short p) (collects_fits p) here) (and_second (procedure_fits is_short p) (collects_fits p) here)
    (and_first (numbers_fit (proc_code p)) (list_all numbers_fit (proc_codes others)) n))
    (codes_kept (names_after met (ProcedureOf p)) others (others_faultless met (ProcedureOf p) others f)
    (and_second (declaration_fits is_short (ProcedureOf p)) (file_fits is_short others) w)
    (and_second (numbers_fit (proc_code p)) (list_all numbers_fit (proc_codes others)) n))

short_name : (text : List ℕ) → is_name text ≡ true → nat_le (length text) 65535 ≡ true
short_name [] h = absurd (cc)
short_name (b ∷ rest) h = let k = le_of_nat_le (length (b ∷ rest)) 65535 (and_second _ (nat_le (length (b ∷ rest)) 65535) h) in
    nat_le_of_le (suc (length rest)) 65535 (omega arith)

short_item : (item : DeclItem) → item_fits is_short item ≡ true → nat_le (length (item_text item)) 65535 ≡ true
short_item (Items.Identifier name) h = short_name name.text h
short_item (Items.Text name) h = h

globals_kept : (names : List Name) → names_fit names ≡ true
    → list_all keeps_decl (map (λ (name : Name). GlobalLine name.text) names) ≡ true
globals_kept [] h = refl
globals_kept (name ∷ names) h = and_intro (and_first (name_fits name) (names_fit names) h)
    (globals_kept names (and_second (name_fits name) (names_fit names) h))

links_kept : (items : List DeclItem) → list_all (item_fits is_short) items ≡ true
    → list_all bytes_fit (map (λ (item : DeclItem). LinkLine (item_text item)) items) ≡ true
    → list_all keeps_decl (map (λ (item : DeclItem). LinkLine (item_text item)) items) ≡ true
links_kept [] h b = refl
links_kept (item ∷ items) h b =
    let rest = list_all bytes_fit (map (λ (item : DeclItem). LinkLine (item_text item)) items) in
    and_intro (and_intro (and_first (list_all is_byte (item_text item)) rest b)
    (short_item item (and_first (item_fits is_short item) (list_all (item_fits is_short) items) h)))
    (links_kept items (and_second (item_fits is_short item) (list_all (item_fits is_short) items) h)
    (and_second (list_all is_byte (item_text item)) rest b))

invocables_kept : (items : List DeclItem) → list_all (item_fits is_short) items ≡ true
    → list_all bytes_fit (map (λ (item : DeclItem). InvocableLine (item_text item)) items) ≡ true
    → list_all keeps_decl (map (λ (item : DeclItem). InvocableLine (item_text item)) items) ≡ true
invocables_kept [] h b = refl
invocables_kept (item ∷ items) h b =
    let rest = list_all bytes_fit (map (λ (item : DeclItem). InvocableLine (item_text item)) items) in
    and_intro (and_intro (and_first (list_all is_byte (item_text item)) rest b)
    (short_item item (and_first (item_fits is_short item) (list_all (item_fits is_short) items) h)))
    (invocables_kept items (and_second (item_fits is_short item) (list_all (item_fits is_short) items) h)
    (and_second (list_all is_byte (item_text item)) rest b))

lines_kept : (declaration : Declaration) → declaration_fits is_short declaration ≡ true
    → list_all fields_differ (lines_in declaration) ≡ true → list_all bytes_fit (lines_in declaration) ≡ true
    → list_all keeps_decl (lines_in declaration) ≡ true
lines_kept (Global place names) h f b = globals_kept names h
lines_kept (Link place items) h f b = links_kept items h b
lines_kept (Invocable place items) h f b = invocables_kept items h b
lines_kept (Record place name fields) h f b =
    and_intro (and_intro (and_intro (and_first (name_fits name) (names_fit fields) h)
    (texts_fit fields (and_second (name_fits name) (names_fit fields) h)))
    (and_first (names_differ (texts_of fields)) true f)) refl
lines_kept (ProcedureOf p) h f b =
    and_intro (and_first (name_fits p.name) (names_fit p.parameters &&
    (all_locals_fit p.locals && (initial_fits is_short p.initial && trees_fit is_short p.body)))
    (and_first (procedure_fits is_short p) (collects_fits p) h)) refl

-- both parts of a list
front_all : {A : Type 0} (test : A → Bool) (xs ys : List A) → list_all test (xs ++ ys) ≡ true → list_all test xs
    ≡ true
front_all test xs ys h = and_first (list_all test xs) (list_all test ys) (sym (list_all-append test xs ys) ∙ h)

back_all : {A : Type 0} (test : A → Bool) (xs ys : List A) → list_all test (xs ++ ys) ≡ true → list_all test ys
    ≡ true
back_all test xs ys h = and_second (list_all test xs) (list_all test ys) (sym (list_all-append test xs ys) ∙ h)

decls_kept : (file : List Declaration) → file_fits is_short file ≡ true → list_all fields_differ (unit_decls file) ≡ true
    → list_all bytes_fit (unit_decls file) ≡ true
    → list_all keeps_decl (unit_decls file) ≡ true
decls_kept [] w f b = refl
decls_kept (declaration ∷ others) w f b =
    let here = lines_in declaration in
    let later = unit_decls others in
    list_all-append keeps_decl here later
    ∙ and_intro (lines_kept declaration (and_first (declaration_fits is_short declaration) (file_fits is_short others) w)
    (front_all fields_differ here later f) (front_all bytes_fit here later b))
    (decls_kept others (and_second (declaration_fits is_short declaration) (file_fits is_short others) w)
    (back_all fields_differ here later f) (back_all bytes_fit here later b))

pub unit_keeps_rules : (file : List Declaration) → IsSpelled file → context_faults file ≡ []
    → list_all numbers_fit (proc_codes file) ≡ true → list_all bytes_fit (unit_decls file) ≡ true
    → keeps_rules (proc_codes file) (unit_decls file) ≡ true
unfolding keeps_rules
unit_keeps_rules file spelled f n b =
    let w = spelled_fits file spelled in
    and_intro (and_intro (and_intro (codes_kept none_met file f w n) (unit_procedures_differ none_met file f))
    (and_intro (decls_kept file w (unit_fields_differ none_met file f) b) (unit_owners_differ none_met file f)))
    (names_are_same file)

-- The same of lists that are these, where it is only known that there is a spelling: that rules are kept is a test.
pub checked_keeps_rules : (file : List Declaration) → ∥ IsSpelled file ∥₁ → context_faults file ≡ []
    → (procs : List PlainProc) (decls : List PlainDecl) → procs ≡ proc_codes file → decls ≡ unit_decls file
    → list_all numbers_fit procs ≡ true → list_all bytes_fit decls ≡ true → keeps_rules procs decls ≡ true
checked_keeps_rules file spelled f procs decls p d n b =
    ∥∥₁_elim spelled (Bool-set _ _)
    (λ s. subst (λ ps. keeps_rules ps decls ≡ true) (sym p)
    (subst (λ ds. keeps_rules (proc_codes file) ds ≡ true) (sym d)
    (unit_keeps_rules file s f (subst (λ ps. list_all numbers_fit ps ≡ true) p n)
    (subst (λ ds. list_all bytes_fit ds ≡ true) d b))))
