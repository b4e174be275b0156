-- The linked code of the units of files that break no rule is the code of their declarations, table by table.
use Rattle.std.proofs.Common.{◌≡◌, ℕ, zero, suc, ◌+◌, ◌-◌, Bool, true, false, ◌&&◌, List, [], ◌∷◌, ◌++◌, length, map, filter, cond, not, Option, None, Some, refl, sym, ap, ◌∙◌, subst, append-nil, if◌then◌else◌, arith}
use Rattle.std.specs.Prelude.{All}
use Rattle.std.specs.List.{flat_map, list_all, list_any}
use Rattle.std.specs.Option.{option_map}
use Rattle.std.specs.Str.{bytes_eq}
use Rattle.std.proofs.Math.Bool.{Bool-set}
use Rattle.std.proofs.Math.Logic.{∥∥₁_elim}
use Rattle.std.proofs.lemmas.Grind.{flat_map-append}
use Rattle.std.proofs.lemmas.List.Folds.{list_all-append}
use Rattle.icn_text.specs.declared.func.Func.{Func}
use Rattle.icn_tree.specs.declared.tree.DeclItem.{DeclItem}
use Rattle.icn_tree.specs.declared.tree.Name.{Name}
use Rattle.icn_tree.specs.Trees.{Procedure, Declaration, Global, Link, Invocable, Record, ProcedureOf}
use Rattle.icn_code.specs.Codes.{Tables}
use Rattle.icn_unit.specs.declared.unit.UnitInstr.{UnitInstr}
use Rattle.icn_unit.specs.declared.unit.UnitInstr.TheVariants as I
use Rattle.icn_unit.specs.PlainUnits.{proc_names}
use Rattle.icn_unit.specs.PlainUnits.{Global as GlobalLine, Link as LinkLine, Invocable as InvocableLine}
use Rattle.icn_unit.specs.UnitOperands.{ascends}
use Rattle.icn_unit.specs.UnitRules.{is_byte}
use Rattle.icn_decls.specs.Faults.{names_after, declarations_faults}
use Rattle.icn_tree.specs.NameSets.{NameTest, none_met}
use Rattle.icn_link.specs.FirstMentions.{text_index, integer_index, with_texts}
use Rattle.icn_link.specs.Joined as Linked
use Rattle.icn_link.specs.Joined.{records_in, proc_entry, cset_of, joined_of, scope_of}
use Rattle.icn_link.specs.Mentions.{AllMentions, all_mentions, mention_of, mentioned_in, mentioned_by, set_in, global_in, record_names, declared_names}
use Rattle.icn_link.specs.Mentions as Mentions
use Rattle.icn_link.specs.Units.{all_decls, all_procs}
use Rattle.icn_meaning.specs.Program.{joined_declarations, texts, has_name, global_names, procedures_of, kinds_of, kind_names, routine_names, routine_of, routines_of, function_named, globals_of, statics_among, index_of, later}
use Rattle.icn_run.specs.Step.{members_of}
use Rattle.law_simulation.specs.Faultless.{IsFaultless}
use Rattle.law_simulation.specs.JoinedFiles as Law
use Rattle.law_simulation.specs.JoinedFiles.{IsCodeOf, IsJoined, code_with, names_in, routines, procedure_entry, record_entry, global_entry}
use Rattle.law_simulation.specs.Mentions.{firsts}
use Rattle.law_simulation.proofs.CheckedProcedures.{EachProcedure, IsSoundProcedure, sound_files}
use Rattle.icn_translate.specs.Drafts.{name_index}
use Rattle.icn_translate.specs.FileUnits.{codes_in, proc_codes, item_text, lines_in, unit_decls, translated_unit}
use Rattle.icn_translate.specs.ProcCodes.{texts_of, draft_of, proc_code}
use Rattle.icn_units.specs.Written.{is_short, file_fits, declaration_fits, procedure_fits, collects_fits, operand_fits}
use Rattle.icn_units.proofs.CodeTexts.{code_operands_fit}
use Rattle.icn_units.proofs.FileNames.{first_faultless, others_faultless}
use Rattle.icn_units.proofs.WrittenFiles.{spelled_fits}
use Rattle.icn_units.proofs.WrittenTrees.{and_first, and_second, and_intro}
use Rattle.law_link.specs.TranslatedUnits.{translated_units}
use Rattle.law_link.proofs.CodeLaw.{code_is}
use Rattle.law_link.proofs.CodeNames.{AgreeOn}
use Rattle.law_link.proofs.FileTables.{Fit, codes_same, globals_same, records_same, procedures_same, table_globals, table_fields, table_integers, table_sets, table_strings}
use Rattle.law_link.proofs.FirstsOnce.{has_any, texts_any, texts_firsts}
use Rattle.law_link.proofs.NameEntries.{IsFit, texts_same, locals_counted, statics_counted, locals_same, statics_same, parameters_counted, variable_same}
use Rattle.law_link.proofs.SetBits.{set_members}
use Rattle.law_link.proofs.UsedFunctions.{function_same}

-- Where names stand

pub place_same : (name : List ℕ) (names : List (List ℕ)) → Linked.index_of names name ≡ index_of name names
place_same name [] = refl
place_same name (other ∷ names) = ap (λ o. if bytes_eq name other then Some zero else o)
    (moved (Linked.index_of names name) ∙ ap later (place_same name names))
  where
    moved : (o : Option ℕ) → option_map suc o ≡ later o
    moved None = refl
    moved (Some k) = refl

start_same : (proc kind : Option ℕ) (declared : Bool) (function : Option Func)
    → Linked.start_by proc kind declared function ≡ Law.start_by proc kind declared function
start_same (Some n) kind declared function = refl
start_same None (Some n) declared function = refl
start_same None None true function = refl
start_same None None false (Some function) = refl
start_same None None false None = refl

map_same : {A B : Type 0} (f g : A → B) → ((x : A) → f x ≡ g x) → (xs : List A) → map f xs ≡ map g xs
map_same f g h [] = refl
map_same f g h (x ∷ xs) = ap (λ y. y ∷ map f xs) (h x) ∙ ap (λ ys. g x ∷ ys) (map_same f g h xs)

module _ (file : List Declaration) (fit : Fit (procedures_of file)) where
  abbrev pub M : AllMentions
  M = all_mentions (unit_decls file) (proc_codes file)

  -- Procedures

  pub agrees : (procedure : Procedure) → IsFit procedure → (first : ℕ)
      → AgreeOn (scope_of M (proc_code procedure)) (names_in file (routine_of (globals_of file) first procedure)) (draft_of procedure).names
  agrees procedure h first = record {
    integer = λ n. ap (λ t. integer_index t n) (table_integers file fit);
    string = λ bytes. ap (λ t. text_index t bytes) (table_strings file fit);
    set = λ members. ap (λ t. text_index t members) (table_sets file fit);
    field = λ name. ap (λ t. text_index t name) (table_fields file fit);
    variable = λ name among.
        let place = name_index (draft_of procedure).names name in
        ap (λ g. Linked.variable_at (Linked.variables g 0 0 (proc_code procedure).names) place) (table_globals file fit)
        ∙ variable_same (globals_of file) procedure h name among;
  }

  pub entry_same : (procedure : Procedure) → IsFit procedure → (first : ℕ)
      → proc_entry M (proc_code procedure) ≡ procedure_entry file (routine_of (globals_of file) first procedure)
  entry_same procedure h first =
      let names = (proc_code procedure).names in
      let parameters = parameters_counted procedure in
      let locals : Linked.locals_in M.globals names ≡ length (routine_of (globals_of file) first procedure).locals =
      ap (λ g. Linked.locals_in g names) (table_globals file fit) ∙ locals_counted (globals_of file) names
      ∙ ap length (locals_same (globals_of file) procedure h) in
      let statics : Linked.statics_in M.globals names ≡ length (statics_among procedure.locals) =
      ap (λ g. Linked.statics_in g names) (table_globals file fit) ∙ statics_counted (globals_of file) names
      ∙ ap length (statics_same (globals_of file) procedure) in
      let instrs = code_is (scope_of M (proc_code procedure)) (names_in file (routine_of (globals_of file) first procedure)) h.met procedure h.faultless
      (agrees procedure h first) (λ label. refl) in
      λ i. record {
        name = text_index (table_strings file fit i) procedure.name.text;
        parameters = parameters i;
        collects = procedure.is_variadic;
        locals = locals i - parameters i;
        statics = statics i;
        instrs = instrs i;
      }

  entries_same : (procedures : List Procedure) → Fit procedures → (first : ℕ)
      → map (proc_entry M) (map proc_code procedures) ≡ map (procedure_entry file) (routines_of (globals_of file) first procedures)
  entries_same [] h first = refl
  entries_same (procedure ∷ others) h first =
      let next = first + length (statics_among procedure.locals) in
      ap (λ entry. entry ∷ map (proc_entry M) (map proc_code others)) (entry_same procedure h.0 first)
      ∙ ap (λ entries. procedure_entry file (routine_of (globals_of file) first procedure) ∷ entries) (entries_same others h.1 next)

  procs_same : map (proc_entry M) (proc_codes file) ≡ map (procedure_entry file) (routines file)
  procs_same = ap (map (proc_entry M)) (codes_same file) ∙ entries_same (procedures_of file) fit 0

  -- Records

  no_record : (names : List Name) → flat_map (records_in M) (map (λ (name : Name). GlobalLine name.text) names) ≡ []
  no_record [] = refl
  no_record (name ∷ names) = no_record names

  no_linked_record : (items : List DeclItem) → flat_map (records_in M) (map (λ (item : DeclItem). LinkLine (item_text item)) items) ≡ []
  no_linked_record [] = refl
  no_linked_record (item ∷ items) = no_linked_record items

  no_named_record : (items : List DeclItem) → flat_map (records_in M) (map (λ (item : DeclItem). InvocableLine (item_text item)) items) ≡ []
  no_named_record [] = refl
  no_named_record (item ∷ items) = no_named_record items

  record_same : (name : Name) (fields : List Name)
      → Linked.record_entry M name.text (texts_of fields) ≡ record_entry file (record { name = name.text; fields = texts fields })
  record_same name fields = λ i. record {
    name = text_index (table_strings file fit i) name.text;
    fields = map (text_index (table_fields file fit i)) (texts_same fields i);
  }

  records_of : (declarations : List Declaration) → flat_map (records_in M) (unit_decls declarations) ≡ map (record_entry file) (kinds_of declarations)
  records_of [] = refl
  records_of (Global place names ∷ others) =
      flat_map-append (records_in M) (lines_in (Global place names)) (unit_decls others)
      ∙ ap (λ l. l ++ flat_map (records_in M) (unit_decls others)) (no_record names) ∙ records_of others
  records_of (Link place items ∷ others) =
      flat_map-append (records_in M) (lines_in (Link place items)) (unit_decls others)
      ∙ ap (λ l. l ++ flat_map (records_in M) (unit_decls others)) (no_linked_record items) ∙ records_of others
  records_of (Invocable place items ∷ others) =
      flat_map-append (records_in M) (lines_in (Invocable place items)) (unit_decls others)
      ∙ ap (λ l. l ++ flat_map (records_in M) (unit_decls others)) (no_named_record items) ∙ records_of others
  records_of (Record place name fields ∷ others) =
      ap (λ entry. entry ∷ flat_map (records_in M) (unit_decls others)) (record_same name fields)
      ∙ ap (λ entries. record_entry file (record { name = name.text; fields = texts fields }) ∷ entries) (records_of others)
  records_of (ProcedureOf procedure ∷ others) = records_of others

  -- Globals

  global_same : (name : List ℕ)
      → Linked.global_entry M (proc_names (proc_codes file)) (record_names (unit_decls file)) name ≡ global_entry file name
  global_same name =
      let procs : Linked.index_of (proc_names (proc_codes file)) name ≡ index_of name (routine_names (routines file)) =
      place_same name (proc_names (proc_codes file)) ∙ ap (index_of name) (procedures_same file) in
      let records : Linked.index_of (record_names (unit_decls file)) name ≡ index_of name (kind_names (kinds_of file)) =
      place_same name (record_names (unit_decls file)) ∙ ap (index_of name) (records_same file) in
      let known : list_any (bytes_eq name) (declared_names (unit_decls file)) ≡ has_name name (global_names file) =
      texts_any (flat_map global_in (unit_decls file)) name ∙ ap (list_any (bytes_eq name)) (globals_same file)
      ∙ sym (has_any name (global_names file)) in
      let start : Linked.start_by (Linked.index_of (proc_names (proc_codes file)) name) (Linked.index_of (record_names (unit_decls file)) name)
      (list_any (bytes_eq name) (declared_names (unit_decls file))) (Mentions.function_named name) ≡ Law.start file name =
      (λ i. Linked.start_by (procs i) (records i) (known i) (function_same name i))
      ∙ start_same (index_of name (routine_names (routines file))) (index_of name (kind_names (kinds_of file))) (has_name name (global_names file))
      (function_named name) in
      λ i. record { name = text_index (table_strings file fit i) name; start = start i }

  all_globals_same : map (Linked.global_entry M (proc_names (proc_codes file)) (record_names (unit_decls file))) M.globals
      ≡ map (global_entry file) (globals_of file)
  all_globals_same =
      let linked = Linked.global_entry M (proc_names (proc_codes file)) (record_names (unit_decls file)) in
      map_same linked (global_entry file) global_same M.globals ∙ ap (map (global_entry file)) (table_globals file fit)

  -- All tables but the csets

  tables_same : joined_of (unit_decls file) (proc_codes file) ≡ code_with file (map cset_of M.sets)
  tables_same = λ i. record {
    strings = table_strings file fit i;
    csets = map cset_of M.sets;
    integers = table_integers file fit i;
    fields = map (text_index (table_strings file fit i)) (table_fields file fit i);
    records = records_of file i;
    globals = all_globals_same i;
    procs = procs_same i;
  }

-- Csets

abbrev set_fits : List ℕ → Bool
set_fits members = list_all is_byte members && ascends members

sets_back : (sets : List (List ℕ)) → list_all set_fits sets ≡ true → map members_of (map cset_of sets) ≡ sets
sets_back [] h = refl
sets_back (members ∷ sets) h =
    let here = and_first (set_fits members) (list_all set_fits sets) h in
    ap (λ l. l ∷ map members_of (map cset_of sets))
    (set_members members (and_first (list_all is_byte members) (ascends members) here) (and_second (list_all is_byte members) (ascends members) here))
    ∙ ap (λ l. members ∷ l) (sets_back sets (and_second (set_fits members) (list_all set_fits sets) h))

some_fit : (test keep : List ℕ → Bool) (xs : List (List ℕ)) → list_all test xs ≡ true → list_all test (filter keep xs) ≡ true
some_fit test keep [] h = refl
some_fit test keep (x ∷ xs) h = by (keep x) (and_first (test x) (list_all test xs) h) (some_fit test keep xs (and_second (test x) (list_all test xs) h))
  where
    by : (b : Bool) → test x ≡ true → list_all test (filter keep xs) ≡ true
        → list_all test (cond b (x ∷ filter keep xs) (filter keep xs)) ≡ true
    by true t r = and_intro t r
    by false t r = r

firsts_fit : (test : List ℕ → Bool) (xs : List (List ℕ)) → list_all test xs ≡ true → list_all test (firsts bytes_eq xs) ≡ true
firsts_fit test [] h = refl
firsts_fit test (x ∷ xs) h = and_intro (and_first (test x) (list_all test xs) h)
    (some_fit test (λ y. not (bytes_eq x y)) (firsts bytes_eq xs) (firsts_fit test xs (and_second (test x) (list_all test xs) h)))

operand_sets : (i : UnitInstr) → operand_fits is_short i ≡ true → list_all set_fits (set_in (mention_of i)) ≡ true
operand_sets (I.Cset members) h = and_intro h refl
operand_sets i h = refl

instrs_sets : (is : List UnitInstr) → list_all (operand_fits is_short) is ≡ true → list_all set_fits (flat_map (λ i. set_in (mention_of i)) is) ≡ true
instrs_sets [] h = refl
instrs_sets (i ∷ is) h =
    list_all-append set_fits (set_in (mention_of i)) (flat_map (λ i. set_in (mention_of i)) is)
    ∙ and_intro (operand_sets i (and_first (operand_fits is_short i) (list_all (operand_fits is_short) is) h))
    (instrs_sets is (and_second (operand_fits is_short i) (list_all (operand_fits is_short) is) h))

file_sets : (met : NameTest) (file : List Declaration) → declarations_faults met file ≡ [] → file_fits is_short file ≡ true
    → list_all set_fits (mentioned_by set_in (proc_codes file)) ≡ true
file_sets met [] f w = refl
file_sets met (Global place names ∷ others) f w = file_sets met others (others_faultless met (Global place names) others f)
    (and_second (declaration_fits is_short (Global place names)) (file_fits is_short others) w)
file_sets met (Link place items ∷ others) f w = file_sets met others (others_faultless met (Link place items) others f)
    (and_second (declaration_fits is_short (Link place items)) (file_fits is_short others) w)
file_sets met (Invocable place items ∷ others) f w = file_sets met others (others_faultless met (Invocable place items) others f)
    (and_second (declaration_fits is_short (Invocable place items)) (file_fits is_short others) w)
file_sets met (Record place name fields ∷ others) f w =
    file_sets (names_after met (Record place name fields)) others (others_faultless met (Record place name fields) others f)
    (and_second (declaration_fits is_short (Record place name fields)) (file_fits is_short others) w)
file_sets met (ProcedureOf p ∷ others) f w =
    let here = and_first (declaration_fits is_short (ProcedureOf p)) (file_fits is_short others) w in
    list_all-append set_fits (mentioned_in set_in (proc_code p)) (mentioned_by set_in (proc_codes others))
    ∙ and_intro (instrs_sets (proc_code p).instrs (code_operands_fit is_short met p (first_faultless met (ProcedureOf p) others f)
    (and_first (procedure_fits is_short p) (collects_fits p) here)))
    (file_sets (names_after met (ProcedureOf p)) others (others_faultless met (ProcedureOf p) others f)
    (and_second (declaration_fits is_short (ProcedureOf p)) (file_fits is_short others) w))

-- A file that breaks no rule

file_fit : (met : NameTest) (file : List Declaration) → declarations_faults met file ≡ []
    → EachProcedure IsSoundProcedure (procedures_of file) → Fit (procedures_of file)
file_fit met [] f s = tt
file_fit met (Global place names ∷ others) f s = file_fit met others (others_faultless met (Global place names) others f) s
file_fit met (Link place items ∷ others) f s = file_fit met others (others_faultless met (Link place items) others f) s
file_fit met (Invocable place items ∷ others) f s = file_fit met others (others_faultless met (Invocable place items) others f) s
file_fit met (Record place name fields ∷ others) f s =
    file_fit (names_after met (Record place name fields)) others (others_faultless met (Record place name fields) others f) s
file_fit met (ProcedureOf p ∷ others) f s = (
  record { met = met; faultless = first_faultless met (ProcedureOf p) others f; initial = s.0.initial_formed; body = s.0.body_formed },
  file_fit (names_after met (ProcedureOf p)) others (others_faultless met (ProcedureOf p) others f) s.1,
)

single : (file : List Declaration) → IsFaultless file → All IsFaultless (file ∷ [])
single file h zero d l = h
single file h (suc k) d l = absurd (omega arith)

faultless_fit : (file : List Declaration) → IsFaultless file → Fit (procedures_of file)
faultless_fit file h = file_fit none_met file h.context
    (subst (λ (f : List Declaration). EachProcedure IsSoundProcedure (procedures_of f)) (append-nil file) (sound_files (file ∷ []) (single file h)))

written : (file : List Declaration) → IsFaultless file → file_fits is_short file ≡ true
written file h = ∥∥₁_elim h.spelled (hlevel Bool-set) (λ s. spelled_fits file s)

-- Files that break no rule

fit_both : (file others : List Declaration) → Fit (procedures_of file) → Fit (procedures_of others) → Fit (procedures_of (file ++ others))
fit_both [] others h g = g
fit_both (Global place names ∷ rest) others h g = fit_both rest others h g
fit_both (Link place items ∷ rest) others h g = fit_both rest others h g
fit_both (Invocable place items ∷ rest) others h g = fit_both rest others h g
fit_both (Record place name fields ∷ rest) others h g = fit_both rest others h g
fit_both (ProcedureOf p ∷ rest) others h g = (h.0, fit_both rest others h.1 g)

pub files_fit : (files : List (List Declaration)) → All IsFaultless files → Fit (procedures_of (joined_declarations files))
files_fit [] h = tt
files_fit (file ∷ files) h =
    fit_both file (joined_declarations files) (faultless_fit file (h 0 file (omega arith))) (files_fit files (λ k d l. h (suc k) d (omega arith)))

files_sets : (files : List (List Declaration)) → All IsFaultless files
    → list_all set_fits (mentioned_by set_in (proc_codes (joined_declarations files))) ≡ true
files_sets [] h = refl
files_sets (file ∷ files) h =
    let first = h 0 file (omega arith) in
    ap (list_all set_fits) (ap (mentioned_by set_in) (flat_map-append codes_in file (joined_declarations files))
    ∙ flat_map-append (mentioned_in set_in) (proc_codes file) (proc_codes (joined_declarations files)))
    ∙ list_all-append set_fits (mentioned_by set_in (proc_codes file)) (mentioned_by set_in (proc_codes (joined_declarations files)))
    ∙ and_intro (file_sets none_met file first.context (written file first)) (files_sets files (λ k d l. h (suc k) d (omega arith)))

files_join : (files : List (List Declaration)) → All IsFaultless files
    → IsCodeOf (joined_declarations files) (joined_of (unit_decls (joined_declarations files)) (proc_codes (joined_declarations files)))
files_join files h =
    let fit = files_fit files h in
    let mentions = mentioned_by set_in (proc_codes (joined_declarations files)) in
    record {
      csets = sets_back (with_texts [] mentions)
          (ap (list_all set_fits) (texts_firsts mentions) ∙ firsts_fit set_fits mentions (files_sets files h))
          ∙ table_sets (joined_declarations files) fit;
      others = tables_same (joined_declarations files) fit;
    }

-- Their units

pub decls_joined : (names : List (List ℕ)) (files : List (List Declaration)) → length names ≡ length files
    → all_decls (translated_units names files) ≡ unit_decls (joined_declarations files)
decls_joined [] [] e = refl
decls_joined [] (file ∷ files) e = absurd (omega (arith, e))
decls_joined (name ∷ names) [] e = absurd (omega (arith, e))
decls_joined (name ∷ names) (file ∷ files) e =
    ap (λ l. unit_decls file ++ l) (decls_joined names files (omega (arith, e))) ∙ sym (flat_map-append lines_in file (joined_declarations files))

pub procs_joined : (names : List (List ℕ)) (files : List (List Declaration)) → length names ≡ length files
    → all_procs (translated_units names files) ≡ proc_codes (joined_declarations files)
procs_joined [] [] e = refl
procs_joined [] (file ∷ files) e = absurd (omega (arith, e))
procs_joined (name ∷ names) [] e = absurd (omega (arith, e))
procs_joined (name ∷ names) (file ∷ files) e =
    ap (λ l. proc_codes file ++ l) (procs_joined names files (omega (arith, e))) ∙ sym (flat_map-append codes_in file (joined_declarations files))

pub units_join : (names : List (List ℕ)) (files : List (List Declaration)) → length names ≡ length files → All IsFaultless files
    → IsJoined files (Linked.joined_code (translated_units names files))
units_join names files same h =
    let decls = decls_joined names files same in
    let procs = procs_joined names files same in
    subst (λ (tables : Tables). IsCodeOf (joined_declarations files) tables) (λ i. joined_of (sym decls i) (sym procs i)) (files_join files h)

-- one file
pub unit_joins : (name : List ℕ) (file : List Declaration) → IsFaultless file → IsJoined (file ∷ []) (Linked.joined_code (translated_unit name file ∷ []))
unit_joins name file h = units_join (name ∷ []) (file ∷ []) refl (single file h)
