-- The tables of a file's unit: what its declarations and its instructions mention, as the first law has it.
use Rattle.std.proofs.Common.{◌≡◌, ℕ, ℤ, ◌+◌, Bool, not, List, [], ◌∷◌, ◌++◌, length, map, filter, refl, sym, ap, ◌∙◌}
use Rattle.std.specs.List.{flat_map, list_any}
use Rattle.std.specs.Ordering.{int_eq}
use Rattle.std.specs.Str.{bytes_eq}
use Rattle.std.proofs.lemmas.Grind.{flat_map-append}
use Rattle.std.proofs.lemmas.List.Elements.{filter-append}
use Rattle.icn_text.specs.declared.func.TheConstants.Func.{ALL as functions}
use Rattle.icn_tree.specs.declared.tree.DeclItem.{DeclItem}
use Rattle.icn_tree.specs.declared.tree.Name.{Name}
use Rattle.icn_tree.specs.Trees.{Procedure, Declaration, Global, Link, Invocable, Record, ProcedureOf}
use Rattle.icn_unit.specs.declared.unit.UnitInstr.{UnitInstr}
use Rattle.icn_unit.specs.PlainUnits.{proc_names}
use Rattle.icn_unit.specs.PlainUnits.{Global as GlobalLine, Link as LinkLine, Invocable as InvocableLine}
use Rattle.icn_link.specs.FirstMentions.{with_texts}
use Rattle.icn_link.specs.Mentions as Unit
use Rattle.icn_link.specs.Mentions.{mention_of, mentioned_in, mentioned_by, global_in, fields_in, record_name_in, record_names, functions_in, functions_used, declared_names}
use Rattle.icn_meaning.specs.Program.{texts, with_more_names, without_names, only, global_names, procedures_of, kinds_of, kind_names, routine_names, routines_of, names_function, used_names, undeclared_names, globals_of, statics_among}
use Rattle.law_simulation.specs.Mentions.{TableMention, AnInteger, AText, ASet, AField, integers_among, texts_among, sets_among, fields_among, firsts, initial_mentions, all_mentions}
use Rattle.law_simulation.specs.JoinedFiles.{routines, routine_mentions, code_mentions, record_fields, fields_of, strings_of, integers_of, sets_of}
use Rattle.icn_translate.specs.FileUnits.{proc_codes, item_text, lines_in, unit_decls}
use Rattle.icn_translate.specs.ProcCodes.{first_draft, draft_of, proc_code}
use Rattle.law_link.proofs.FirstsOnce.{texts_firsts, integers_firsts, texts_all, added_firsts, without_kept, only_kept, or_last, texts_again, texts_more, texts_once, texts_within}
use Rattle.law_link.proofs.Mentioning.{taken, taken_in, code_adds}
use Rattle.law_link.proofs.NameEntries.{IsFit, texts_same}
use Rattle.law_link.proofs.UsedFunctions.{functions_first, functions_same}

-- each procedure is so
abbrev pub Fit : List Procedure → Type 0
Fit [] = Unit {0}
Fit (procedure ∷ others) = IsFit procedure × Fit others

-- the codes are those of the procedures, in their order
pub codes_same : (file : List Declaration) → proc_codes file ≡ map proc_code (procedures_of file)
codes_same [] = refl
codes_same (Global place names ∷ others) = codes_same others
codes_same (Link place items ∷ others) = codes_same others
codes_same (Invocable place items ∷ others) = codes_same others
codes_same (Record place name fields ∷ others) = codes_same others
codes_same (ProcedureOf procedure ∷ others) = ap (λ l. proc_code procedure ∷ l) (codes_same others)

-- Mentions of one sort

-- what is taken of one sort, and where it is among what is taken
record Sort (A : Type 0) : Type 0 where
  told : Unit.Mention → List A
  among : List TableMention → List A
  none : among [] ≡ []
  more : (m : Unit.Mention) (ms : List TableMention) → among (taken m ++ ms) ≡ told m ++ among ms
  both : (ms ns : List TableMention) → among (ms ++ ns) ≡ among ms ++ among ns

module _ {A : Type 0} (S : Sort A) where
  taken_told : (is : List UnitInstr) → flat_map (λ i. S.told (mention_of i)) is ≡ S.among (taken_in is)
  taken_told [] = sym S.none
  taken_told (i ∷ is) = ap (λ l. S.told (mention_of i) ++ l) (taken_told is) ∙ sym (S.more (mention_of i) (taken_in is))

  code_told : (procedure : Procedure) → IsFit procedure
      → mentioned_in S.told (proc_code procedure) ≡ S.among (initial_mentions procedure.initial ++ all_mentions procedure.body)
  code_told procedure h = taken_told (draft_of procedure).instrs
      ∙ ap S.among (code_adds h.met procedure h.faultless h.initial h.body (first_draft procedure)).mentions

  codes_told : (globals : List (List ℕ)) (first : ℕ) (procedures : List Procedure) → Fit procedures
      → mentioned_by S.told (map proc_code procedures) ≡ S.among (flat_map routine_mentions (routines_of globals first procedures))
  codes_told globals first [] h = sym S.none
  codes_told globals first (procedure ∷ others) h =
      let next = first + length (statics_among procedure.locals) in
      ap (λ l. l ++ mentioned_by S.told (map proc_code others)) (code_told procedure h.0)
      ∙ ap (λ l. S.among (initial_mentions procedure.initial ++ all_mentions procedure.body) ++ l) (codes_told globals next others h.1)
      ∙ sym (S.both (initial_mentions procedure.initial ++ all_mentions procedure.body)
      (flat_map routine_mentions (routines_of globals next others)))

  file_told : (file : List Declaration) → Fit (procedures_of file)
      → mentioned_by S.told (proc_codes file) ≡ S.among (code_mentions file)
  file_told file h = ap (mentioned_by S.told) (codes_same file) ∙ codes_told (globals_of file) 0 (procedures_of file) h

integers_both : (ms ns : List TableMention) → integers_among (ms ++ ns) ≡ integers_among ms ++ integers_among ns
integers_both [] ns = refl
integers_both (AnInteger n ∷ ms) ns = ap (λ l. n ∷ l) (integers_both ms ns)
integers_both (AText bytes ∷ ms) ns = integers_both ms ns
integers_both (ASet members ∷ ms) ns = integers_both ms ns
integers_both (AField name ∷ ms) ns = integers_both ms ns

texts_both : (ms ns : List TableMention) → texts_among (ms ++ ns) ≡ texts_among ms ++ texts_among ns
texts_both [] ns = refl
texts_both (AnInteger n ∷ ms) ns = texts_both ms ns
texts_both (AText bytes ∷ ms) ns = ap (λ l. bytes ∷ l) (texts_both ms ns)
texts_both (ASet members ∷ ms) ns = texts_both ms ns
texts_both (AField name ∷ ms) ns = texts_both ms ns

sets_both : (ms ns : List TableMention) → sets_among (ms ++ ns) ≡ sets_among ms ++ sets_among ns
sets_both [] ns = refl
sets_both (AnInteger n ∷ ms) ns = sets_both ms ns
sets_both (AText bytes ∷ ms) ns = sets_both ms ns
sets_both (ASet members ∷ ms) ns = ap (λ l. members ∷ l) (sets_both ms ns)
sets_both (AField name ∷ ms) ns = sets_both ms ns

fields_both : (ms ns : List TableMention) → fields_among (ms ++ ns) ≡ fields_among ms ++ fields_among ns
fields_both [] ns = refl
fields_both (AnInteger n ∷ ms) ns = fields_both ms ns
fields_both (AText bytes ∷ ms) ns = fields_both ms ns
fields_both (ASet members ∷ ms) ns = fields_both ms ns
fields_both (AField name ∷ ms) ns = ap (λ l. name ∷ l) (fields_both ms ns)

integer_sort : Sort ℤ
integer_sort = record { told = Unit.integer_in; among = integers_among; none = refl; more = more; both = integers_both }
  where
    more : (m : Unit.Mention) (ms : List TableMention) → integers_among (taken m ++ ms) ≡ Unit.integer_in m ++ integers_among ms
    more Unit.NoMention ms = refl
    more (Unit.AnInteger n) ms = refl
    more (Unit.AText bytes) ms = refl
    more (Unit.ASet members) ms = refl
    more (Unit.AField name) ms = refl
    more (Unit.Operands count) ms = refl

text_sort : Sort (List ℕ)
text_sort = record { told = Unit.text_in; among = texts_among; none = refl; more = more; both = texts_both }
  where
    more : (m : Unit.Mention) (ms : List TableMention) → texts_among (taken m ++ ms) ≡ Unit.text_in m ++ texts_among ms
    more Unit.NoMention ms = refl
    more (Unit.AnInteger n) ms = refl
    more (Unit.AText bytes) ms = refl
    more (Unit.ASet members) ms = refl
    more (Unit.AField name) ms = refl
    more (Unit.Operands count) ms = refl

set_sort : Sort (List ℕ)
set_sort = record { told = Unit.set_in; among = sets_among; none = refl; more = more; both = sets_both }
  where
    more : (m : Unit.Mention) (ms : List TableMention) → sets_among (taken m ++ ms) ≡ Unit.set_in m ++ sets_among ms
    more Unit.NoMention ms = refl
    more (Unit.AnInteger n) ms = refl
    more (Unit.AText bytes) ms = refl
    more (Unit.ASet members) ms = refl
    more (Unit.AField name) ms = refl
    more (Unit.Operands count) ms = refl

field_sort : Sort (List ℕ)
field_sort = record { told = Unit.field_in; among = fields_among; none = refl; more = more; both = fields_both }
  where
    more : (m : Unit.Mention) (ms : List TableMention) → fields_among (taken m ++ ms) ≡ Unit.field_in m ++ fields_among ms
    more Unit.NoMention ms = refl
    more (Unit.AnInteger n) ms = refl
    more (Unit.AText bytes) ms = refl
    more (Unit.ASet members) ms = refl
    more (Unit.AField name) ms = refl
    more (Unit.Operands count) ms = refl

-- Declarations

globals_declared : (names : List Name) → flat_map global_in (map (λ (name : Name). GlobalLine name.text) names) ≡ texts names
globals_declared [] = refl
globals_declared (name ∷ names) = ap (λ l. name.text ∷ l) (globals_declared names)

-- lines that have nothing of a sort
no_global : (items : List DeclItem) → flat_map global_in (map (λ (item : DeclItem). LinkLine (item_text item)) items) ≡ []
no_global [] = refl
no_global (item ∷ items) = no_global items

no_global_named : (items : List DeclItem) → flat_map global_in (map (λ (item : DeclItem). InvocableLine (item_text item)) items) ≡ []
no_global_named [] = refl
no_global_named (item ∷ items) = no_global_named items

pub globals_same : (file : List Declaration) → flat_map global_in (unit_decls file) ≡ global_names file
globals_same [] = refl
globals_same (Global place names ∷ others) =
    flat_map-append global_in (lines_in (Global place names)) (unit_decls others)
    ∙ ap (λ l. l ++ flat_map global_in (unit_decls others)) (globals_declared names)
    ∙ ap (λ l. texts names ++ l) (globals_same others)
globals_same (Link place items ∷ others) =
    flat_map-append global_in (lines_in (Link place items)) (unit_decls others)
    ∙ ap (λ l. l ++ flat_map global_in (unit_decls others)) (no_global items) ∙ globals_same others
globals_same (Invocable place items ∷ others) =
    flat_map-append global_in (lines_in (Invocable place items)) (unit_decls others)
    ∙ ap (λ l. l ++ flat_map global_in (unit_decls others)) (no_global_named items) ∙ globals_same others
globals_same (Record place name fields ∷ others) = ap (λ l. name.text ∷ l) (globals_same others)
globals_same (ProcedureOf procedure ∷ others) = ap (λ l. procedure.name.text ∷ l) (globals_same others)

no_field : (names : List Name) → flat_map fields_in (map (λ (name : Name). GlobalLine name.text) names) ≡ []
no_field [] = refl
no_field (name ∷ names) = no_field names

no_linked_field : (items : List DeclItem) → flat_map fields_in (map (λ (item : DeclItem). LinkLine (item_text item)) items) ≡ []
no_linked_field [] = refl
no_linked_field (item ∷ items) = no_linked_field items

no_named_field : (items : List DeclItem) → flat_map fields_in (map (λ (item : DeclItem). InvocableLine (item_text item)) items) ≡ []
no_named_field [] = refl
no_named_field (item ∷ items) = no_named_field items

fields_declared : (file : List Declaration) → flat_map fields_in (unit_decls file) ≡ record_fields (kinds_of file)
fields_declared [] = refl
fields_declared (Global place names ∷ others) =
    flat_map-append fields_in (lines_in (Global place names)) (unit_decls others)
    ∙ ap (λ l. l ++ flat_map fields_in (unit_decls others)) (no_field names) ∙ fields_declared others
fields_declared (Link place items ∷ others) =
    flat_map-append fields_in (lines_in (Link place items)) (unit_decls others)
    ∙ ap (λ l. l ++ flat_map fields_in (unit_decls others)) (no_linked_field items) ∙ fields_declared others
fields_declared (Invocable place items ∷ others) =
    flat_map-append fields_in (lines_in (Invocable place items)) (unit_decls others)
    ∙ ap (λ l. l ++ flat_map fields_in (unit_decls others)) (no_named_field items) ∙ fields_declared others
fields_declared (Record place name fields ∷ others) =
    ap (λ l. l ++ flat_map fields_in (unit_decls others)) (texts_same fields)
    ∙ ap (λ l. texts fields ++ l) (fields_declared others)
fields_declared (ProcedureOf procedure ∷ others) = fields_declared others

no_record : (names : List Name) → flat_map record_name_in (map (λ (name : Name). GlobalLine name.text) names) ≡ []
no_record [] = refl
no_record (name ∷ names) = no_record names

no_linked_record : (items : List DeclItem) → flat_map record_name_in (map (λ (item : DeclItem). LinkLine (item_text item)) items) ≡ []
no_linked_record [] = refl
no_linked_record (item ∷ items) = no_linked_record items

no_named_record : (items : List DeclItem) → flat_map record_name_in (map (λ (item : DeclItem). InvocableLine (item_text item)) items) ≡ []
no_named_record [] = refl
no_named_record (item ∷ items) = no_named_record items

pub records_same : (file : List Declaration) → record_names (unit_decls file) ≡ kind_names (kinds_of file)
records_same [] = refl
records_same (Global place names ∷ others) =
    flat_map-append record_name_in (lines_in (Global place names)) (unit_decls others)
    ∙ ap (λ l. l ++ record_names (unit_decls others)) (no_record names) ∙ records_same others
records_same (Link place items ∷ others) =
    flat_map-append record_name_in (lines_in (Link place items)) (unit_decls others)
    ∙ ap (λ l. l ++ record_names (unit_decls others)) (no_linked_record items) ∙ records_same others
records_same (Invocable place items ∷ others) =
    flat_map-append record_name_in (lines_in (Invocable place items)) (unit_decls others)
    ∙ ap (λ l. l ++ record_names (unit_decls others)) (no_named_record items) ∙ records_same others
records_same (Record place name fields ∷ others) = ap (λ l. name.text ∷ l) (records_same others)
records_same (ProcedureOf procedure ∷ others) = records_same others

named : (globals : List (List ℕ)) (first : ℕ) (procedures : List Procedure)
    → proc_names (map proc_code procedures) ≡ routine_names (routines_of globals first procedures)
named globals first [] = refl
named globals first (procedure ∷ others) =
    ap (λ l. procedure.name.text ∷ l) (named globals (first + length (statics_among procedure.locals)) others)

pub procedures_same : (file : List Declaration) → proc_names (proc_codes file) ≡ routine_names (routines file)
procedures_same file = ap proc_names (codes_same file) ∙ named (globals_of file) 0 (procedures_of file)

-- Functions that are used and not declared

functions_among : (procedures : List Procedure) → Fit procedures
    → flat_map functions_in (map proc_code procedures) ≡ filter names_function (used_names procedures)
functions_among [] h = refl
functions_among (procedure ∷ others) h =
    ap (λ l. l ++ flat_map functions_in (map proc_code others)) (functions_same procedure h.0)
    ∙ ap (λ l. filter names_function (undeclared_names procedure) ++ l) (functions_among others h.1)
    ∙ sym (filter-append names_function (undeclared_names procedure) (used_names others))

-- a table gains the same from the functions that are used
used_alike : (procedures : List Procedure) → Fit procedures → (table : List (List ℕ))
    → with_texts table (flat_map functions_used (map proc_code procedures))
    ≡ with_texts table (flat_map functions_in (map proc_code procedures))
used_alike [] h table = refl
used_alike (procedure ∷ others) h table =
    let code = proc_code procedure in
    let used = flat_map functions_used (map proc_code others) in
    let named = flat_map functions_in (map proc_code others) in
    sym (texts_more table (functions_used code) used)
    ∙ ap (λ l. with_texts l used) (sym (texts_once table (functions_used code))
    ∙ ap (with_texts table) (sym (functions_first procedure h.0)))
    ∙ used_alike others h.1 (with_texts table (functions_in code))
    ∙ texts_more table (functions_in code) named

-- and nothing more from those that are named
named_alike : (procedures : List Procedure) → Fit procedures → (table : List (List ℕ))
    → with_texts (with_texts table (flat_map functions_used (map proc_code procedures))) (flat_map functions_in (map proc_code procedures))
    ≡ with_texts table (flat_map functions_in (map proc_code procedures))
named_alike procedures h table =
    let named = flat_map functions_in (map proc_code procedures) in
    ap (λ l. with_texts l named) (used_alike procedures h table)
    ∙ texts_again (with_texts table named) named
    (λ y g. texts_within table named y ∙ or_last (list_any (bytes_eq y) table) (list_any (bytes_eq y) named) g)

-- The tables of a file

module _ (file : List Declaration) (fit : Fit (procedures_of file)) where
  declared_same : declared_names (unit_decls file) ≡ firsts bytes_eq (global_names file)
  declared_same = texts_firsts (flat_map global_in (unit_decls file)) ∙ ap (firsts bytes_eq) (globals_same file)

  pub table_globals : Unit.globals (unit_decls file) (proc_codes file) ≡ globals_of file
  table_globals =
      let used = used_names (procedures_of file) in
      let D = firsts bytes_eq (global_names file) in
      let functions_of : flat_map functions_in (proc_codes file) ≡ filter names_function used =
      ap (flat_map functions_in) (codes_same file) ∙ functions_among (procedures_of file) fit in
      let new : List ℕ → Bool = λ y. not (list_any (bytes_eq y) D) in
      let others = with_more_names [] (only names_function used) in
      let later : without_names D others ≡ filter new (firsts bytes_eq (filter names_function used)) =
      without_kept D others
      ∙ ap (filter new) (added_firsts (only names_function used) ∙ ap (firsts bytes_eq) (only_kept names_function used)) in
      ap (λ codes. with_texts (with_texts (declared_names (unit_decls file)) (flat_map functions_used codes)) (flat_map functions_in codes))
      (codes_same file)
      ∙ named_alike (procedures_of file) fit (declared_names (unit_decls file))
      ∙ ap (λ codes. with_texts (declared_names (unit_decls file)) (flat_map functions_in codes)) (sym (codes_same file))
      ∙ ap (λ l. with_texts l (flat_map functions_in (proc_codes file))) declared_same
      ∙ ap (with_texts D) functions_of
      ∙ texts_all D (filter names_function used)
      ∙ ap (λ l. D ++ l) (sym later)
      ∙ ap (λ l. l ++ without_names l others) (sym (added_firsts (global_names file)))

  pub table_fields : Unit.fields (unit_decls file) (proc_codes file) ≡ fields_of file
  unfolding field_sort
  table_fields = texts_firsts (flat_map fields_in (unit_decls file) ++ mentioned_by Unit.field_in (proc_codes file))
      ∙ ap (firsts bytes_eq) (ap (λ l. l ++ mentioned_by Unit.field_in (proc_codes file)) (fields_declared file)
      ∙ ap (λ l. record_fields (kinds_of file) ++ l) (file_told field_sort file fit))

  pub table_integers : Unit.integers (proc_codes file) ≡ integers_of file
  unfolding integer_sort
  table_integers = integers_firsts (mentioned_by Unit.integer_in (proc_codes file))
      ∙ ap (firsts int_eq) (file_told integer_sort file fit)

  pub table_sets : Unit.sets (proc_codes file) ≡ sets_of file
  unfolding set_sort
  table_sets = texts_firsts (mentioned_by Unit.set_in (proc_codes file))
      ∙ ap (firsts bytes_eq) (file_told set_sort file fit)

  pub table_strings : Unit.strings (unit_decls file) (proc_codes file) ≡ strings_of file
  unfolding text_sort
  table_strings =
      let decls = unit_decls file in
      let procs = proc_codes file in
      let fields = fields_of file in
      let kinds = kind_names (kinds_of file) in
      let names = proc_names procs in
      let literals = mentioned_by Unit.text_in procs in
      texts_firsts (Unit.string_mentions decls procs)
      ∙ ap (firsts bytes_eq)
      (ap (λ l. l ++ (record_names decls ++ (Unit.globals decls procs ++ (names ++ literals)))) table_fields
      ∙ ap (λ l. fields ++ (l ++ (Unit.globals decls procs ++ (names ++ literals)))) (records_same file)
      ∙ ap (λ l. fields ++ (kinds ++ (l ++ (names ++ literals)))) table_globals
      ∙ ap (λ l. fields ++ (kinds ++ (globals_of file ++ (l ++ literals)))) (procedures_same file)
      ∙ ap (λ l. fields ++ (kinds ++ (globals_of file ++ (routine_names (routines file) ++ l)))) (file_told text_sort file fit))
