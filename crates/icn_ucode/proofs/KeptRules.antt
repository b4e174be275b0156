-- What is read keeps the rules.
use Rattle.std.proofs.Common.{◌==◌, ◌≡◌, ℕ, Bool, true, false, cond, not, ◌&&◌, ◌||◌, nat_le, nat_lt, List, [], ◌∷◌, ◌++◌, length, Option, None, Some, Result, Ok, Err, refl, sym, ◌∙◌, ap, subst, append-nil}
use Rattle.std.specs.Prelude.{codes, nat_eq}
use Rattle.std.specs.List.{list_all}
use Rattle.std.specs.Option.{option_map, option_and_then, option_map_or}
use Rattle.std.specs.Str.{bytes_eq}
use Rattle.std.proofs.lemmas.Bool.{eqb-true}
use Rattle.std.proofs.lemmas.Option.{none-some, same_Some}
use Rattle.icn_tree.specs.declared.rule.Rule.{Rule}
use Rattle.icn_tree.specs.declared.rule.Rule.TheVariants.{U1, U2, U3, U4, U5, U6}
use Rattle.icn_unit.specs.declared.instr_word.InstrWord.{InstrWord}
use Rattle.icn_unit.specs.declared.unit.UnitInstr.{UnitInstr}
use Rattle.icn_unit.specs.declared.unit.UnitName.{UnitName}
use Rattle.icn_unit.specs.InstrWords.{instr_word_of}
use Rattle.icn_unit.specs.PlainUnits.{PlainProc, PlainDecl, Global, Procedure, Link, Invocable, Record, entry_names, owned_name, owned_names, params_in, proc_names}
use Rattle.icn_unit.specs.UnitOperands.{first_field, is_name, number_of}
use Rattle.icn_unit.specs.UnitRules.{has_label, has_name, in_order, is_number, keeps_code, keeps_decl, keeps_decls, keeps_head, keeps_names, keeps_operand, keeps_proc, keeps_procs, keeps_rules, labels_differ, labels_placed, names_differ, own_labels, own_label, placed_labels, rank, same_names}
use Rattle.icn_ucode.specs.UnitReading.{UcodeHead, ProcStage, Heading, Outside, Naming, Coding, ProcsRead, DeclStage, DeclHeading, Declaring, Ended, DeclsRead, empty_proc, bytes_read, code_line, coding_line, collects_read, decl_stage_end, decl_stage_line, declaring_line, decls_end, decls_line, decls_of, each_line, end_line, ended_line, entry_by, entry_named, entry_read, fields_from, fields_read, flag_of, global_read, head_by, head_read, instr_line, instr_of, is_indented, is_repeated, kind_of, last_rank, link_read, invocable_read, name_read, naming_line, or_bad, outside_line, params_read, procedure_read, procs_end, procs_line, procs_of, record_by, record_read, stage_end, stage_line, then_step, with_decl, with_entry, with_field, with_instr}
use Rattle.icn_ucode.proofs.ListTests.{all_last, and_intro, and_parts, differ_last, in_order_last, not_true}
use Rattle.icn_ucode.proofs.KeptInstrs.{bytes_kept, instr_kept, number_kept}
use Rattle.icn_ucode.proofs.KnownNames.{bytes_turned, nat_turned, entries_named, more_placed}
use Rattle.icn_ucode.proofs.SpelledDecls.{mapped_decl}
use Rattle.icn_ucode.proofs.SpelledLines.{chosen, err_ok, found_in, heading_line, not_chosen_step, ok_same, texts_more, then_some, unended}

-- what each line keeps is kept at the end
lines_keep : {S : Type 0} (step : S → List ℕ → Result S Rule) (Good : S → Type 0)
    → ((state : S) (line : List ℕ) (next : S) → Good state → step state line ≡ Ok next → Good next)
    → (state : S) (line text : List ℕ) (last : S) → Good state → each_line step state line text ≡ Ok last → Good last
lines_keep {S} step Good keeps state [] [] last good e = subst Good (ok_same state last e) good
lines_keep {S} step Good keeps state (b ∷ line) [] last good e = absurd (unended (step state (b ∷ line)) last e)
lines_keep {S} step Good keeps state line (b ∷ text) last good e =
    by_end (b == 10) (step state line) refl (λ next g f. lines_keep step Good keeps next [] text last g f)
    (λ f. lines_keep step Good keeps state (line ++ b ∷ []) text last good f) e where
      by_end : (test : Bool) → (found : Result S Rule) → step state line ≡ found → ((next : S) → Good next → each_line step next [] text ≡ Ok last → Good last)
          → (each_line step state (line ++ b ∷ []) text ≡ Ok last → Good last)
          → cond test (then_step found (λ next. each_line step next [] text)) (each_line step state (line ++ b ∷ []) text) ≡ Ok last → Good last
      by_end true (Err rule) f later more e = absurd (err_ok rule last e)
      by_end true (Ok next) f later more e = later next (keeps state line next good f) e
      by_end false found f later more e = more e

-- a choice against a rule that came to something good
pub spared : {A : Type 0} (test : Bool) (x : A) (rule : Rule) (y : A) → cond test (Err rule) (Ok x) ≡ Ok y → (test ≡ false) × (x ≡ y)
spared true x rule y e = absurd (err_ok rule y e)
spared false x rule y e = (refl, ok_same x y e)

taken : {A : Type 0} (test : Bool) (x y : A) → ◌≡◌ {A = Option A} (cond test (Some x) None) (Some y) → (test ≡ true) × (x ≡ y)
taken true x y e = (refl, same_Some x y e)
taken false x y e = absurd (none-some y e)

-- Procedures

record NamingKeeps (procs : List PlainProc) (params : ℕ) (proc : PlainProc) : Type 0 where
  before : keeps_procs procs ≡ true
  further : has_name (proc_names procs) proc.name ≡ false
  head : keeps_head proc.name params proc.collects ≡ true
  names : keeps_names proc.names ≡ true
  codeless : proc.instrs ≡ []

record CodingKeeps (procs : List PlainProc) (proc : PlainProc) : Type 0 where
  before : keeps_procs procs ≡ true
  further : has_name (proc_names procs) proc.name ≡ false
  head : keeps_head proc.name (params_in proc.names) proc.collects ≡ true
  names : keeps_names proc.names ≡ true
  operands : list_all (λ instr. keeps_operand (length proc.names) instr) proc.instrs ≡ true
  labels : labels_differ (placed_labels proc.instrs) ≡ true

unfoldable StageKeeps : List PlainProc → ProcStage → Type 0
StageKeeps procs Heading = procs ≡ []
StageKeeps procs Outside = keeps_procs procs ≡ true
StageKeeps procs (Naming params proc) = NamingKeeps procs params proc
StageKeeps procs (Coding proc) = CodingKeeps procs proc

unfoldable ReadKeeps : ProcsRead → Type 0
ReadKeeps read = StageKeeps read.procs read.stage

collects_keep : (name params : List ℕ) (collects : Option (List ℕ)) (head : UcodeHead) → collects_read name params collects ≡ Some head
    → keeps_head head.name head.params head.collects ≡ true
collects_keep name params None head e = absurd (none-some head e)
collects_keep name params (Some text) head e =
    let p = then_some (number_of 4294967295 params) (λ p. option_and_then (λ c. head_by name p c) (flag_of text)) head e in
    let c = then_some (flag_of text) (λ c. head_by name p.0 c) head p.2 in
    let found = taken (is_name name && (not c.0 || nat_lt 0 p.0)) (record { name = name; params = p.0; collects = c.0 }) head c.2 in
    let tests = and_parts (is_name name) (not c.0 || nat_lt 0 p.0) found.0 in
    subst (λ (head : UcodeHead). keeps_head head.name head.params head.collects ≡ true) found.1
    (and_intro (is_name name && is_number p.0) (not c.0 || nat_lt 0 p.0)
    (and_intro (is_name name) (is_number p.0) tests.0 (number_kept 4294967295 params p.0 p.1)) tests.1)

params_keep : (name : List ℕ) (rest : Option (List ℕ)) (head : UcodeHead) → params_read name rest ≡ Some head
    → keeps_head head.name head.params head.collects ≡ true
params_keep name None head e = absurd (none-some head e)
params_keep name (Some text) head e = collects_keep name (first_field text).0 (first_field text).1 head e

head_keeps : (operand : Option (List ℕ)) (head : UcodeHead) → head_read operand ≡ Some head → keeps_head head.name head.params head.collects ≡ true
head_keeps None head e = absurd (none-some head e)
head_keeps (Some text) head e = params_keep (first_field text).0 (first_field text).1 head e

outside_keeps : (procs : List PlainProc) (word : List ℕ) (operand : Option (List ℕ)) (next : ProcsRead) → keeps_procs procs ≡ true
    → outside_line procs word operand ≡ Ok next → ReadKeeps next
unfolding StageKeeps ReadKeeps
outside_keeps procs word operand next good e = by_word (bytes_eq word (codes "proc")) e where
  by_word : (test : Bool) → cond test (or_bad (head_read operand) (λ head. cond (has_name (proc_names procs) head.name) (Err U3)
      (Ok (record { procs = procs; stage = Naming head.params (empty_proc head) })))) (Err U1) ≡ Ok next → ReadKeeps next
  by_word true e =
      let found = found_in (head_read operand)
      (λ head. cond (has_name (proc_names procs) head.name) (Err U3) (Ok (record { procs = procs; stage = Naming head.params (empty_proc head) }))) next e in
      let same = spared (has_name (proc_names procs) found.0.name)
      (record { procs = procs; stage = Naming found.0.params (empty_proc found.0) }) U3 next found.2 in
      subst (λ (next : ProcsRead). ReadKeeps next) same.1
      (record { before = good; further = same.0; head = head_keeps operand found.0 found.1; names = refl; codeless = refl })
  by_word false e = absurd (err_ok U1 next e)

-- one more name
entry_keeps : (names : List UnitName) (entry : UnitName) → keeps_names names ≡ true → is_name entry.name ≡ true
    → nat_le (last_rank names) (rank entry.kind) ≡ true → has_name (entry_names names) entry.name ≡ false → keeps_names (names ++ entry ∷ []) ≡ true
entry_keeps names entry good named ranked further =
    let parts = and_parts (list_all is_name (entry_names names) && names_differ (entry_names names)) (in_order names) good in
    let firsts = and_parts (list_all is_name (entry_names names)) (names_differ (entry_names names)) parts.0 in
    let more = entries_named names entry in
    and_intro (list_all is_name (entry_names (names ++ entry ∷ [])) && names_differ (entry_names (names ++ entry ∷ []))) (in_order (names ++ entry ∷ []))
    (and_intro (list_all is_name (entry_names (names ++ entry ∷ []))) (names_differ (entry_names (names ++ entry ∷ [])))
    (ap (λ names. list_all is_name names) more ∙ all_last is_name (entry_names names) entry.name firsts.0 named)
    (ap (λ names. names_differ names) more ∙ differ_last bytes_eq bytes_turned (entry_names names) entry.name firsts.1 further))
    (in_order_last names entry parts.1 ranked)

named_keeps : (names : List UnitName) (kind : List ℕ) (rest : Option (List ℕ)) (entry : UnitName) → keeps_names names ≡ true
    → entry_named names kind rest ≡ Some entry → keeps_names (names ++ entry ∷ []) ≡ true
named_keeps names kind None entry good e = absurd (none-some entry e)
named_keeps names kind (Some name) entry good e =
    let k = then_some (kind_of kind) (λ k. entry_by names k name) entry e in
    let found = taken (is_name name && nat_le (last_rank names) (rank k.0) && not (has_name (entry_names names) name))
    (record { kind = k.0; name = name }) entry k.2 in
    let tests = and_parts (is_name name && nat_le (last_rank names) (rank k.0)) (not (has_name (entry_names names) name)) found.0 in
    let firsts = and_parts (is_name name) (nat_le (last_rank names) (rank k.0)) tests.0 in
    subst (λ (entry : UnitName). keeps_names (names ++ entry ∷ []) ≡ true) found.1
    (entry_keeps names (record { kind = k.0; name = name }) good firsts.0 firsts.1 (not_true (has_name (entry_names names) name) tests.1))

name_line_keeps : (names : List UnitName) (operand : Option (List ℕ)) (entry : UnitName) → keeps_names names ≡ true → entry_read names operand ≡ Some entry
    → keeps_names (names ++ entry ∷ []) ≡ true
name_line_keeps names None entry good e = absurd (none-some entry e)
name_line_keeps names (Some text) entry good e = named_keeps names (first_field text).0 (first_field text).1 entry good e

naming_keeps : (procs : List PlainProc) (params : ℕ) (proc : PlainProc) (word : List ℕ) (operand : Option (List ℕ)) (next : ProcsRead)
    → NamingKeeps procs params proc
    → naming_line procs params proc word operand ≡ Ok next → ReadKeeps next
unfolding StageKeeps ReadKeeps
naming_keeps procs params proc word operand next good e = by_name (bytes_eq word (codes "name")) e where
  by_operand : (operand : Option (List ℕ)) → code_line procs params proc operand ≡ Ok next → ReadKeeps next
  by_operand (Some text) e = absurd (err_ok U3 next e)
  by_operand None e =
      let found = chosen (params_in proc.names == params) (record { procs = procs; stage = Coding proc }) U3 next e in
      let same : params_in proc.names ≡ params = eqb-true (params_in proc.names) params found.0 in
      subst (λ (next : ProcsRead). ReadKeeps next) found.1 (record {
        before = good.before;
        further = good.further;
        head = ap (λ params. keeps_head proc.name params proc.collects) same ∙ good.head;
        names = good.names;
        operands = ap (λ instrs. list_all (λ instr. keeps_operand (length proc.names) instr) instrs) good.codeless;
        labels = ap (λ instrs. labels_differ (placed_labels instrs)) good.codeless;
      })

  by_code : (test : Bool) → cond test (code_line procs params proc operand) (Err U1) ≡ Ok next → ReadKeeps next
  by_code true e = by_operand operand e
  by_code false e = absurd (err_ok U1 next e)

  by_name : (test : Bool)
      → cond test (or_bad (entry_read proc.names operand) (λ entry. Ok (record { procs = procs; stage = Naming params (with_entry proc entry) })))
      (cond (bytes_eq word (codes "code")) (code_line procs params proc operand) (Err U1)) ≡ Ok next → ReadKeeps next
  by_name true e =
      let found = found_in (entry_read proc.names operand) (λ entry. Ok (record { procs = procs; stage = Naming params (with_entry proc entry) })) next e in
      subst (λ (next : ProcsRead). ReadKeeps next) (ok_same (record { procs = procs; stage = Naming params (with_entry proc found.0) }) next found.2)
      (record {
        before = good.before;
        further = good.further;
        head = good.head;
        names = name_line_keeps proc.names operand found.0 good.names found.1;
        codeless = good.codeless;
      })
  by_name false e = by_code (bytes_eq word (codes "code")) e

-- one more instruction
labels_keep : (instrs : List UnitInstr) (instr : UnitInstr) → labels_differ (placed_labels instrs) ≡ true → is_repeated instrs instr ≡ false
    → labels_differ (placed_labels (instrs ++ instr ∷ [])) ≡ true
labels_keep instrs instr good further = ap (λ labels. labels_differ labels) (more_placed instrs instr) ∙ by_place (own_label instr) further where
  by_place : (place : Option ℕ) → option_map_or (λ label. has_label (placed_labels instrs) label) place false ≡ false
      → labels_differ (placed_labels instrs ++ own_labels place) ≡ true
  by_place None further = ap (λ labels. labels_differ labels) (append-nil (placed_labels instrs)) ∙ good
  by_place (Some label) further = differ_last nat_eq nat_turned (placed_labels instrs) label good further

proc_keeps : (procs : List PlainProc) (proc : PlainProc) → CodingKeeps procs proc → labels_placed proc.instrs ≡ true → keeps_proc proc ≡ true
proc_keeps procs proc good placed_all =
    and_intro (keeps_head proc.name (params_in proc.names) proc.collects && keeps_names proc.names) (keeps_code (length proc.names) proc.instrs)
    (and_intro (keeps_head proc.name (params_in proc.names) proc.collects) (keeps_names proc.names) good.head good.names)
    (and_intro (list_all (λ instr. keeps_operand (length proc.names) instr) proc.instrs && labels_differ (placed_labels proc.instrs))
    (labels_placed proc.instrs)
    (and_intro (list_all (λ instr. keeps_operand (length proc.names) instr) proc.instrs) (labels_differ (placed_labels proc.instrs)) good.operands good.labels)
    placed_all)

procs_named_more : (procs : List PlainProc) (proc : PlainProc) → proc_names (procs ++ proc ∷ []) ≡ proc_names procs ++ proc.name ∷ []
procs_named_more [] proc = refl
procs_named_more (first ∷ procs) proc = ap (λ names. first.name ∷ names) (procs_named_more procs proc)

procs_keep : (procs : List PlainProc) (proc : PlainProc) → keeps_procs procs ≡ true → keeps_proc proc ≡ true → has_name (proc_names procs) proc.name ≡ false
    → keeps_procs (procs ++ proc ∷ []) ≡ true
procs_keep procs proc good kept further =
    let parts = and_parts (list_all keeps_proc procs) (names_differ (proc_names procs)) good in
    and_intro (list_all keeps_proc (procs ++ proc ∷ [])) (names_differ (proc_names (procs ++ proc ∷ []))) (all_last keeps_proc procs proc parts.0 kept)
    (ap (λ names. names_differ names) (procs_named_more procs proc) ∙ differ_last bytes_eq bytes_turned (proc_names procs) proc.name parts.1 further)

coding_keeps : (procs : List PlainProc) (proc : PlainProc) (word : List ℕ) (operand : Option (List ℕ)) (next : ProcsRead) → CodingKeeps procs proc
    → coding_line procs proc word operand ≡ Ok next → ReadKeeps next
unfolding StageKeeps ReadKeeps
coding_keeps procs proc word operand next good e = by_end (bytes_eq word (codes "end")) e where
  ended : (operand : Option (List ℕ)) → end_line procs proc operand ≡ Ok next → ReadKeeps next
  ended (Some text) e = absurd (err_ok U3 next e)
  ended None e =
      let found = chosen (labels_placed proc.instrs) (record { procs = procs ++ proc ∷ []; stage = Outside }) U4 next e in
      subst (λ (next : ProcsRead). ReadKeeps next) found.1 (procs_keep procs proc good.before (proc_keeps procs proc good found.0) good.further)

  by_instr : (found : Option InstrWord) → instr_line procs proc found operand ≡ Ok next → ReadKeeps next
  by_instr None e = absurd (err_ok U2 next e)
  by_instr (Some known) e =
      let found = found_in (instr_of known operand (length proc.names))
      (λ instr. cond (is_repeated proc.instrs instr) (Err U5) (Ok (record { procs = procs; stage = Coding (with_instr proc instr) }))) next e in
      let same = spared (is_repeated proc.instrs found.0) (record { procs = procs; stage = Coding (with_instr proc found.0) }) U5 next found.2 in
      subst (λ (next : ProcsRead). ReadKeeps next) same.1 (record {
        before = good.before;
        further = good.further;
        head = good.head;
        names = good.names;
        operands = all_last (λ instr. keeps_operand (length proc.names) instr) proc.instrs found.0 good.operands
            (instr_kept known operand (length proc.names) found.0 found.1);
        labels = labels_keep proc.instrs found.0 good.labels same.0;
      })

  by_end : (test : Bool) → cond test (end_line procs proc operand) (instr_line procs proc (instr_word_of word) operand) ≡ Ok next → ReadKeeps next
  by_end true e = ended operand e
  by_end false e = by_instr (instr_word_of word) e

stage_keeps : (procs : List PlainProc) (stage : ProcStage) (line : List ℕ) (next : ProcsRead) → StageKeeps procs stage → stage_line procs stage line ≡ Ok next
    → ReadKeeps next
unfolding StageKeeps ReadKeeps
stage_keeps procs Heading line next good e =
    let found = heading_line (codes "U9.1") line (record { procs = procs; stage = Outside }) next e in
    subst (λ (next : ProcsRead). ReadKeeps next) found.1 (ap keeps_procs good)
stage_keeps procs Outside line next good e = outside_keeps procs (first_field line).0 (first_field line).1 next good e
stage_keeps procs (Naming params proc) line next good e = naming_keeps procs params proc (first_field line).0 (first_field line).1 next good e
stage_keeps procs (Coding proc) line next good e = coding_keeps procs proc (first_field line).0 (first_field line).1 next good e

line_keeps : (read : ProcsRead) (line : List ℕ) (next : ProcsRead) → ReadKeeps read → procs_line read line ≡ Ok next → ReadKeeps next
unfolding ReadKeeps procs_line
line_keeps read line next good e =
    stage_keeps read.procs read.stage line next good (not_chosen_step (is_indented line) (stage_line read.procs read.stage line) U3 next e)

stage_kept : (procs : List PlainProc) (stage : ProcStage) (found : List PlainProc) → StageKeeps procs stage → stage_end procs stage ≡ Ok found
    → keeps_procs found ≡ true
unfolding StageKeeps
stage_kept procs Heading found good e = absurd (err_ok U1 found e)
stage_kept procs Outside found good e = ap keeps_procs (sym (ok_same procs found e)) ∙ good
stage_kept procs (Naming params proc) found good e = absurd (err_ok U6 found e)
stage_kept procs (Coding proc) found good e = absurd (err_ok U6 found e)

procs_kept : (text : List ℕ) (procs : List PlainProc) → procs_of text ≡ Ok procs → keeps_procs procs ≡ true
unfolding procs_of StageKeeps ReadKeeps
procs_kept text procs e = by_read (each_line procs_line (record { procs = []; stage = Heading }) [] text) refl e where
  by_read : (found : Result ProcsRead Rule) → each_line procs_line (record { procs = []; stage = Heading }) [] text ≡ found
      → then_step found procs_end ≡ Ok procs → keeps_procs procs ≡ true
  by_read (Err rule) f e = absurd (err_ok rule procs e)
  by_read (Ok last) f e =
      stage_kept last.procs last.stage procs (lines_keep procs_line ReadKeeps line_keeps (record { procs = []; stage = Heading }) [] text last refl f) e

-- Declarations

unfoldable DeclsKeep : List PlainDecl → DeclStage → Type 0
DeclsKeep decls DeclHeading = decls ≡ []
DeclsKeep decls Declaring = keeps_decls decls ≡ true
DeclsKeep decls Ended = keeps_decls decls ≡ true

unfoldable DeclReadKeeps : DeclsRead → Type 0
DeclReadKeeps read = DeclsKeep read.decls read.stage

owned_more : (decls : List PlainDecl) (decl : PlainDecl) → owned_names (decls ++ decl ∷ []) ≡ owned_names decls ++ owned_name decl
owned_more decls decl = texts_more owned_name decls decl

-- one more declaration, of no name or of a further one
decl_keeps : (decls : List PlainDecl) (decl : PlainDecl) → keeps_decls decls ≡ true → keeps_decl decl ≡ true
    → names_differ (owned_names decls ++ owned_name decl) ≡ true
    → keeps_decls (decls ++ decl ∷ []) ≡ true
decl_keeps decls decl good kept further =
    let parts = and_parts (list_all keeps_decl decls) (names_differ (owned_names decls)) good in
    and_intro (list_all keeps_decl (decls ++ decl ∷ [])) (names_differ (owned_names (decls ++ decl ∷ []))) (all_last keeps_decl decls decl parts.0 kept)
    (ap (λ names. names_differ names) (owned_more decls decl) ∙ further)

unowned : (decls : List PlainDecl) → keeps_decls decls ≡ true → names_differ (owned_names decls ++ []) ≡ true
unowned decls good =
    ap (λ names. names_differ names) (append-nil (owned_names decls)) ∙ (and_parts (list_all keeps_decl decls) (names_differ (owned_names decls)) good).1

owned : (decls : List PlainDecl) (name : List ℕ) → keeps_decls decls ≡ true → has_name (owned_names decls) name ≡ false
    → names_differ (owned_names decls ++ name ∷ []) ≡ true
owned decls name good further =
    differ_last bytes_eq bytes_turned (owned_names decls) name (and_parts (list_all keeps_decl decls) (names_differ (owned_names decls)) good).1 further

pushed_keeps : (decls : List PlainDecl) (decl : PlainDecl) (next : DeclsRead) → keeps_decls (decls ++ decl ∷ []) ≡ true → with_decl decls decl ≡ Ok next
    → DeclReadKeeps next
unfolding DeclsKeep DeclReadKeeps
pushed_keeps decls decl next good e =
    subst (λ (next : DeclsRead). DeclReadKeeps next) (ok_same (record { decls = decls ++ decl ∷ []; stage = Declaring }) next e) good

name_keeps : (operand : Option (List ℕ)) (name : List ℕ) → name_read operand ≡ Some name → is_name name ≡ true
name_keeps None name e = absurd (none-some name e)
name_keeps (Some text) name e = let found = taken (is_name text) text name e in ap is_name (sym found.1) ∙ found.0

link_keeps : (operand : Option (List ℕ)) (bytes : List ℕ) → bytes_read operand ≡ Some bytes → keeps_decl (Link bytes) ≡ true
link_keeps None bytes e = absurd (none-some bytes e)
link_keeps (Some text) bytes e = bytes_kept text bytes e

invocable_keeps : (operand : Option (List ℕ)) (bytes : List ℕ) → bytes_read operand ≡ Some bytes → keeps_decl (Invocable bytes) ≡ true
invocable_keeps None bytes e = absurd (none-some bytes e)
invocable_keeps (Some text) bytes e = bytes_kept text bytes e

abbrev FieldsKeep : List (List ℕ) → Type 0
FieldsKeep fields = (list_all is_name fields ≡ true) × (names_differ fields ≡ true)

field_keeps : (fields : List (List ℕ)) (word : List ℕ) (all : List (List ℕ)) → FieldsKeep fields → with_field fields word ≡ Some all → FieldsKeep all
field_keeps fields word all good e =
    let found = taken (is_name word && not (has_name fields word)) (fields ++ word ∷ []) all e in
    let tests = and_parts (is_name word) (not (has_name fields word)) found.0 in
    subst (λ (all : List (List ℕ)). FieldsKeep all) found.1
    (all_last is_name fields word good.0 tests.0, differ_last bytes_eq bytes_turned fields word good.1 (not_true (has_name fields word) tests.1))

fields_keep : (fields : List (List ℕ)) (word text : List ℕ) (all : List (List ℕ)) → FieldsKeep fields → fields_from fields word text ≡ Some all → FieldsKeep all
fields_keep fields word [] all good e = field_keeps fields word all good e
fields_keep fields word (b ∷ text) all good e =
    by_blank (b == 32) (λ more g f. fields_keep more [] text all g f) (λ f. fields_keep fields (word ++ b ∷ []) text all good f) e where
      by_blank : (test : Bool) → ((more : List (List ℕ)) → FieldsKeep more → fields_from more [] text ≡ Some all → FieldsKeep all)
          → (fields_from fields (word ++ b ∷ []) text ≡ Some all → FieldsKeep all)
          → cond test (option_and_then (λ more. fields_from more [] text) (with_field fields word)) (fields_from fields (word ++ b ∷ []) text) ≡ Some all
          → FieldsKeep all
      by_blank true later more e = let found = then_some (with_field fields word) (λ more. fields_from more [] text) all e in
          later found.0 (field_keeps fields word found.0 good found.1) found.2
      by_blank false later more e = more e

rest_keeps : (rest : Option (List ℕ)) (fields : List (List ℕ)) → fields_read rest ≡ Some fields → FieldsKeep fields
rest_keeps None fields e = subst (λ (fields : List (List ℕ)). FieldsKeep fields) (same_Some [] fields e) (refl, refl)
rest_keeps (Some text) fields e = fields_keep [] [] text fields (refl, refl) e

record_named_keeps : (procs : List (List ℕ)) (decls : List PlainDecl) (name : List ℕ) (rest : Option (List ℕ)) (decl : PlainDecl) → keeps_decls decls ≡ true
    → record_by procs decls name rest ≡ Some decl → keeps_decls (decls ++ decl ∷ []) ≡ true
record_named_keeps procs decls name rest decl good e =
    by_test (is_name name && not (has_name procs name) && not (has_name (owned_names decls) name)) refl e where
      by_test : (test : Bool) → (is_name name && not (has_name procs name) && not (has_name (owned_names decls) name)) ≡ test
          → cond test (option_map (λ fields. Record name fields) (fields_read rest)) None ≡ Some decl → keeps_decls (decls ++ decl ∷ []) ≡ true
      by_test true t e =
          let tests = and_parts (is_name name && not (has_name procs name)) (not (has_name (owned_names decls) name)) t in
          let named = (and_parts (is_name name) (not (has_name procs name)) tests.0).0 in
          let found = mapped_decl (fields_read rest) (λ fields. Record name fields) decl e in
          let fields = rest_keeps rest found.0 found.1 in
          subst (λ (decl : PlainDecl). keeps_decls (decls ++ decl ∷ []) ≡ true) found.2
          (decl_keeps decls (Record name found.0) good
          (and_intro (is_name name && list_all is_name found.0) (names_differ found.0)
          (and_intro (is_name name) (list_all is_name found.0) named fields.0) fields.1)
          (owned decls name good (not_true (has_name (owned_names decls) name) tests.1)))
      by_test false t e = absurd (none-some decl e)

record_keeps : (procs : List (List ℕ)) (decls : List PlainDecl) (operand : Option (List ℕ)) (decl : PlainDecl) → keeps_decls decls ≡ true
    → record_read procs decls operand ≡ Some decl → keeps_decls (decls ++ decl ∷ []) ≡ true
record_keeps procs decls None decl good e = absurd (none-some decl e)
record_keeps procs decls (Some text) decl good e = record_named_keeps procs decls (first_field text).0 (first_field text).1 decl good e

proc_decl_keeps : (decls : List PlainDecl) (operand : Option (List ℕ)) (decl : PlainDecl) → keeps_decls decls ≡ true → procedure_read decls operand ≡ Some decl
    → keeps_decls (decls ++ decl ∷ []) ≡ true
proc_decl_keeps decls operand decl good e =
    let found = then_some (name_read operand) (λ name. cond (has_name (owned_names decls) name) None (Some (Procedure name))) decl e in
    let free = further (has_name (owned_names decls) found.0) (Procedure found.0) decl found.2 in
    subst (λ (decl : PlainDecl). keeps_decls (decls ++ decl ∷ []) ≡ true) free.1
    (decl_keeps decls (Procedure found.0) good (name_keeps operand found.0 found.1) (owned decls found.0 good free.0)) where
      further : (test : Bool) (x y : PlainDecl) → ◌≡◌ {A = Option PlainDecl} (cond test None (Some x)) (Some y) → (test ≡ false) × (x ≡ y)
      further true x y e = absurd (none-some y e)
      further false x y e = (refl, same_Some x y e)

global_keeps : (decls : List PlainDecl) (operand : Option (List ℕ)) (decl : PlainDecl) → keeps_decls decls ≡ true → global_read operand ≡ Some decl
    → keeps_decls (decls ++ decl ∷ []) ≡ true
global_keeps decls operand decl good e =
    let found = mapped_decl (name_read operand) (λ name. Global name) decl e in
    subst (λ (decl : PlainDecl). keeps_decls (decls ++ decl ∷ []) ≡ true) found.2
    (decl_keeps decls (Global found.0) good (name_keeps operand found.0 found.1) (unowned decls good))

link_decl_keeps : (decls : List PlainDecl) (operand : Option (List ℕ)) (decl : PlainDecl) → keeps_decls decls ≡ true → link_read operand ≡ Some decl
    → keeps_decls (decls ++ decl ∷ []) ≡ true
link_decl_keeps decls operand decl good e =
    let found = mapped_decl (bytes_read operand) (λ bytes. Link bytes) decl e in
    subst (λ (decl : PlainDecl). keeps_decls (decls ++ decl ∷ []) ≡ true) found.2
    (decl_keeps decls (Link found.0) good (link_keeps operand found.0 found.1) (unowned decls good))

invocable_decl_keeps : (decls : List PlainDecl) (operand : Option (List ℕ)) (decl : PlainDecl) → keeps_decls decls ≡ true
    → invocable_read operand ≡ Some decl → keeps_decls (decls ++ decl ∷ []) ≡ true
invocable_decl_keeps decls operand decl good e =
    let found = mapped_decl (bytes_read operand) (λ bytes. Invocable bytes) decl e in
    subst (λ (decl : PlainDecl). keeps_decls (decls ++ decl ∷ []) ≡ true) found.2
    (decl_keeps decls (Invocable found.0) good (invocable_keeps operand found.0 found.1) (unowned decls good))

-- a declaration, where the line has one
line_pushed : (decls : List PlainDecl) (found : Option PlainDecl) (next : DeclsRead)
    → ((decl : PlainDecl) → found ≡ Some decl → keeps_decls (decls ++ decl ∷ []) ≡ true)
    → or_bad found (with_decl decls) ≡ Ok next → DeclReadKeeps next
line_pushed decls found next keeps e = let read = found_in found (with_decl decls) next e in pushed_keeps decls read.0 next (keeps read.0 read.1) read.2

-- one test after the other
either_way : (P : Type 0) (test : Bool) (x y : Result DeclsRead Rule) (next : DeclsRead) → (x ≡ Ok next → P) → (y ≡ Ok next → P) → cond test x y ≡ Ok next → P
either_way P true x y next h g e = h e
either_way P false x y next h g e = g e

ended_keeps : (decls : List PlainDecl) (operand : Option (List ℕ)) (next : DeclsRead) → keeps_decls decls ≡ true → ended_line decls operand ≡ Ok next
    → DeclReadKeeps next
unfolding DeclsKeep DeclReadKeeps
ended_keeps decls None next good e = subst (λ (next : DeclsRead). DeclReadKeeps next) (ok_same (record { decls = decls; stage = Ended }) next e) good
ended_keeps decls (Some text) next good e = absurd (err_ok U3 next e)

declaring_keeps : (procs : List (List ℕ)) (decls : List PlainDecl) (word : List ℕ) (operand : Option (List ℕ)) (next : DeclsRead) → keeps_decls decls ≡ true
    → declaring_line procs decls word operand ≡ Ok next → DeclReadKeeps next
declaring_keeps procs decls word operand next good e =
    either_way (DeclReadKeeps next)
    (bytes_eq word (codes "global")) _ _ next (line_pushed decls (global_read operand) next (λ decl f. global_keeps decls operand decl good f))
    (either_way (DeclReadKeeps next)
    (bytes_eq word (codes "proc")) _ _ next (line_pushed decls (procedure_read decls operand) next (λ decl f. proc_decl_keeps decls operand decl good f))
    (either_way (DeclReadKeeps next)
    (bytes_eq word (codes "link")) _ _ next (line_pushed decls (link_read operand) next (λ decl f. link_decl_keeps decls operand decl good f))
    (either_way (DeclReadKeeps next)
    (bytes_eq word (codes "invocable")) _ _ next
    (line_pushed decls (invocable_read operand) next (λ decl f. invocable_decl_keeps decls operand decl good f))
    (either_way (DeclReadKeeps next) (bytes_eq word (codes "record"))
    _ _ next (line_pushed decls (record_read procs decls operand) next (λ decl f. record_keeps procs decls operand decl good f))
    (either_way (DeclReadKeeps next) (bytes_eq word (codes "end")) (ended_line decls operand) (Err U1) next (ended_keeps decls operand next good)
    (λ f. absurd (err_ok U1 next f))))))) e

decl_stage_keeps : (procs : List (List ℕ)) (decls : List PlainDecl) (stage : DeclStage) (line : List ℕ) (next : DeclsRead) → DeclsKeep decls stage
    → decl_stage_line procs decls stage line ≡ Ok next → DeclReadKeeps next
unfolding DeclsKeep DeclReadKeeps
decl_stage_keeps procs decls DeclHeading line next good e =
    let found = heading_line (codes "U9.2") line (record { decls = decls; stage = Declaring }) next e in
    subst (λ (next : DeclsRead). DeclReadKeeps next) found.1 (ap keeps_decls good)
decl_stage_keeps procs decls Declaring line next good e = declaring_keeps procs decls (first_field line).0 (first_field line).1 next good e
decl_stage_keeps procs decls Ended line next good e = absurd (err_ok U1 next e)

decl_line_keeps : (procs : List (List ℕ)) (read : DeclsRead) (line : List ℕ) (next : DeclsRead) → DeclReadKeeps read → decls_line procs read line ≡ Ok next
    → DeclReadKeeps next
unfolding DeclReadKeeps decls_line
decl_line_keeps procs read line next good e = decl_stage_keeps procs read.decls read.stage line next good
    (not_chosen_step (is_indented line) (decl_stage_line procs read.decls read.stage line) U3 next e)

decl_stage_kept : (decls : List PlainDecl) (stage : DeclStage) (found : List PlainDecl) → DeclsKeep decls stage → decl_stage_end decls stage ≡ Ok found
    → keeps_decls found ≡ true
unfolding DeclsKeep
decl_stage_kept decls DeclHeading found good e = absurd (err_ok U1 found e)
decl_stage_kept decls Declaring found good e = absurd (err_ok U6 found e)
decl_stage_kept decls Ended found good e = ap keeps_decls (sym (ok_same decls found e)) ∙ good

decls_kept : (procs : List (List ℕ)) (text : List ℕ) (decls : List PlainDecl) → decls_of procs text ≡ Ok decls → keeps_decls decls ≡ true
unfolding decls_of DeclsKeep DeclReadKeeps
decls_kept procs text decls e = by_read (each_line (decls_line procs) (record { decls = []; stage = DeclHeading }) [] text) refl e where
  by_read : (found : Result DeclsRead Rule) → each_line (decls_line procs) (record { decls = []; stage = DeclHeading }) [] text ≡ found
      → then_step found decls_end ≡ Ok decls → keeps_decls decls ≡ true
  by_read (Err rule) f e = absurd (err_ok rule decls e)
  by_read (Ok last) f e = decl_stage_kept last.decls last.stage decls
      (lines_keep (decls_line procs) DeclReadKeeps (decl_line_keeps procs) (record { decls = []; stage = DeclHeading }) [] text last refl f) e

pub rules_kept : (u1 u2 : List ℕ) (procs : List PlainProc) (decls : List PlainDecl) → procs_of u1 ≡ Ok procs → decls_of (proc_names procs) u2 ≡ Ok decls
    → same_names procs decls ≡ true → keeps_rules procs decls ≡ true
unfolding keeps_rules
rules_kept u1 u2 procs decls p d n = and_intro (keeps_procs procs && keeps_decls decls) (same_names procs decls)
    (and_intro (keeps_procs procs) (keeps_decls decls) (procs_kept u1 procs p) (decls_kept (proc_names procs) u2 decls d)) n
