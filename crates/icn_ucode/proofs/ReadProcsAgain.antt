-- The spelling of what keeps the rules is read as it: procedures.
use Rattle.std.proofs.Common.{◌==◌, ◌≡◌, ℕ, Bool, true, false, cond, not, ◌&&◌, ◌||◌, nat_le, nat_lt, List, [], ◌∷◌, ◌++◌, length, Option, None, Some, Ok, Err, refl, sym, ◌∙◌, ap, subst, arith, append_assoc, append-nil}
use Rattle.std.specs.Prelude.{codes, nat_eq}
use Rattle.std.specs.Fmt.{decimal}
use Rattle.std.specs.List.{list_all, flat_map}
use Rattle.std.specs.Option.{option_and_then, option_map_or}
use Rattle.std.specs.Str.{bytes_eq}
use Rattle.std.proofs.lemmas.Bool.{cond-true, cond-false}
use Rattle.icn_tree.specs.declared.rule.Rule.TheVariants.{U3, U5}
use Rattle.icn_unit.specs.declared.instr_word.InstrWord.{InstrWord}
use Rattle.icn_unit.specs.declared.unit.NameKind.{NameKind}
use Rattle.icn_unit.specs.declared.unit.NameKind.TheVariants.{Parameter, Local, Static, Undeclared}
use Rattle.icn_unit.specs.declared.unit.UnitInstr.{UnitInstr}
use Rattle.icn_unit.specs.declared.unit.UnitName.{UnitName}
use Rattle.icn_unit.specs.InstrWords.{word_of, word_text}
use Rattle.icn_unit.specs.OperandViews.{is_in_line}
use Rattle.icn_unit.specs.PlainUnits.{PlainProc, entry_names, params_in, proc_names}
use Rattle.icn_unit.specs.UnitOperands.{first_field, is_name}
use Rattle.icn_unit.specs.UnitRules.{has_label, has_name, in_order, is_number, keeps_code, keeps_head, keeps_names, keeps_operand, keeps_proc, keeps_procs, labels_differ, labels_placed, names_differ, own_labels, own_label, placed_labels, rank}
use Rattle.icn_unit.specs.UnitTexts.{flag_text, head_text, instr_text, kind_text, name_text, proc_text, procs_text}
use Rattle.icn_ucode.specs.UnitReading.{Heading, Outside, Naming, Coding, ProcsRead, ProcStage, empty_proc, coding_line, collects_read, each_line, entry_by, entry_named, entry_read, flag_of, head_by, head_read, instr_line as read_instr_line, is_indented, is_repeated, kind_of, last_rank, naming_line, or_bad, outside_line, params_read, procs_end, procs_line, procs_of, stage_line, then_step, with_entry, with_instr}
use Rattle.icn_ucode.proofs.CleanWords.{Leads, all_of_both, is_clean, clean_in_line, cut_last, cut_word, in_line, leads_all, leads_then, line_leads, name_clean}
use Rattle.icn_ucode.proofs.ListTests.{all_at, and_intro, and_parts, differs_at, in_order_at, not_of_false}
use Rattle.icn_ucode.proofs.KnownNames.{bytes_turned, nat_turned}
use Rattle.icn_ucode.proofs.SpelledInstrs.{CleanOperand, InstrLine, instr_line, not_indented, word_again, word_clean, word_other}
use Rattle.icn_ucode.proofs.SpelledOperands.{small_again, small_clean}
use Rattle.icn_ucode.proofs.Spelling.{rest_text}

abbrev state : List PlainProc → ProcStage → ProcsRead
state procs stage = record { procs = procs; stage = stage }

abbrev pub LeadsProcs : ProcsRead → List ℕ → ProcsRead → Type 0
LeadsProcs from text to = Leads procs_line from text to

-- a line that is not indented, as its stage reads it
stage_reads : (procs : List PlainProc) (stage : ProcStage) (line : List ℕ) (next : ProcsRead) → in_line line ≡ true → is_indented line ≡ false
    → stage_line procs stage line ≡ Ok next → LeadsProcs (state procs stage) (line ++ 10 ∷ []) next
unfolding procs_line
stage_reads procs stage line next h i e = line_leads procs_line (state procs stage) next line h (cond-false (is_indented line) _ _ i ∙ e)

-- The head of a procedure

flag_again : (flag : Bool) → flag_of (flag_text flag) ≡ Some flag
flag_again true = refl
flag_again false = refl

flag_clean : (flag : Bool) → is_clean (flag_text flag) ≡ true
flag_clean true = refl
flag_clean false = refl

abbrev head_words : List ℕ → ℕ → Bool → List ℕ
head_words name params collects = name ++ 32 ∷ (decimal params ++ 32 ∷ flag_text collects)

head_again : (name : List ℕ) (params : ℕ) (collects : Bool) → keeps_head name params collects ≡ true
    → head_read (Some (head_words name params collects)) ≡ Some (record { name = name; params = params; collects = collects })
head_again name params collects h =
    let parts = and_parts (is_name name && is_number params) (not collects || nat_lt 0 params) h in
    let firsts = and_parts (is_name name) (is_number params) parts.0 in
    ap (λ (words : List ℕ × Option (List ℕ)). params_read words.0 words.1)
    (cut_word name (decimal params ++ 32 ∷ flag_text collects) (name_clean name firsts.0))
    ∙ (ap (λ (words : List ℕ × Option (List ℕ)). collects_read name words.0 words.1)
    (cut_word (decimal params) (flag_text collects) (small_clean params firsts.1))
    ∙ (ap (λ found. option_and_then (λ p. option_and_then (λ c. head_by name p c) (flag_of (flag_text collects))) found) (small_again params firsts.1)
    ∙ (ap (λ found. option_and_then (λ c. head_by name params c) found) (flag_again collects)
    ∙ cond-true (is_name name && (not collects || nat_lt 0 params)) _ _ (and_intro (is_name name) (not collects || nat_lt 0 params) firsts.0 parts.1))))

words_in_line : (a b : List ℕ) → in_line a ≡ true → in_line b ≡ true → in_line (a ++ 32 ∷ b) ≡ true
words_in_line a b h g = all_of_both is_in_line a (32 ∷ b) h g

head_in_line : (name : List ℕ) (params : ℕ) (collects : Bool) → keeps_head name params collects ≡ true → in_line (head_words name params collects) ≡ true
head_in_line name params collects h =
    let parts = and_parts (is_name name && is_number params) (not collects || nat_lt 0 params) h in
    let firsts = and_parts (is_name name) (is_number params) parts.0 in
    words_in_line name (decimal params ++ 32 ∷ flag_text collects) (clean_in_line name (name_clean name firsts.0))
    (words_in_line (decimal params) (flag_text collects) (clean_in_line (decimal params) (small_clean params firsts.1))
    (clean_in_line (flag_text collects) (flag_clean collects)))

-- a procedure without its code
abbrev named : List ℕ → Bool → List UnitName → PlainProc
named name collects names = record { name = name; collects = collects; names = names; instrs = [] }

-- and with instructions
abbrev coded : List ℕ → Bool → List UnitName → List UnitInstr → PlainProc
coded name collects names instrs = record { name = name; collects = collects; names = names; instrs = instrs }

head_leads : (procs : List PlainProc) (name : List ℕ) (params : ℕ) (collects : Bool) → keeps_head name params collects ≡ true
    → has_name (proc_names procs) name ≡ false
    → LeadsProcs (state procs Outside) ((codes "proc " ++ head_words name params collects) ++ 10 ∷ []) (state procs (Naming params (named name collects [])))
head_leads procs name params collects h free =
    stage_reads procs Outside (codes "proc " ++ head_words name params collects) (state procs (Naming params (named name collects [])))
    (head_in_line name params collects h) refl
    (ap (λ (words : List ℕ × Option (List ℕ)). outside_line procs words.0 words.1) (cut_word (codes "proc") (head_words name params collects) refl)
    ∙ (ap (λ found. or_bad found (λ head. cond (has_name (proc_names procs) head.name) (Err U3) (Ok (state procs (Naming head.params (empty_proc head))))))
    (head_again name params collects h)
    ∙ cond-false (has_name (proc_names procs) name) _ _ free))

head_regrouped : (name digits flag : List ℕ) → ((name ++ 32 ∷ digits) ++ 32 ∷ flag) ++ 10 ∷ [] ≡ (name ++ 32 ∷ (digits ++ 32 ∷ flag)) ++ 10 ∷ []
head_regrouped name digits flag = ap (λ text. text ++ 10 ∷ []) (append_assoc name (32 ∷ digits) (32 ∷ flag))

-- Names

kind_again : (kind : NameKind) → kind_of (kind_text kind) ≡ Some kind
kind_again Parameter = refl
kind_again Local = refl
kind_again Static = refl
kind_again Undeclared = refl

kind_clean : (kind : NameKind) → is_clean (kind_text kind) ≡ true
kind_clean Parameter = refl
kind_clean Local = refl
kind_clean Static = refl
kind_clean Undeclared = refl

entries_around : (done : List UnitName) (entry : UnitName) (rest : List UnitName)
    → entry_names (done ++ entry ∷ rest) ≡ entry_names done ++ entry.name ∷ entry_names rest
entries_around [] entry rest = refl
entries_around (first ∷ done) entry rest = ap (λ names. first.name ∷ names) (entries_around done entry rest)

record EntryKept (done : List UnitName) (entry : UnitName) : Type 0 where
  named : is_name entry.name ≡ true
  ranked : nat_le (last_rank done) (rank entry.kind) ≡ true
  free : has_name (entry_names done) entry.name ≡ false

entry_kept : (done : List UnitName) (entry : UnitName) (rest : List UnitName) → keeps_names (done ++ entry ∷ rest) ≡ true → EntryKept done entry
entry_kept done entry rest h =
    let parts = and_parts (list_all is_name (entry_names (done ++ entry ∷ rest)) && names_differ (entry_names (done ++ entry ∷ rest)))
    (in_order (done ++ entry ∷ rest)) h in
    let firsts = and_parts (list_all is_name (entry_names (done ++ entry ∷ rest))) (names_differ (entry_names (done ++ entry ∷ rest))) parts.0 in
    let around = entries_around done entry rest in
    record {
      named = all_at is_name (entry_names done) entry.name (entry_names rest) (ap (λ names. list_all is_name names) (sym around) ∙ firsts.0);
      ranked = in_order_at done entry rest parts.1;
      free = differs_at bytes_eq bytes_turned (entry_names done) entry.name (entry_names rest) (ap (λ names. names_differ names) (sym around) ∙ firsts.1);
    }

entry_again : (done : List UnitName) (entry : UnitName) → EntryKept done entry → entry_read done (Some (kind_text entry.kind ++ 32 ∷ entry.name)) ≡ Some entry
entry_again done entry kept =
    ap (λ (words : List ℕ × Option (List ℕ)). entry_named done words.0 words.1) (cut_word (kind_text entry.kind) entry.name (kind_clean entry.kind))
    ∙ (ap (λ found. option_and_then (λ k. entry_by done k entry.name) found) (kind_again entry.kind)
    ∙ cond-true (is_name entry.name && nat_le (last_rank done) (rank entry.kind) && not (has_name (entry_names done) entry.name)) _ _
    (and_intro (is_name entry.name && nat_le (last_rank done) (rank entry.kind)) (not (has_name (entry_names done) entry.name))
    (and_intro (is_name entry.name) (nat_le (last_rank done) (rank entry.kind)) kept.named kept.ranked)
    (not_of_false (has_name (entry_names done) entry.name) kept.free)))

name_regrouped : (kind name : List ℕ) → ((codes "name " ++ kind) ++ 32 ∷ name) ++ 10 ∷ [] ≡ (codes "name" ++ 32 ∷ (kind ++ 32 ∷ name)) ++ 10 ∷ []
name_regrouped kind name = refl

name_leads : (procs : List PlainProc) (params : ℕ) (name : List ℕ) (collects : Bool) (done : List UnitName) (entry : UnitName) (rest : List UnitName)
    → keeps_names (done ++ entry ∷ rest) ≡ true
    → LeadsProcs (state procs (Naming params (named name collects done))) (name_text entry)
    (state procs (Naming params (named name collects (done ++ entry ∷ []))))
name_leads procs params name collects done entry rest h =
    let kept = entry_kept done entry rest h in
    let words = kind_text entry.kind ++ 32 ∷ entry.name in
    let fits : in_line words ≡ true = words_in_line (kind_text entry.kind) entry.name (clean_in_line (kind_text entry.kind) (kind_clean entry.kind))
    (clean_in_line entry.name (name_clean entry.name kept.named)) in
    let proc = named name collects done in
    let next = state procs (Naming params (named name collects (done ++ entry ∷ []))) in
    subst (λ text. LeadsProcs (state procs (Naming params proc)) text next) (sym (name_regrouped (kind_text entry.kind) entry.name))
    (stage_reads procs (Naming params proc) (codes "name" ++ 32 ∷ words) next fits refl
    (ap (λ (words : List ℕ × Option (List ℕ)). naming_line procs params proc words.0 words.1) (cut_word (codes "name") words refl)
    ∙ ap (λ found. or_bad found (λ entry. Ok (state procs (Naming params (with_entry proc entry))))) (entry_again done entry kept)))

names_lead : (procs : List PlainProc) (params : ℕ) (name : List ℕ) (collects : Bool) (names : List UnitName) → keeps_names names ≡ true
    → LeadsProcs (state procs (Naming params (named name collects []))) (flat_map name_text names) (state procs (Naming params (named name collects names)))
names_lead procs params name collects names h =
    leads_all procs_line name_text (λ done. state procs (Naming params (named name collects done))) (λ names. keeps_names names ≡ true)
    (λ done entry rest good. name_leads procs params name collects done entry rest good) [] names h

code_leads : (procs : List PlainProc) (name : List ℕ) (collects : Bool) (names : List UnitName)
    → LeadsProcs (state procs (Naming (params_in names) (named name collects names))) (codes "code" ++ 10 ∷ [])
    (state procs (Coding (named name collects names)))
code_leads procs name collects names =
    stage_reads procs (Naming (params_in names) (named name collects names)) (codes "code") (state procs (Coding (named name collects names))) refl refl
    (cond-true (params_in names == params_in names) _ _ (same (params_in names))) where
      same : (n : ℕ) → (n == n) ≡ true
      same n = grind arith

-- Instructions

abbrev code_so_far : ℕ → List UnitInstr → Bool
code_so_far names instrs = list_all (λ instr. keeps_operand names instr) instrs && labels_differ (placed_labels instrs)

placed_around : (done : List UnitInstr) (instr : UnitInstr) (rest : List UnitInstr)
    → placed_labels (done ++ instr ∷ rest) ≡ placed_labels done ++ (own_labels (own_label instr) ++ placed_labels rest)
placed_around [] instr rest = refl
placed_around (first ∷ done) instr rest = ap (λ labels. own_labels (own_label first) ++ labels) (placed_around done instr rest)
    ∙ sym (append_assoc (own_labels (own_label first)) (placed_labels done) (own_labels (own_label instr) ++ placed_labels rest))

not_repeated : (done : List UnitInstr) (instr : UnitInstr) (rest : List UnitInstr) → labels_differ (placed_labels (done ++ instr ∷ rest)) ≡ true
    → is_repeated done instr ≡ false
not_repeated done instr rest h = by_place (own_label instr) (ap (λ labels. labels_differ labels) (sym (placed_around done instr rest)) ∙ h) where
  by_place : (place : Option ℕ) → labels_differ (placed_labels done ++ (own_labels place ++ placed_labels rest)) ≡ true
      → option_map_or (λ label. has_label (placed_labels done) label) place false ≡ false
  by_place None h = refl
  by_place (Some label) h = differs_at nat_eq nat_turned (placed_labels done) label (placed_labels rest) h

-- the words of an instruction's line
instr_words_are : (word : InstrWord) (operand : Option (List ℕ)) → first_field (word_text word ++ rest_text operand) ≡ (word_text word, operand)
instr_words_are word None = ap first_field (append-nil (word_text word)) ∙ cut_last (word_text word) (word_clean word)
instr_words_are word (Some text) = cut_word (word_text word) text (word_clean word)

operand_in_line : (instr : UnitInstr) (names : ℕ) (line : InstrLine instr names) → in_line (rest_text line.operand) ≡ true
operand_in_line instr names line = by_operand line.operand line.clean where
  by_operand : (operand : Option (List ℕ)) → CleanOperand operand → in_line (rest_text operand) ≡ true
  by_operand None h = refl
  by_operand (Some text) h = clean_in_line text h

instr_leads : (procs : List PlainProc) (name : List ℕ) (collects : Bool) (names : List UnitName) (done : List UnitInstr) (instr : UnitInstr)
    (rest : List UnitInstr)
    → code_so_far (length names) (done ++ instr ∷ rest) ≡ true
    → LeadsProcs (state procs (Coding (coded name collects names done))) (instr_text instr)
    (state procs (Coding (coded name collects names (done ++ instr ∷ []))))
instr_leads procs name collects names done instr rest h =
    let parts = and_parts (list_all (λ instr. keeps_operand (length names) instr) (done ++ instr ∷ rest))
    (labels_differ (placed_labels (done ++ instr ∷ rest))) h in
    let line = instr_line instr (length names) (all_at (λ instr. keeps_operand (length names) instr) done instr rest parts.0) in
    let free = not_repeated done instr rest parts.1 in
    let proc = coded name collects names done in
    let word = word_of instr in
    let next = state procs (Coding (coded name collects names (done ++ instr ∷ []))) in
    subst (λ operand. LeadsProcs (state procs (Coding proc)) ((word_text word ++ operand) ++ 10 ∷ []) next) (sym line.spelled)
    (stage_reads procs (Coding proc) (word_text word ++ rest_text line.operand) next (all_of_both is_in_line (word_text word) (rest_text line.operand)
    (clean_in_line (word_text word) (word_clean word)) (operand_in_line instr (length names) line))
    (not_indented word (rest_text line.operand))
    (ap (λ (words : List ℕ × Option (List ℕ)). coding_line procs proc words.0 words.1) (instr_words_are word line.operand)
    ∙ (cond-false (bytes_eq (word_text word) (codes "end")) _ _ (word_other word)
    ∙ (ap (λ found. read_instr_line procs proc found line.operand) (word_again word)
    ∙ (ap (λ found. or_bad found (λ instr. cond (is_repeated done instr) (Err U5) (Ok (state procs (Coding (with_instr proc instr)))))) line.read
    ∙ cond-false (is_repeated done instr) _ _ free)))))

instrs_lead : (procs : List PlainProc) (name : List ℕ) (collects : Bool) (names : List UnitName) (instrs : List UnitInstr)
    → code_so_far (length names) instrs ≡ true
    → LeadsProcs (state procs (Coding (named name collects names))) (flat_map instr_text instrs) (state procs (Coding (coded name collects names instrs)))
instrs_lead procs name collects names instrs h =
    leads_all procs_line instr_text (λ done. state procs (Coding (coded name collects names done))) (λ instrs. code_so_far (length names) instrs ≡ true)
    (λ done instr rest good. instr_leads procs name collects names done instr rest good) [] instrs h

end_leads : (procs : List PlainProc) (proc : PlainProc) → labels_placed proc.instrs ≡ true
    → LeadsProcs (state procs (Coding proc)) (codes "end" ++ 10 ∷ []) (state (procs ++ proc ∷ []) Outside)
end_leads procs proc h =
    stage_reads procs (Coding proc) (codes "end") (state (procs ++ proc ∷ []) Outside) refl refl (cond-true (labels_placed proc.instrs) _ _ h)

-- Procedures

regrouped : (head names instrs : List ℕ) → (((((head ++ names) ++ codes "code") ++ 10 ∷ instrs) ++ codes "end") ++ 10 ∷ []) ≡ head
    ++ (names ++ ((codes "code" ++ 10 ∷ []) ++ (instrs ++ (codes "end" ++ 10 ∷ []))))
regrouped head names instrs = pieces head names (codes "code") instrs (codes "end") where
  pieces : (head names code instrs done : List ℕ)
      → (((((head ++ names) ++ code) ++ 10 ∷ instrs) ++ done) ++ 10 ∷ []) ≡ head ++ (names ++ ((code ++ 10 ∷ []) ++ (instrs ++ (done ++ 10 ∷ []))))
  pieces head names code instrs done = simp append_assoc

proc_leads : (procs : List PlainProc) (proc : PlainProc) → keeps_proc proc ≡ true → has_name (proc_names procs) proc.name ≡ false
    → LeadsProcs (state procs Outside) (proc_text proc) (state (procs ++ proc ∷ []) Outside)
proc_leads procs proc h free =
    let parts = and_parts (keeps_head proc.name (params_in proc.names) proc.collects && keeps_names proc.names)
    (keeps_code (length proc.names) proc.instrs) h in
    let firsts = and_parts (keeps_head proc.name (params_in proc.names) proc.collects) (keeps_names proc.names) parts.0 in
    let code = and_parts (code_so_far (length proc.names) proc.instrs) (labels_placed proc.instrs) parts.1 in
    let params = params_in proc.names in
    let outside = state procs Outside in
    let a = state procs (Naming params (named proc.name proc.collects [])) in
    let b = state procs (Naming params (named proc.name proc.collects proc.names)) in
    let c = state procs (Coding (named proc.name proc.collects proc.names)) in
    let d = state procs (Coding proc) in
    let last = state (procs ++ proc ∷ []) Outside in
    let names = flat_map name_text proc.names in
    let instrs = flat_map instr_text proc.instrs in
    let code_text = codes "code" ++ 10 ∷ [] in
    let end_text = codes "end" ++ 10 ∷ [] in
    let head : LeadsProcs outside (head_text proc) a =
    subst (λ text. LeadsProcs outside (codes "proc " ++ text) a) (sym (head_regrouped proc.name (decimal params) (flag_text proc.collects)))
    (head_leads procs proc.name params proc.collects firsts.0 free) in
    subst (λ text. LeadsProcs outside text last) (sym (regrouped (head_text proc) names instrs))
    (leads_then procs_line outside a last (head_text proc) (names ++ (code_text ++ (instrs ++ end_text))) head
    (leads_then procs_line a b last names (code_text ++ (instrs ++ end_text)) (names_lead procs params proc.name proc.collects proc.names firsts.1)
    (leads_then procs_line b c last code_text (instrs ++ end_text) (code_leads procs proc.name proc.collects proc.names)
    (leads_then procs_line c d last instrs end_text (instrs_lead procs proc.name proc.collects proc.names proc.instrs code.0) (end_leads procs proc code.1)))))

procs_around : (done : List PlainProc) (proc : PlainProc) (rest : List PlainProc)
    → proc_names (done ++ proc ∷ rest) ≡ proc_names done ++ proc.name ∷ proc_names rest
procs_around [] proc rest = refl
procs_around (first ∷ done) proc rest = ap (λ names. first.name ∷ names) (procs_around done proc rest)

next_leads : (done : List PlainProc) (proc : PlainProc) (rest : List PlainProc) → keeps_procs (done ++ proc ∷ rest) ≡ true
    → LeadsProcs (state done Outside) (proc_text proc) (state (done ++ proc ∷ []) Outside)
next_leads done proc rest h =
    let parts = and_parts (list_all keeps_proc (done ++ proc ∷ rest)) (names_differ (proc_names (done ++ proc ∷ rest))) h in
    proc_leads done proc (all_at keeps_proc done proc rest parts.0)
    (differs_at bytes_eq bytes_turned (proc_names done) proc.name (proc_names rest)
    (ap (λ names. names_differ names) (sym (procs_around done proc rest)) ∙ parts.1))

heading_leads : LeadsProcs (state [] Heading) (codes "U9.1" ++ 10 ∷ []) (state [] Outside)
heading_leads = stage_reads [] Heading (codes "U9.1") (state [] Outside) refl refl refl

all_lead : (procs : List PlainProc) → keeps_procs procs ≡ true → LeadsProcs (state [] Heading) (procs_text procs) (state procs Outside)
all_lead procs h =
    leads_then procs_line (state [] Heading) (state [] Outside) (state procs Outside) (codes "U9.1" ++ 10 ∷ []) (flat_map proc_text procs) heading_leads
    (leads_all procs_line proc_text (λ done. state done Outside) (λ procs. keeps_procs procs ≡ true) next_leads [] procs h)

-- procedures that keep the rules are read from their spelling
pub procs_again : (procs : List PlainProc) → keeps_procs procs ≡ true → procs_of (procs_text procs) ≡ Ok procs
unfolding procs_of
procs_again procs h = ap (λ found. then_step found procs_end)
    (ap (λ text. each_line procs_line (state [] Heading) [] text) (sym (append-nil (procs_text procs))) ∙ all_lead procs h [])
