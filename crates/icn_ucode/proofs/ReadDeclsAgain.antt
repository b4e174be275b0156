-- The spelling of what keeps the rules is read as it: declarations.
use Rattle.std.proofs.Common.{◌==◌, ◌≡◌, ℕ, Bool, true, false, cond, not, ◌&&◌, List, [], ◌∷◌, ◌++◌, Option, None, Some, Ok, refl, sym, ◌∙◌, ap, subst, append_assoc, append-nil}
use Rattle.std.specs.Prelude.{codes}
use Rattle.std.specs.List.{list_all, flat_map}
use Rattle.std.specs.Option.{option_map, option_and_then}
use Rattle.std.specs.Str.{bytes_eq}
use Rattle.std.specs.Cmp.Lexicographic.{same_text}
use Rattle.std.proofs.lemmas.Bool.{cond-true, cond-false, false≢true}
use Rattle.icn_unit.specs.OperandViews.{is_in_line}
use Rattle.icn_unit.specs.PlainUnits.{PlainDecl, Global, Procedure, Link, Invocable, PlainProc, Record, declared_name, declared_names, owned_name, owned_names, proc_names}
use Rattle.icn_unit.specs.UnitOperands.{first_field, is_inside, is_name}
use Rattle.icn_unit.specs.UnitRules.{has_name, keeps_decl, keeps_decls, names_differ, same_names, same_texts}
use Rattle.icn_unit.specs.UnitTexts.{behind_blank, bytes_text, decl_text, decls_text}
use Rattle.icn_ucode.specs.UnitReading.{DeclHeading, Declaring, Ended, DeclStage, DeclsRead, decl_stage_line, declaring_line, decls_end, decls_line, decls_of, each_line, fields_from, fields_read, is_indented, name_read, or_bad, record_by, record_read, then_step, with_decl, with_field}
use Rattle.icn_ucode.proofs.CleanWords.{Leads, all_of_both, is_clean, clean_in_line, cut_last, cut_word, in_line, is_word_byte, leads_all, leads_then, line_leads, name_clean}
use Rattle.icn_ucode.proofs.ListTests.{all_at, and_intro, and_parts, differs_at, differs_behind, not_of_false, neither, nor}
use Rattle.icn_ucode.proofs.KnownNames.{bytes_turned}
use Rattle.icn_ucode.proofs.SpelledOperands.{bytes_again, bytes_clean}

abbrev state : List PlainDecl → DeclStage → DeclsRead
state decls stage = record { decls = decls; stage = stage }

abbrev LeadsDecls : List (List ℕ) → DeclsRead → List ℕ → DeclsRead → Type 0
LeadsDecls procs from text to = Leads (decls_line procs) from text to

stage_reads : (procs : List (List ℕ)) (decls : List PlainDecl) (stage : DeclStage) (line : List ℕ) (next : DeclsRead) → in_line line ≡ true
    → is_indented line ≡ false → decl_stage_line procs decls stage line ≡ Ok next → LeadsDecls procs (state decls stage) (line ++ 10 ∷ []) next
unfolding decls_line
stage_reads procs decls stage line next h i e = line_leads (decls_line procs) (state decls stage) next line h (cond-false (is_indented line) _ _ i ∙ e)

-- The fields of a record

fields_in_line : (fields : List (List ℕ)) → list_all is_name fields ≡ true → in_line (flat_map behind_blank fields) ≡ true
fields_in_line [] h = refl
fields_in_line (field ∷ fields) h =
    let parts = and_parts (is_name field) (list_all is_name fields) h in
    all_of_both is_in_line field (flat_map behind_blank fields) (clean_in_line field (name_clean field parts.0)) (fields_in_line fields parts.1)

word_on : (done : List (List ℕ)) (front word text : List ℕ) → is_clean word ≡ true
    → fields_from done front (word ++ text) ≡ fields_from done (front ++ word) text
word_on done front [] text h = ap (λ front. fields_from done front text) (sym (append-nil front))
word_on done front (b ∷ word) text h =
    let parts = and_parts (is_word_byte b) (is_clean word) h in
    let inside = and_parts (is_inside b) (is_in_line b) parts.0 in
    cond-false (b == 32) _ _ (other (b == 32) inside.0)
    ∙ (word_on done (front ++ b ∷ []) word text parts.1 ∙ ap (λ front. fields_from done front text) (append_assoc front (b ∷ []) word)) where
      other : (test : Bool) → cond test false true ≡ true → test ≡ false
      other true h = absurd (false≢true h)
      other false h = refl

field_taken : (done : List (List ℕ)) (field : List ℕ) → is_name field ≡ true → has_name done field ≡ false → with_field done field ≡ Some (done ++ field ∷ [])
field_taken done field named free =
    cond-true
    (is_name field && not (has_name done field)) _ _ (and_intro (is_name field) (not (has_name done field)) named (not_of_false (has_name done field) free))

field_again : (done : List (List ℕ)) (field : List ℕ) (rest : List (List ℕ)) → list_all is_name (done ++ field ∷ rest) ≡ true
    → names_differ (done ++ field ∷ rest) ≡ true → fields_from done [] (field ++ flat_map behind_blank rest) ≡ Some (done ++ field ∷ rest)
field_again done field [] h g =
    let named = all_at is_name done field [] h in
    word_on done [] field [] (name_clean field named) ∙ field_taken done field named (differs_at bytes_eq bytes_turned done field [] g)
field_again done field (next ∷ rest) h g =
    let named = all_at is_name done field (next ∷ rest) h in
    let same : (done ++ field ∷ []) ++ next ∷ rest ≡ done ++ field ∷ next ∷ rest = append_assoc done (field ∷ []) (next ∷ rest) in
    word_on done [] field (32 ∷ (next ++ flat_map behind_blank rest)) (name_clean field named)
    ∙ (ap (λ found. option_and_then (λ more. fields_from more [] (next ++ flat_map behind_blank rest)) found)
    (field_taken done field named (differs_at bytes_eq bytes_turned done field (next ∷ rest) g))
    ∙ (field_again (done ++ field ∷ []) next rest (ap (λ fields. list_all is_name fields) same ∙ h) (ap (λ fields. names_differ fields) same ∙ g)
    ∙ ap (λ fields. Some fields) same))

-- the words of a record's line: the name alone, or with what stands behind the first blank
record_words : (name : List ℕ) (fields : List (List ℕ)) → is_name name ≡ true → list_all is_name fields ≡ true → names_differ fields ≡ true
    → (rest : Option (List ℕ)) × (first_field (name ++ flat_map behind_blank fields) ≡ (name, rest)) × (fields_read rest ≡ Some fields)
record_words name [] n h g = (None, ap first_field (append-nil name) ∙ cut_last name (name_clean name n), refl)
record_words name (field ∷ fields) n h g =
    (Some (field ++ flat_map behind_blank fields), cut_word name (field ++ flat_map behind_blank fields) (name_clean name n), field_again [] field fields h g)

record_again : (procs : List (List ℕ)) (decls : List PlainDecl) (name : List ℕ) (fields : List (List ℕ))
    → keeps_decl (Record name fields) ≡ true → has_name procs name ≡ false → has_name (owned_names decls) name ≡ false
    → record_read procs decls (Some (name ++ flat_map behind_blank fields)) ≡ Some (Record name fields)
record_again procs decls name fields h apart free =
    let parts = and_parts (is_name name && list_all is_name fields) (names_differ fields) h in
    let firsts = and_parts (is_name name) (list_all is_name fields) parts.0 in
    let words = record_words name fields firsts.0 firsts.1 parts.1 in
    ap (λ (words : List ℕ × Option (List ℕ)). record_by procs decls words.0 words.1) words.1
    ∙ (cond-true (is_name name && not (has_name procs name) && not (has_name (owned_names decls) name)) _ _
    (and_intro (is_name name && not (has_name procs name)) (not (has_name (owned_names decls) name))
    (and_intro (is_name name) (not (has_name procs name)) firsts.0 (not_of_false (has_name procs name) apart))
    (not_of_false (has_name (owned_names decls) name) free))
    ∙ ap (λ found. option_map (λ fields. Record name fields) found) words.2)

-- Declarations

-- the line of a declaration: its first word, and what stands behind it
record DeclLine (procs : List (List ℕ)) (decls : List PlainDecl) (decl : PlainDecl) : Type 0 where
  word : List ℕ
  operand : List ℕ
  spelled : decl_text decl ≡ (word ++ 32 ∷ operand) ++ 10 ∷ []
  plain : in_line (word ++ 32 ∷ operand) ≡ true
  flush : is_indented (word ++ 32 ∷ operand) ≡ false
  words : first_field (word ++ 32 ∷ operand) ≡ (word, Some operand)
  read : declaring_line procs decls word (Some operand) ≡ with_decl decls decl

abbrev IsFree : List PlainDecl → PlainDecl → Type 0
IsFree decls decl = list_all (λ name. not (has_name (owned_names decls) name)) (owned_name decl) ≡ true

-- a record has another name than the procedures
abbrev IsApart : List (List ℕ) → PlainDecl → Type 0
IsApart procs (Global name) = Unit {0}
IsApart procs (Procedure name) = Unit {0}
IsApart procs (Link bytes) = Unit {0}
IsApart procs (Invocable bytes) = Unit {0}
IsApart procs (Record name fields) = has_name procs name ≡ false

free_name : (decls : List PlainDecl) (name : List ℕ) → (not (has_name (owned_names decls) name) && true) ≡ true → has_name (owned_names decls) name ≡ false
free_name decls name h = by_test (has_name (owned_names decls) name) h where
  by_test : (test : Bool) → (not test && true) ≡ true → test ≡ false
  by_test true h = absurd (false≢true h)
  by_test false h = refl

name_again : (name : List ℕ) → is_name name ≡ true → name_read (Some name) ≡ Some name
name_again name h = cond-true (is_name name) _ _ h

decl_line : (procs : List (List ℕ)) (decls : List PlainDecl) (decl : PlainDecl) → keeps_decl decl ≡ true → IsApart procs decl → IsFree decls decl
    → DeclLine procs decls decl
decl_line procs decls (Global name) h apart free = record {
  word = codes "global";
  operand = name;
  spelled = refl;
  plain = clean_in_line name (name_clean name h);
  flush = refl;
  words = cut_word (codes "global") name refl;
  read = ap (λ found. or_bad (option_map (λ name. Global name) found) (with_decl decls)) (name_again name h);
}
decl_line procs decls (Procedure name) h apart free = record {
  word = codes "proc";
  operand = name;
  spelled = refl;
  plain = clean_in_line name (name_clean name h);
  flush = refl;
  words = cut_word (codes "proc") name refl;
  read = ap (λ found. or_bad (option_and_then (λ name. cond (has_name (owned_names decls) name) None (Some (Procedure name))) found) (with_decl decls))
      (name_again name h)
      ∙ ap (λ found. or_bad found (with_decl decls)) (cond-false (has_name (owned_names decls) name) _ _ (free_name decls name free));
}
decl_line procs decls (Link bytes) h apart free = record {
  word = codes "link";
  operand = bytes_text bytes;
  spelled = refl;
  plain = clean_in_line (bytes_text bytes) (bytes_clean bytes h);
  flush = refl;
  words = cut_word (codes "link") (bytes_text bytes) refl;
  read = ap (λ found. or_bad (option_map (λ bytes. Link bytes) found) (with_decl decls)) (bytes_again bytes h);
}
decl_line procs decls (Invocable bytes) h apart free = record {
  word = codes "invocable";
  operand = bytes_text bytes;
  spelled = refl;
  plain = clean_in_line (bytes_text bytes) (bytes_clean bytes h);
  flush = refl;
  words = cut_word (codes "invocable") (bytes_text bytes) refl;
  read = ap (λ found. or_bad (option_map (λ bytes. Invocable bytes) found) (with_decl decls)) (bytes_again bytes h);
}
decl_line procs decls (Record name fields) h apart free =
    let parts = and_parts (is_name name && list_all is_name fields) (names_differ fields) h in
    let firsts = and_parts (is_name name) (list_all is_name fields) parts.0 in
    record {
      word = codes "record";
      operand = name ++ flat_map behind_blank fields;
      spelled = refl;
      plain = all_of_both is_in_line name (flat_map behind_blank fields) (clean_in_line name (name_clean name firsts.0)) (fields_in_line fields firsts.1);
      flush = refl;
      words = cut_word (codes "record") (name ++ flat_map behind_blank fields) refl;
      read = ap (λ found. or_bad found (with_decl decls)) (record_again procs decls name fields h apart (free_name decls name free));
    }

decl_leads : (procs : List (List ℕ)) (decls : List PlainDecl) (decl : PlainDecl) → keeps_decl decl ≡ true → IsApart procs decl → IsFree decls decl
    → LeadsDecls procs (state decls Declaring) (decl_text decl) (state (decls ++ decl ∷ []) Declaring)
decl_leads procs decls decl h apart free =
    let line = decl_line procs decls decl h apart free in
    let next = state (decls ++ decl ∷ []) Declaring in
    subst (λ text. LeadsDecls procs (state decls Declaring) text next) (sym line.spelled)
    (stage_reads procs decls Declaring (line.word ++ 32 ∷ line.operand) next line.plain line.flush
    (ap (λ (words : List ℕ × Option (List ℕ)). declaring_line procs decls words.0 words.1) line.words ∙ line.read))

owned_around : (done : List PlainDecl) (decl : PlainDecl) (rest : List PlainDecl)
    → owned_names (done ++ decl ∷ rest) ≡ owned_names done ++ (owned_name decl ++ owned_names rest)
owned_around [] decl rest = refl
owned_around (first ∷ done) decl rest = ap (λ names. owned_name first ++ names) (owned_around done decl rest)
    ∙ sym (append_assoc (owned_name first) (owned_names done) (owned_name decl ++ owned_names rest))

decl_free : (done : List PlainDecl) (decl : PlainDecl) (more : List (List ℕ)) → names_differ (owned_names done ++ (owned_name decl ++ more)) ≡ true
    → IsFree done decl
decl_free done (Global name) more h = refl
decl_free done (Link bytes) more h = refl
decl_free done (Invocable bytes) more h = refl
decl_free done (Procedure name) more h = and_intro (not (has_name (owned_names done) name)) true
    (not_of_false (has_name (owned_names done) name) (differs_at bytes_eq bytes_turned (owned_names done) name more h)) refl
decl_free done (Record name fields) more h = and_intro (not (has_name (owned_names done) name)) true
    (not_of_false (has_name (owned_names done) name) (differs_at bytes_eq bytes_turned (owned_names done) name more h)) refl

-- the names of procedures and records, without those of records
subset : (decls : List PlainDecl) (name : List ℕ) → has_name (owned_names decls) name ≡ false → has_name (declared_names decls) name ≡ false
subset [] name h = refl
subset (Global other ∷ decls) name h = subset decls name h
subset (Link bytes ∷ decls) name h = subset decls name h
subset (Invocable bytes ∷ decls) name h = subset decls name h
subset (Procedure other ∷ decls) name h = let parts = neither (bytes_eq name other) (has_name (owned_names decls) name) h in
    nor (bytes_eq name other) (has_name (declared_names decls) name) parts.0 (subset decls name parts.1)
subset (Record other fields ∷ decls) name h = subset decls name (neither (bytes_eq name other) (has_name (owned_names decls) name) h).1

declared_around : (done : List PlainDecl) (decl : PlainDecl) (rest : List PlainDecl)
    → declared_names (done ++ decl ∷ rest) ≡ declared_names done ++ (declared_name decl ++ declared_names rest)
declared_around [] decl rest = refl
declared_around (first ∷ done) decl rest = ap (λ names. declared_name first ++ names) (declared_around done decl rest)
    ∙ sym (append_assoc (declared_name first) (declared_names done) (declared_name decl ++ declared_names rest))

none_of_both : (xs ys : List (List ℕ)) (name : List ℕ) → has_name xs name ≡ false → has_name ys name ≡ false → has_name (xs ++ ys) name ≡ false
none_of_both [] ys name h g = g
none_of_both (x ∷ xs) ys name h g =
    let parts = neither (bytes_eq name x) (has_name xs name) h in nor (bytes_eq name x) (has_name (xs ++ ys) name) parts.0 (none_of_both xs ys name parts.1 g)

decl_apart : (done : List PlainDecl) (decl : PlainDecl) (rest : List PlainDecl)
    → names_differ (owned_names done ++ (owned_name decl ++ owned_names rest)) ≡ true
    → IsApart (declared_names (done ++ decl ∷ rest)) decl
decl_apart done (Global name) rest h = tt
decl_apart done (Procedure name) rest h = tt
decl_apart done (Link bytes) rest h = tt
decl_apart done (Invocable bytes) rest h = tt
decl_apart done (Record name fields) rest h =
    let before = differs_at bytes_eq bytes_turned (owned_names done) name (owned_names rest) h in
    let behind = differs_behind (owned_names done) name (owned_names rest) h in
    ap (λ names. has_name names name) (declared_around done (Record name fields) rest)
    ∙ none_of_both (declared_names done) (declared_names rest) name (subset done name before) (subset rest name behind)

-- what is kept while declarations are read: they keep the rules, and the procedures are those that all of them name
abbrev Kept : List (List ℕ) → List PlainDecl → Type 0
Kept procs decls = (keeps_decls decls ≡ true) × (procs ≡ declared_names decls)

next_leads : (procs : List (List ℕ)) (done : List PlainDecl) (decl : PlainDecl) (rest : List PlainDecl) → Kept procs (done ++ decl ∷ rest)
    → LeadsDecls procs (state done Declaring) (decl_text decl) (state (done ++ decl ∷ []) Declaring)
next_leads procs done decl rest h =
    let parts = and_parts (list_all keeps_decl (done ++ decl ∷ rest)) (names_differ (owned_names (done ++ decl ∷ rest))) h.0 in
    let differ : names_differ (owned_names done ++ (owned_name decl ++ owned_names rest))
    ≡ true = ap (λ names. names_differ names) (sym (owned_around done decl rest)) ∙ parts.1 in
    decl_leads procs done decl (all_at keeps_decl done decl rest parts.0)
    (subst (λ (procs : List (List ℕ)). IsApart procs decl) (sym h.1) (decl_apart done decl rest differ)) (decl_free done decl (owned_names rest) differ)

all_lead : (procs : List (List ℕ)) (decls : List PlainDecl) → Kept procs decls → LeadsDecls procs (state [] DeclHeading) (decls_text decls) (state decls Ended)
all_lead procs decls h =
    let heading : LeadsDecls procs (state [] DeclHeading) (codes "U9.2" ++ 10 ∷ []) (state [] Declaring) = stage_reads procs [] DeclHeading (codes "U9.2")
    (state [] Declaring) refl refl refl in
    let lines = leads_all (decls_line procs) decl_text (λ done. state done Declaring) (λ decls. Kept procs decls) (next_leads procs) [] decls h in
    let last : LeadsDecls procs (state decls Declaring) (codes "end" ++ 10 ∷ []) (state decls Ended) = stage_reads procs decls Declaring (codes "end")
    (state decls Ended) refl refl refl in
    subst (λ text. LeadsDecls procs (state [] DeclHeading) text (state decls Ended)) (regrouped (flat_map decl_text decls))
    (leads_then (decls_line procs) (state [] DeclHeading) (state [] Declaring) (state decls Ended) (codes "U9.2" ++ 10 ∷ [])
    (flat_map decl_text decls ++ (codes "end" ++ 10 ∷ [])) heading
    (leads_then (decls_line procs) (state [] Declaring) (state decls Declaring) (state decls Ended) (flat_map decl_text decls)
    (codes "end" ++ 10 ∷ []) lines last)) where
      regrouped : (text : List ℕ) → (codes "U9.2" ++ 10 ∷ []) ++ (text ++ (codes "end" ++ 10 ∷ [])) ≡ codes "U9.2" ++ 10 ∷ text ++ codes "end" ++ 10 ∷ []
      regrouped text = ap (λ text. codes "U9.2" ++ 10 ∷ text) (sym (append_assoc text (codes "end") (10 ∷ [])))

same_list : (xs ys : List (List ℕ)) → same_texts xs ys ≡ true → xs ≡ ys
same_list [] [] h = refl
same_list [] (y ∷ ys) h = absurd (false≢true h)
same_list (x ∷ xs) [] h = absurd (false≢true h)
same_list (x ∷ xs) (y ∷ ys) h =
    let parts = and_parts (bytes_eq x y) (same_texts xs ys) h in ap (λ x. x ∷ xs) (same_text x y (sym parts.0)) ∙ ap (λ xs. y ∷ xs) (same_list xs ys parts.1)

-- declarations that keep the rules are read from their spelling, behind the procedures that they name
pub decls_again : (procs : List PlainProc) (decls : List PlainDecl) → keeps_decls decls ≡ true → same_names procs decls ≡ true
    → decls_of (proc_names procs) (decls_text decls) ≡ Ok decls
unfolding decls_of
decls_again procs decls h n =
    ap (λ found. then_step found decls_end)
    (ap (λ text. each_line (decls_line (proc_names procs)) (state [] DeclHeading) [] text) (sym (append-nil (decls_text decls)))
    ∙ all_lead (proc_names procs) decls (h, same_list (proc_names procs) (declared_names decls) n) [])
