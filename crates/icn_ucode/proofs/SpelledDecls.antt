-- The lines of declarations are the spelling of what they are read as.
use Rattle.std.proofs.Common.{◌==◌, ◌≡◌, ℕ, Bool, true, false, cond, not, ◌&&◌, List, [], ◌∷◌, ◌++◌, Option, None, Some, Result, Ok, Err, refl, sym, ◌∙◌, ap, subst, append_assoc, append-nil}
use Rattle.std.specs.Prelude.{codes}
use Rattle.std.specs.List.{flat_map}
use Rattle.std.specs.Option.{option_map, option_and_then}
use Rattle.std.specs.Str.{bytes_eq}
use Rattle.std.specs.Cmp.Lexicographic.{same_text}
use Rattle.std.proofs.lemmas.Bool.{eqb-true}
use Rattle.std.proofs.lemmas.Option.{none-some, same_Some}
use Rattle.icn_tree.specs.declared.rule.Rule.{Rule}
use Rattle.icn_tree.specs.declared.rule.Rule.TheVariants.{U1, U3, U6}
use Rattle.icn_unit.specs.UnitOperands.{first_field, is_name}
use Rattle.icn_unit.specs.PlainUnits.{PlainDecl, Global, Procedure, Link, Invocable, Record, owned_names}
use Rattle.icn_unit.specs.UnitRules.{has_name}
use Rattle.icn_ucode.specs.UnitReading.{global_read, invocable_read, is_indented, link_read, DeclStage, DeclHeading, Declaring, Ended, DeclsRead, bytes_read, decl_stage_end, decl_stage_line, declaring_line, decls_end, decls_line, decls_of, each_line, ended_line, fields_from, fields_read, name_read, or_bad, procedure_read, record_by, record_read, then_step, with_decl, with_field}
use Rattle.icn_unit.specs.UnitTexts.{behind_blank, bytes_text, decl_text, decls_text}
use Rattle.icn_ucode.proofs.Spelling.{rest_text, cut_all, bytes_spelled}
use Rattle.icn_ucode.proofs.SpelledLines.{ok_same, err_ok, heading_line, lines_spelled, not_chosen_step, found_in, then_some, picked, texts_more, going}

name_spelled : (operand : Option (List ℕ)) (name : List ℕ) → name_read operand ≡ Some name → rest_text operand ≡ 32 ∷ name
name_spelled None name e = absurd (none-some name e)
name_spelled (Some text) name e = ap (λ xs. 32 ∷ xs) (picked (is_name text) text name e)

link_spelled : (operand : Option (List ℕ)) (bytes : List ℕ) → bytes_read operand ≡ Some bytes → rest_text operand ≡ 32 ∷ bytes_text bytes
link_spelled None bytes e = absurd (none-some bytes e)
link_spelled (Some text) bytes e = ap (λ xs. 32 ∷ xs) (sym (bytes_spelled text bytes e).0)

field_added : (fields : List (List ℕ)) (word : List ℕ) (all : List (List ℕ)) → with_field fields word ≡ Some all
    → flat_map behind_blank all ≡ flat_map behind_blank fields ++ 32 ∷ word
field_added fields word all e =
    ap (λ fields. flat_map behind_blank fields) (sym (picked (is_name word && not (has_name fields word)) (fields ++ word ∷ []) all e))
    ∙ texts_more behind_blank fields word

fields_spelled : (fields : List (List ℕ)) (word text : List ℕ) (all : List (List ℕ)) → fields_from fields word text ≡ Some all
    → flat_map behind_blank all ≡ flat_map behind_blank fields ++ 32 ∷ (word ++ text)
fields_spelled fields word [] all e = field_added fields word all e ∙ ap (λ w. flat_map behind_blank fields ++ 32 ∷ w) (sym (append-nil word))
fields_spelled fields word (b ∷ text) all e =
    by_blank (b == 32) refl (λ more f. fields_spelled more [] text all f) (λ f. fields_spelled fields (word ++ b ∷ []) text all f) e where
      by_blank : (test : Bool) → (b == 32) ≡ test
          → ((more : List (List ℕ)) → fields_from more [] text ≡ Some all → flat_map behind_blank all ≡ flat_map behind_blank more ++ 32 ∷ text)
          → (fields_from fields (word ++ b ∷ []) text ≡ Some all → flat_map behind_blank all ≡ flat_map behind_blank fields ++ 32 ∷ ((word ++ b ∷ []) ++ text))
          → cond test (option_and_then (λ more. fields_from more [] text) (with_field fields word)) (fields_from fields (word ++ b ∷ []) text) ≡ Some all
          → flat_map behind_blank all ≡ flat_map behind_blank fields ++ 32 ∷ (word ++ b ∷ text)
      by_blank true t later more e =
          let found = then_some (with_field fields word) (λ more. fields_from more [] text) all e in
          later found.0 found.2
          ∙ (ap (λ xs. xs ++ 32 ∷ text) (field_added fields word found.0 found.1) ∙ (append_assoc (flat_map behind_blank fields) (32 ∷ word) (32 ∷ text)
          ∙ ap (λ c. flat_map behind_blank fields ++ 32 ∷ (word ++ c ∷ text)) (sym (eqb-true b 32 t))))
      by_blank false t later more e = more e ∙ ap (λ xs. flat_map behind_blank fields ++ 32 ∷ xs) (append_assoc word (b ∷ []) text)

rest_spelled : (rest : Option (List ℕ)) (fields : List (List ℕ)) → fields_read rest ≡ Some fields → flat_map behind_blank fields ≡ rest_text rest
rest_spelled None fields e = ap (λ fields. flat_map behind_blank fields) (sym (same_Some [] fields e))
rest_spelled (Some text) fields e = fields_spelled [] [] text fields e

pub mapped_decl : {A : Type 0} (found : Option A) (make : A → PlainDecl) (decl : PlainDecl) → option_map make found ≡ Some decl
    → (x : A) × (found ≡ Some x) × (make x ≡ decl)
mapped_decl None make decl e = absurd (none-some decl e)
mapped_decl (Some x) make decl e = (x, refl, same_Some (make x) decl e)

global_line : (operand : Option (List ℕ)) (decl : PlainDecl) → global_read operand ≡ Some decl
    → decl_text decl ≡ (codes "global" ++ rest_text operand) ++ 10 ∷ []
global_line operand decl e =
    let found = mapped_decl (name_read operand) (λ name. Global name) decl e in
    ap decl_text (sym found.2) ∙ ap (λ xs. (codes "global" ++ xs) ++ 10 ∷ []) (sym (name_spelled operand found.0 found.1))

link_line : (operand : Option (List ℕ)) (decl : PlainDecl) → link_read operand ≡ Some decl → decl_text decl ≡ (codes "link" ++ rest_text operand) ++ 10 ∷ []
link_line operand decl e =
    let found = mapped_decl (bytes_read operand) (λ bytes. Link bytes) decl e in
    ap decl_text (sym found.2) ∙ ap (λ xs. (codes "link" ++ xs) ++ 10 ∷ []) (sym (link_spelled operand found.0 found.1))

invocable_line : (operand : Option (List ℕ)) (decl : PlainDecl) → invocable_read operand ≡ Some decl
    → decl_text decl ≡ (codes "invocable" ++ rest_text operand) ++ 10 ∷ []
invocable_line operand decl e =
    let found = mapped_decl (bytes_read operand) (λ bytes. Invocable bytes) decl e in
    ap decl_text (sym found.2) ∙ ap (λ xs. (codes "invocable" ++ xs) ++ 10 ∷ []) (sym (link_spelled operand found.0 found.1))

record_named : (procs : List (List ℕ)) (decls : List PlainDecl) (name : List ℕ) (rest : Option (List ℕ)) (decl : PlainDecl)
    → record_by procs decls name rest ≡ Some decl
    → decl_text decl ≡ codes "record " ++ (name ++ rest_text rest) ++ 10 ∷ []
record_named procs decls name rest decl e = by_test (is_name name && not (has_name procs name) && not (has_name (owned_names decls) name)) e where
  by_test : (test : Bool) → cond test (option_map (λ fields. Record name fields) (fields_read rest)) None ≡ Some decl
      → decl_text decl ≡ codes "record " ++ (name ++ rest_text rest) ++ 10 ∷ []
  by_test true e =
      let found = mapped_decl (fields_read rest) (λ fields. Record name fields) decl e in
      ap decl_text (sym found.2) ∙ ap (λ xs. codes "record " ++ (name ++ xs) ++ 10 ∷ []) (rest_spelled rest found.0 found.1)
  by_test false e = absurd (none-some decl e)

record_spelled : (procs : List (List ℕ)) (decls : List PlainDecl) (operand : Option (List ℕ)) (decl : PlainDecl) → record_read procs decls operand ≡ Some decl
    → decl_text decl ≡ (codes "record" ++ rest_text operand) ++ 10 ∷ []
record_spelled procs decls None decl e = absurd (none-some decl e)
record_spelled procs decls (Some text) decl e =
    record_named procs decls (first_field text).0 (first_field text).1 decl e ∙ ap (λ xs. codes "record " ++ xs ++ 10 ∷ []) (sym (cut_all text))

proc_spelled : (decls : List PlainDecl) (operand : Option (List ℕ)) (decl : PlainDecl) → procedure_read decls operand ≡ Some decl
    → decl_text decl ≡ (codes "proc" ++ rest_text operand) ++ 10 ∷ []
proc_spelled decls operand decl e =
    let found = then_some (name_read operand) (λ name. cond (has_name (owned_names decls) name) None (Some (Procedure name))) decl e in
    ap decl_text (sym (unowned (has_name (owned_names decls) found.0) (Procedure found.0) decl found.2))
    ∙ ap (λ xs. (codes "proc" ++ xs) ++ 10 ∷ []) (sym (name_spelled operand found.0 found.1)) where
      unowned : (test : Bool) (x y : PlainDecl) → ◌≡◌ {A = Option PlainDecl} (cond test None (Some x)) (Some y) → x ≡ y
      unowned true x y e = absurd (none-some y e)
      unowned false x y e = same_Some x y e

-- Lines

abbrev declared : List PlainDecl → List ℕ
declared decls = codes "U9.2" ++ 10 ∷ flat_map decl_text decls

abbrev stage_spelled : List PlainDecl → DeclStage → List ℕ
stage_spelled decls DeclHeading = []
stage_spelled decls Declaring = declared decls
stage_spelled decls Ended = decls_text decls

abbrev spelled_so_far : DeclsRead → List ℕ
spelled_so_far read = stage_spelled read.decls read.stage

abbrev StageGood : List PlainDecl → DeclStage → Type 0
StageGood decls DeclHeading = decls ≡ []
StageGood decls Declaring = Unit {0}
StageGood decls Ended = Unit {0}

abbrev IsGood : DeclsRead → Type 0
IsGood read = StageGood read.decls read.stage

abbrev Adds : List ℕ → List ℕ → DeclsRead → Type 0
Adds text line next = IsGood next × (spelled_so_far next ≡ text ++ line ++ 10 ∷ [])

-- a declaration that is its line
pushed : (decls : List PlainDecl) (decl : PlainDecl) (line : List ℕ) (next : DeclsRead) → decl_text decl ≡ line ++ 10 ∷ [] → with_decl decls decl ≡ Ok next
    → Adds (declared decls) line next
pushed decls decl line next is e =
    subst (λ (next : DeclsRead). Adds (declared decls) line next) (ok_same (record { decls = decls ++ decl ∷ []; stage = Declaring }) next e) (
      tt,
      ap (λ xs. codes "U9.2" ++ 10 ∷ xs) (texts_more decl_text decls decl ∙ ap (λ xs. flat_map decl_text decls ++ xs) is)
          ∙ going (codes "U9.2") (flat_map decl_text decls) line,
    )

declaring_adds : (procs : List (List ℕ)) (decls : List PlainDecl) (word : List ℕ) (operand : Option (List ℕ)) (next : DeclsRead)
    → declaring_line procs decls word operand ≡ Ok next → Adds (declared decls) (word ++ rest_text operand) next
declaring_adds procs decls word operand next e = by_global (bytes_eq word (codes "global")) refl e where
  line_is : (text : List ℕ) → bytes_eq word text ≡ true → (text ++ rest_text operand) ++ 10 ∷ [] ≡ (word ++ rest_text operand) ++ 10 ∷ []
  line_is text t = ap (λ w. (w ++ rest_text operand) ++ 10 ∷ []) (sym (same_text word text (sym t)))

  ended : (operand : Option (List ℕ)) → word ≡ codes "end" → ended_line decls operand ≡ Ok next → Adds (declared decls) (word ++ rest_text operand) next
  ended (Some text) w e = absurd (err_ok U3 next e)
  ended None w e =
      subst (λ (next : DeclsRead). Adds (declared decls) (word ++ []) next) (ok_same (record { decls = decls; stage = Ended }) next e)
      (tt, ap (λ w. declared decls ++ w ++ 10 ∷ []) (sym w ∙ sym (append-nil word)))

  by_end : (test : Bool) → bytes_eq word (codes "end") ≡ test → cond test (ended_line decls operand) (Err U1) ≡ Ok next
      → Adds (declared decls) (word ++ rest_text operand) next
  by_end true t e = ended operand (same_text word (codes "end") (sym t)) e
  by_end false t e = absurd (err_ok U1 next e)

  by_record : (test : Bool) → bytes_eq word (codes "record") ≡ test → cond test (or_bad (record_read procs decls operand) (with_decl decls))
      (cond (bytes_eq word (codes "end")) (ended_line decls operand) (Err U1)) ≡ Ok next → Adds (declared decls) (word ++ rest_text operand) next
  by_record true t e =
      let found = found_in (record_read procs decls operand) (with_decl decls) next e in
      pushed decls found.0 (word ++ rest_text operand) next (record_spelled procs decls operand found.0 found.1 ∙ line_is (codes "record") t) found.2
  by_record false t e = by_end (bytes_eq word (codes "end")) refl e

  by_invocable : (test : Bool) → bytes_eq word (codes "invocable") ≡ test
      → cond test (or_bad (invocable_read operand) (with_decl decls)) (cond (bytes_eq word (codes "record"))
      (or_bad (record_read procs decls operand) (with_decl decls)) (cond (bytes_eq word (codes "end")) (ended_line decls operand) (Err U1))) ≡ Ok next
      → Adds (declared decls) (word ++ rest_text operand) next
  by_invocable true t e =
      let found = found_in (invocable_read operand) (with_decl decls) next e in
      pushed decls found.0 (word ++ rest_text operand) next (invocable_line operand found.0 found.1 ∙ line_is (codes "invocable") t) found.2
  by_invocable false t e = by_record (bytes_eq word (codes "record")) refl e

  by_link : (test : Bool) → bytes_eq word (codes "link") ≡ test
      → cond test (or_bad (link_read operand) (with_decl decls)) (cond (bytes_eq word (codes "invocable")) (or_bad (invocable_read operand) (with_decl decls)) (cond (bytes_eq word (codes "record"))
      (or_bad (record_read procs decls operand) (with_decl decls)) (cond (bytes_eq word (codes "end")) (ended_line decls operand) (Err U1)))) ≡ Ok next
      → Adds (declared decls) (word ++ rest_text operand) next
  by_link true t e =
      let found = found_in (link_read operand) (with_decl decls) next e in
      pushed decls found.0 (word ++ rest_text operand) next (link_line operand found.0 found.1 ∙ line_is (codes "link") t) found.2
  by_link false t e = by_invocable (bytes_eq word (codes "invocable")) refl e

  by_proc : (test : Bool) → bytes_eq word (codes "proc") ≡ test
      → cond test (or_bad (procedure_read decls operand) (with_decl decls))
      (cond (bytes_eq word (codes "link")) (or_bad (link_read operand) (with_decl decls)) (cond (bytes_eq word (codes "invocable")) (or_bad (invocable_read operand) (with_decl decls)) (cond (bytes_eq word (codes "record"))
      (or_bad (record_read procs decls operand) (with_decl decls)) (cond (bytes_eq word (codes "end")) (ended_line decls operand) (Err U1))))) ≡ Ok next
      → Adds (declared decls) (word ++ rest_text operand) next
  by_proc true t e =
      let found = found_in (procedure_read decls operand) (with_decl decls) next e in
      pushed decls found.0 (word ++ rest_text operand) next (proc_spelled decls operand found.0 found.1 ∙ line_is (codes "proc") t) found.2
  by_proc false t e = by_link (bytes_eq word (codes "link")) refl e

  by_global : (test : Bool) → bytes_eq word (codes "global") ≡ test
      → cond test (or_bad (global_read operand) (with_decl decls)) (cond (bytes_eq word (codes "proc")) (or_bad (procedure_read decls operand)
      (with_decl decls)) (cond (bytes_eq word (codes "link")) (or_bad (link_read operand) (with_decl decls)) (cond (bytes_eq word (codes "invocable")) (or_bad (invocable_read operand) (with_decl decls)) (cond (bytes_eq word (codes "record"))
      (or_bad (record_read procs decls operand) (with_decl decls)) (cond (bytes_eq word (codes "end")) (ended_line decls operand) (Err U1)))))) ≡ Ok next
      → Adds (declared decls) (word ++ rest_text operand) next
  by_global true t e =
      let found = found_in (global_read operand) (with_decl decls) next e in
      pushed decls found.0 (word ++ rest_text operand) next (global_line operand found.0 found.1 ∙ line_is (codes "global") t) found.2
  by_global false t e = by_proc (bytes_eq word (codes "proc")) refl e

stage_adds : (procs : List (List ℕ)) (decls : List PlainDecl) (stage : DeclStage) (line : List ℕ) (next : DeclsRead) → StageGood decls stage
    → decl_stage_line procs decls stage line ≡ Ok next → Adds (stage_spelled decls stage) line next
stage_adds procs decls DeclHeading line next good e =
    let found = heading_line (codes "U9.2") line (record { decls = decls; stage = Declaring }) next e in
    subst (λ (next : DeclsRead). Adds [] line next) found.1 (tt, ap declared good ∙ ap (λ l. l ++ 10 ∷ []) (sym found.0))
stage_adds procs decls Declaring line next good e =
    subst (λ (l : List ℕ). Adds (declared decls) l next) (sym (cut_all line)) (declaring_adds procs decls (first_field line).0 (first_field line).1 next e)
stage_adds procs decls Ended line next good e = absurd (err_ok U1 next e)

line_adds : (procs : List (List ℕ)) (read : DeclsRead) (line : List ℕ) (next : DeclsRead) → IsGood read → decls_line procs read line ≡ Ok next
    → Adds (spelled_so_far read) line next
unfolding decls_line
line_adds procs read line next good e =
    stage_adds procs read.decls read.stage line next good (not_chosen_step (is_indented line) (decl_stage_line procs read.decls read.stage line) U3 next e)

stage_whole : (decls : List PlainDecl) (stage : DeclStage) (found : List PlainDecl) → decl_stage_end decls stage ≡ Ok found
    → stage_spelled decls stage ≡ decls_text found
stage_whole decls DeclHeading found e = absurd (err_ok U1 found e)
stage_whole decls Declaring found e = absurd (err_ok U6 found e)
stage_whole decls Ended found e = ap decls_text (ok_same decls found e)

-- a text that is read as declarations is their spelling
pub decls_spelled : (procs : List (List ℕ)) (text : List ℕ) (decls : List PlainDecl) → decls_of procs text ≡ Ok decls → decls_text decls ≡ text
unfolding decls_of
decls_spelled procs text decls e = by_read (each_line (decls_line procs) (record { decls = []; stage = DeclHeading }) [] text) refl e where
  by_read : (found : Result DeclsRead Rule) → each_line (decls_line procs) (record { decls = []; stage = DeclHeading }) [] text ≡ found
      → then_step found decls_end ≡ Ok decls → decls_text decls ≡ text
  by_read (Err rule) f e = absurd (err_ok rule decls e)
  by_read (Ok last) f e =
      let all = lines_spelled (decls_line procs) spelled_so_far IsGood (line_adds procs) (record { decls = []; stage = DeclHeading }) [] text last refl f in
      sym (stage_whole last.decls last.stage decls e) ∙ all.1
