-- The lines of units are the spelling of what they are read as.
use Rattle.std.proofs.Common.{◌==◌, ◌≡◌, ℕ, Bool, true, false, cond, not, ◌&&◌, ◌||◌, nat_le, nat_lt, List, [], ◌∷◌, ◌++◌, length, Option, None, Some, Result, Ok, Err, refl, sym, ◌∙◌, ap, subst, append_assoc, append-nil}
use Rattle.std.specs.Prelude.{codes}
use Rattle.std.specs.Fmt.{decimal}
use Rattle.std.specs.List.{flat_map}
use Rattle.std.specs.Option.{option_and_then}
use Rattle.std.specs.Str.{bytes_eq}
use Rattle.std.specs.Cmp.Lexicographic.{same_text}
use Rattle.std.proofs.lemmas.Bool.{eqb-true}
use Rattle.std.proofs.lemmas.Option.{none-some, same_Some}
use Rattle.icn_tree.specs.declared.rule.Rule.{Rule}
use Rattle.icn_tree.specs.declared.rule.Rule.TheVariants.{U1, U2, U3, U4, U5, U6}
use Rattle.icn_tree.specs.IntegerLiterals.{is_nothing}
use Rattle.icn_unit.specs.declared.instr_word.InstrWord.{InstrWord}
use Rattle.icn_unit.specs.declared.unit.NameKind.{NameKind}
use Rattle.icn_unit.specs.declared.unit.NameKind.TheVariants.{Parameter, Local, Static, Undeclared}
use Rattle.icn_unit.specs.declared.unit.UnitName.{UnitName}
use Rattle.icn_unit.specs.InstrWords.{instr_word_of}
use Rattle.icn_unit.specs.UnitOperands.{first_field, number_of, is_name}
use Rattle.icn_unit.specs.PlainUnits.{PlainProc, entry_names, params_in, proc_names}
use Rattle.icn_unit.specs.UnitRules.{has_name, labels_placed, rank}
use Rattle.icn_ucode.specs.UnitReading.{alone, with_heading, is_indented, UcodeHead, ProcStage, Heading, Outside, Naming, Coding, ProcsRead, empty_proc, collects_read, code_line, coding_line, each_line, end_line, entry_by, entry_named, entry_read, flag_of, head_by, head_read, instr_line, instr_of, is_repeated, kind_of, last_rank, naming_line, or_bad, outside_line, params_read, procs_end, procs_line, procs_of, stage_end, stage_line, then_step, with_entry, with_instr}
use Rattle.icn_unit.specs.UnitTexts.{flag_text, instr_text, kind_text, name_text, proc_text, procs_text}
use Rattle.icn_ucode.proofs.Spelling.{rest_text, cut_all, number_text, word_spelled, instr_spelled}

pub ok_same : {A : Type 0} (x y : A) → ◌≡◌ {A = Result A Rule} (Ok x) (Ok y) → x ≡ y
ok_same x y e = cc

pub err_ok : {A : Type 0} (rule : Rule) (x : A) → ◌≡◌ {A = Result A Rule} (Err rule) (Ok x) → ⊥
err_ok rule x e = cc

-- no line that does not end leads anywhere
pub unended : {S : Type 0} (found : Result S Rule) (last : S) → ◌≡◌ {A = Result S Rule} (then_step found (λ next. Err U3)) (Ok last) → ⊥
unended (Ok state) last e = err_ok U3 last e
unended (Err rule) last e = err_ok rule last e

-- a text of lines, where each step adds its line
pub lines_spelled : {S : Type 0} (step : S → List ℕ → Result S Rule) (text_of : S → List ℕ) (Good : S → Type 0)
    → ((state : S) (line : List ℕ) (next : S) → Good state → step state line ≡ Ok next → Good next × (text_of next ≡ text_of state ++ line ++ 10 ∷ []))
    → (state : S) (line text : List ℕ) (last : S) → Good state → each_line step state line text ≡ Ok last
    → Good last × (text_of last ≡ text_of state ++ line ++ text)
lines_spelled {S} step text_of Good adds state line [] last good e = by_line line e where
  by_line : (line : List ℕ) → cond (is_nothing line) (Ok state) (then_step (step state line) (λ next. Err U3)) ≡ Ok last
      → Good last × (text_of last ≡ text_of state ++ line ++ [])
  by_line [] e = subst (λ (last : S). Good last × (text_of last ≡ text_of state ++ [] ++ [])) (ok_same state last e)
      (good, sym (append-nil (text_of state ++ []) ∙ append-nil (text_of state)))
  by_line (b ∷ line) e = absurd (unended (step state (b ∷ line)) last e)
lines_spelled {S} step text_of Good adds state line (b ∷ text) last good e =
    by_end (b == 10) refl (step state line) refl (λ next g f. lines_spelled step text_of Good adds next [] text last g f)
    (λ f. lines_spelled step text_of Good adds state (line ++ b ∷ []) text last good f) e where
      by_end : (test : Bool) → (b == 10) ≡ test → (found : Result S Rule) → step state line ≡ found
          → ((next : S) → Good next → each_line step next [] text ≡ Ok last → Good last × (text_of last ≡ text_of next ++ [] ++ text))
          → (each_line step state (line ++ b ∷ []) text ≡ Ok last → Good last × (text_of last ≡ text_of state ++ (line ++ b ∷ []) ++ text))
          → cond test (then_step found (λ next. each_line step next [] text)) (each_line step state (line ++ b ∷ []) text) ≡ Ok last
          → Good last × (text_of last ≡ text_of state ++ line ++ b ∷ text)
      by_end true t (Err rule) f later more e = absurd (err_ok rule last e)
      by_end true t (Ok next) f later more e =
          let step_on = adds state line next good f in
          let rest = later next step_on.0 e in
          let ten : b ≡ 10 = eqb-true b 10 t in (
            rest.0,
            rest.1 ∙ (ap (λ xs. xs ++ text) (append-nil (text_of next) ∙ step_on.1)
                ∙ (append_assoc (text_of state ++ line) (10 ∷ []) text ∙ ap (λ c. text_of state ++ line ++ c ∷ text) (sym ten))),
          )
      by_end false t found f later more e =
          let rest = more e in
          (rest.0, rest.1 ∙ (ap (λ xs. xs ++ text) (sym (append_assoc (text_of state) line (b ∷ []))) ∙ append_assoc (text_of state ++ line) (b ∷ []) text))

-- a choice that came to something good
pub chosen : {A : Type 0} (test : Bool) (x : A) (rule : Rule) (y : A) → cond test (Ok x) (Err rule) ≡ Ok y → (test ≡ true) × (x ≡ y)
chosen true x rule y e = (refl, ok_same x y e)
chosen false x rule y e = absurd (err_ok rule y e)

pub not_chosen : {A : Type 0} (test : Bool) (x : A) (rule : Rule) (y : A) → cond test (Err rule) (Ok x) ≡ Ok y → x ≡ y
not_chosen true x rule y e = absurd (err_ok rule y e)
not_chosen false x rule y e = ok_same x y e

pub not_chosen_step : {A : Type 0} (test : Bool) (x : Result A Rule) (rule : Rule) (y : A) → cond test (Err rule) x ≡ Ok y → x ≡ Ok y
not_chosen_step true x rule y e = absurd (err_ok rule y e)
not_chosen_step false x rule y e = e

pub found_in : {A B : Type 0} (found : Option A) (more : A → Result B Rule) (y : B) → or_bad found more ≡ Ok y → (x : A) × (found ≡ Some x) × (more x ≡ Ok y)
found_in None more y e = absurd (err_ok U3 y e)
found_in (Some x) more y e = (x, refl, e)

pub then_some : {A B : Type 0} (found : Option A) (more : A → Option B) (y : B) → option_and_then more found ≡ Some y
    → (x : A) × (found ≡ Some x) × (more x ≡ Some y)
then_some None more y e = absurd (none-some y e)
then_some (Some x) more y e = (x, refl, e)

pub picked : {A : Type 0} (test : Bool) (x y : A) → ◌≡◌ {A = Option A} (cond test (Some x) None) (Some y) → x ≡ y
picked true x y e = same_Some x y e
picked false x y e = absurd (none-some y e)

-- The head of a procedure

abbrev head_line : List ℕ → ℕ → Bool → List ℕ
head_line name params collects = name ++ 32 ∷ decimal params ++ 32 ∷ flag_text collects

flag_spelled : (text : List ℕ) (flag : Bool) → flag_of text ≡ Some flag → flag_text flag ≡ text
flag_spelled text flag e = by_zero (bytes_eq text (codes "0")) refl e where
  by_one : (test : Bool) → bytes_eq text (codes "1") ≡ test → cond test (Some true) None ≡ Some flag → flag_text flag ≡ text
  by_one true t e = ap flag_text (sym (same_Some true flag e)) ∙ sym (same_text text (codes "1") (sym t))
  by_one false t e = absurd (none-some flag e)

  by_zero : (test : Bool) → bytes_eq text (codes "0") ≡ test → cond test (Some false) (cond (bytes_eq text (codes "1")) (Some true) None) ≡ Some flag
      → flag_text flag ≡ text
  by_zero true t e = ap flag_text (sym (same_Some false flag e)) ∙ sym (same_text text (codes "0") (sym t))
  by_zero false t e = by_one (bytes_eq text (codes "1")) refl e

collects_spelled : (name params : List ℕ) (collects : Option (List ℕ)) (head : UcodeHead) → collects_read name params collects ≡ Some head
    → name ++ 32 ∷ params ++ rest_text collects ≡ head_line head.name head.params head.collects
collects_spelled name params None head e = absurd (none-some head e)
collects_spelled name params (Some text) head e =
    let p = then_some (number_of 4294967295 params) (λ p. option_and_then (λ c. head_by name p c) (flag_of text)) head e in
    let c = then_some (flag_of text) (λ c. head_by name p.0 c) head p.2 in
    let same = picked (is_name name && (not c.0 || nat_lt 0 p.0)) (record { name = name; params = p.0; collects = c.0 }) head c.2 in
    ap (λ xs. name ++ 32 ∷ xs ++ 32 ∷ text) (sym (number_text 4294967295 params p.0 p.1))
    ∙ (ap (λ xs. name ++ 32 ∷ decimal p.0 ++ 32 ∷ xs) (sym (flag_spelled text c.0 c.1))
    ∙ ap (λ (head : UcodeHead). head_line head.name head.params head.collects) same)

params_spelled : (name : List ℕ) (rest : Option (List ℕ)) (head : UcodeHead) → params_read name rest ≡ Some head
    → name ++ rest_text rest ≡ head_line head.name head.params head.collects
params_spelled name None head e = absurd (none-some head e)
params_spelled name (Some text) head e =
    ap (λ xs. name ++ 32 ∷ xs) (cut_all text) ∙ (sym (append_assoc name (32 ∷ (first_field text).0) (rest_text (first_field text).1))
    ∙ collects_spelled name (first_field text).0 (first_field text).1 head e)

head_spelled : (operand : Option (List ℕ)) (head : UcodeHead) → head_read operand ≡ Some head
    → rest_text operand ≡ 32 ∷ head_line head.name head.params head.collects
head_spelled None head e = absurd (none-some head e)
head_spelled (Some text) head e = ap (λ xs. 32 ∷ xs) (cut_all text ∙ params_spelled (first_field text).0 (first_field text).1 head e)

-- Names

letter_text : (b : ℕ) (kind : NameKind) → kind_of (b ∷ []) ≡ Some kind → kind_text kind ≡ b ∷ []
letter_text b kind e = by_p (b == 112) refl e where
  by_u : (test : Bool) → (b == 117) ≡ test → cond test (Some Undeclared) None ≡ Some kind → kind_text kind ≡ b ∷ []
  by_u true t e = ap kind_text (sym (same_Some Undeclared kind e)) ∙ ap (λ c. c ∷ []) (sym (eqb-true b 117 t))
  by_u false t e = absurd (none-some kind e)

  by_s : (test : Bool) → (b == 115) ≡ test → cond test (Some Static) (cond (b == 117) (Some Undeclared) None) ≡ Some kind → kind_text kind ≡ b ∷ []
  by_s true t e = ap kind_text (sym (same_Some Static kind e)) ∙ ap (λ c. c ∷ []) (sym (eqb-true b 115 t))
  by_s false t e = by_u (b == 117) refl e

  by_l : (test : Bool) → (b == 108) ≡ test → cond test (Some Local) (cond (b == 115) (Some Static) (cond (b == 117) (Some Undeclared) None)) ≡ Some kind
      → kind_text kind ≡ b ∷ []
  by_l true t e = ap kind_text (sym (same_Some Local kind e)) ∙ ap (λ c. c ∷ []) (sym (eqb-true b 108 t))
  by_l false t e = by_s (b == 115) refl e

  by_p : (test : Bool) → (b == 112) ≡ test
      → cond test (Some Parameter) (cond (b == 108) (Some Local) (cond (b == 115) (Some Static) (cond (b == 117) (Some Undeclared) None))) ≡ Some kind
      → kind_text kind ≡ b ∷ []
  by_p true t e = ap kind_text (sym (same_Some Parameter kind e)) ∙ ap (λ c. c ∷ []) (sym (eqb-true b 112 t))
  by_p false t e = by_l (b == 108) refl e

kind_spelled : (text : List ℕ) (kind : NameKind) → kind_of text ≡ Some kind → kind_text kind ≡ text
kind_spelled [] kind e = absurd (none-some kind e)
kind_spelled (b ∷ []) kind e = letter_text b kind e
kind_spelled (b ∷ c ∷ rest) kind e = absurd (none-some kind e)

named_spelled : (names : List UnitName) (kind : List ℕ) (rest : Option (List ℕ)) (entry : UnitName) → entry_named names kind rest ≡ Some entry
    → kind ++ rest_text rest ≡ kind_text entry.kind ++ 32 ∷ entry.name
named_spelled names kind None entry e = absurd (none-some entry e)
named_spelled names kind (Some name) entry e =
    let k = then_some (kind_of kind) (λ k. entry_by names k name) entry e in
    let same = picked (is_name name && nat_le (last_rank names) (rank k.0) && not (has_name (entry_names names) name))
    (record { kind = k.0; name = name }) entry k.2 in
    ap (λ xs. xs ++ 32 ∷ name) (sym (kind_spelled kind k.0 k.1)) ∙ ap (λ (entry : UnitName). kind_text entry.kind ++ 32 ∷ entry.name) same

entry_spelled : (names : List UnitName) (operand : Option (List ℕ)) (entry : UnitName) → entry_read names operand ≡ Some entry
    → rest_text operand ≡ 32 ∷ (kind_text entry.kind ++ 32 ∷ entry.name)
entry_spelled names None entry e = absurd (none-some entry e)
entry_spelled names (Some text) entry e = ap (λ xs. 32 ∷ xs) (cut_all text ∙ named_spelled names (first_field text).0 (first_field text).1 entry e)

-- Procedures

abbrev opened : ℕ → PlainProc → List ℕ
opened params proc = codes "proc" ++ 32 ∷ head_line proc.name params proc.collects ++ 10 ∷ flat_map name_text proc.names

abbrev stage_spelled : List PlainProc → ProcStage → List ℕ
stage_spelled procs Heading = []
stage_spelled procs Outside = procs_text procs
stage_spelled procs (Naming params proc) = procs_text procs ++ opened params proc
stage_spelled procs (Coding proc) = procs_text procs ++ opened (params_in proc.names) proc ++ codes "code" ++ 10 ∷ flat_map instr_text proc.instrs

abbrev spelled_so_far : ProcsRead → List ℕ
spelled_so_far read = stage_spelled read.procs read.stage

abbrev StageGood : List PlainProc → ProcStage → Type 0
StageGood procs Heading = procs ≡ []
StageGood procs Outside = Unit {0}
StageGood procs (Naming params proc) = proc.instrs ≡ []
StageGood procs (Coding proc) = Unit {0}

abbrev IsGood : ProcsRead → Type 0
IsGood read = StageGood read.procs read.stage

-- a stage that adds a line
abbrev Adds : List ℕ → List ℕ → ProcsRead → Type 0
Adds text line next = IsGood next × (spelled_so_far next ≡ text ++ line ++ 10 ∷ [])

proc_opened : (proc : PlainProc)
    → proc_text proc ≡ opened (params_in proc.names) proc ++ codes "code" ++ 10 ∷ flat_map instr_text proc.instrs ++ codes "end" ++ 10 ∷ []
proc_opened proc =
    ap (λ x. x ++ codes "code" ++ 10 ∷ flat_map instr_text proc.instrs ++ codes "end" ++ 10 ∷ [])
    (append_assoc (codes "proc" ++ 32 ∷ head_line proc.name (params_in proc.names) proc.collects) (10 ∷ []) (flat_map name_text proc.names))

glue : (a h n w : List ℕ) → a ++ (h ++ 10 ∷ (n ++ (w ++ 10 ∷ []))) ≡ ((a ++ (h ++ 10 ∷ n)) ++ w) ++ 10 ∷ []
glue a h n w = sym (append_assoc (a ++ (h ++ 10 ∷ n)) w (10 ∷ [])
    ∙ (append_assoc a (h ++ 10 ∷ n) (w ++ 10 ∷ []) ∙ ap (λ x. a ++ x) (append_assoc h (10 ∷ n) (w ++ 10 ∷ []))))

pub texts_more : {A B : Type 0} (text : A → List B) (xs : List A) (x : A) → flat_map text (xs ++ x ∷ []) ≡ flat_map text xs ++ text x
texts_more text [] x = append-nil (text x)
texts_more text (y ∷ xs) x = ap (λ t. text y ++ t) (texts_more text xs x) ∙ sym (append_assoc (text y) (flat_map text xs) (text x))

headed_by : {A : Type 0} (heading word : List ℕ) (operand : Option (List ℕ)) (value next : A) → with_heading heading word operand value ≡ Ok next
    → (word ++ rest_text operand ≡ heading) × (value ≡ next)
headed_by {A} heading word operand value next e = by_word (bytes_eq word heading) refl operand e where
  by_word : (test : Bool) → bytes_eq word heading ≡ test → (operand : Option (List ℕ))
      → ◌≡◌ {A = Result A Rule} (cond test (alone operand value) (Err U1)) (Ok next) → (word ++ rest_text operand ≡ heading) × (value ≡ next)
  by_word true t None e = (append-nil word ∙ same_text word heading (sym t), ok_same value next e)
  by_word true t (Some text) e = absurd (err_ok U3 next e)
  by_word false t operand e = absurd (err_ok U1 next e)

-- a heading is its line
pub heading_line : {A : Type 0} (heading line : List ℕ) (value next : A) → with_heading heading (first_field line).0 (first_field line).1 value ≡ Ok next
    → (line ≡ heading) × (value ≡ next)
heading_line heading line value next e =
    let found = headed_by heading (first_field line).0 (first_field line).1 value next e in (cut_all line ∙ found.0, found.1)

heading_adds : (procs : List PlainProc) (line : List ℕ) (next : ProcsRead) → procs ≡ [] → stage_line procs Heading line ≡ Ok next → Adds [] line next
heading_adds procs line next none e =
    let found = heading_line (codes "U9.1") line (record { procs = procs; stage = Outside }) next e in
    subst (λ (next : ProcsRead). Adds [] line next) found.1 (tt, ap procs_text none ∙ ap (λ l. l ++ 10 ∷ []) (sym found.0))

outside_adds : (procs : List PlainProc) (word : List ℕ) (operand : Option (List ℕ)) (next : ProcsRead) → outside_line procs word operand ≡ Ok next
    → Adds (procs_text procs) (word ++ rest_text operand) next
outside_adds procs word operand next e = by_word (bytes_eq word (codes "proc")) refl e where
  by_word : (test : Bool) → bytes_eq word (codes "proc") ≡ test
      → cond test (or_bad (head_read operand) (λ head.
      cond (has_name (proc_names procs) head.name) (Err U3) (Ok (record { procs = procs; stage = Naming head.params (empty_proc head) })))) (Err U1) ≡ Ok next
      → Adds (procs_text procs) (word ++ rest_text operand) next
  by_word true t e =
      let found = found_in (head_read operand)
      (λ head. cond (has_name (proc_names procs) head.name) (Err U3) (Ok (record { procs = procs; stage = Naming head.params (empty_proc head) }))) next e in
      let same = not_chosen (has_name (proc_names procs) found.0.name)
      (record { procs = procs; stage = Naming found.0.params (empty_proc found.0) }) U3 next found.2 in
      let line : codes "proc" ++ 32 ∷ head_line found.0.name found.0.params found.0.collects ≡ word ++ rest_text operand =
      ap (λ xs. codes "proc" ++ xs) (sym (head_spelled operand found.0 found.1))
      ∙ ap (λ w. w ++ rest_text operand) (sym (same_text word (codes "proc") (sym t))) in
      subst (λ (next : ProcsRead). Adds (procs_text procs) (word ++ rest_text operand) next) same
      (refl, ap (λ l. procs_text procs ++ (l ++ 10 ∷ [])) line ∙ sym (append_assoc (procs_text procs) (word ++ rest_text operand) (10 ∷ [])))
  by_word false t e = absurd (err_ok U1 next e)

naming_adds : (procs : List PlainProc) (params : ℕ) (proc : PlainProc) (word : List ℕ) (operand : Option (List ℕ)) (next : ProcsRead) → proc.instrs ≡ []
    → naming_line procs params proc word operand ≡ Ok next
    → Adds (procs_text procs ++ opened params proc) (word ++ rest_text operand) next
naming_adds procs params proc word operand next none e = by_name (bytes_eq word (codes "name")) refl e where
  by_operand : (operand : Option (List ℕ)) → word ≡ codes "code" → code_line procs params proc operand ≡ Ok next
      → Adds (procs_text procs ++ opened params proc) (word ++ rest_text operand) next
  by_operand (Some text) w e = absurd (err_ok U3 next e)
  by_operand None w e =
      let found = chosen (params_in proc.names == params) (record { procs = procs; stage = Coding proc }) U3 next e in
      let same : params_in proc.names ≡ params = eqb-true (params_in proc.names) params found.0 in
      subst (λ (next : ProcsRead). Adds (procs_text procs ++ opened params proc) (word ++ []) next) found.1 (
        tt,
        ap (λ p. procs_text procs ++ opened p proc ++ codes "code" ++ 10 ∷ flat_map instr_text proc.instrs) same
            ∙ (ap (λ instrs. procs_text procs ++ opened params proc ++ codes "code" ++ 10 ∷ flat_map instr_text instrs) none
            ∙ ap (λ w. procs_text procs ++ opened params proc ++ w ++ 10 ∷ []) (sym w ∙ sym (append-nil word))),
      )

  by_code : (test : Bool) → bytes_eq word (codes "code") ≡ test → cond test (code_line procs params proc operand) (Err U1) ≡ Ok next
      → Adds (procs_text procs ++ opened params proc) (word ++ rest_text operand) next
  by_code true t e = by_operand operand (same_text word (codes "code") (sym t)) e
  by_code false t e = absurd (err_ok U1 next e)

  by_name : (test : Bool) → bytes_eq word (codes "name") ≡ test
      → cond test (or_bad (entry_read proc.names operand) (λ entry. Ok (record { procs = procs; stage = Naming params (with_entry proc entry) })))
      (cond (bytes_eq word (codes "code")) (code_line procs params proc operand) (Err U1)) ≡ Ok next
      → Adds (procs_text procs ++ opened params proc) (word ++ rest_text operand) next
  by_name true t e =
      let found = found_in (entry_read proc.names operand) (λ entry. Ok (record { procs = procs; stage = Naming params (with_entry proc entry) })) next e in
      let same = ok_same (record { procs = procs; stage = Naming params (with_entry proc found.0) }) next found.2 in
      let head = codes "proc" ++ 32 ∷ head_line proc.name params proc.collects in
      let line : name_text found.0 ≡ (word ++ rest_text operand) ++ 10 ∷ [] =
      ap (λ xs. (codes "name" ++ xs) ++ 10 ∷ []) (sym (entry_spelled proc.names operand found.0 found.1))
      ∙ ap (λ w. (w ++ rest_text operand) ++ 10 ∷ []) (sym (same_text word (codes "name") (sym t))) in
      subst (λ (next : ProcsRead). Adds (procs_text procs ++ opened params proc) (word ++ rest_text operand) next) same (
        none,
        ap (λ xs. procs_text procs ++ (head ++ 10 ∷ xs)) (texts_more name_text proc.names found.0 ∙ ap (λ xs. flat_map name_text proc.names ++ xs) line)
            ∙ glue (procs_text procs) head (flat_map name_text proc.names) (word ++ rest_text operand),
      )
  by_name false t e = by_code (bytes_eq word (codes "code")) refl e

ending : (a f c b e : List ℕ) → a ++ (((f ++ c) ++ b) ++ e ++ 10 ∷ []) ≡ (((a ++ f) ++ c) ++ b) ++ e ++ 10 ∷ []
ending a f c b e =
    sym (append_assoc a (((f ++ c) ++ b) ++ e) (10 ∷ [])) ∙ ap (λ x. x ++ 10 ∷ []) (sym (append_assoc a ((f ++ c) ++ b) e)
    ∙ ap (λ x. x ++ e) (sym (append_assoc a (f ++ c) b) ∙ ap (λ x. x ++ b) (sym (append_assoc a f c))))

pub going : (a i w : List ℕ) → a ++ 10 ∷ (i ++ (w ++ 10 ∷ [])) ≡ ((a ++ 10 ∷ i) ++ w) ++ 10 ∷ []
going a i w = sym (append_assoc (a ++ 10 ∷ i) w (10 ∷ []) ∙ append_assoc a (10 ∷ i) (w ++ 10 ∷ []))

coding_adds : (procs : List PlainProc) (proc : PlainProc) (word : List ℕ) (operand : Option (List ℕ)) (next : ProcsRead)
    → coding_line procs proc word operand ≡ Ok next
    → Adds (procs_text procs ++ opened (params_in proc.names) proc ++ codes "code" ++ 10 ∷ flat_map instr_text proc.instrs) (word ++ rest_text operand) next
coding_adds procs proc word operand next e = by_end (bytes_eq word (codes "end")) refl e where
  ended : (operand : Option (List ℕ)) → word ≡ codes "end" → end_line procs proc operand ≡ Ok next
      → Adds (procs_text procs ++ opened (params_in proc.names) proc ++ codes "code" ++ 10 ∷ flat_map instr_text proc.instrs) (word ++ rest_text operand) next
  ended (Some text) w e = absurd (err_ok U3 next e)
  ended None w e =
      let found = chosen (labels_placed proc.instrs) (record { procs = procs ++ proc ∷ []; stage = Outside }) U4 next e in
      let front = opened (params_in proc.names) proc in
      let body = 10 ∷ flat_map instr_text proc.instrs in
      subst (λ (next : ProcsRead). Adds (procs_text procs ++ front ++ codes "code" ++ body) (word ++ []) next) found.1 (
        tt,
        ap (λ xs. codes "U9.1" ++ 10 ∷ xs) (texts_more proc_text procs proc)
            ∙ (ap (λ xs. procs_text procs ++ xs) (proc_opened proc)
            ∙ (ending (procs_text procs) front (codes "code") body (codes "end")
            ∙ ap (λ w. (procs_text procs ++ front ++ codes "code" ++ body) ++ w ++ 10 ∷ []) (sym w ∙ sym (append-nil word)))),
      )

  by_instr : (found : Option InstrWord) → instr_word_of word ≡ found → instr_line procs proc found operand ≡ Ok next
      → Adds (procs_text procs ++ opened (params_in proc.names) proc ++ codes "code" ++ 10 ∷ flat_map instr_text proc.instrs) (word ++ rest_text operand) next
  by_instr None f e = absurd (err_ok U2 next e)
  by_instr (Some known) f e =
      let found = found_in (instr_of known operand (length proc.names))
      (λ instr. cond (is_repeated proc.instrs instr) (Err U5) (Ok (record { procs = procs; stage = Coding (with_instr proc instr) }))) next e in
      let same = not_chosen (is_repeated proc.instrs found.0) (record { procs = procs; stage = Coding (with_instr proc found.0) }) U5 next found.2 in
      let line : instr_text found.0 ≡ (word ++ rest_text operand) ++ 10 ∷ [] =
      ap (λ l. l ++ 10 ∷ [])
      (sym (instr_spelled known operand (length proc.names) found.0 found.1) ∙ ap (λ w. w ++ rest_text operand) (word_spelled word known f)) in
      subst (λ (next : ProcsRead). Adds (procs_text procs ++ opened (params_in proc.names) proc ++ codes "code" ++ 10 ∷ flat_map instr_text proc.instrs)
      (word ++ rest_text operand) next) same (
        tt,
        ap (λ xs. procs_text procs ++ opened (params_in proc.names) proc ++ codes "code" ++ 10 ∷ xs)
            (texts_more instr_text proc.instrs found.0 ∙ ap (λ xs. flat_map instr_text proc.instrs ++ xs) line)
            ∙ going (procs_text procs ++ opened (params_in proc.names) proc ++ codes "code") (flat_map instr_text proc.instrs) (word ++ rest_text operand),
      )

  by_end : (test : Bool) → bytes_eq word (codes "end") ≡ test
      → cond test (end_line procs proc operand) (instr_line procs proc (instr_word_of word) operand) ≡ Ok next
      → Adds (procs_text procs ++ opened (params_in proc.names) proc ++ codes "code" ++ 10 ∷ flat_map instr_text proc.instrs) (word ++ rest_text operand) next
  by_end true t e = ended operand (same_text word (codes "end") (sym t)) e
  by_end false t e = by_instr (instr_word_of word) refl e

stage_adds : (procs : List PlainProc) (stage : ProcStage) (line : List ℕ) (next : ProcsRead) → StageGood procs stage → stage_line procs stage line ≡ Ok next
    → Adds (stage_spelled procs stage) line next
stage_adds procs Heading line next good e = heading_adds procs line next good e
stage_adds procs Outside line next good e =
    subst (λ (l : List ℕ). Adds (procs_text procs) l next) (sym (cut_all line)) (outside_adds procs (first_field line).0 (first_field line).1 next e)
stage_adds procs (Naming params proc) line next good e =
    subst (λ (l : List ℕ). Adds (procs_text procs ++ opened params proc) l next) (sym (cut_all line))
    (naming_adds procs params proc (first_field line).0 (first_field line).1 next good e)
stage_adds procs (Coding proc) line next good e =
    subst (λ (l : List ℕ). Adds (procs_text procs ++ opened (params_in proc.names) proc ++ codes "code" ++ 10 ∷ flat_map instr_text proc.instrs) l next)
    (sym (cut_all line)) (coding_adds procs proc (first_field line).0 (first_field line).1 next e)

line_adds : (read : ProcsRead) (line : List ℕ) (next : ProcsRead) → IsGood read → procs_line read line ≡ Ok next → Adds (spelled_so_far read) line next
unfolding procs_line
line_adds read line next good e =
    stage_adds read.procs read.stage line next good (not_chosen_step (is_indented line) (stage_line read.procs read.stage line) U3 next e)

stage_whole : (procs : List PlainProc) (stage : ProcStage) (found : List PlainProc) → stage_end procs stage ≡ Ok found
    → stage_spelled procs stage ≡ procs_text found
stage_whole procs Heading found e = absurd (err_ok U1 found e)
stage_whole procs Outside found e = ap procs_text (ok_same procs found e)
stage_whole procs (Naming params proc) found e = absurd (err_ok U6 found e)
stage_whole procs (Coding proc) found e = absurd (err_ok U6 found e)

-- a text that is read as procedures is their spelling
pub procs_spelled : (text : List ℕ) (procs : List PlainProc) → procs_of text ≡ Ok procs → procs_text procs ≡ text
unfolding procs_of
procs_spelled text procs e = by_read (each_line procs_line (record { procs = []; stage = Heading }) [] text) refl e where
  by_read : (found : Result ProcsRead Rule) → each_line procs_line (record { procs = []; stage = Heading }) [] text ≡ found
      → then_step found procs_end ≡ Ok procs → procs_text procs ≡ text
  by_read (Err rule) f e = absurd (err_ok rule procs e)
  by_read (Ok last) f e =
      let all = lines_spelled procs_line spelled_so_far IsGood line_adds (record { procs = []; stage = Heading }) [] text last refl f in
      sym (stage_whole last.procs last.stage procs e) ∙ all.1
