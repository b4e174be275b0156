-- What joinable units mention in tables keeps the rules of codes.
use Rattle.std.proofs.Common.{◌≡◌, ℕ, zero, suc, ◌<◌, Bool, true, false, ◌||◌, List, [], ◌∷◌, ◌++◌, length, Option, None, Some, if◌then◌else◌, refl, ◌∙◌, arith}
use Rattle.std.specs.Prelude.{◌==◌, nat_le, is_some}
use Rattle.std.specs.List.{flat_map, list_all}
use Rattle.std.specs.Option.{option_map_or}
use Rattle.std.proofs.lemmas.Bool.{and_parts, lt-ltb, leb-true}
use Rattle.std.proofs.lemmas.Bool.Decides.{nat_tests}
use Rattle.std.proofs.lemmas.List.Folds.{list_all-append}
use Rattle.icn_tree.specs.Characters.{begins_identifier, continues_identifier, is_between, is_digit}
use Rattle.icn_code.specs.Rules as Rules
use Rattle.icn_unit.specs.declared.unit.UnitInstr.{UnitInstr}
use Rattle.icn_unit.specs.declared.unit.UnitInstr.TheVariants as U
use Rattle.icn_unit.specs.declared.unit.NameKind.{NameKind}
use Rattle.icn_unit.specs.declared.unit.NameKind.TheVariants as Kinds
use Rattle.icn_unit.specs.declared.unit.UnitName.{UnitName}
use Rattle.icn_unit.specs.PlainUnits.{PlainProc, PlainDecl, Global as GlobalDecl, Procedure, Link, Invocable, Record, entry_names, proc_names}
use Rattle.icn_unit.specs.UnitOperands.{is_name}
use Rattle.icn_unit.specs.UnitRules.{is_byte, is_byte_text, is_integer}
use Rattle.icn_link.specs.JoinableUnits.{is_joinable_decl, is_joinable_instr, is_joinable_proc}
use Rattle.icn_link.specs.Mentions.{Mention, NoMention, AnInteger, AText, ASet, AField, Operands, mention_of, mentioned_in, mentioned_by, integer_in, text_in, field_in, global_in, fields_in, record_name_in, record_names, function_by, function_in, function_named, functions_in, functions_used, function_at, function_used, name_used, declared_names, globals, fields, strings, string_mentions, integers, used_globals}
use Rattle.icn_link.proofs.EachOnce.{and_intro, all_of_flat, all_then, all_mapped, all_unmapped, texts_keep, integers_keep}

-- Names and byte texts are strings

either_way : (x y z : Bool) → (x ≡ true → z ≡ true) → (y ≡ true → z ≡ true) → (x || y) ≡ true → z ≡ true
either_way true y z f g h = f refl
either_way false y z f g h = g h

below : (low high b : ℕ) → high < 256 → is_between low high b ≡ true → is_byte b ≡ true
below low high b small h = lt-ltb b 256 (omega (arith, small, leb-true b high (and_parts (nat_le low b) (nat_le b high) h).1))

equal_below : (n b : ℕ) → n < 256 → (b == n) ≡ true → is_byte b ≡ true
equal_below n b small h = grind (arith, nat_tests)

letter_byte : (b : ℕ) → begins_identifier b ≡ true → is_byte b ≡ true
letter_byte b h = either_way _ (b == 95) _
    (either_way (is_between 65 90 b) (is_between 97 122 b) _ (below 65 90 b (omega arith)) (below 97 122 b (omega arith)))
    (equal_below 95 b (omega arith)) h

name_byte : (b : ℕ) → continues_identifier b ≡ true → is_byte b ≡ true
name_byte b h = either_way (begins_identifier b) (is_digit b) _ (letter_byte b) (below 48 57 b (omega arith)) h

pub name_string : (name : List ℕ) → is_name name ≡ true → Rules.is_string name ≡ true
name_string [] h = refl
name_string (b ∷ rest) h =
    let t = and_parts _ _ h in
    let u = and_parts _ _ t.0 in
    and_intro (lt-ltb _ _ (omega (arith, leb-true _ _ t.1)))
    (and_intro (letter_byte b u.0) (all_then continues_identifier is_byte name_byte rest u.1))

pub text_string : (bytes : List ℕ) → is_byte_text bytes ≡ true → Rules.is_string bytes ≡ true
text_string bytes h = let t = and_parts (list_all is_byte bytes) (nat_le (length bytes) 65535) h in
    and_intro (lt-ltb _ _ (omega (arith, leb-true _ _ t.1))) t.0

-- What instructions mention keeps the rules of operands

keeps_mention : Mention → Bool
keeps_mention NoMention = true
keeps_mention (AnInteger n) = is_integer n
keeps_mention (AText bytes) = is_byte_text bytes
keeps_mention (ASet members) = true
keeps_mention (AField name) = is_name name
keeps_mention (Operands count) = true

mention_kept : (names : ℕ) (instr : UnitInstr) → is_joinable_instr names instr ≡ true → keeps_mention (mention_of instr) ≡ true
unfolding keeps_mention
mention_kept names U.Pnull h = refl
mention_kept names (U.Int n) h = h
mention_kept names (U.Str bytes) h = h
mention_kept names (U.Cset members) h = refl
mention_kept names (U.Var k) h = refl
mention_kept names (U.Keywd keyword) h = refl
mention_kept names U.Pop h = refl
mention_kept names U.Dup h = refl
mention_kept names (U.Op op) h = refl
mention_kept names (U.Llist n) h = refl
mention_kept names (U.Field name) h = h
mention_kept names (U.Invoke n) h = refl
mention_kept names U.Appl h = refl
mention_kept names (U.Mark label) h = refl
mention_kept names U.Mark0 h = refl
mention_kept names U.Unmark h = refl
mention_kept names U.Eret h = refl
mention_kept names U.Esusp h = refl
mention_kept names U.Limit h = refl
mention_kept names U.Lsusp h = refl
mention_kept names U.Efail h = refl
mention_kept names (U.Chfail label) h = refl
mention_kept names (U.Goto label) h = refl
mention_kept names (U.Loop label) h = refl
mention_kept names U.Bscan h = refl
mention_kept names U.Escan h = refl
mention_kept names U.Ccase h = refl
mention_kept names (U.Init label) h = refl
mention_kept names U.Psusp h = refl
mention_kept names U.Pret h = refl
mention_kept names U.Pfail h = refl
mention_kept names (U.Create label) h = refl
mention_kept names U.Coact h = refl
mention_kept names U.Coret h = refl
mention_kept names U.Cofail h = refl
mention_kept names (U.Lab label) h = refl

instrs_kept : (proc : PlainProc) → is_joinable_proc proc ≡ true → list_all (λ instr. keeps_mention (mention_of instr)) proc.instrs ≡ true
instrs_kept proc h =
    all_then _ _ (mention_kept (length proc.names)) proc.instrs (and_parts _ _ h).1

-- of one kind, in a procedure and in all
mentions_in : {A : Type 0} (p : A → Bool) (kind : Mention → List A)
    → ((m : Mention) → keeps_mention m ≡ true → list_all p (kind m) ≡ true) → (proc : PlainProc) → is_joinable_proc proc ≡ true
    → list_all p (mentioned_in kind proc) ≡ true
mentions_in p kind leads proc h =
    all_of_flat p (λ instr. kind (mention_of instr)) proc.instrs
    (all_then _ _ (λ instr. leads (mention_of instr)) proc.instrs (instrs_kept proc h))

mentions_keep : {A : Type 0} (p : A → Bool) (kind : Mention → List A)
    → ((m : Mention) → keeps_mention m ≡ true → list_all p (kind m) ≡ true) → (procs : List PlainProc)
    → list_all is_joinable_proc procs ≡ true → list_all p (mentioned_by kind procs) ≡ true
mentions_keep p kind leads procs h =
    all_of_flat p (mentioned_in kind) procs (all_then _ _ (mentions_in p kind leads) procs h)

integer_kept : (m : Mention) → keeps_mention m ≡ true → list_all is_integer (integer_in m) ≡ true
unfolding keeps_mention
integer_kept NoMention h = refl
integer_kept (AnInteger n) h = and_intro h refl
integer_kept (AText bytes) h = refl
integer_kept (ASet members) h = refl
integer_kept (AField name) h = refl
integer_kept (Operands count) h = refl

text_kept : (m : Mention) → keeps_mention m ≡ true → list_all Rules.is_string (text_in m) ≡ true
unfolding keeps_mention
text_kept NoMention h = refl
text_kept (AnInteger n) h = refl
text_kept (AText bytes) h = and_intro (text_string bytes h) refl
text_kept (ASet members) h = refl
text_kept (AField name) h = refl
text_kept (Operands count) h = refl

field_kept : (m : Mention) → keeps_mention m ≡ true → list_all is_name (field_in m) ≡ true
unfolding keeps_mention
field_kept NoMention h = refl
field_kept (AnInteger n) h = refl
field_kept (AText bytes) h = refl
field_kept (ASet members) h = refl
field_kept (AField name) h = and_intro h refl
field_kept (Operands count) h = refl

-- Declarations and names

decl_fields : (decl : PlainDecl) → is_joinable_decl decl ≡ true → list_all is_name (fields_in decl) ≡ true
decl_fields (GlobalDecl name) h = refl
decl_fields (Procedure name) h = refl
decl_fields (Link text) h = refl
decl_fields (Invocable text) h = refl
decl_fields (Record name fields) h = (and_parts _ _ h).1

decl_global : (decl : PlainDecl) → is_joinable_decl decl ≡ true → list_all is_name (global_in decl) ≡ true
decl_global (GlobalDecl name) h = and_intro h refl
decl_global (Procedure name) h = and_intro h refl
decl_global (Link text) h = refl
decl_global (Invocable text) h = refl
decl_global (Record name fields) h = and_intro (and_parts _ _ h).0 refl

decl_record : (decl : PlainDecl) → is_joinable_decl decl ≡ true → list_all is_name (record_name_in decl) ≡ true
decl_record (GlobalDecl name) h = refl
decl_record (Procedure name) h = refl
decl_record (Link text) h = refl
decl_record (Invocable text) h = refl
decl_record (Record name fields) h = and_intro (and_parts _ _ h).0 refl

function_name : (test : Bool) (name : List ℕ) → is_name name ≡ true → list_all is_name (if test then name ∷ [] else []) ≡ true
function_name true name h = and_intro h refl
function_name false name h = refl

function_kept : (kind : NameKind) (name : List ℕ) → is_name name ≡ true → list_all is_name (function_by kind name) ≡ true
function_kept Kinds.Undeclared name h = function_name (is_some (function_named name)) name h
function_kept Kinds.Parameter name h = refl
function_kept Kinds.Local name h = refl
function_kept Kinds.Static name h = refl

functions_kept : (proc : PlainProc) → is_joinable_proc proc ≡ true → list_all is_name (functions_in proc) ≡ true
functions_kept proc h =
    let entries = (and_parts _ _ (and_parts _ _ h).0).1 in
    all_of_flat is_name function_in proc.names
    (all_then _ _ (λ entry. function_kept entry.kind entry.name) proc.names (all_unmapped is_name (λ entry. entry.name) proc.names entries))

function_at_kept : (names : List UnitName) → list_all is_name (entry_names names) ≡ true → (k : ℕ) → list_all is_name (function_at names k) ≡ true
function_at_kept [] h k = refl
function_at_kept (entry ∷ names) h zero = function_kept entry.kind entry.name (and_parts _ _ h).0
function_at_kept (entry ∷ names) h (suc k) = function_at_kept names (and_parts _ _ h).1 k

used_kept : (names : List UnitName) → list_all is_name (entry_names names) ≡ true → (o : Option ℕ)
    → list_all is_name (option_map_or (function_at names) o []) ≡ true
used_kept names h None = refl
used_kept names h (Some k) = function_at_kept names h k

functions_used_kept : (proc : PlainProc) → is_joinable_proc proc ≡ true → list_all is_name (functions_used proc) ≡ true
functions_used_kept proc h =
    let entries = (and_parts _ _ (and_parts _ _ h).0).1 in
    all_of_flat is_name (function_used proc.names) proc.instrs
    (all_then _ _ (λ instr k. used_kept proc.names entries (name_used instr)) proc.instrs (and_parts _ _ h).1)

proc_named : (proc : PlainProc) → is_joinable_proc proc ≡ true → is_name proc.name ≡ true
proc_named proc h = (and_parts _ _ (and_parts _ _ (and_parts _ _ h).0).0).0

-- The tables

module _ (decls : List PlainDecl) (procs : List PlainProc) (joinable_decls : list_all is_joinable_decl decls ≡ true)
    (joinable_procs : list_all is_joinable_proc procs ≡ true) where
  fields_named : list_all is_name (fields decls procs) ≡ true
  fields_named = texts_keep is_name [] (flat_map fields_in decls ++ mentioned_by field_in procs) refl
      (list_all-append is_name (flat_map fields_in decls) (mentioned_by field_in procs)
      ∙ and_intro (all_of_flat is_name fields_in decls (all_then _ _ decl_fields decls joinable_decls))
      (mentions_keep is_name field_in field_kept procs joinable_procs))

  records_named : list_all is_name (record_names decls) ≡ true
  records_named = all_of_flat is_name record_name_in decls (all_then _ _ decl_record decls joinable_decls)

  globals_named : list_all is_name (globals decls procs) ≡ true
  globals_named = texts_keep is_name (used_globals decls procs) (flat_map functions_in procs)
      (texts_keep is_name (declared_names decls) (flat_map functions_used procs)
      (texts_keep is_name [] (flat_map global_in decls) refl (all_of_flat is_name global_in decls (all_then _ _ decl_global decls joinable_decls)))
      (all_of_flat is_name functions_used procs (all_then _ _ functions_used_kept procs joinable_procs)))
      (all_of_flat is_name functions_in procs (all_then _ _ functions_kept procs joinable_procs))

  procs_named : list_all is_name (proc_names procs) ≡ true
  procs_named = all_mapped is_name (λ proc. proc.name) procs (all_then _ _ proc_named procs joinable_procs)

  named : (names : List (List ℕ)) → list_all is_name names ≡ true → list_all Rules.is_string names ≡ true
  named names h = all_then is_name Rules.is_string name_string names h

  pub strings_kept : list_all Rules.is_string (strings decls procs) ≡ true
  strings_kept =
      let r4 : List (List ℕ) = mentioned_by text_in procs in
      let r3 : List (List ℕ) = proc_names procs ++ r4 in
      let r2 : List (List ℕ) = globals decls procs ++ r3 in
      let r1 : List (List ℕ) = record_names decls ++ r2 in
      texts_keep Rules.is_string [] (string_mentions decls procs) refl
      (list_all-append Rules.is_string (fields decls procs) r1 ∙ and_intro (named (fields decls procs) fields_named)
      (list_all-append Rules.is_string (record_names decls) r2 ∙ and_intro (named (record_names decls) records_named)
      (list_all-append Rules.is_string (globals decls procs) r3 ∙ and_intro (named (globals decls procs) globals_named)
      (list_all-append Rules.is_string (proc_names procs) r4 ∙ and_intro (named (proc_names procs) procs_named)
      (mentions_keep Rules.is_string text_in text_kept procs joinable_procs)))))

  pub integers_kept : list_all is_integer (integers procs) ≡ true
  integers_kept = integers_keep is_integer [] (mentioned_by integer_in procs) refl (mentions_keep is_integer integer_in integer_kept procs joinable_procs)
