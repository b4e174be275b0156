-- An instruction that is read keeps its rule.
use Rattle.std.proofs.Common.{◌==◌, ◌≡◌, ◌<◌, ℕ, pos, ◌*◌, Bool, true, false, cond, ◌&&◌, nat_le, nat_lt, List, [], ◌∷◌, length, Option, None, Some, refl, sym, ◌∙◌, ap, arith}
use Rattle.std.specs.Prelude.{codes}
use Rattle.std.specs.List.{list_all, flat_map}
use Rattle.std.specs.Option.{option_map, option_and_then}
use Rattle.std.specs.Fmt.{decimal}
use Rattle.std.specs.Str.{bytes_eq}
use Rattle.std.proofs.lemmas.Bool.Decides.{nat_tests}
use Rattle.std.proofs.lemmas.Option.{none-some, same_Some}
use Rattle.icn_defs.specs.Numbers.{op_of}
use Rattle.icn_tree.specs.ByteSets.{members_of}
use Rattle.icn_unit.specs.declared.instr_word.InstrWord.{InstrWord}
use Rattle.icn_unit.specs.declared.instr_word.InstrWord.TheVariants.{Pnull, Int, Str, Cset, Var, Keywd, Pop, Dup, Op, Llist, Field, Invoke, Appl, Mark, Mark0, Unmark, Eret, Esusp, Limit, Lsusp, Efail, Chfail, Goto, Loop, Bscan, Escan, Ccase, Init, Psusp, Pret, Pfail, Create, Coact, Coret, Cofail, Lab}
use Rattle.icn_unit.specs.declared.unit.UnitInstr.{UnitInstr}
use Rattle.icn_unit.specs.declared.unit.UnitInstr.TheVariants.{Pnull as IPnull, Int as IInt, Str as IStr, Cset as ICset, Var as IVar, Keywd as IKeywd, Pop as IPop, Dup as IDup, Op as IOp, Llist as ILlist, Field as IField, Invoke as IInvoke, Appl as IAppl, Mark as IMark, Mark0 as IMark0, Unmark as IUnmark, Eret as IEret, Esusp as IEsusp, Limit as ILimit, Lsusp as ILsusp, Efail as IEfail, Chfail as IChfail, Goto as IGoto, Loop as ILoop, Bscan as IBscan, Escan as IEscan, Ccase as ICcase, Init as IInit, Psusp as IPsusp, Pret as IPret, Pfail as IPfail, Create as ICreate, Coact as ICoact, Coret as ICoret, Cofail as ICofail, Lab as ILab}
use Rattle.icn_unit.specs.InstrWords.{alone_of}
use Rattle.icn_unit.specs.UnitOperands.{ascends, bytes_of, hexadecimal_bytes, is_name, keyword_of, label_of, number_of, value_from}
use Rattle.icn_unit.specs.UnitRules.{is_byte, is_byte_text, is_number, keeps_operand}
use Rattle.icn_unit.specs.UnitTexts.{byte_text}
use Rattle.icn_ucode.specs.UnitReading.{instr_of, operand_instr}
use Rattle.icn_ucode.proofs.ListTests.{and_intro, and_parts}
use Rattle.icn_ucode.proofs.Spelling.{AreBytes, bytes_spelled, found_if, guarded, hexadecimal_spelled, members_same, no_label}

-- a number that is read is at most the greatest
pub number_kept : (greatest : ℕ) (text : List ℕ) (n : ℕ) → number_of greatest text ≡ Some n → nat_le n greatest ≡ true
number_kept greatest text n e =
    let found = found_if (nat_le (value_from 0 text) greatest && bytes_eq (decimal (value_from 0 text)) text) (value_from 0 text) n e in
    ap (λ n. nat_le n greatest) (sym found.1) ∙ (and_parts (nat_le (value_from 0 text) greatest) (bytes_eq (decimal (value_from 0 text)) text) found.0).0

are_bytes : (bytes : List ℕ) → AreBytes bytes → list_all is_byte bytes ≡ true
are_bytes [] all = refl
are_bytes (b ∷ rest) all = and_intro (nat_lt b 256) (list_all is_byte rest) (below b all.0) (are_bytes rest all.1) where
  below : (b : ℕ) → b < 256 → nat_lt b 256 ≡ true
  below b h = grind (arith, nat_tests)

pub twice_as_long : (bytes : List ℕ) → length (flat_map byte_text bytes) ≡ 2 * length bytes
twice_as_long [] = refl
twice_as_long (b ∷ rest) = omega (arith, twice_as_long rest)

short : (bytes text : List ℕ) → flat_map byte_text bytes ≡ text → nat_le (length text) 131070 ≡ true → nat_le (length bytes) 65535 ≡ true
short bytes text is h = let half : length text ≡ 2 * length bytes = ap length (sym is) ∙ twice_as_long bytes in grind (arith, nat_tests)

pub bytes_kept : (text bytes : List ℕ) → bytes_of text ≡ Some bytes → is_byte_text bytes ≡ true
bytes_kept text bytes e = by_dash (bytes_eq text (codes "-")) e where
  by_len : (test : Bool) → (nat_le 1 (length text) && nat_le (length text) 131070) ≡ test → cond test (hexadecimal_bytes text) None ≡ Some bytes
      → is_byte_text bytes ≡ true
  by_len true t e =
      let found = hexadecimal_spelled text bytes e in
      and_intro (list_all is_byte bytes) (nat_le (length bytes) 65535) (are_bytes bytes found.1)
      (short bytes text found.0 (and_parts (nat_le 1 (length text)) (nat_le (length text) 131070) t).1)
  by_len false t e = absurd (none-some bytes e)

  by_dash : (test : Bool) → cond test (Some []) (cond (nat_le 1 (length text) && nat_le (length text) 131070) (hexadecimal_bytes text) None) ≡ Some bytes
      → is_byte_text bytes ≡ true
  by_dash true e = ap is_byte_text (sym (same_Some [] bytes e))
  by_dash false e = by_len (nat_le 1 (length text) && nat_le (length text) 131070) refl e

same_kept : (names : ℕ) (x instr : UnitInstr) → ◌≡◌ {A = Option UnitInstr} (Some x) (Some instr) → keeps_operand names x ≡ true
    → keeps_operand names instr ≡ true
same_kept names x instr e h = ap (keeps_operand names) (sym (same_Some x instr e)) ∙ h

mapped_kept : {A : Type 0} (names : ℕ) (make : A → UnitInstr) (found : Option A) (instr : UnitInstr)
    → ((x : A) → found ≡ Some x → keeps_operand names (make x) ≡ true) → option_map make found ≡ Some instr → keeps_operand names instr ≡ true
mapped_kept names make None instr h e = absurd (none-some instr e)
mapped_kept names make (Some x) instr h e = same_kept names (make x) instr e (h x refl)

label_kept : (text : List ℕ) (names : ℕ) (make : ℕ → UnitInstr) (instr : UnitInstr) → ((n : ℕ) → is_number n ≡ true → keeps_operand names (make n) ≡ true)
    → option_and_then (λ label. Some (make label)) (label_of text) ≡ Some instr
    → keeps_operand names instr ≡ true
label_kept text names make instr keeps e = by_found (label_of text) refl e where
  by_letter : (text : List ℕ) (n : ℕ) → label_of text ≡ Some n → is_number n ≡ true
  by_letter [] n e = absurd (none-some n e)
  by_letter (b ∷ rest) n e = by_test (b == 76) e where
    by_test : (test : Bool) → cond test (number_of 4294967295 rest) None ≡ Some n → is_number n ≡ true
    by_test true e = number_kept 4294967295 rest n e
    by_test false e = absurd (none-some n e)

  by_found : (found : Option ℕ) → label_of text ≡ found → option_and_then (λ label. Some (make label)) found ≡ Some instr → keeps_operand names instr ≡ true
  by_found None f e = absurd (none-some instr e)
  by_found (Some n) f e = same_kept names (make n) instr e (keeps n (by_letter text n f))

op_kept : (names : ℕ) (found : Option ℕ) (instr : UnitInstr) → option_and_then (λ n. option_map (λ op. IOp op) (op_of n)) found ≡ Some instr
    → keeps_operand names instr ≡ true
op_kept names None instr e = absurd (none-some instr e)
op_kept names (Some n) instr e = mapped_kept names (λ op. IOp op) (op_of n) instr (λ op f. refl) e

field_kept : (text : List ℕ) (names : ℕ) (instr : UnitInstr) (test : Bool) → is_name text ≡ test → cond test (Some (IField text)) None ≡ Some instr
    → keeps_operand names instr ≡ true
field_kept text names instr true t e = same_kept names (IField text) instr e t
field_kept text names instr false t e = absurd (none-some instr e)

alone_kept : (word : InstrWord) (names : ℕ) (instr : UnitInstr) → alone_of word ≡ Some instr → keeps_operand names instr ≡ true
alone_kept Pnull names instr e = same_kept names IPnull instr e refl
alone_kept Int names instr e = absurd (none-some instr e)
alone_kept Str names instr e = absurd (none-some instr e)
alone_kept Cset names instr e = absurd (none-some instr e)
alone_kept Var names instr e = absurd (none-some instr e)
alone_kept Keywd names instr e = absurd (none-some instr e)
alone_kept Pop names instr e = same_kept names IPop instr e refl
alone_kept Dup names instr e = same_kept names IDup instr e refl
alone_kept Op names instr e = absurd (none-some instr e)
alone_kept Llist names instr e = absurd (none-some instr e)
alone_kept Field names instr e = absurd (none-some instr e)
alone_kept Invoke names instr e = absurd (none-some instr e)
alone_kept Appl names instr e = same_kept names IAppl instr e refl
alone_kept Mark names instr e = absurd (none-some instr e)
alone_kept Mark0 names instr e = same_kept names IMark0 instr e refl
alone_kept Unmark names instr e = same_kept names IUnmark instr e refl
alone_kept Eret names instr e = same_kept names IEret instr e refl
alone_kept Esusp names instr e = same_kept names IEsusp instr e refl
alone_kept Limit names instr e = same_kept names ILimit instr e refl
alone_kept Lsusp names instr e = same_kept names ILsusp instr e refl
alone_kept Efail names instr e = same_kept names IEfail instr e refl
alone_kept Chfail names instr e = absurd (none-some instr e)
alone_kept Goto names instr e = absurd (none-some instr e)
alone_kept Loop names instr e = absurd (none-some instr e)
alone_kept Bscan names instr e = same_kept names IBscan instr e refl
alone_kept Escan names instr e = same_kept names IEscan instr e refl
alone_kept Ccase names instr e = same_kept names ICcase instr e refl
alone_kept Init names instr e = absurd (none-some instr e)
alone_kept Psusp names instr e = same_kept names IPsusp instr e refl
alone_kept Pret names instr e = same_kept names IPret instr e refl
alone_kept Pfail names instr e = same_kept names IPfail instr e refl
alone_kept Create names instr e = absurd (none-some instr e)
alone_kept Coact names instr e = same_kept names ICoact instr e refl
alone_kept Coret names instr e = same_kept names ICoret instr e refl
alone_kept Cofail names instr e = same_kept names ICofail instr e refl
alone_kept Lab names instr e = absurd (none-some instr e)

operand_kept : (word : InstrWord) (text : List ℕ) (names : ℕ) (instr : UnitInstr) → operand_instr word text names ≡ Some instr
    → keeps_operand names instr ≡ true
operand_kept Pnull text names instr e = absurd (no_label (label_of text) instr e)
operand_kept Int text names instr e =
    mapped_kept names (λ n. IInt (pos n)) (number_of 9223372036854775807 text) instr (λ n f. number_kept 9223372036854775807 text n f) e
operand_kept Str text names instr e = mapped_kept names (λ bytes. IStr bytes) (bytes_of text) instr (λ bytes f. bytes_kept text bytes f) e
operand_kept Cset text names instr e =
    guarded (bytes_of text) ascends (λ bytes. ICset (members_of bytes)) instr (λ instr. keeps_operand names instr ≡ true)
    (λ bytes f t. ap (λ members. is_byte_text members && ascends members) (members_same bytes t (bytes_spelled text bytes f).1)
    ∙ and_intro (is_byte_text bytes) (ascends bytes) (bytes_kept text bytes f) t) e
operand_kept Var text names instr e = guarded (number_of 4294967295 text) (λ n. nat_lt n names) (λ n. IVar n) instr (λ instr. keeps_operand names instr ≡ true)
    (λ n f t. and_intro (nat_lt n names) (is_number n) t (number_kept 4294967295 text n f)) e
operand_kept Keywd text names instr e = mapped_kept names (λ keyword. IKeywd keyword) (keyword_of text) instr (λ keyword f. refl) e
operand_kept Pop text names instr e = absurd (no_label (label_of text) instr e)
operand_kept Dup text names instr e = absurd (no_label (label_of text) instr e)
operand_kept Op text names instr e = op_kept names (number_of 4294967295 text) instr e
operand_kept Llist text names instr e = mapped_kept names (λ n. ILlist n) (number_of 4294967295 text) instr (λ n f. number_kept 4294967295 text n f) e
operand_kept Field text names instr e = field_kept text names instr (is_name text) refl e
operand_kept Invoke text names instr e = mapped_kept names (λ n. IInvoke n) (number_of 4294967295 text) instr (λ n f. number_kept 4294967295 text n f) e
operand_kept Appl text names instr e = absurd (no_label (label_of text) instr e)
operand_kept Mark text names instr e = label_kept text names (λ n. IMark n) instr (λ n h. h) e
operand_kept Mark0 text names instr e = absurd (no_label (label_of text) instr e)
operand_kept Unmark text names instr e = absurd (no_label (label_of text) instr e)
operand_kept Eret text names instr e = absurd (no_label (label_of text) instr e)
operand_kept Esusp text names instr e = absurd (no_label (label_of text) instr e)
operand_kept Limit text names instr e = absurd (no_label (label_of text) instr e)
operand_kept Lsusp text names instr e = absurd (no_label (label_of text) instr e)
operand_kept Efail text names instr e = absurd (no_label (label_of text) instr e)
operand_kept Chfail text names instr e = label_kept text names (λ n. IChfail n) instr (λ n h. h) e
operand_kept Goto text names instr e = label_kept text names (λ n. IGoto n) instr (λ n h. h) e
operand_kept Loop text names instr e = label_kept text names (λ n. ILoop n) instr (λ n h. h) e
operand_kept Bscan text names instr e = absurd (no_label (label_of text) instr e)
operand_kept Escan text names instr e = absurd (no_label (label_of text) instr e)
operand_kept Ccase text names instr e = absurd (no_label (label_of text) instr e)
operand_kept Init text names instr e = label_kept text names (λ n. IInit n) instr (λ n h. h) e
operand_kept Psusp text names instr e = absurd (no_label (label_of text) instr e)
operand_kept Pret text names instr e = absurd (no_label (label_of text) instr e)
operand_kept Pfail text names instr e = absurd (no_label (label_of text) instr e)
operand_kept Create text names instr e = label_kept text names (λ n. ICreate n) instr (λ n h. h) e
operand_kept Coact text names instr e = absurd (no_label (label_of text) instr e)
operand_kept Coret text names instr e = absurd (no_label (label_of text) instr e)
operand_kept Cofail text names instr e = absurd (no_label (label_of text) instr e)
operand_kept Lab text names instr e = label_kept text names (λ n. ILab n) instr (λ n h. h) e

pub instr_kept : (word : InstrWord) (operand : Option (List ℕ)) (names : ℕ) (instr : UnitInstr) → instr_of word operand names ≡ Some instr
    → keeps_operand names instr ≡ true
instr_kept word None names instr e = alone_kept word names instr e
instr_kept word (Some text) names instr e = operand_kept word text names instr e
