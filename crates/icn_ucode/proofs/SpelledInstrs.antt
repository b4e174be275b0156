-- What an instruction's spelling is read as.
use Rattle.std.proofs.Common.{◌≡◌, ℕ, pos, negsuc, ◌<◌, true, false, cond, nat_lt, List, [], ◌∷◌, ◌++◌, Option, None, Some, refl, ◌∙◌, ap, arith}
use Rattle.std.specs.Prelude.{codes}
use Rattle.std.specs.Fmt.{decimal}
use Rattle.std.specs.Option.{option_map, option_and_then}
use Rattle.std.specs.List.{list_all}
use Rattle.std.specs.Str.{bytes_eq}
use Rattle.std.proofs.lemmas.Bool.{cond-true, false≢true}
use Rattle.std.proofs.lemmas.Bool.Decides.{nat_tests}
use Rattle.icn_tree.specs.ByteSets.{members_of}
use Rattle.icn_text.specs.declared.keyword.Keyword.{Keyword}
use Rattle.icn_text.specs.declared.keyword.Keyword.TheVariants.{Ascii as KeyAscii, Cset as KeyCset, Current as KeyCurrent, Digits as KeyDigits, Errout as KeyErrout, Fail as KeyFail, Input as KeyInput, Lcase as KeyLcase, Letters as KeyLetters, Level as KeyLevel, Main as KeyMain, Null as KeyNull, Output as KeyOutput, Pos as KeyPos, Random as KeyRandom, Source as KeySource, Subject as KeySubject, Ucase as KeyUcase, Error as KeyError, ErrorNumber as KeyErrorNumber, ErrorValue as KeyErrorValue, ErrorText as KeyErrorText}
use Rattle.icn_text.specs.declared.op.Op.{Op as OpCode}
use Rattle.icn_text.specs.declared.op.Op.TheVariants.{IsNull as OpIsNull, IsNotNull as OpIsNotNull, Dereference as OpDereference, Number as OpNumber, Negate as OpNegate, Size as OpSize, Complement as OpComplement, Elements as OpElements, Random as OpRandom, TabMatch as OpTabMatch, Refresh as OpRefresh, Add as OpAdd, Subtract as OpSubtract, Multiply as OpMultiply, Divide as OpDivide, Remainder as OpRemainder, Power as OpPower, Less as OpLess, LessOrEqual as OpLessOrEqual, Equal as OpEqual, GreaterOrEqual as OpGreaterOrEqual, Greater as OpGreater, NotEqual as OpNotEqual, LexicallyLess as OpLexicallyLess, LexicallyLessOrEqual as OpLexicallyLessOrEqual, LexicallyEqual as OpLexicallyEqual, LexicallyGreaterOrEqual as OpLexicallyGreaterOrEqual, LexicallyGreater as OpLexicallyGreater, LexicallyNotEqual as OpLexicallyNotEqual, Equivalent as OpEquivalent, NotEquivalent as OpNotEquivalent, Concatenate as OpConcatenate, ConcatenateLists as OpConcatenateLists, Union as OpUnion, Difference as OpDifference, Intersection as OpIntersection, Assign as OpAssign, Swap as OpSwap, ReversibleAssign as OpReversibleAssign, ReversibleSwap as OpReversibleSwap, Subscript as OpSubscript, Section as OpSection, SectionPlus as OpSectionPlus, SectionMinus as OpSectionMinus, ToBy as OpToBy}
use Rattle.icn_text.specs.Keywords.{keyword_name}
use Rattle.icn_text.specs.Ops.{op_number}
use Rattle.icn_unit.specs.declared.instr_word.InstrWord.{InstrWord}
use Rattle.icn_unit.specs.declared.instr_word.InstrWord.TheVariants.{Pnull, Int, Str, Cset, Var, Keywd, Pop, Dup, Op, Llist, Field, Invoke, Appl, Mark, Mark0, Unmark, Eret, Esusp, Limit, Lsusp, Efail, Chfail, Goto, Loop, Bscan, Escan, Ccase, Init, Psusp, Pret, Pfail, Create, Coact, Coret, Cofail, Lab}
use Rattle.icn_unit.specs.declared.unit.UnitInstr.{UnitInstr}
use Rattle.icn_unit.specs.declared.unit.UnitInstr.TheVariants.{Pnull as IPnull, Int as IInt, Str as IStr, Cset as ICset, Var as IVar, Keywd as IKeywd, Pop as IPop, Dup as IDup, Op as IOp, Llist as ILlist, Field as IField, Invoke as IInvoke, Appl as IAppl, Mark as IMark, Mark0 as IMark0, Unmark as IUnmark, Eret as IEret, Esusp as IEsusp, Limit as ILimit, Lsusp as ILsusp, Efail as IEfail, Chfail as IChfail, Goto as IGoto, Loop as ILoop, Bscan as IBscan, Escan as IEscan, Ccase as ICcase, Init as IInit, Psusp as IPsusp, Pret as IPret, Pfail as IPfail, Create as ICreate, Coact as ICoact, Coret as ICoret, Cofail as ICofail, Lab as ILab}
use Rattle.icn_unit.specs.InstrWords.{instr_word_of, instr_words, word_of, word_text}
use Rattle.icn_unit.specs.UnitOperands.{ascends, is_name}
use Rattle.icn_unit.specs.UnitRules.{is_byte, is_byte_text, is_number, keeps_operand}
use Rattle.icn_unit.specs.UnitTexts.{bytes_text, label_text, operand_text}
use Rattle.icn_defs.specs.Numbers.{op_of}
use Rattle.icn_defs.proofs.OpNumbers.{op_back}
use Rattle.icn_unit.proofs.Decimals.{keyword_again}
use Rattle.icn_ucode.specs.UnitReading.{instr_of, is_indented}
use Rattle.icn_ucode.proofs.CleanWords.{is_clean, name_clean}
use Rattle.icn_ucode.proofs.ListTests.{and_parts}
use Rattle.icn_ucode.proofs.Spelling.{AreBytes, members_same, rest_text}
use Rattle.icn_ucode.proofs.SpelledOperands.{bytes_again, bytes_clean, decimal_clean, label_again, label_clean, number_again, small_again, small_clean}

-- Words, operations and keywords

pub word_again : (word : InstrWord) → instr_word_of (word_text word) ≡ Some word
unfolding instr_words
word_again Pnull = refl
word_again Int = refl
word_again Str = refl
word_again Cset = refl
word_again Var = refl
word_again Keywd = refl
word_again Pop = refl
word_again Dup = refl
word_again Op = refl
word_again Llist = refl
word_again Field = refl
word_again Invoke = refl
word_again Appl = refl
word_again Mark = refl
word_again Mark0 = refl
word_again Unmark = refl
word_again Eret = refl
word_again Esusp = refl
word_again Limit = refl
word_again Lsusp = refl
word_again Efail = refl
word_again Chfail = refl
word_again Goto = refl
word_again Loop = refl
word_again Bscan = refl
word_again Escan = refl
word_again Ccase = refl
word_again Init = refl
word_again Psusp = refl
word_again Pret = refl
word_again Pfail = refl
word_again Create = refl
word_again Coact = refl
word_again Coret = refl
word_again Cofail = refl
word_again Lab = refl

pub word_clean : (word : InstrWord) → is_clean (word_text word) ≡ true
word_clean Pnull = refl
word_clean Int = refl
word_clean Str = refl
word_clean Cset = refl
word_clean Var = refl
word_clean Keywd = refl
word_clean Pop = refl
word_clean Dup = refl
word_clean Op = refl
word_clean Llist = refl
word_clean Field = refl
word_clean Invoke = refl
word_clean Appl = refl
word_clean Mark = refl
word_clean Mark0 = refl
word_clean Unmark = refl
word_clean Eret = refl
word_clean Esusp = refl
word_clean Limit = refl
word_clean Lsusp = refl
word_clean Efail = refl
word_clean Chfail = refl
word_clean Goto = refl
word_clean Loop = refl
word_clean Bscan = refl
word_clean Escan = refl
word_clean Ccase = refl
word_clean Init = refl
word_clean Psusp = refl
word_clean Pret = refl
word_clean Pfail = refl
word_clean Create = refl
word_clean Coact = refl
word_clean Coret = refl
word_clean Cofail = refl
word_clean Lab = refl

pub word_other : (word : InstrWord) → bytes_eq (word_text word) (codes "end") ≡ false
word_other Pnull = refl
word_other Int = refl
word_other Str = refl
word_other Cset = refl
word_other Var = refl
word_other Keywd = refl
word_other Pop = refl
word_other Dup = refl
word_other Op = refl
word_other Llist = refl
word_other Field = refl
word_other Invoke = refl
word_other Appl = refl
word_other Mark = refl
word_other Mark0 = refl
word_other Unmark = refl
word_other Eret = refl
word_other Esusp = refl
word_other Limit = refl
word_other Lsusp = refl
word_other Efail = refl
word_other Chfail = refl
word_other Goto = refl
word_other Loop = refl
word_other Bscan = refl
word_other Escan = refl
word_other Ccase = refl
word_other Init = refl
word_other Psusp = refl
word_other Pret = refl
word_other Pfail = refl
word_other Create = refl
word_other Coact = refl
word_other Coret = refl
word_other Cofail = refl
word_other Lab = refl

pub not_indented : (word : InstrWord) (rest : List ℕ) → is_indented (word_text word ++ rest) ≡ false
not_indented Pnull rest = refl
not_indented Int rest = refl
not_indented Str rest = refl
not_indented Cset rest = refl
not_indented Var rest = refl
not_indented Keywd rest = refl
not_indented Pop rest = refl
not_indented Dup rest = refl
not_indented Op rest = refl
not_indented Llist rest = refl
not_indented Field rest = refl
not_indented Invoke rest = refl
not_indented Appl rest = refl
not_indented Mark rest = refl
not_indented Mark0 rest = refl
not_indented Unmark rest = refl
not_indented Eret rest = refl
not_indented Esusp rest = refl
not_indented Limit rest = refl
not_indented Lsusp rest = refl
not_indented Efail rest = refl
not_indented Chfail rest = refl
not_indented Goto rest = refl
not_indented Loop rest = refl
not_indented Bscan rest = refl
not_indented Escan rest = refl
not_indented Ccase rest = refl
not_indented Init rest = refl
not_indented Psusp rest = refl
not_indented Pret rest = refl
not_indented Pfail rest = refl
not_indented Create rest = refl
not_indented Coact rest = refl
not_indented Coret rest = refl
not_indented Cofail rest = refl
not_indented Lab rest = refl

op_small : (op : OpCode) → is_number (op_number op) ≡ true
op_small OpIsNull = refl
op_small OpIsNotNull = refl
op_small OpDereference = refl
op_small OpNumber = refl
op_small OpNegate = refl
op_small OpSize = refl
op_small OpComplement = refl
op_small OpElements = refl
op_small OpRandom = refl
op_small OpTabMatch = refl
op_small OpRefresh = refl
op_small OpAdd = refl
op_small OpSubtract = refl
op_small OpMultiply = refl
op_small OpDivide = refl
op_small OpRemainder = refl
op_small OpPower = refl
op_small OpLess = refl
op_small OpLessOrEqual = refl
op_small OpEqual = refl
op_small OpGreaterOrEqual = refl
op_small OpGreater = refl
op_small OpNotEqual = refl
op_small OpLexicallyLess = refl
op_small OpLexicallyLessOrEqual = refl
op_small OpLexicallyEqual = refl
op_small OpLexicallyGreaterOrEqual = refl
op_small OpLexicallyGreater = refl
op_small OpLexicallyNotEqual = refl
op_small OpEquivalent = refl
op_small OpNotEquivalent = refl
op_small OpConcatenate = refl
op_small OpConcatenateLists = refl
op_small OpUnion = refl
op_small OpDifference = refl
op_small OpIntersection = refl
op_small OpAssign = refl
op_small OpSwap = refl
op_small OpReversibleAssign = refl
op_small OpReversibleSwap = refl
op_small OpSubscript = refl
op_small OpSection = refl
op_small OpSectionPlus = refl
op_small OpSectionMinus = refl
op_small OpToBy = refl

keyword_clean : (keyword : Keyword) → is_clean (keyword_name keyword) ≡ true
keyword_clean KeyAscii = refl
keyword_clean KeyCset = refl
keyword_clean KeyCurrent = refl
keyword_clean KeyDigits = refl
keyword_clean KeyErrout = refl
keyword_clean KeyFail = refl
keyword_clean KeyInput = refl
keyword_clean KeyLcase = refl
keyword_clean KeyLetters = refl
keyword_clean KeyLevel = refl
keyword_clean KeyMain = refl
keyword_clean KeyNull = refl
keyword_clean KeyOutput = refl
keyword_clean KeyPos = refl
keyword_clean KeyRandom = refl
keyword_clean KeySource = refl
keyword_clean KeySubject = refl
keyword_clean KeyUcase = refl
keyword_clean KeyError = refl
keyword_clean KeyErrorNumber = refl
keyword_clean KeyErrorValue = refl
keyword_clean KeyErrorText = refl

-- Instructions

abbrev pub CleanOperand : Option (List ℕ) → Type 0
CleanOperand None = Unit {0}
CleanOperand (Some text) = is_clean text ≡ true

-- the line of an instruction, in a procedure of so many names
pub record InstrLine (instr : UnitInstr) (names : ℕ) : Type 0 where
  pub operand : Option (List ℕ)
  pub spelled : operand_text instr ≡ rest_text operand
  pub clean : CleanOperand operand
  pub read : instr_of (word_of instr) operand names ≡ Some instr

labelled_line : (instr : UnitInstr) (names label : ℕ) → operand_text instr ≡ rest_text (Some (label_text label))
    → instr_of (word_of instr) (Some (label_text label)) names ≡ Some instr → is_number label ≡ true → InstrLine instr names
labelled_line instr names label s r h = record { operand = Some (label_text label); spelled = s; clean = label_clean label h; read = r }

all_bytes : (bytes : List ℕ) → list_all is_byte bytes ≡ true → AreBytes bytes
all_bytes [] h = tt
all_bytes (b ∷ bytes) h = let parts = and_parts (is_byte b) (list_all is_byte bytes) h in (below b parts.0, all_bytes bytes parts.1) where
  below : (b : ℕ) → is_byte b ≡ true → b < 256
  below b h = grind (arith, nat_tests)

cset_again : (bytes : List ℕ) → is_byte_text bytes ≡ true → ascends bytes ≡ true → instr_of Cset (Some (bytes_text bytes)) 0 ≡ Some (ICset bytes)
cset_again bytes h g =
    ap (λ found. option_and_then (λ bytes. cond (ascends bytes) (Some (ICset (members_of bytes))) None) found) (bytes_again bytes h)
    ∙ (cond-true (ascends bytes) _ _ g
    ∙ ap (λ members. Some (ICset members)) (members_same bytes g (all_bytes bytes (and_parts (list_all is_byte bytes) _ h).0)))

pub instr_line : (instr : UnitInstr) (names : ℕ) → keeps_operand names instr ≡ true → InstrLine instr names
instr_line IPnull names h = record { operand = None; spelled = refl; clean = tt; read = refl }
instr_line (IInt (pos n)) names h = record {
  operand = Some (decimal n);
  spelled = refl;
  clean = decimal_clean 9223372036854775807 n h (omega arith);
  read = ap (λ found. option_map (λ n. IInt (pos n)) found) (number_again 9223372036854775807 n h (omega arith));
}
instr_line (IInt (negsuc n)) names h = absurd (false≢true h)
instr_line (IStr bytes) names h = record {
  operand = Some (bytes_text bytes);
  spelled = refl;
  clean = bytes_clean bytes h;
  read = ap (λ found. option_map (λ bytes. IStr bytes) found) (bytes_again bytes h);
}
instr_line (ICset bytes) names h =
    let parts = and_parts (is_byte_text bytes) (ascends bytes) h in
    record { operand = Some (bytes_text bytes); spelled = refl; clean = bytes_clean bytes parts.0; read = cset_again bytes parts.0 parts.1 }
instr_line (IVar k) names h =
    let parts = and_parts (nat_lt k names) (is_number k) h in
    record {
      operand = Some (decimal k);
      spelled = refl;
      clean = small_clean k parts.1;
      read = ap (λ found. option_and_then (λ n. cond (nat_lt n names) (Some (IVar n)) None) found) (small_again k parts.1)
          ∙ cond-true (nat_lt k names) _ _ parts.0;
    }
instr_line (IKeywd keyword) names h = record {
  operand = Some (keyword_name keyword);
  spelled = refl;
  clean = keyword_clean keyword;
  read = ap (λ found. option_map (λ keyword. IKeywd keyword) found) (keyword_again keyword);
}
instr_line IPop names h = record { operand = None; spelled = refl; clean = tt; read = refl }
instr_line IDup names h = record { operand = None; spelled = refl; clean = tt; read = refl }
instr_line (IOp op) names h = record {
  operand = Some (decimal (op_number op));
  spelled = refl;
  clean = small_clean (op_number op) (op_small op);
  read = ap (λ found. option_and_then (λ n. option_map (λ op. IOp op) (op_of n)) found) (small_again (op_number op) (op_small op))
      ∙ ap (λ found. option_map (λ op. IOp op) found) (op_back op);
}
instr_line (ILlist n) names h =
    record { operand = Some (decimal n); spelled = refl; clean = small_clean n h; read = ap (λ found. option_map (λ n. ILlist n) found) (small_again n h) }
instr_line (IField name) names h = record { operand = Some name; spelled = refl; clean = name_clean name h; read = cond-true (is_name name) _ _ h }
instr_line (IInvoke n) names h =
    record { operand = Some (decimal n); spelled = refl; clean = small_clean n h; read = ap (λ found. option_map (λ n. IInvoke n) found) (small_again n h) }
instr_line IAppl names h = record { operand = None; spelled = refl; clean = tt; read = refl }
instr_line (IMark label) names h =
    labelled_line (IMark label) names label refl (ap (λ found. option_and_then (λ label. Some (IMark label)) found) (label_again label h)) h
instr_line IMark0 names h = record { operand = None; spelled = refl; clean = tt; read = refl }
instr_line IUnmark names h = record { operand = None; spelled = refl; clean = tt; read = refl }
instr_line IEret names h = record { operand = None; spelled = refl; clean = tt; read = refl }
instr_line IEsusp names h = record { operand = None; spelled = refl; clean = tt; read = refl }
instr_line ILimit names h = record { operand = None; spelled = refl; clean = tt; read = refl }
instr_line ILsusp names h = record { operand = None; spelled = refl; clean = tt; read = refl }
instr_line IEfail names h = record { operand = None; spelled = refl; clean = tt; read = refl }
instr_line (IChfail label) names h =
    labelled_line (IChfail label) names label refl (ap (λ found. option_and_then (λ label. Some (IChfail label)) found) (label_again label h)) h
instr_line (IGoto label) names h =
    labelled_line (IGoto label) names label refl (ap (λ found. option_and_then (λ label. Some (IGoto label)) found) (label_again label h)) h
instr_line (ILoop label) names h =
    labelled_line (ILoop label) names label refl (ap (λ found. option_and_then (λ label. Some (ILoop label)) found) (label_again label h)) h
instr_line IBscan names h = record { operand = None; spelled = refl; clean = tt; read = refl }
instr_line IEscan names h = record { operand = None; spelled = refl; clean = tt; read = refl }
instr_line ICcase names h = record { operand = None; spelled = refl; clean = tt; read = refl }
instr_line (IInit label) names h =
    labelled_line (IInit label) names label refl (ap (λ found. option_and_then (λ label. Some (IInit label)) found) (label_again label h)) h
instr_line IPsusp names h = record { operand = None; spelled = refl; clean = tt; read = refl }
instr_line IPret names h = record { operand = None; spelled = refl; clean = tt; read = refl }
instr_line IPfail names h = record { operand = None; spelled = refl; clean = tt; read = refl }
instr_line (ICreate label) names h =
    labelled_line (ICreate label) names label refl (ap (λ found. option_and_then (λ label. Some (ICreate label)) found) (label_again label h)) h
instr_line ICoact names h = record { operand = None; spelled = refl; clean = tt; read = refl }
instr_line ICoret names h = record { operand = None; spelled = refl; clean = tt; read = refl }
instr_line ICofail names h = record { operand = None; spelled = refl; clean = tt; read = refl }
instr_line (ILab label) names h =
    labelled_line (ILab label) names label refl (ap (λ found. option_and_then (λ label. Some (ILab label)) found) (label_again label h)) h
