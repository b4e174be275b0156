-- The first words of instruction lines.
use Rattle.std.specs.Prelude.{◌==◌, ℕ, List, [], ◌∷◌, Option, Some, None, codes, if◌then◌else◌}
use Rattle.icn_tree.specs.Spellings.{lookup_text}
use Rattle.icn_unit.specs.declared.instr_word.InstrWord.{InstrWord}
use Rattle.icn_unit.specs.declared.instr_word.InstrWord.TheVariants.{Pnull, Int, Str, Cset, Var, Keywd, Pop, Dup, Op, Llist, Field, Invoke, Appl, Mark, Mark0, Unmark, Eret, Esusp, Limit, Lsusp, Efail, Chfail, Goto, Loop, Bscan, Escan, Ccase, Init, Psusp, Pret, Pfail, Create, Coact, Coret, Cofail, Lab}
use Rattle.icn_unit.specs.declared.unit.UnitInstr.{UnitInstr}
use Rattle.icn_unit.specs.declared.unit.UnitInstr.TheVariants.{Pnull as IPnull, Int as IInt, Str as IStr, Cset as ICset, Var as IVar, Keywd as IKeywd, Pop as IPop, Dup as IDup, Op as IOp, Llist as ILlist, Field as IField, Invoke as IInvoke, Appl as IAppl, Mark as IMark, Mark0 as IMark0, Unmark as IUnmark, Eret as IEret, Esusp as IEsusp, Limit as ILimit, Lsusp as ILsusp, Efail as IEfail, Chfail as IChfail, Goto as IGoto, Loop as ILoop, Bscan as IBscan, Escan as IEscan, Ccase as ICcase, Init as IInit, Psusp as IPsusp, Pret as IPret, Pfail as IPfail, Create as ICreate, Coact as ICoact, Coret as ICoret, Cofail as ICofail, Lab as ILab}

-- the first word of an instruction's line
abbrev pub word_text : InstrWord → List ℕ
word_text Pnull = codes "pnull"
word_text Int = codes "int"
word_text Str = codes "str"
word_text Cset = codes "cset"
word_text Var = codes "var"
word_text Keywd = codes "keywd"
word_text Pop = codes "pop"
word_text Dup = codes "dup"
word_text Op = codes "op"
word_text Llist = codes "llist"
word_text Field = codes "field"
word_text Invoke = codes "invoke"
word_text Appl = codes "appl"
word_text Mark = codes "mark"
word_text Mark0 = codes "mark0"
word_text Unmark = codes "unmark"
word_text Eret = codes "eret"
word_text Esusp = codes "esusp"
word_text Limit = codes "limit"
word_text Lsusp = codes "lsusp"
word_text Efail = codes "efail"
word_text Chfail = codes "chfail"
word_text Goto = codes "goto"
word_text Loop = codes "loop"
word_text Bscan = codes "bscan"
word_text Escan = codes "escan"
word_text Ccase = codes "ccase"
word_text Init = codes "init"
word_text Psusp = codes "psusp"
word_text Pret = codes "pret"
word_text Pfail = codes "pfail"
word_text Create = codes "create"
word_text Coact = codes "coact"
word_text Coret = codes "coret"
word_text Cofail = codes "cofail"
word_text Lab = codes "lab"

-- the words that begin with a letter
unfoldable pub instr_words : ℕ → List (List ℕ × InstrWord)
instr_words b =
    if b == 97 then (codes "appl", Appl) ∷ [] else (
    if b == 98 then (codes "bscan", Bscan) ∷ [] else (
    if b == 99 then (codes "cset", Cset) ∷ (codes "chfail", Chfail) ∷ (codes "ccase", Ccase)
    ∷ (codes "create", Create) ∷ (codes "coact", Coact) ∷ (codes "coret", Coret)
    ∷ (codes "cofail", Cofail) ∷ [] else (
    if b == 100 then (codes "dup", Dup) ∷ [] else (
    if b == 101 then (codes "eret", Eret) ∷ (codes "esusp", Esusp) ∷ (codes "efail", Efail)
    ∷ (codes "escan", Escan) ∷ [] else (
    if b == 102 then (codes "field", Field) ∷ [] else (
    if b == 103 then (codes "goto", Goto) ∷ [] else (
    if b == 105 then (codes "int", Int) ∷ (codes "invoke", Invoke) ∷ (codes "init", Init) ∷ [] else (
    if b == 107 then (codes "keywd", Keywd) ∷ [] else (
    if b == 108 then (codes "llist", Llist) ∷ (codes "limit", Limit) ∷ (codes "lsusp", Lsusp)
    ∷ (codes "loop", Loop) ∷ (codes "lab", Lab) ∷ [] else (
    if b == 109 then (codes "mark", Mark) ∷ (codes "mark0", Mark0) ∷ [] else (
    if b == 111 then (codes "op", Op) ∷ [] else (
    if b == 112 then (codes "pnull", Pnull) ∷ (codes "pop", Pop) ∷ (codes "psusp", Psusp)
    ∷ (codes "pret", Pret) ∷ (codes "pfail", Pfail) ∷ [] else (
    if b == 115 then (codes "str", Str) ∷ [] else (
    if b == 117 then (codes "unmark", Unmark) ∷ [] else (
    if b == 118 then (codes "var", Var) ∷ [] else [])))))))))))))))

-- the instruction word that a text spells, if it spells one
abbrev pub instr_word_of : List ℕ → Option InstrWord
instr_word_of [] = None
instr_word_of (b ∷ rest) = lookup_text (instr_words b) (b ∷ rest)

-- the word of an instruction
abbrev pub word_of : UnitInstr → InstrWord
word_of IPnull = Pnull
word_of (IInt x) = Int
word_of (IStr x) = Str
word_of (ICset x) = Cset
word_of (IVar x) = Var
word_of (IKeywd x) = Keywd
word_of IPop = Pop
word_of IDup = Dup
word_of (IOp x) = Op
word_of (ILlist x) = Llist
word_of (IField x) = Field
word_of (IInvoke x) = Invoke
word_of IAppl = Appl
word_of (IMark x) = Mark
word_of IMark0 = Mark0
word_of IUnmark = Unmark
word_of IEret = Eret
word_of IEsusp = Esusp
word_of ILimit = Limit
word_of ILsusp = Lsusp
word_of IEfail = Efail
word_of (IChfail x) = Chfail
word_of (IGoto x) = Goto
word_of (ILoop x) = Loop
word_of IBscan = Bscan
word_of IEscan = Escan
word_of ICcase = Ccase
word_of (IInit x) = Init
word_of IPsusp = Psusp
word_of IPret = Pret
word_of IPfail = Pfail
word_of (ICreate x) = Create
word_of ICoact = Coact
word_of ICoret = Coret
word_of ICofail = Cofail
word_of (ILab x) = Lab

-- the instruction of a word that stands alone
abbrev pub alone_of : InstrWord → Option UnitInstr
alone_of Pnull = Some IPnull
alone_of Pop = Some IPop
alone_of Dup = Some IDup
alone_of Appl = Some IAppl
alone_of Mark0 = Some IMark0
alone_of Unmark = Some IUnmark
alone_of Eret = Some IEret
alone_of Esusp = Some IEsusp
alone_of Limit = Some ILimit
alone_of Lsusp = Some ILsusp
alone_of Efail = Some IEfail
alone_of Bscan = Some IBscan
alone_of Escan = Some IEscan
alone_of Ccase = Some ICcase
alone_of Psusp = Some IPsusp
alone_of Pret = Some IPret
alone_of Pfail = Some IPfail
alone_of Coact = Some ICoact
alone_of Coret = Some ICoret
alone_of Cofail = Some ICofail
alone_of _ = None

-- the instruction of a word before a label
abbrev pub labelled_of : InstrWord → ℕ → Option UnitInstr
labelled_of Mark label = Some (IMark label)
labelled_of Chfail label = Some (IChfail label)
labelled_of Goto label = Some (IGoto label)
labelled_of Loop label = Some (ILoop label)
labelled_of Init label = Some (IInit label)
labelled_of Create label = Some (ICreate label)
labelled_of Lab label = Some (ILab label)
labelled_of _ label = None
