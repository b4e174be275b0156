-- The numbers of the instructions, and the operands behind them.
use Rattle.std.specs.Prelude.{◌==◌, ℕ, ◌&&◌, ◌||◌, List, [], ◌∷◌, Option, Some, None, find, option_map, nat_le, if◌then◌else◌}
use Rattle.icn_text.specs.Keywords.{keyword_number}
use Rattle.icn_text.specs.Ops.{op_number}
use Rattle.icn_defs.specs.Numbers.{op_of, keyword_of}
use Rattle.icn_code.specs.declared.instr.Instr.{Instr}
use Rattle.icn_code.specs.declared.instr.Instr.TheVariants.{Pnull, Int, Str, Cset, Local, Static, Global, Keywd, Pop, Dup, Op as Apply, Llist, Field, Invoke, Appl, Mark, Mark0, Unmark, Eret, Esusp, Limit, Lsusp, Efail, Chfail, Goto, Loop, Bscan, Escan, Ccase, Init, Psusp, Pret, Pfail, Create, Coact, Coret, Cofail}
use Rattle.icn_image.specs.declared.operand.Operand.{Operand}
use Rattle.icn_image.specs.declared.operand.Operand.TheVariants.{Nothing, Number, Label}

-- the number of an instruction, by which an image has it
abbrev pub instr_number : Instr → ℕ
instr_number Pnull = 1
instr_number (Int place) = 2
instr_number (Str place) = 3
instr_number (Cset place) = 4
instr_number (Local place) = 5
instr_number (Static place) = 6
instr_number (Global place) = 7
instr_number (Keywd keyword) = 8
instr_number Pop = 9
instr_number Dup = 10
instr_number (Apply op) = 11
instr_number (Llist count) = 12
instr_number (Field place) = 13
instr_number (Invoke count) = 14
instr_number Appl = 15
instr_number (Mark label) = 16
instr_number Mark0 = 17
instr_number Unmark = 18
instr_number Eret = 19
instr_number Esusp = 20
instr_number Limit = 21
instr_number Lsusp = 22
instr_number Efail = 23
instr_number (Chfail label) = 24
instr_number (Goto label) = 25
instr_number (Loop label) = 26
instr_number Bscan = 27
instr_number Escan = 28
instr_number Ccase = 29
instr_number (Init label) = 30
instr_number Psusp = 31
instr_number Pret = 32
instr_number Pfail = 33
instr_number (Create label) = 34
instr_number Coact = 35
instr_number Coret = 36
instr_number Cofail = 37

-- the number that is its operand, where it has one
abbrev pub operand_value : Instr → ℕ
operand_value (Int place) = place
operand_value (Str place) = place
operand_value (Cset place) = place
operand_value (Local place) = place
operand_value (Static place) = place
operand_value (Global place) = place
operand_value (Keywd keyword) = keyword_number keyword
operand_value (Apply op) = op_number op
operand_value (Llist count) = count
operand_value (Field place) = place
operand_value (Invoke count) = count
operand_value (Mark label) = label
operand_value (Chfail label) = label
operand_value (Goto label) = label
operand_value (Loop label) = label
operand_value (Init label) = label
operand_value (Create label) = label
operand_value _ = 0

-- what stands behind the number of an instruction: of 2 to 8 and 11 to 14 a number, of six others a label; there are 37
abbrev pub operand_of : ℕ → Option Operand
operand_of n =
    if (nat_le 2 n && nat_le n 8) || (nat_le 11 n && nat_le n 14) then Some Number
    else (if n == 16 || (n == 24 || (n == 25 || (n == 26 || (n == 30 || n == 34)))) then Some Label
    else (if nat_le 1 n && nat_le n 37 then Some Nothing else None))

-- the instructions in the order of their numbers, with an operand where they have one, but for the two whose operand is the number of a keyword or an
-- operation
abbrev pub instrs : ℕ → List Instr
instrs k =
    Pnull ∷ Int k ∷ Str k ∷ Cset k ∷ Local k ∷ Static k ∷ Global k ∷ Pop ∷ Dup ∷ Llist k ∷ Field k ∷ Invoke k
    ∷ Appl ∷ Mark k ∷ Mark0 ∷ Unmark
    ∷ Eret ∷ Esusp ∷ Limit ∷ Lsusp ∷ Efail ∷ Chfail k ∷ Goto k ∷ Loop k ∷ Bscan ∷ Escan ∷ Ccase ∷ Init k
    ∷ Psusp ∷ Pret ∷ Pfail ∷ Create k
    ∷ Coact ∷ Coret ∷ Cofail ∷ []

-- the instruction of a number and an operand
unfoldable pub instr_of : ℕ → ℕ → Option Instr
instr_of number operand =
    if number == 8 then option_map Keywd (keyword_of operand)
    else (if number == 11 then option_map Apply (op_of operand)
    else find (λ instr. instr_number instr == number) (instrs operand))
