-- What a cell holds in which a value may stand, by what its slot tells.
use Rattle.std.proofs.Common.{◌≡◌, true, false, Some, None, refl, sym, ap}
use Rattle.std.proofs.lemmas.Option.{same_Some}
use Rattle.std.specs.Prelude.{is_some}
use Rattle.icn_value.specs.declared.val.Val.{Val}
use Rattle.icn_value.specs.declared.item.Item.{Item}
use Rattle.icn_frames.specs.declared.layout.Why.{Why}
use Rattle.icn_frames.specs.declared.layout.Cell.{Cell}
use Rattle.icn_frames.specs.declared.layout.Cell.TheVariants.{Base, Call, Local, Mark, Limit, Suspension, Operand}
use Rattle.icn_frames.specs.declared.layout.CellContent.TheVariants as CellContents
use Rattle.icn_frames.specs.Slots.{operand_in, local_in, why_in, content_of}

pub operand_content : (cell : Cell) (item : Item) → is_some (operand_in (Some cell)) ≡ true → ((x : Item) → cell ≡ Operand x → item ≡ x)
    → CellContents.Operand item ≡ content_of cell
operand_content (Base proc locals) item e is = cc
operand_content (Call proc locals level registers address) item e is = cc
operand_content (Local value) item e is = cc
operand_content (Mark label changed registers) item e is = cc
operand_content (Limit count registers) item e is = cc
operand_content (Suspension why registers address) item e is = cc
operand_content (Operand x) item e is = ap CellContents.Operand (is x refl)

pub local_content : (cell : Cell) (val : Val) → is_some (local_in (Some cell)) ≡ true → ((v : Val) → cell ≡ Local v → val ≡ v)
    → CellContents.Local val ≡ content_of cell
local_content (Base proc locals) val e is = cc
local_content (Call proc locals level registers address) val e is = cc
local_content (Local v) val e is = ap CellContents.Local (is v refl)
local_content (Mark label changed registers) val e is = cc
local_content (Limit count registers) val e is = cc
local_content (Suspension why registers address) val e is = cc
local_content (Operand x) val e is = cc

pub suspended_content : (cell : Cell) (why : Why) → why_in (Some cell) ≡ Some why → CellContents.Suspended why ≡ content_of cell
suspended_content (Base proc locals) why e = cc
suspended_content (Call proc locals level registers address) why e = cc
suspended_content (Local value) why e = cc
suspended_content (Mark label changed registers) why e = cc
suspended_content (Limit count registers) why e = cc
suspended_content (Suspension w registers address) why e = ap CellContents.Suspended (sym (same_Some _ _ e))
suspended_content (Operand x) why e = cc

pub no_content : (cell : Cell) → is_some (operand_in (Some cell)) ≡ false → is_some (local_in (Some cell)) ≡ false → why_in (Some cell) ≡ None
    → CellContents.Nothing ≡ content_of cell
no_content (Base proc locals) a b e = refl
no_content (Call proc locals level registers address) a b e = refl
no_content (Local value) a b e = cc
no_content (Mark label changed registers) a b e = refl
no_content (Limit count registers) a b e = refl
no_content (Suspension why registers address) a b e = cc
no_content (Operand x) a b e = cc
