-- What a slot has beside it, by the cell that it stands for.
use Rattle.std.proofs.Common.{◌≡◌, ℕ, Some}
use Rattle.icn_value.specs.declared.item.Pair.{Pair}
use Rattle.icn_frames.specs.declared.layout.Why.TheVariants as Whys
use Rattle.icn_frames.specs.declared.layout.Registers.{Registers}
use Rattle.icn_frames.specs.declared.layout.Cell.TheVariants.{Call, Local, Operand, Suspension}
use Rattle.icn_frames.specs.declared.slots.Control.{Control}
use Rattle.icn_frames.specs.declared.slots.Extra.{Extra}
use Rattle.icn_frames.specs.declared.slots.StackSlot.{StackSlot}
use Rattle.icn_frames.specs.declared.slots.StackSlot.TheVariants.{BaseFrame, CallFrame, PlainMark, LabelMark, SetMark, LimitMark, AltHeld, OpHeld, CountHeld, MoveHeld, ScanHeld, EscanHeld, ProcHeld, LocalOther, ValOther, VarOther, LocalNull, LocalInteger, LocalText, LocalInput, LocalOutput, LocalErrout, LocalOpened, LocalProc, LocalRec, LocalList, LocalSet, LocalTable, LocalCoexp, ValNull, ValInteger, ValText, ValInput, ValOutput, ValErrout, ValOpened, ValProc, ValRec, ValList, ValSet, ValTable, ValCoexp, VarGlobal, VarStatic, VarLocal, VarElement, VarField, VarKey, VarSubject, VarPosition, VarRandom}
use Rattle.icn_frames.specs.Slots.{cell_of, plain_operand, plain_local}
use Rattle.icn_value.specs.declared.val.Val.{Val}
use Rattle.icn_value.specs.declared.item.Item.{Item}
use Rattle.icn_frames.specs.StackInvariant.{shape, outer_of}

-- the registers that the cell has saved
pub saved_is : (control : Control) (extra : Extra) (slot : StackSlot) (saved : Registers) → outer_of (shape (cell_of control extra slot)) ≡ Some saved
    → control.saved ≡ saved
saved_is control extra (BaseFrame proc locals) saved e = cc
saved_is control extra (CallFrame proc locals) saved e = cc
saved_is control extra PlainMark saved e = cc
saved_is control extra (LabelMark label) saved e = cc
saved_is control extra (SetMark label) saved e = cc
saved_is control extra (LimitMark count) saved e = cc
saved_is control extra (AltHeld address) saved e = cc
saved_is control extra (OpHeld address) saved e = cc
saved_is control extra (CountHeld address given) saved e = cc
saved_is control extra (MoveHeld address old) saved e = cc
saved_is control extra (ScanHeld address) saved e = cc
saved_is control extra (EscanHeld address) saved e = cc
saved_is control extra (ProcHeld address) saved e = cc
saved_is control extra LocalOther saved e = cc
saved_is control extra ValOther saved e = cc
saved_is control extra VarOther saved e = cc
saved_is control extra LocalNull saved e = cc
saved_is control extra (LocalInteger number) saved e = cc
saved_is control extra (LocalText len start) saved e = cc
saved_is control extra LocalInput saved e = cc
saved_is control extra LocalOutput saved e = cc
saved_is control extra LocalErrout saved e = cc
saved_is control extra (LocalOpened number) saved e = cc
saved_is control extra (LocalProc number) saved e = cc
saved_is control extra (LocalRec number) saved e = cc
saved_is control extra (LocalList number) saved e = cc
saved_is control extra (LocalSet number) saved e = cc
saved_is control extra (LocalTable number) saved e = cc
saved_is control extra (LocalCoexp number) saved e = cc
saved_is control extra ValNull saved e = cc
saved_is control extra (ValInteger number) saved e = cc
saved_is control extra (ValText len start) saved e = cc
saved_is control extra ValInput saved e = cc
saved_is control extra ValOutput saved e = cc
saved_is control extra ValErrout saved e = cc
saved_is control extra (ValOpened number) saved e = cc
saved_is control extra (ValProc number) saved e = cc
saved_is control extra (ValRec number) saved e = cc
saved_is control extra (ValList number) saved e = cc
saved_is control extra (ValSet number) saved e = cc
saved_is control extra (ValTable number) saved e = cc
saved_is control extra (ValCoexp number) saved e = cc
saved_is control extra (VarGlobal number) saved e = cc
saved_is control extra (VarStatic number) saved e = cc
saved_is control extra (VarLocal number) saved e = cc
saved_is control extra (VarElement list number) saved e = cc
saved_is control extra (VarField rec place) saved e = cc
saved_is control extra (VarKey table key) saved e = cc
saved_is control extra VarSubject saved e = cc
saved_is control extra VarPosition saved e = cc
saved_is control extra VarRandom saved e = cc

-- where the caller goes on
pub return_is : (control : Control) (extra : Extra) (slot : StackSlot) (proc locals level : ℕ) (saved : Registers) (address : ℕ)
    → cell_of control extra slot ≡ Call proc locals level saved address → control.address ≡ address
return_is control extra (BaseFrame proc locals) p l v saved a e = cc
return_is control extra (CallFrame proc locals) p l v saved a e = cc
return_is control extra PlainMark p l v saved a e = cc
return_is control extra (LabelMark label) p l v saved a e = cc
return_is control extra (SetMark label) p l v saved a e = cc
return_is control extra (LimitMark count) p l v saved a e = cc
return_is control extra (AltHeld address) p l v saved a e = cc
return_is control extra (OpHeld address) p l v saved a e = cc
return_is control extra (CountHeld address given) p l v saved a e = cc
return_is control extra (MoveHeld address old) p l v saved a e = cc
return_is control extra (ScanHeld address) p l v saved a e = cc
return_is control extra (EscanHeld address) p l v saved a e = cc
return_is control extra (ProcHeld address) p l v saved a e = cc
return_is control extra LocalOther p l v saved a e = cc
return_is control extra ValOther p l v saved a e = cc
return_is control extra VarOther p l v saved a e = cc
return_is control extra LocalNull p l v saved a e = cc
return_is control extra (LocalInteger number) p l v saved a e = cc
return_is control extra (LocalText len start) p l v saved a e = cc
return_is control extra LocalInput p l v saved a e = cc
return_is control extra LocalOutput p l v saved a e = cc
return_is control extra LocalErrout p l v saved a e = cc
return_is control extra (LocalOpened number) p l v saved a e = cc
return_is control extra (LocalProc number) p l v saved a e = cc
return_is control extra (LocalRec number) p l v saved a e = cc
return_is control extra (LocalList number) p l v saved a e = cc
return_is control extra (LocalSet number) p l v saved a e = cc
return_is control extra (LocalTable number) p l v saved a e = cc
return_is control extra (LocalCoexp number) p l v saved a e = cc
return_is control extra ValNull p l v saved a e = cc
return_is control extra (ValInteger number) p l v saved a e = cc
return_is control extra (ValText len start) p l v saved a e = cc
return_is control extra ValInput p l v saved a e = cc
return_is control extra ValOutput p l v saved a e = cc
return_is control extra ValErrout p l v saved a e = cc
return_is control extra (ValOpened number) p l v saved a e = cc
return_is control extra (ValProc number) p l v saved a e = cc
return_is control extra (ValRec number) p l v saved a e = cc
return_is control extra (ValList number) p l v saved a e = cc
return_is control extra (ValSet number) p l v saved a e = cc
return_is control extra (ValTable number) p l v saved a e = cc
return_is control extra (ValCoexp number) p l v saved a e = cc
return_is control extra (VarGlobal number) p l v saved a e = cc
return_is control extra (VarStatic number) p l v saved a e = cc
return_is control extra (VarLocal number) p l v saved a e = cc
return_is control extra (VarElement list number) p l v saved a e = cc
return_is control extra (VarField rec place) p l v saved a e = cc
return_is control extra (VarKey table key) p l v saved a e = cc
return_is control extra VarSubject p l v saved a e = cc
return_is control extra VarPosition p l v saved a e = cc
return_is control extra VarRandom p l v saved a e = cc

-- the pair of a scan
pub pair_is : (control : Control) (extra : Extra) (slot : StackSlot) (pair : Pair) (saved : Registers) (address : ℕ)
    → cell_of control extra slot ≡ Suspension (Whys.Scan pair) saved address → extra.pair ≡ pair
pair_is control extra (BaseFrame proc locals) pair saved a e = cc
pair_is control extra (CallFrame proc locals) pair saved a e = cc
pair_is control extra PlainMark pair saved a e = cc
pair_is control extra (LabelMark label) pair saved a e = cc
pair_is control extra (SetMark label) pair saved a e = cc
pair_is control extra (LimitMark count) pair saved a e = cc
pair_is control extra (AltHeld address) pair saved a e = cc
pair_is control extra (OpHeld address) pair saved a e = cc
pair_is control extra (CountHeld address given) pair saved a e = cc
pair_is control extra (MoveHeld address old) pair saved a e = cc
pair_is control extra (ScanHeld address) pair saved a e = cc
pair_is control extra (EscanHeld address) pair saved a e = cc
pair_is control extra (ProcHeld address) pair saved a e = cc
pair_is control extra LocalOther pair saved a e = cc
pair_is control extra ValOther pair saved a e = cc
pair_is control extra VarOther pair saved a e = cc
pair_is control extra LocalNull pair saved a e = cc
pair_is control extra (LocalInteger number) pair saved a e = cc
pair_is control extra (LocalText len start) pair saved a e = cc
pair_is control extra LocalInput pair saved a e = cc
pair_is control extra LocalOutput pair saved a e = cc
pair_is control extra LocalErrout pair saved a e = cc
pair_is control extra (LocalOpened number) pair saved a e = cc
pair_is control extra (LocalProc number) pair saved a e = cc
pair_is control extra (LocalRec number) pair saved a e = cc
pair_is control extra (LocalList number) pair saved a e = cc
pair_is control extra (LocalSet number) pair saved a e = cc
pair_is control extra (LocalTable number) pair saved a e = cc
pair_is control extra (LocalCoexp number) pair saved a e = cc
pair_is control extra ValNull pair saved a e = cc
pair_is control extra (ValInteger number) pair saved a e = cc
pair_is control extra (ValText len start) pair saved a e = cc
pair_is control extra ValInput pair saved a e = cc
pair_is control extra ValOutput pair saved a e = cc
pair_is control extra ValErrout pair saved a e = cc
pair_is control extra (ValOpened number) pair saved a e = cc
pair_is control extra (ValProc number) pair saved a e = cc
pair_is control extra (ValRec number) pair saved a e = cc
pair_is control extra (ValList number) pair saved a e = cc
pair_is control extra (ValSet number) pair saved a e = cc
pair_is control extra (ValTable number) pair saved a e = cc
pair_is control extra (ValCoexp number) pair saved a e = cc
pair_is control extra (VarGlobal number) pair saved a e = cc
pair_is control extra (VarStatic number) pair saved a e = cc
pair_is control extra (VarLocal number) pair saved a e = cc
pair_is control extra (VarElement list number) pair saved a e = cc
pair_is control extra (VarField rec place) pair saved a e = cc
pair_is control extra (VarKey table key) pair saved a e = cc
pair_is control extra VarSubject pair saved a e = cc
pair_is control extra VarPosition pair saved a e = cc
pair_is control extra VarRandom pair saved a e = cc

-- another pair of a scan
pub pair_set : (control : Control) (extra other : Extra) (slot : StackSlot) (pair : Pair) (saved : Registers) (address : ℕ)
    → cell_of control extra slot ≡ Suspension (Whys.Scan pair) saved address
    → cell_of control other slot ≡ Suspension (Whys.Scan other.pair) saved address
pair_set control extra other (BaseFrame proc locals) pair saved a e = cc
pair_set control extra other (CallFrame proc locals) pair saved a e = cc
pair_set control extra other PlainMark pair saved a e = cc
pair_set control extra other (LabelMark label) pair saved a e = cc
pair_set control extra other (SetMark label) pair saved a e = cc
pair_set control extra other (LimitMark count) pair saved a e = cc
pair_set control extra other (AltHeld address) pair saved a e = cc
pair_set control extra other (OpHeld address) pair saved a e = cc
pair_set control extra other (CountHeld address given) pair saved a e = cc
pair_set control extra other (MoveHeld address old) pair saved a e = cc
pair_set control extra other (ScanHeld address) pair saved a e = cc
pair_set control extra other (EscanHeld address) pair saved a e = cc
pair_set control extra other (ProcHeld address) pair saved a e = cc
pair_set control extra other LocalOther pair saved a e = cc
pair_set control extra other ValOther pair saved a e = cc
pair_set control extra other VarOther pair saved a e = cc
pair_set control extra other LocalNull pair saved a e = cc
pair_set control extra other (LocalInteger number) pair saved a e = cc
pair_set control extra other (LocalText len start) pair saved a e = cc
pair_set control extra other LocalInput pair saved a e = cc
pair_set control extra other LocalOutput pair saved a e = cc
pair_set control extra other LocalErrout pair saved a e = cc
pair_set control extra other (LocalOpened number) pair saved a e = cc
pair_set control extra other (LocalProc number) pair saved a e = cc
pair_set control extra other (LocalRec number) pair saved a e = cc
pair_set control extra other (LocalList number) pair saved a e = cc
pair_set control extra other (LocalSet number) pair saved a e = cc
pair_set control extra other (LocalTable number) pair saved a e = cc
pair_set control extra other (LocalCoexp number) pair saved a e = cc
pair_set control extra other ValNull pair saved a e = cc
pair_set control extra other (ValInteger number) pair saved a e = cc
pair_set control extra other (ValText len start) pair saved a e = cc
pair_set control extra other ValInput pair saved a e = cc
pair_set control extra other ValOutput pair saved a e = cc
pair_set control extra other ValErrout pair saved a e = cc
pair_set control extra other (ValOpened number) pair saved a e = cc
pair_set control extra other (ValProc number) pair saved a e = cc
pair_set control extra other (ValRec number) pair saved a e = cc
pair_set control extra other (ValList number) pair saved a e = cc
pair_set control extra other (ValSet number) pair saved a e = cc
pair_set control extra other (ValTable number) pair saved a e = cc
pair_set control extra other (ValCoexp number) pair saved a e = cc
pair_set control extra other (VarGlobal number) pair saved a e = cc
pair_set control extra other (VarStatic number) pair saved a e = cc
pair_set control extra other (VarLocal number) pair saved a e = cc
pair_set control extra other (VarElement list number) pair saved a e = cc
pair_set control extra other (VarField rec place) pair saved a e = cc
pair_set control extra other (VarKey table key) pair saved a e = cc
pair_set control extra other VarSubject pair saved a e = cc
pair_set control extra other VarPosition pair saved a e = cc
pair_set control extra other VarRandom pair saved a e = cc

-- a slot beside which nothing is kept stands for the same whatever is kept
pub plain_operand_is : (control : Control) (extra : Extra) (slot : StackSlot) (x : Item) → plain_operand slot ≡ Some x
    → cell_of control extra slot ≡ Operand x
plain_operand_is control extra (BaseFrame proc locals) x e = cc
plain_operand_is control extra (CallFrame proc locals) x e = cc
plain_operand_is control extra PlainMark x e = cc
plain_operand_is control extra (LabelMark label) x e = cc
plain_operand_is control extra (SetMark label) x e = cc
plain_operand_is control extra (LimitMark count) x e = cc
plain_operand_is control extra (AltHeld address) x e = cc
plain_operand_is control extra (OpHeld address) x e = cc
plain_operand_is control extra (CountHeld address given) x e = cc
plain_operand_is control extra (MoveHeld address old) x e = cc
plain_operand_is control extra (ScanHeld address) x e = cc
plain_operand_is control extra (EscanHeld address) x e = cc
plain_operand_is control extra (ProcHeld address) x e = cc
plain_operand_is control extra LocalOther x e = cc
plain_operand_is control extra ValOther x e = cc
plain_operand_is control extra VarOther x e = cc
plain_operand_is control extra LocalNull x e = cc
plain_operand_is control extra (LocalInteger number) x e = cc
plain_operand_is control extra (LocalText len start) x e = cc
plain_operand_is control extra LocalInput x e = cc
plain_operand_is control extra LocalOutput x e = cc
plain_operand_is control extra LocalErrout x e = cc
plain_operand_is control extra (LocalOpened number) x e = cc
plain_operand_is control extra (LocalProc number) x e = cc
plain_operand_is control extra (LocalRec number) x e = cc
plain_operand_is control extra (LocalList number) x e = cc
plain_operand_is control extra (LocalSet number) x e = cc
plain_operand_is control extra (LocalTable number) x e = cc
plain_operand_is control extra (LocalCoexp number) x e = cc
plain_operand_is control extra ValNull x e = cc
plain_operand_is control extra (ValInteger number) x e = cc
plain_operand_is control extra (ValText len start) x e = cc
plain_operand_is control extra ValInput x e = cc
plain_operand_is control extra ValOutput x e = cc
plain_operand_is control extra ValErrout x e = cc
plain_operand_is control extra (ValOpened number) x e = cc
plain_operand_is control extra (ValProc number) x e = cc
plain_operand_is control extra (ValRec number) x e = cc
plain_operand_is control extra (ValList number) x e = cc
plain_operand_is control extra (ValSet number) x e = cc
plain_operand_is control extra (ValTable number) x e = cc
plain_operand_is control extra (ValCoexp number) x e = cc
plain_operand_is control extra (VarGlobal number) x e = cc
plain_operand_is control extra (VarStatic number) x e = cc
plain_operand_is control extra (VarLocal number) x e = cc
plain_operand_is control extra (VarElement list number) x e = cc
plain_operand_is control extra (VarField rec place) x e = cc
plain_operand_is control extra (VarKey table key) x e = cc
plain_operand_is control extra VarSubject x e = cc
plain_operand_is control extra VarPosition x e = cc
plain_operand_is control extra VarRandom x e = cc

pub plain_local_is : (control : Control) (extra : Extra) (slot : StackSlot) (v : Val) → plain_local slot ≡ Some v
    → cell_of control extra slot ≡ Local v
plain_local_is control extra (BaseFrame proc locals) v e = cc
plain_local_is control extra (CallFrame proc locals) v e = cc
plain_local_is control extra PlainMark v e = cc
plain_local_is control extra (LabelMark label) v e = cc
plain_local_is control extra (SetMark label) v e = cc
plain_local_is control extra (LimitMark count) v e = cc
plain_local_is control extra (AltHeld address) v e = cc
plain_local_is control extra (OpHeld address) v e = cc
plain_local_is control extra (CountHeld address given) v e = cc
plain_local_is control extra (MoveHeld address old) v e = cc
plain_local_is control extra (ScanHeld address) v e = cc
plain_local_is control extra (EscanHeld address) v e = cc
plain_local_is control extra (ProcHeld address) v e = cc
plain_local_is control extra LocalOther v e = cc
plain_local_is control extra ValOther v e = cc
plain_local_is control extra VarOther v e = cc
plain_local_is control extra LocalNull v e = cc
plain_local_is control extra (LocalInteger number) v e = cc
plain_local_is control extra (LocalText len start) v e = cc
plain_local_is control extra LocalInput v e = cc
plain_local_is control extra LocalOutput v e = cc
plain_local_is control extra LocalErrout v e = cc
plain_local_is control extra (LocalOpened number) v e = cc
plain_local_is control extra (LocalProc number) v e = cc
plain_local_is control extra (LocalRec number) v e = cc
plain_local_is control extra (LocalList number) v e = cc
plain_local_is control extra (LocalSet number) v e = cc
plain_local_is control extra (LocalTable number) v e = cc
plain_local_is control extra (LocalCoexp number) v e = cc
plain_local_is control extra ValNull v e = cc
plain_local_is control extra (ValInteger number) v e = cc
plain_local_is control extra (ValText len start) v e = cc
plain_local_is control extra ValInput v e = cc
plain_local_is control extra ValOutput v e = cc
plain_local_is control extra ValErrout v e = cc
plain_local_is control extra (ValOpened number) v e = cc
plain_local_is control extra (ValProc number) v e = cc
plain_local_is control extra (ValRec number) v e = cc
plain_local_is control extra (ValList number) v e = cc
plain_local_is control extra (ValSet number) v e = cc
plain_local_is control extra (ValTable number) v e = cc
plain_local_is control extra (ValCoexp number) v e = cc
plain_local_is control extra (VarGlobal number) v e = cc
plain_local_is control extra (VarStatic number) v e = cc
plain_local_is control extra (VarLocal number) v e = cc
plain_local_is control extra (VarElement list number) v e = cc
plain_local_is control extra (VarField rec place) v e = cc
plain_local_is control extra (VarKey table key) v e = cc
plain_local_is control extra VarSubject v e = cc
plain_local_is control extra VarPosition v e = cc
plain_local_is control extra VarRandom v e = cc
