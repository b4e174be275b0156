-- What the slots of a stack stand for, with what is kept beside them.
use Rattle.std.specs.Prelude.{◌≡◌, ℕ, ◌+◌, ◌≤◌, ◌%◌, Bool, true, false, List, [], ◌∷◌, length, Option, Some, None, slice_index_or, ℤ, pos}
use Rattle.std.specs.Option.{option_and_then}
use Rattle.icn_value.specs.declared.val.Val.{Val}
use Rattle.icn_value.specs.declared.val.Val.TheVariants as Vals
use Rattle.icn_value.specs.declared.val.File.TheVariants as Files
use Rattle.icn_value.specs.declared.item.Item.{Item}
use Rattle.icn_value.specs.declared.item.Item.TheVariants as Items
use Rattle.icn_value.specs.declared.item.VarRef.TheVariants as VarRefs
use Rattle.icn_value.specs.declared.item.Root.{Root}
use Rattle.icn_value.specs.declared.item.Root.TheVariants as Roots
use Rattle.icn_value.specs.declared.item.KeywordVariable.TheVariants as Keywords
use Rattle.icn_value.specs.declared.residual.Residual.TheVariants as Residuals
use Rattle.icn_frames.specs.declared.layout.Why.{Why}
use Rattle.icn_frames.specs.declared.layout.Why.TheVariants as Whys
use Rattle.icn_frames.specs.declared.layout.NewestKind.{NewestKind}
use Rattle.icn_frames.specs.declared.layout.NewestKind.TheVariants as NewestKinds
use Rattle.icn_frames.specs.declared.layout.Cell.{Cell}
use Rattle.icn_frames.specs.declared.layout.CellContent.{CellContent}
use Rattle.icn_frames.specs.declared.layout.CellContent.TheVariants as CellContents
use Rattle.icn_frames.specs.declared.layout.Cell.TheVariants.{Base, Call, Local, Mark, Limit, Suspension, Operand}
use Rattle.icn_frames.specs.declared.slots.Control.{Control}
use Rattle.icn_frames.specs.declared.slots.Extra.{Extra}
use Rattle.icn_frames.specs.declared.slots.StackSlot.{StackSlot}
use Rattle.icn_frames.specs.declared.slots.StackSlot.TheVariants.{BaseFrame, CallFrame, PlainMark, LabelMark, SetMark, LimitMark, AltHeld, OpHeld, CountHeld, MoveHeld, ScanHeld, EscanHeld, ProcHeld, LocalOther, ValOther, VarOther, LocalNull, LocalInteger, LocalText, LocalInput, LocalOutput, LocalErrout, LocalOpened, LocalProc, LocalRec, LocalList, LocalSet, LocalTable, LocalCoexp, ValNull, ValInteger, ValText, ValInput, ValOutput, ValErrout, ValOpened, ValProc, ValRec, ValList, ValSet, ValTable, ValCoexp, VarGlobal, VarStatic, VarLocal, VarElement, VarField, VarKey, VarSubject, VarPosition, VarRandom}

-- what callers of the cells see: the cells, the newest first, and for how many more there is room
pub record SeenCells : Type 0 where
  pub cells : List Cell
  pub spare : ℕ

-- what a frame, a mark or a suspension has beside it where nothing was kept
abbrev pub no_control : Control
no_control =
    record {
      saved = record { base = 0; mark = 0; newest = None; scan = None };
      level = 0;
      address = 0;
      range = record { last = pos 0; step = pos 0 };
    }

-- what another slot has beside it where nothing was kept
abbrev pub no_extra : Extra
no_extra = record {
  value = Vals.Null;
  variable = VarRefs.Whole (Roots.Global 0);
  residual = Residuals.FileLines Files.Input;
  pair = record { subject = record { start = 0; len = 0 }; position = 0 };
}

-- what is kept at a place for a frame, a mark or a suspension
abbrev pub control_at : List Control → ℕ → Control
control_at controls place = slice_index_or controls place no_control

-- what is kept at a place for another slot
abbrev pub extra_at : List Extra → ℕ → Extra
extra_at extras place = slice_index_or extras place no_extra

-- the operand that is a whole variable
abbrev pub whole_variable : Root → Cell
whole_variable root = Operand (Items.Var (VarRefs.Whole root))

-- why a count is suspended, by the integer that it gave last, its end and its step
abbrev pub why_counting : ℤ → ℤ → ℤ → Why
why_counting given last step = Whys.Op (Residuals.Counting given last step)

-- why a move in the subject is suspended, by the place at which it began
abbrev pub why_moved : ℕ → Why
why_moved old = Whys.Op (Residuals.UndoPosition old)

-- the cell that a slot stands for, with what is kept beside it
abbrev pub cell_of : Control → Extra → StackSlot → Cell
cell_of control extra (BaseFrame proc locals) = Base proc locals
cell_of control extra (CallFrame proc locals) = Call proc locals control.level control.saved control.address
cell_of control extra PlainMark = Mark None false control.saved
cell_of control extra (LabelMark label) = Mark (Some label) false control.saved
cell_of control extra (SetMark label) = Mark (Some label) true control.saved
cell_of control extra (LimitMark count) = Limit count control.saved
cell_of control extra (AltHeld address) = Suspension Whys.Alt control.saved address
cell_of control extra (OpHeld address) = Suspension (Whys.Op extra.residual) control.saved address
cell_of control extra (CountHeld address given) =
    Suspension (why_counting given control.range.last control.range.step) control.saved address
cell_of control extra (MoveHeld address old) = Suspension (why_moved old) control.saved address
cell_of control extra (ScanHeld address) = Suspension (Whys.Scan extra.pair) control.saved address
cell_of control extra (EscanHeld address) = Suspension Whys.Escan control.saved address
cell_of control extra (ProcHeld address) = Suspension Whys.Proc control.saved address
cell_of control extra LocalOther = Local extra.value
cell_of control extra ValOther = Operand (Items.Val extra.value)
cell_of control extra VarOther = Operand (Items.Var extra.variable)
cell_of control extra LocalNull = Local Vals.Null
cell_of control extra (LocalInteger number) = Local (Vals.Integer number)
cell_of control extra (LocalText len start) = Local (Vals.Text (record { start = start; len = len }))
cell_of control extra LocalInput = Local (Vals.Std Files.Input)
cell_of control extra LocalOutput = Local (Vals.Std Files.Output)
cell_of control extra LocalErrout = Local (Vals.Std Files.Errout)
cell_of control extra (LocalOpened number) = Local (Vals.Std (Files.Opened number))
cell_of control extra (LocalProc number) = Local (Vals.Proc number)
cell_of control extra (LocalRec number) = Local (Vals.Rec number)
cell_of control extra (LocalList number) = Local (Vals.List number)
cell_of control extra (LocalSet number) = Local (Vals.Set number)
cell_of control extra (LocalTable number) = Local (Vals.Table number)
cell_of control extra (LocalCoexp number) = Local (Vals.Coexp number)
cell_of control extra ValNull = Operand (Items.Val Vals.Null)
cell_of control extra (ValInteger number) = Operand (Items.Val (Vals.Integer number))
cell_of control extra (ValText len start) =
    Operand (Items.Val (Vals.Text (record { start = start; len = len })))
cell_of control extra ValInput = Operand (Items.Val (Vals.Std Files.Input))
cell_of control extra ValOutput = Operand (Items.Val (Vals.Std Files.Output))
cell_of control extra ValErrout = Operand (Items.Val (Vals.Std Files.Errout))
cell_of control extra (ValOpened number) = Operand (Items.Val (Vals.Std (Files.Opened number)))
cell_of control extra (ValProc number) = Operand (Items.Val (Vals.Proc number))
cell_of control extra (ValRec number) = Operand (Items.Val (Vals.Rec number))
cell_of control extra (ValList number) = Operand (Items.Val (Vals.List number))
cell_of control extra (ValSet number) = Operand (Items.Val (Vals.Set number))
cell_of control extra (ValTable number) = Operand (Items.Val (Vals.Table number))
cell_of control extra (ValCoexp number) = Operand (Items.Val (Vals.Coexp number))
cell_of control extra (VarGlobal number) = whole_variable (Roots.Global number)
cell_of control extra (VarStatic number) = whole_variable (Roots.Static number)
cell_of control extra (VarLocal number) = whole_variable (Roots.Local number)
cell_of control extra (VarElement list number) = whole_variable (Roots.Element list number)
cell_of control extra (VarField rec place) = whole_variable (Roots.Field rec (place % 65536))
cell_of control extra (VarKey table key) = whole_variable (Roots.Key table (Vals.Integer key))
cell_of control extra VarSubject = whole_variable (Roots.Keyword Keywords.Subject)
cell_of control extra VarPosition = whole_variable (Roots.Keyword Keywords.Position)
cell_of control extra VarRandom = whole_variable (Roots.Keyword Keywords.Random)

-- each entry by how many stand below it
abbrev pub number_entries : {A B : Type 0} → (ℕ → A → B) → List A → List B
number_entries f [] = []
number_entries f (x ∷ xs) = f (length xs) x ∷ number_entries f xs

-- the cell of a slot by how many stand below it
abbrev pub placed_cell : List Control → List Extra → ℕ → StackSlot → Cell
placed_cell controls extras place slot = cell_of (control_at controls place) (extra_at extras place) slot

-- the cells of all slots, the newest first
abbrev pub cells_of : List Control → List Extra → List StackSlot → List Cell
cells_of controls extras slots = number_entries (placed_cell controls extras) slots

-- there is room beside each slot, and beside each that may still come
pub record Roomy (here spare made beside : ℕ) : Type 0 where
  pub within : here ≤ made
  pub room : made ≤ here + spare
  pub extras : made ≤ beside

-- each place but one has the extra that it had
abbrev pub ExtrasElsewhere : ℕ → List Extra → List Extra → Type 0
ExtrasElsewhere at old new = (place : ℕ) → (place ≡ at → ⊥) → extra_at new place ≡ extra_at old place

-- each place but one has the control that it had
abbrev pub ControlsElsewhere : ℕ → List Control → List Control → Type 0
ControlsElsewhere at old new = (place : ℕ) → (place ≡ at → ⊥) → control_at new place ≡ control_at old place

-- a slot beside which nothing is kept
abbrev pub IsFree : StackSlot → Type 0
IsFree slot = (a b : Control) (x y : Extra) → cell_of a x slot ≡ cell_of b y slot

-- the operand of a cell
abbrev pub operand_in : Option Cell → Option Item
operand_in (Some (Operand item)) = Some item
operand_in cell = None

-- the value of a cell that is a local
abbrev pub local_in : Option Cell → Option Val
local_in (Some (Local value)) = Some value
local_in cell = None

-- what a cell that is a suspension is there for
abbrev pub why_in : Option Cell → Option Why
why_in (Some (Suspension why registers address)) = Some why
why_in cell = None

-- what a cell holds in which a value may stand
abbrev pub content_of : Cell → CellContent
content_of (Base proc locals) = CellContents.Nothing
content_of (Call proc locals level registers address) = CellContents.Nothing
content_of (Local value) = CellContents.Local value
content_of (Mark label changed registers) = CellContents.Nothing
content_of (Limit count registers) = CellContents.Nothing
content_of (Suspension why registers address) = CellContents.Suspended why
content_of (Operand item) = CellContents.Operand item

-- whether a cell is a plain mark
abbrev pub is_plain_cell : Option Cell → Bool
is_plain_cell (Some (Mark label changed registers)) = true
is_plain_cell cell = false

-- the count of a limit mark, and 0 of any other cell
abbrev pub count_in : Option Cell → ℕ
count_in (Some (Limit count registers)) = count
count_in cell = 0

-- the operand that is on top
abbrev pub top_operand : List Cell → Option Item
top_operand (Operand item ∷ cells) = Some item
top_operand cells = None

-- the operand of a slot beside which nothing is kept
abbrev pub plain_operand : StackSlot → Option Item
plain_operand ValNull = Some (Items.Val Vals.Null)
plain_operand (ValInteger number) = Some (Items.Val (Vals.Integer number))
plain_operand (ValText len start) = Some (Items.Val (Vals.Text (record { start = start; len = len })))
plain_operand ValInput = Some (Items.Val (Vals.Std Files.Input))
plain_operand ValOutput = Some (Items.Val (Vals.Std Files.Output))
plain_operand ValErrout = Some (Items.Val (Vals.Std Files.Errout))
plain_operand (ValOpened number) = Some (Items.Val (Vals.Std (Files.Opened number)))
plain_operand (ValProc number) = Some (Items.Val (Vals.Proc number))
plain_operand (ValRec number) = Some (Items.Val (Vals.Rec number))
plain_operand (ValList number) = Some (Items.Val (Vals.List number))
plain_operand (ValSet number) = Some (Items.Val (Vals.Set number))
plain_operand (ValTable number) = Some (Items.Val (Vals.Table number))
plain_operand (ValCoexp number) = Some (Items.Val (Vals.Coexp number))
plain_operand (VarGlobal number) = Some (Items.Var (VarRefs.Whole (Roots.Global number)))
plain_operand (VarStatic number) = Some (Items.Var (VarRefs.Whole (Roots.Static number)))
plain_operand (VarLocal number) = Some (Items.Var (VarRefs.Whole (Roots.Local number)))
plain_operand (VarElement list number) = Some (Items.Var (VarRefs.Whole (Roots.Element list number)))
plain_operand (VarField rec place) = Some (Items.Var (VarRefs.Whole (Roots.Field rec (place % 65536))))
plain_operand (VarKey table key) = Some (Items.Var (VarRefs.Whole (Roots.Key table (Vals.Integer key))))
plain_operand VarSubject = Some (Items.Var (VarRefs.Whole (Roots.Keyword Keywords.Subject)))
plain_operand VarPosition = Some (Items.Var (VarRefs.Whole (Roots.Keyword Keywords.Position)))
plain_operand VarRandom = Some (Items.Var (VarRefs.Whole (Roots.Keyword Keywords.Random)))
plain_operand slot = None

-- the value of the local of a slot beside which nothing is kept
abbrev pub plain_local : StackSlot → Option Val
plain_local LocalNull = Some Vals.Null
plain_local (LocalInteger number) = Some (Vals.Integer number)
plain_local (LocalText len start) = Some (Vals.Text (record { start = start; len = len }))
plain_local LocalInput = Some (Vals.Std Files.Input)
plain_local LocalOutput = Some (Vals.Std Files.Output)
plain_local LocalErrout = Some (Vals.Std Files.Errout)
plain_local (LocalOpened number) = Some (Vals.Std (Files.Opened number))
plain_local (LocalProc number) = Some (Vals.Proc number)
plain_local (LocalRec number) = Some (Vals.Rec number)
plain_local (LocalList number) = Some (Vals.List number)
plain_local (LocalSet number) = Some (Vals.Set number)
plain_local (LocalTable number) = Some (Vals.Table number)
plain_local (LocalCoexp number) = Some (Vals.Coexp number)
plain_local slot = None

-- an item that is a value
abbrev pub value_only : Item → Option Val
value_only (Items.Val value) = Some value
value_only (Items.Var variable) = None

-- the value that is the operand of a slot beside which nothing is kept
abbrev pub plain_value : StackSlot → Option Val
plain_value slot = option_and_then value_only (plain_operand slot)

-- what a kind of the newest suspension says of why there is one
abbrev pub TellsWhy : NewestKind → Why → Type 0
TellsWhy NewestKinds.Nothing why = ⊥
TellsWhy NewestKinds.Alt why = why ≡ Whys.Alt
TellsWhy NewestKinds.Count why = (given last step : ℤ) × (why ≡ why_counting given last step)
TellsWhy NewestKinds.Escan why = why ≡ Whys.Escan
TellsWhy NewestKinds.Proc why = why ≡ Whys.Proc
TellsWhy NewestKinds.Other why = Unit {0}
