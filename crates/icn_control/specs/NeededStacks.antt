-- The values that stacks have, which are to stay as memory is given back.
use Rattle.std.specs.Prelude.{List, [], ◌∷◌, ◌++◌, Option, None, Some}
use Rattle.std.specs.List.{flat_map}
use Rattle.icn_value.specs.declared.val.Val.{Val}
use Rattle.icn_value.specs.declared.val.Val.TheVariants.{Text as TextVal, Rec as RecVal, List as ListVal, Set as SetVal, Table as TableVal}
use Rattle.icn_value.specs.declared.residual.Residual.{Residual}
use Rattle.icn_value.specs.declared.residual.Residual.TheVariants.{TextBytes, VariableBytes, ListItems, SetMembers, TableValues, TableKeys, RecordFields, FileLines, UndoAssign, UndoExchange, UndoPosition, Counting, Sequence, Balanced, Found, Among}
use Rattle.icn_vars.specs.NeededItems.{item_vals, variable_vals}
use Rattle.icn_frames.specs.declared.layout.Why.{Why}
use Rattle.icn_frames.specs.declared.layout.Why.TheVariants.{Alt, Op, Scan, Escan, Proc}
use Rattle.icn_frames.specs.declared.layout.CellContent.{CellContent}
use Rattle.icn_frames.specs.declared.layout.CellContent.TheVariants as CellContents
use Rattle.icn_frames.specs.declared.layout.Cell.{Cell}
use Rattle.icn_frames.specs.Slots.{content_of}
use Rattle.icn_frames.specs.Stacks.{FlatStack}
use Rattle.icn_run.specs.Step.{Status, Fresh, Active, Waiting, Exhausted}
use Rattle.icn_coexp.specs.declared.entries.CoexpEntry.{CoexpEntry}
use Rattle.icn_coexp.specs.KeptEntries.{coexp_seen}
use Rattle.icn_coexp.specs.Transfers.{Coexp, CoexpTable}

-- the texts and structures that a residual names, and the values of its variables
abbrev pub residual_vals : Residual → List Val
residual_vals (TextBytes text place) = TextVal text ∷ []
residual_vals (VariableBytes variable place) = variable_vals variable
residual_vals (ListItems list place) = ListVal list ∷ []
residual_vals (SetMembers set place) = SetVal set ∷ []
residual_vals (TableValues table place) = TableVal table ∷ []
residual_vals (TableKeys table place) = TableVal table ∷ []
residual_vals (RecordFields rec place) = RecVal rec ∷ []
residual_vals (FileLines file) = []
residual_vals (UndoAssign variable old) = variable_vals variable ++ old ∷ []
residual_vals (UndoExchange mover left right old_left old_right) =
    (variable_vals left ++ old_left ∷ []) ++ (variable_vals right ++ old_right ∷ [])
residual_vals (UndoPosition old) = []
residual_vals (Counting given last step) = []
residual_vals (Sequence given step) = []
residual_vals (Balanced wanted opening closing text place last) = TextVal text ∷ []
residual_vals (Found wanted text place last) = TextVal wanted ∷ TextVal text ∷ []
residual_vals (Among wanted text place last) = TextVal text ∷ []

-- the values of what was suspended: of a residual, and the subject of a scan
abbrev pub why_vals : Why → List Val
why_vals Alt = []
why_vals (Op residual) = residual_vals residual
why_vals (Scan pair) = TextVal pair.subject ∷ []
why_vals Escan = []
why_vals Proc = []

-- the values of what a cell holds
abbrev pub content_vals : CellContent → List Val
content_vals CellContents.Nothing = []
content_vals (CellContents.Local val) = val ∷ []
content_vals (CellContents.Operand item) = item_vals item
content_vals (CellContents.Suspended why) = why_vals why

-- the values of a cell
abbrev pub cell_vals : Cell → List Val
cell_vals cell = content_vals (content_of cell)

-- the values of all cells of a stack
abbrev pub stack_vals : FlatStack → List Val
stack_vals m = flat_map cell_vals m.cells

-- the values of the stack of a co-expression that waits
abbrev pub status_vals : Status FlatStack → List Val
status_vals Fresh = []
status_vals Active = []
status_vals (Waiting m) = stack_vals m
status_vals Exhausted = []

-- the values that a co-expression was made with, and those of its stack
abbrev pub coexp_vals : Coexp → List Val
coexp_vals coexp = coexp.values ++ status_vals coexp.status

-- the same of what is kept of one
abbrev pub entry_vals : {K : Type 0} → CoexpEntry K → List Val
entry_vals entry = coexp_vals (coexp_seen entry)

-- the values of the stack that runs, if one does
abbrev pub running_vals : Option FlatStack → List Val
running_vals (Some m) = stack_vals m
running_vals None = []

-- the values of all co-expressions and their stacks
abbrev pub stacks_vals : CoexpTable → List Val
stacks_vals table = running_vals table.running ++ flat_map coexp_vals table.coexps
