-- What a row comes to, as a call over a world answers it.
use Rattle.std.specs.Prelude.{◌≡◌, ◌≤◌, ◌+◌, ℕ, length, true, Result, Ok, Err, MatchResult, IfSome, ⊤}
use Rattle.std.specs.Option.{option_map}
use Rattle.icn_value.specs.declared.val.Span.{Span}
use Rattle.icn_value.specs.declared.val.Val.{Val}
use Rattle.icn_value.specs.declared.val.Val.TheVariants.{List as ListVal, Set as SetVal, Table as TableVal, Rec as RecVal, Std as StdVal}
use Rattle.icn_value.specs.declared.item.Item.TheVariants.{Val as ValItem}
use Rattle.icn_value.specs.declared.item.VarRef.{VarRef}
use Rattle.icn_value.specs.declared.residual.Mover.{Mover as HeldMover}
use Rattle.icn_value.specs.declared.residual.Mover.TheVariants.{Neither as HeldNeither, Left as HeldLeft, Right as HeldRight}
use Rattle.icn_value.specs.declared.residual.Residual.{Residual as HeldResidual}
use Rattle.icn_value.specs.declared.residual.Residual.TheVariants.{TextBytes as HeldTextBytes, VariableBytes as HeldVariableBytes, ListItems as HeldListItems, SetMembers as HeldSetMembers, TableValues as HeldTableValues, TableKeys as HeldTableKeys, RecordFields as HeldRecordFields, FileLines as HeldFileLines, UndoAssign as HeldUndoAssign, UndoExchange as HeldUndoExchange, UndoPosition as HeldUndoPosition, Counting as HeldCounting, Sequence as HeldSequence, Balanced as HeldBalanced, Found as HeldFound, Among as HeldAmong}
use Rattle.icn_value.specs.Members.{members_of}
use Rattle.icn_value.specs.Store.{Setting}
use Rattle.icn_defs.specs.RowFacts.{can_hold}
use Rattle.icn_defs.specs.Rows.{Row, Mover, Neither, Left, Right, Residual, TextBytes, VariableBytes, ListItems, SetMembers, TableValues, TableKeys, RecordFields, FileLines, UndoAssign, UndoExchange, UndoPosition, Counting, Sequence, Balanced, Found, Among, Outcome, Fails, Gives, Suspends, Error, Ends}
use Rattle.icn_heap.specs.Extents.{Extent, IsLive, IsText, text_in, value_in}
use Rattle.icn_heap.specs.Keys.{file_of}
use Rattle.icn_vars.specs.declared.outcome.Outcome.{Outcome as HeldOutcome}
use Rattle.icn_vars.specs.declared.outcome.Outcome.TheVariants.{Fails as HeldFails, Gives as HeldGives, Suspends as HeldSuspends}
use Rattle.icn_vars.specs.declared.outcome.ValueOutcome.{ValueOutcome}
use Rattle.icn_vars.specs.declared.outcome.ValueOutcome.TheVariants.{Fails as NoValue, Gives as AValue}
use Rattle.icn_vars.specs.declared.outcome.Halt.{Halt}
use Rattle.icn_vars.specs.declared.outcome.Halt.TheVariants.{Error as ErrorHalt, Ends as EndsHalt, ReadFault, WriteFault, FileFault, NoMemory}
use Rattle.icn_vars.specs.Worlds.{IsLiveItem, IsLiveVariable, Reach, item_in, variable_in}

-- What residuals and outcomes stand for

-- which side of an exchange moves the other one, as definitions see it
abbrev pub mover_of : HeldMover → Mover
mover_of HeldNeither = Neither
mover_of HeldLeft = Left
mover_of HeldRight = Right

-- what is kept of a row that may be resumed, with values that hold their bytes
abbrev pub residual_in : Extent → HeldResidual → Residual
residual_in all (HeldTextBytes text place) = TextBytes (text_in all text) place
residual_in all (HeldVariableBytes variable place) = VariableBytes (variable_in all variable) place
residual_in all (HeldListItems list place) = ListItems list place
residual_in all (HeldSetMembers set place) = SetMembers set place
residual_in all (HeldTableValues table place) = TableValues table place
residual_in all (HeldTableKeys table place) = TableKeys table place
residual_in all (HeldRecordFields rec place) = RecordFields rec place
residual_in all (HeldFileLines file) = FileLines (file_of file)
residual_in all (HeldUndoAssign variable old) = UndoAssign (variable_in all variable) (value_in all old)
residual_in all (HeldUndoExchange mover left right old_left old_right) =
    UndoExchange (mover_of mover) (variable_in all left) (variable_in all right) (value_in all old_left)
    (value_in all old_right)
residual_in all (HeldUndoPosition old) = UndoPosition old
residual_in all (HeldCounting given last step) = Counting given last step
residual_in all (HeldSequence given step) = Sequence given step
residual_in all (HeldBalanced wanted opening closing text place last) =
    Balanced (members_of wanted) (members_of opening) (members_of closing) (text_in all text) place last
residual_in all (HeldFound wanted text place last) = Found (text_in all wanted) (text_in all text) place last
residual_in all (HeldAmong wanted text place last) = Among (members_of wanted) (text_in all text) place last

-- what a call gives, in this setting
abbrev pub outcome_in : Extent → HeldOutcome → Setting → Outcome
outcome_in all HeldFails setting = Fails setting
outcome_in all (HeldGives item) setting = Gives (item_in all item) setting
outcome_in all (HeldSuspends item rest) setting = Suspends (item_in all item) (residual_in all rest) setting

-- what a row comes to that gives a value at most, as an outcome that could suspend
abbrev pub outcome_of : ValueOutcome → HeldOutcome
outcome_of NoValue = HeldFails
outcome_of (AValue val) = HeldGives (ValItem val)

-- what such a row answers, as an answer that could suspend
abbrev pub answer_of : Result ValueOutcome Halt → Result HeldOutcome Halt
answer_of (Ok given) = Ok (outcome_of given)
answer_of (Err halt) = Err halt

-- Which of them are of a world

-- an old value of a variable: both are of the world, and the variable can hold it
pub record IsOld (reach : Reach) (variable : VarRef) (old : Val) : Type 0 where
  pub live_variable : IsLiveVariable reach variable
  pub live_value : IsLive reach.extent old
  pub holds : can_hold (variable_in reach.extent variable) (value_in reach.extent old) ≡ true

-- what is searched is a text of the world, from a place that counts from 1, and the search ends within it
pub record IsSearch (all : Extent) (text : Span) (place last : ℕ) : Type 0 where
  pub of : IsText all text
  pub low : 1 ≤ place
  pub high : last ≤ length (text_in all text) + 1

-- texts, structures and variables of the residual are of the world, and its places are in range
abbrev pub ResidualBy : Reach → HeldResidual → Type 0
ResidualBy reach (HeldTextBytes text place) = IsText reach.extent text
ResidualBy reach (HeldVariableBytes variable place) = IsLiveVariable reach variable
ResidualBy reach (HeldListItems list place) = IsLive reach.extent (ListVal list)
ResidualBy reach (HeldSetMembers set place) = IsLive reach.extent (SetVal set)
ResidualBy reach (HeldTableValues table place) = IsLive reach.extent (TableVal table)
ResidualBy reach (HeldTableKeys table place) = IsLive reach.extent (TableVal table)
ResidualBy reach (HeldRecordFields rec place) = IsLive reach.extent (RecVal rec)
ResidualBy reach (HeldFileLines file) = IsLive reach.extent (StdVal file)
ResidualBy reach (HeldUndoAssign variable old) = IsOld reach variable old
ResidualBy reach (HeldUndoExchange mover left right old_left old_right) =
    IsOld reach left old_left × IsOld reach right old_right
ResidualBy reach (HeldUndoPosition old) = 1 ≤ old
ResidualBy reach (HeldCounting given last step) = ⊤
ResidualBy reach (HeldSequence given step) = ⊤
ResidualBy reach (HeldBalanced wanted opening closing text place last) = IsSearch reach.extent text place last
ResidualBy reach (HeldFound wanted text place last) =
    IsText reach.extent wanted × IsSearch reach.extent text place last
ResidualBy reach (HeldAmong wanted text place last) = IsSearch reach.extent text place last

-- what a residual names is of the world
pub record IsLiveResidual (reach : Reach) (rest : HeldResidual) : Type 0 where
  pub live : ResidualBy reach rest

-- an item and a residual of the outcome are of the world
abbrev pub OutcomeBy : Reach → HeldOutcome → Type 0
OutcomeBy reach HeldFails = ⊤
OutcomeBy reach (HeldGives item) = IsLiveItem reach item
OutcomeBy reach (HeldSuspends item rest) = IsLiveItem reach item × IsLiveResidual reach rest

-- what is given, and what is kept of the row, is of the world
pub record IsLiveOutcome (reach : Reach) (outcome : HeldOutcome) : Type 0 where
  pub live : OutcomeBy reach outcome

-- the value that an error is about is of the world
abbrev pub IsLiveHalt : Reach → Halt → Type 0
IsLiveHalt reach (ErrorHalt number offending) = IfSome offending (IsLive reach.extent)
IsLiveHalt reach (EndsHalt status) = ⊤
IsLiveHalt reach ReadFault = ⊤
IsLiveHalt reach WriteFault = ⊤
IsLiveHalt reach FileFault = ⊤
IsLiveHalt reach NoMemory = ⊤

-- What a call says of a row

-- The row is an error or ends the program; a row that neither reads nor writes comes to no fault. Of want of
-- memory this says nothing.
abbrev pub HaltsRow : Extent → Row → Setting → Setting → Halt → Type 0
HaltsRow all row before after (ErrorHalt number offending) =
    row before ≡ Error number (option_map (value_in all) offending) after
HaltsRow all row before after (EndsHalt status) = row before ≡ Ends status after
HaltsRow all row before after ReadFault = ⊥
HaltsRow all row before after WriteFault = ⊥
HaltsRow all row before after FileFault = ⊥
HaltsRow all row before after NoMemory = ⊤

-- What the row comes to in the setting before is what was answered, in the setting after it.
abbrev pub ComesToAnswer : Extent → Row → Setting → Setting → Result HeldOutcome Halt → Type 0
ComesToAnswer all row before after result =
    MatchResult result (λ outcome. row before ≡ outcome_in all outcome after) (HaltsRow all row before after)

-- what was answered is of the world
abbrev pub IsLiveAnswer : Reach → Result HeldOutcome Halt → Type 0
IsLiveAnswer reach result = MatchResult result (IsLiveOutcome reach) (IsLiveHalt reach)
