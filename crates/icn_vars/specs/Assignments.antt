-- What calls say that assign to variables, exchange them and undo both.
use Rattle.std.specs.Prelude.{◌≡◌, ◌<◌, ◌≤◌, ◌+◌, ◌-◌, ◌^◌, ℕ, Bool, true, false, List, length, None, Some, Result, Ok, Err, ⊤}
use Rattle.icn_value.specs.declared.item.VarRef.{VarRef}
use Rattle.icn_value.specs.declared.item.VarRef.TheVariants.{Whole as HeldWhole, Part as HeldPart}
use Rattle.icn_value.specs.Values.{Value, Text, Root, Global, Static, Local, Element, Field, Key, Keyword, Variable, Whole, Part}
use Rattle.icn_value.specs.Store.{Setting}
use Rattle.icn_defs.specs.Calls.{ComesTo, GoesOn}
use Rattle.icn_defs.specs.RowFacts.{can_hold}
use Rattle.icn_defs.specs.ReadAndAssign.{assigns_both, assigns_or, move_part, moved_by_right, mover_of, part_length, root_value}
use Rattle.icn_defs.specs.Rows.{◌>>=◌, Row, Finds, Mover, Left, Error as ErrorOutcome}
use Rattle.icn_heap.specs.Extents.{Extent}
use Rattle.icn_vars.specs.declared.assignment.Assignment.{Assignment}
use Rattle.icn_vars.specs.declared.assignment.Assignment.TheVariants.{Done, OutOfRange}
use Rattle.icn_vars.specs.declared.assignment.Exchange.{Exchange}
use Rattle.icn_vars.specs.declared.assignment.Exchange.TheVariants.{Done as ExchangeDone, OutOfRange as ExchangeOutOfRange}
use Rattle.icn_vars.specs.declared.assignment.Moved.{Moved}
use Rattle.icn_vars.specs.declared.assignment.Moved.TheVariants.{To as MovedTo, BeforeText, BehindTexts}
use Rattle.icn_vars.specs.declared.stop.Stop.{Stop}
use Rattle.icn_vars.specs.declared.stop.Stop.TheVariants.{Error, NoMemory}
use Rattle.icn_vars.specs.Stops.{IsLiveStop, StopsFinding, StopsPassing}
use Rattle.icn_vars.specs.Worlds.{IsLiveVariable, IsShort, Reach, variable_in}

-- A part of a row that may be refused goes on; or it is refused, whatever that is; or it stops.
abbrev pub RootAssigned : Extent → (Row → Row → Row) → Setting → Setting → Result Bool Stop → Type 0
RootAssigned all assigns before after (Ok true) =
    (refused next : Row) → assigns refused next before ≡ next after
RootAssigned all assigns before after (Ok false) =
    (refused next : Row) → assigns refused next before ≡ refused after
RootAssigned all assigns before after (Err stop) =
    (refused : Row) → StopsPassing all (assigns refused) before after stop

-- The variable is assigned, and the row goes on with what it is then; or the position is out of range, and the
-- row is refused, whatever that is; or it stops.
abbrev pub AssignsAs : Extent → (Row → Finds Variable) → Setting → Setting → Result Assignment Stop → Type 0
AssignsAs all assigns before after (Ok (Done now)) =
    (refused : Row) → GoesOn (assigns refused) before (variable_in all now) after
AssignsAs all assigns before after (Ok OutOfRange) =
    (refused : Row) (next : Variable → Row) → assigns refused next before ≡ refused after
AssignsAs all assigns before after (Err stop) =
    (refused : Row) → StopsFinding all (assigns refused) before after stop

-- The same of two variables that are assigned.
abbrev pub ExchangesAs : Extent → (Row → Finds (Variable × Variable)) → Setting → Setting
    → Result Exchange Stop → Type 0
ExchangesAs all assigns before after (Ok (ExchangeDone left right)) =
    (refused : Row) → GoesOn (assigns refused) before (variable_in all left, variable_in all right) after
ExchangesAs all assigns before after (Ok ExchangeOutOfRange) =
    (refused : Row) (next : Variable × Variable → Row) → assigns refused next before ≡ refused after
ExchangesAs all assigns before after (Err stop) =
    (refused : Row) → StopsFinding all (assigns refused) before after stop

-- what is left of an exchange once the left side is assigned
abbrev pub assigns_right : Row → Mover → Variable → Variable → Value → Finds (Variable × Variable)
assigns_right refused mover x_now y to_y next = do
  y_now ← assigns_or refused y to_y
  x_moved ← moved_by_right mover (part_length y) (part_length y_now) x_now
  next (x_moved, y_now)

-- what is left of it where the left side, which was so long, moves the right one first
abbrev pub assigns_moved : Row → ℕ → Variable → Variable → Value → Finds (Variable × Variable)
assigns_moved refused old x_now y to_y next = do
  y_moved ← move_part old (part_length x_now) y
  assigns_right refused Left x_now y_moved to_y next

-- two variables that hold these values are exchanged
abbrev pub exchange_of : Row → Variable → Variable → Value → Value → Finds (Variable × Variable)
exchange_of refused x y value_of_x value_of_y =
    assigns_both refused (mover_of x y) x y value_of_y value_of_x

-- What is answered is of the world

-- the variable that was assigned, or the offending value, is of the world
abbrev pub IsLiveAssignment : Reach → Result Assignment Stop → Type 0
IsLiveAssignment reach (Ok (Done now)) = IsLiveVariable reach now
IsLiveAssignment reach (Ok OutOfRange) = ⊤
IsLiveAssignment reach (Err stop) = IsLiveStop reach.extent stop

-- both variables that were exchanged, or the offending value, are of the world
abbrev pub IsLiveExchange : Reach → Result Exchange Stop → Type 0
IsLiveExchange reach (Ok (ExchangeDone left right)) = IsLiveVariable reach left × IsLiveVariable reach right
IsLiveExchange reach (Ok ExchangeOutOfRange) = ⊤
IsLiveExchange reach (Err stop) = IsLiveStop reach.extent stop

-- Lengths

-- what was assigned was so, and what it is then
abbrev pub IsShortAssignment : VarRef → Result Assignment Stop → Type 0
IsShortAssignment variable (Ok (Done now)) = IsShort variable × IsShort now
IsShortAssignment variable (Ok OutOfRange) = ⊤
IsShortAssignment variable (Err stop) = ⊤

-- a part that is moved by this is behind all places of 64 bits
abbrev pub IsBehind : ℕ → VarRef → Type 0
IsBehind new (HeldWhole root) = ⊥
IsBehind new (HeldPart root place len) = 2 ^ 64 ≤ place + new

-- a part that was moved is this one; or would begin before its text; or begins behind every text
abbrev pub MovesTo : ℕ → ℕ → VarRef → Moved → Type 0
MovesTo old new variable (MovedTo now) =
    (all : Extent) (setting : Setting)
    → GoesOn (move_part old new (variable_in all variable)) setting (variable_in all now) setting
MovesTo old new variable BeforeText =
    (all : Extent) (setting : Setting)
    → ComesTo (move_part old new (variable_in all variable)) setting (ErrorOutcome 205 None setting)
MovesTo old new variable BehindTexts = IsBehind new variable

-- a part that was moved is of the world
abbrev pub IsLiveMoved : Reach → Moved → Type 0
IsLiveMoved reach (MovedTo now) = IsLiveVariable reach now
IsLiveMoved reach BeforeText = ⊤
IsLiveMoved reach BehindTexts = ⊤

-- the text that a part is of, if it is one, has places of 63 bits
abbrev pub HoldsShort : Setting → Variable → Type 0
HoldsShort setting (Whole root) = ⊤
HoldsShort setting (Part root place size) =
    (text : List ℕ) → root_value setting root ≡ Some (Text text) → length text < 2 ^ 63 - 1

-- What variables can hold

-- the variable can hold afterwards what it could hold before
abbrev pub HoldsAlike : Extent → Variable → Result Assignment Stop → Type 0
HoldsAlike all variable (Ok (Done now)) =
    (value : Value) → can_hold (variable_in all now) value ≡ can_hold variable value
HoldsAlike all variable (Ok OutOfRange) = ⊤
HoldsAlike all variable (Err stop) = ⊤

-- the same of both sides of an exchange
abbrev pub HoldAlike : Extent → Variable → Variable → Result Exchange Stop → Type 0
HoldAlike all x y (Ok (ExchangeDone left right)) =
    ((value : Value) → can_hold (variable_in all left) value ≡ can_hold x value)
    × ((value : Value) → can_hold (variable_in all right) value ≡ can_hold y value)
HoldAlike all x y (Ok ExchangeOutOfRange) = ⊤
HoldAlike all x y (Err stop) = ⊤

-- the same of a part that is moved
abbrev pub HoldsMoved : VarRef → Moved → Type 0
HoldsMoved variable (MovedTo now) = (all : Extent) (value : Value)
    → can_hold (variable_in all now) value ≡ can_hold (variable_in all variable) value
HoldsMoved variable BeforeText = ⊤
HoldsMoved variable BehindTexts = ⊤

-- Memory

-- a root that a value is put into without memory: all but the keys of tables
abbrev pub is_in_place : Root → Bool
is_in_place (Global place) = true
is_in_place (Static place) = true
is_in_place (Local place) = true
is_in_place (Element list number) = true
is_in_place (Field structure place) = true
is_in_place (Key table key) = false
is_in_place (Keyword word) = true

-- the variables whose old values come back without memory: whole ones that are no key of a table
abbrev pub takes_no_memory : Variable → Bool
takes_no_memory (Whole root) = is_in_place root
takes_no_memory (Part root place size) = false

-- it is an error, and no want of memory
abbrev pub IsError : Stop → Type 0
IsError (Error number offending) = ⊤
IsError NoMemory = ⊥
