-- What is said of values, of all that holds them: of variables, items, structures and residuals.
use Rattle.std.specs.Prelude.{Option, Some, None}
use Rattle.std.specs.List.{AllByRecursion as Each}
use Rattle.icn_structs.specs.Numbered.{NumberedList}
use Rattle.icn_value.specs.Values.{Value, Root, Global, Static, Local, Element, Field, Key, Keyword, Variable, Whole, Part, Item, Val, Var}
use Rattle.icn_value.specs.Store.{Table}
use Rattle.icn_defs.specs.Rows.{Residual, TextBytes, VariableBytes, ListItems, SetMembers, TableValues, TableKeys, RecordFields, FileLines, UndoAssign, UndoExchange, UndoPosition, Counting, Sequence, Balanced, Found, Among}

-- the value, if there is one
abbrev pub OptionBy : (Value → Type 0) → Option Value → Type 0
OptionBy Q None = Unit {0}
OptionBy Q (Some value) = Q value

-- the key of a table; other roots hold no value
abbrev pub RootBy : (Value → Type 0) → Root → Type 0
RootBy Q (Global place) = Unit {0}
RootBy Q (Static place) = Unit {0}
RootBy Q (Local place) = Unit {0}
RootBy Q (Element id number) = Unit {0}
RootBy Q (Field id place) = Unit {0}
RootBy Q (Key table key) = Q key
RootBy Q (Keyword word) = Unit {0}

-- what a variable is rooted in
abbrev pub VariableBy : (Value → Type 0) → Variable → Type 0
VariableBy Q (Whole root) = RootBy Q root
VariableBy Q (Part root place size) = RootBy Q root

-- a value, or what a variable is rooted in
abbrev pub ItemBy : (Value → Type 0) → Item → Type 0
ItemBy Q (Val value) = Q value
ItemBy Q (Var variable) = VariableBy Q variable

-- the key and the value of a pair
abbrev pub PairBy : (Value → Type 0) → Value × Value → Type 0
PairBy Q pair = Q pair.0 × Q pair.1

-- each item of a list
abbrev pub ListBy : (Value → Type 0) → NumberedList Value → Type 0
ListBy Q list = Each Q list.items

-- the default and each pair of a table
abbrev pub TableBy : (Value → Type 0) → Table → Type 0
TableBy Q table = Q table.default × Each (PairBy Q) table.pairs

-- the variables and the old values of a residual
abbrev pub ResidualBy : (Value → Type 0) → Residual → Type 0
ResidualBy Q (TextBytes text place) = Unit {0}
ResidualBy Q (VariableBytes variable place) = VariableBy Q variable
ResidualBy Q (ListItems id place) = Unit {0}
ResidualBy Q (SetMembers id place) = Unit {0}
ResidualBy Q (TableValues id place) = Unit {0}
ResidualBy Q (TableKeys id place) = Unit {0}
ResidualBy Q (RecordFields id place) = Unit {0}
ResidualBy Q (FileLines file) = Unit {0}
ResidualBy Q (UndoAssign variable old) = VariableBy Q variable × Q old
ResidualBy Q (UndoExchange mover x y old_x old_y) = VariableBy Q x × (VariableBy Q y × (Q old_x × Q old_y))
ResidualBy Q (UndoPosition old) = Unit {0}
ResidualBy Q (Counting n last step) = Unit {0}
ResidualBy Q (Sequence n step) = Unit {0}
ResidualBy Q (Balanced wanted opening closing text place last) = Unit {0}
ResidualBy Q (Found wanted text place last) = Unit {0}
ResidualBy Q (Among bytes text place last) = Unit {0}
