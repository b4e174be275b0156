-- What is taken back without memory.
use Rattle.std.specs.Prelude.{Bool, ◌&&◌, false, true}
use Rattle.icn_defs.specs.Rows.{Residual, TextBytes, VariableBytes, ListItems, SetMembers, TableValues, TableKeys, RecordFields, FileLines, UndoAssign, UndoExchange, UndoPosition, Counting, Sequence, Balanced, Found, Among, Neither, Left, Right}
use Rattle.icn_vars.specs.Assignments.{takes_no_memory}

-- whether it is taken back without memory: an assignment or an exchange of variables that take none for it, or a move
abbrev pub undoes_in_place : Residual → Bool
undoes_in_place (TextBytes text place) = false
undoes_in_place (VariableBytes variable place) = false
undoes_in_place (ListItems list place) = false
undoes_in_place (SetMembers set place) = false
undoes_in_place (TableValues table place) = false
undoes_in_place (TableKeys table place) = false
undoes_in_place (RecordFields rec place) = false
undoes_in_place (FileLines file) = false
undoes_in_place (UndoAssign variable old) = takes_no_memory variable
undoes_in_place (UndoExchange Neither left right old_left old_right) =
    takes_no_memory left && takes_no_memory right
undoes_in_place (UndoExchange Left left right old_left old_right) = false
undoes_in_place (UndoExchange Right left right old_left old_right) = false
undoes_in_place (UndoPosition old) = true
undoes_in_place (Counting given last step) = false
undoes_in_place (Sequence given step) = false
undoes_in_place (Balanced wanted opening closing text place last) = false
undoes_in_place (Found wanted text place last) = false
undoes_in_place (Among wanted text place last) = false
