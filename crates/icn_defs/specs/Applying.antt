-- Applying operations and functions, and resuming what they left.
use Rattle.std.specs.Prelude.{◌+◌, ℕ, List, slice_get, unwrap_or}
use Rattle.icn_text.specs.declared.op.Op.{Op}
use Rattle.icn_text.specs.declared.op.Op.TheVariants.{IsNull, IsNotNull, Dereference, Number, Negate, Size, Complement, Elements, Random, TabMatch, Refresh, Add, Subtract, Multiply, Divide, Remainder, Power, Less, LessOrEqual, Equal, GreaterOrEqual, Greater, NotEqual, LexicallyLess, LexicallyLessOrEqual, LexicallyEqual, LexicallyGreaterOrEqual, LexicallyGreater, LexicallyNotEqual, Equivalent, NotEquivalent, Concatenate, ConcatenateLists, Union, Difference, Intersection, Assign, Swap, ReversibleAssign, ReversibleSwap, Subscript, Section, SectionPlus, SectionMinus, ToBy}
use Rattle.icn_text.specs.declared.func.Func.{Func}
use Rattle.icn_text.specs.declared.func.Func.TheVariants.{Abs, Any, Bal, Center, Char, Copy, Cset, Delete, Exit, Find, Get, Iand, Icom, Image, Insert, Integer as IntegerF, Ior, Ishift, Ixor, Key, Left, List as ListF, Many, Map, Match, Member, Move, Numeric, Ord, Pop, Pos, Pull, Push, Put, Read, Reads, Repl, Reverse, Right, Seq, Set, Sort, Stop, String, Tab, Table, Trim, TypeOf, Upto, Write, Writes, ErrorClear, Open, Close, Proc, Args}
use Rattle.icn_value.specs.Values.{Value, Null, Item, Val}
use Rattle.icn_value.specs.Store.{Names}
use Rattle.icn_defs.specs.Rows.{◌>>=◌, Row, fails, Residual, TextBytes, VariableBytes, ListItems, SetMembers, TableValues, TableKeys, RecordFields, FileLines, UndoAssign, UndoExchange, UndoPosition, Counting, Sequence, Balanced, Found, Among}
use Rattle.icn_defs.specs.ReadAndAssign.{the_values}
use Rattle.icn_defs.specs.Lines.{lines_row}
use Rattle.icn_defs.specs.Operations.{is_null_row, is_not_null_row, dereference_row, size_row, complement_row, lexically_less_row, lexically_less_or_equal_row, lexically_equal_row, lexically_greater_or_equal_row, lexically_greater_row, lexically_not_equal_row, equivalent_row, not_equivalent_row, concatenate_row, concatenate_lists_row, union_row, difference_row, intersection_row}
use Rattle.icn_defs.specs.Arithmetic.{add_row, counting_again, divide_row, equal_row, greater_or_equal_row, greater_row, less_or_equal_row, less_row, multiply_row, negate_row, not_equal_row, number_row, power_row, remainder_row, subtract_row, to_by_row}
use Rattle.icn_defs.specs.Elements.{elements_row, list_items_from, random_row, record_fields_from, set_members_from, table_values_from, text_bytes_from, variable_bytes_from}
use Rattle.icn_defs.specs.Variables.{assign_row, swap_row, reversible_assign_row, reversible_swap_row, undo_assign_again, undo_exchange_again, subscript_row, section_row, section_plus_row, section_minus_row}
use Rattle.icn_defs.specs.Scanning.{any_row, bal_row, find_row, many_row, match_row, move_row, pos_row, tab_row, upto_row, tab_match_row, undo_position_again, balanced_again, found_from, among_from}
use Rattle.icn_defs.specs.Strings.{abs_row, center_row, char_row, cset_row, iand_row, icom_row, image_row, integer_row, ior_row, ishift_row, ixor_row, left_row, map_row, ord_row, repl_row, reverse_row, right_row, seq_row, string_row, trim_row, type_row, sequence_again}
use Rattle.icn_defs.specs.Structures.{copy_row, delete_row, get_row, insert_row, key_row, list_row, member_row, pull_row, push_row, put_row, set_row, sort_row, table_row, table_keys_from}
use Rattle.icn_defs.specs.ErrorRows.{errorclear_row}
use Rattle.icn_defs.specs.Files.{close_row, open_row}
use Rattle.icn_defs.specs.NamedValues.{args_row, proc_row}
use Rattle.icn_defs.specs.InputOutput.{exit_row, read_row, reads_row, stop_row, write_row, writes_row}

-- An operation on up to three operands. The refreshing of a co-expression is no row here; it fails.
abbrev pub operation_on : Op → Item → Item → Item → Row
operation_on IsNull x y z = is_null_row x
operation_on IsNotNull x y z = is_not_null_row x
operation_on Dereference x y z = dereference_row x
operation_on Number x y z = number_row x
operation_on Negate x y z = negate_row x
operation_on Size x y z = size_row x
operation_on Complement x y z = complement_row x
operation_on Elements x y z = elements_row x
operation_on Random x y z = random_row x
operation_on TabMatch x y z = tab_match_row x
operation_on Refresh x y z = fails
operation_on Add x y z = add_row x y
operation_on Subtract x y z = subtract_row x y
operation_on Multiply x y z = multiply_row x y
operation_on Divide x y z = divide_row x y
operation_on Remainder x y z = remainder_row x y
operation_on Power x y z = power_row x y
operation_on Less x y z = less_row x y
operation_on LessOrEqual x y z = less_or_equal_row x y
operation_on Equal x y z = equal_row x y
operation_on GreaterOrEqual x y z = greater_or_equal_row x y
operation_on Greater x y z = greater_row x y
operation_on NotEqual x y z = not_equal_row x y
operation_on LexicallyLess x y z = lexically_less_row x y
operation_on LexicallyLessOrEqual x y z = lexically_less_or_equal_row x y
operation_on LexicallyEqual x y z = lexically_equal_row x y
operation_on LexicallyGreaterOrEqual x y z = lexically_greater_or_equal_row x y
operation_on LexicallyGreater x y z = lexically_greater_row x y
operation_on LexicallyNotEqual x y z = lexically_not_equal_row x y
operation_on Equivalent x y z = equivalent_row x y
operation_on NotEquivalent x y z = not_equivalent_row x y
operation_on Concatenate x y z = concatenate_row x y
operation_on ConcatenateLists x y z = concatenate_lists_row x y
operation_on Union x y z = union_row x y
operation_on Difference x y z = difference_row x y
operation_on Intersection x y z = intersection_row x y
operation_on Assign x y z = assign_row x y
operation_on Swap x y z = swap_row x y
operation_on ReversibleAssign x y z = reversible_assign_row x y
operation_on ReversibleSwap x y z = reversible_swap_row x y
operation_on Subscript x y z = subscript_row x y
operation_on Section x y z = section_row x y z
operation_on SectionPlus x y z = section_plus_row x y z
operation_on SectionMinus x y z = section_minus_row x y z
operation_on ToBy x y z = to_by_row x y z

-- an operand by its index, from 0 on; one that is missing is null, as a missing argument is
abbrev pub operand : List Item → ℕ → Item
operand items index = unwrap_or (slice_get items index) (Val Null)

-- an operation is applied
abbrev pub operation_row : Op → List Item → Row
operation_row op items = operation_on op (operand items 0) (operand items 1) (operand items 2)

-- a function of values
abbrev pub function_of : Names → Func → List Value → Row
function_of names Abs args = abs_row args
function_of names Any args = any_row args
function_of names Bal args = bal_row args
function_of names Center args = center_row args
function_of names Char args = char_row args
function_of names Copy args = copy_row args
function_of names Cset args = cset_row args
function_of names Delete args = delete_row args
function_of names Exit args = exit_row args
function_of names Find args = find_row args
function_of names Get args = get_row args
function_of names Iand args = iand_row args
function_of names Icom args = icom_row args
function_of names Image args = image_row names args
function_of names Insert args = insert_row args
function_of names IntegerF args = integer_row args
function_of names Ior args = ior_row args
function_of names Ishift args = ishift_row args
function_of names Ixor args = ixor_row args
function_of names Key args = key_row args
function_of names Left args = left_row args
function_of names ListF args = list_row args
function_of names Many args = many_row args
function_of names Map args = map_row args
function_of names Match args = match_row args
function_of names Member args = member_row args
function_of names Move args = move_row args
function_of names Numeric args = integer_row args
function_of names Ord args = ord_row args
function_of names Pop args = get_row args
function_of names Pos args = pos_row args
function_of names Pull args = pull_row args
function_of names Push args = push_row args
function_of names Put args = put_row args
function_of names Read args = read_row args
function_of names Reads args = reads_row args
function_of names Repl args = repl_row args
function_of names Reverse args = reverse_row args
function_of names Right args = right_row args
function_of names Seq args = seq_row args
function_of names Set args = set_row args
function_of names Sort args = sort_row names args
function_of names Stop args = stop_row args
function_of names String args = string_row args
function_of names Tab args = tab_row args
function_of names Table args = table_row args
function_of names Trim args = trim_row args
function_of names TypeOf args = type_row names args
function_of names Upto args = upto_row args
function_of names Write args = write_row args
function_of names Writes args = writes_row args
function_of names ErrorClear args = errorclear_row
function_of names Open args = open_row args
function_of names Close args = close_row args
function_of names Proc args = proc_row names args
function_of names Args args = args_row names args

-- A function is applied: all its arguments are dereferenced first.
abbrev pub function_row : Names → Func → List Item → Row
function_row names func items = do
  args ← the_values items
  function_of names func args

-- what was left is resumed
abbrev pub again : Residual → Row
again (TextBytes text offset) = text_bytes_from text offset
again (VariableBytes variable offset) = variable_bytes_from variable offset
again (ListItems id index) = list_items_from id index
again (SetMembers id index) = set_members_from id index
again (TableValues id index) = table_values_from id index
again (TableKeys id index) = table_keys_from id index
again (RecordFields id index) = record_fields_from id index
again (FileLines file) = lines_row file
again (UndoAssign variable old) = undo_assign_again variable old
again (UndoExchange mover x y old_x old_y) = undo_exchange_again mover x y old_x old_y
again (UndoPosition old) = undo_position_again old
again (Counting n last step) = counting_again n last step
again (Sequence n step) = sequence_again n step
again (Balanced wanted opening closing text position last) =
    balanced_again wanted opening closing text position last
again (Found wanted text position last) = found_from wanted text (position + 1) last
again (Among bytes text position last) = among_from bytes text (position + 1) last
