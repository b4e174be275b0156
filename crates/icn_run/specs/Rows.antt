-- What the run of a code takes of the rows of operations and functions: the same as the meaning of a program.
pub use Rattle.icn_value.specs.Values.{Value, Null, Integer, Text, Chars, Procedure, ARecord, AList, ACoexp, Root, Global, Static, Local, Field, Variable, Whole, Part, Item, Val, Var}
pub use Rattle.icn_value.specs.Store.{World, Outside, Setting, Names, list_at, record_at}
pub use Rattle.icn_defs.specs.Rows.{Residual, Outcome, Fails, Gives, Suspends, Error, Ends}
pub use Rattle.icn_defs.specs.Errors.{error_report, on_error}
pub use Rattle.icn_defs.specs.Conversions.{integer_of, position_of}
pub use Rattle.icn_defs.specs.Applying.{again}
pub use Rattle.icn_defs.specs.Keywords.{Standing, keyword_item}
pub use Rattle.icn_defs.specs.StepRows.{Operation, Function, apply, value_row, list_row, text_row, record_row, coexpression_row}
pub use Rattle.icn_defs.specs.Running.{Pair, Ending, Done, Exit, Errored, AtBound, Observation, first_world, words_row, number_of}
