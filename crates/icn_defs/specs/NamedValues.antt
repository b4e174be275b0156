-- What a text names, and the functions `proc` and `args`.
use Rattle.std.specs.Prelude.{◌==◌, ◌&&◌, ℕ, zero, suc, ℤ, pos, negsuc, Bool, true, false, not, List, [], ◌∷◌, ◌++◌, length, map, slice_get, Option, None, Some, unwrap_or, if◌then◌else◌}
use Rattle.std.specs.List.{list_any}
use Rattle.std.specs.Option.{option_or}
use Rattle.std.specs.Str.{bytes_eq}
use Rattle.icn_text.specs.declared.func.Func.{Func}
use Rattle.icn_text.specs.declared.func.Func.TheVariants.{Abs, Any, Bal, Center, Char, Copy, Cset, Delete, Exit, Find, Get, Iand, Icom, Image, Insert, Integer as IntegerF, Ior, Ishift, Ixor, Key, Left, List as ListF, Many, Map, Match, Member, Move, Numeric, Ord, Pop, Pos, Pull, Push, Put, Read, Reads, Repl, Reverse, Right, Seq, Set, Sort, Stop, String, Tab, Table, Trim, TypeOf, Upto, Write, Writes, ErrorClear, Open, Close, Proc, Args}
use Rattle.icn_text.specs.Funcs.{func_name}
use Rattle.icn_value.specs.Values.{Value, Null, Integer, Text, Chars, Std, Procedure, ARecord, AList, ASet, ATable, ACoexp}
use Rattle.icn_value.specs.Store.{Names}
use Rattle.icn_defs.specs.Rows.{◌>>=◌, Row, fails, gives_value, present, thing_or_failure}
use Rattle.icn_defs.specs.Arguments.{arg}
use Rattle.icn_defs.specs.Images.{functions}

-- Texts

-- the names of the procedures, of the record constructors and of the functions, in the order of their numbers
abbrev pub all_names : Names → List (List ℕ)
all_names names = names.procedures ++ (names.records ++ map func_name functions)

-- no text names this number
abbrev pub is_hidden : List ℕ → ℕ → Bool
is_hidden hidden number = list_any (λ other. other == number) hidden

-- the first of these names that is this text and is not hidden, where the first of them has this number
abbrev pub number_from : List ℕ → ℕ → List (List ℕ) → List ℕ → Option ℕ
number_from hidden number [] text = None
number_from hidden number (name ∷ names) text = if bytes_eq text name && not (is_hidden hidden number)
    then Some number else number_from hidden (suc number) names text

-- What a text names: a procedure, a record constructor or a function, looked for in this order; of several the one with the
-- least number.
abbrev pub number_named : Names → List ℕ → Option ℕ
number_named names text = number_from names.hidden 0 (all_names names) text

-- the number of what a value names: a text alone names something
abbrev pub named_by : Names → Value → Option ℕ
named_by names (Text text) = number_named names text
named_by names Null = None
named_by names (Integer n) = None
named_by names (Chars bytes) = None
named_by names (Std file) = None
named_by names (Procedure number) = None
named_by names (ARecord id) = None
named_by names (AList id) = None
named_by names (ASet id) = None
named_by names (ATable id) = None
named_by names (ACoexp id) = None

-- the procedure, the constructor or the function that a value is, or that it names; nothing is converted
abbrev pub procedure_of : Names → Value → Option ℕ
procedure_of names (Procedure number) = Some number
procedure_of names (Text text) = number_named names text
procedure_of names Null = None
procedure_of names (Integer n) = None
procedure_of names (Chars bytes) = None
procedure_of names (Std file) = None
procedure_of names (ARecord id) = None
procedure_of names (AList id) = None
procedure_of names (ASet id) = None
procedure_of names (ATable id) = None
procedure_of names (ACoexp id) = None

-- How many arguments

-- how many arguments a function takes, where it takes any number -1
abbrev pub function_arguments : Func → ℤ
function_arguments Abs = pos 1
function_arguments Any = pos 4
function_arguments Bal = pos 6
function_arguments Center = pos 3
function_arguments Char = pos 1
function_arguments Copy = pos 1
function_arguments Cset = pos 1
function_arguments Delete = pos 2
function_arguments Exit = pos 1
function_arguments Find = pos 4
function_arguments Get = pos 1
function_arguments Iand = pos 2
function_arguments Icom = pos 1
function_arguments Image = pos 1
function_arguments Insert = pos 3
function_arguments IntegerF = pos 1
function_arguments Ior = pos 2
function_arguments Ishift = pos 2
function_arguments Ixor = pos 2
function_arguments Key = pos 1
function_arguments Left = pos 3
function_arguments ListF = pos 2
function_arguments Many = pos 4
function_arguments Map = pos 3
function_arguments Match = pos 4
function_arguments Member = pos 2
function_arguments Move = pos 1
function_arguments Numeric = pos 1
function_arguments Ord = pos 1
function_arguments Pop = pos 1
function_arguments Pos = pos 1
function_arguments Pull = pos 1
function_arguments Push = negsuc 0
function_arguments Put = negsuc 0
function_arguments Read = pos 1
function_arguments Reads = pos 2
function_arguments Repl = pos 2
function_arguments Reverse = pos 1
function_arguments Right = pos 3
function_arguments Seq = pos 2
function_arguments Set = pos 1
function_arguments Sort = pos 2
function_arguments Stop = negsuc 0
function_arguments String = pos 1
function_arguments Tab = pos 1
function_arguments Table = pos 1
function_arguments Trim = pos 2
function_arguments TypeOf = pos 1
function_arguments Upto = pos 4
function_arguments Write = negsuc 0
function_arguments Writes = negsuc 0
function_arguments ErrorClear = pos 0
function_arguments Open = pos 2
function_arguments Close = pos 1
function_arguments Proc = pos 1
function_arguments Args = pos 1

-- how many arguments a procedure of so many parameters takes, below 0 where the last one collects
abbrev pub arguments_taken : ℕ → Bool → ℤ
arguments_taken parameters false = pos parameters
arguments_taken zero true = pos 0
arguments_taken (suc n) true = negsuc n

-- how many arguments a number's procedure, constructor or function takes, below 0 where it collects them
abbrev pub arguments_of : Names → ℕ → ℤ
arguments_of names number =
    unwrap_or (slice_get (names.arguments ++ map function_arguments functions) number) (pos 0)

-- the procedure, constructor or function that a value is
abbrev pub held_procedure : Value → Option ℕ
held_procedure (Procedure number) = Some number
held_procedure Null = None
held_procedure (Integer n) = None
held_procedure (Text text) = None
held_procedure (Chars bytes) = None
held_procedure (Std file) = None
held_procedure (ARecord id) = None
held_procedure (AList id) = None
held_procedure (ASet id) = None
held_procedure (ATable id) = None
held_procedure (ACoexp id) = None

-- Rows

-- `proc(x)`: a procedure itself, for a text what it names; else it fails
abbrev pub proc_row : Names → List Value → Row
proc_row names args = do
  number ← thing_or_failure (procedure_of names (arg args 0))
  gives_value (Procedure number)

-- `args(p)`: how many arguments it takes; 106 for what is no procedure, constructor or function
abbrev pub args_row : Names → List Value → Row
args_row names args = do
  let value = arg args 0
  number ← present (held_procedure value) 106 (Some value)
  gives_value (Integer (arguments_of names number))
