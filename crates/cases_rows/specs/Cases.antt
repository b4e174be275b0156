-- A case: an application, what is done before each of its resumptions, and all that is seen. The setting of each
-- stands beside it, and the facts of settings, items and residuals hold of every outcome.
use Rattle.std.specs.Prelude.{◌≡◌, ◌&&◌, ◌+◌, ℕ, pos, negsuc, Bool, true, List, [], ◌∷◌, codes, Option, None, Some}
use Rattle.icn_text.specs.declared.op.Op.{Op}
use Rattle.icn_text.specs.declared.func.Func.{Func}
use Rattle.icn_value.specs.Values.{Value, Null, Integer, Text, Chars, AList, Local, Whole, Part, Item, Val, Var}
use Rattle.std.specs.Map.{lookup}
use Rattle.std.specs.Str.{bytes_eq}
use Rattle.icn_host.specs.FileMaps.{FileMap}
use Rattle.icn_value.specs.declared.mode.FileMode.TheVariants.{ToRead, ToWrite, ToAdd}
use Rattle.icn_value.specs.Changes.{new_file}
use Rattle.icn_value.specs.Store.{Setting, Heap, Names, outside_of}
use Rattle.icn_defs.specs.Rows.{Row, Outcome, Fails, Gives, Suspends, Error, Ends}
use Rattle.icn_defs.specs.Applying.{operation_row, function_row, again}
use Rattle.icn_defs.specs.RowFacts.{is_outcome, is_setting}

-- Words for items

-- an integer from 0 on
abbrev pub int : ℕ → Item
int n = Val (Integer (pos n))

-- one less than the integer below 0 that is meant: `below 0` is -1
abbrev pub below : ℕ → Item
below n = Val (Integer (negsuc n))

-- the greatest integer
abbrev pub greatest : Item
greatest = int 9223372036854775807

-- the least integer
abbrev pub least : Item
least = below 9223372036854775807

-- a string
abbrev pub str : List ℕ → Item
str bytes = Val (Text bytes)

-- a cset, by its members in ascending order
abbrev pub chars : List ℕ → Item
chars bytes = Val (Chars bytes)

-- `&null`
abbrev pub null : Item
null = Val Null

-- the list of this number
abbrev pub list : ℕ → Item
list id = Val (AList id)

-- the variable of the local at this place
abbrev pub local : ℕ → Item
local place = Var (Whole (Local place))

-- a part of the text of a local, from a position on, with its length
abbrev pub local_part : ℕ → ℕ → ℕ → Item
local_part place from size = Var (Part (Local place) from size)

-- The setting that cases begin with

-- two procedures; and three record constructors, two of which have one name
abbrev pub names : Names
names =
    record {
      procedures = codes "main" ∷ codes "abs" ∷ [];
      records = codes "point" ∷ codes "pair" ∷ codes "point" ∷ [];
      arguments = pos 0 ∷ negsuc 1 ∷ pos 2 ∷ pos 2 ∷ pos 1 ∷ [];
      hidden = [];
    }

-- two lists, three sets, two tables, three records, a co-expression beside `&main`, and four opened files: one
-- that is read, one that is written anew, one that is added to, and one that is closed
abbrev pub heap : Heap
heap = record {
  lists = record { items = Integer (pos 3) ∷ Text (codes "a") ∷ Integer (pos 1) ∷ Null ∷ []; number = pos 1 }
      ∷ record { items = []; number = pos 4 } ∷ [];
  sets = (Integer (pos 1) ∷ Integer (pos 2) ∷ []) ∷ (Integer (pos 2) ∷ Text (codes "b") ∷ []) ∷ [] ∷ [];
  tables = record {
    default = Integer (pos 0);
    pairs = (Text (codes "b"), Integer (pos 2)) ∷ (Text (codes "a"), Integer (pos 2)) ∷ [];
  }
      ∷ record { default = Null; pairs = [] } ∷ [];
  records = record { kind = 0; fields = Integer (pos 1) ∷ Text (codes "x") ∷ [] }
      ∷ record { kind = 1; fields = [] }
      ∷ record { kind = 2; fields = Null ∷ [] } ∷ [];
  coexps = 0 ∷ 3 ∷ [];
  files = new_file (codes "in") ToRead (codes "one\n\nlast") ∷ new_file (codes "out") ToWrite (codes "x")
      ∷ new_file (codes "log") ToAdd (codes "y") ∷ record {
        name = codes "gone";
        mode = ToRead;
        content = [];
        place = 0;
        closed = true;
      } ∷ [];
  strings = 0;
  cells = 30;
  bounds = record { turns = 100; strings = 1000; cells = 1000; levels = 10 };
}

-- the store has one file, `t`
abbrev pub stored : FileMap
stored name = lookup (bytes_eq name) ((codes "t", codes "old\n") ∷ [])

-- the heap, `&subject` "hello" at position 2, three locals, an input of three lines, and one file
abbrev pub plain : Setting
plain = record {
  world = record {
    heap = heap;
    subject = codes "hello";
    position = 2;
    random = 0;
    globals = Null ∷ [];
    statics = Null ∷ [];
    error = pos 0;
    kept = None;
  };
  locals = Text (codes "hello") ∷ Integer (pos 7) ∷ Null ∷ [];
  outside = outside_of (codes "one\n\nlast") stored;
}

-- so many string bytes and cells more
abbrev pub costs : ℕ → ℕ → Setting → Setting
costs bytes cells setting =
    record setting {
      world =
          record setting.world { heap = record setting.world.heap { strings = bytes; cells = 30 + cells } };
    }

-- the locals hold these values
abbrev pub locals_holding : List Value → Setting → Setting
locals_holding values setting = record setting { locals = values }

-- What is seen

-- what a row comes to: an item, one that may be resumed, failure, a run-time error, or the end of the program
pub data Sight : Type 0 where
  Gave : Item → Setting → Sight
  Suspended : Item → Setting → Sight
  Failed : Setting → Sight
  Stopped : ℕ → Option Value → Setting → Sight
  Ended : ℕ → Setting → Sight

-- the setting that an outcome leaves
abbrev pub setting_after : Outcome → Setting
setting_after (Fails setting) = setting
setting_after (Gives item setting) = setting
setting_after (Suspends item rest setting) = setting
setting_after (Error number offending setting) = setting
setting_after (Ends status setting) = setting

-- what is seen of an outcome and of its resumptions, each after another row was applied, and whether the facts hold of all
abbrev pub sights : List Row → Outcome → List Sight
sights rows (Fails setting) = Failed setting ∷ []
sights rows (Gives item setting) = Gave item setting ∷ []
sights rows (Error number offending setting) = Stopped number offending setting ∷ []
sights rows (Ends status setting) = Ended status setting ∷ []
sights [] (Suspends item rest setting) = Suspended item setting ∷ []
sights (row ∷ rows) (Suspends item rest setting) =
    Suspended item setting ∷ sights rows (again rest (setting_after (row setting)))

-- whether the facts hold of an outcome and of each that resuming leads to
abbrev pub sound : List Row → Outcome → Bool
sound rows (Fails setting) = is_setting names setting
sound rows (Gives item setting) = is_outcome names (Gives item setting)
sound rows (Error number offending setting) = is_outcome names (Error number offending setting)
sound rows (Ends status setting) = is_outcome names (Ends status setting)
sound [] (Suspends item rest setting) = is_outcome names (Suspends item rest setting)
sound (row ∷ rows) (Suspends item rest setting) =
    is_outcome names (Suspends item rest setting) && sound rows (again rest (setting_after (row setting)))

-- Cases

-- a row, the setting it is applied in, what is done before each resumption, and all that is seen
pub record RowCase : Type 0 where
  pub row : Row
  pub from : Setting
  pub between : List Row
  pub to : List Sight

-- all that is seen of the case is what it says, and the facts hold of each outcome
pub record CaseHolds (case : RowCase) : Type 0 where
  pub saw : sights case.between (case.row case.from) ≡ case.to
  pub facts : sound case.between (case.row case.from) ≡ true

-- nothing is done
abbrev pub nothing : Row
nothing setting = Fails setting

-- nothing is done between the sights
abbrev pub resumptions : List Sight → List Row
resumptions [] = []
resumptions (first ∷ []) = []
resumptions (first ∷ (second ∷ others)) = nothing ∷ resumptions (second ∷ others)

-- an operation on items
abbrev pub op : Op → List Item → Row
op operation items = operation_row operation items

-- a function on items
abbrev pub fn : Func → List Item → Row
fn func items = function_row names func items

-- in the plain setting
abbrev pub case : Row → List Sight → RowCase
case row to = record { row = row; from = plain; between = resumptions to; to = to }

-- in this setting
abbrev pub case_from : Setting → Row → List Sight → RowCase
case_from from row to = record { row = row; from = from; between = resumptions to; to = to }

-- in the plain setting, with these rows before the resumptions
abbrev pub case_between : List Row → Row → List Sight → RowCase
case_between between row to = record { row = row; from = plain; between = between; to = to }

-- where the setting stays as it is
abbrev pub gives : Item → List Sight
gives item = Gave item plain ∷ []

-- it fails
abbrev pub fails : List Sight
fails = Failed plain ∷ []

-- it is an error of this number, about the value of an item
abbrev pub stops : ℕ → Item → List Sight
stops number (Val value) = Stopped number (Some value) plain ∷ []
stops number (Var variable) = []

-- it is an error of this number, about no value
abbrev pub stops_alone : ℕ → List Sight
stops_alone number = Stopped number None plain ∷ []

-- so many results one after the other, and then none
abbrev pub gives_all : List Item → List Sight
gives_all [] = Failed plain ∷ []
gives_all (item ∷ items) = Suspended item plain ∷ gives_all items
