-- Items, structures, settings, outcomes and rows of both runs.
use Rattle.std.proofs.Common.{◌≡◌, ℕ, List, [], Option, None, refl, ap, subst}
use Rattle.std.specs.Prelude.{ℤ}
use Rattle.icn_structs.specs.Numbered.{NumberedList}
use Rattle.icn_value.specs.Values.{Value, File, Root, Global, Static, Local, Element, Field, Key, Keyword, KeywordVariable, Variable, Whole, Part, Item, Val, Var}
use Rattle.icn_value.specs.Store.{KeptError, Names, Record, Setting, Table}
use Rattle.icn_defs.specs.Images.{procedure_image, procedure_name}
use Rattle.icn_defs.specs.NamedValues.{arguments_of, number_named}
use Rattle.icn_defs.specs.Rows.{Row, Outcome, Fails, Gives, Suspends, Error, Ends, Mover, Residual, TextBytes, VariableBytes, ListItems, SetMembers, TableValues, TableKeys, RecordFields, FileLines, UndoAssign, UndoExchange, UndoPosition, Counting, Sequence, Balanced, Found, Among}
use Rattle.law_prune.proofs.RelatedLists.{Both, OptionTo, PlacesTo}
use Rattle.law_prune.proofs.RelatedValues.{InOrder, OneForOne, ValueTo}

-- related numbers have one name, and a text names related ones, or nothing
pub record NamesTo (To : ℕ → ℕ → Type 0) (whole left : Names) : Type 0 where
  pub same_name : (n k : ℕ) → To n k → procedure_name whole n ≡ procedure_name left k
  pub same_image : (n k : ℕ) → To n k → procedure_image whole n ≡ procedure_image left k
  pub same_arguments : (n k : ℕ) → To n k → arguments_of whole n ≡ arguments_of left k
  pub same_records : whole.records ≡ left.records
  pub named : (text : List ℕ) → OptionTo To (number_named whole text) (number_named left text)

-- how the numbers of procedures, globals and statics of a run are related to those of another one
pub record Renaming : Type 1 where
  pub To : ℕ → ℕ → Type 0
  pub GlobalTo : ℕ → ℕ → Type 0
  pub StaticTo : ℕ → ℕ → Type 0
  pub one : OneForOne To
  pub along : InOrder To
  pub one_global : OneForOne GlobalTo
  pub one_static : OneForOne StaticTo
  pub whole : Names
  pub left : Names
  pub names : NamesTo To whole left

-- the parts of a setting that hold values
pub record Parts : Type 0 where
  pub lists : List (NumberedList Value)
  pub sets : List (List Value)
  pub tables : List Table
  pub records : List Record
  pub globals : List Value
  pub statics : List Value
  pub locals : List Value
  pub kept : Option KeptError

abbrev pub parts_of : Setting → Parts
parts_of a = record {
  lists = a.world.heap.lists;
  sets = a.world.heap.sets;
  tables = a.world.heap.tables;
  records = a.world.heap.records;
  globals = a.world.globals;
  statics = a.world.statics;
  locals = a.locals;
  kept = a.world.kept;
}

-- the setting with these parts
abbrev pub view : Setting → Parts → Setting
view a q = record {
  world = record {
    heap = record {
      lists = q.lists;
      sets = q.sets;
      tables = q.tables;
      records = q.records;
      coexps = a.world.heap.coexps;
      files = a.world.heap.files;
      strings = a.world.heap.strings;
      cells = a.world.heap.cells;
      bounds = a.world.heap.bounds;
    };
    subject = a.world.subject;
    position = a.world.position;
    random = a.world.random;
    globals = q.globals;
    statics = q.statics;
    error = a.world.error;
    kept = q.kept;
  };
  locals = q.locals;
  outside = a.outside;
}

-- all but these parts
abbrev pub rest_of : Setting → Setting
rest_of a = view a (record { lists = []; sets = []; tables = []; records = []; globals = []; statics = []; locals = []; kept = None })

module _ (R : Renaming) where
  -- what a variable is rooted in: a global or a static that stays
  pub data RootTo : Root → Root → Type 0 where
    global_to : (k j : ℕ) → R.GlobalTo k j → RootTo (Global k) (Global j)
    static_to : (k j : ℕ) → R.StaticTo k j → RootTo (Static k) (Static j)
    local_to : (k : ℕ) → RootTo (Local k) (Local k)
    element_to : (id : ℕ) (number : ℤ) → RootTo (Element id number) (Element id number)
    field_to : (id k : ℕ) → RootTo (Field id k) (Field id k)
    key_to : (id : ℕ) (v w : Value) → ValueTo R.To v w → RootTo (Key id v) (Key id w)
    word_to : (word : KeywordVariable) → RootTo (Keyword word) (Keyword word)

  pub data VariableTo : Variable → Variable → Type 0 where
    whole_to : {r s : Root} → RootTo r s → VariableTo (Whole r) (Whole s)
    part_to : {r s : Root} (place size : ℕ) → RootTo r s → VariableTo (Part r place size) (Part s place size)

  pub data ItemTo : Item → Item → Type 0 where
    val_to : {v w : Value} → ValueTo R.To v w → ItemTo (Val v) (Val w)
    var_to : {x y : Variable} → VariableTo x y → ItemTo (Var x) (Var y)

  pub data ResidualTo : Residual → Residual → Type 0 where
    text_bytes_to : (text : List ℕ) (k : ℕ) → ResidualTo (TextBytes text k) (TextBytes text k)
    variable_bytes_to : {x y : Variable} (k : ℕ) → VariableTo x y → ResidualTo (VariableBytes x k) (VariableBytes y k)
    list_items_to : (id k : ℕ) → ResidualTo (ListItems id k) (ListItems id k)
    set_members_to : (id k : ℕ) → ResidualTo (SetMembers id k) (SetMembers id k)
    table_values_to : (id k : ℕ) → ResidualTo (TableValues id k) (TableValues id k)
    table_keys_to : (id k : ℕ) → ResidualTo (TableKeys id k) (TableKeys id k)
    record_fields_to : (id k : ℕ) → ResidualTo (RecordFields id k) (RecordFields id k)
    file_lines_to : (file : File) → ResidualTo (FileLines file) (FileLines file)
    undo_assign_to : {x y : Variable} {v w : Value} → VariableTo x y → ValueTo R.To v w → ResidualTo (UndoAssign x v) (UndoAssign y w)
    undo_exchange_to : {x y u z : Variable} {v w a b : Value} (m : Mover) → VariableTo x u → VariableTo y z → ValueTo R.To v a → ValueTo R.To w b
        → ResidualTo (UndoExchange m x y v w) (UndoExchange m u z a b)
    undo_position_to : (k : ℕ) → ResidualTo (UndoPosition k) (UndoPosition k)
    counting_to : (n last step : ℤ) → ResidualTo (Counting n last step) (Counting n last step)
    sequence_to : (n step : ℤ) → ResidualTo (Sequence n step) (Sequence n step)
    balanced_to : (a b c d : List ℕ) (e f : ℕ) → ResidualTo (Balanced a b c d e f) (Balanced a b c d e f)
    found_to : (a b : List ℕ) (c d : ℕ) → ResidualTo (Found a b c d) (Found a b c d)
    among_to : (a b : List ℕ) (c d : ℕ) → ResidualTo (Among a b c d) (Among a b c d)

  -- Structures

  pub record PairTo (p q : Value × Value) : Type 0 where
    pub key : ValueTo R.To p.0 q.0
    pub value : ValueTo R.To p.1 q.1

  pub record ListTo (l m : NumberedList Value) : Type 0 where
    pub items : Both (ValueTo R.To) l.items m.items
    pub number : l.number ≡ m.number

  pub record TableTo (t u : Table) : Type 0 where
    pub default : ValueTo R.To t.default u.default
    pub pairs : Both PairTo t.pairs u.pairs

  pub record RecordTo (r s : Record) : Type 0 where
    pub kind : r.kind ≡ s.kind
    pub fields : Both (ValueTo R.To) r.fields s.fields

  pub record KeptTo (e f : KeptError) : Type 0 where
    pub number : e.number ≡ f.number
    pub value : OptionTo (ValueTo R.To) e.value f.value

  -- Settings

  pub record PartsTo (p q : Parts) : Type 0 where
    pub lists : Both ListTo p.lists q.lists
    pub sets : Both (Both (ValueTo R.To)) p.sets q.sets
    pub tables : Both TableTo p.tables q.tables
    pub records : Both RecordTo p.records q.records
    pub globals : PlacesTo R.GlobalTo (ValueTo R.To) p.globals q.globals
    pub statics : PlacesTo R.StaticTo (ValueTo R.To) p.statics q.statics
    pub locals : Both (ValueTo R.To) p.locals q.locals
    pub kept : OptionTo KeptTo p.kept q.kept

  -- settings whose values are related, and in which all else is the same
  pub record SettingTo (a b : Setting) : Type 0 where
    pub rest : rest_of a ≡ rest_of b
    pub parts : PartsTo (parts_of a) (parts_of b)

  -- what is so of a setting with the parts of another one is so of that
  pub see : (a b : Setting) (Q : Setting → Type 0) → SettingTo a b → Q (view a (parts_of b)) → Q b
  see a b Q h q = subst Q (ap (λ (s : Setting). view s (parts_of b)) h.rest) q

  pub seen : (a : Setting) (q : Parts) → PartsTo (parts_of a) q → SettingTo a (view a q)
  seen a q h = record { rest = refl; parts = h }

  -- Outcomes and rows

  pub data OutcomeTo : Outcome → Outcome → Type 0 where
    fails_to : {a b : Setting} → SettingTo a b → OutcomeTo (Fails a) (Fails b)
    gives_to : {i j : Item} {a b : Setting} → ItemTo i j → SettingTo a b → OutcomeTo (Gives i a) (Gives j b)
    suspends_to : {i j : Item} {r s : Residual} {a b : Setting} → ItemTo i j → ResidualTo r s → SettingTo a b → OutcomeTo (Suspends i r a) (Suspends j s b)
    error_to : {v w : Option Value} {a b : Setting} (number : ℕ) → OptionTo (ValueTo R.To) v w → SettingTo a b
        → OutcomeTo (Error number v a) (Error number w b)
    ends_to : {a b : Setting} (status : ℕ) → SettingTo a b → OutcomeTo (Ends status a) (Ends status b)

  -- in related settings both rows come to related outcomes
  pub record RowTo (row other : Row) : Type 0 where
    pub same : (a b : Setting) → SettingTo a b → OutcomeTo (row a) (other b)
