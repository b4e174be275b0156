-- What a law over all rows says, and why each change that a row makes keeps it. `EveryRow` goes over the rows once, for any such law.
use Rattle.std.proofs.Common.{◌≡◌, ℕ, zero, suc, ◌+◌, ◌∙◌, true, List, [], ◌∷◌, ◌++◌, length, Option, None, Some}
use Rattle.std.specs.Prelude.{map, ℤ, slice_get, slice_set, unwrap_or}
use Rattle.std.proofs.lemmas.List.{length-set}
use Rattle.icn_structs.specs.Numbered.{NumberedList}
use Rattle.icn_value.specs.Limited.{Bounds}
use Rattle.icn_value.specs.Values.{Value, Null, Integer, Text, Chars, Std, Procedure, ARecord, AList, ASet, ATable, ACoexp, File, Root, Global, Static, Local, Element, Field, Key, Keyword, Variable, Whole, Part, Item, Val, Var}
use Rattle.icn_value.specs.Store.{Heap, Names, Table, Record, KeptError, Outside, Request, Setting, new_list, value_at, OutputByte, ErrorByte, with_events, with_file_reading, with_file_writing}
use Rattle.icn_defs.specs.Interruptions.{after_reading}
use Rattle.icn_defs.specs.NamedValues.{procedure_of}
use Rattle.icn_defs.specs.RowFacts.{is_error_number}
use Rattle.icn_defs.specs.Rows.{Outcome, Fails, Gives, Suspends, Error, Ends, Residual, TextBytes, VariableBytes, ListItems, SetMembers, TableValues, TableKeys, RecordFields, FileLines, UndoAssign, UndoExchange, UndoPosition, Counting, Sequence, Balanced, Found, Among}
pub use Rattle.law_rows.specs.HeldValues.{OptionBy, RootBy, VariableBy, ItemBy, PairBy, ListBy, TableBy, ResidualBy}
use Rattle.law_rows.specs.Unchanged.{IsLimit}
use Rattle.law_rows.proofs.EachOfList.{Each, each_append, each_set}

-- What is said of values

-- what a law says of each value: whatever it is, it is so of the values that rows make of no other
pub record ValueLaw : Type 1 where
  pub Is : Value → Type 0
  pub null : Is Null
  pub integer : (n : ℤ) → Is (Integer n)
  pub text : (bytes : List ℕ) → Is (Text bytes)
  pub chars : (bytes : List ℕ) → Is (Chars bytes)
  pub file : (file : File) → Is (Std file)
  pub structure : (id : ℕ) → Is (ARecord id)
  pub list : (id : ℕ) → Is (AList id)
  pub set : (id : ℕ) → Is (ASet id)
  pub table : (id : ℕ) → Is (ATable id)

-- What is said of the parts of a setting

-- of a sum that was charged
pub record SumLaw : Type 1 where
  pub Is : ℕ → Type 0
  pub more : (n k : ℕ) → Is n → Is (n + k)

-- of the globals, the statics or the locals
pub record VariablesLaw (Q : Value → Type 0) : Type 1 where
  pub Is : List Value → Type 0
  pub set : (vs : List Value) (place : ℕ) (v : Value) → Is vs → Q v → Is (slice_set vs place v)
  pub at : (vs : List Value) (place : ℕ) → Is vs → Q (value_at vs place)

-- of the structures of a type, each of which is one such as this says
pub record StructuresLaw (A : Type 0) (none : A) (Q : A → Type 0) : Type 1 where
  pub Is : List A → Type 0
  pub set : (xs : List A) (id : ℕ) (x : A) → Is xs → Q x → Is (slice_set xs id x)
  pub more : (xs : List A) (x : A) → Is xs → Q x → Is (xs ++ x ∷ [])
  pub at : (xs : List A) (id : ℕ) → Is xs → Q (unwrap_or (slice_get xs id) none)

abbrev pub no_record : Record
no_record = record { kind = 0; fields = [] }

abbrev pub record_of : List Record → ℕ → Record
record_of xs id = unwrap_or (slice_get xs id) no_record

abbrev pub with_field : List Record → ℕ → ℕ → Value → List Record
with_field xs id place v = slice_set xs id (record (record_of xs id) { fields = slice_set (record_of xs id).fields place v })

-- of the records: what a new one has to be, and which may be copied
pub record RecordsLaw (Q : Value → Type 0) : Type 1 where
  pub Is : List Record → Type 0
  pub New : Record → Type 0
  pub There : List Record → ℕ → Type 0
  pub set : (xs : List Record) (id place : ℕ) (v : Value) → Is xs → Q v → Is (with_field xs id place v)
  pub more : (xs : List Record) (x : Record) → Is xs → New x → Is (xs ++ x ∷ [])
  pub copy : (xs : List Record) (id : ℕ) → There xs id → Is xs → Is (xs ++ record_of xs id ∷ [])
  pub fields : (xs : List Record) (id : ℕ) → Is xs → Each Q (record_of xs id).fields

-- of the outside
pub record OutsideLaw : Type 1 where
  pub Is : Outside → Type 0
  pub output : (outside : Outside) (text : List ℕ) → Is outside → Is (with_events (map OutputByte text) outside)
  pub errors : (outside : Outside) (text : List ℕ) → Is outside → Is (with_events (map ErrorByte text) outside)
  pub read : (outside : Outside) (asked : Request) → Is outside → Is (after_reading asked outside)
  pub found : (outside : Outside) (name : List ℕ) → Is outside → Is (with_file_reading name outside)
  pub written : (outside : Outside) (name bytes : List ℕ) → Is outside → Is (with_file_writing name bytes outside)

-- what a law says of each part of a setting
pub record PartLaws : Type 1 where
  pub values : ValueLaw
  pub strings : SumLaw
  pub cells : SumLaw
  pub BoundsAre : Bounds → Type 0
  pub CountsAre : List ℕ → Type 0
  pub lists : StructuresLaw (NumberedList Value) (new_list []) (ListBy values.Is)
  pub sets : StructuresLaw (List Value) [] (Each values.Is)
  pub tables : StructuresLaw Table (record { default = Null; pairs = [] }) (TableBy values.Is)
  pub records : RecordsLaw values.Is
  pub globals : VariablesLaw values.Is
  pub statics : VariablesLaw values.Is
  pub locals : VariablesLaw values.Is
  pub KeptIs : Option KeptError → Type 0
  pub none_kept : KeptIs None
  pub outside : OutsideLaw

-- and so of all of them
pub record SettingBy (parts : PartLaws) (a : Setting) : Type 0 where
  pub strings : parts.strings.Is a.world.heap.strings
  pub cells : parts.cells.Is a.world.heap.cells
  pub bounds : parts.BoundsAre a.world.heap.bounds
  pub counts : parts.CountsAre a.world.heap.coexps
  pub lists : parts.lists.Is a.world.heap.lists
  pub sets : parts.sets.Is a.world.heap.sets
  pub tables : parts.tables.Is a.world.heap.tables
  pub records : parts.records.Is a.world.heap.records
  pub globals : parts.globals.Is a.world.globals
  pub statics : parts.statics.Is a.world.statics
  pub locals : parts.locals.Is a.locals
  pub kept : parts.KeptIs a.world.kept
  pub outside : parts.outside.Is a.outside

-- A law: what it says of each part of a setting, and of what a row comes to. `Entered` is a setting in which a row may still come to an error of
-- any number; behind a charge or a change it comes to those of limits alone, but for exchanges.
pub record RowLaw : Type 1 where
  pub parts : PartLaws
  pub Entered : Setting → Type 0
  pub entered : (a : Setting) → Entered a → SettingBy parts a
  pub Comes : Outcome → Type 0
  pub failure : (a : Setting) → SettingBy parts a → Comes (Fails a)
  pub gift : (i : Item) (a : Setting) → ItemBy parts.values.Is i → SettingBy parts a → Comes (Gives i a)
  pub suspension : (i : Item) (r : Residual) (a : Setting) → ItemBy parts.values.Is i → ResidualBy parts.values.Is r → SettingBy parts a
      → Comes (Suspends i r a)
  pub error : (number : ℕ) (v : Option Value) (a : Setting) → is_error_number number ≡ true → OptionBy parts.values.Is v → Entered a
      → Comes (Error number v a)
  pub limit : (number : ℕ) (a : Setting) → is_error_number number ≡ true → IsLimit number → SettingBy parts a → Comes (Error number None a)
  pub ending : (status : ℕ) (a : Setting) → SettingBy parts a → Comes (Ends status a)

-- a value that is a record is one that may be copied
abbrev pub MayCopy : RowLaw → Heap → Value → Type 0
MayCopy law heap Null = Unit {0}
MayCopy law heap (Integer n) = Unit {0}
MayCopy law heap (Text text) = Unit {0}
MayCopy law heap (Chars bytes) = Unit {0}
MayCopy law heap (Std file) = Unit {0}
MayCopy law heap (Procedure number) = Unit {0}
MayCopy law heap (ARecord id) = law.parts.records.There heap.records id
MayCopy law heap (AList id) = Unit {0}
MayCopy law heap (ASet id) = Unit {0}
MayCopy law heap (ATable id) = Unit {0}
MayCopy law heap (ACoexp id) = Unit {0}

-- what a value names, or is, is a procedure that the law has
abbrev pub MayName : RowLaw → Names → Value → Type 0
MayName law names v = (number : ℕ) → procedure_of names v ≡ Some number → law.parts.values.Is (Procedure number)

-- a law whose exchanges are of it too: it has the same of settings before and behind a charge
abbrev pub IsOne : RowLaw → Type 0
IsOne law = (a : Setting) → SettingBy law.parts a → law.Entered a

-- Laws of parts that are there already

-- nothing is said

abbrev pub any_value : ValueLaw
any_value = record {
  Is = λ v. Unit {0};
  null = tt;
  integer = λ n. tt;
  text = λ bytes. tt;
  chars = λ bytes. tt;
  file = λ file. tt;
  structure = λ id. tt;
  list = λ id. tt;
  set = λ id. tt;
  table = λ id. tt;
}

pub any_each : {A : Type 0} (xs : List A) → Each (λ x. Unit {0}) xs
any_each [] = tt
any_each (x ∷ xs) = (tt, any_each xs)

pub any_pairs : (ps : List (Value × Value)) → Each (PairBy (λ v. Unit {0})) ps
any_pairs [] = tt
any_pairs (p ∷ ps) = ((tt, tt), any_pairs ps)

any_of_root : (root : Root) → RootBy (λ v. Unit {0}) root
any_of_root (Global place) = tt
any_of_root (Static place) = tt
any_of_root (Local place) = tt
any_of_root (Element id number) = tt
any_of_root (Field id place) = tt
any_of_root (Key table key) = tt
any_of_root (Keyword word) = tt

pub any_of_variable : (x : Variable) → VariableBy (λ v. Unit {0}) x
any_of_variable (Whole root) = any_of_root root
any_of_variable (Part root place size) = any_of_root root

pub any_of_item : (x : Item) → ItemBy (λ v. Unit {0}) x
any_of_item (Val value) = tt
any_of_item (Var variable) = any_of_variable variable

pub any_of_items : (xs : List Item) → Each (ItemBy (λ v. Unit {0})) xs
any_of_items [] = tt
any_of_items (x ∷ xs) = (any_of_item x, any_of_items xs)

pub any_of_residual : (r : Residual) → ResidualBy (λ v. Unit {0}) r
any_of_residual (TextBytes text place) = tt
any_of_residual (VariableBytes x place) = any_of_variable x
any_of_residual (ListItems id place) = tt
any_of_residual (SetMembers id place) = tt
any_of_residual (TableValues id place) = tt
any_of_residual (TableKeys id place) = tt
any_of_residual (RecordFields id place) = tt
any_of_residual (FileLines file) = tt
any_of_residual (UndoAssign x old) = (any_of_variable x, tt)
any_of_residual (UndoExchange mover x y v w) = (any_of_variable x, (any_of_variable y, (tt, tt)))
any_of_residual (UndoPosition old) = tt
any_of_residual (Counting n last step) = tt
any_of_residual (Sequence n step) = tt
any_of_residual (Balanced wanted opening closing text place last) = tt
any_of_residual (Found wanted text place last) = tt
any_of_residual (Among bytes text place last) = tt

abbrev pub any_sum : SumLaw
any_sum = record { Is = λ n. Unit {0}; more = λ n k h. tt }

abbrev pub any_variables : VariablesLaw (λ v. Unit {0})
any_variables = record { Is = λ vs. Unit {0}; set = λ vs place v h g. tt; at = λ vs place h. tt }

abbrev pub any_structures : {A : Type 0} (none : A) (Q : A → Type 0) → ((x : A) → Q x) → StructuresLaw A none Q
any_structures none Q all = record { Is = λ xs. Unit {0}; set = λ xs id x h g. tt; more = λ xs x h g. tt; at = λ xs id h. all _ }

abbrev pub any_lists : StructuresLaw (NumberedList Value) (new_list []) (ListBy (λ v. Unit {0}))
any_lists = any_structures (new_list []) (ListBy (λ v. Unit {0})) (λ x. any_each x.items)

abbrev pub any_sets : StructuresLaw (List Value) [] (Each (λ v. Unit {0}))
any_sets = any_structures [] (Each (λ v. Unit {0})) (λ x. any_each x)

abbrev pub no_table : Table
no_table = record { default = Null; pairs = [] }

abbrev pub any_tables : StructuresLaw Table no_table (TableBy (λ v. Unit {0}))
any_tables = any_structures no_table (TableBy (λ v. Unit {0})) (λ x. (tt, any_pairs x.pairs))

abbrev pub any_records : RecordsLaw (λ v. Unit {0})
any_records = record {
  Is = λ xs. Unit {0};
  New = λ x. Unit {0};
  There = λ xs id. Unit {0};
  set = λ xs id place v h g. tt;
  more = λ xs x h g. tt;
  copy = λ xs id t h. tt;
  fields = λ xs id h. any_each _;
}

abbrev pub any_outside : OutsideLaw
any_outside = record {
  Is = λ outside. Unit {0};
  output = λ outside text h. tt;
  errors = λ outside text h. tt;
  read = λ outside asked h. tt;
  found = λ outside name h. tt;
  written = λ outside name bytes h. tt;
}

-- nothing is said of any part
abbrev pub any_parts : PartLaws
any_parts = record {
  values = any_value;
  strings = any_sum;
  cells = any_sum;
  BoundsAre = λ bounds. Unit {0};
  CountsAre = λ counts. Unit {0};
  lists = any_lists;
  sets = any_sets;
  tables = any_tables;
  records = any_records;
  globals = any_variables;
  statics = any_variables;
  locals = any_variables;
  KeptIs = λ kept. Unit {0};
  none_kept = tt;
  outside = any_outside;
}

pub any_setting : (a : Setting) → SettingBy any_parts a
any_setting a = record {
  strings = tt;
  cells = tt;
  bounds = tt;
  counts = tt;
  lists = tt;
  sets = tt;
  tables = tt;
  records = tt;
  globals = tt;
  statics = tt;
  locals = tt;
  kept = tt;
  outside = tt;
}

-- it is so of each that is held

pub each_value : {A : Type 0} (Q : A → Type 0) (none : A) (xs : List A) (place : ℕ) → Q none → Each Q xs → Q (unwrap_or (slice_get xs place) none)
each_value Q none [] place q h = q
each_value Q none (x ∷ xs) zero q h = h.0
each_value Q none (x ∷ xs) (suc place) q h = each_value Q none xs place q h.1

abbrev pub variables_each : (values : ValueLaw) → VariablesLaw values.Is
variables_each values = record {
  Is = Each values.Is;
  set = each_set values.Is;
  at = λ vs place h. each_value values.Is Null vs place values.null h;
}

abbrev pub structures_each : {A : Type 0} (none : A) (Q : A → Type 0) → Q none → StructuresLaw A none Q
structures_each none Q q = record {
  Is = Each Q;
  set = each_set Q;
  more = λ xs x h g. each_append Q xs (x ∷ []) h (g, tt);
  at = λ xs id h. each_value Q none xs id q h;
}

-- there are so many, or so many or more

pub set_keeps_length : {A : Type 0} (n : ℕ) (xs : List A) (place : ℕ) (x : A) → length xs ≡ n → length (slice_set xs place x) ≡ n
set_keeps_length n xs place x h = length-set xs place x ∙ h

abbrev pub so_many : ℕ → VariablesLaw (λ v. Unit {0})
so_many n = record { Is = λ vs. length vs ≡ n; set = λ vs place v h g. set_keeps_length n vs place v h; at = λ vs place h. tt }

-- where any record may be copied, any value may
pub any_copy : (law : RowLaw) → ((xs : List Record) (id : ℕ) → law.parts.records.There xs id) → (heap : Heap) (v : Value) → MayCopy law heap v
any_copy law all heap Null = tt
any_copy law all heap (Integer n) = tt
any_copy law all heap (Text text) = tt
any_copy law all heap (Chars bytes) = tt
any_copy law all heap (Std file) = tt
any_copy law all heap (Procedure number) = tt
any_copy law all heap (ARecord id) = all heap.records id
any_copy law all heap (AList id) = tt
any_copy law all heap (ASet id) = tt
any_copy law all heap (ATable id) = tt
any_copy law all heap (ACoexp id) = tt
