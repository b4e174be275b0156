-- Keys as values.
use Rattle.std.specs.Prelude.{◌≡◌, ◌<◌, ◌^◌, length}
use Rattle.std.specs.List.{All}
use Rattle.std.specs.Coded.{Unit-prop}
use Rattle.std.proofs.Props.{props}
use Rattle.icn_value.specs.declared.cset.Cset.{Cset}
use Rattle.icn_value.specs.declared.val.File.{File as StdFile}
use Rattle.icn_value.specs.declared.val.File.TheVariants.{Input as StdInput, Output as StdOutput, Errout as StdErrout, Opened as StdOpened}
use Rattle.icn_value.specs.Values.{File, Input, Output, Errout, Opened, Value, Null as NullValue, Integer as IntegerValue, Text as TextValue, Chars as CharsValue, Std as StdValue, Procedure, ARecord, AList, ASet, ATable, ACoexp}
use Rattle.icn_value.specs.Members.{members_of}
use Rattle.icn_heap.specs.declared.key.Key.{Key}
use Rattle.icn_heap.specs.declared.key.Key.TheVariants.{Null, Integer, Text, Chars, Std, Proc, Rec, List as ListKey, Set, Table, Coexp}

-- a file, as definitions see it
abbrev pub file_of : StdFile → File
file_of StdInput = Input
file_of StdOutput = Output
file_of StdErrout = Errout
file_of (StdOpened number) = Opened number

-- the value that a key stands for
abbrev pub key_value : Key → Value
key_value Null = NullValue
key_value (Integer n) = IntegerValue n
key_value (Text bytes) = TextValue bytes.items
key_value (Chars cset) = CharsValue (members_of cset)
key_value (Std file) = StdValue (file_of file)
key_value (Proc number) = Procedure number
key_value (Rec id) = ARecord id
key_value (ListKey id) = AList id
key_value (Set id) = ASet id
key_value (Table id) = ATable id
key_value (Coexp id) = ACoexp id

-- the truth values stand in four words
pub record IsCset (cset : Cset) : Type 0 where
  pub length : length cset.words ≡ 4
  pub words : All (λ word. word < 2 ^ 64) cset.words

-- a cset that is a key stands in four words; other keys ask for nothing
abbrev pub IsKeyBy : Key → Type 0
IsKeyBy (Chars cset) = IsCset cset
IsKeyBy key = Unit {0}

-- what a key holds is what its type allows
pub record IsKey (key : Key) : Type 0 where
  pub formed : IsKeyBy key

IsCset-prop : (cset : Cset) → IsProp (IsCset cset)
IsCset-prop cset = hlevel props

IsKeyBy-prop : (key : Key) → IsProp (IsKeyBy key)
IsKeyBy-prop Null = Unit-prop
IsKeyBy-prop (Integer n) = Unit-prop
IsKeyBy-prop (Text bytes) = Unit-prop
IsKeyBy-prop (Chars cset) = IsCset-prop cset
IsKeyBy-prop (Std file) = Unit-prop
IsKeyBy-prop (Proc number) = Unit-prop
IsKeyBy-prop (Rec id) = Unit-prop
IsKeyBy-prop (ListKey id) = Unit-prop
IsKeyBy-prop (Set id) = Unit-prop
IsKeyBy-prop (Table id) = Unit-prop
IsKeyBy-prop (Coexp id) = Unit-prop

-- there is one proof at most that a key is formed
pub IsKey-prop : (key : Key) → IsProp (IsKey key)
IsKey-prop key = hlevel IsKeyBy-prop
