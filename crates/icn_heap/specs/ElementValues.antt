-- The values that structures hold.
use Rattle.std.specs.Prelude.{List, [], ◌∷◌, map}
use Rattle.std.specs.List.{flat_map}
use Rattle.icn_structs.specs.Numbered.{NumberedList}
use Rattle.icn_value.specs.declared.val.Val.{Val}
use Rattle.icn_heap.specs.Records.{HeldRecord}
use Rattle.icn_heap.specs.declared.entries.Entries.{Entries}
use Rattle.icn_heap.specs.declared.entries.Entry.{Entry}
use Rattle.icn_heap.specs.declared.key.Key.{Key}

-- the value of a member, without the key that finds it
abbrev pub member_val : Key × Val → Val
member_val member = member.1

-- the items of a list
abbrev pub list_vals : NumberedList Val → List Val
list_vals list = list.items

-- the members of a set
abbrev pub set_vals : List (Key × Val) → List Val
set_vals members = map member_val members

-- the key and the value of an entry of a table
abbrev pub entry_both : Entry → List Val
entry_both entry = entry.key ∷ entry.value ∷ []

-- the same of a pair, which has the key that finds it besides
abbrev pub pair_vals : Key × Entry → List Val
pair_vals pair = entry_both pair.1

-- the default of a table, and its keys and values
abbrev pub table_vals : Entries → List Val
table_vals table = table.default ∷ flat_map pair_vals table.pairs

-- the fields of a record
abbrev pub record_vals : HeldRecord → List Val
record_vals held = held.values
