-- Parts of the rows over sets and tables.
use Rattle.icn_value.specs.Values.{Value}
use Rattle.icn_defs.specs.Rows.{◌>>=◌, Row}
use Rattle.icn_defs.specs.Arguments.{keeper}
use Rattle.icn_defs.specs.Structures.{inserts}

-- a member, or a key with its value, is put into a set or a table: 122 for other values
abbrev pub inserts_in : Value → Value → Value → Row → Row
inserts_in kept key value next = do
  found ← keeper kept
  inserts found key value next
