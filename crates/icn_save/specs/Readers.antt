-- Reading from the front of bytes, up to where they end too early.
use Rattle.std.specs.Prelude.{◌≡◌, ℕ, zero, suc, List, [], ◌∷◌, length, take, drop, Result, Ok, Err, nat_lt, if◌then◌else◌}
use Rattle.std.specs.Int.{Width, byte_len, from_le_bytes, w32}
use Rattle.icn_tree.specs.declared.rule.Rule.{Rule}
use Rattle.icn_tree.specs.declared.rule.Rule.TheVariants.{G2}
use Rattle.icn_save.specs.declared.fault.SaveFault.{SaveFault}
use Rattle.icn_save.specs.declared.fault.SaveFault.TheVariants.{Broken, NoMemory}

-- a reader gives a value and the bytes behind it
abbrev pub Reader : Type 0 → Type 0
Reader A = List ℕ → Result (A × List ℕ) Rule

infixl 10 ◌>>=◌
-- what is read, and then what comes of it, unless a rule is broken
abbrev pub ◌>>=◌ : {A B : Type 0} → Result A Rule → (A → Result B Rule) → Result B Rule
(Ok x) >>= f = f x
(Err rule) >>= f = Err rule

-- What a function returned, seen by view, is what reading gives, unless memory ran out.
abbrev pub Fails : {Y : Type 0} → SaveFault → Result Y Rule → Type 0
Fails NoMemory read = Unit {0}
Fails (Broken rule) read = read ≡ Err rule

-- what was read is what the definition reads, seen so; or the fault is that of the rule it finds broken
abbrev pub Gives : {X Y : Type 0} → (X → Y) → Result X SaveFault → Result Y Rule → Type 0
Gives view (Ok x) read = read ≡ Ok (view x)
Gives view (Err fault) read = Fails fault read

-- so many bytes
abbrev pub bytes_at : ℕ → Reader (List ℕ)
bytes_at count bytes = if nat_lt (length bytes) count then Err G2 else Ok (take count bytes, drop count bytes)

-- one byte
abbrev pub byte_at : Reader ℕ
byte_at [] = Err G2
byte_at (byte ∷ rest) = Ok (byte, rest)

-- a number, its lowest byte first
unfoldable pub number_at : Width → Reader ℕ
number_at width bytes = do
  number ← bytes_at (byte_len width) bytes
  Ok (from_le_bytes width number.0, number.1)

-- a length that is so wide, and so many bytes
unfoldable pub string_at : Width → Reader (List ℕ)
string_at width bytes = do
  count ← number_at width bytes
  bytes_at count.0 count.1

-- so many of what a reader gives, one behind the other
unfoldable pub times : {A : Type 0} → Reader A → ℕ → Reader (List A)
times read zero bytes = Ok ([], bytes)
times read (suc n) bytes = do
  first ← read bytes
  others ← times read n first.1
  Ok (first.0 ∷ others.0, others.1)

-- how many there are, and then each
unfoldable pub table_at : {A : Type 0} → Reader A → Reader (List A)
table_at read bytes = do
  count ← number_at w32 bytes
  times read count.0 count.1
