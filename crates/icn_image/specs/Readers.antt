-- Reading from the front of bytes, with the first rule that is broken from the left.
use Rattle.std.specs.Prelude.{◌≡◌, ℕ, zero, suc, List, [], ◌∷◌, length, take, drop, Result, Ok, Err, nat_le, nat_lt, if◌then◌else◌}
use Rattle.std.specs.Int.{Width, byte_len, from_le_bytes}
use Rattle.icn_tree.specs.declared.rule.Rule.{Rule}
use Rattle.icn_tree.specs.declared.rule.Rule.TheVariants.{I2, I4}
use Rattle.icn_image.specs.declared.fault.ImageFault.{ImageFault}
use Rattle.icn_image.specs.declared.fault.ImageFault.TheVariants.{Broken, NoMemory}

-- a reader gives a value and the bytes behind it
abbrev pub Reader : Type 0 → Type 0
Reader A = List ℕ → Result (A × List ℕ) Rule

infixl 10 ◌>>=◌
-- what is read, and then what comes of it, unless a rule is broken
abbrev pub ◌>>=◌ : {A B : Type 0} → Result A Rule → (A → Result B Rule) → Result B Rule
(Ok x) >>= f = f x
(Err rule) >>= f = Err rule

-- What a function returned, seen by view, is what reading gives, unless memory ran out.
abbrev pub Fails : {Y : Type 0} → ImageFault → Result Y Rule → Type 0
Fails NoMemory read = Unit {0}
Fails (Broken rule) read = read ≡ Err rule

-- what was read is what the definition reads, seen so; or the fault is that of the rule it finds broken
abbrev pub Gives : {X Y : Type 0} → (X → Y) → Result X ImageFault → Result Y Rule → Type 0
Gives view (Ok x) read = read ≡ Ok (view x)
Gives view (Err fault) read = Fails fault read

-- so many bytes
abbrev pub bytes_at : ℕ → Reader (List ℕ)
bytes_at count bytes = if nat_lt (length bytes) count then Err I2 else Ok (take count bytes, drop count bytes)

-- one byte
abbrev pub byte_at : Reader ℕ
byte_at [] = Err I2
byte_at (byte ∷ rest) = Ok (byte, rest)

-- a number, its lowest byte first
unfoldable pub number_at : Width → Reader ℕ
number_at width bytes = do
  number ← bytes_at (byte_len width) bytes
  Ok (from_le_bytes width number.0, number.1)

-- a count that is at most this one, which is judged as it is read
unfoldable pub count_at : Width → ℕ → Reader ℕ
count_at width most bytes = do
  count ← number_at width bytes
  if nat_le count.0 most then Ok count else Err I4

-- a place in a table of so many entries
unfoldable pub index_at : Width → ℕ → Reader ℕ
index_at width count bytes = do
  place ← number_at width bytes
  if nat_lt place.0 count then Ok place else Err I4

-- so many of what a reader gives, one behind the other
unfoldable pub times : {A : Type 0} → Reader A → ℕ → Reader (List A)
times read zero bytes = Ok ([], bytes)
times read (suc n) bytes = do
  first ← read bytes
  others ← times read n first.1
  Ok (first.0 ∷ others.0, others.1)

-- a table: how many entries it has, and its entries
unfoldable pub table_at : {A : Type 0} → Width → Reader A → Reader (List A)
table_at width read bytes = do
  count ← number_at width bytes
  times read count.0 count.1

-- a table of at most so many entries
unfoldable pub bounded_table_at : {A : Type 0} → Width → ℕ → Reader A → Reader (List A)
bounded_table_at width most read bytes = do
  count ← count_at width most bytes
  times read count.0 count.1
