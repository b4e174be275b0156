-- What a store of files holds, and what reading and writing a file does. Nothing is said of a store that doesn't tell it.
use Rattle.std.specs.Prelude.{◌≡◌, ◌⊎◌, ◌<◌, ℕ, All, List, [], ◌++◌, take, Option, None, Some, IfSome, unwrap_or, String, Vec}
use Rattle.std.specs.BTreeMap.{BTreeMap, get_by_text}
use Rattle.std.specs.Map.{update}
use Rattle.std.specs.Option.{option_map}
use Rattle.std.specs.Io.KnownBytes.{append_known}
use Rattle.std.specs.Str.{bytes_eq}

-- the content of the file of each name, if there is one
abbrev pub FileMap : Type 0
FileMap = List ℕ → Option (List ℕ)

-- how often a store has failed, has wanted memory, and a file was not there, up to the greatest `u64`
pub record StoreCounts : Type 0 where
  pub faults : ℕ
  pub wants : ℕ
  pub absences : ℕ

-- a store that has failed, wanted memory and missed a file so often
abbrev pub store_counts : ℕ → ℕ → ℕ → StoreCounts
store_counts faults wants absences = record { faults = faults; wants = wants; absences = absences }

-- a store of files: what each name holds, where it tells it, and its counts
pub record StoreState : Type 0 where
  pub held : Option FileMap
  pub counts : StoreCounts

-- a store that holds this, with these counts
abbrev pub store_state : Option FileMap → StoreCounts → StoreState
store_state held counts = record { held = held; counts = counts }

-- each file's content is one of bytes
abbrev pub HoldBytes : FileMap → Type 0
HoldBytes files = (name bytes : List ℕ) → files name ≡ Some bytes → All (λ byte. byte < 256) bytes

-- the file is there, and its first bytes, up to so many, were appended
abbrev pub Reads : Option FileMap → List ℕ → ℕ → List ℕ → List ℕ → Type 0
Reads held name count before after =
    IfSome held (λ files. (bytes : List ℕ) × (files name ≡ Some bytes) × (after ≡ before ++ take count bytes))

-- a part of its first bytes was appended, nothing where it is not there
abbrev pub ReadsPart : Option FileMap → List ℕ → ℕ → List ℕ → List ℕ → Type 0
ReadsPart held name count before after =
    IfSome held (λ files. (n : ℕ) × (after ≡ before ++ take n (take count (unwrap_or (files name) []))))

-- where the store tells, it has no file of this name
abbrev pub NotHeld : Option FileMap → List ℕ → Type 0
NotHeld held name = IfSome held (λ files. files name ≡ None)

-- the name holds this content now, and every other name what it held
abbrev pub Changes : FileMap → FileMap → List ℕ → Option (List ℕ) → Type 0
Changes old new name content = (q : List ℕ) → new q ≡ update bytes_eq old name content q

-- where the store told what it holds, it still does, and this became of it
abbrev pub Follows : Option FileMap → Option FileMap → (FileMap → FileMap → Type 0) → Type 0
Follows before after change = IfSome before (λ old. (new : FileMap) × (after ≡ Some new) × change old new)

-- what a broken write of these bytes may leave: nothing, what was there, or a part of the bytes from their start
abbrev pub IsLeftBehind : Option (List ℕ) → List ℕ → Option (List ℕ) → Type 0
IsLeftBehind was bytes content =
    (content ≡ None) ⊎ (content ≡ was) ⊎ ((n : ℕ) × (content ≡ Some (take n bytes)))

-- the name holds these bytes now
pub record SetsFile (before after : Option FileMap) (name bytes : List ℕ) : Type 0 where
  pub follows : Follows before after (λ old new. Changes old new name (Some bytes))

-- the name holds what a broken write of these bytes may leave
pub record SetsPart (before after : Option FileMap) (name bytes : List ℕ) : Type 0 where
  pub follows : Follows before after (λ old new. (content : Option (List ℕ))
      × IsLeftBehind (old name) bytes content × Changes old new name content)

-- the file of this name, where there is one, has these bytes more
pub record GrowsFile (before after : Option FileMap) (name bytes : List ℕ) : Type 0 where
  pub follows : Follows before after (λ old new. Changes old new name (append_known (old name) bytes))

-- the file of this name, where there is one, has some first part of these bytes more
pub record GrowsFilePart (before after : Option FileMap) (name bytes : List ℕ) : Type 0 where
  pub count : ℕ
  pub grows : GrowsFile before after name (take count bytes)

-- each name holds what it held
pub record KeepsFiles (before after : Option FileMap) : Type 0 where
  pub follows : Follows before after (λ old new. (q : List ℕ) → new q ≡ old q)

-- no file has the name any more
pub record TakesAway (before after : Option FileMap) (name : List ℕ) : Type 0 where
  pub follows : Follows before after (λ old new. Changes old new name None)

-- the second name holds what the first held, which holds nothing now; where both are one, it stays
pub record MovesFile (before after : Option FileMap) (source target : List ℕ) : Type 0 where
  pub follows : Follows before after (λ old new. (q : List ℕ)
      → new q ≡ update bytes_eq (update bytes_eq old source None) target (old source) q)

-- a reader of the file of this name tells what it holds
abbrev pub TellsFile : Option FileMap → List ℕ → Option (List ℕ) → Type 0
TellsFile held name remaining =
    IfSome held (λ files. (bytes : List ℕ) × (files name ≡ Some bytes) × (remaining ≡ Some bytes))

-- a new file stands under a name that none had, and it is empty
pub record MakesFile (before after : Option FileMap) (name : List ℕ) : Type 0 where
  pub free : NotHeld before name
  pub empty : SetsFile before after name []

-- what a map of texts to bytes holds for each name
abbrev pub file_map : {Y Z : Type 0} → BTreeMap (String Y) (Vec ℕ Z) → FileMap
file_map m name = option_map (λ v. v.items) (get_by_text m name)
