-- How a file is written whole: a draft of it is made, filled, and takes the name's place.
use Rattle.std.specs.Prelude.{◌≡◌, ℕ, List, Option, None, Some, IfSome, Result, Ok, Err, string_bytes}
use Rattle.icn_host.specs.FileMaps.{FileMap, KeepsFiles, MakesFile, MovesFile, SetsFile}
use Rattle.icn_host.specs.declared.fault.Fault.{Fault}
use Rattle.icn_host.specs.declared.whole.Draft.{Draft}
use Rattle.icn_host.specs.declared.whole.Written.{Written}
use Rattle.icn_host.specs.declared.whole.Written.TheVariants.{Replaced, Refused}

-- a draft was made and opened; or none, and nothing was changed
abbrev pub HasDraft : {W : Type 0} → (W → List ℕ) → Option FileMap → Option FileMap → Option (Draft W) → Type 0
HasDraft opened before after None = after ≡ before
HasDraft opened before after (Some draft) =
    MakesFile before after (string_bytes draft.name)
    × IfSome before (λ _. opened draft.file ≡ string_bytes draft.name)

-- the one name's file has the other name now; or nothing was changed
abbrev pub HasMoved : Option FileMap → Option FileMap → List ℕ → List ℕ → Result Written Fault → Type 0
HasMoved before after source target (Ok Replaced) = MovesFile before after source target
HasMoved before after source target (Ok Refused) = after ≡ before
HasMoved before after source target (Err fault) = after ≡ before

-- the name holds these bytes now; or each name holds what it held
abbrev pub HasWritten : Option FileMap → Option FileMap → List ℕ → List ℕ → Result Written Fault → Type 0
HasWritten before after name bytes (Ok Replaced) = SetsFile before after name bytes
HasWritten before after name bytes (Ok Refused) = KeepsFiles before after
HasWritten before after name bytes (Err fault) = KeepsFiles before after
