-- What holds of every world.
use Rattle.std.specs.Prelude.{◌+◌, ◌<◌, ◌≤◌, ◌^◌, ◌≡◌, List, length, Some, true}
use Rattle.std.specs.List.{All}
use Rattle.std.proofs.Props.{props}
use Rattle.icn_strings.specs.Regions.{IsOf-prop}
use Rattle.icn_value.specs.declared.item.Pair.{Pair}
use Rattle.icn_value.specs.declared.val.Val.{Val}
use Rattle.icn_defs.specs.RowFacts.{is_error_number}
use Rattle.icn_heap.specs.Extents.{Extent, IsLive, IsLive-prop, IsText, text_in}
use Rattle.icn_vars.specs.declared.words.HeldError.{HeldError}
use Rattle.icn_vars.specs.declared.words.Words.{Words}

-- What a world holds is of its heap, and so is the value that an error that is kept is about, whose number is that of an error; the position is one
-- of the subject, and `&random` is below 2 ^ 31.
pub record IsSoundWorld (all : Extent) (pair : Pair) (words : Words)
    (globals statics : List Val) : Type 0 where
  pub live_globals : All (IsLive all) globals
  pub live_statics : All (IsLive all) statics
  pub subject : IsText all pair.subject
  pub low : 1 ≤ pair.position
  pub high : pair.position ≤ length (text_in all pair.subject) + 1
  pub state : words.random < 2 ^ 31
  pub kept : (error : HeldError) (value : Val) → words.kept ≡ Some error → error.value ≡ Some value
      → IsLive all value
  pub known : (error : HeldError) → words.kept ≡ Some error → is_error_number error.number ≡ true

IsText-prop : (all : Extent) (pair : Pair) → IsProp (IsText all pair.subject)
IsText-prop all pair = hlevel IsOf-prop

-- there is one proof at most that a world is sound
pub IsSoundWorld-prop : (all : Extent) (pair : Pair) (words : Words) (globals statics : List Val)
    → IsProp (IsSoundWorld all pair words globals statics)
IsSoundWorld-prop all pair words globals statics = hlevel (IsLive-prop, IsText-prop, props)
