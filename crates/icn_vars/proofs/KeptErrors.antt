-- A world in which an error is kept.
use Rattle.std.proofs.Common.{◌≡◌, ◌∙◌, ℤ, true, List, Option, Some, ap, subst}
use Rattle.std.specs.Prelude.{IfSome}
use Rattle.std.proofs.lemmas.Option.{same_Some}
use Rattle.icn_value.specs.declared.item.Pair.{Pair}
use Rattle.icn_value.specs.declared.val.Val.{Val}
use Rattle.icn_defs.specs.RowFacts.{is_error_number}
use Rattle.icn_heap.specs.Extents.{Extent, IsLive}
use Rattle.icn_vars.specs.declared.words.HeldError.{HeldError}
use Rattle.icn_vars.specs.declared.words.Words.{Words}
use Rattle.icn_vars.specs.WorldFacts.{IsSoundWorld}

-- It is sound where the number is that of an error and the value is of the heap.
pub kept_sound : (all : Extent) (pair : Pair) (words : Words) (count : ℤ) (held : HeldError) (globals statics : List Val)
    → IsSoundWorld all pair words globals statics → IfSome held.value (IsLive all) → is_error_number held.number ≡ true
    → IsSoundWorld all pair (record { random = words.random; error = count; kept = Some held }) globals statics
kept_sound all pair words count held globals statics sound live known = record {
  live_globals = sound.live_globals;
  live_statics = sound.live_statics;
  subject = sound.subject;
  low = sound.low;
  high = sound.high;
  state = sound.state;
  kept = λ error value e v. subst (λ (o : Option Val). IfSome o (IsLive all)) (ap (λ (h : HeldError). h.value) (same_Some held error e) ∙ v) live;
  known = λ error e. subst (λ (h : HeldError). is_error_number h.number ≡ true) (same_Some held error e) known;
}
