-- Whether a text is a name, and rows that were not begun.
use Rattle.std.proofs.Common.{◌≡◌, ◌∙◌, sym, ap, subst, ℕ, Bool, true, false, List, Result, Ok, Err, IsUtf8}
use Rattle.std.specs.Prelude.{IsErrAnd}
use Rattle.std.specs.List.{All}
use Rattle.std.specs.Str.{is_utf8}
use Rattle.std.proofs.lemmas.Bool.{false_from_ne_true}
use Rattle.std.proofs.lemmas.Str.{is_utf8-from_IsUtf8, IsUtf8-from_is_utf8}
use Rattle.icn_value.specs.declared.mode.FileMode.{FileMode}
use Rattle.icn_value.specs.Store.{Setting}
use Rattle.icn_defs.specs.Rows.{Fails, Row, fails_unless}
use Rattle.icn_heap.specs.Extents.{IsLive}
use Rattle.icn_heap.specs.Heaps.{extent_of}
use Rattle.icn_vars.specs.Stops.{halt_of}
use Rattle.icn_vars.specs.declared.outcome.Outcome.{Outcome}
use Rattle.icn_vars.specs.declared.outcome.Halt.{Halt}
use Rattle.icn_vars.specs.declared.stop.Stop.{Stop}
use Rattle.icn_vars.specs.declared.stop.Stop.TheVariants.{NoMemory as NoMemoryStop}
use Rattle.icn_streams.specs.Answers.{CallState}
use Rattle.icn_streams.specs.Applies.{Applies}
use Rattle.icn_streams.proofs.IdleCalls.{not_begun}
use Rattle.icn_filefn.specs.OpenParts.{opens_named, opens_text}

-- whether the bytes of a text are UTF-8
pub is_text : (bytes : List ℕ) → IsUtf8 bytes → true ≡ is_utf8 bytes
is_text bytes is = sym (is_utf8-from_IsUtf8 bytes is)

pub is_no_text : (bytes : List ℕ) → (IsUtf8 bytes → ⊥) → false ≡ is_utf8 bytes
is_no_text bytes not = sym (false_from_ne_true (is_utf8 bytes) (λ is. not (IsUtf8-from_is_utf8 bytes is)))

pub opens_when : (name : List ℕ) (mode : FileMode) (s : Setting) → is_utf8 name ≡ true → opens_text name mode s ≡ opens_named name mode s
opens_when name mode s is = ap (λ (t : Bool). fails_unless t (opens_named name mode) s) is

pub opens_not : (name : List ℕ) (mode : FileMode) (s : Setting) → is_utf8 name ≡ false → opens_text name mode s ≡ Fails s
opens_not name mode s is = ap (λ (t : Bool). fails_unless t (opens_named name mode) s) is

-- memory was wanting before the row began
pub nothing_begun : (row : Row) (all : CallState) → All (IsLive (extent_of all.world.heap)) all.locals → (stop : Stop) → stop ≡ NoMemoryStop
    → (result : Result Outcome Halt) → IsErrAnd result (λ halt. halt ≡ halt_of stop) → Applies row all all result
nothing_begun row all live stop want (Ok outcome) same = absurd same
nothing_begun row all live stop want (Err halt) same = subst (λ (h : Halt). Applies row all all (Err h)) (sym (same ∙ ap halt_of want)) (not_begun row all live)
