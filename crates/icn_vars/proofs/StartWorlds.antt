-- The world with which a run begins.
use Rattle.std.proofs.Common.{◌≡◌, ◌∙◌, refl, ap, ℕ, zero, suc, List, [], ◌∷◌, map, replicate, Option, Some, None, arith}
use Rattle.std.specs.Prelude.{pos}
use Rattle.std.specs.List.{All}
use Rattle.icn_value.specs.Limited.{Bounds}
use Rattle.icn_value.specs.declared.item.Pair.{Pair}
use Rattle.icn_value.specs.declared.val.Span.{Span}
use Rattle.icn_value.specs.declared.val.Val.{Val}
use Rattle.icn_value.specs.declared.val.Val.TheVariants.{Null as NullVal}
use Rattle.icn_value.specs.Values.{Value, Null}
use Rattle.icn_value.specs.Store.{Heap, World as StoreWorld}
use Rattle.icn_defs.specs.Running.{first_heap, first_world}
use Rattle.icn_heap.specs.declared.heap.Heap.{Heap as HeldHeap}
use Rattle.icn_heap.specs.Extents.{Extent, IsLive, IsText, text_in, value_in}
use Rattle.icn_heap.specs.Heaps.{extent_of, heap_of}
use Rattle.icn_vars.specs.declared.words.HeldError.{HeldError}
use Rattle.icn_vars.specs.declared.words.Words.{Words}
use Rattle.icn_vars.specs.WorldFacts.{IsSoundWorld}
use Rattle.icn_vars.specs.Worlds.{new_world}
use Rattle.icn_vars.proofs.GrowingWorlds.{world_over}

-- `&random` and `&error` are 0, and no error is kept
abbrev first_words : Words
first_words = record { random = 0; error = pos 0; kept = None }

none : {A : Type 0} (error : HeldError) → (let k : Option HeldError = None in k) ≡ Some error → A
none error is = absurd (never is)
  where
    never : (let k : Option HeldError = None in k) ≡ Some error → ⊥
    never is = cc

pub new_sound : (all : Extent) (subject : Span) (globals statics : List Val) → IsText all subject → All (IsLive all) globals → All (IsLive all) statics
    → IsSoundWorld all (let pair : Pair = record { subject = subject; position = 1 } in pair) first_words globals statics
new_sound all subject globals statics text live live' = record {
  live_globals = live;
  live_statics = live';
  subject = text;
  low = omega arith;
  high = omega arith;
  state = omega arith;
  kept = λ error value is about. none error is;
  known = λ error is. none error is;
}

-- the subject is empty
pub new_is : (heap : HeldHeap) (subject : Span) (globals statics : List Val) → text_in (extent_of heap) subject ≡ []
    → world_over heap (record { subject = subject; position = 1 }) first_words globals statics ≡ new_world heap globals statics
new_is heap subject globals statics is = ap (λ bytes. let w : StoreWorld = record (new_world heap globals statics) { subject = bytes } in w) is

nulls : (all : Extent) (count : ℕ) → map (value_in all) (replicate count NullVal) ≡ replicate count Null
nulls all zero = refl
nulls all (suc count) = ap (λ rest. Null ∷ rest) (nulls all count)

pub first_is : (heap : HeldHeap) (globals statics : List Val) (bounds : Bounds) (count : ℕ) → heap_of heap ≡ first_heap bounds
    → statics ≡ replicate count NullVal
    → new_world heap globals statics ≡ first_world bounds (map (value_in (extent_of heap)) globals) count
first_is heap globals statics bounds count empty null =
    ap (λ (h : Heap). let w : StoreWorld = record (new_world heap globals statics) { heap = h } in w) empty
    ∙ ap (λ (vals : List Value). let w : StoreWorld = record (first_world bounds (map (value_in (extent_of heap)) globals) count) { statics = vals } in w)
    (ap (map (value_in (extent_of heap))) null ∙ nulls (extent_of heap) count)
