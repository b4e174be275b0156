-- What stays of a world and its setting as its heap grows.
use Rattle.std.proofs.Common.{◌≡◌, refl, ap, ℕ, List, map, length, Option, Some, None, arith}
use Rattle.std.specs.Prelude.{ℤ}
use Rattle.std.specs.Option.{option_map}
use Rattle.std.specs.List.{All}
use Rattle.icn_value.specs.declared.item.Pair.{Pair}
use Rattle.icn_value.specs.declared.val.Val.{Val}
use Rattle.icn_value.specs.Values.{Value}
use Rattle.icn_value.specs.Store.{Heap, KeptError, Outside, Setting, World as StoreWorld, having_heap}
use Rattle.icn_heap.specs.declared.heap.Heap.{Heap as HeldHeap}
use Rattle.icn_heap.specs.Extents.{Extent, IsLive, KeepsValues, text_in, value_in}
use Rattle.icn_heap.specs.Heaps.{extent_of, heap_of}
use Rattle.icn_heap.proofs.GrowingHeaps.{live_kept, values_kept}
use Rattle.icn_vars.specs.declared.words.HeldError.{HeldError}
use Rattle.icn_vars.specs.declared.words.Words.{Words}
use Rattle.icn_vars.specs.WorldFacts.{IsSoundWorld}
use Rattle.icn_vars.specs.Worlds.{kept_in}

-- what holds of a world is kept as its heap grows
pub grows : (a b : Extent) (pair : Pair) (words : Words) (globals statics : List Val) → KeepsValues a b → IsSoundWorld a pair words globals statics
    → IsSoundWorld b pair words globals statics
grows a b pair words globals statics keeps sound = record {
  live_globals = live_kept keeps globals sound.live_globals;
  live_statics = live_kept keeps statics sound.live_statics;
  subject = keeps.text pair.subject sound.subject;
  low = sound.low;
  high = (let same : length (text_in b pair.subject) ≡ length (text_in a pair.subject) = ap length (keeps.bytes pair.subject sound.subject) in
      let high = sound.high in omega arith);
  state = sound.state;
  kept = λ error value is about. keeps.live value (sound.kept error value is about);
  known = sound.known;
}

-- the locals stay of the heap
pub locals_grow : (a b : Extent) (locals : List Val) → KeepsValues a b → All (IsLive a) locals → All (IsLive b) locals
locals_grow a b locals keeps live = live_kept keeps locals live

-- the world of these parts
abbrev pub world_over : HeldHeap → Pair → Words → List Val → List Val → StoreWorld
world_over heap pair words globals statics = record {
  heap = heap_of heap;
  subject = text_in (extent_of heap) pair.subject;
  position = pair.position;
  random = words.random;
  globals = map (value_in (extent_of heap)) globals;
  statics = map (value_in (extent_of heap)) statics;
  error = words.error;
  kept = kept_in (extent_of heap) words.kept;
}

-- the setting of these parts
abbrev pub setting_over : Outside → HeldHeap → Pair → Words → List Val → List Val → List Val → Setting
setting_over outside heap pair words globals statics locals = record {
  world = world_over heap pair words globals statics;
  locals = map (value_in (extent_of heap)) locals;
  outside = outside;
}

value_same : (a b : Extent) (value : Option Val) → ((val : Val) → IsLive a val → value_in b val ≡ value_in a val)
    → ((val : Val) → value ≡ Some val → IsLive a val) → option_map (value_in b) value ≡ option_map (value_in a) value
value_same a b None same live = refl
value_same a b (Some val) same live = ap Some (same val (live val refl))

-- the error that is kept stands for the same
pub kept_same : (a b : Extent) (kept : Option HeldError) → ((val : Val) → IsLive a val → value_in b val ≡ value_in a val)
    → ((error : HeldError) (val : Val) → kept ≡ Some error → error.value ≡ Some val → IsLive a val) → kept_in b kept ≡ kept_in a kept
kept_same a b None same live = refl
kept_same a b (Some error) same live =
    ap (λ (about : Option Value). let k : Option KeptError = Some (record { number = error.number; value = about }) in k)
    (value_same a b error.value same (λ val is. live error val refl is))

setting_by : (outside : Outside)
    (position random : ℕ)
    (error : ℤ) {heap heap' : Heap} {subject subject' : List ℕ} {globals globals' statics statics' locals locals' : List Value} {kept kept' : Option KeptError}
    → heap' ≡ heap → subject' ≡ subject → globals' ≡ globals → statics' ≡ statics → locals' ≡ locals → kept' ≡ kept
    → (let w : StoreWorld =
    record { heap = heap; subject = subject; position = position; random = random; globals = globals; statics = statics; error = error; kept = kept } in
    let s : Setting = record { world = w; locals = locals; outside = outside } in s)
    ≡ (let w : StoreWorld =
    record { heap = heap'; subject = subject'; position = position; random = random; globals = globals'; statics = statics'; error = error; kept = kept' } in
    let s : Setting = record { world = w; locals = locals'; outside = outside } in s)
setting_by outside position random error a b c d e f = cc

-- the heap changed, and nothing else
pub heap_changed : (outside : Outside) (old new : HeldHeap) (pair : Pair) (words : Words) (globals statics locals : List Val) {heap : Heap}
    → KeepsValues (extent_of old) (extent_of new) → heap_of new ≡ heap
    → IsSoundWorld (extent_of old) pair words globals statics → All (IsLive (extent_of old)) locals
    → having_heap (λ _. heap) (setting_over outside old pair words globals statics locals) ≡ setting_over outside new pair words globals statics locals
heap_changed outside old new pair words globals statics locals keeps same sound live =
    setting_by outside pair.position words.random words.error same (keeps.bytes pair.subject sound.subject) (values_kept keeps globals sound.live_globals)
    (values_kept keeps statics sound.live_statics) (values_kept keeps locals live)
    (kept_same (extent_of old) (extent_of new) words.kept keeps.value sound.kept)
