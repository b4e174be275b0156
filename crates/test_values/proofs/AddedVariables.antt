-- A world to which a global or a static is added, or whose statics are taken away.
use Rattle.std.proofs.Common.{◌≡◌, ap, Bool, true, false, List, [], ◌∷◌, ◌++◌}
use Rattle.std.specs.Prelude.{if◌then◌else◌}
use Rattle.std.proofs.lemmas.List.Elements.{All-nil, All-push}
use Rattle.icn_value.specs.declared.item.Pair.{Pair}
use Rattle.icn_value.specs.declared.val.Val.{Val}
use Rattle.icn_value.specs.Limited.{Bounds}
use Rattle.icn_value.specs.Store.{Heap}
use Rattle.icn_heap.specs.Extents.{Extent, IsLive}
use Rattle.icn_heap.specs.Heaps.{empty_heap}
use Rattle.icn_vars.specs.declared.words.Words.{Words}
use Rattle.icn_vars.specs.WorldFacts.{IsSoundWorld}

pub global_added : (all : Extent) (pair : Pair) (words : Words) (globals statics items : List Val) (val : Val) (pushed : Bool)
    → IsSoundWorld all pair words globals statics → IsLive all val
    → items ≡ (if pushed then globals ++ val ∷ [] else globals) → IsSoundWorld all pair words items statics
global_added all pair words globals statics items val true sound live is = rw is (record {
  live_globals = All-push (IsLive all) globals val sound.live_globals live;
  live_statics = sound.live_statics;
  subject = sound.subject;
  low = sound.low;
  high = sound.high;
  state = sound.state;
  kept = sound.kept;
  known = sound.known;
})
global_added all pair words globals statics items val false sound live is = rw is sound

pub static_added : (all : Extent) (pair : Pair) (words : Words) (globals statics items : List Val) (val : Val) (pushed : Bool)
    → IsSoundWorld all pair words globals statics → IsLive all val
    → items ≡ (if pushed then statics ++ val ∷ [] else statics) → IsSoundWorld all pair words globals items
static_added all pair words globals statics items val true sound live is = rw is (record {
  live_globals = sound.live_globals;
  live_statics = All-push (IsLive all) statics val sound.live_statics live;
  subject = sound.subject;
  low = sound.low;
  high = sound.high;
  state = sound.state;
  kept = sound.kept;
  known = sound.known;
})
static_added all pair words globals statics items val false sound live is = rw is sound

pub statics_cleared : (all : Extent) (pair : Pair) (words : Words) (globals statics items : List Val) → IsSoundWorld all pair words globals statics → items ≡ []
    → IsSoundWorld all pair words globals items
statics_cleared all pair words globals statics items sound is = rw is (record {
  live_globals = sound.live_globals;
  live_statics = All-nil (IsLive all);
  subject = sound.subject;
  low = sound.low;
  high = sound.high;
  state = sound.state;
  kept = sound.kept;
  known = sound.known;
})

pub no_records : (heap : Heap) (bounds : Bounds) → heap ≡ empty_heap bounds → heap.records ≡ []
no_records heap bounds is = ap (λ (heap : Heap). heap.records) is
