-- Texts of the code on a stack.
use Rattle.std.proofs.Common.{◌≡◌, ℕ, List, [], Option, Some, slice_get, sym, ap, ◌∙◌, subst}
use Rattle.icn_value.specs.declared.item.Item.TheVariants.{Val as HeldVal}
use Rattle.icn_value.specs.declared.item.Pair.{Pair}
use Rattle.icn_value.specs.declared.val.Span.{Span}
use Rattle.icn_value.specs.declared.val.Val.{Val}
use Rattle.icn_value.specs.declared.val.Val.TheVariants.{Text as TextVal}
use Rattle.icn_value.specs.Store.{Setting, bare_outside}
use Rattle.icn_heap.specs.declared.heap.Heap.{Heap as HeldHeap}
use Rattle.icn_heap.specs.Extents.{KeepsValues, IsText, text_in}
use Rattle.icn_heap.specs.Heaps.{extent_of, heap_of}
use Rattle.icn_vars.specs.declared.words.Words.{Words}
use Rattle.icn_vars.specs.declared.world.World.{World}
use Rattle.icn_vars.specs.WorldFacts.{IsSoundWorld}
use Rattle.icn_vars.specs.Worlds.{IsLiveItem, KeepsItems, reach_of, world_of}
use Rattle.icn_vars.proofs.GrowingWorlds.{world_over, heap_changed}
use Rattle.std.proofs.lemmas.List.Elements.{All-nil}
use Rattle.icn_heap.specs.Extents.{IsLive}
use Rattle.icn_frames.specs.Stacks as held
use Rattle.icn_frames.specs.Stacks.{FlatStack}
use Rattle.icn_code.specs.declared.instr.Instr.TheVariants as Instrs
use Rattle.icn_code.specs.Codes.{Tables}
use Rattle.icn_run.specs.Rows as rows
use Rattle.icn_run.specs.Stacks.{Frames, flat}
use Rattle.icn_run.specs.Step.{Store, running, with_found, push_item}
use Rattle.icn_control.specs.LiveStacks.{with_locals, IsLiveStack}
use Rattle.icn_control.specs.StackViews.{instruction_state, stack_in}
use Rattle.icn_control.specs.StackAndWorld.{RunsWith}
use Rattle.icn_control.proofs.LiveCalls.{own_locals, live_push}
use Rattle.icn_control.proofs.KeptItems.{stack_stays, stack_same}
use Rattle.icn_control.proofs.StackAndWorldSteps.{same_world}

-- a heap that holds a text more, in a world that is the same
pub world_same : (old new : HeldHeap) (pair : Pair) (words : Words) (globals statics : List Val) → KeepsValues (extent_of old) (extent_of new)
    → heap_of new ≡ heap_of old → IsSoundWorld (extent_of old) pair words globals statics
    → world_over new pair words globals statics ≡ world_over old pair words globals statics
world_same old new pair words globals statics keeps same sound =
    sym
    (ap (λ (s : Setting). s.world) (heap_changed bare_outside old new pair words globals statics [] keeps same sound (All-nil (IsLive (extent_of old)))))

pub string_runs : (w v : World) (t tables : Tables) (m n : FlatStack) (k : ℕ) (bytes : List ℕ) (span : Span) → slice_get tables.strings k ≡ Some bytes
    → text_in (extent_of v.heap) span ≡ bytes → world_of v ≡ world_of w
    → KeepsItems (reach_of w []) (reach_of v []) → IsLiveStack t (reach_of w []) m → n ≡ held.push (HeldVal (TextVal span)) m → (st : Store Frames)
    → st.world ≡ world_of w
    → RunsWith (instruction_state (extent_of w.heap) tables (Instrs.Str k) m st) st v n
string_runs w v t tables m n k bytes span s b world keeps live p st same =
    ap (λ (o : Option (List ℕ)). with_found o (λ text. push_item flat (rows.Val (rows.Text text)) (stack_in (extent_of w.heap) m) st)) s
    ∙ ap (λ (a : Frames). push_item flat (rows.Val (rows.Text bytes)) a st) (sym (stack_same t (reach_of w []) (reach_of v []) m keeps live))
    ∙ ap (λ (text : List ℕ). push_item flat (rows.Val (rows.Text text)) (stack_in (extent_of v.heap) m) st) (sym b)
    ∙ ap (λ (y : FlatStack). running (stack_in (extent_of v.heap) y) st) (sym p)
    ∙ ap (running (stack_in (extent_of v.heap) n)) (same_world v st (same ∙ sym world))

pub string_live : (t : Tables) (w v : World) (m n : FlatStack) (span : Span) → IsText (extent_of v.heap) span → KeepsItems (reach_of w []) (reach_of v [])
    → n ≡ held.push (HeldVal (TextVal span)) m → IsLiveStack t (reach_of w []) m
    → IsLiveStack t (reach_of v []) n
string_live t w v m n span b keeps p live =
    let text : IsLiveItem (with_locals (own_locals m) (reach_of v [])) (HeldVal (TextVal span)) = record { live = record { live = b } } in
    subst (λ (x : FlatStack). IsLiveStack t (reach_of v []) x) (sym p)
    (live_push t (reach_of v []) m (HeldVal (TextVal span)) (stack_stays t (reach_of w []) (reach_of v []) m keeps live) text)
