-- Csets of the code, and keywords.
use Rattle.std.proofs.Common.{◌≡◌, ℕ, ◌<◌, List, length, slice_get, Option, Some, None, IfSome, refl, sym, ap, ◌∙◌, subst}
use Rattle.std.proofs.lemmas.Option.{same_Some, slice_get_within}
use Rattle.icn_value.specs.declared.cset.Cset.{Cset}
use Rattle.icn_value.specs.declared.item.Item.TheVariants.{Val as HeldVal}
use Rattle.icn_value.specs.declared.val.Val.TheVariants.{Chars as CharsVal}
use Rattle.icn_value.specs.Members.{members_of}
use Rattle.icn_heap.specs.declared.heap.Heap.{Heap as HeldHeap}
use Rattle.icn_heap.specs.Heaps.{extent_of, heap_of}
use Rattle.icn_vars.specs.Worlds.{Reach}
use Rattle.icn_frames.specs.Stacks as held
use Rattle.icn_frames.specs.Stacks.{FlatStack}
use Rattle.icn_coexp.specs.Transfers as table
use Rattle.icn_coexp.specs.Transfers.{Coexp, CoexpTable, OneIsActive}
use Rattle.icn_code.specs.declared.instr.Instr.TheVariants as Instrs
use Rattle.icn_code.specs.Codes.{Tables}
use Rattle.icn_run.specs.Rows as rows
use Rattle.icn_run.specs.Stacks.{flat}
use Rattle.icn_run.specs.Step as code
use Rattle.icn_run.specs.Step.{Active, running, with_found, push_item}
use Rattle.icn_control.specs.LiveStacks.{IsLiveStack}
use Rattle.icn_control.specs.StackViews.{stack_in, GoesOnIn}
use Rattle.icn_control.specs.Machines.{AreLiveStacks, IsLiveRunning}

-- the members of a set, said twice
members_same : (set : Cset) → members_of set ≡ code.members_of set
unfolding members_of
members_same set = refl

pub cset_runs : (m n : FlatStack) (tables : Tables) (k : ℕ) (set : Cset) → slice_get tables.csets k ≡ Some set → n ≡ held.push (HeldVal (CharsVal set)) m
    → GoesOnIn tables (Instrs.Cset k) m n
cset_runs m n tables k set s p all st =
    ap (λ (o : Option Cset). with_found o (λ x. push_item flat (rows.Val (rows.Chars (code.members_of x))) (stack_in all m) st)) s
    ∙ ap (λ (w : List ℕ). push_item flat (rows.Val (rows.Chars w)) (stack_in all m) st) (sym (members_same set))
    ∙ ap (λ (y : FlatStack). running (stack_in all y) st) (sym p)

-- What may be named

-- a heap counts its co-expressions
pub coexps_counted : (heap : HeldHeap) → (extent_of heap).coexps ≡ length (heap_of heap).coexps
unfolding extent_of heap_of
coexps_counted heap = refl

-- the active one is there, where a stack runs
pub active_there : (t : CoexpTable) (m : FlatStack) → t.running ≡ Some m → OneIsActive t → t.active < length t.coexps
active_there t m r one = by_entry (slice_get t.coexps t.active) refl (one.here ∙ ap table.active_status r)
  where
    by_entry : (o : Option Coexp) → slice_get t.coexps t.active ≡ o → table.status_in o ≡ Active → t.active < length t.coexps
    by_entry (Some c) g e = slice_get_within t.coexps t.active c g
    by_entry None g e = cc

-- the stack that runs is of the world
pub running_live : (tables : Tables) (reach : Reach) (t : CoexpTable) (m : FlatStack) → t.running ≡ Some m → AreLiveStacks tables reach t
    → IsLiveStack tables reach m
running_live tables reach t m r k = subst (λ (w : Option FlatStack). IsLiveRunning tables reach w) r k.runs

pub if_there : {A : Type 0} (o : Option A) (x : A) (P : A → Type 0) → o ≡ Some x → IfSome o P → P x
if_there (Some y) x P e p = subst P (same_Some _ _ e) p
if_there None x P e p = cc
