-- What making co-expressions comes to, once tables and stacks are read.
use Rattle.std.specs.Prelude.{◌≡◌, ◌<◌, ℕ, suc, List, length, map, slice_get, Option, Some, None, Result, MatchResult}
use Rattle.std.specs.List.{All}
use Rattle.icn_value.specs.declared.val.Val.{Val as Held}
use Rattle.icn_value.specs.declared.val.Val.TheVariants.{Coexp as HeldCoexp}
use Rattle.icn_value.specs.declared.item.Item.TheVariants.{Val as HeldVal}
use Rattle.icn_value.specs.Store.{Outside}
use Rattle.icn_defs.specs.Rows.{Gives}
use Rattle.icn_heap.specs.Extents.{IsLive}
use Rattle.icn_heap.specs.Heaps.{extent_of, heap_of}
use Rattle.icn_vars.specs.declared.stop.Stop.{Stop}
use Rattle.icn_vars.specs.declared.world.World.{World}
use Rattle.icn_vars.specs.Outcomes.{HaltsRow}
use Rattle.icn_vars.specs.Stops.{halt_of}
use Rattle.icn_vars.specs.Worlds.{setting_of}
use Rattle.icn_frames.specs.Stacks as held
use Rattle.icn_frames.specs.Stacks.{FlatStack}
use Rattle.icn_coexp.specs.Transfers.{CoexpTable, values_of, with_copy, with_new}
use Rattle.icn_run.specs.Rows.{Val, ACoexp, coexpression_row}
use Rattle.icn_run.specs.Stacks.{Frames, flat}
use Rattle.icn_run.specs.Step.{State, Store, coexp_made, here, with_made, push_item, refresh}
use Rattle.icn_control.specs.TransfersRead.{Beside, store_with}
use Rattle.icn_control.specs.Machines.{coexp_in}
use Rattle.icn_control.specs.StackViews.{stack_in}

-- the co-expressions of a table are those of a store
abbrev pub with_coexps : Beside → CoexpTable → Store Frames → Store Frames
with_coexps beside table st = record st { coexps = map (coexp_in beside.all) table.coexps }

-- a co-expression of so many locals is charged; then the store has the co-expressions of another table, and the value of the new one is pushed
abbrev pub charged_and_made : Beside → ℕ → CoexpTable → CoexpTable → Frames → State Frames Frames
charged_and_made beside count before after n = with_made flat
    (coexpression_row count (here flat n (store_with beside before))) n (store_with beside before)
    (λ value n st. push_item flat (Val value) n (with_coexps beside after st))

-- What a table adds, read, is what the definitions add: to create, a co-expression with the present values of the locals, for the procedure and the
-- place that stand there; to refresh, one with what another one was made with.
pub record CreationsAreRead (beside : Beside) (t : CoexpTable) (n : Frames) : Type 0 where
  pub creates : (m : FlatStack)
      → coexp_made flat (flat.locals (stack_in beside.all m)) (flat.proc (stack_in beside.all m))
      (flat.address (stack_in beside.all m)) n (store_with beside t)
      ≡ charged_and_made beside (length (held.locals m)) t
      (with_new (held.locals m) (held.proc m) m.address t) n
  pub refreshes : (k : ℕ) → suc k < length t.coexps
      → refresh flat (ACoexp (suc k)) n (store_with beside t)
      ≡ charged_and_made beside (length (values_of (suc k) t)) t (with_copy t (slice_get t.coexps (suc k))) n

-- The stack that runs makes a co-expression with the present values of its locals, which begins at its place, and goes on at a label with its value.

-- the same, by the stack that runs, if one does
abbrev pub created_on : ℕ → CoexpTable → Option FlatStack → CoexpTable
created_on label t (Some m) =
    record (with_new (held.locals m) (held.proc m) m.address t)
    { running = Some (held.push (HeldVal (HeldCoexp (length t.coexps))) (held.go label m)) }
created_on label t None = t

-- the co-expressions once the stack that runs has made one, and goes on at a label
abbrev pub create_entry : ℕ → CoexpTable → CoexpTable
create_entry label t = created_on label t t.running

-- The stack that runs gets the value of a co-expression that is made as another one was.

-- the same, by the stack that runs, if one does
abbrev pub copied_on : ℕ → CoexpTable → Option FlatStack → CoexpTable
copied_on id t (Some m) = record (with_copy t
    (slice_get t.coexps id)) { running = Some (held.push (HeldVal (HeldCoexp (length t.coexps))) m) }
copied_on id t None = t

-- the co-expressions once one is made as this one was
abbrev pub copy_entry : ℕ → CoexpTable → CoexpTable
copy_entry id t = copied_on id t t.running

-- A co-expression of so many locals is charged, and is the next one of the heap; or why it is not.
abbrev pub MakesCoexp : {A : Type 0} → ℕ → World → World → Result A Stop → Type 0
MakesCoexp count w v result =
    (outside : Outside) (locals : List Held) → All (IsLive (extent_of w.heap)) locals
    → MatchResult result
    (λ _. coexpression_row count (setting_of outside w locals)
    ≡ Gives (Val (ACoexp (length (heap_of w.heap).coexps))) (setting_of outside v locals))
    (λ stop. HaltsRow (extent_of v.heap) (coexpression_row count) (setting_of outside w locals)
    (setting_of outside v locals) (halt_of stop))
