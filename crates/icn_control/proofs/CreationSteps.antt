-- Co-expressions that a table adds, once it is read.
use Rattle.std.proofs.Common.{◌≡◌, ℕ, suc, List, [], ◌∷◌, ◌++◌, length, map, slice_get, Option, Some, refl, sym, ap, ◌∙◌}
use Rattle.std.specs.Option.{option_map}
use Rattle.std.proofs.lemmas.List.{length-map, map-append}
use Rattle.std.proofs.lemmas.Option.{slice_get-map}
use Rattle.icn_value.specs.declared.val.Val.{Val}
use Rattle.icn_value.specs.Values.{Value}
use Rattle.icn_defs.specs.Rows.{Outcome, Fails, Gives, Suspends, Error, Ends}
use Rattle.icn_heap.specs.Extents.{value_in}
use Rattle.icn_frames.specs.Stacks as held
use Rattle.law_frames.proofs.CallsRead.{locals_read, proc_read}
use Rattle.icn_coexp.specs.Transfers.{Coexp, CoexpTable, values_in, with_copy, with_new}
use Rattle.icn_coexp.proofs.ChangedEntries.{live_entry}
use Rattle.icn_run.specs.Rows.{Val as ItemVal, Var as ItemVar, coexpression_row}
use Rattle.icn_run.specs.Stacks.{Frames, flat}
use Rattle.icn_run.specs.Step as code
use Rattle.icn_run.specs.Step.{State, Store, Fresh, coexp_made, here, with_made, push_item, refreshed_from}
use Rattle.icn_control.specs.Machines.{coexp_in}
use Rattle.icn_control.specs.StackViews.{stack_in, reading_of}
use Rattle.icn_control.specs.TransfersRead.{Beside, store_with}
use Rattle.icn_control.specs.Creations.{with_coexps, charged_and_made, CreationsAreRead}

-- the new one stands behind the others
added_is : (beside : Beside) (t : CoexpTable) (values : List Val) (proc place : ℕ)
    → map (coexp_in beside.all) t.coexps ++ record { status = Fresh; activator = 0; values = map (value_in beside.all) values; proc = proc; address = place }
    ∷ []
    ≡ map (coexp_in beside.all) (with_new values proc place t).coexps
added_is beside t values proc place =
    let new : Coexp = record { status = Fresh; activator = 0; values = values; proc = proc; address = place } in
    sym (map-append (coexp_in beside.all) t.coexps (new ∷ []))

-- whatever the charge comes to
made_by : (beside : Beside) (t : CoexpTable) (values : List Val) (proc place : ℕ) (n : Frames) (o : Outcome)
    → with_made flat o n (store_with beside t) (λ value n st. push_item flat (ItemVal value) n (code.with_new (map (value_in beside.all) values) proc place st))
    ≡ with_made flat o n (store_with beside t) (λ value n st. push_item flat (ItemVal value) n (with_coexps beside (with_new values proc place t) st))
made_by beside t values proc place n (Gives (ItemVal value) seen) =
    let F : List (code.Coexp Frames) → State Frames Frames
    = λ w. push_item flat (ItemVal value) (flat.set_locals seen.locals n)
    (record (store_with beside t) { world = seen.world; outside = seen.outside; coexps = w }) in
    ap F (added_is beside t values proc place)
made_by beside t values proc place n (Gives (ItemVar variable) seen) = refl
made_by beside t values proc place n (Fails seen) = refl
made_by beside t values proc place n (Suspends item rest seen) = refl
made_by beside t values proc place n (Error number value seen) = refl
made_by beside t values proc place n (Ends status seen) = refl

pub adds : (beside : Beside) (t : CoexpTable) (values : List Val) (proc place : ℕ) (n : Frames)
    → coexp_made flat (map (value_in beside.all) values) proc place n (store_with beside t)
    ≡ charged_and_made beside (length values) t (with_new values proc place t) n
adds beside t values proc place n =
    let next : Value → Frames → Store Frames
    → State Frames Frames = λ value n st. push_item flat (ItemVal value) n (code.with_new (map (value_in beside.all) values) proc place st) in
    ap (λ (count : ℕ). with_made flat (coexpression_row count (here flat n (store_with beside t))) n (store_with beside t) next)
    (length-map values (value_in beside.all))
    ∙ made_by beside t values proc place n (coexpression_row (length values) (here flat n (store_with beside t)))

refreshed_is : (beside : Beside) (t : CoexpTable) (n : Frames) (o : Option Coexp) (c : Coexp) → o ≡ Some c
    → refreshed_from flat (option_map (coexp_in beside.all) o) n (store_with beside t) ≡ charged_and_made beside (length (values_in o)) t (with_copy t o) n
refreshed_is beside t n o c e =
    ap (λ (w : Option Coexp). refreshed_from flat (option_map (coexp_in beside.all) w) n (store_with beside t)) e
    ∙ adds beside t c.values c.proc c.address n
    ∙ ap (λ (w : Option Coexp). charged_and_made beside (length (values_in w)) t (with_copy t w) n) (sym e)

-- creations on a table, once it is read, are those of the definitions
pub creations_are : (beside : Beside) (t : CoexpTable) (n : Frames) → CreationsAreRead beside t n
creations_are beside t n = record {
  creates = λ m.
      ap (λ (values : List Value). coexp_made flat values (flat.proc (stack_in beside.all m)) m.address n (store_with beside t))
      (locals_read (reading_of beside.all) m)
      ∙ ap (λ (proc : ℕ). coexp_made flat (map (value_in beside.all) (held.locals m)) proc m.address n (store_with beside t))
      (proc_read (reading_of beside.all) m)
      ∙ adds beside t (held.locals m) (held.proc m) m.address n;
  refreshes = λ k l.
      let c = live_entry Coexp t.coexps (suc k) l in
      ap (λ (o : Option (code.Coexp Frames)). refreshed_from flat o n (store_with beside t)) (slice_get-map (coexp_in beside.all) t.coexps (suc k))
      ∙ refreshed_is beside t n (slice_get t.coexps (suc k)) c.0 c.1;
}
