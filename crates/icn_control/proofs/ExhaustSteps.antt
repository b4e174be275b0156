-- The expression of a co-expression fails.
use Rattle.std.proofs.Common.{◌≡◌, ℕ, suc, ◌<◌, Bool, true, false, nat_lt, Option, Some, None, refl, sym, ap, ◌∙◌, arith}
use Rattle.std.proofs.lemmas.Bool.Decides.{nat_tests}
use Rattle.icn_frames.specs.Stacks.{FlatStack}
use Rattle.icn_coexp.specs.Transfers.{CoexpTable, exhaust, went_by}
use Rattle.icn_coexp.specs.declared.table.AfterTransfer.{AfterTransfer}
use Rattle.icn_code.specs.Codes.{Tables}
use Rattle.icn_run.specs.Stacks.{Frames, flat}
use Rattle.icn_run.specs.Step.{State, Store, failing, hopping, turn_if, exhaust_active, passed_failure, activator_of, with_status, Exhausted}
use Rattle.icn_control.specs.Machines.{running_of}
use Rattle.icn_control.specs.StackViews.{stack_in}
use Rattle.icn_control.specs.TransfersRead.{Beside, is_moved, store_with, land}
use Rattle.icn_control.proofs.TransferSteps.{transfers_read}

-- the same beside, with a turn more
abbrev pub turned : Beside → Beside
turned beside = record beside { turns = suc beside.turns }

pub exhausts : (beside : Beside) (tables : Tables) (t u : CoexpTable) (m : Frames) → nat_lt beside.turns beside.world.heap.bounds.turns ≡ true
    → exhaust t ≡ Some u
    → exhaust_active flat tables m (store_with beside t) ≡ land (turned beside) failing m u u.running
exhausts beside tables t u m b e =
    let event : Store Frames → State Frames Frames = λ st. passed_failure flat (activator_of st.active st) m (with_status st.active Exhausted st) in
    ap (λ (x : Bool). turn_if x (store_with beside t) event) b ∙ (transfers_read (turned beside) t u m).exhausts e

-- the test of `<` passes where it holds
pub nat_lt_true : (m n : ℕ) → m < n → nat_lt m n ≡ true
nat_lt_true m n p = grind (arith, nat_tests)

pub lands_failing : (beside : Beside) (m : Frames) (u : CoexpTable) (went : AfterTransfer) → went ≡ went_by u.running → is_moved went ≡ true
    → land beside failing m u u.running ≡ failing (stack_in beside.all (running_of u.running)) (store_with beside u)
lands_failing beside m u went e w = by_running u.running (sym (ap is_moved e) ∙ w)
  where
    by_running : (o : Option FlatStack) → is_moved (went_by o) ≡ true
        → land beside failing m u o ≡ failing (stack_in beside.all (running_of o)) (store_with beside u)
    by_running (Some n) q = refl
    by_running None q = cc

pub lands_hopping : (beside : Beside) (m : Frames) (u : CoexpTable) (went : AfterTransfer) → went ≡ went_by u.running → is_moved went ≡ false
    → land beside failing m u u.running ≡ hopping m (store_with beside u)
lands_hopping beside m u went e w = by_running u.running (sym (ap is_moved e) ∙ w)
  where
    by_running : (o : Option FlatStack) → is_moved (went_by o) ≡ false → land beside failing m u o ≡ hopping m (store_with beside u)
    by_running (Some n) q = cc
    by_running None q = refl
