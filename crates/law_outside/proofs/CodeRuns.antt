-- Whatever each put and each reading keeps of the outside, every run of a code keeps, whatever its stacks are made of.
use Rattle.std.proofs.Common.{◌≡◌, ℕ, Bool, List, Some, ap, subst}
use Rattle.icn_value.specs.Store.{Outside, World}
use Rattle.icn_defs.specs.Applying.{again, operation_row}
use Rattle.icn_defs.specs.Errors.{error_report}
use Rattle.icn_defs.specs.Rows.{Outcome, Fails, Gives, Suspends, Error, Ends}
use Rattle.icn_defs.specs.Running.{Ending, bound_report, Launch, Observation, with_errors, words_row, after_steps}
use Rattle.icn_defs.specs.StepRows.{Function, apply, coexpression_row, list_row, record_row, text_row}
use Rattle.icn_run.specs.Calls.{Calls}
use Rattle.icn_run.specs.Step as S
use Rattle.icn_run.specs.Step.{Program, State, running, failing, hopping, over, stuck}
use Rattle.icn_run.proofs.StoreLaws.{StoreLaw, LeavesBy}
use Rattle.icn_run.proofs.EveryStep.{StateHolds, FunctionsLeave, start_of, steps}
use Rattle.law_outside.specs.Outsides.{LeavesOutside}
use Rattle.law_outside.proofs.LastingFacts.{Lasting, ended_so}
use Rattle.law_outside.proofs.OutsideRows.{operation_leaves, function_leaves, again_leaves, list_leaves, record_leaves, coexpression_leaves, text_leaves, words_leave}

module _ (b : Lasting) where
  abbrev pub Is : World → Outside → List Bool → Type 0
  Is w outside begun = b.is outside

  abbrev pub Over : Ending → Outside → Type 0
  Over ending outside = b.is outside

  pub leaves : (o : Outcome) (begun : List Bool) → LeavesOutside b.is o → LeavesBy Is Over begun o
  leaves (Fails a) begun h = h
  leaves (Gives i a) begun h = h
  leaves (Suspends i r a) begun h = h
  leaves (Error n v a) begun h = h
  leaves (Ends n a) begun h = ended_so b a.world.heap.files a.outside h

abbrev pub lasting : (P : Program) → Lasting → StoreLaw P
lasting P b = record {
  Is = Is b;
  Over = Over b;
  pair = λ pair w outside begun k. k;
  failed = λ n v w outside begun k. k;
  counted = λ id w outside begun k. k;
  noted = λ proc w outside begun k. k;
  report = λ names n v w outside begun k.
      let report = error_report names w.heap n v in ended_so b w.heap.files (with_errors report outside) (b.errors outside report k);
  bound = λ w outside begun k. b.errors outside bound_report k;
  done = λ w outside begun k. ended_so b w.heap.files outside k;
  operations = λ op items a begun k. leaves b (operation_row op items a) begun (operation_leaves b op items a k);
  resumed = λ r a begun k. leaves b (again r a) begun (again_leaves b r a k);
  lists = λ vs a begun k. leaves b (list_row vs a) begun (list_leaves b vs a k);
  records = λ kind entry vs a begun e l k. leaves b (record_row kind vs a) begun (record_leaves b kind vs a k);
  texts = λ v a begun k. leaves b (text_row v a) begun (text_leaves b v a k);
  words = λ words a begun k. leaves b (words_row words a) begun (words_leave b words a k);
  coexpressions = λ locals a begun k. leaves b (coexpression_row locals a) begun (coexpression_leaves b locals a k);
}

pub functions_leave : {H M : Type 0} (C : Calls H M) (P : Program) (b : Lasting) → FunctionsLeave C P (lasting P b)
functions_leave C P b = λ names func xs a begun k. leaves b (apply names (Function func) xs a) begun (function_leaves b names func xs a k)

module _ {H M : Type 0} (C : Calls H M) (P : Program) (b : Lasting) where
  abbrev record_of : Ending → Outside → Observation
  record_of ending outside = record { ending = ending; outside = outside }

  seen_so : (s : State H M) (seen : Observation) → S.observation s ≡ Some seen → StateHolds C P (lasting P b) s → b.is seen.outside
  seen_so (over ending outside) seen e k = subst b.is (let h : record_of ending outside ≡ seen = cc in ap (λ (o : Observation). o.outside) h) k
  seen_so (running m st) seen e k = absurd (cc e)
  seen_so (failing m st) seen e k = absurd (cc e)
  seen_so (hopping m st) seen e k = absurd (cc e)
  seen_so stuck seen e k = absurd (cc e)

  -- it is so of the outside that a run comes to after so many steps
  pub run_leaves : (m : M) (launch : Launch) (n : ℕ) (seen : Observation) → b.is launch.outside
      → S.observation (after_steps (S.step C P) n (S.start C m P launch)) ≡ Some seen → b.is seen.outside
  run_leaves m launch n seen k e =
      seen_so _ seen e (steps C P (lasting P b) (functions_leave C P b) n (S.start C m P launch)
      (start_of C P (lasting P b) launch.words m (S.first_store P launch) (S.main_of P) k))
