-- States of the run on linked marks that a run on flat stacks follows: all that a run comes to.
use Rattle.std.proofs.Common.{ℕ, suc, Bool, List}
use Rattle.icn_code.specs.Codes.{Tables}
use Rattle.icn_run.specs.Stacks.{Frames, flat}
use Rattle.icn_run.specs.Chains.{WaitingChain, LinkedStack, linked_calls}
use Rattle.icn_run.specs.Step.{Program, Launch, State, Store, running, step, steps}
use Rattle.icn_run.specs.LinkedStep as L
use Rattle.icn_run.specs.FlatStep as F
use Rattle.law_stacks.specs.SameStates.{Opens, same_running, same_failing, same_hopping, same_over, same_stuck, lost}
use Rattle.law_stacks.proofs.RowsKeep.{rows_keep}
use Rattle.law_stacks.proofs.ScansApart.{ScansApart}
use Rattle.law_stacks.proofs.LinkedAgrees.{linked_agrees, now_apart}
use Rattle.law_stacks.proofs.AgreeingSteps.{SameAs, same_step}
use Rattle.law_stacks.proofs.RenderedMarks.{Lacks}
use Rattle.law_stacks.proofs.SecondLaw.{starts_same}

module _ (repeats : ℕ → ℕ → Bool) (tables : Tables) where
  abbrev Q : Program
  Q = tables

  abbrev Sames : State WaitingChain LinkedStack → State Frames Frames → Type 0
  Sames l f = SameAs (linked_calls repeats) flat Q (Lacks repeats (Opens Q)) (Unit {0}) (linked_agrees repeats (Opens Q)) rows_keep l f

  pub record Shadowed (l : State WaitingChain LinkedStack) : Type 0 where
    pub shadow : State Frames Frames
    pub same : Sames l shadow

  pub shadowed_start : (hidden : List ℕ) (launch : Launch) → Shadowed (L.start_hiding repeats Q hidden launch)
  shadowed_start hidden launch =
      record { shadow = F.start_hiding Q hidden launch; same = starts_same rows_keep repeats hidden tables launch (Unit {0}) }

  pub shadowed_step : (l : State WaitingChain LinkedStack) → Shadowed l → Shadowed (step (linked_calls repeats) Q l)
  shadowed_step l g =
      let s = same_step (linked_calls repeats) flat Q (Lacks repeats (Opens Q)) (Unit {0}) (linked_agrees repeats (Opens Q)) rows_keep (λ x. tt) g.same in
      record { shadow = steps flat Q (suc s.0) g.shadow; same = s.1 }

  abbrev ApartAt : State WaitingChain LinkedStack → Type 0
  ApartAt (running m st) = ScansApart m
  ApartAt l = Unit {0}

  apart_at : {l : State WaitingChain LinkedStack} {f : State Frames Frames} → Sames l f → ApartAt l
  apart_at (same_running {m'} {m} st ks' h) = now_apart repeats (Opens Q) h.world st.active m' m h.here
  apart_at (same_failing st ks' h) = tt
  apart_at (same_hopping st ks' h) = tt
  apart_at same_over = tt
  apart_at same_stuck = tt
  apart_at (lost x) = tt

  -- where it runs, its open scans are another each
  pub shadowed_apart : (m : LinkedStack) (st : Store WaitingChain) → Shadowed (running m st) → ScansApart m
  shadowed_apart m st g = apart_at g.same
