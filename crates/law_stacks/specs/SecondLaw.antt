-- The run of a code on linked marks and its run on flat stacks agree, whatever procedures no text names.
use Rattle.std.specs.Prelude.{◌≡◌, ℕ, Bool, false, ◌⊎◌, List, Option, Some}
use Rattle.icn_code.specs.Codes.{Tables}
use Rattle.icn_run.specs.Chains.{fixed, Outer, mark, LinkedStack, WaitingChain, linked_calls, outer_of}
use Rattle.icn_run.specs.Step.{Observation, Launch, Store, instruction_at, running, stuck}
use Rattle.icn_run.specs.FlatStep as Flat
use Rattle.icn_run.specs.LinkedStep as Linked
use Rattle.icn_code.specs.declared.instr.Instr.TheVariants as Instrs
use Rattle.law_stacks.specs.SameStates.{Opens}

-- a run lacks something
pub record FlatStuck (hidden : List ℕ) (tables : Tables) (launch : Launch) : Type 0 where
  pub count : ℕ
  pub is : Flat.steps tables count (Flat.start_hiding tables hidden launch) ≡ stuck

-- a run on linked marks lacks something
pub record LinkedStuck (repeats : ℕ → ℕ → Bool) (hidden : List ℕ) (tables : Tables) (launch : Launch)
    : Type 0 where
  pub count : ℕ
  pub is : Linked.steps repeats tables count (Linked.start_hiding repeats tables hidden launch) ≡ stuck

-- The innermost mark has no cell for its label: the procedure has a mark at an address that is not told as one where labels may change.
abbrev pub LacksCell : (ℕ → ℕ → Bool) → (ℕ → ℕ → Option ℕ → Type 0) → Outer → ℕ → Type 0
LacksCell repeats IsMark (mark (fixed label) outside) proc =
    (address : ℕ) × (label : Option ℕ) × (repeats proc address ≡ false) × IsMark proc address label
LacksCell repeats IsMark outer proc = ⊥

-- The run on linked marks comes to a `chfail` in a mark that has no cell for its label.
pub record MissingCell (repeats : ℕ → ℕ → Bool) (hidden : List ℕ) (tables : Tables) (launch : Launch)
    : Type 0 where
  pub count : ℕ
  pub stack : LinkedStack
  pub store : Store WaitingChain
  pub comes : Linked.steps repeats tables count (Linked.start_hiding repeats tables hidden launch)
      ≡ running stack store
  pub label : ℕ
  pub sets : instruction_at (linked_calls repeats) tables stack ≡ Some (Instrs.Chfail label)
  pub missing : LacksCell repeats (Opens tables) (outer_of stack.chain) ((linked_calls repeats).proc stack)

-- Both end alike, or lack something, or neither.
pub record RunsAgree (repeats : ℕ → ℕ → Bool) (hidden : List ℕ) (tables : Tables) (launch : Launch)
    : Type 0 where
  pub to_linked : (observed : Observation) → Flat.RunsHiding hidden tables launch observed
      → Linked.RunsHiding repeats hidden tables launch observed
  pub to_flat : (observed : Observation) → Linked.RunsHiding repeats hidden tables launch observed
      → Flat.RunsHiding hidden tables launch observed
  pub stuck_linked : FlatStuck hidden tables launch → LinkedStuck repeats hidden tables launch
  pub stuck_flat : LinkedStuck repeats hidden tables launch → FlatStuck hidden tables launch

-- The run on linked marks may lack more only where it comes to a missing cell.
pub record RunsAgreeAt (repeats : ℕ → ℕ → Bool) (hidden : List ℕ) (tables : Tables) (launch : Launch)
    : Type 0 where
  pub to_linked : (observed : Observation) → Flat.RunsHiding hidden tables launch observed
      → Linked.RunsHiding repeats hidden tables launch observed
      ⊎ (LinkedStuck repeats hidden tables launch × MissingCell repeats hidden tables launch)
  pub to_flat : (observed : Observation) → Linked.RunsHiding repeats hidden tables launch observed
      → Flat.RunsHiding hidden tables launch observed
  pub stuck_linked : FlatStuck hidden tables launch → LinkedStuck repeats hidden tables launch
  pub stuck_flat : LinkedStuck repeats hidden tables launch
      → FlatStuck hidden tables launch ⊎ MissingCell repeats hidden tables launch
