-- Every run of a code whose labels go forward ends by its bound.
use Rattle.std.proofs.Common.{ℕ, Bool, List, refl}
use Rattle.icn_run.specs.Stacks.{flat, empty}
use Rattle.icn_run.specs.Chains.{linked_calls}
use Rattle.icn_run.specs.Step.{Program, Launch}
use Rattle.icn_run.specs.FlatStep as Flat
use Rattle.icn_run.specs.LinkedStep as Linked
use Rattle.law_stacks.specs.Measure.{Forward, EndsFrom}
use Rattle.icn_run.specs.Chains.{empty as no_chain}
use Rattle.law_stacks.proofs.EndsByBound.{ends_by_bound}
use Rattle.law_stacks.proofs.FlatWeights.{flat_weighs}
use Rattle.law_stacks.proofs.LinkedWeights.{linked_weighs}

-- on flat stacks
pub flat_ends : (N : ℕ) (P : Program) → Forward N P → (hidden : List ℕ) (launch : Launch)
    → EndsFrom flat P (Flat.start_hiding P hidden launch)
flat_ends N P code hidden launch = ends_by_bound flat N (flat_weighs N) P launch.bounds.turns code empty hidden launch refl

-- on linked marks
pub linked_ends : (repeats : ℕ → ℕ → Bool) (N : ℕ) (P : Program) → Forward N P → (hidden : List ℕ) (launch : Launch)
    → EndsFrom (linked_calls repeats) P (Linked.start_hiding repeats P hidden launch)
linked_ends repeats N P code hidden launch =
    ends_by_bound (linked_calls repeats) N (linked_weighs repeats N) P launch.bounds.turns code no_chain hidden launch refl
