-- Runs in which the outside is another before each step, as where nothing is told of what is read.
use Rattle.std.specs.Prelude.{List, [], ◌∷◌}
use Rattle.icn_value.specs.Store.{Outside}
use Rattle.icn_code.specs.Codes.{Tables}
use Rattle.icn_run.specs.Stacks.{Frames, flat}
use Rattle.icn_run.specs.Step.{State, running, failing, hopping, over, stuck, step}

-- the state with another outside; one in which the run is over, or lacks something, stays as it is
abbrev pub over_outside : {K M : Type 0} → Outside → State K M → State K M
over_outside outside (running m st) = running m (record st { outside = outside })
over_outside outside (failing m st) = failing m (record st { outside = outside })
over_outside outside (hopping m st) = hopping m (record st { outside = outside })
over_outside outside (over ending left) = over ending left
over_outside outside stuck = stuck

-- as many steps as there are outsides, each over its own
abbrev pub run_over : Tables → List Outside → State Frames Frames → State Frames Frames
run_over tables [] state = state
run_over tables (outside ∷ later) state =
    run_over tables later (step flat tables (over_outside outside state))
