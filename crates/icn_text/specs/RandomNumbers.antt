-- The sequence of random numbers, and a place that one picks.
use Rattle.std.specs.Prelude.{◌+◌, ◌*◌, ◌/◌, ◌%◌, ◌^◌, ℕ}

-- the state behind this one
abbrev pub random_step : ℕ → ℕ
random_step state = (1103515245 * state + 453816694) % 2 ^ 31

-- the place that a state below 2 ^ 31 picks among so many, from 0 on
abbrev pub pick_place : ℕ → ℕ → ℕ
pick_place state size = state * size / 2 ^ 31
