-- The limits of a run, as definitions and laws see them.
use Rattle.std.specs.Prelude.{ℕ, ◌-◌}
use Rattle.icn_profile.specs.Numbers.{default_cells, default_levels, default_strings, most_turns}
use Rattle.icn_value.specs.declared.limits.Limits.{Limits}

-- the limits of a run: its turns, the string bytes and the cells that it may be charged, and how deep procedures call
pub record Bounds : Type 0 where
  pub turns : ℕ
  pub strings : ℕ
  pub cells : ℕ
  pub levels : ℕ

-- limits, as definitions see them
abbrev pub limits_of : Limits → Bounds
limits_of limits =
    record { turns = limits.turns; strings = limits.strings; cells = limits.cells; levels = limits.levels }

-- the limits of a run for which the command sets none
abbrev pub default_limits : Bounds
default_limits =
    record {
      turns = most_turns;
      strings = default_strings;
      cells = default_cells;
      levels = default_levels;
    }
