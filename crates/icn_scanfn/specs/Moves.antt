-- What the functions that move do with their integer.
use Rattle.std.specs.Prelude.{◌==◌, ℤ, pos, ◌+ℤ◌, length}
use Rattle.icn_defs.specs.Conversions.{position_of}
use Rattle.icn_defs.specs.Rows.{◌>>=◌, ◌>>◌, Row, thing_or_failure, here, fails_unless}
use Rattle.icn_defs.specs.Scanning.{gives_position, plain_position, tabs_to}

-- to a position of the subject
abbrev pub tabs_by : ℤ → Row
tabs_by n = do
  setting ← here
  place ← thing_or_failure (position_of n (length setting.world.subject))
  tabs_to place

-- so many bytes on from the place of the position
abbrev pub moves_by : ℤ → Row
moves_by n = do
  setting ← here
  place ← thing_or_failure (plain_position (pos setting.world.position +ℤ n) (length setting.world.subject))
  tabs_to place

-- the place of the position, where this position means it
abbrev pub tests_position : ℤ → Row
tests_position n = do
  setting ← here
  place ← thing_or_failure (position_of n (length setting.world.subject))
  fails_unless (place == setting.world.position)
  gives_position place
