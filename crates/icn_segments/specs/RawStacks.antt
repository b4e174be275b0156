-- What a stack over segments holds.
use Rattle.std.specs.Prelude.{ℕ, ◌-◌, ◌*◌, List, length}
use Rattle.icn_segments.specs.declared.raw_stack.RawStack.{RawStack}
use Rattle.icn_segments.specs.Segmented.{values_to}

-- the values, the newest first
abbrev pub values_of : {T : Type 0} → RawStack T → List T
values_of s = values_to s.segments.items s.len

-- for how many more there is room
abbrev pub room_of : {T : Type 0} → RawStack T → ℕ
room_of s = 256 * length s.segments.items - s.len
