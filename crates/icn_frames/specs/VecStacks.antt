-- What a stack in one block holds.
use Rattle.std.specs.Prelude.{ℕ, ◌-◌, List, reverse, vec_len, vec_capacity}
use Rattle.icn_frames.specs.declared.vec_stack.VecStack.{VecStack}

-- its cells, the newest first
abbrev pub cells_of : {T : Type 0} → VecStack T → List T
cells_of stack = reverse stack.items.items

-- for how many more cells there is room in the block
abbrev pub spare_of : {T : Type 0} → VecStack T → ℕ
spare_of stack = vec_capacity stack.items - vec_len stack.items
