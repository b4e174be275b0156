-- A list of cells, the newest first. A height counts the cells up to one, which stands there: the lowest has the height 1.
use Rattle.std.specs.Prelude.{ℕ, ◌-◌, List, ◌++◌, length, take, drop, slice_get, slice_set, Option}

-- the lowest cells, up to a height
abbrev pub cut : {T : Type 0} → ℕ → List T → List T
cut height cells = drop (length cells - height) cells

-- the cell at a height
abbrev pub cell_at : {T : Type 0} → ℕ → List T → Option T
cell_at height cells = slice_get cells (length cells - height)

-- another cell at a height
abbrev pub set_cell : {T : Type 0} → ℕ → T → List T → List T
set_cell height cell cells = slice_set cells (length cells - height) cell

-- the cells above one height, up to another, once more on top
abbrev pub with_copy : {T : Type 0} → ℕ → ℕ → List T → List T
with_copy from to cells = take (to - from) (cut to cells) ++ cells
