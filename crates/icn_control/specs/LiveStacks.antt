-- What all stacks of a machine keep: what their cells hold is of its world, each local of its own activation.
use Rattle.std.specs.Prelude.{◌≡◌, ℕ, ◌+◌, ◌<◌, ◌≤◌, List, [], ◌∷◌, length, slice_get, Option, None, Some, ⊤}
use Rattle.std.specs.Option.{option_map_or}
use Rattle.icn_profile.specs.Numbers.{most_levels}
use Rattle.icn_frames.specs.Heights.{cell_at}
use Rattle.icn_value.specs.declared.item.Pair.{Pair}
use Rattle.icn_heap.specs.Extents.{Extent, IsLive, IsText, text_in}
use Rattle.icn_vars.specs.Worlds.{Reach, IsLiveItem}
use Rattle.icn_vars.specs.Outcomes.{IsLiveResidual}
use Rattle.icn_frames.specs.declared.layout.Why.{Why}
use Rattle.icn_frames.specs.declared.layout.Why.TheVariants.{Alt, Op, Scan, Escan, Proc}
use Rattle.icn_frames.specs.declared.layout.Registers.{Registers}
use Rattle.icn_frames.specs.declared.layout.Cell.{Cell}
use Rattle.icn_frames.specs.declared.layout.Cell.TheVariants.{Base, Call, Local, Mark, Limit, Suspension, Operand}
use Rattle.icn_frames.specs.Stacks.{FlatStack, locals_of}
use Rattle.icn_code.specs.Codes.{Tables, Proc as Procedure}

-- how many locals an activation of a procedure has: its parameters and its other locals
abbrev pub variables_of : Procedure → ℕ
variables_of entry = entry.parameters + entry.locals

-- how many locals an activation of the procedure of this number has
abbrev pub variable_count : Tables → ℕ → ℕ
variable_count tables proc = option_map_or variables_of (slice_get tables.procs proc) 0

-- what may be named where so many locals are
abbrev pub with_locals : ℕ → Reach → Reach
with_locals n reach = record reach { locals = n }

-- a saved pair is of the heap, and its position is one of its subject
pub record IsLivePair (all : Extent) (pair : Pair) : Type 0 where
  pub subject : IsText all pair.subject
  pub low : 1 ≤ pair.position
  pub high : pair.position ≤ length (text_in all pair.subject) + 1

-- a scanning pair, if there is one, is of the world
abbrev pub MaybeLivePair : Extent → Option Pair → Type 0
MaybeLivePair all (Some pair) = IsLivePair all pair
MaybeLivePair all None = ⊤

-- what is kept of what was suspended
abbrev pub IsLiveWhy : Reach → Why → Type 0
IsLiveWhy reach Alt = ⊤
IsLiveWhy reach (Op residual) = IsLiveResidual reach residual
IsLiveWhy reach (Scan pair) = IsLivePair reach.extent pair
IsLiveWhy reach Escan = ⊤
IsLiveWhy reach Proc = ⊤

-- a frame, of a call or the base
abbrev pub IsFrame : Option Cell → Type 0
IsFrame (Some (Base proc locals)) = ⊤
IsFrame (Some (Call proc locals level registers place)) = ⊤
IsFrame cell = ⊥

-- how many locals the frame has to which registers lead
abbrev pub locals_at : Registers → List Cell → ℕ
locals_at r cells = locals_of (cell_at r.base cells)

-- a mark of the activation whose frame is at this height, or the frame of an activation
abbrev pub IsMarkOf : ℕ → Option Cell → Type 0
IsMarkOf base (Some (Base proc locals)) = ⊤
IsMarkOf base (Some (Call proc locals level registers place)) = ⊤
IsMarkOf base (Some (Mark label changed r)) = r.base ≡ base
IsMarkOf base (Some (Limit count r)) = r.base ≡ base
IsMarkOf base cell = ⊥

-- registers lead to the frame of an activation, and to a mark of it
pub record IsRooted (r : Registers) (cells : List Cell) : Type 0 where
  pub within : r.base ≤ length cells
  pub frame : IsFrame (cell_at r.base cells)
  pub mark_within : r.mark ≤ length cells
  pub mark : IsMarkOf r.base (cell_at r.mark cells)

-- All cells hold what is of the world, with so many locals in the activation on top. A frame has the locals of its procedure, the count of a limit
-- is above 0, and no call is deeper than 32 bits count.
abbrev pub AreLive : Tables → Reach → ℕ → List Cell → Type 0
AreLive tables reach n [] = ⊤
AreLive tables reach n (Operand item ∷ cells) =
    IsLiveItem (with_locals n reach) item × AreLive tables reach n cells
AreLive tables reach n (Local value ∷ cells) = IsLive reach.extent value × AreLive tables reach n cells
AreLive tables reach n (Base proc locals ∷ cells) =
    (locals ≡ variable_count tables proc) × AreLive tables reach 0 cells
AreLive tables reach n (Call proc locals level r place ∷ cells) =
    (locals ≡ variable_count tables proc)
    × ((level ≤ most_levels) × (IsRooted r cells × AreLive tables reach (locals_at r cells) cells))
AreLive tables reach n (Mark label changed r ∷ cells) =
    IsRooted r cells × AreLive tables reach (locals_at r cells) cells
AreLive tables reach n (Limit count r ∷ cells) =
    (0 < count) × (IsRooted r cells × AreLive tables reach (locals_at r cells) cells)
AreLive tables reach n (Suspension why r place ∷ cells) =
    IsLiveWhy (with_locals (locals_at r cells) reach) why
    × (IsRooted r cells × AreLive tables reach (locals_at r cells) cells)

-- what the cells of a stack hold is of the world
pub record IsLiveStack (tables : Tables) (reach : Reach) (m : FlatStack) : Type 0 where
  pub root : IsRooted m.registers m.cells
  pub cells : AreLive tables reach (locals_at m.registers m.cells) m.cells

-- what is of the world stays of it from one stack to another
abbrev pub StaysLive : FlatStack → FlatStack → Type 0
StaysLive m n = (tables : Tables) (reach : Reach) → IsLiveStack tables reach m → IsLiveStack tables reach n

-- the pair that comes back is of the heap, where the stack was of the world
abbrev pub MaybeStaysLive : FlatStack → Option Pair → Type 0
MaybeStaysLive m pair =
    (tables : Tables) (reach : Reach) → IsLiveStack tables reach m → MaybeLivePair reach.extent pair
