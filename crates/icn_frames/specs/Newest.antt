-- What a kind of the newest suspension says of a stack.
use Rattle.std.specs.Prelude.{◌≡◌, ℤ, Some, None}
use Rattle.icn_frames.specs.declared.layout.Why.{Why}
use Rattle.icn_frames.specs.declared.layout.Why.TheVariants as Whys
use Rattle.icn_frames.specs.declared.layout.Count.{Count}
use Rattle.icn_frames.specs.declared.layout.NewestKind.{NewestKind}
use Rattle.icn_frames.specs.declared.layout.NewestKind.TheVariants as NewestKinds
use Rattle.icn_frames.specs.Slots.{why_counting}
use Rattle.icn_frames.specs.Stacks.{FlatStack, resume}

-- the newest suspension of the innermost mark comes back for this reason
abbrev pub IsHeldBy : Why → FlatStack → Type 0
IsHeldBy why m = (rest : FlatStack) × (resume m ≡ Some (why, rest))

-- the newest suspension of the innermost mark is that of a count
abbrev pub IsCounting : Count → FlatStack → Type 0
IsCounting count m = IsHeldBy (why_counting count.given count.last count.step) m

-- the newest suspension of the innermost mark is of this kind
abbrev pub IsNewest : NewestKind → FlatStack → Type 0
IsNewest NewestKinds.Nothing m = m.registers.newest ≡ None
IsNewest NewestKinds.Alt m = IsHeldBy Whys.Alt m
IsNewest NewestKinds.Count m = (given last step : ℤ) × IsHeldBy (why_counting given last step) m
IsNewest NewestKinds.Escan m = IsHeldBy Whys.Escan m
IsNewest NewestKinds.Proc m = IsHeldBy Whys.Proc m
IsNewest NewestKinds.Other m = (why : Why) × IsHeldBy why m
