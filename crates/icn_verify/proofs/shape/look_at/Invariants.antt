use Rattle.std.proofs.Common.{◌≡◌, drop}
use Rattle.icn_verify.specs.Shapes.{look_of, plain_of}
use Rattle.icn_verify.proofs.BaseLevels.{look_by}
use Rattle.icn_verify.proofs.shape.look_at.Given as goal

abbrev pub invariant-loop-mark : goal.invariant-loop-mark
invariant-loop-mark l = look_by l.shape.in_create l.inner l.outside (drop l.mark-index l.marks) ≡ look_of (plain_of l.shape)
