use Rattle.std.proofs.Common.{sym, ◌∙◌}
use Rattle.icn_verify.proofs.BaseLevels.{look_from}
use Rattle.icn_verify.proofs.shape.look_at.Goals as goal

pub loop-mark-init : goal.loop-mark-init
loop-mark-init c = look_from c.args.shape.now.in_create c.in-Some.base.now c.in-Some.marks.now c.args.shape.now.marks.items (sym c.deref.ensures.value
    ∙ c.in-Some.ensures.cases.0)
