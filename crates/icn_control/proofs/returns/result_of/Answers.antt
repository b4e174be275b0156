use Rattle.std.proofs.Common.{sym, ◌∙◌}
use Rattle.icn_control.proofs.ReturnSteps.{result_value, result_err}
use Rattle.icn_control.proofs.returns.result_of.Goals as goal

pub returns-in_err-v-clause-value : goal.returns-in_err-v-clause-value
returns-in_err-v-clause-value g c =
    result_err c.from_residual.result c.args.world.now c.args.frames.now.flat c.args.item c.in_err-v.field-0.0 c.from_residual.ensures.1
    (sym c.is_local.ensures ∙ c.if-is_local.true) c.in_err-v.ensures.value

pub returns-then-is_local-clause-value : goal.returns-then-is_local-clause-value
returns-then-is_local-clause-value g c =
    result_value c.args.world.now c.args.frames.now.flat c.args.item c.in_ok-v.v (sym c.is_local.ensures ∙ c.if-is_local.true) c.in_ok-v.ensures.value
