use Rattle.std.proofs.Common.{sym, ap, ◌∙◌}
use Rattle.icn_image.specs.Reading.{func_start}
use Rattle.icn_image.proofs.global.function_start.Goals as goal

pub returns-in-Some : goal.returns-in-Some
returns-in-Some c = ap func_start (sym c.func_numbered.ensures ∙ c.in-Some.is)

pub returns-in-None : goal.returns-in-None
returns-in-None c = ap func_start (sym c.func_numbered.ensures ∙ c.in-None.is)
