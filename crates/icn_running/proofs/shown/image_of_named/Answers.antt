use Rattle.std.proofs.Common.{◌≡◌, IfOk, subst}
use Rattle.icn_defs.specs.Images.{procedure_image}
use Rattle.icn_running.proofs.shown.image_of_named.Goals as goal

pub returns : goal.returns
returns c = subst (λ names. IfOk c.image.result (λ text. text.items ≡ procedure_image names c.args.number)) c.new.ensures c.image.ensures
