use Rattle.std.proofs.Common.{◌∙◌, refl}
use Rattle.std.proofs.lemmas.Str.{is_utf8-from_IsUtf8}
use Rattle.icn_save.proofs.Judging.{not_text}
use Rattle.icn_save.proofs.reading.text.Goals as goal

pub returns-in_default : goal.returns-in_default
returns-in_default c = (not_text c.args.bytes.now c.in_default.ensures.cases.0, refl)

pub returns : goal.returns
returns c = (is_utf8-from_IsUtf8 _ c.in-Ok.ensures.cases.1, c.in_ok-from_str.ensures.ok ∙ c.in-Ok.ensures.cases.0)
