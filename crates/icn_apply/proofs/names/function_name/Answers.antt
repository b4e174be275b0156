use Rattle.std.proofs.Common.{◌∙◌, ap, sym, Some}
use Rattle.icn_text.specs.Funcs.{func_name}
use Rattle.icn_defs.specs.Images.{functions}
use Rattle.icn_apply.proofs.NameLists.{seen_at}
use Rattle.icn_apply.proofs.names.function_name.Goals as goal

pub returns : goal.returns
returns c = seen_at func_name functions c.args.place _ c.requires ∙ ap Some (sym c.name.ensures)
