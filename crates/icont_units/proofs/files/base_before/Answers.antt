use Rattle.icont_units.proofs.NamedFiles.{before_end}
use Rattle.icont_units.proofs.files.base_before.Goals as goal

pub returns : goal.returns
returns c = before_end c.strip_suffix.result c.args.suffix.now c.args.name.now c.strip_suffix.ensures.cases
