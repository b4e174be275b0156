use Rattle.icn_units.proofs.ByteLists.{all_bytes}
use Rattle.icn_units.proofs.bounds.bytes_are.Goals as goal

pub returns : goal.returns
returns c = all_bytes c.args.bytes.now c.type_inv.bytes
