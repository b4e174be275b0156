use Rattle.icn_link.proofs.ReferenceTables.{entered}
use Rattle.icn_link.proofs.gathered.enter.Goals as goal

pub returns : goal.returns
returns c = entered c.args.texts.now.keys c.insert_full.new.self.keys c.args.text c.in_ok-insert_full.ensures.keys
