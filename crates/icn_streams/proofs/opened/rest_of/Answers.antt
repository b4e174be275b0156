use Rattle.std.proofs.lemmas.List.{take_rest}
use Rattle.icn_streams.proofs.opened.rest_of.Goals as goal

pub returns : goal.returns
returns c = take_rest c.args.bytes.now c.args.place
