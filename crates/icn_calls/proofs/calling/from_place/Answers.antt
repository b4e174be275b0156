use Rattle.std.proofs.Common.{sym}
use Rattle.std.proofs.lemmas.List.{take_rest}
use Rattle.std.proofs.Math.ListN.{drop_of_length-le}
use Rattle.icn_calls.proofs.calling.from_place.Goals as goal

pub returns-then-place-vals : goal.returns-then-place-vals
returns-then-place-vals c = take_rest c.args.vals.now c.args.place

pub returns-else-place-vals : goal.returns-else-place-vals
returns-else-place-vals c = sym (drop_of_length-le c.args.vals.now c.if-place-vals.false)
