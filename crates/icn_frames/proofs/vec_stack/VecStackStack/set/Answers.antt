use Rattle.std.proofs.Common.{◌<◌, length, arith}
use Rattle.std.proofs.lemmas.List.{length-reverse}
use Rattle.icn_frames.proofs.ReversedLists.{reverse_set}
use Rattle.icn_frames.proofs.vec_stack.VecStackStack.set.Goals as goal

pub returns-clause-cells : goal.returns-clause-cells
returns-clause-cells g c =
    let s = c.args.self.now.items.items in
    let n : c.args.i < length s = omega (arith, length-reverse s) in
    reverse_set c.args.i s c.args.v n
