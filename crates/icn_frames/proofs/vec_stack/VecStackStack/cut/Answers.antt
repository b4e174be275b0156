use Rattle.std.proofs.Common.{◌≤◌, ◌∙◌, ap, reverse, length, arith}
use Rattle.std.proofs.lemmas.List.{length-reverse}
use Rattle.icn_frames.proofs.ReversedLists.{reverse_take}
use Rattle.icn_frames.proofs.vec_stack.VecStackStack.cut.Goals as goal

pub returns-clause-cells : goal.returns-clause-cells
returns-clause-cells g c =
    let s = c.args.self.now.items.items in
    let n : c.args.len ≤ length s = omega (arith, length-reverse s) in
    ap reverse c.truncate.ensures.items ∙ reverse_take c.args.len s n
