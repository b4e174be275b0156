use Rattle.std.proofs.Common.{arith}
use Rattle.icn_strings.proofs.PackedRows.{block_end, run_place}
use Rattle.icn_strings.proofs.packed.Packed.place_of.Goals as goal

pub returns-then-index-len : goal.returns-then-index-len
returns-then-index-len c =
    run_place c.self.inside.bytes.items c.self.inside.runs.items c.args.self.now c.args.index c.index.result.now c.self.invariant c.self.view_is
    (omega (arith, c.if-index-len.true, c.len.ensures, c.self.inside.runs.ok)) c.index.ensures

pub returns : goal.returns
returns c =
    let end = block_end c.self.inside.bytes.items c.self.inside.runs.items c.args.self.now c.args.index c.self.invariant c.self.view_is
    (omega (arith, c.if-index-len.false, c.len.ensures, c.self.inside.runs.ok)) in
    omega (arith, end, c.len-2.ensures, c.self.inside.bytes.ok)
