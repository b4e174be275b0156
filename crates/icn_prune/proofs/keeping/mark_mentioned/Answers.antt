use Rattle.std.proofs.Common.{arith, ap, length, ◌∙◌}
use Rattle.icn_code.specs.CodeTables.{tables_of}
use Rattle.icn_prune.proofs.KeptMarks.{as_long, mentions_end, mentions_next}
use Rattle.icn_prune.proofs.keeping.mark_mentioned.Goals as goal

pub loop-instr-preserved : goal.loop-instr-preserved
loop-instr-preserved c =
    let before = c.loop-instr.marks in
    let after = c.mark_by_instr.new.marks in
    let adds = c.in_ok-mark_by_instr.ensures in
    record {
      left = mentions_next (tables_of c.args.code.now) c.args.entry.now.instrs.items c.deref-instr-items.result.now c.loop-instr.instr-index _
          c.args.marks.now.keep.items before.keep.items after.keep.items before.met.items after.met.items c.deref-instr-items.ensures.value
          c.loop-instr-test.true adds c.loop-instr.invariant.left;
      stay = λ place number g. adds.stay place number (c.loop-instr.invariant.stay place number g);
      as_many = as_long before.keep.items after.keep.items before.met.items after.met.items _ adds
          ∙ c.loop-instr.invariant.as_many;
    }

pub returns : goal.returns
returns c =
    let same = ap length c.deref-instr-items.ensures.value in
    record {
      marks = mentions_end
          (tables_of c.args.code.now) c.args.entry.now.instrs.items c.loop-instr.instr-index c.args.marks.now.keep.items c.loop-instr.marks.keep.items
          (omega (arith, same, c.loop-instr-test.false)) c.loop-instr.invariant.left;
      stay = c.loop-instr.invariant.stay;
    }
