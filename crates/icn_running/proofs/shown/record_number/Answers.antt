use Rattle.std.proofs.Common.{◌∙◌, arith, ◌<◌, length}
use Rattle.icn_code.specs.CodeTables.{tables_of}
use Rattle.icn_heap.specs.Heaps.{heap_of}
use Rattle.icn_heap.proofs.StructureNumbers.{record_before, record_below}
use Rattle.icn_run.specs.Step.{all_names}
use Rattle.icn_running.proofs.RecordNumbers.{one_more, no_more, tested, counted_more, counted_same}
use Rattle.icn_running.proofs.shown.record_number.Goals as goal
use Rattle.icn_running.proofs.shown.record_number.Goals.{then-eq, else-eq}

pub made_name-requires : goal.made_name-requires
made_name-requires c = record_before c.args.heap.now c.args.id c.loop-other.other c.loop-other-test.true c.requires

pub loop-other-preserved : goal.loop-other-preserved
loop-other-preserved c =
    let there = record_below c.args.heap.now c.args.id c.requires in
    let below : c.loop-other.other < length (heap_of c.args.heap.now).records = omega (arith, there, c.loop-other-test.true) in
    elim c.if-eq.branch [
      | then-eq w ↦ record {
        count =
            w.number-is ∙ counted_more c.loop-other.number _ _ c.loop-other.invariant.count
            (one_more (all_names (tables_of c.args.code.now)) c.args.heap.now c.args.id c.loop-other.other below
            (tested _ _ _ _ _ _ c.eq.ensures c.made_name.ensures c.record_name-name.ensures w.if-eq.true));
        small = omega (arith, w.number-is);
      }
      | else-eq w ↦ record {
        count =
            w.number-is ∙ counted_same c.loop-other.number _ _ c.loop-other.invariant.count
            (no_more (all_names (tables_of c.args.code.now)) c.args.heap.now c.args.id c.loop-other.other below
            (tested _ _ _ _ _ _ c.eq.ensures c.made_name.ensures c.record_name-name.ensures w.if-eq.false));
        small = omega (arith, w.number-is);
      }
    ]
