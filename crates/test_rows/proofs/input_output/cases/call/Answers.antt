use Rattle.icn_heap.specs.Extents.{IsLive}
use Rattle.icn_heap.specs.Heaps.{extent_of}
use Rattle.test_rows.proofs.TwoArguments.{all_two}
use Rattle.test_rows.proofs.input_output.cases.call.Goals as goal

pub call_function-outcome-requires-clause-live : goal.call_function-outcome-requires-clause-live
call_function-outcome-requires-clause-live c =
    all_two (IsLive (extent_of c.in_ok-w.w.heap)) c.args.x c.args.y (c.requires.first (extent_of c.in_ok-w.w.heap))
    (c.requires.second (extent_of c.in_ok-w.w.heap))

pub push_outcome-requires-clause-live : goal.push_outcome-requires-clause-live
push_outcome-requires-clause-live c = c.call_function-outcome.ensures
