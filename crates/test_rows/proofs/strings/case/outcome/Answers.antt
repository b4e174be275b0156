use Rattle.std.proofs.Common.{◌∙◌, ap}
use Rattle.icn_value.specs.Store.{Heap}
use Rattle.test_rows.proofs.strings.case.outcome.Goals as goal

pub loop-word-preserved : goal.loop-word-preserved
loop-word-preserved c = ap (λ (heap : Heap). heap.records) c.add_argument.ensures ∙ c.loop-word.invariant
