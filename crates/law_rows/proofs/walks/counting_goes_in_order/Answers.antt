use Rattle.law_rows.proofs.InOrder.{counted_in_order}
use Rattle.law_rows.proofs.walks.counting_goes_in_order.Goals as goal

pub returns : goal.returns
returns c = counted_in_order
