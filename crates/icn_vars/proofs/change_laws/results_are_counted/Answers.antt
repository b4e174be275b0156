use Rattle.icn_vars.proofs.HeapRows.{result_counted}
use Rattle.icn_vars.proofs.change_laws.results_are_counted.Goals as goal

pub returns : goal.returns
returns c id heap = result_counted id heap
