use Rattle.cases_rows.proofs.OpenedFilesHold.{opened_files_hold}
use Rattle.cases_rows.proofs.table.opened_files.Goals as goal

pub returns : goal.returns
returns c = opened_files_hold
