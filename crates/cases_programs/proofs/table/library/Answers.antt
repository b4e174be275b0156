use Rattle.cases_programs.proofs.LibraryHold.{library_hold}
use Rattle.cases_programs.proofs.table.library.Goals as goal

pub returns : goal.returns
returns c = library_hold
