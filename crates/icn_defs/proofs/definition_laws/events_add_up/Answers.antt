use Rattle.icn_defs.proofs.Interruptions.{extends_by_closing, extends_by_ending, extends_by_finding, extends_by_writing, extends_put, extends_read, extends_then, left_is_rest}
use Rattle.icn_defs.proofs.definition_laws.events_add_up.Goals as goal

pub returns-clause-put : goal.returns-clause-put
returns-clause-put c = extends_put

pub returns-clause-read : goal.returns-clause-read
returns-clause-read c = extends_read

pub returns-clause-found : goal.returns-clause-found
returns-clause-found c = extends_by_finding

pub returns-clause-written : goal.returns-clause-written
returns-clause-written c = extends_by_writing

pub returns-clause-closed : goal.returns-clause-closed
returns-clause-closed c = extends_by_closing

pub returns-clause-ended : goal.returns-clause-ended
returns-clause-ended c = λ heap outside. extends_by_ending heap.files outside

pub returns-clause-joined : goal.returns-clause-joined
returns-clause-joined c = λ was now later first second one two. extends_then one two

pub returns-clause-rest : goal.returns-clause-rest
returns-clause-rest c = left_is_rest
