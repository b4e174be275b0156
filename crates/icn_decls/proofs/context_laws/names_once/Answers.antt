use Rattle.icn_decls.proofs.RepeatedNames.{names_told, names_differ}
use Rattle.icn_decls.proofs.context_laws.names_once.Goals as goal

pub returns-clause-kept : goal.returns-clause-kept
returns-clause-kept c = names_told

pub returns-clause-broken : goal.returns-clause-broken
returns-clause-broken c = names_differ
