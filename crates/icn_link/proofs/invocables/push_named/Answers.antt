use Rattle.icn_link.specs.Joined.{number_list}
use Rattle.icn_link.specs.Views.{entry_in}
use Rattle.icn_link.proofs.CalledNames.{numbers_pushed}
use Rattle.icn_link.proofs.invocables.push_named.Goals as goal

pub returns-in-Invocable : goal.returns-in-Invocable
returns-in-Invocable c =
    numbers_pushed c.push_number.result (λ name. number_list (entry_in c.args.procs.now name)) _ _
    c.args.decl.now c.in-Invocable.text c.as_slice.result c.in-Invocable.is c.as_slice.ensures c.push_number.ensures
