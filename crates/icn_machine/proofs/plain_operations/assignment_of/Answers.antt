use Rattle.icn_machine.proofs.plain_operations.assignment_of.Goals as goal

pub returns : goal.returns
returns g c = record {
  is = c.in_ok-index.ensures;
  within = c.requires.lower c.in_ok-index.index c.in_ok-index.ensures;
  tells = c.in_ok-local.ensures;
}
