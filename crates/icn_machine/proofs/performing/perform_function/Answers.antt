use Rattle.icn_machine.proofs.performing.perform_function.Goals as goal

pub perform_once-requires-clause-once : goal.perform_once-requires-clause-once
perform_once-requires-clause-once g c = c.gives_once.ensures c.if-gives_once.true
