use Rattle.icn_machine.proofs.plain_functions.function_called.Goals as goal

pub returns-then-given : goal.returns-then-given
returns-then-given g c = record { names = c.in_ok-func.ensures; given = c.values_told-given.ensures c.if-given.true }
