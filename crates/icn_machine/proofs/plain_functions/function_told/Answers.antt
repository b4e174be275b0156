use Rattle.icn_machine.proofs.plain_functions.function_told.Goals as goal

pub returns : goal.returns
returns g c = record { callee = c.in_ok-callee.callee; below = c.in_ok-callee.ensures; invoked = c.in_ok-func.ensures.invoked }
