use Rattle.icn_machine.proofs.functions_in_place.call_one.Goals as goal

pub returns-then-is_taking : goal.returns-then-is_taking
returns-then-is_taking g c = c.take_in_place.ensures

pub returns : goal.returns
returns g c = c.scan_in_place.ensures
