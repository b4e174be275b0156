use Rattle.icn_machine.proofs.functions_in_place.call_two.Goals as goal

pub returns-then-is_adding : goal.returns-then-is_adding
returns-then-is_adding g c = c.add_in_place.ensures

pub returns : goal.returns
returns g c = c.lay_out_by.ensures
