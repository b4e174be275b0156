use Rattle.icont_units.proofs.ProgramLines.{plus_one, plus_two, procedure_put}
use Rattle.icont_units.proofs.program_lines.add_procedure.Goals as goal

pub returns : goal.returns
returns c = procedure_put c.args.lines.now.items _ _ _ _ _ _ c.args.number _ _ c.args.i (plus_one c.args.number) (plus_two c.args.number)
    c.in_ok-push.ensures.items c.in_ok-push-2.ensures.items c.in_ok-push-3.ensures.items
    c.in_ok-line_of.ensures c.in_ok-line_of-2.ensures c.in_ok-plain_line.ensures
