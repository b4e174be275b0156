use Rattle.std.proofs.Common.{◌*◌, ◌++◌, ◌∙◌, ap}
use Rattle.std.specs.List.{flat_map}
use Rattle.icont_units.specs.Generated.{numbered_from, numbers, procedure_lines}
use Rattle.icont_units.proofs.ProgramLines.{all_lines, plus_four, plus_three, plus_two}
use Rattle.icont_units.proofs.program_lines.source_lines.Goals as goal

pub returns : goal.returns
returns c = all_lines c.args.count _ _ _ _ _ _ _ _ _ _ _ _ _ _ _ (plus_two (3 * c.args.count)) (plus_three (3 * c.args.count)) (plus_four (4 * c.args.count))
    (λ later. c.in_ok-add_procedures.ensures later
    ∙ ap (λ xs. xs ++ numbered_from 1 (flat_map procedure_lines (numbers c.args.count) ++ later)) c.new-lines.ensures.items)
    c.in_ok-push.ensures.items c.in_ok-push-2.ensures.items c.in_ok-plain_line.ensures c.in_ok-plain_line-2.ensures
    c.in_ok-add_sums.ensures
    c.in_ok-push-3.ensures.items c.in_ok-push-4.ensures.items c.in_ok-plain_line-3.ensures c.in_ok-plain_line-4.ensures
