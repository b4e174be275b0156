use Rattle.std.proofs.Common.{List, ◌∷◌, ap, ◌∙◌}
use Rattle.icn_frames.specs.declared.layout.Cell.{Cell}
use Rattle.icn_frames.specs.CalledWith.{called_cell}
use Rattle.icn_frames.proofs.steps.put_frame.Goals as goal

pub returns-clause-cells : goal.returns-clause-cells
returns-clause-cells g c cell rest e =
    c.push_call.ensures.cells ∙ ap (λ (s : List Cell). called_cell c.args.frame.now ∷ s) (c.drop_top.ensures.cells cell rest e)
