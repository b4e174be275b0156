use Rattle.std.proofs.Common.{◌∙◌, [], ◌∷◌, ◌++◌, ap, refl}
use Rattle.icn_heap.proofs.NeededSteps.{needed_text}
use Rattle.icn_heap.proofs.needed_values.NeededValues.add_text.Goals as goal

pub returns : goal.returns
returns c =
    needed_text c.args.self.now _ c.args.span
    (c.in_ok-push.ensures.items ∙ ap (λ range. c.args.self.now.ranges.items ++ range ∷ []) c.as_range.ensures) refl
