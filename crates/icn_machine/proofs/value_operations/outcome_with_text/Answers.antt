use Rattle.std.proofs.Common.{IfSome, sym, subst}
use Rattle.icn_value.specs.declared.val.Val.{Val}
use Rattle.icn_value.specs.declared.val.Val.TheVariants as Vals
use Rattle.icn_heap.specs.Extents.{IsLive}
use Rattle.icn_heap.specs.Heaps.{extent_of}
use Rattle.icn_machine.specs.ValueOperations.{ComesOnValues}
use Rattle.icn_machine.proofs.value_operations.outcome_with_text.Goals as goal

pub outcome_of_texts-requires-clause-second : goal.outcome_of_texts-requires-clause-second
outcome_of_texts-requires-clause-second c =
    let live : IsLive (extent_of c.args.world.now.heap) (Vals.Text c.in-Text.t)
    = subst (λ (v : Val). IsLive (extent_of c.args.world.now.heap) v) c.in-Text.is c.requires.second in
    live.live

pub returns-in-Text-clause-row : goal.returns-in-Text-clause-row
returns-in-Text-clause-row c =
    subst (λ (b : Val). IfSome c.outcome_of_texts.result (ComesOnValues c.args.world.now c.args.op (Vals.Text c.args.s) b))
    (sym c.in-Text.is) c.outcome_of_texts.ensures.row
