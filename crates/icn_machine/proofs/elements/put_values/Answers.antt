use Rattle.std.proofs.Common.{◌++◌, List, map, ap, ◌∙◌}
use Rattle.icn_value.specs.declared.item.Item.{Item}
use Rattle.icn_value.specs.declared.item.Item.TheVariants as Items
use Rattle.icn_machine.proofs.ElementSteps.{all_done, one_more}
use Rattle.icn_machine.proofs.elements.put_values.Goals as goal

pub loop-first-init : goal.loop-first-init
loop-first-init c = record { so = ap (λ (xs : List Item). xs ++ map Items.Val c.args.vals.now) c.clear.ensures.items }

pub loop-first-preserved : goal.loop-first-preserved
loop-first-preserved c =
    record {
      so = ap (λ (xs : List Item). xs ++ map Items.Val c.in-Some.others.now) c.in_ok-push.ensures.items
          ∙ one_more c.loop-first.items.items c.in-Some.first.now c.in-Some.others.now c.loop-first.rest.now c.args.vals.now c.in-Some.ensures.cases.0
          c.loop-first.invariant.so;
    }

pub returns : goal.returns
returns c = all_done c.loop-first.items.items c.loop-first.rest.now c.args.vals.now c.in_default.ensures.cases c.loop-first.invariant.so
