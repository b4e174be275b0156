use Rattle.std.proofs.Common.{IsSome, Option, refl, subst, sym}
use Rattle.icn_value.specs.declared.item.Item.{Item}
use Rattle.icn_value.specs.declared.item.Item.TheVariants as Items
use Rattle.icn_value.specs.declared.val.Val.TheVariants as Vals
use Rattle.icn_control.proofs.texts.push_text.Goals as goal

pub push_plain-requires : goal.push_plain-requires
push_plain-requires g c = subst (λ (o : Option Item). IsSome o) (sym c.short_text_slot.ensures) refl

pub returns-clause-ok : goal.returns-clause-ok
returns-clause-ok g c = c.in_ok-push_plain.ensures.ok (Items.Val (Vals.Text c.args.text)) c.short_text_slot.ensures
