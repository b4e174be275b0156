use Rattle.std.proofs.Common.{Option, IsSome, refl, sym, ap, ◌∙◌, subst}
use Rattle.icn_value.specs.declared.val.Val.TheVariants.{Coexp as HeldCoexp}
use Rattle.icn_value.specs.declared.item.Item.TheVariants.{Val as HeldVal}
use Rattle.icn_frames.specs.Stacks as held
use Rattle.icn_frames.specs.Stacks.{FlatStack}
use Rattle.icn_coexp.specs.Transfers.{CoexpTable}
use Rattle.icn_control.proofs.CreateSteps.{adds_here}
use Rattle.icn_control.proofs.coexpressions.add_here.Goals as goal

pub frames-frames-requires-2 : goal.frames-frames-requires-2
frames-frames-requires-2 g c = subst (λ (o : Option FlatStack). IsSome o) (sym (ap (λ (x : CoexpTable). x.running) c.in_ok-id.ensures.made)) refl

pub returns : goal.returns
returns g c =
    adds_here c.args.stacks.now.table c.create.new.self.table _ c.frames-frames.result.now.flat c.frames-frames.result.now.flat
    c.frames-frames-2.result.now.flat c.push.new.self.flat c.deref.result.now
    c.proc-proc.result c.address-address.result c.in_ok-id.id c.args.label c.frames-frames.ensures.running refl
    (c.deref.ensures.value ∙ c.in_ok-locals.ensures) c.proc-proc.ensures c.address-address.ensures c.in_ok-id.ensures.made c.in_ok-id.ensures.number
    c.frames-frames-2.ensures.running (c.in_ok-push.ensures.ok ∙ ap (held.push (HeldVal (HeldCoexp c.in_ok-id.id))) c.go.ensures.flat) refl
