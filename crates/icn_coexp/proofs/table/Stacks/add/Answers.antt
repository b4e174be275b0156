use Rattle.std.proofs.Common.{List, refl, ap, ◌∙◌}
use Rattle.icn_value.specs.declared.val.Val.{Val}
use Rattle.icn_frames.specs.Stacks as flat
use Rattle.icn_coexp.proofs.AddedEntries.{kept_more}
use Rattle.icn_coexp.proofs.table.Stacks.add.Goals as goal

pub invariant_of-self-2 : goal.invariant_of-self-2
invariant_of-self-2 g c =
    kept_more g.row.K.Denot c.self.inside.entries.items _ c.self.inside.active c.self.inside.running _ c.in_ok-stack.stack c.self.invariant
    c.in_ok-push.ensures.items refl
    (c.in_ok-stack.ensures ∙ ap (λ (w : List Val). flat.begin c.args.proc w c.args.address) c.deref.ensures.value) refl
