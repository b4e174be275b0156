use Rattle.std.proofs.Common.{ap, sym, ◌∙◌}
use Rattle.icn_tree.proofs.SetMembers.{members_below-zero, member_joins, other_stays}
use Rattle.icn_tree.proofs.byte_set.members.Goals as goal
use Rattle.icn_tree.proofs.byte_set.members.Goals.{then-is_present+in_ok-push, else-is_present}

pub loop-byte-init : goal.loop-byte-init
loop-byte-init c = c.new-members.ensures.items ∙ sym (members_below-zero c.args.bytes.now)

pub loop-byte-preserved : goal.loop-byte-preserved
loop-byte-preserved c = elim c.if-is_present.branch [
  | then-is_present+in_ok-push w ↦ ap (λ v. v.items) w.members-is ∙ w.in_ok-push.ensures.items ∙ member_joins c.loop-byte.byte c.args.bytes.now
      c.loop-byte.members.items c.loop-byte.invariant (sym (c.present-present.ensures c.loop-byte.byte c.loop-byte-test.true) ∙ w.if-is_present.true)
  | else-is_present w ↦ ap (λ v. v.items) w.members-is ∙ other_stays c.loop-byte.byte c.args.bytes.now c.loop-byte.members.items c.loop-byte.invariant
      (sym (c.present-present.ensures c.loop-byte.byte c.loop-byte-test.true) ∙ w.if-is_present.false)
]
