use Rattle.icn_iofn.proofs.MemberTexts.{none_yet, one_more, all_members}
use Rattle.icn_iofn.proofs.members.push_members.Goals as goal

pub loop-byte-init : goal.loop-byte-init
loop-byte-init c = none_yet c.args.cset.now c.args.buffer.now.items

pub loop-byte-preserved : goal.loop-byte-preserved
loop-byte-preserved c =
    one_more c.args.cset.now c.args.buffer.now.items c.loop-byte.buffer.items c.push_member.new.buffer.items c.loop-byte.byte c.loop-byte.invariant
    c.in_ok-push_member.ensures

pub returns : goal.returns
returns c = all_members c.args.cset.now c.args.buffer.now.items c.loop-byte.buffer.items c.loop-byte.byte c.loop-byte-test.false c.loop-byte.auto.byte-end
    c.loop-byte.invariant
