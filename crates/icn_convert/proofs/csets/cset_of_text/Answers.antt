use Rattle.icn_convert.proofs.MemberLists.{text_more, text_whole}
use Rattle.icn_convert.proofs.csets.cset_of_text.Goals as goal

pub loop-byte-preserved : goal.loop-byte-preserved
loop-byte-preserved c = text_more _ _ c.args.text.now c.loop-byte.byte-index c.loop-byte-test.true c.loop-byte.invariant c.with-cset.ensures

pub returns : goal.returns
returns c = text_whole c.loop-byte.cset c.args.text.now c.loop-byte.byte-index c.loop-byte-test.false c.loop-byte.invariant
