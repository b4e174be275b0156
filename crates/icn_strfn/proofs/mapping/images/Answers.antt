use Rattle.std.proofs.Common.{length}
use Rattle.std.proofs.lemmas.Slice.Zip.{zip_end}
use Rattle.icn_strfn.proofs.MappedBytes.{pairs_done}
use Rattle.icn_strfn.proofs.mapping.images.Goals as goal

pub returns : goal.returns
returns c byte below =
    pairs_done c.loop-byte.images c.args.from.now c.args.to.now (length c.loop-byte.yielded) byte
    (zip_end c.args.from.now c.args.to.now c.loop-byte.yielded c.into_iter-byte-iterator.result c.loop-byte.byte-iterator c.next.new.self _ (cc)
    (cc) c.loop-byte.yielded_by c.in-None.is c.next.ensures.steps)
    (c.loop-byte.invariant.goes_on byte below)
