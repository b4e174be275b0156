use Rattle.std.proofs.Common.{List, refl}
use Rattle.icn_code.specs.declared.code.LinkedRecord.{LinkedRecord}
use Rattle.icn_code.specs.Codes.{records_of}
use Rattle.icn_link.specs.ImageSizes.{records_size}
use Rattle.icn_link.proofs.ToldCounts.{told_all}
use Rattle.icn_link.proofs.image_size.records_size.Goals as goal

pub returns : goal.returns
returns c =
    told_all (λ (records : List LinkedRecord). records_size (records_of records)) c.args.records.now c.loop-record.record-index c.loop-record.size _ refl
    c.loop-record-test.false c.loop-record.invariant.fits c.loop-record.invariant.sum
