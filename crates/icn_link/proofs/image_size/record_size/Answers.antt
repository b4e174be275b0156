use Rattle.std.proofs.Common.{◌*◌, arith, length, sym}
use Rattle.icn_link.proofs.ToldCounts.{told_plus, told_same}
use Rattle.icn_link.proofs.image_size.record_size.Goals as goal

pub returns : goal.returns
returns c =
    told_plus (length c.args.fields.now * 4) 8 c.entries_size.result 8 c.saturating_add.result c.entries_size.ensures (sym (told_same 8 (omega arith)))
    c.saturating_add.ensures
