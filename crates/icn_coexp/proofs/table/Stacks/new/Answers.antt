use Rattle.std.proofs.Common.{refl}
use Rattle.icn_coexp.proofs.TransferredEntries.{kept_first}
use Rattle.icn_coexp.proofs.table.Stacks.new.Goals as goal

pub invariant_of-result : goal.invariant_of-result
invariant_of-result g c =
    kept_first g.row.K.Denot c.push.new.self.items _ c.args.main (rw (c.new-entries.ensures.items) at c.in_ok-push.ensures.items) refl refl
