use Rattle.std.proofs.Common.{◌∙◌, []}
use Rattle.icn_heap.proofs.RefusedChanges.{on_err, other_same}
use Rattle.icn_heap.proofs.members.member_stored_at.Goals as goal

pub returns-in_err-store-clause-err : goal.returns-in_err-store-clause-err
returns-in_err-store-clause-err c =
    on_err c.from_residual.result
    (other_same c.args.sets.now.shelf c.args.set [] c.store.new.self (c.in_err-store.ensures.unchanged ∙ c.at_mut.ensures.thing []))
