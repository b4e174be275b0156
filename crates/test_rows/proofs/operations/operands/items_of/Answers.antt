use Rattle.std.proofs.Common.{refl}
use Rattle.std.proofs.lemmas.List.Elements.{All-push, All-same}
use Rattle.icn_vars.specs.Worlds.{IsLiveItem, reach_of}
use Rattle.test_rows.proofs.operations.operands.items_of.Goals as goal

pub loop-field-preserved : goal.loop-field-preserved
loop-field-preserved c =
    All-same (IsLiveItem (reach_of c.args.w.now c.args.vals.now)) _ _ c.in_ok-add_item.ensures
    (All-push (IsLiveItem (reach_of c.args.w.now c.args.vals.now))
    _ _ c.loop-field.invariant (c.item_of-item.ensures (reach_of c.args.w.now c.args.vals.now) refl c.requires))
