use Rattle.std.proofs.Common.{◌≡◌, ◌+◌, replicate, slice_set, ap, ◌∙◌, refl}
use Rattle.icn_verify.specs.declared.table.Slot.TheVariants.{Free, One}
use Rattle.icn_verify.specs.Stacks.{table_in}
use Rattle.icn_verify.proofs.SlotTables.{first_filled}
use Rattle.icn_verify.proofs.pass.first_slots.Goals as goal

pub returns-clause-table : goal.returns-clause-table
returns-clause-table c =
    let items : c.in_ok-slots.slots.items ≡ replicate (c.args.count + 1) Free = c.in_ok-slots.ensures.items_if_clones_equal (λ y h. h) in
    ap (λ s. table_in c.args.arena.now (slice_set s 0 (One c.start.result))) items
    ∙ first_filled c.args.arena.now c.args.count (c.args.count + 1) c.start.result refl c.start.ensures.shape
