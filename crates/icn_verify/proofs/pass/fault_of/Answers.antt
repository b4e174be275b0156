use Rattle.std.proofs.Common.{length, ap, subst, sym, ◌≡◌, ◌∙◌}
use Rattle.icn_verify.specs.Passing.{first_table}
use Rattle.icn_verify.specs.ShapeCounts.{IsLowTable}
use Rattle.icn_verify.specs.Stacks.{table_in}
use Rattle.icn_verify.proofs.RisingCounts.{low_first}
use Rattle.icn_verify.proofs.pass.fault_of.Goals as goal

pub judge-requires-clause-low : goal.judge-requires-clause-low
judge-requires-clause-low c =
    let same : table_in c.new-arena.result c.deref_mut.result.now ≡ first_table (length c.args.instrs.now) =
    ap (table_in c.new-arena.result) c.deref_mut.ensures.value ∙ c.in_ok-slots.ensures.table in
    subst (IsLowTable 0) (sym same) (low_first (length c.args.instrs.now))
