use Rattle.std.proofs.Common.{◌≡◌, Some, ◌<◌, length, arith, subst}
use Rattle.icn_coexp.specs.Transfers.{SeenStacks, CoexpTable, source, exhaust, KeepsOthers}
use Rattle.icn_coexp.specs.KeptEntries.{table_seen}
use Rattle.icn_coexp.specs.declared.entries.RunningStack.TheVariants.{On, Hopping}
use Rattle.icn_coexp.proofs.OthersKept.{exhaust_keeps}
use Rattle.icn_coexp.proofs.TransferredEntries.{source_begun, source_live, begun_live, end_begun, end_fits, can_fail, kept_on, kept_hop, exhaust_on, exhaust_hop}
use Rattle.icn_coexp.proofs.table.Stacks.exhaust.Goals as goal

pub is_exhausted-requires : goal.is_exhausted-requires
is_exhausted-requires g c =
    let s = c.self.inside in
    let l : c.source-to.result
    < length s.entries.items = source_live g.row.K.Denot s.entries.items s.active _ s.running c.self.invariant (rw (← c.self.view_is) at c.source-to.ensures) in
    omega (arith, l, c.replace_status.ensures.length, s.entries.ok)

pub invariant_of-self : goal.invariant_of-self
invariant_of-self g c =
    let s = c.self.inside in
    let e = c.replace_status.new.entries.items in
    let b = end_begun g.row.K.Denot s.entries.items e s.active c.source-to.result s.running c.self.invariant c.replace_status.ensures.is
    (source_begun g.row.K.Denot s.entries.items s.active _ s.running c.self.invariant (rw (← c.self.view_is) at c.source-to.ensures)) in
    kept_hop g.row.K.Denot e c.source-to.result
    _ (end_fits g.row.K.Denot s.entries.items e s.active s.running c.self.invariant (rw (← c.self.view_is) at c.requires.other) c.replace_status.ensures.is)
    (begun_live g.row.K.Denot e _ b) c.is_exhausted.ensures c.if-is_exhausted.true

pub returns-then-is_exhausted-clause-table : goal.returns-then-is_exhausted-clause-table
returns-then-is_exhausted-clause-table g c =
    let s = c.self.inside in
    let e = c.replace_status.new.entries.items in
    let p = rw (← c.self.view_is) at c.source-to.ensures in
    let b = end_begun g.row.K.Denot s.entries.items e s.active c.source-to.result s.running c.self.invariant c.replace_status.ensures.is
    (source_begun g.row.K.Denot s.entries.items s.active _ s.running c.self.invariant p) in
    subst (λ (w : SeenStacks). exhaust w.table ≡ Some (table_seen e c.source-to.result Hopping)) c.self.view_is
    (exhaust_hop g.row.K.Denot s.entries.items e s.active _ s.running _ p c.replace_status.ensures.is
    (begun_live g.row.K.Denot e _ b) c.is_exhausted.ensures c.if-is_exhausted.true)

pub returns-then-is_exhausted-clause-others : goal.returns-then-is_exhausted-clause-others
returns-then-is_exhausted-clause-others g c =
    let s = c.self.inside in
    let e = c.replace_status.new.entries.items in
    let p = rw (← c.self.view_is) at c.source-to.ensures in
    let b = end_begun g.row.K.Denot s.entries.items e s.active c.source-to.result s.running c.self.invariant c.replace_status.ensures.is
    (source_begun g.row.K.Denot s.entries.items s.active _ s.running c.self.invariant p) in
    let after : CoexpTable = table_seen e c.source-to.result Hopping in
    subst (λ (w : SeenStacks). KeepsOthers w.table.active (source w.table) w.table.coexps after.coexps) c.self.view_is
    (exhaust_keeps (table_seen s.entries.items s.active s.running) after
    (exhaust_hop g.row.K.Denot s.entries.items e s.active _ s.running _ p c.replace_status.ensures.is
    (begun_live g.row.K.Denot e _ b) c.is_exhausted.ensures c.if-is_exhausted.true))

pub fail_to-stack-requires-clause-live : goal.fail_to-stack-requires-clause-live
fail_to-stack-requires-clause-live g c =
    let s = c.self.inside in
    let l : c.source-to.result
    < length s.entries.items = source_live g.row.K.Denot s.entries.items s.active _ s.running c.self.invariant (rw (← c.self.view_is) at c.source-to.ensures) in
    omega (arith, l, c.replace_status.ensures.length, s.entries.ok)

pub fail_to-stack-requires-clause-can : goal.fail_to-stack-requires-clause-can
fail_to-stack-requires-clause-can g c =
    let s = c.self.inside in
    let e = c.replace_status.new.entries.items in
    let b = end_begun g.row.K.Denot s.entries.items e s.active c.source-to.result s.running c.self.invariant c.replace_status.ensures.is
    (source_begun g.row.K.Denot s.entries.items s.active _ s.running c.self.invariant (rw (← c.self.view_is) at c.source-to.ensures)) in
    can_fail g.row.K.Denot e
    _ _ (end_fits g.row.K.Denot s.entries.items e s.active s.running c.self.invariant (rw (← c.self.view_is) at c.requires.other) c.replace_status.ensures.is)
    b c.is_exhausted.ensures c.if-is_exhausted.false

pub invariant_of-self-2 : goal.invariant_of-self-2
invariant_of-self-2 g c =
    let s = c.self.inside in
    let e = c.replace_status.new.entries.items in
    let b = end_begun g.row.K.Denot s.entries.items e s.active c.source-to.result s.running c.self.invariant c.replace_status.ensures.is
    (source_begun g.row.K.Denot s.entries.items s.active _ s.running c.self.invariant (rw (← c.self.view_is) at c.source-to.ensures)) in
    kept_on g.row.K.Denot e _ _ c.fail_to-stack.result (end_fits g.row.K.Denot s.entries.items e s.active s.running c.self.invariant
    (rw (← c.self.view_is) at c.requires.other) c.replace_status.ensures.is)
    (begun_live g.row.K.Denot e _ b) c.fail_to-stack.ensures.is

pub returns-clause-table : goal.returns-clause-table
returns-clause-table g c =
    let s = c.self.inside in
    let e = c.replace_status.new.entries.items in
    let p = rw (← c.self.view_is) at c.source-to.ensures in
    let b = end_begun g.row.K.Denot s.entries.items e s.active c.source-to.result s.running c.self.invariant c.replace_status.ensures.is
    (source_begun g.row.K.Denot s.entries.items s.active _ s.running c.self.invariant p) in
    subst
    (λ (w : SeenStacks). exhaust w.table ≡ Some (table_seen c.fail_to-stack.new.entries.items c.source-to.result (On c.fail_to-stack.result))) c.self.view_is
    (exhaust_on g.row.K.Denot s.entries.items e _ s.active _ s.running _ p c.replace_status.ensures.is
    (begun_live g.row.K.Denot e _ b) c.fail_to-stack.ensures.stack c.fail_to-stack.ensures.is)

pub returns-clause-others : goal.returns-clause-others
returns-clause-others g c =
    let s = c.self.inside in
    let e = c.replace_status.new.entries.items in
    let p = rw (← c.self.view_is) at c.source-to.ensures in
    let b = end_begun g.row.K.Denot s.entries.items e s.active c.source-to.result s.running c.self.invariant c.replace_status.ensures.is
    (source_begun g.row.K.Denot s.entries.items s.active _ s.running c.self.invariant p) in
    let after : CoexpTable = table_seen c.fail_to-stack.new.entries.items c.source-to.result (On c.fail_to-stack.result) in
    subst (λ (w : SeenStacks). KeepsOthers w.table.active (source w.table) w.table.coexps after.coexps) c.self.view_is
    (exhaust_keeps (table_seen s.entries.items s.active s.running) after
    (exhaust_on g.row.K.Denot s.entries.items e _ s.active _ s.running _ p c.replace_status.ensures.is
    (begun_live g.row.K.Denot e _ b) c.fail_to-stack.ensures.stack c.fail_to-stack.ensures.is))
