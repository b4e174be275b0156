use Rattle.std.proofs.Common.{◌≡◌, Some, ◌<◌, length, arith, sym, subst}
use Rattle.icn_coexp.specs.Transfers.{SeenStacks, CoexpTable, source, give, KeepsOthers}
use Rattle.icn_coexp.specs.KeptEntries.{table_seen, AreInOrder}
use Rattle.icn_coexp.specs.declared.entries.RunningStack.{RunningStack}
use Rattle.icn_coexp.specs.declared.entries.RunningStack.TheVariants.{On}
use Rattle.icn_coexp.proofs.OthersKept.{give_keeps}
use Rattle.icn_coexp.proofs.TransferredEntries.{source_begun, source_live, begun_live, left_begun, left_fits, can_give, kept_on, kept_hop, give_on, give_hop}
use Rattle.icn_coexp.proofs.table.Stacks.give.Goals as goal

pub is_exhausted-requires : goal.is_exhausted-requires
is_exhausted-requires g c =
    let s = c.self.inside in
    let l : c.source-to.result
    < length s.entries.items = source_live g.row.K.Denot s.entries.items s.active _ s.running c.self.invariant (rw (← c.self.view_is) at c.source-to.ensures) in
    omega (arith, l, c.wait.ensures.length, s.entries.ok)

pub invariant_of-self : goal.invariant_of-self
invariant_of-self g c =
    let s = c.self.inside in
    let e = c.wait.new.entries.items in
    let b = left_begun g.row.K.Denot s.entries.items e s.active c.source-to.result s.running c.self.invariant c.wait.ensures.is
    (source_begun g.row.K.Denot s.entries.items s.active _ s.running c.self.invariant (rw (← c.self.view_is) at c.source-to.ensures)) in
    subst (λ (w : RunningStack g.row.K.Denot). AreInOrder e c.source-to.result w) (sym c.wait.ensures.running)
    (kept_hop g.row.K.Denot e c.source-to.result
    _ (left_fits g.row.K.Denot s.entries.items e s.active s.running c.self.invariant (rw (← c.self.view_is) at c.requires.room) c.wait.ensures.is)
    (begun_live g.row.K.Denot e _ b) c.is_exhausted.ensures c.if-is_exhausted.true)

pub returns-then-is_exhausted-clause-table : goal.returns-then-is_exhausted-clause-table
returns-then-is_exhausted-clause-table g c =
    let s = c.self.inside in
    let e = c.wait.new.entries.items in
    let p = rw (← c.self.view_is) at c.source-to.ensures in
    let b = left_begun g.row.K.Denot s.entries.items e s.active c.source-to.result s.running c.self.invariant c.wait.ensures.is
    (source_begun g.row.K.Denot s.entries.items s.active _ s.running c.self.invariant p) in
    subst (λ (w : SeenStacks). give c.args.v w.table ≡ Some (table_seen e c.source-to.result c.wait.new.running)) c.self.view_is
    (give_hop g.row.K.Denot s.entries.items e s.active _ s.running _ c.args.v _ p c.wait.ensures.is
    (begun_live g.row.K.Denot e _ b) c.is_exhausted.ensures c.if-is_exhausted.true c.wait.ensures.running)

pub returns-then-is_exhausted-clause-others : goal.returns-then-is_exhausted-clause-others
returns-then-is_exhausted-clause-others g c =
    let s = c.self.inside in
    let e = c.wait.new.entries.items in
    let p = rw (← c.self.view_is) at c.source-to.ensures in
    let b = left_begun g.row.K.Denot s.entries.items e s.active c.source-to.result s.running c.self.invariant c.wait.ensures.is
    (source_begun g.row.K.Denot s.entries.items s.active _ s.running c.self.invariant p) in
    let after : CoexpTable = table_seen e c.source-to.result c.wait.new.running in
    subst (λ (w : SeenStacks). KeepsOthers w.table.active (source w.table) w.table.coexps after.coexps) c.self.view_is
    (give_keeps c.args.v (table_seen s.entries.items s.active s.running) after
    (give_hop g.row.K.Denot s.entries.items e s.active _ s.running _ c.args.v _ p c.wait.ensures.is
    (begun_live g.row.K.Denot e _ b) c.is_exhausted.ensures c.if-is_exhausted.true c.wait.ensures.running))

pub give_to-stack-requires-clause-live : goal.give_to-stack-requires-clause-live
give_to-stack-requires-clause-live g c =
    let s = c.self.inside in
    let l : c.source-to.result
    < length s.entries.items = source_live g.row.K.Denot s.entries.items s.active _ s.running c.self.invariant (rw (← c.self.view_is) at c.source-to.ensures) in
    omega (arith, l, c.wait.ensures.length, s.entries.ok)

pub give_to-stack-requires-clause-can : goal.give_to-stack-requires-clause-can
give_to-stack-requires-clause-can g c =
    let s = c.self.inside in
    let e = c.wait.new.entries.items in
    let b = left_begun g.row.K.Denot s.entries.items e s.active c.source-to.result s.running c.self.invariant c.wait.ensures.is
    (source_begun g.row.K.Denot s.entries.items s.active _ s.running c.self.invariant (rw (← c.self.view_is) at c.source-to.ensures)) in
    can_give g.row.K.Denot e
    _ _ (left_fits g.row.K.Denot s.entries.items e s.active s.running c.self.invariant (rw (← c.self.view_is) at c.requires.room) c.wait.ensures.is)
    (begun_live g.row.K.Denot e _ b) c.is_exhausted.ensures c.if-is_exhausted.false

pub invariant_of-self-2 : goal.invariant_of-self-2
invariant_of-self-2 g c =
    let s = c.self.inside in
    let e = c.wait.new.entries.items in
    let b = left_begun g.row.K.Denot s.entries.items e s.active c.source-to.result s.running c.self.invariant c.wait.ensures.is
    (source_begun g.row.K.Denot s.entries.items s.active _ s.running c.self.invariant (rw (← c.self.view_is) at c.source-to.ensures)) in
    kept_on g.row.K.Denot e _ _ c.give_to-stack.result (left_fits g.row.K.Denot s.entries.items e s.active s.running c.self.invariant
    (rw (← c.self.view_is) at c.requires.room) c.wait.ensures.is)
    (begun_live g.row.K.Denot e _ b) c.give_to-stack.ensures.is

pub returns-clause-table : goal.returns-clause-table
returns-clause-table g c =
    let s = c.self.inside in
    let e = c.wait.new.entries.items in
    let p = rw (← c.self.view_is) at c.source-to.ensures in
    let b = left_begun g.row.K.Denot s.entries.items e s.active c.source-to.result s.running c.self.invariant c.wait.ensures.is
    (source_begun g.row.K.Denot s.entries.items s.active _ s.running c.self.invariant p) in
    subst (λ (w : SeenStacks). give c.args.v w.table ≡ Some (table_seen c.give_to-stack.new.entries.items c.source-to.result (On c.give_to-stack.result)))
    c.self.view_is (give_on g.row.K.Denot s.entries.items e _ s.active _ s.running c.args.v _ p c.wait.ensures.is
    (left_fits g.row.K.Denot s.entries.items e s.active s.running c.self.invariant (rw (← c.self.view_is) at c.requires.room) c.wait.ensures.is)
    (begun_live g.row.K.Denot e _ b) c.give_to-stack.ensures.stack c.give_to-stack.ensures.is)

pub returns-clause-others : goal.returns-clause-others
returns-clause-others g c =
    let s = c.self.inside in
    let e = c.wait.new.entries.items in
    let p = rw (← c.self.view_is) at c.source-to.ensures in
    let b = left_begun g.row.K.Denot s.entries.items e s.active c.source-to.result s.running c.self.invariant c.wait.ensures.is
    (source_begun g.row.K.Denot s.entries.items s.active _ s.running c.self.invariant p) in
    let after : CoexpTable = table_seen c.give_to-stack.new.entries.items c.source-to.result (On c.give_to-stack.result) in
    subst (λ (w : SeenStacks). KeepsOthers w.table.active (source w.table) w.table.coexps after.coexps) c.self.view_is
    (give_keeps c.args.v (table_seen s.entries.items s.active s.running) after
    (give_on g.row.K.Denot s.entries.items e _ s.active _ s.running c.args.v _ p c.wait.ensures.is
    (left_fits g.row.K.Denot s.entries.items e s.active s.running c.self.invariant (rw (← c.self.view_is) at c.requires.room) c.wait.ensures.is)
    (begun_live g.row.K.Denot e _ b) c.give_to-stack.ensures.stack c.give_to-stack.ensures.is))
