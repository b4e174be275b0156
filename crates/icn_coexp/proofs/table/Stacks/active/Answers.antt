use Rattle.std.proofs.Common.{ℕ, ◌<◌, length, refl, sym, subst}
use Rattle.std.proofs.lemmas.List.{length-map}
use Rattle.icn_coexp.specs.KeptEntries.{coexp_seen, table_seen}
use Rattle.icn_coexp.specs.Transfers.{source}
use Rattle.icn_coexp.proofs.TransferredEntries.{source_live}
use Rattle.icn_coexp.proofs.OthersKept.{one_is, main_begun, main_goes_on}
use Rattle.icn_coexp.proofs.table.Stacks.active.Goals as goal

pub returns-clause-one : goal.returns-clause-one
returns-clause-one g c = rw (← c.self.view_is) (one_is g.row.K.Denot c.self.inside.entries.items c.self.inside.active c.self.inside.running c.self.invariant)

pub returns-clause-begun : goal.returns-clause-begun
returns-clause-begun g c =
    rw (← c.self.view_is) (main_begun g.row.K.Denot c.self.inside.entries.items c.self.inside.active c.self.inside.running c.self.invariant)

pub returns-clause-never : goal.returns-clause-never
returns-clause-never g c =
    rw (← c.self.view_is) (main_goes_on g.row.K.Denot c.self.inside.entries.items c.self.inside.active c.self.inside.running c.self.invariant)

pub returns-clause-source : goal.returns-clause-source
returns-clause-source g c =
    let s = c.self.inside in
    let there : source (table_seen s.entries.items s.active s.running)
    < length s.entries.items = source_live g.row.K.Denot s.entries.items s.active _ s.running c.self.invariant refl in
    rw (← c.self.view_is) (subst (λ (n : ℕ). source (table_seen s.entries.items s.active s.running) < n) (sym (length-map s.entries.items coexp_seen)) there)
