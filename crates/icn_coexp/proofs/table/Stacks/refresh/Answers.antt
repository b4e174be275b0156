use Rattle.std.proofs.Common.{◌≡◌, ◌<◌, ◌++◌, List, length, OnOk, sym, ap, ◌∙◌, subst, arith}
use Rattle.std.proofs.lemmas.List.{length-map}
use Rattle.std.proofs.lemmas.Option.{slice_get_read}
use Rattle.icn_value.specs.declared.val.Val.{Val}
use Rattle.icn_coexp.specs.Transfers.{SeenStacks, CoexpTable}
use Rattle.icn_coexp.specs.KeptEntries.{coexp_seen}
use Rattle.icn_coexp.proofs.AddedEntries.{copied_is}
use Rattle.icn_coexp.proofs.table.Stacks.refresh.Goals as goal

pub returns-clause-made : goal.returns-clause-made
returns-clause-made g c =
    let s = c.self.inside.entries.items in
    let n = rw (← c.self.view_is) at c.requires.live in
    let l : c.args.id < length s = omega (arith, n, length-map s (coexp_seen {K = g.row.K.Denot})) in
    let all : length s ≡ length s = omega arith in
    let values = c.in_ok-extend_from_slice.ensures.items ∙ ap (λ (w : List Val). w ++ c.deref.result.now) c.new-values.ensures.items ∙ c.deref.ensures.value in
    subst (λ (w : CoexpTable). OnOk c.add.result (c.add.new.self.table ≡ w))
    (copied_is g.row.K.Denot s c.args.self.now.table c.args.id c.index-entry.result.now _ (slice_get_read s (length s) c.args.id _ all l c.index-entry.ensures)
    (ap (λ (w : SeenStacks). w.table.coexps) (sym c.self.view_is)) values)
    c.add.ensures.made
