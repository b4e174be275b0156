use Rattle.std.proofs.Common.{Some, sym, ◌∙◌}
use Rattle.icn_link.specs.Views.{entry_in}
use Rattle.icn_link.proofs.NameMaps.{name_comes, inserted_at}
use Rattle.icn_link.proofs.linking.put_index.Goals as goal

pub returns : goal.returns
returns c =
    name_comes (entry_in c.args.indices.now) (entry_in c.insert.new.self) c.args.name.now c.args.index (sym c.contains_key.ensures ∙ c.if-contains_key.false)
    (inserted_at c.args.name c.args.indices.now c.insert.new.self (Some c.args.index) c.in_ok-insert.ensures.updates)
