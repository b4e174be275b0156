use Rattle.icn_tree.proofs.names.NameSet.meet.Goals as goal

pub returns-clause-has : goal.returns-clause-has
returns-clause-has c = λ i q. c.in_ok-insert.ensures.updates.0 (record c.args.name { now = q }) i
