use Rattle.icn_strfn.proofs.integer_rows.seq_row.Goals as goal

pub to_integer-requires : goal.to_integer-requires
to_integer-requires g c = c.or_one-first.ensures.live _ (c.arg.ensures.live _ c.requires)

pub to_integer-requires-2 : goal.to_integer-requires-2
to_integer-requires-2 g c = c.or_one-second.ensures.live _ (c.arg-2.ensures.live _ c.requires)

pub returns-in-Some-None-clause-live : goal.returns-in-Some-None-clause-live
returns-in-Some-None-clause-live g c = c.or_one-second.ensures.live _ (c.arg-2.ensures.live _ c.requires)

pub returns-in-None-default-clause-live : goal.returns-in-None-default-clause-live
returns-in-None-default-clause-live g c = c.or_one-first.ensures.live _ (c.arg.ensures.live _ c.requires)
