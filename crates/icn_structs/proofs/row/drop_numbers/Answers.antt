use Rattle.std.proofs.Common.{inl, inr, refl}
use Rattle.icn_structs.proofs.PlacedSteps.{row_of_no_numbers}
use Rattle.icn_structs.proofs.row.drop_numbers.Goals as goal

pub returns-then-all-eq-ROW-clause-row : goal.returns-then-all-eq-ROW-clause-row
returns-then-all-eq-ROW-clause-row c =
    row_of_no_numbers c.args.all c.args.there c.new.result.items c.if-there-eq0.true c.if-all-eq-ROW.true c.new.ensures.items

pub returns-then-all-eq-ROW-clause-places : goal.returns-then-all-eq-ROW-clause-places
returns-then-all-eq-ROW-clause-places c = inr (c.if-there-eq0.true, c.new.ensures.items)

pub returns-else-there-eq0-clause-row : goal.returns-else-there-eq0-clause-row
returns-else-there-eq0-clause-row c = c.requires.row

pub returns-else-there-eq0-clause-places : goal.returns-else-there-eq0-clause-places
returns-else-there-eq0-clause-places c = inl refl
