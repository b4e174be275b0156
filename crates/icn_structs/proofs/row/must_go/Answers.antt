use Rattle.std.proofs.Common.{◌∙◌, ap, not, sym}
use Rattle.icn_structs.specs.declared.row.OnShelf.{OnShelf}
use Rattle.icn_structs.proofs.GivenPlaces.{goes_is, none_goes}
use Rattle.icn_structs.proofs.row.must_go.Goals as goal

pub returns-then-number-gt0 : goal.returns-then-number-gt0
returns-then-number-gt0 g c =
    ap (λ (kept : OnShelf g.row.T.Denot). not kept.marked) (sym c.index-there-number.is)
    ∙ goes_is c.args.there.now c.args.number c.index-there-number.result c.if-number-gt0.true c.requires c.index-there-number.is

pub returns-else-number-gt0 : goal.returns-else-number-gt0
returns-else-number-gt0 g c = none_goes c.args.there.now c.args.number c.if-number-gt0.false
