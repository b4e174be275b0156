use Rattle.std.proofs.Common.{◌∙◌}
use Rattle.icont_top.proofs.SourceUnits.{named_at}
use Rattle.icont_top.proofs.programs.name_at.Goals as goal

pub returns-in-Some : goal.returns-in-Some
returns-in-Some c =
    c.as_slice.ensures ∙ named_at c.args.units.now c.args.place c.in-Some.unit.now c.in-Some.ensures.lookup.3.0 c.in-Some.ensures.lookup.1
