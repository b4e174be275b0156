use Rattle.std.proofs.Common.{sym}
use Rattle.icn_machine.proofs.laying_out.layout_of.Goals as goal

pub returns-in-Left : goal.returns-in-Left
returns-in-Left c = sym c.in-Left.is

pub returns-in-Right : goal.returns-in-Right
returns-in-Right c = sym c.in-Right.is

pub returns-in-Center : goal.returns-in-Center
returns-in-Center c = sym c.in-Center.is
