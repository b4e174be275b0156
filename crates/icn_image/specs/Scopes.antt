-- What an instruction may name where it stands.
use Rattle.std.specs.Prelude.{Bool, true, nat_le, nat_lt}
use Rattle.icn_code.specs.declared.instr.Instr.{Instr}
use Rattle.icn_code.specs.declared.instr.Instr.TheVariants.{Int, Str, Cset, Local, Static, Global, Llist, Field, Invoke, Mark, Chfail, Goto, Loop, Init, Create}
use Rattle.icn_code.specs.declared.instr.Instr.TheVariants as I
use Rattle.icn_image.specs.declared.scope.TableSizes.{TableSizes}

-- Places are below what there is, and labels at most the number of instructions. A count of operands may be any number.
abbrev pub names_there : TableSizes → Instr → Bool
names_there scope (Int place) = nat_lt place scope.integers
names_there scope (Str place) = nat_lt place scope.strings
names_there scope (Cset place) = nat_lt place scope.csets
names_there scope (Local place) = nat_lt place scope.variables
names_there scope (Static place) = nat_lt place scope.statics
names_there scope (Global place) = nat_lt place scope.globals
names_there scope (Llist count) = true
names_there scope (Field place) = nat_lt place scope.fields
names_there scope (Invoke count) = true
names_there scope (Mark label) = nat_le label scope.labels
names_there scope (Chfail label) = nat_le label scope.labels
names_there scope (Goto label) = nat_le label scope.labels
names_there scope (Loop label) = nat_le label scope.labels
names_there scope (Init label) = nat_le label scope.labels
names_there scope (Create label) = nat_le label scope.labels
names_there scope I.Pnull = true
names_there scope (I.Keywd keyword) = true
names_there scope I.Pop = true
names_there scope I.Dup = true
names_there scope (I.Op op) = true
names_there scope I.Appl = true
names_there scope I.Mark0 = true
names_there scope I.Unmark = true
names_there scope I.Eret = true
names_there scope I.Esusp = true
names_there scope I.Limit = true
names_there scope I.Lsusp = true
names_there scope I.Efail = true
names_there scope I.Bscan = true
names_there scope I.Escan = true
names_there scope I.Ccase = true
names_there scope I.Psusp = true
names_there scope I.Pret = true
names_there scope I.Pfail = true
names_there scope I.Coact = true
names_there scope I.Coret = true
names_there scope I.Cofail = true
