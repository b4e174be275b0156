-- States of the run of a code in which all that is named has a name.
use Rattle.std.specs.List.{All}
use Rattle.icn_value.specs.Store.{Names}
use Rattle.law_names.specs.NamedSettings.{ItemNamed, ResidualNamed, ValueNamed, WorldNamed}
use Rattle.icn_run.specs.Calls.{Why, Alt, Op, Scan, Escan, Proc}
use Rattle.icn_run.specs.Stacks.{Cell, base, call, local, mark, limit, suspension, operand, Frames}
use Rattle.icn_run.specs.Step.{State, Store, Status, Fresh, Active, Waiting, Exhausted, Coexp, running, failing, hopping, over, stuck}

-- what may be resumed
abbrev pub WhyNamed : Names → Why → Type 0
WhyNamed names Alt = Unit {0}
WhyNamed names (Op residual) = ResidualNamed names residual
WhyNamed names (Scan pair) = Unit {0}
WhyNamed names Escan = Unit {0}
WhyNamed names Proc = Unit {0}

-- the value, the residual or the item in a cell names what has a name
abbrev pub CellNamed : Names → Cell → Type 0
CellNamed names (base proc locals) = Unit {0}
CellNamed names (call proc locals level registers address) = Unit {0}
CellNamed names (local value) = ValueNamed names value
CellNamed names (mark label changed registers) = Unit {0}
CellNamed names (limit count registers) = Unit {0}
CellNamed names (suspension why registers address) = WhyNamed names why
CellNamed names (operand item) = ItemNamed names item

-- what the cells of a stack name has a name
pub record StackNamed (names : Names) (m : Frames) : Type 0 where
  pub cells : All (CellNamed names) m.cells

-- a co-expression that waits has a stack whose cells name what has a name
abbrev pub StatusNamed : Names → Status Frames → Type 0
StatusNamed names Fresh = Unit {0}
StatusNamed names Active = Unit {0}
StatusNamed names (Waiting m) = StackNamed names m
StatusNamed names Exhausted = Unit {0}

-- the stack with which a co-expression waits, and what it was made with
pub record CoexpNamed (names : Names) (coexp : Coexp Frames) : Type 0 where
  pub status : StatusNamed names coexp.status
  pub values : All (ValueNamed names) coexp.values

-- what the world and all co-expressions name has a name
pub record StoreNamed (names : Names) (st : Store Frames) : Type 0 where
  pub world : WorldNamed names st.world
  pub coexps : All (CoexpNamed names) st.coexps

-- what a state names has a name; where a hop is due, nothing reads the stack
abbrev pub StateNamed : Names → State Frames Frames → Type 0
StateNamed names (running m st) = StackNamed names m × StoreNamed names st
StateNamed names (failing m st) = StackNamed names m × StoreNamed names st
StateNamed names (hopping m st) = StoreNamed names st
StateNamed names (over ending outside) = Unit {0}
StateNamed names stuck = Unit {0}
