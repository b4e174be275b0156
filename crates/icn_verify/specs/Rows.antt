-- The table of the instructions: how many operands each takes and leaves, what it asks for, what it does to the levels, and
-- how it goes on.
use Rattle.std.specs.Prelude.{ℕ, ◌+◌, Bool, true, false, ◌&&◌, not, nat_eq, nat_le, nat_lt, Option, None, Some, is_some, unwrap_or}
use Rattle.std.specs.Option.{option_map_or}
use Rattle.icn_defs.specs.Arities.{arity}
use Rattle.icn_code.specs.declared.instr.Instr.{Instr}
use Rattle.icn_code.specs.declared.instr.Instr.TheVariants.{Pnull, Int, Str, Cset, Local, Static, Global, Keywd, Pop, Dup, Op, Llist, Field, Invoke, Appl, Mark, Mark0, Unmark, Eret, Esusp, Limit, Lsusp, Efail, Chfail, Goto, Loop, Bscan, Escan, Ccase, Init, Psusp, Pret, Pfail, Create, Coact, Coret, Cofail}
use Rattle.icn_verify.specs.declared.shape.Level.{Level}
use Rattle.icn_verify.specs.declared.shape.LevelKind.TheVariants.{Plain as PlainMark, Limit as LimitMark}
use Rattle.icn_verify.specs.declared.shape.ShapeView.{ShapeView}
use Rattle.icn_verify.specs.declared.rows.Asks.{Asks}
use Rattle.icn_verify.specs.declared.rows.Asks.TheVariants.{Nothing, OpenMark, EndedMark, EndedPlain, EndedLimit, OpenPlain, OpenScan, OperandOutside, OutsideCreate, InsideCreate}
use Rattle.icn_verify.specs.declared.rows.LevelChange.{LevelChange}
use Rattle.icn_verify.specs.declared.rows.LevelChange.TheVariants.{Keeps, OpensPlain, OpensLimit, Drops, OpensScan, ClosesScan}
use Rattle.icn_verify.specs.declared.rows.Way.{Way}
use Rattle.icn_verify.specs.declared.rows.Way.TheVariants.{On, Ends, Fails, Jumps, Returns, Retries, Skips, Forks}
use Rattle.icn_verify.specs.declared.rows.StackEffect.{StackEffect}
use Rattle.icn_verify.specs.Shapes.{PlainShape, start_shape, look_of, with_fewer, with_more, with_scan, without_scan, with_mark, before_mark, same_kind}

-- operands taken and left, and on to the next instruction
abbrev pub works : ℕ → ℕ → StackEffect
works takes leaves = record { takes = takes; leaves = leaves; asks = Nothing; change = Keeps; way = On }

-- the same, where something is asked for
abbrev pub work_where : Asks → ℕ → ℕ → StackEffect
work_where asks takes leaves =
    record { takes = takes; leaves = leaves; asks = asks; change = Keeps; way = On }

-- the same, with a change of the levels
abbrev pub work_changing : Asks → LevelChange → ℕ → ℕ → StackEffect
work_changing asks change takes leaves =
    record { takes = takes; leaves = leaves; asks = asks; change = change; way = On }

-- an instruction that goes on in another way, and takes and leaves no operand
abbrev pub way_only : Asks → Way → StackEffect
way_only asks way = record { takes = 0; leaves = 0; asks = asks; change = Keeps; way = way }

-- the row of an instruction in the table
abbrev pub row_of : Instr → StackEffect
row_of Pnull = works 0 1
row_of (Int index) = works 0 1
row_of (Str index) = works 0 1
row_of (Cset index) = works 0 1
row_of (Local index) = works 0 1
row_of (Static index) = works 0 1
row_of (Global index) = works 0 1
row_of (Keywd keyword) = works 0 1
row_of Pop = works 1 0
row_of Dup = works 1 2
row_of (Op op) = works (arity op) 1
row_of (Llist count) = works count 1
row_of (Field index) = works 1 1
row_of (Invoke count) = works (count + 1) 1
row_of Appl = works 2 1
row_of (Mark label) = record { takes = 0; leaves = 0; asks = Nothing; change = OpensPlain; way = Fails label }
row_of Mark0 = work_changing Nothing OpensPlain 0 0
row_of Unmark = work_changing OpenMark Drops 0 0
row_of Eret = work_changing EndedMark Drops 1 1
row_of Esusp = work_changing EndedPlain Drops 1 1
row_of Limit = work_changing Nothing OpensLimit 1 0
row_of Lsusp = work_changing EndedLimit Drops 1 1
row_of Efail = way_only Nothing Ends
row_of (Chfail label) = way_only OpenPlain (Retries label)
row_of (Goto label) = way_only Nothing (Jumps label)
row_of (Loop label) = way_only Nothing (Returns label)
row_of Bscan = work_changing Nothing OpensScan 1 0
row_of Escan = work_changing OpenScan ClosesScan 1 1
row_of Ccase = work_where OperandOutside 0 1
row_of (Init label) = way_only OutsideCreate (Skips label)
row_of Psusp = work_where OutsideCreate 1 1
row_of Pret = record { takes = 1; leaves = 0; asks = OutsideCreate; change = Keeps; way = Ends }
row_of Pfail = way_only OutsideCreate Ends
row_of (Create label) = record { takes = 0; leaves = 1; asks = Nothing; change = Keeps; way = Forks label }
row_of Coact = works 2 1
row_of Coret = work_where InsideCreate 1 1
row_of Cofail = way_only InsideCreate Ends

-- the innermost level has fewer operands than the instruction takes
abbrev pub lacks : Instr → PlainShape → Bool
lacks instr shape = nat_lt shape.inner.operands (row_of instr).takes

-- exactly one operand, and no open scan
abbrev pub is_ended : Level → Bool
is_ended level = nat_eq level.operands 1 && nat_eq level.scans 0

-- an operand at least
abbrev pub has_operand : Level → Bool
has_operand level = nat_lt 0 level.operands

-- what is asked for is there
abbrev pub meets : Asks → ShapeView → Bool
meets Nothing look = true
meets OpenMark look = is_some look.outside
meets EndedMark look = is_some look.outside && is_ended look.inner
meets EndedPlain look = is_some look.outside && same_kind look.inner.kind PlainMark && is_ended look.inner
meets EndedLimit look = is_some look.outside && same_kind look.inner.kind LimitMark && is_ended look.inner
meets OpenPlain look = is_some look.outside && same_kind look.inner.kind PlainMark
meets OpenScan look = nat_lt 0 look.inner.scans
meets OperandOutside look = option_map_or has_operand look.outside false
meets OutsideCreate look = not look.in_create
meets InsideCreate look = look.in_create

-- the instruction finds what it takes and what it asks for
abbrev pub fits : PlainShape → Instr → Bool
fits shape instr = not (lacks instr shape) && meets (row_of instr).asks (look_of shape)

-- what the change leaves of the levels
abbrev pub change_levels : LevelChange → PlainShape → PlainShape
change_levels Keeps shape = shape
change_levels OpensPlain shape = with_mark PlainMark shape
change_levels OpensLimit shape = with_mark LimitMark shape
change_levels Drops shape = unwrap_or (before_mark shape) shape
change_levels OpensScan shape = with_scan shape
change_levels ClosesScan shape = without_scan shape

-- the shape that the instruction leaves: operands are taken, the levels change, and operands are left on the level that is
-- innermost then
abbrev pub after : StackEffect → PlainShape → PlainShape
after row shape = with_more row.leaves (change_levels row.change (with_fewer row.takes shape))

-- the next instruction, if the code goes on there, and the shape there
abbrev pub next_by : Way → ℕ → PlainShape → Option (ℕ × PlainShape)
next_by On address left = Some (address + 1, left)
next_by Ends address left = None
next_by (Fails label) address left = Some (address + 1, left)
next_by (Jumps label) address left = None
next_by (Returns label) address left = None
next_by (Retries label) address left = Some (address + 1, left)
next_by (Skips label) address left = Some (address + 1, left)
next_by (Forks label) address left = Some (address + 1, start_shape true)

-- the label to which the code goes forward, if there is one, and the shape there: where a mark fails, that before the mark
abbrev pub forward_by : Way → PlainShape → PlainShape → Option (ℕ × PlainShape)
forward_by On shape left = None
forward_by Ends shape left = None
forward_by (Fails label) shape left = Some (label, shape)
forward_by (Jumps label) shape left = Some (label, left)
forward_by (Returns label) shape left = None
forward_by (Retries label) shape left = None
forward_by (Skips label) shape left = Some (label, left)
forward_by (Forks label) shape left = Some (label, left)

-- a label with the shape there, if there is one
abbrev pub with_label : ℕ → Option PlainShape → Option (ℕ × PlainShape)
with_label label None = None
with_label label (Some shape) = Some (label, shape)

-- the label to which the code goes back, if there is one, and the shape that is wanted there: where a mark takes a new label,
-- that before the mark
abbrev pub back_by : Way → PlainShape → Option (ℕ × PlainShape)
back_by On shape = None
back_by Ends shape = None
back_by (Fails label) shape = None
back_by (Jumps label) shape = None
back_by (Returns label) shape = Some (label, shape)
back_by (Retries label) shape = with_label label (before_mark shape)
back_by (Skips label) shape = None
back_by (Forks label) shape = None

-- the same of the instruction at an address with a shape
abbrev pub next : Instr → ℕ → PlainShape → Option (ℕ × PlainShape)
next instr address shape = next_by (row_of instr).way address (after (row_of instr) shape)

-- the label to which an instruction goes forward, if there is one, and the shape there
abbrev pub forward : Instr → PlainShape → Option (ℕ × PlainShape)
forward instr shape = forward_by (row_of instr).way shape (after (row_of instr) shape)

-- the label to which an instruction goes back, if there is one, and the shape there
abbrev pub back : Instr → PlainShape → Option (ℕ × PlainShape)
back instr shape = back_by (row_of instr).way shape

-- a label that should lie after the instruction does not, or one that should not does
abbrev pub strays_by : Way → ℕ → Bool
strays_by On address = false
strays_by Ends address = false
strays_by (Fails label) address = nat_le label address
strays_by (Jumps label) address = nat_le label address
strays_by (Returns label) address = nat_lt address label
strays_by (Retries label) address = nat_lt address label
strays_by (Skips label) address = nat_le label address
strays_by (Forks label) address = nat_le label address

-- the label of an instruction lies on the wrong side of its address
abbrev pub strays : Instr → ℕ → Bool
strays instr address = strays_by (row_of instr).way address

-- the label of a way, if it has one, is at most this count
abbrev pub is_within_by : Way → ℕ → Bool
is_within_by On count = true
is_within_by Ends count = true
is_within_by (Fails label) count = nat_le label count
is_within_by (Jumps label) count = nat_le label count
is_within_by (Returns label) count = nat_le label count
is_within_by (Retries label) count = nat_le label count
is_within_by (Skips label) count = nat_le label count
is_within_by (Forks label) count = nat_le label count

-- the label of an instruction, if it has one, is an address of a procedure with so many instructions, or its end
abbrev pub is_within : ℕ → Instr → Bool
is_within count instr = is_within_by (row_of instr).way count
