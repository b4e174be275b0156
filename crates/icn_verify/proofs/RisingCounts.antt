-- Each instruction adds at most one to a count of a shape.
use Rattle.std.proofs.Common.{◌≡◌, ℕ, zero, suc, ◌+◌, ◌-◌, ◌^◌, ◌<◌, ◌≤◌, Bool, true, false, ◌⊎◌, inl, inr, nat_lt, if◌then◌else◌, List, [], ◌∷◌, replicate, slice_set, Option, None, Some, min, refl, arith}
use Rattle.std.proofs.lemmas.Bool.Decides.{nat_tests}
use Rattle.icn_tree.specs.declared.rule.Rule.{Rule}
use Rattle.icn_tree.specs.declared.rule.Rule.TheVariants.{V1}
use Rattle.icn_code.specs.declared.instr.Instr.{Instr}
use Rattle.icn_code.specs.declared.instr.Instr.TheVariants as I
use Rattle.icn_verify.specs.declared.shape.Level.{Level}
use Rattle.icn_verify.specs.declared.rows.LevelChange.{LevelChange}
use Rattle.icn_verify.specs.declared.rows.LevelChange.TheVariants.{Keeps, OpensPlain, OpensLimit, Drops, OpensScan, ClosesScan}
use Rattle.icn_verify.specs.declared.rows.StackEffect.{StackEffect}
use Rattle.icn_verify.specs.declared.rows.Way.{Way}
use Rattle.icn_verify.specs.declared.rows.Way.TheVariants.{On, Ends, Fails, Jumps, Returns, Retries, Skips, Forks}
use Rattle.icn_verify.specs.Shapes.{PlainShape, start_shape, with_fewer, with_more}
use Rattle.icn_verify.specs.Rows.{row_of, lacks, change_levels, after, next_by, forward_by, next, forward}
use Rattle.icn_verify.specs.Passing.{Arrival, unseen, one, several, same_shape, with_shape, seen_at, with_arrival, pass_on, first_table, rule_at}
use Rattle.icn_verify.specs.ShapeCounts.{IsLow, AreLow, IsLowShape, IsLowSeen, IsLowTable, FindsRoom}

-- What is low stays low under a greater bound

raised : (m n : ℕ) → m ≤ n → (level : Level) → IsLow m level → IsLow n level
raised m n le level low = record { operands = omega (arith, low.operands); scans = omega (arith, low.scans) }

all_raised : (m n : ℕ) → m ≤ n → (levels : List Level) → AreLow m levels → AreLow n levels
all_raised m n le [] low = tt
all_raised m n le (level ∷ levels) low = (raised m n le level low.0, all_raised m n le levels low.1)

shape_raised : (m n : ℕ) → m ≤ n → (shape : PlainShape) → IsLowShape m shape → IsLowShape n shape
shape_raised m n le shape low = record { inner = raised m n le shape.inner low.inner; outer = all_raised m n le shape.outer low.outer }

seen_raised : (m n : ℕ) → m ≤ n → (seen : Arrival) → IsLowSeen m seen → IsLowSeen n seen
seen_raised m n le unseen low = tt
seen_raised m n le (one shape) low = shape_raised m n le shape low
seen_raised m n le (several fewest) low = tt

table_raised : (m n : ℕ) → m ≤ n → (table : List Arrival) → IsLowTable m table → IsLowTable n table
table_raised m n le [] low = tt
table_raised m n le (seen ∷ table) low = (seen_raised m n le seen low.0, table_raised m n le table low.1)

-- Tables

low_at : (most : ℕ) (table : List Arrival) (place : ℕ) → IsLowTable most table → IsLowSeen most (seen_at table place)
low_at most [] place low = tt
low_at most (seen ∷ table) zero low = low.0
low_at most (seen ∷ table) (suc place) low = low_at most table place low.1

low_set : (most : ℕ) (table : List Arrival) (place : ℕ) (seen : Arrival) → IsLowTable most table → IsLowSeen most seen
    → IsLowTable most (slice_set table place seen)
low_set most [] place seen low h = tt
low_set most (other ∷ table) zero seen low h = (h, low.1)
low_set most (other ∷ table) (suc place) seen low h = (low.0, low_set most table place seen low.1 h)

low_joined : (most : ℕ) (seen : Arrival) (shape : PlainShape) → IsLowSeen most seen → IsLowShape most shape → IsLowSeen most (with_shape seen shape)
low_joined most unseen shape low h = h
low_joined most (one before) shape low h = by (same_shape before shape)
  where
    by : (same : Bool) → IsLowSeen most (if same then one before else several (min before.inner.operands shape.inner.operands))
    by true = low
    by false = tt
low_joined most (several fewest) shape low h = tt

-- what goes to a place is low
abbrev IsLowSent : ℕ → Option (ℕ × PlainShape) → Type 0
IsLowSent most None = Unit {0}
IsLowSent most (Some to) = IsLowShape most to.1

low_arrived : (most : ℕ) (table : List Arrival) (to : Option (ℕ × PlainShape)) → IsLowTable most table → IsLowSent most to
    → IsLowTable most (with_arrival table to)
low_arrived most table None low h = low
low_arrived most table (Some to) low h =
    low_set most table to.0 (with_shape (seen_at table to.0) to.1) low (low_joined most (seen_at table to.0) to.1 (low_at most table to.0 low) h)

low_start : (most : ℕ) (in_create : Bool) → IsLowShape most (start_shape in_create)
low_start most in_create = record { inner = record { operands = omega arith; scans = omega arith }; outer = tt }

low_unseen : (count : ℕ) → IsLowTable 0 (replicate count unseen)
low_unseen zero = tt
low_unseen (suc count) = (tt, low_unseen count)

pub low_first : (count : ℕ) → IsLowTable 0 (first_table count)
low_first count = (low_start 0 false, low_unseen count)

-- Rows

-- a row leaves at most one operand more than it takes, and at most one where it changes the levels
record LeavesFew (row : StackEffect) : Type 0 where
  more : row.leaves ≤ row.takes + 1
  changing : (row.change ≡ Keeps) ⊎ (row.leaves ≤ 1)

abbrev kept : (row : StackEffect) → row.change ≡ Keeps → row.leaves ≤ row.takes + 1 → LeavesFew row
kept row same more = record { more = more; changing = inl same }

abbrev single : (row : StackEffect) → row.leaves ≤ 1 → LeavesFew row
single row few = record { more = omega (arith, few); changing = inr few }

leaves_few : (instr : Instr) → LeavesFew (row_of instr)
leaves_few I.Dup = kept _ refl (omega arith)
leaves_few I.Pnull = single _ (omega arith)
leaves_few (I.Int place) = single _ (omega arith)
leaves_few (I.Str place) = single _ (omega arith)
leaves_few (I.Cset place) = single _ (omega arith)
leaves_few (I.Local place) = single _ (omega arith)
leaves_few (I.Static place) = single _ (omega arith)
leaves_few (I.Global place) = single _ (omega arith)
leaves_few (I.Keywd keyword) = single _ (omega arith)
leaves_few I.Pop = single _ (omega arith)
leaves_few (I.Op op) = single _ (omega arith)
leaves_few (I.Llist count) = single _ (omega arith)
leaves_few (I.Field place) = single _ (omega arith)
leaves_few (I.Invoke count) = single _ (omega arith)
leaves_few I.Appl = single _ (omega arith)
leaves_few (I.Mark label) = single _ (omega arith)
leaves_few I.Mark0 = single _ (omega arith)
leaves_few I.Unmark = single _ (omega arith)
leaves_few I.Eret = single _ (omega arith)
leaves_few I.Esusp = single _ (omega arith)
leaves_few I.Limit = single _ (omega arith)
leaves_few I.Lsusp = single _ (omega arith)
leaves_few I.Efail = single _ (omega arith)
leaves_few (I.Chfail label) = single _ (omega arith)
leaves_few (I.Goto label) = single _ (omega arith)
leaves_few (I.Loop label) = single _ (omega arith)
leaves_few I.Bscan = single _ (omega arith)
leaves_few I.Escan = single _ (omega arith)
leaves_few I.Ccase = single _ (omega arith)
leaves_few (I.Init label) = single _ (omega arith)
leaves_few I.Psusp = single _ (omega arith)
leaves_few I.Pret = single _ (omega arith)
leaves_few I.Pfail = single _ (omega arith)
leaves_few (I.Create label) = single _ (omega arith)
leaves_few I.Coact = single _ (omega arith)
leaves_few I.Coret = single _ (omega arith)
leaves_few I.Cofail = single _ (omega arith)

below : (m n : ℕ) → nat_lt m n ≡ false → n ≤ m
below m n h = grind (arith, nat_tests)

keeps_differ : (change : LevelChange) → ((change ≡ Keeps) → ⊥) → (few : ℕ) → (change ≡ Keeps) ⊎ (few ≤ 1) → few ≤ 1
keeps_differ change differ few (inl same) = absurd (differ same)
keeps_differ change differ few (inr le) = le

opens_keeps : (OpensPlain ≡ Keeps) → ⊥
opens_keeps h = cc

limit_keeps : (OpensLimit ≡ Keeps) → ⊥
limit_keeps h = cc

drops_keeps : (Drops ≡ Keeps) → ⊥
drops_keeps h = cc

module _ (n takes leaves : ℕ) (more : leaves ≤ takes + 1) (in_create : Bool) (inner : Level) (lacks_none : takes ≤ inner.operands) (low : IsLow n inner) where
  -- the innermost level, whose scans are now so many
  on_inner : (scans : ℕ) → scans ≤ n + 1 → IsLow (n + 1) (record { kind = inner.kind; operands = inner.operands - takes + leaves; scans = scans })
  on_inner scans le = record { operands = omega (arith, low.operands, more, lacks_none); scans = le }

  -- an empty level
  on_empty : (level : Level) → level.operands ≡ 0 → level.scans ≡ 0 → leaves ≤ 1 → IsLow (n + 1) (record level { operands = level.operands + leaves })
  on_empty level none no_scan few = record { operands = omega (arith, none, few); scans = omega (arith, no_scan) }

  taken : IsLow n (record inner { operands = inner.operands - takes })
  taken = record { operands = omega (arith, low.operands); scans = low.scans }

  -- the level that a mark leaves
  on_outer : (level : Level) → IsLow n level → leaves ≤ 1 → IsLow (n + 1) (record level { operands = level.operands + leaves })
  on_outer level held few = record { operands = omega (arith, held.operands, few); scans = omega (arith, held.scans) }

  abbrev left_by : LevelChange → List Level → PlainShape
  left_by change outer = with_more leaves (change_levels change (with_fewer takes (record { in_create = in_create; inner = inner; outer = outer })))

  low_left : (change : LevelChange) → (change ≡ Keeps) ⊎ (leaves ≤ 1) → (outer : List Level) → AreLow n outer → IsLowShape (n + 1) (left_by change outer)
  low_left Keeps few outer held = record { inner = on_inner inner.scans (omega (arith, low.scans)); outer = all_raised n (n + 1) (omega arith) outer held }
  low_left OpensPlain few outer held =
      record {
        inner = on_empty _ refl refl (keeps_differ OpensPlain opens_keeps leaves few);
        outer = (raised n (n + 1) (omega arith) _ taken, all_raised n (n + 1) (omega arith) outer held);
      }
  low_left OpensLimit few outer held =
      record {
        inner = on_empty _ refl refl (keeps_differ OpensLimit limit_keeps leaves few);
        outer = (raised n (n + 1) (omega arith) _ taken, all_raised n (n + 1) (omega arith) outer held);
      }
  low_left Drops few [] held = record { inner = on_inner inner.scans (omega (arith, low.scans)); outer = tt }
  low_left Drops few (level ∷ outer) held =
      record { inner = on_outer level held.0 (keeps_differ Drops drops_keeps leaves few); outer = all_raised n (n + 1) (omega arith) outer held.1 }
  low_left OpensScan few outer held =
      record { inner = on_inner (inner.scans + 1) (omega (arith, low.scans)); outer = all_raised n (n + 1) (omega arith) outer held }
  low_left ClosesScan few outer held =
      record { inner = on_inner (inner.scans - 1) (omega (arith, low.scans)); outer = all_raised n (n + 1) (omega arith) outer held }

low_after : (n : ℕ) (instr : Instr) (shape : PlainShape) → lacks instr shape ≡ false → IsLowShape n shape → IsLowShape (n + 1) (after (row_of instr) shape)
low_after n instr shape none low =
    let few = leaves_few instr in
    low_left n (row_of instr).takes (row_of instr).leaves few.more shape.in_create shape.inner (below shape.inner.operands (row_of instr).takes none) low.inner
    (row_of instr).change few.changing shape.outer low.outer

-- What goes out of a place

low_next : (n place : ℕ) (way : Way) (left : PlainShape) → IsLowShape n left → IsLowSent n (next_by way place left)
low_next n place On left low = low
low_next n place Ends left low = tt
low_next n place (Fails label) left low = low
low_next n place (Jumps label) left low = tt
low_next n place (Returns label) left low = tt
low_next n place (Retries label) left low = low
low_next n place (Skips label) left low = low
low_next n place (Forks label) left low = low_start n true

low_forward : (n : ℕ) (way : Way) (shape left : PlainShape) → IsLowShape n shape → IsLowShape n left → IsLowSent n (forward_by way shape left)
low_forward n On shape left before low = tt
low_forward n Ends shape left before low = tt
low_forward n (Fails label) shape left before low = before
low_forward n (Jumps label) shape left before low = low
low_forward n (Returns label) shape left before low = tt
low_forward n (Retries label) shape left before low = tt
low_forward n (Skips label) shape left before low = low
low_forward n (Forks label) shape left before low = low

-- where no rule is broken, there are the operands that are taken
some_none : (rule : Rule) → let none : Option Rule = None in (Some rule ≡ none) → ⊥
some_none rule h = cc

lacks_nothing : (lacking : Bool) (rest : Option Rule) → (if lacking then Some V1 else rest) ≡ None → lacking ≡ false
lacks_nothing true rest h = absurd (some_none V1 h)
lacks_nothing false rest h = refl

module _ (n : ℕ) (table : List Arrival) (low : IsLowTable n table) (place : ℕ) (instr : Instr) where
  sent_low : (seen : Arrival) → IsLowSeen n seen → rule_at table place instr seen ≡ None → IsLowTable (n + 1) (pass_on table place instr seen)
  sent_low unseen held none = table_raised n (n + 1) (omega arith) table low
  sent_low (several fewest) held none = table_raised n (n + 1) (omega arith) table low
  sent_low (one shape) held none =
      let left = low_after n instr shape (lacks_nothing (lacks instr shape) _ none) held in
      low_arrived (n + 1) (with_arrival table (next instr place shape)) (forward instr shape)
      (low_arrived (n + 1) table (next instr place shape) (table_raised n (n + 1) (omega arith) table low) (low_next (n + 1) place (row_of instr).way _ left))
      (low_forward (n + 1) (row_of instr).way shape _ (shape_raised n (n + 1) (omega arith) shape held) left)

  -- the table is as low as the instructions before are many
  pub low_sent : rule_at table place instr (seen_at table place) ≡ None → IsLowTable (n + 1) (pass_on table place instr (seen_at table place))
  low_sent none = sent_low (seen_at table place) (low_at n table place low) none

  room_at : n + 1 < 2 ^ 32 → (seen : Arrival) → IsLowSeen n seen → rule_at table place instr seen ≡ None → FindsRoom instr seen
  room_at few unseen held none = tt
  room_at few (several fewest) held none = tt
  room_at few (one shape) held none = record {
    scans = omega (arith, held.inner.scans, few);
    operands = let left = low_after n instr shape (lacks_nothing (lacks instr shape) _ none) held in omega (arith, left.inner.operands, few);
  }

  -- and each instruction finds room
  pub finds_room : n + 1 < 2 ^ 32 → rule_at table place instr (seen_at table place) ≡ None → FindsRoom instr (seen_at table place)
  finds_room few none = room_at few (seen_at table place) (low_at n table place low) none
