-- What verified code keeps while it runs on linked marks, from the start on: each chain has the shape of the address where it goes on, each activation has
-- as many locals as its procedure, each label leads to an address of its shape, and each value names what is there.
use Rattle.std.specs.Prelude.{◌≡◌, ◌≢◌, ℕ, suc, ◌+◌, ◌<◌, ◌≤◌, Bool, true, false, not, List, [], ◌∷◌, length, Option, Some, None, slice_get}
use Rattle.std.specs.Option.{option_map_or}
use Rattle.icn_code.specs.Codes.{Tables, Proc as Procedure}
use Rattle.icn_code.specs.declared.instr.Instr.{Instr}
use Rattle.icn_code.specs.declared.instr.Instr.TheVariants as Instrs
use Rattle.icn_verify.specs.declared.shape.Level.{Level}
use Rattle.icn_verify.specs.declared.shape.LevelKind.{LevelKind}
use Rattle.icn_verify.specs.declared.shape.LevelKind.TheVariants as Levels
use Rattle.icn_verify.specs.Shapes.{PlainShape, start_shape, with_more, with_mark}
use Rattle.icn_verify.specs.Given.{IsFine}
use Rattle.icn_run.specs.Rows.{Value}
use Rattle.icn_run.specs.Calls.{Alt, Op, Scan, Escan, Proc}
use Rattle.icn_run.specs.Chains.{Label, fixed, flagged, Reason, because, scanning, Chain, chain, Suspensions, none, suspension, Outer, base, call, mark, limit, WaitingChain, LinkedStack, Frame, at_base, in_call}
use Rattle.icn_run.specs.Step.{Status, Fresh, Active, Waiting, Exhausted, Coexp, Store, State, running, failing, hopping, over, stuck, instrs_of, is_main}
use Rattle.law_safe.specs.Within.{Each, ValueWithin, ItemWithin, ResidualWithin, WorldWithin}

-- the procedure of each activation, the procedure of the mark of each flag with the shape before it, and the number of co-expressions
pub record Knowledge : Type 0 where
  pub activations : List ℕ
  pub flags : List (ℕ × PlainShape)
  pub coexps : ℕ

-- the activation of this number is one of the procedure
abbrev pub IsOf : Knowledge → ℕ → ℕ → Type 0
IsOf w activation proc = slice_get w.activations activation ≡ Some proc

-- the mark of this flag is one of the procedure, with the shape before it
abbrev pub IsBefore : Knowledge → ℕ → ℕ → PlainShape → Type 0
IsBefore w flag proc shape = slice_get w.flags flag ≡ Some (proc, shape)

-- how many locals an activation of a procedure has: the parameters and the others
abbrev pub locals_in : Procedure → ℕ
locals_in entry = entry.parameters + entry.locals

-- how many locals an activation of the procedure of this number has
abbrev pub local_count : Tables → ℕ → ℕ
local_count tables proc = option_map_or locals_in (slice_get tables.procs proc) 0

-- the shapes of the addresses of each procedure
module _ (tables : Tables) (sh : ℕ → ℕ → Option PlainShape) where
  -- where code that fails goes on, it finds the shape before the mark
  abbrev pub LabelTo : ℕ → PlainShape → Option ℕ → Type 0
  LabelTo p S None = Unit {0}
  LabelTo p S (Some label) = sh p label ≡ Some S

  -- the label of a mark whose flag is known: behind the mark stands its shape, and at the label the one
  -- before it
  abbrev pub LabelOk : Knowledge → ℕ → PlainShape → Label → Type 0
  LabelOk w p S (fixed label) = ⊥
  LabelOk w p S (flagged label flag address) =
      IsBefore w flag p S × LabelTo p S label × (sh p (suc address) ≡ Some (with_mark Levels.Plain S))

  -- what is asked of the shape with which a suspension is resumed, by why it was made
  abbrev pub ReasonOk : Knowledge → ℕ → PlainShape → ℕ → Reason → Type 0
  ReasonOk w p S address (because Alt) = Unit {0}
  ReasonOk w p S address (because (Op residual)) =
      ResidualWithin w.coexps residual × (sh p address ≡ Some (with_more 1 S))
  ReasonOk w p S address (because (Scan pair)) = Unit {0}
  ReasonOk w p S address (because Escan) = 0 < S.inner.scans
  ReasonOk w p S address (because Proc) = sh p address ≡ Some S
  ReasonOk w p S address (scanning n) = Unit {0}

  -- a shape by its innermost level and the others
  abbrev pub level_shape : Bool → Level → List Level → PlainShape
  level_shape cr l ls = record { in_create = cr; inner = l; outer = ls }

  -- A chain of stack s in a procedure has a shape. A suspension has any, as it is to fail, or for an operation or a procedure that of the address where it
  -- goes on.
  abbrev mutual
    pub ChainOk : Knowledge → ℕ → ℕ → PlainShape → Chain → Type 0
    ChainOk w s p S (chain items q scans o) =
        (length items ≡ S.inner.operands) × Each (ItemWithin w.coexps) items × (S.inner.scans ≤ length scans)
        × SuspsOk w s q × OuterOk w s p S.in_create S.inner.kind S.outer o

    pub SuspsOk : Knowledge → ℕ → Suspensions → Type 0
    SuspsOk w s none = Unit {0}
    SuspsOk w s (suspension reason address inside) =
        (p : ℕ) × (S : PlainShape) × ReasonOk w p S address reason × ChainOk w s p S inside

    pub OuterOk : Knowledge → ℕ → ℕ → Bool → LevelKind → List Level → Outer → Type 0
    OuterOk w s p cr kind ls (base proc a) =
        (proc ≡ p) × (cr ≡ not (is_main s)) × (kind ≡ Levels.Base) × (ls ≡ []) × IsOf w a p
    OuterOk w s p cr kind ls (call proc a level address caller) =
        (proc ≡ p) × (cr ≡ false) × (kind ≡ Levels.Base) × (ls ≡ []) × IsOf w a p
        × ((p' : ℕ) × (S : PlainShape) × (sh p' address ≡ Some (with_more 1 S)) × ChainOk w s p' S caller)
    OuterOk w s p cr kind ls (mark label outside) =
        (l : Level) × (ls' : List Level) × (ls ≡ l ∷ ls') × (kind ≡ Levels.Plain)
        × LabelOk w p (level_shape cr l ls') label × ChainOk w s p (level_shape cr l ls') outside
    OuterOk w s p cr kind ls (limit n outside) =
        (l : Level) × (ls' : List Level) × (ls ≡ l ∷ ls') × (kind ≡ Levels.Limit)
        × ChainOk w s p (level_shape cr l ls') outside

  -- the frame of the procedure that runs
  abbrev pub FrameOk : Knowledge → ℕ → ℕ → Bool → Frame → Type 0
  FrameOk w s p cr (at_base proc a) = (proc ≡ p) × (cr ≡ not (is_main s)) × IsOf w a p
  FrameOk w s p cr (in_call proc a level address caller) =
      (proc ≡ p) × (cr ≡ false) × IsOf w a p
      × ((p' : ℕ) × (S : PlainShape) × (sh p' address ≡ Some (with_more 1 S)) × ChainOk w s p' S caller)

  -- the locals of an activation
  pub record LocalsOk (w : Knowledge) (p : ℕ) (values : List Value) : Type 0 where
    pub within : Each (ValueWithin w.coexps) values
    pub count : length values ≡ local_count tables p

  -- another label that a mark got
  abbrev pub RelabelOk : Knowledge → ℕ × ℕ → Type 0
  RelabelOk w entry = (p : ℕ) × (S : PlainShape) × IsBefore w entry.0 p S × (sh p entry.1 ≡ Some S)

  -- what changes is as is known of it
  pub record MemoryOk (w : Knowledge) (activations : List (List Value)) (flags : List Bool)
      (relabels : List (ℕ × ℕ)) : Type 0 where
    pub same_activations : length w.activations ≡ length activations
    pub same_flags : length w.flags ≡ length flags
    pub locals : (a p : ℕ) → IsOf w a p
        → (values : List Value) × (slice_get activations a ≡ Some values) × LocalsOk w p values
    pub labels : Each (RelabelOk w) relabels

  -- what a stack has that changes is as is known of it
  abbrev pub MemoryOf : Knowledge → LinkedStack → Type 0
  MemoryOf w m = MemoryOk w m.activations m.flags m.relabels

  -- a stack that waits goes on with a value
  pub record ParkedOk (w : Knowledge) (s : ℕ) (k : WaitingChain) : Type 0 where
    pub proc : ℕ
    pub shape : PlainShape
    pub has : ChainOk w s proc shape k.chain
    pub goes : sh proc k.address ≡ Some (with_more 1 shape)

  -- that of one that does not run
  abbrev pub StatusOk : Knowledge → ℕ → Status WaitingChain → Type 0
  StatusOk w i Fresh = i ≢ 0
  StatusOk w i Active = ⊥
  StatusOk w i (Waiting k) = ParkedOk w i k
  StatusOk w i Exhausted = Unit {0}

  -- the co-expression was not begun
  abbrev pub IsFresh : Status WaitingChain → Type 0
  IsFresh Fresh = Unit {0}
  IsFresh status = ⊥

  -- this one has begun
  pub record IsEntered (coexps : List (Coexp WaitingChain)) (n : ℕ) : Type 0 where
    pub coexp : Coexp WaitingChain
    pub stands : slice_get coexps n ≡ Some coexp
    pub begun : IsFresh coexp.status → ⊥

  -- the address and the values with which it began, and which of them entered it last
  pub record CoexpOk (w : Knowledge) (coexps : List (Coexp WaitingChain)) (i : ℕ)
      (c : Coexp WaitingChain) : Type 0 where
    pub values : i ≢ 0 → LocalsOk w c.proc c.values
    pub origin : i ≢ 0 → sh c.proc c.address ≡ Some (start_shape true)
    pub activator : IsEntered coexps c.activator

  -- those wait of which it may not be that they run
  pub record CoexpsOk (w : Knowledge) (May : ℕ → Type 0) (active : ℕ)
      (coexps : List (Coexp WaitingChain)) : Type 0 where
    pub count : length coexps ≡ w.coexps
    pub each : (i : ℕ) (c : Coexp WaitingChain) → slice_get coexps i ≡ Some c → CoexpOk w coexps i c
    pub waits : (i : ℕ) (c : Coexp WaitingChain) → slice_get coexps i ≡ Some c → (May i → ⊥)
        → StatusOk w i c.status
    pub there : IsEntered coexps active
    pub first : IsEntered coexps 0

  -- the world and the co-expressions of a run
  pub record StoreOk (w : Knowledge) (May : ℕ → Type 0) (st : Store WaitingChain) : Type 0 where
    pub world : WorldWithin w.coexps st.world
    pub coexps : CoexpsOk w May st.active st.coexps

  -- a stack that runs: its chain has the shape, and what changes is as is known
  pub record Now (w : Knowledge) (s p : ℕ) (S : PlainShape) (m : LinkedStack) : Type 0 where
    pub has : ChainOk w s p S m.chain
    pub memory : MemoryOf w m

  -- something is known of a state with which all that holds; nothing is asked where the run is over, and no
  -- state is stuck
  abbrev pub Safe : State WaitingChain LinkedStack → Type 0
  Safe (running m st) = (w : Knowledge) × (p : ℕ) × (S : PlainShape) × Now w st.active p S m
      × (sh p m.address ≡ Some S) × StoreOk w (λ i. i ≡ st.active) st
  Safe (failing m st) =
      (w : Knowledge) × (p : ℕ) × (S : PlainShape) × Now w st.active p S m × StoreOk w (λ i. i ≡ st.active) st
  Safe (hopping m st) = (w : Knowledge) × MemoryOf w m × StoreOk w (λ i. ⊥) st
  Safe (over ending outside) = Unit {0}
  Safe stuck = ⊥

-- each address with a shape is fine, in each procedure; and a last parameter collects only where there is one
pub record KeepsShapes (tables : Tables) (sh : ℕ → ℕ → Option PlainShape) : Type 0 where
  pub collects : (p : ℕ) (entry : Procedure) → slice_get tables.procs p ≡ Some entry → entry.collects ≡ true
      → 0 < entry.parameters
  pub starts : (p : ℕ) → p < length tables.procs → sh p 0 ≡ Some (start_shape false)
  pub fine : (p address : ℕ) (S : PlainShape) → sh p address ≡ Some S
      → IsFine (instrs_of tables p) (sh p) address S

-- what an instruction names of the tables is there
abbrev pub InRange : Tables → Instr → Type 0
InRange tables (Instrs.Int index) = index < length tables.integers
InRange tables (Instrs.Str index) = index < length tables.strings
InRange tables (Instrs.Cset index) = index < length tables.csets
InRange tables instr = Unit {0}
