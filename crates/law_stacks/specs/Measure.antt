-- What falls between two turns. Code goes forward, returns, or takes a pending label, which is then gone; so each address weighs four times the next, and
-- the weight of a stack is the sum over what can be reached without a turn: labels, addresses of return, and what failing has to go through.
use Rattle.std.specs.Prelude.{◌≡◌, ◌⊎◌, ℕ, zero, suc, ◌+◌, ◌-◌, ◌<◌, ◌≤◌, List, [], ◌∷◌, slice_get, Option, Some, None}
use Rattle.icn_code.specs.declared.instr.Instr.{Instr}
use Rattle.icn_code.specs.declared.instr.Instr.TheVariants as I
use Rattle.icn_run.specs.Rows.{Value, Item}
use Rattle.icn_run.specs.Calls.{Pair, Why, Alt, Op, Scan, Escan, Proc, MarkDrop, NoMark, Goes, Repeats, Outside, Calls}
use Rattle.icn_run.specs.Step.{Program, Status, Fresh, Active, Waiting, Exhausted, Coexp, Store, State, running, failing, hopping, over, stuck, instrs_of, steps}

-- what so many instructions are worth
abbrev pub cost : ℕ → ℕ
cost zero = 1
cost (suc n) = cost n + cost n + cost n + cost n

-- what an address is worth, where no procedure has more than N instructions
abbrev pub worth : ℕ → ℕ → ℕ
worth N address = cost (N - address)

-- what a label is worth; nothing, where there is none
abbrev pub worth_of : ℕ → Option ℕ → ℕ
worth_of N None = 0
worth_of N (Some label) = worth N label

-- a fact of what is there
abbrev pub IfThere : {A : Type 0} → Option A → (A → Type 0) → Type 0
IfThere None P = Unit {0}
IfThere (Some x) P = P x

-- `Fits m v` says that a stack is well formed and weighs v at most. What a call does to a stack that weighs v at most: the weight rises by so much at
-- most, and the address stays.
pub record Stays {M : Type 0} (Fits : M → ℕ → Type 0) (address : M → ℕ) (extra v : ℕ)
    (m after : M) : Type 0 where
  pub fits : (x : ℕ) × Fits after x
  pub weighs : fits.0 ≤ extra + v
  pub stands : address after ≡ address m

-- it goes on at an address that the weight paid for
pub record Pays {M : Type 0} (Fits : M → ℕ → Type 0) (address : M → ℕ) (N v : ℕ) (after : M) : Type 0 where
  pub fits : (x : ℕ) × Fits after x
  pub weighs : worth N (address after) + fits.0 < v

-- it becomes lighter, and fails there
pub record Lightens {M : Type 0} (Fits : M → ℕ → Type 0) (v : ℕ) (after : M) : Type 0 where
  pub fits : (x : ℕ) × Fits after x
  pub weighs : fits.0 < v

-- what is left where the innermost mark is dropped weighs less, or has a changed label, which ends a turn
abbrev pub DropsWell : {M : Type 0} → (M → ℕ → Type 0) → (M → ℕ) → ℕ → ℕ → MarkDrop M → Type 0
DropsWell Fits address N v NoMark = Unit {0}
DropsWell Fits address N v (Goes after) = Pays Fits address N v after
DropsWell Fits address N v (Repeats after) = (x : ℕ) × Fits after x
DropsWell Fits address N v (Outside after) = Lightens Fits v after

-- resuming an operation or a procedure is a turn
abbrev pub ResumesWell : {M : Type 0} → (M → ℕ → Type 0) → ℕ → Why → M → Type 0
ResumesWell Fits v Alt after = Lightens Fits v after
ResumesWell Fits v (Op residual) after = (x : ℕ) × Fits after x
ResumesWell Fits v (Scan pair) after = Lightens Fits v after
ResumesWell Fits v Escan after = Lightens Fits v after
ResumesWell Fits v Proc after = (x : ℕ) × Fits after x

-- what suspends in the innermost mark
abbrev pub IsInside : Why → Type 0
IsInside Alt = ⊥
IsInside (Op residual) = Unit {0}
IsInside (Scan pair) = Unit {0}
IsInside Escan = Unit {0}
IsInside Proc = ⊥

-- Stacks have a weight, and are well formed in a way that the calls keep.
pub record Weighs {K M : Type 0} (C : Calls K M) (N : ℕ) : Type 1 where
  pub Bounded : M → ℕ → Type 0
  pub FitsAway : K → Type 0
  pub kept : (m : M) (f : (v : ℕ) × Bounded m v) → FitsAway (C.kept m)
  pub taken_up : (k : K) (m : M) → FitsAway k → (v : ℕ) × Bounded (C.taken_up k m) v
  pub begin : (proc : ℕ) (values : List Value) (address : ℕ) (m : M)
      → (v : ℕ) × Bounded (C.begin proc values address m) v
  pub set_locals : (values : List Value) (m : M) (f : (v : ℕ) × Bounded m v)
      → Stays Bounded C.address 0 f.0 m (C.set_locals values m)
  pub go : (address : ℕ) (m : M) (v : ℕ) → Bounded m v → Bounded (C.go address m) v
  pub go_stands : (address : ℕ) (m : M) → C.address (C.go address m) ≡ address
  pub push : (item : Item) (m : M) (f : (v : ℕ) × Bounded m v)
      → Stays Bounded C.address 0 f.0 m (C.push item m)
  pub pop : (m : M) (f : (v : ℕ) × Bounded m v)
      → IfThere (C.pop m) (λ top. Stays Bounded C.address 0 f.0 m top.1)
  pub take : (n : ℕ) (m : M) (f : (v : ℕ) × Bounded m v)
      → IfThere (C.take n m) (λ tops. Stays Bounded C.address 0 f.0 m tops.1)
  pub mark : (label : Option ℕ) (m : M) (f : (v : ℕ) × Bounded m v)
      → Stays Bounded C.address (suc (worth_of N label)) f.0 m (C.mark label m)
  pub limit : (count : ℕ) (m : M) (f : (v : ℕ) × Bounded m v)
      → Stays Bounded C.address 1 f.0 m (C.limit count m)
  pub relabel : (label : ℕ) (m : M) (f : (v : ℕ) × Bounded m v)
      → IfThere (C.relabel label m) (λ after. Stays Bounded C.address 0 f.0 m after)
  pub count_down : (m : M) (f : (v : ℕ) × Bounded m v)
      → IfThere (C.count_down m) (λ count. Stays Bounded C.address 0 f.0 m count.1)
  pub unmark : (m : M) (f : (v : ℕ) × Bounded m v)
      → IfThere (C.unmark m) (λ outside. Stays Bounded C.address 0 f.0 m outside.0)
  pub drop_mark : (m : M) (f : (v : ℕ) × Bounded m v) → DropsWell Bounded C.address N f.0 (C.drop_mark m)
  pub suspend : (why : Why) (m : M) → IsInside why → (f : (v : ℕ) × Bounded m v)
      → Stays Bounded C.address 1 f.0 m (C.suspend why m)
  pub suspend_mark : (m : M) (f : (v : ℕ) × Bounded m v)
      → IfThere (C.suspend_mark m) (λ after. Stays Bounded C.address 1 f.0 m after)
  pub suspend_proc : (m : M) (f : (v : ℕ) × Bounded m v)
      → IfThere (C.suspend_proc m) (λ after. Pays Bounded C.address N f.0 after)
  pub resume : (m : M) (f : (v : ℕ) × Bounded m v)
      → IfThere (C.resume m) (λ back. ResumesWell Bounded f.0 back.0 back.1)
  pub swap_newest : (pair : Pair) (m : M) (f : (v : ℕ) × Bounded m v)
      → IfThere (C.swap_newest pair m) (λ swap. Stays Bounded C.address 0 f.0 m swap.1)
  pub swap_oldest : (pair : Pair) (m : M) (f : (v : ℕ) × Bounded m v)
      → IfThere (C.swap_oldest pair m) (λ swap. Stays Bounded C.address 0 f.0 m swap.1)
  pub enter : (proc : ℕ) (values : List Value) (m : M) (f : (v : ℕ) × Bounded m v)
      → (v : ℕ) × Bounded (C.enter proc values m) v
  pub leave : (m : M) (f : (v : ℕ) × Bounded m v)
      → IfThere (C.leave m) (λ caller. Pays Bounded C.address N f.0 caller)

-- labels of marks, `goto` and `init` lie behind their instruction
abbrev pub IsForward : ℕ → Instr → Type 0
IsForward address (I.Mark label) = address < label
IsForward address (I.Goto label) = address < label
IsForward address (I.Init label) = address < label
IsForward address instr = Unit {0}

-- no procedure has more than N instructions, and each goes forward
pub record Forward (N : ℕ) (P : Program) : Type 0 where
  pub within : (proc address : ℕ) (instr : Instr) → slice_get (instrs_of P proc) address ≡ Some instr
      → address < N
  pub forward : (proc address : ℕ) (instr : Instr) → slice_get (instrs_of P proc) address ≡ Some instr
      → IsForward address instr

-- stacks that wait are well formed
abbrev pub FitsStatus : {K : Type 0} → (K → Type 0) → Status K → Type 0
FitsStatus Fits Fresh = Unit {0}
FitsStatus Fits Active = Unit {0}
FitsStatus Fits (Waiting k) = Fits k
FitsStatus Fits Exhausted = Unit {0}

-- the stacks of all co-expressions that wait are well formed
abbrev pub FitAll : {K : Type 0} → (K → Type 0) → List (Coexp K) → Type 0
FitAll Fits [] = Unit {0}
FitAll Fits (coexp ∷ coexps) = FitsStatus Fits coexp.status × FitAll Fits coexps

-- A run ends by its bound: B is the turns that may be made, and N the most instructions of a procedure.
module _ {K M : Type 0} (C : Calls K M) (N B : ℕ) (W : Weighs C N) where
  -- a stack is well formed
  abbrev pub Fits : M → Type 0
  Fits m = (v : ℕ) × W.Bounded m v

  -- stacks that wait are well formed, and the bound on turns is B
  abbrev pub FitsStore : Store K → Type 0
  FitsStore st = FitAll W.FitsAway st.coexps × (st.world.heap.bounds.turns ≡ B)

  -- a state after one turn more than n
  abbrev pub After : ℕ → State K M → Type 0
  After n (running m st) = Fits m × FitsStore st × (st.turns ≡ n + 1)
  After n (failing m st) = Fits m × FitsStore st × (st.turns ≡ n + 1)
  After n (hopping m st) = FitsStore st × (st.turns ≡ n + 1)
  After n (over ending outside) = Unit {0}
  After n stuck = Unit {0}

  -- one turn more than n was made, and there was one; or no turn was made, and this is less than that
  abbrev pub Falls : (turns less n more : ℕ) → Type 0
  Falls turns less n more = ((turns ≡ n + 1) × (n < B)) ⊎ ((turns ≡ n) × (less < more))

  -- a state after one turn more than n, or one that is lighter than w after n turns
  abbrev pub Later : (n w : ℕ) → State K M → Type 0
  Later n w (running m st) = (f : Fits m) × FitsStore st × Falls st.turns (worth N (C.address m) + f.0) n w
  Later n w (failing m st) = (f : Fits m) × FitsStore st × Falls st.turns f.0 n w
  Later n w (hopping m st) = FitsStore st × ((st.turns ≡ n + 1) × (n < B))
  Later n w (over ending outside) = Unit {0}
  Later n w stuck = Unit {0}

  -- the stacks of a state are well formed, and it made no more turns than it may
  abbrev pub Sound : State K M → Type 0
  Sound (running m st) = Fits m × FitsStore st × (st.turns ≤ B)
  Sound (failing m st) = Fits m × FitsStore st × (st.turns ≤ B)
  Sound (hopping m st) = FitsStore st × (st.turns ≤ B)
  Sound (over ending outside) = Unit {0}
  Sound stuck = Unit {0}

-- the run is over, or something lacked
abbrev pub IsEnd : {K M : Type 0} → State K M → Type 0
IsEnd (over ending outside) = Unit {0}
IsEnd stuck = Unit {0}
IsEnd state = ⊥

-- from this state on the run ends
pub record EndsFrom {K M : Type 0} (C : Calls K M) (P : Program) (state : State K M) : Type 0 where
  pub count : ℕ
  pub is_end : IsEnd (steps C P count state)
