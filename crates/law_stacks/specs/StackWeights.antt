-- What flat stacks weigh: what their registers lead to, frame by frame and mark by mark.
use Rattle.std.specs.Prelude.{◌≡◌, ℕ, suc, ◌+◌, ◌<◌, ◌≤◌, Bool, true, false, List, ◌∷◌, length, Option, Some, None}
use Rattle.icn_run.specs.Rows.{Value}
use Rattle.icn_run.specs.Calls.{Pair, Why, Alt, Op, Scan, Escan, Proc}
use Rattle.icn_run.specs.Stacks.{Cell, base, call, local, mark, limit, suspension, Registers, cut}
use Rattle.law_stacks.specs.Measure.{worth, worth_of}

-- a label that was changed is gone to by a turn
abbrev pub label_weight : ℕ → Option ℕ → Bool → ℕ
label_weight N label false = worth_of N label
label_weight N label true = 0

-- what comes back weighs less than what it comes back to, unless it comes back by a turn
abbrev pub Back : Why → ℕ → ℕ → Type 0
Back Alt inside here = inside < here
Back (Op residual) inside here = Unit {0}
Back (Scan pair) inside here = inside < here
Back Escan inside here = inside < here
Back Proc inside here = Unit {0}

mutual
  -- s bounds what the newest suspension holds, and o what the mark and all outside hold
  pub data Fit (N : ℕ) : List Cell → Registers → ℕ → ℕ → Type 0 where
    fit : {cells : List Cell} {r : Registers} {s o : ℕ} → Newest N cells r.newest s o
        → Outer N cells r.mark r.base o → Fit N cells r s o

  pub data Newest (N : ℕ) : List Cell → Option ℕ → ℕ → ℕ → Type 0 where
    nothing : {cells : List Cell} {newest : Option ℕ} {s o : ℕ} → newest ≡ None → Newest N cells newest s o
    newest_at : {cells : List Cell} {newest : Option ℕ} {s o : ℕ} (h : ℕ) (why : Why) (r : Registers)
        (address : ℕ) (below : List Cell) (s' o' : ℕ)
        → newest ≡ Some h → cut h cells ≡ suspension why r address ∷ below → suc (length below) ≡ h
        → Fit N below r s' o' → Back why (s' + o') (s + o) → Newest N cells newest s o

  pub data Outer (N : ℕ) : List Cell → ℕ → ℕ → ℕ → Type 0 where
    at_mark : {cells : List Cell} {m b o : ℕ} (label : Option ℕ) (changed : Bool) (r : Registers)
        (below : List Cell) (l s' o' : ℕ)
        → cut m cells ≡ mark label changed r ∷ below → suc (length below) ≡ m
        → label_weight N label changed ≤ l → Fit N below r s' o' → o ≡ suc l + (s' + o') → r.base ≡ b
        → Outer N cells m b o
    at_limit : {cells : List Cell} {m b o : ℕ} (count : ℕ) (r : Registers) (below : List Cell) (s' o' : ℕ)
        → cut m cells ≡ limit count r ∷ below → suc (length below) ≡ m → Fit N below r s' o'
        → o ≡ suc (s' + o') → r.base ≡ b → Outer N cells m b o
    at_call : {cells : List Cell} {m b o : ℕ} (proc locals level : ℕ) (r : Registers) (address : ℕ)
        (below : List Cell) (s' o' : ℕ)
        → cut m cells ≡ call proc locals level r address ∷ below → suc (length below) ≡ m
        → Fit N below r s' o'
        → o ≡ suc (worth N address) + (s' + o') → m ≡ b → Outer N cells m b o
    at_base : {cells : List Cell} {m b o : ℕ} (proc locals : ℕ) (below : List Cell)
        → cut m cells ≡ base proc locals ∷ below → suc (length below) ≡ m → m ≡ b → Outer N cells m b o

-- a cell that takes the place of another: it leads to the same, and weighs no more
pub data Like : Cell → Cell → Type 0 where
  same : (x : Cell) → Like x x
  relabelled : (old new : Option ℕ) (changed : Bool) (r : Registers)
      → Like (mark old changed r) (mark new true r)
  counted : (old new : ℕ) (r : Registers) → Like (limit old r) (limit new r)
  exchanged : (old new : Pair) (r : Registers) (address : ℕ)
      → Like (suspension (Scan old) r address) (suspension (Scan new) r address)
  assigned : (old new : Value) → Like (local old) (local new)
