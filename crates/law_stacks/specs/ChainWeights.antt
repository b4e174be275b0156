-- What linked marks weigh.
use Rattle.std.specs.Prelude.{ℕ, suc, ◌+◌, ◌≤◌}
use Rattle.icn_run.specs.Calls.{Alt, Op, Scan, Escan, Proc}
use Rattle.icn_run.specs.Chains.{Label, fixed, flagged, Reason, because, scanning, Chain, chain, Suspensions, none, suspension, Outer, base, call, mark, limit}
use Rattle.law_stacks.specs.Measure.{worth, worth_of}

-- what the label of a mark weighs, whatever its flag
abbrev pub label_weight : ℕ → Label → ℕ
label_weight N (fixed label) = worth_of N label
label_weight N (flagged label flag address) = worth_of N label

-- what comes back with a suspension, by what it holds down to the mark outside its own, and by what its own mark holds; nothing, where to resume is a turn
abbrev pub reason_weight : Reason → ℕ → ℕ → ℕ
reason_weight (because Alt) inside own = suc inside
reason_weight (because (Op residual)) inside own = 0
reason_weight (because (Scan pair)) inside own = suc own
reason_weight (because Escan) inside own = suc own
reason_weight (because Proc) inside own = 0
reason_weight (scanning n) inside own = suc own

-- what a chain weighs: its suspensions, and what is outside its innermost mark
abbrev mutual
  pub weight_of : ℕ → Chain → ℕ
  weight_of N (chain items s scans o) = susp_weight N s + outer_weight N o

  pub susp_weight : ℕ → Suspensions → ℕ
  susp_weight N none = 0
  susp_weight N (suspension reason address inside) =
      reason_weight reason (inside_weight N inside) (own_weight N inside)

  pub outer_weight : ℕ → Outer → ℕ
  outer_weight N (base proc activation) = 0
  outer_weight N (call proc activation level address caller) = suc (worth N address) + weight_of N caller
  outer_weight N (mark label outside) = suc (label_weight N label) + weight_of N outside
  outer_weight N (limit n outside) = suc (weight_of N outside)

  pub own_weight : ℕ → Chain → ℕ
  own_weight N (chain items s scans o) = susp_weight N s

  pub inside_weight : ℕ → Chain → ℕ
  inside_weight N (chain items s scans o) = susp_weight N s + above_weight N o

  pub above_weight : ℕ → Outer → ℕ
  above_weight N (base proc activation) = 0
  above_weight N (call proc activation level address caller) = 0
  above_weight N (mark label outside) = suc (label_weight N label) + own_weight N outside
  above_weight N (limit n outside) = suc (own_weight N outside)

-- the marks outside what comes back weigh no more than those outside the mark that it comes back in
abbrev pub Under : ℕ → Reason → Chain → Outer → Type 0
Under N (because Alt) inside o = weight_of N inside ≤ inside_weight N inside + outer_weight N o
Under N (because (Op residual)) inside o = Unit {0}
Under N (because (Scan pair)) inside o = weight_of N inside ≤ own_weight N inside + outer_weight N o
Under N (because Escan) inside o = weight_of N inside ≤ own_weight N inside + outer_weight N o
Under N (because Proc) inside o = Unit {0}
Under N (scanning n) inside o = weight_of N inside ≤ own_weight N inside + outer_weight N o

-- it is so of each suspension, and inside it
abbrev mutual
  pub Fit : ℕ → Chain → Type 0
  Fit N (chain items s scans o) = FitSuspension N s o × FitOuter N o

  pub FitSuspension : ℕ → Suspensions → Outer → Type 0
  FitSuspension N none o = Unit {0}
  FitSuspension N (suspension reason address inside) o = Fit N inside × Under N reason inside o

  pub FitOuter : ℕ → Outer → Type 0
  FitOuter N (base proc activation) = Unit {0}
  FitOuter N (call proc activation level address caller) = Fit N caller
  FitOuter N (mark label outside) = Fit N outside
  FitOuter N (limit n outside) = Fit N outside
