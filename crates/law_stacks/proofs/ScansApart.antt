-- Open scans of a chain that lies flat are another each.
use Rattle.std.proofs.Common.{◌≡◌, ℕ, suc, ◌≤◌, List, [], ◌∷◌, ◌++◌, length, Bool, true, false, Option, Some, None, refl, sym, ap, subst, arith, length-append}
use Rattle.std.specs.Prelude.{◌==◌}
use Rattle.std.proofs.lemmas.Bool.{eqb-true}
use Rattle.icn_run.specs.Calls.{Pair}
use Rattle.icn_run.specs.Chains.{scanning, Chain, chain, Outer, base, call, mark, limit, LinkedStack, scans_of, first_scan}
use Rattle.law_stacks.specs.Rendered.{NCell, n_suspension, RenderedWorld, IsOwned, Saved, saved_name, AllOk, FlatScans, f_no_scan, f_scan}
use Rattle.law_stacks.proofs.NumberedCells.{one_height}
use Rattle.law_stacks.proofs.ScanNumbers.{ok_rest}
use Rattle.law_stacks.proofs.ScansLeft.{Apart}

-- those that were opened in a mark are none of those outside, told by the newest of these
abbrev pub ApartIn : List ℕ → Outer → Type 0
ApartIn scans (base p a) = Unit {0}
ApartIn scans (call p a level q caller) = Unit {0}
ApartIn scans (mark label outside) = (new : List ℕ) → scans ≡ new ++ scans_of outside → Apart (first_scan (scans_of outside)) new
ApartIn scans (limit n outside) = (new : List ℕ) → scans ≡ new ++ scans_of outside → Apart (first_scan (scans_of outside)) new

abbrev pub ApartOf : Chain → Type 0
ApartOf (chain items s scans outer) = ApartIn scans outer

abbrev pub ScansApart : LinkedStack → Type 0
ScansApart m = ApartOf m.chain

no_cons : {B : Type 0} (x : ℕ) (xs : List ℕ) → [] ≡ x ∷ xs → B
no_cons x xs e = let z : ⊥ = cc in absurd z

abbrev head_of : ℕ → List ℕ → ℕ
head_of d [] = d
head_of d (x ∷ xs) = x

abbrev tail_of : List ℕ → List ℕ
tail_of [] = []
tail_of (x ∷ xs) = xs

-- where a scan stands
record Stood (w : RenderedWorld) (s n size : ℕ) : Type 0 where
  height : ℕ
  pair : Pair
  owned : IsOwned w (saved_name n) s height (Saved pair)
  low : height ≤ size

stood : (w : RenderedWorld) (s k : ℕ) (old new : List ℕ) {scans : List ℕ} {cells : List NCell} {h : Option ℕ} → scans ≡ new ++ k ∷ old → FlatScans scans cells h
    → AllOk w s cells → Stood w s k (length cells)
stood w s k old [] q f_no_scan o = no_cons k old q
stood w s k old [] q (f_scan {n = m} p r above below e g f) o =
    let x = (ok_rest w s above (n_suspension (scanning m) r p ∷ below) e o).0 in
    let i : m ≡ k = ap (head_of k) q in
    let l = ap length e in
    record {
      height = suc (length below);
      pair = x.0;
      owned = subst (λ j. IsOwned w (saved_name j) s (suc (length below)) (Saved x.0)) i x.1;
      low = omega (arith, l, length-append above (n_suspension (scanning m) r p ∷ below));
    }
stood w s k old (n ∷ new) q f_no_scan o = no_cons n (new ++ k ∷ old) q
stood w s k old (n ∷ new) q (f_scan {n = m} p r above below e g f) o =
    let x = ok_rest w s above (n_suspension (scanning m) r p ∷ below) e o in
    let y = stood w s k old new (ap tail_of q) f x.1 in
    let l = ap length e in
    let z = y.low in
    record { height = y.height; pair = y.pair; owned = y.owned; low = omega (arith, l, length-append above (n_suspension (scanning m) r p ∷ below)) }

differs : (w : RenderedWorld) (s n k size : ℕ) (pair : Pair) → IsOwned w (saved_name n) s (suc size) (Saved pair) → Stood w s k size → (n == k) ≡ false
differs w s n k size pair o y = by_test (n == k) refl
  where
    by_test : (b : Bool) → (n == k) ≡ b → (n == k) ≡ false
    by_test true e =
        let i : k ≡ n = sym (eqb-true n k e) in
        let same = one_height w (saved_name n) s s (suc size) y.height (Saved pair) (Saved y.pair) o
        (subst (λ j. IsOwned w (saved_name j) s y.height (Saved y.pair)) i y.owned) in
        let low = y.low in
        absurd (omega arith)
    by_test false e = e

apart_new : (w : RenderedWorld) (s k : ℕ) (old new : List ℕ) {scans : List ℕ} {cells : List NCell} {h : Option ℕ} → scans ≡ new ++ k ∷ old
    → FlatScans scans cells h
    → AllOk w s cells → Apart (Some k) new
apart_new w s k old [] q f o = tt
apart_new w s k old (n ∷ new) q f_no_scan o = no_cons n (new ++ k ∷ old) q
apart_new w s k old (n ∷ new) q (f_scan {n = m} p r above below e g f) o =
    let x = ok_rest w s above (n_suspension (scanning m) r p ∷ below) e o in
    let i : m ≡ n = ap (head_of n) q in (
      differs w s n k (length below) x.0.0 (subst (λ j. IsOwned w (saved_name j) s (suc (length below)) (Saved x.0.0)) i x.0.1)
          (stood w s k old new (ap tail_of q) f x.1),
      apart_new w s k old new (ap tail_of q) f x.1,
    )

apart_none : (new : List ℕ) → Apart None new
apart_none [] = tt
apart_none (n ∷ new) = (refl, apart_none new)

apart_from : (w : RenderedWorld) (s : ℕ) (cells : List NCell) {scans : List ℕ} {h : Option ℕ} → FlatScans scans cells h → AllOk w s cells
    → (outside new : List ℕ)
    → scans ≡ new ++ outside → Apart (first_scan outside) new
apart_from w s cells f o [] new e = apart_none new
apart_from w s cells f o (k ∷ old) new e = apart_new w s k old new e f o

pub scans_apart : (w : RenderedWorld) (s : ℕ) (cells : List NCell) {scans : List ℕ} {h : Option ℕ} → FlatScans scans cells h → AllOk w s cells → (outer : Outer)
    → ApartIn scans outer
scans_apart w s cells f o (base p a) = tt
scans_apart w s cells f o (call p a level q caller) = tt
scans_apart w s cells f o (mark label outside) = λ new e. apart_from w s cells f o (scans_of outside) new e
scans_apart w s cells f o (limit n outside) = λ new e. apart_from w s cells f o (scans_of outside) new e
