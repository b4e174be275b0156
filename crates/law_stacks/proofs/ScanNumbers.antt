-- Open scans: their numbers, and the heights of their frames.
use Rattle.std.proofs.Common.{◌≡◌, ℕ, zero, suc, ◌-◌, ◌≤◌, List, [], ◌∷◌, ◌++◌, length, Bool, true, false, Option, Some, None, refl, sym, ap, ◌∙◌, subst, arith, length-append, if◌then◌else◌}
use Rattle.std.specs.Prelude.{slice_get, slice_index_or, ◌==◌}
use Rattle.std.proofs.lemmas.Bool.{eqb-true, eqb-false}
use Rattle.icn_run.specs.Calls.{Pair}
use Rattle.icn_run.specs.Stacks as S
use Rattle.icn_run.specs.Stacks.{Registers, Cell}
use Rattle.icn_run.specs.Chains as L
use Rattle.icn_run.specs.Chains.{scanning, LinkedStack}
use Rattle.law_stacks.specs.Rendered.{Saved, Memory, saved_name, memory_of, NCell, n_suspension, RenderedWorld, IsOwned, saved_in, shown_cell, render, AllOk, FlatScans, f_no_scan, f_scan}
use Rattle.law_stacks.proofs.CellLists.{get_seam, above_all, length_map, render_get}
use Rattle.law_stacks.proofs.NumberedCells.{ok_part, one_height, got_pair, index_got}
use Rattle.law_stacks.proofs.Flattening.{raise_scans, stands_under}

-- the frame of a scan
pub data ScanAt (cells : List NCell) : Option ℕ → Option ℕ → Type 0 where
  no_scan : ScanAt cells None None
  scan_at : {n h : ℕ} (q : ℕ) (r : Registers) (above below : List NCell) → cells ≡ above ++ n_suspension (scanning n) r q ∷ below → h ≡ suc (length below)
      → ScanAt cells (Some n) (Some h)

pub first_at : {scans : List ℕ} {cells : List NCell} {h : Option ℕ} → FlatScans scans cells h → ScanAt cells (L.first_scan scans) h
first_at f_no_scan = no_scan
first_at (f_scan q r above below e g k) = scan_at q r above below e g

pub ok_rest : (w : RenderedWorld) (s : ℕ) {cells : List NCell} (xs ys : List NCell) → cells ≡ xs ++ ys → AllOk w s cells → AllOk w s ys
ok_rest w s xs ys e o = ok_part w s xs ys (subst (AllOk w s) e o)

cell_of : (above : List NCell) (c : NCell) (below : List NCell) {cells : List NCell} (h : ℕ) → cells ≡ above ++ c ∷ below → h ≡ suc (length below)
    → slice_get cells (length cells - h) ≡ Some c
cell_of above c below {cells} h e g =
    subst (λ l. slice_get l (length l - h) ≡ Some c) (sym e) (ap (slice_get (above ++ c ∷ below)) (above_all above c below h g) ∙ get_seam above c below)

abbrev scan_number : Option NCell → ℕ
scan_number (Some (n_suspension (scanning n) r q)) = n
scan_number c = 0

both_ways : (h k n m : ℕ) → (h ≡ k → n ≡ m) → (n ≡ m → h ≡ k) → (b c : Bool) → (h == k) ≡ b → (n == m) ≡ c → b ≡ c
both_ways h k n m f g true true e i = refl
both_ways h k n m f g true false e i = absurd (eqb-false n m i (f (eqb-true h k e)))
both_ways h k n m f g false true e i = absurd (eqb-false h k e (g (eqb-true n m i)))
both_ways h k n m f g false false e i = refl

pub same_as : (w : RenderedWorld) (s : ℕ) (cells : List NCell) → AllOk w s cells → {n m h k : Option ℕ} → ScanAt cells n h → ScanAt cells m k
    → S.is_same h k ≡ L.is_same n m
same_as w s cells o no_scan no_scan = refl
same_as w s cells o no_scan (scan_at q r above below e g) = refl
same_as w s cells o (scan_at q r above below e g) no_scan = refl
same_as w s cells o (scan_at {n} {h} q r above below e g) (scan_at {n = m} {h = k} q' r' above' below' e' g') =
    both_ways h k n m
    (λ i. ap scan_number (sym (cell_of above (n_suspension (scanning n) r q) below h e g) ∙ ap (λ x. slice_get cells (length cells - x)) i
    ∙ cell_of above' (n_suspension (scanning m) r' q') below' k e' g'))
    (λ i. let x = (ok_rest w s above (n_suspension (scanning n) r q ∷ below) e o).0 in
    let y = (ok_rest w s above' (n_suspension (scanning m) r' q' ∷ below') e' o).0 in
    g ∙ one_height w (saved_name n) s s (suc (length below)) (suc (length below')) (Saved x.0) (Saved y.0) x.1
    (subst (λ j. IsOwned w (saved_name j) s (suc (length below')) (Saved y.0)) (sym i) y.1) ∙ sym g')
    (h == k) (n == m) refl refl

-- scans stand at most so high
abbrev Within : ℕ → Option ℕ → Type 0
Within n None = Unit {0}
Within n (Some h) = h ≤ n

scan_height : {scans : List ℕ} {cells : List NCell} {h : Option ℕ} (n : ℕ) → length cells ≤ n → FlatScans scans cells h → Within n h
scan_height n le f_no_scan = tt
scan_height n le (f_scan {n = m} q r above below e g k) = omega (arith, ap length e, length-append above (n_suspension (scanning m) r q ∷ below))

chosen : {cells : List NCell} {x x' h h' : Option ℕ} (b c : Bool) → b ≡ c → ScanAt cells x h → ScanAt cells x' h'
    → ScanAt cells (if c then x else x') (elim b as (λ x. Option ℕ) [ true ↦ h | false ↦ h' ])
chosen true true e a d = a
chosen true false e a d = let z : ⊥ = cc in absurd z
chosen false true e a d = let z : ⊥ = cc in absurd z
chosen false false e a d = d

none_from : (fuel : ℕ) (cells : List Cell) (u : Option ℕ) → S.oldest_from fuel cells u None ≡ None
none_from zero cells u = refl
none_from (suc n) cells u = either (S.is_same None u) (none_from n cells u)
  where
    either : (b : Bool) → S.oldest_from n cells u None ≡ None → (elim b as (λ x. Option ℕ) [ true ↦ None | false ↦ S.oldest_from n cells u None ]) ≡ None
    either true e = refl
    either false e = e

older : (F : Memory) (n q h : ℕ) (r : Registers) (above below : List NCell) {cells : List NCell} → cells ≡ above ++ n_suspension (scanning n) r q ∷ below
    → h ≡ suc (length below) → S.older_scan (render F cells) (Some h) ≡ r.scan
older F n q h r above below e g = ap S.scan_of (render_get F above (n_suspension (scanning n) r q) below h e g)

pub older_is : (F : Memory) (n q h : ℕ) (r : Registers) (above below : List NCell) {cells : List NCell} → cells ≡ above ++ n_suspension (scanning n) r q ∷ below
    → h ≡ suc (length below) → S.older_scan (render F cells) (Some h) ≡ r.scan
older_is F n q h r above below e g = older F n q h r above below e g

oldest_from_at : (w : RenderedWorld) (s : ℕ) (cells : List NCell) → AllOk w s cells → {n u : Option ℕ} → ScanAt cells n u
    → (fuel : ℕ) {scans : List ℕ} {h : Option ℕ}
    → FlatScans scans cells h → Within fuel h
    → ScanAt cells (L.oldest_from n scans) (S.oldest_from fuel (render w.kept cells) u h)
oldest_from_at w s cells o {u = u} a fuel f_no_scan i = subst (λ x. ScanAt cells None x) (sym (none_from fuel (render w.kept cells) u)) no_scan
oldest_from_at w s cells o a zero (f_scan q r above below e g k) i = absurd (omega arith)
oldest_from_at w s cells o {n = n} {u = u} a (suc fuel) (f_scan {n = m} {h = h} {scans = scans} q r above below e g k) i =
    let up : FlatScans scans cells r.scan = raise_scans (above ++ n_suspension (scanning m) r q ∷ [])
    (stands_under above (n_suspension (scanning m) r q ∷ []) below e refl) k in
    subst (λ x. ScanAt cells (L.oldest_from n (m ∷ scans)) (elim (S.is_same x u) as (λ x. Option ℕ)
    [ true ↦ Some h | false ↦ S.oldest_from fuel (render w.kept cells) u x ])) (sym (older w.kept m q h r above below e g))
    (chosen (S.is_same r.scan u) (L.is_same (L.first_scan scans) n) (same_as w s cells o (first_at up) a) (scan_at q r above below e g)
    (oldest_from_at w s cells o a fuel up (scan_height fuel (omega arith) k)))

pub oldest_at : (w : RenderedWorld) (s : ℕ) (cells : List NCell) → AllOk w s cells → {n u : Option ℕ} → ScanAt cells n u
    → {scans : List ℕ} (r : Registers) (q : ℕ)
    → FlatScans scans cells r.scan
    → ScanAt cells (L.oldest n scans) (S.oldest u (record { cells = render w.kept cells; registers = r; address = q }))
oldest_at w s cells o {n = n} {u = u} a {scans = scans} r q k =
    chosen (S.is_same r.scan u) (L.is_same (L.first_scan scans) n) (same_as w s cells o (first_at k) a) no_scan
    (oldest_from_at w s cells o a (length (render w.kept cells)) k
    (scan_height (length (render w.kept cells)) (let e = length_map (shown_cell w.kept) cells in omega arith) k))

-- the pair that is saved there
pub same_pair : (w : RenderedWorld) (s : ℕ) (cells : List NCell) → AllOk w s cells → (m : LinkedStack) → memory_of m ≡ w.kept → {n h : Option ℕ}
    → ScanAt cells n h
    → L.pair_at m n ≡ S.pair_at (render w.kept cells) h
same_pair w s cells o m f no_scan = refl
same_pair w s cells o m f (scan_at {n} {h} q r above below e g) =
    let x = (ok_rest w s above (n_suspension (scanning n) r q ∷ below) e o).0 in
    let d : Pair = record { subject = []; position = 1 } in
    ap (λ (F : Memory). Some (slice_index_or F.saved n d)) f ∙ ap Some (index_got w.kept.saved n x.0 d (got_pair w.kept n x.0 x.1.holds))
    ∙ sym (ap S.pair_of (render_get w.kept above (n_suspension (scanning n) r q) below h e g) ∙ ap (λ k. Some (saved_in k)) x.1.holds)
