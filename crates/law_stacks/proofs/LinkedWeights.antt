-- Linked marks have a weight, so that each run on them ends.
use Rattle.std.proofs.Common.{◌≡◌, ℕ, suc, pred, ◌+◌, ◌<◌, ◌≤◌, List, [], ◌∷◌, length, Option, Some, None, refl, sym, ap, subst, arith, Bool, true, false}
use Rattle.std.specs.Prelude.{slice_get, slice_index_or, ◌==◌}
use Rattle.std.specs.Option.{option_map}
use Rattle.icn_run.specs.Rows.{Item, Residual}
use Rattle.icn_run.specs.Calls.{Pair, Why, Alt, Op, Scan, Escan, Proc, MarkDrop, NoMark, Goes, Repeats, Outside}
use Rattle.icn_run.specs.Chains.{Label, fixed, flagged, because, scanning, Chain, chain, Suspensions, none, suspension, Outer, base, call, mark, limit, LinkedStack, Frame, at_base, in_call, frame_of, outer_of, scans_of, frame, with_chain, push_on, pop_from, take_top, take_from, open_mark, relabelled_if, relabel_in, count_in, label_of, oldest, swap_at, unmark_from, dropped_to, dropped_by, repeat_mark, drop_from, suspend_in, without_scan, with_scan, suspend, suspend_outer, suspend_frame, resume_from, enter, leave_frame, linked_calls, proc_of}
use Rattle.law_stacks.specs.Measure.{worth, worth_of, IfThere, Stays, Pays, Lightens, DropsWell, ResumesWell, Weighs, IsInside}
use Rattle.law_stacks.specs.ChainWeights.{label_weight, weight_of, outer_weight, Fit, FitOuter}
use Rattle.law_stacks.proofs.StepsFall.{either_way}

-- What a call does to the weight of a stack, which is well formed and stays so: it rises by so much at most, and the place stays.
record Growing {M : Type 0} (Fits : M → Type 0) (weight place : M → ℕ) (extra : ℕ) (m after : M) : Type 0 where
  pub fits : Fits after
  pub weighs : weight after ≤ extra + weight m
  pub stands : place after ≡ place m

-- it goes on at a place that the weight paid for
record Paying {M : Type 0} (Fits : M → Type 0) (weight place : M → ℕ) (N : ℕ) (m after : M) : Type 0 where
  pub fits : Fits after
  pub weighs : worth N (place after) + weight after < weight m

-- it becomes lighter, and fails there
record Lightening {M : Type 0} (Fits : M → Type 0) (weight : M → ℕ) (m after : M) : Type 0 where
  pub fits : Fits after
  pub weighs : weight after < weight m

abbrev Dropping : {M : Type 0} → (M → Type 0) → (M → ℕ) → (M → ℕ) → ℕ → M → MarkDrop M → Type 0
Dropping Fits weight place N m NoMark = Unit {0}
Dropping Fits weight place N m (Goes after) = Paying Fits weight place N m after
Dropping Fits weight place N m (Repeats after) = Fits after
Dropping Fits weight place N m (Outside after) = Lightening Fits weight m after

-- resuming an operation or a procedure is a turn
abbrev Resuming : {M : Type 0} → (M → Type 0) → (M → ℕ) → M → Why → M → Type 0
Resuming Fits weight m Alt after = Lightening Fits weight m after
Resuming Fits weight m (Op residual) after = Fits after
Resuming Fits weight m (Scan pair) after = Lightening Fits weight m after
Resuming Fits weight m Escan after = Lightening Fits weight m after
Resuming Fits weight m Proc after = Fits after

module _ (repeats : ℕ → ℕ → Bool) (N : ℕ) where
  abbrev F : LinkedStack → Type 0
  F m = Fit N m.chain

  abbrev weight : LinkedStack → ℕ
  weight m = weight_of N m.chain

  abbrev place : LinkedStack → ℕ
  place m = m.address

  abbrev St : ℕ → LinkedStack → LinkedStack → Type 0
  St k m after = Growing F weight place k m after

  -- the same chain
  same : (m after : LinkedStack) → F m → after.chain ≡ m.chain → after.address ≡ m.address → St 0 m after
  same m after f e p = record { fits = subst (Fit N) (sym e) f; weighs = let w = ap (weight_of N) e in omega arith; stands = p }

  -- chains

  abbrev ResumesOver : ℕ → Why → LinkedStack → Type 0
  ResumesOver k Alt after = F after × (weight after < k)
  ResumesOver k (Op r) after = F after
  ResumesOver k (Scan pair) after = F after × (weight after < k)
  ResumesOver k Escan after = F after × (weight after < k)
  ResumesOver k Proc after = F after

  push_fit : (item : Item) (c : Chain) → Fit N c → Fit N (push_on item c)
  push_fit item (chain items s scans o) f = f

  push_weight : (item : Item) (c : Chain) → weight_of N (push_on item c) ≡ weight_of N c
  push_weight item (chain items s scans o) = refl

  -- after a call that leaves the place: it is well formed, and weighs so much more than a chain at most
  abbrev Over : ℕ → Chain → LinkedStack → LinkedStack → Type 0
  Over k c m after = F after × (weight after ≤ k + weight_of N c) × (after.address ≡ m.address)

  to_stays : (k : ℕ) (m after : LinkedStack) → Over k m.chain m after → St k m after
  to_stays k m after h = record { fits = h.0; weighs = h.1; stands = h.2 }

  if_there : {A : Type 0} {P Q : A → Type 0} (o : Option A) → IfThere o P → ((x : A) → P x → Q x) → IfThere o Q
  if_there None h f = tt
  if_there (Some x) h f = f x h

  pop_over : (m : LinkedStack) (c : Chain) → Fit N c → IfThere (pop_from m c) (λ top. Over 0 c m top.1)
  pop_over m (chain [] s scans o) f = tt
  pop_over m (chain (item ∷ items) s scans o) f = (f, omega arith, refl)

  take_over : (m : LinkedStack) (items : List Item) (s : Suspensions) (scans : List ℕ) (o : Outer) (parts : Option (List Item × List Item))
      → Fit N (chain items s scans o)
      → IfThere {A = List Item × LinkedStack} (option_map (λ (parts : List Item × List Item). (parts.0, with_chain (chain parts.1 s scans o) m)) parts)
      (λ tops. Over 0 (chain items s scans o) m tops.1)
  take_over m items s scans o None f = tt
  take_over m items s scans o (Some parts) f = (f, omega arith, refl)

  take_from_over : (n : ℕ) (m : LinkedStack) (c : Chain) → Fit N c → IfThere (take_from n m c) (λ tops. Over 0 c m tops.1)
  take_from_over n m (chain items s scans o) f = take_over m items s scans o (take_top n items []) f

  relabelled_over : (b : Bool) (label flag : ℕ) (m : LinkedStack) → F m → St 0 m (relabelled_if b label flag m)
  relabelled_over true label flag m f = same m _ f refl refl
  relabelled_over false label flag m f = same m _ f refl refl

  relabel_over : (label : ℕ) (m : LinkedStack) (o : Outer) → F m → IfThere (relabel_in label m o) (λ after. St 0 m after)
  relabel_over label m (mark (flagged old flag p) outside) f = relabelled_over (label == p) label flag m f
  relabel_over label m (mark (fixed l) outside) f = tt
  relabel_over label m (base p a) f = tt
  relabel_over label m (call p a l q c) f = tt
  relabel_over label m (limit n c) f = tt

  count_over : (m : LinkedStack) (o : Outer) → F m → IfThere (count_in m o) (λ count. St 0 m count.1)
  count_over m (limit n c) f = same m _ f refl refl
  count_over m (mark l c) f = tt
  count_over m (base p a) f = tt
  count_over m (call p a l q c) f = tt

  unmark_over : (m : LinkedStack) (o : Outer) → FitOuter N o
      → IfThere (unmark_from m o) (λ outside. F outside.0 × (weight outside.0 ≤ outer_weight N o) × (outside.0.address ≡ m.address))
  unmark_over m (mark label c) f = (f, omega arith, refl)
  unmark_over m (limit n c) f = (f, omega arith, refl)
  unmark_over m (base p a) f = tt
  unmark_over m (call p a l q c) f = tt

  outer_fit : (c : Chain) → Fit N c → FitOuter N (outer_of c)
  outer_fit (chain items s scans o) f = f.1

  outer_less : (c : Chain) → outer_weight N (outer_of c) ≤ weight_of N c
  outer_less (chain items s scans o) = omega arith

  swap_over : (pair : Pair) (m : LinkedStack) (o : Option ℕ) → F m → IfThere (swap_at pair m o) (λ swap. St 0 m swap.1)
  swap_over pair m None f = tt
  swap_over pair m (Some n) f = same m _ f refl refl

  -- marks

  opened_over : (m : LinkedStack) (c : Chain) (label : Label) → Fit N c
      → Over (suc (label_weight N label)) c m (with_chain (chain [] none (scans_of c) (mark label c)) m)
  opened_over m c label f = ((tt, f), omega arith, refl)

  mark_stays : (label : Option ℕ) (m : LinkedStack) → F m → St (suc (worth_of N label)) m (open_mark repeats label m)
  mark_stays label m f = either_way (St (suc (worth_of N label)) m) (repeats (proc_of (frame m)) (pred m.address)) _ _
      (record { fits = (tt, f); weighs = omega arith; stands = refl }) (record { fits = (tt, f); weighs = omega arith; stands = refl })

  dropped_to_well : (m : LinkedStack) (c : Chain) (l : Option ℕ) (o : Outer) → Fit N c → F m → suc (worth_of N l) + weight_of N c ≤ weight m
      → Dropping F weight place N m (dropped_to m c l)
  dropped_to_well m c (Some l) o f g le = record { fits = f; weighs = omega arith }
  dropped_to_well m c None o f g le = record { fits = f; weighs = omega arith }

  dropped_by_well : (m : LinkedStack) (c : Chain) (l : Option ℕ) (o : Option ℕ) → Fit N c → F m → suc (worth_of N l) + weight_of N c ≤ weight m
      → Dropping F weight place N m (dropped_by m c l o)
  dropped_by_well m c l (Some other) f g le = f
  dropped_by_well m c l None f g le = dropped_to_well m c l (mark (fixed l) c) f g le

  repeated_well : (l : Option ℕ) (flag p : ℕ) (c : Chain) (m : LinkedStack) (b : Bool) → Fit N c → F m → suc (worth_of N l) + weight_of N c ≤ weight m
      → Dropping F weight place N m (repeat_mark l flag p c m b)
  repeated_well l flag p c m true f g le = (tt, f)
  repeated_well l flag p c m false f g le = dropped_by_well m c l (label_of flag m.relabels) f g le

  dropped_well : (m : LinkedStack) (o : Outer) → FitOuter N o → F m → outer_weight N o ≤ weight m → Dropping F weight place N m (drop_from m o)
  dropped_well m (mark (fixed l) c) f g le = dropped_to_well m c l (mark (fixed l) c) f g le
  dropped_well m (mark (flagged l flag p) c) f g le = repeated_well l flag p c m (slice_index_or m.flags flag false) f g le
  dropped_well m (limit n c) f g le = record { fits = f; weighs = omega arith }
  dropped_well m (base p a) f g le = tt
  dropped_well m (call p a l q c) f g le = tt

  -- suspending

  -- what a chain becomes: well formed, and heavier by so much at most
  abbrev Grows : ℕ → Chain → Chain → Type 0
  Grows k c after = Fit N after × (weight_of N after ≤ k + weight_of N c)

  scan_grows : (n p : ℕ) (c : Chain) → Fit N c → Grows 1 c (with_scan n (suspend_in (suspension (scanning n) p c) c))
  scan_grows n p (chain items s scans o) f = (((f, omega arith), f.1), omega arith)

  escan_grows : (p : ℕ) (c : Chain) → Fit N c → Grows 1 c (without_scan (suspend_in (suspension (because Escan) p c) c))
  escan_grows p (chain items s [] o) f = (((f, omega arith), f.1), omega arith)
  escan_grows p (chain items s (n ∷ scans) o) f = (((f, omega arith), f.1), omega arith)

  op_grows : (r : Residual) (p : ℕ) (c : Chain) → Fit N c → Grows 1 c (suspend_in (suspension (because (Op r)) p c) c)
  op_grows r p (chain items s scans o) f = (((f, tt), f.1), omega arith)

  suspend_stays : (why : Why) (m : LinkedStack) → IsInside why → F m → St 1 m (suspend why m)
  suspend_stays (Scan pair) m i f = let g = scan_grows (length m.saved) m.address m.chain f in record { fits = g.0; weighs = g.1; stands = refl }
  suspend_stays Escan m i f = let g = escan_grows m.address m.chain f in record { fits = g.0; weighs = g.1; stands = refl }
  suspend_stays (Op r) m i f = let g = op_grows r m.address m.chain f in record { fits = g.0; weighs = g.1; stands = refl }
  suspend_stays Alt m i f = absurd i
  suspend_stays Proc m i f = absurd i

  -- the mark outside goes on, with all that stands inside as its suspension
  alt_grows : (p : ℕ) (items : List Item) (s : Suspensions) (scans : List ℕ) (label : Label) (c : Chain) → Fit N (chain items s scans (mark label c))
      → Grows 1 (chain items s scans (mark label c)) (suspend_in (suspension (because Alt) p (chain items s scans (mark label c))) c)
  alt_grows p items s scans label (chain items' s' scans' o) f = (((f, omega arith), f.1.1), omega arith)

  limit_grows : (p : ℕ) (items : List Item) (s : Suspensions) (scans : List ℕ) (n : ℕ) (c : Chain) → Fit N (chain items s scans (limit n c))
      → Grows 1 (chain items s scans (limit n c)) (suspend_in (suspension (because Alt) p (chain items s scans (limit n c))) c)
  limit_grows p items s scans n (chain items' s' scans' o) f = (((f, omega arith), f.1.1), omega arith)

  suspend_outer_over : (m : LinkedStack) (c : Chain) → m.chain ≡ c → Fit N c
      → IfThere (suspend_outer (record m { chain = c }) (outer_of c)) (λ after. Over 1 c m after)
  suspend_outer_over m (chain items s scans (mark label c)) e f = let g = alt_grows m.address items s scans label c f in (g.0, g.1, refl)
  suspend_outer_over m (chain items s scans (limit n c)) e f = let g = limit_grows m.address items s scans n c f in (g.0, g.1, refl)
  suspend_outer_over m (chain items s scans (base p a)) e f = tt
  suspend_outer_over m (chain items s scans (call p a l q c)) e f = tt

  -- the frame of the procedure that runs

  abbrev FramePays : Frame → ℕ → Type 0
  FramePays (at_base p a) k = Unit {0}
  FramePays (in_call p a l q c) k = Fit N c × (suc (worth N q) + weight_of N c ≤ k)

  more : (fr : Frame) (j k : ℕ) → j ≤ k → FramePays fr j → FramePays fr k
  more (at_base p a) j k le h = tt
  more (in_call p a l q c) j k le h = let x = h.1 in (h.0, omega arith)

  frame_pays : (o : Outer) → FitOuter N o → FramePays (frame_of o) (outer_weight N o)
  frame_pays (base p a) f = tt
  frame_pays (call p a l q c) f = (f, omega arith)
  frame_pays (mark label (chain items s scans o)) f = more (frame_of o) (outer_weight N o) _ (omega arith) (frame_pays o f.1)
  frame_pays (limit n (chain items s scans o)) f = more (frame_of o) (outer_weight N o) _ (omega arith) (frame_pays o f.1)

  frame_of_m : (m : LinkedStack) → F m → FramePays (frame m) (weight m)
  frame_of_m m f = more (frame m) (outer_weight N (outer_of m.chain)) (weight m) (outer_less m.chain) (frame_pays (outer_of m.chain) (outer_fit m.chain f))

  leave_pays : (m : LinkedStack) (fr : Frame) → FramePays fr (weight m) → IfThere (leave_frame m fr) (λ caller. Paying F weight place N m caller)
  leave_pays m (at_base p a) h = tt
  leave_pays m (in_call p a l q c) h = let x = h.1 in record { fits = h.0; weighs = omega arith }

  proc_lighter : (p : ℕ) (inside c : Chain) → Fit N inside → Fit N c
      → Fit N (suspend_in (suspension (because Proc) p inside) c) × (weight_of N (suspend_in (suspension (because Proc) p inside) c) ≤ weight_of N c)
  proc_lighter p inside (chain items s scans o) f g = (((f, tt), g.1), omega arith)

  suspend_pays : (m : LinkedStack) (fr : Frame) → F m → FramePays fr (weight m) → IfThere (suspend_frame m fr) (λ after. Paying F weight place N m after)
  suspend_pays m (at_base p a) f h = tt
  suspend_pays m (in_call p a l q c) f h =
      let x = h.1 in let g = proc_lighter m.address m.chain c f h.0 in let y = g.1 in record { fits = g.0; weighs = omega arith }

  -- what comes back

  back : (m : LinkedStack) (c : Chain) → Fit N c → IfThere (resume_from m c) (λ b. ResumesOver (weight_of N c) b.0 b.1)
  back m (chain items none scans o) f = tt
  back m (chain items (suspension (because Alt) p inside) scans o) f = let x = f.0.1 in (f.0.0, omega arith)
  back m (chain items (suspension (because (Op r)) p inside) scans o) f = f.0.0
  back m (chain items (suspension (because (Scan pair)) p inside) scans o) f = let x = f.0.1 in (f.0.0, omega arith)
  back m (chain items (suspension (because Escan) p inside) scans o) f = let x = f.0.1 in (f.0.0, omega arith)
  back m (chain items (suspension (because Proc) p inside) scans o) f = f.0.0
  back m (chain items (suspension (scanning n) p inside) scans o) f = let x = f.0.1 in (f.0.0, omega arith)

  resumes : (m : LinkedStack) (why : Why) (after : LinkedStack) → ResumesOver (weight m) why after → Resuming F weight m why after
  resumes m Alt after h = record { fits = h.0; weighs = h.1 }
  resumes m (Op r) after h = h
  resumes m (Scan pair) after h = record { fits = h.0; weighs = h.1 }
  resumes m Escan after h = record { fits = h.0; weighs = h.1 }
  resumes m Proc after h = h

  -- with a bound of the weight in place of the weight

  abbrev Bounded : LinkedStack → ℕ → Type 0
  Bounded m v = F m × (weight m ≤ v)

  exact : (m : LinkedStack) → F m → (v : ℕ) × Bounded m v
  exact m f = (weight m, (f, omega arith))

  stays : (k : ℕ) (m after : LinkedStack) (f : (v : ℕ) × Bounded m v) → St k m after → Stays Bounded place k f.0 m after
  stays k m after f s = let x = s.weighs in let y = f.1.1 in record { fits = (weight after, (s.fits, omega arith)); weighs = omega arith; stands = s.stands }

  pays : (m after : LinkedStack) (f : (v : ℕ) × Bounded m v) → Paying F weight place N m after → Pays Bounded place N f.0 after
  pays m after f s = let x = s.weighs in let y = f.1.1 in record { fits = (weight after, (s.fits, omega arith)); weighs = omega arith }

  lightens : (m after : LinkedStack) (f : (v : ℕ) × Bounded m v) → Lightening F weight m after → Lightens Bounded f.0 after
  lightens m after f s = let x = s.weighs in let y = f.1.1 in record { fits = (weight after, (s.fits, omega arith)); weighs = omega arith }

  drops : (m : LinkedStack) (d : MarkDrop LinkedStack) (f : (v : ℕ) × Bounded m v) → Dropping F weight place N m d → DropsWell Bounded place N f.0 d
  drops m NoMark f h = tt
  drops m (Goes after) f h = pays m after f h
  drops m (Repeats after) f h = exact after h
  drops m (Outside after) f h = lightens m after f h

  comes_back : (m : LinkedStack) (why : Why) (after : LinkedStack) (f : (v : ℕ) × Bounded m v) → Resuming F weight m why after
      → ResumesWell Bounded f.0 why after
  comes_back m Alt after f h = lightens m after f h
  comes_back m (Op r) after f h = exact after h
  comes_back m (Scan pair) after f h = lightens m after f h
  comes_back m Escan after f h = lightens m after f h
  comes_back m Proc after f h = exact after h

  pub linked_weighs : Weighs (linked_calls repeats) N
  linked_weighs = record {
    Bounded = Bounded;
    FitsAway = λ k. Fit N k.chain;
    kept = λ m f. f.1.0;
    taken_up = λ k m f. (weight_of N k.chain, (f, omega arith));
    begin = λ proc values p m. (0, ((tt, tt), omega arith));
    set_locals = λ values m f. stays 0 m _ f (same m _ f.1.0 refl refl);
    go = λ p m v f. f;
    go_stands = λ p m. refl;
    push = λ item m f. stays 0 m _ f (record { fits = push_fit item m.chain f.1.0; weighs = let e = push_weight item m.chain in omega arith; stands = refl });
    pop = λ m f. if_there (pop_from m m.chain) (pop_over m m.chain f.1.0) (λ top h. stays 0 m top.1 f (to_stays 0 m top.1 h));
    take = λ n m f. if_there (take_from n m m.chain) (take_from_over n m m.chain f.1.0) (λ tops h. stays 0 m tops.1 f (to_stays 0 m tops.1 h));
    mark = λ label m f. stays _ m _ f (mark_stays label m f.1.0);
    limit = λ count m f. stays 1 m _ f (record { fits = (tt, f.1.0); weighs = omega arith; stands = refl });
    relabel = λ label m f. if_there (relabel_in label m (outer_of m.chain)) (relabel_over label m (outer_of m.chain) f.1.0) (λ after h. stays 0 m after f h);
    count_down = λ m f. if_there (count_in m (outer_of m.chain)) (count_over m (outer_of m.chain) f.1.0) (λ count h. stays 0 m count.1 f h);
    unmark = λ m f. let less = outer_less m.chain in if_there (unmark_from m (outer_of m.chain)) (unmark_over m (outer_of m.chain) (outer_fit m.chain f.1.0))
        (λ outside h. let x = h.1 in stays 0 m outside.0 f (record { fits = h.0; weighs = omega arith; stands = h.2 }));
    drop_mark = λ m f. drops m (drop_from m (outer_of m.chain)) f (dropped_well m (outer_of m.chain) (outer_fit m.chain f.1.0) f.1.0 (outer_less m.chain));
    suspend = λ why m i f. stays 1 m _ f (suspend_stays why m i f.1.0);
    suspend_mark = λ m f. if_there (suspend_outer m (outer_of m.chain)) (suspend_outer_over m m.chain refl f.1.0)
        (λ after h. stays 1 m after f (to_stays 1 m after h));
    suspend_proc = λ m f. if_there (suspend_frame m (frame m)) (suspend_pays m (frame m) f.1.0 (frame_of_m m f.1.0)) (λ after h. pays m after f h);
    resume = λ m f. if_there (resume_from m m.chain) (back m m.chain f.1.0) (λ b h. comes_back m b.0 b.1 f (resumes m b.0 b.1 h));
    swap_newest = λ pair m f. if_there (swap_at pair m (slice_get (scans_of m.chain) 0)) (swap_over pair m (slice_get (scans_of m.chain) 0) f.1.0)
        (λ swap h. stays 0 m swap.1 f h);
    swap_oldest = λ pair m f. if_there (swap_at pair m (oldest None (scans_of m.chain))) (swap_over pair m (oldest None (scans_of m.chain)) f.1.0)
        (λ swap h. stays 0 m swap.1 f h);
    enter = λ proc values m f. exact (enter proc values m) (tt, f.1.0);
    leave = λ m f. if_there (leave_frame m (frame m)) (leave_pays m (frame m) (frame_of_m m f.1.0)) (λ caller h. pays m caller f h);
  }
