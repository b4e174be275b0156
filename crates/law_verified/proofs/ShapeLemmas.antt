-- Lemmas on shapes, and cutting.
use Rattle.std.proofs.Common.{◌≡◌, ℕ, zero, suc, ◌+◌, ◌-◌, ◌≤◌, Bool, true, false, List, [], ◌∷◌, ◌++◌, length, refl, sym, ap, ◌∙◌, subst, arith}
use Rattle.icn_code.specs.declared.instr.Instr.TheVariants as I
use Rattle.law_simulation.specs.Translation.{Depth, LoopExits, deeper}
use Rattle.law_verified.specs.Noted.{NotedLevel, NotedShape, Note, more, many, with_scan, drops, unmarks}
use Rattle.law_verified.specs.Verified.{inside, Fine, f_unmark, f_takes, t_invoke, Drop, d_zero, d_suc, n_no, n_yes, Ctx, c_proper, c_create, c_loop, Has, AllFine}
use Rattle.law_verified.proofs.UnmarkLengths.{false_is_not_true}

pub many_more : (n : ℕ) (s : NotedShape) → many n (more s) ≡ more (many n s)
many_more zero s = refl
many_more (suc n) s = ap more (many_more n s)

module _ (At : ℕ → NotedShape → Type 0) where
  pub fine_cut : (xs ys : List Note) (p z : ℕ) → length xs ≡ z → Has At p (xs ++ ys)
      → Has At p xs × Has At (p + z) ys × (AllFine At p xs → AllFine At (p + z) ys → AllFine At p (xs ++ ys))
  fine_cut [] ys p zero e h = (tt, subst (λ q. Has At q ys) (omega arith) h, λ a b. subst (λ q. AllFine At q ys) (omega arith) b)
  fine_cut [] ys p (suc z) e h = absurd (omega arith)
  fine_cut (x ∷ xs) ys p zero e h = absurd (omega arith)
  fine_cut (x ∷ xs) ys p (suc z) e h = let r = fine_cut xs ys (suc p) z (omega arith) h.1 in
      ((h.0, r.0), subst (λ q. Has At q ys) (omega arith) r.1, λ a b. (a.0, r.2 a.1 (subst (λ q. AllFine At q ys) (omega arith) b)))

  pub «at» : {s : NotedShape} {p : ℕ} (q : ℕ) → At p s → p ≡ q → At q s
  «at» {s = s} q h e = subst (λ q. At q s) e h

  pub suc_minus : (m k : ℕ) → k ≤ m → suc m - k ≡ suc (m - k)
  suc_minus m k h = omega arith

  pub context_deeper : {r : ℕ} {D : List Depth} {W : List LoopExits} {B : List Bool} {c : Bool} {s : NotedShape} (k : NotedLevel) → Ctx At r D W B c s
      → Ctx At r (deeper D) W B c (inside k s)
  context_deeper k (c_proper s e) = c_proper (inside k s) e
  context_deeper k (c_create s e) = c_create (inside k s) e
  context_deeper k (c_loop d u v l n_no r) = c_loop (d_suc k d) u v l n_no r
  context_deeper k (c_loop {m = m} {k = j} {s = s} d u v l (n_yes {t = t} h d' g) r) =
      c_loop (d_suc k d) u v l (n_yes {t = t} (omega arith) (subst (λ z. Drop (suc z) (inside k s) t) (sym (suc_minus m j h)) (d_suc k d')) g) r

  drop_level : {m : ℕ} {s t : NotedShape} (k : NotedLevel) → Drop (suc m) s t → Drop (suc m) (record s { inner = k }) t
  drop_level k (d_suc j d) = d_suc k d

  -- another level in place of the innermost
  pub level : {r : ℕ} {D : List Depth} {W : List LoopExits} {B : List Bool} {c : Bool} {s : NotedShape} (k : NotedLevel) → Ctx At r D W B c s
      → Ctx At r D W B c (record s { inner = k })
  level k (c_proper s e) = c_proper _ e
  level k (c_create s e) = c_create _ e
  level k (c_loop d u v l n_no r) = c_loop (drop_level k d) u v l n_no r
  level k (c_loop d u v l (n_yes h d' g) r) = c_loop (drop_level k d) u v l (n_yes h (drop_level k d') g) r

  created_drop : {m : ℕ} {s t : NotedShape} → Drop m s t → s.in_create ≡ t.in_create
  created_drop d_zero = refl
  created_drop (d_suc k d) = created_drop d

  pub proper : {r : ℕ} {D : List Depth} {W : List LoopExits} {B : List Bool} {c : Bool} {s : NotedShape} → Ctx At r D W B c s → c ≡ true → s.in_create ≡ false
  proper (c_proper s e) w = e
  proper (c_create s e) w = absurd (false_is_not_true w)
  proper (c_loop d u v l n r) w = created_drop d ∙ proper r w

  -- `unmarks` are fine where what comes behind has the last shape, which is the first one without these levels
  pub unmarks_fine : {m : ℕ} {s t : NotedShape} (p : ℕ) → Drop m s t → Has At p (unmarks m s) → At (p + m) t → At p s × AllFine At p (unmarks m s)
  unmarks_fine p d_zero h z = («at» _ z (omega arith), tt)
  unmarks_fine p (d_suc {m = m} {s = s} k d) h z = let r = unmarks_fine (suc p) d h.1 («at» _ z (omega arith)) in (h.0, (f_unmark k s r.0, r.1))

  pub dropped_to : {m : ℕ} {s t : NotedShape} → Drop m s t → drops m s ≡ t
  dropped_to d_zero = refl
  dropped_to (d_suc k d) = dropped_to d

  pub context_with_operand : {r : ℕ} {D : List Depth} {W : List LoopExits} {B : List Bool} {c : Bool} (s : NotedShape) → Ctx At r D W B c s
      → Ctx At r D W B c (more s)
  context_with_operand s a = level (record s.inner { operands = suc s.inner.operands }) a

  pub context_with_scan : {r : ℕ} {D : List Depth} {W : List LoopExits} {B : List Bool} {c : Bool} (s : NotedShape) → Ctx At r D W B c s
      → Ctx At r D W B c (with_scan s)
  context_with_scan s a = level (record s.inner { scans = suc s.inner.scans }) a

  pub weaken : {r q : ℕ} {D : List Depth} {W : List LoopExits} {B : List Bool} {c : Bool} {s : NotedShape} → q ≤ r → Ctx At r D W B c s → Ctx At q D W B c s
  weaken h (c_proper s e) = c_proper s e
  weaken h (c_create s e) = c_create s e
  weaken h (c_loop d u v l n a) = c_loop d (omega arith) (omega arith) l n (weaken h a)

  pub many_and_one_more : (n : ℕ) (s : NotedShape) {p : ℕ} → At p (more (many n s)) → At p (many n (more s))
  many_and_one_more n s {p = p} h = subst (λ t. At p t) (sym (many_more n s)) h

  pub invoked : (n : ℕ) (s : NotedShape) {p : ℕ} → At (suc p) (more s) → Fine At p (I.Invoke n) (many n (more s))
  invoked n s {p = p} h = subst (λ t. Fine At p (I.Invoke n) t) (sym (many_more n s)) (f_takes (suc n) s t_invoke h)
