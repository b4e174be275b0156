-- When two machines agree: what their calls keep.
use Rattle.std.specs.Prelude.{◌≡◌, ◌≢◌, ℕ, suc, pred, List, length, Option, Some, None, ◌⊎◌}
use Rattle.icn_run.specs.Rows.{Value, Item}
use Rattle.icn_run.specs.Calls.{Pair, Why, MarkDrop, NoMark, Goes, Repeats, Outside, Calls}

-- both have something, or neither; or the first lacks what it may lack
abbrev pub Both : {A B : Type 0} → Type 0 → (A → B → Type 0) → Option A → Option B → Type 0
Both Lacks Q None None = Unit {0}
Both Lacks Q None (Some y) = Lacks
Both Lacks Q (Some x) None = ⊥
Both Lacks Q (Some x) (Some y) = Q x y

-- a relation of stacks in a world that stack s may have changed
abbrev pub Then : {W M' M : Type 0} → (ℕ → W → W → Type 0) → (W → ℕ → M' → M → Type 0) → W → ℕ → M' → M
    → Type 0
Then Next Now w s m' m = (w' : _) × Next s w w' × Now w' s m' m

-- the same beside the stacks, and stacks that are related in a world that stack s may have changed
abbrev pub With : {W A M' M : Type 0} → (ℕ → W → W → Type 0) → (W → ℕ → M' → M → Type 0) → W → ℕ → A × M'
    → A × M → Type 0
With Next Now w s x y = (x.0 ≡ y.0) × Then Next Now w s x.1 y.1

-- a mark that may be reached again stands where the second machine goes on, and the first one has opened it
abbrev pub OpensAgain : {K W M' M : Type 0} → Calls K M → (ℕ → ℕ → Option ℕ → Type 0) → (ℕ → W → W → Type 0)
    → (W → ℕ → M' → M → Type 0) → W → ℕ → M' → M → Type 0
OpensAgain C Opens Next Now w s m' m = (label : Option ℕ) × Opens (C.proc m) (C.address m) label
    × Then Next Now w s m' (C.mark label (C.go (suc (C.address m)) m))

-- the same is left where the innermost mark is dropped; a label that was changed may instead be opened again
abbrev pub SameDropped : {K W M' M : Type 0} → Calls K M → (ℕ → ℕ → Option ℕ → Type 0) → (ℕ → W → W → Type 0)
    → (W → ℕ → M' → M → Type 0) → W → ℕ → MarkDrop M' → MarkDrop M → Type 0
SameDropped C Opens Next Now w s NoMark NoMark = Unit {0}
SameDropped C Opens Next Now w s (Goes m') (Goes m) = Then Next Now w s m' m
SameDropped C Opens Next Now w s (Outside m') (Outside m) = Then Next Now w s m' m
SameDropped C Opens Next Now w s (Repeats m') (Repeats m) =
    Then Next Now w s m' m ⊎ OpensAgain C Opens Next Now w s m' m
SameDropped C Opens Next Now w s d' d = ⊥

-- C' agrees with C, but for stacks of C' that lack what setting a label wants. A world tells what the stacks share.
pub record Agrees {K M K' M' : Type 0} (C' : Calls K' M') (C : Calls K M) (Opens : ℕ → ℕ → Option ℕ → Type 0)
    (Lacks : M' → Type 0) : Type 1 where
  pub W : Type 0
  pub Now : W → ℕ → M' → M → Type 0
  pub Away : W → ℕ → K' → K → Type 0
  pub Holds : W → M' → Type 0
  pub Next : ℕ → W → W → Type 0
  pub holds : (w : W) (s : ℕ) (m' : M') (m : M) → Now w s m' m → Holds w m'
  pub stays : (w w' : W) (s t : ℕ) (k' : K') (k : K) → Next s w w' → t ≢ s → Away w t k' k → Away w' t k' k
  pub kept : (w : W) (s : ℕ) (m' : M') (m : M) → Now w s m' m → Away w s (C'.kept m') (C.kept m)
  pub taken_up : (w : W) (s : ℕ) (k' : K') (k : K) (m' : M') (m : M) → Away w s k' k → Holds w m'
      → Now w s (C'.taken_up k' m') (C.taken_up k m)
  pub begin : (proc : ℕ) (values : List Value) (address : ℕ) (w : W) (s : ℕ) (m' : M') (m : M) → Holds w m'
      → Then Next Now w s (C'.begin proc values address m') (C.begin proc values address m)
  pub proc : (w : W) (s : ℕ) (m' : M') (m : M) → Now w s m' m → C'.proc m' ≡ C.proc m
  pub level : (w : W) (s : ℕ) (m' : M') (m : M) → Now w s m' m → C'.level m' ≡ C.level m
  pub is_base : (w : W) (s : ℕ) (m' : M') (m : M) → Now w s m' m → C'.is_base m' ≡ C.is_base m
  pub locals : (w : W) (s : ℕ) (m' : M') (m : M) → Now w s m' m → C'.locals m' ≡ C.locals m
  pub address : (w : W) (s : ℕ) (m' : M') (m : M) → Now w s m' m → C'.address m' ≡ C.address m
  pub below : (w : W) (s : ℕ) (m' : M') (m : M) → Now w s m' m → C'.below m' ≡ C.below m
  pub set_locals : (values : List Value) (w : W) (s : ℕ) (m' : M') (m : M)
      → Now w s m' m → length values ≡ length (C.locals m)
      → Then Next Now w s (C'.set_locals values m') (C.set_locals values m)
  pub go : (q : ℕ) (w : W) (s : ℕ) (m' : M') (m : M) → Now w s m' m
      → Then Next Now w s (C'.go q m') (C.go q m)
  pub go_address : (q : ℕ) (m : M) → C.address (C.go q m) ≡ q
  pub go_proc : (q : ℕ) (m : M) → C.proc (C.go q m) ≡ C.proc m
  pub push : (item : Item) (w : W) (s : ℕ) (m' : M') (m : M) → Now w s m' m
      → Then Next Now w s (C'.push item m') (C.push item m)
  pub pop : (w : W) (s : ℕ) (m' : M') (m : M) → Now w s m' m
      → Both ⊥ (With Next Now w s) (C'.pop m') (C.pop m)
  pub take : (n : ℕ) (w : W) (s : ℕ) (m' : M') (m : M) → Now w s m' m
      → Both ⊥ (With Next Now w s) (C'.take n m') (C.take n m)
  pub mark : (label : Option ℕ) (w : W) (s : ℕ) (m' : M') (m : M) → Now w s m' m
      → Opens (C.proc m) (pred (C.address m)) label → Then Next Now w s (C'.mark label m') (C.mark label m)
  pub limit : (count : ℕ) (w : W) (s : ℕ) (m' : M') (m : M) → Now w s m' m
      → Then Next Now w s (C'.limit count m') (C.limit count m)
  pub relabel : (label : ℕ) (w : W) (s : ℕ) (m' : M') (m : M) → Now w s m' m
      → Both (Lacks m') (Then Next Now w s) (C'.relabel label m') (C.relabel label m)
  pub count_down : (w : W) (s : ℕ) (m' : M') (m : M) → Now w s m' m
      → Both ⊥ (With Next Now w s) (C'.count_down m') (C.count_down m)
  pub unmark : (w : W) (s : ℕ) (m' : M') (m : M) → Now w s m' m
      → Both ⊥ (λ x y. Then Next Now w s x.0 y.0 × (x.1 ≡ y.1)) (C'.unmark m') (C.unmark m)
  pub drop_mark : (w : W) (s : ℕ) (m' : M') (m : M) → Now w s m' m
      → SameDropped C Opens Next Now w s (C'.drop_mark m') (C.drop_mark m)
  pub suspend : (why : Why) (w : W) (s : ℕ) (m' : M') (m : M) → Now w s m' m
      → Then Next Now w s (C'.suspend why m') (C.suspend why m)
  pub suspend_mark : (w : W) (s : ℕ) (m' : M') (m : M) → Now w s m' m
      → Both ⊥ (Then Next Now w s) (C'.suspend_mark m') (C.suspend_mark m)
  pub suspend_proc : (w : W) (s : ℕ) (m' : M') (m : M) → Now w s m' m
      → Both ⊥ (Then Next Now w s) (C'.suspend_proc m') (C.suspend_proc m)
  pub resume : (w : W) (s : ℕ) (m' : M') (m : M) → Now w s m' m
      → Both ⊥ (With Next Now w s) (C'.resume m') (C.resume m)
  pub swap_newest : (pair : Pair) (w : W) (s : ℕ) (m' : M') (m : M) → Now w s m' m
      → Both ⊥ (With Next Now w s) (C'.swap_newest pair m') (C.swap_newest pair m)
  pub swap_oldest : (pair : Pair) (w : W) (s : ℕ) (m' : M') (m : M) → Now w s m' m
      → Both ⊥ (With Next Now w s) (C'.swap_oldest pair m') (C.swap_oldest pair m)
  pub enter : (proc : ℕ) (values : List Value) (w : W) (s : ℕ) (m' : M') (m : M) → Now w s m' m
      → Then Next Now w s (C'.enter proc values m') (C.enter proc values m)
  pub leave : (w : W) (s : ℕ) (m' : M') (m : M) → Now w s m' m
      → Both ⊥ (Then Next Now w s) (C'.leave m') (C.leave m)
