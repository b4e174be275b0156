-- Machines whose calls agree go on in lock step.
use Rattle.std.proofs.Common.{◌≡◌, ◌≢◌, ℕ, zero, suc, List, [], ◌∷◌, ◌++◌, refl, arith}
use Rattle.std.specs.Prelude.{slice_get, slice_set, slice_index_or}
use Rattle.icn_run.specs.Step.{Status, Fresh, Active, Waiting, Exhausted, Coexp}
use Rattle.law_stacks.specs.AgreeingMachines.{Both}
use Rattle.law_stacks.specs.SameStates.{SameStatus, SameCoexp, alike, Rests}

-- Co-expressions one by one

pub status_map : {K' K : Type 0} (A B : K' → K → Type 0) → ((k' : K') (k : K) → A k' k → B k' k) → (s' : Status K') (s : Status K) → SameStatus A s' s
    → SameStatus B s' s
status_map A B f Fresh Fresh h = tt
status_map A B f Fresh Active h = h
status_map A B f Fresh (Waiting k) h = h
status_map A B f Fresh Exhausted h = h
status_map A B f Active Fresh h = h
status_map A B f Active Active h = tt
status_map A B f Active (Waiting k) h = h
status_map A B f Active Exhausted h = h
status_map A B f (Waiting k') Fresh h = h
status_map A B f (Waiting k') Active h = h
status_map A B f (Waiting k') (Waiting k) h = f k' k h
status_map A B f (Waiting k') Exhausted h = h
status_map A B f Exhausted Fresh h = h
status_map A B f Exhausted Active h = h
status_map A B f Exhausted (Waiting k) h = h
status_map A B f Exhausted Exhausted h = tt

pub coexp_map : {K' K : Type 0} (A B : K' → K → Type 0) → ((k' : K') (k : K) → A k' k → B k' k) → (c' : Coexp K') (c : Coexp K) → SameCoexp A c' c
    → SameCoexp B c' c
coexp_map A B f c' c (alike s' s a vs p q h) = alike s' s a vs p q (status_map A B f s' s h)

pub rest_map : {K' K : Type 0} (A B : ℕ → K' → K → Type 0) → ((i : ℕ) (k' : K') (k : K) → A i k' k → B i k' k) → (ks' : List (Coexp K')) (ks : List (Coexp K))
    → Rests A ks' ks → Rests B ks' ks
rest_map A B f [] [] h = tt
rest_map A B f [] (c ∷ ks) h = h
rest_map A B f (c' ∷ ks') [] h = h
rest_map A B f (c' ∷ ks') (c ∷ ks) h = (coexp_map (A 0) (B 0) (f 0) c' c h.0, rest_map (λ i. A (suc i)) (λ i. B (suc i)) (λ i. f (suc i)) ks' ks h.1)

pub rest_get : {K' K : Type 0} (A : ℕ → K' → K → Type 0) (ks' : List (Coexp K')) (ks : List (Coexp K)) (n : ℕ) → Rests A ks' ks
    → Both ⊥ (λ c' c. SameCoexp (A n) c' c) (slice_get ks' n) (slice_get ks n)
rest_get A [] [] n h = tt
rest_get A [] (c ∷ ks) n h = absurd h
rest_get A (c' ∷ ks') [] n h = absurd h
rest_get A (c' ∷ ks') (c ∷ ks) zero h = h.0
rest_get A (c' ∷ ks') (c ∷ ks) (suc n) h = rest_get (λ i. A (suc i)) ks' ks n h.1

pub rest_set : {K' K : Type 0} (A : ℕ → K' → K → Type 0) (ks' : List (Coexp K')) (ks : List (Coexp K)) (n : ℕ) (c' : Coexp K') (c : Coexp K)
    → SameCoexp (A n) c' c → Rests A ks' ks → Rests A (slice_set ks' n c') (slice_set ks n c)
rest_set A [] [] n c' c g h = tt
rest_set A [] (d ∷ ks) n c' c g h = absurd h
rest_set A (d' ∷ ks') [] n c' c g h = absurd h
rest_set A (d' ∷ ks') (d ∷ ks) zero c' c g h = (g, h.1)
rest_set A (d' ∷ ks') (d ∷ ks) (suc n) c' c g h = (h.0, rest_set (λ i. A (suc i)) ks' ks n c' c g h.1)

-- one that does not wait is taken out
pub rest_out : {K' K : Type 0} (A : ℕ → K' → K → Type 0) (ks' : List (Coexp K')) (ks : List (Coexp K)) (n : ℕ) (c' : Coexp K') (c : Coexp K)
    → SameCoexp (λ k' k. ⊥) c' c → Rests A ks' ks
    → Rests (λ i k' k. (i ≢ n) × A i k' k) (slice_set ks' n c') (slice_set ks n c)
rest_out A [] [] n c' c g h = tt
rest_out A [] (d ∷ ks) n c' c g h = absurd h
rest_out A (d' ∷ ks') [] n c' c g h = absurd h
rest_out A (d' ∷ ks') (d ∷ ks) zero c' c g h = (
  coexp_map (λ k' k. ⊥) (λ k' k. (0 ≢ 0) × A 0 k' k) (λ k' k z. absurd z) c' c g,
  rest_map (λ i. A (suc i)) (λ i k' k. (suc i ≢ 0) × A (suc i) k' k) (λ i k' k a. ((λ e. omega arith), a)) ks' ks h.1,
)
rest_out A (d' ∷ ks') (d ∷ ks) (suc n) c' c g h = (
  coexp_map (A 0) (λ k' k. (0 ≢ suc n) × A 0 k' k) (λ k' k a. ((λ e. omega arith), a)) d' d h.0,
  rest_map (λ i k' k. (i ≢ n) × A (suc i) k' k) (λ i k' k. (suc i ≢ suc n) × A (suc i) k' k)
      (λ i k' k a. ((λ e. a.0 (omega arith)), a.1)) _ _ (rest_out (λ i. A (suc i)) ks' ks n c' c g h.1),
)

pub rest_more : {K' K : Type 0} (A : ℕ → K' → K → Type 0) (ks' : List (Coexp K')) (ks : List (Coexp K)) (c' : Coexp K') (c : Coexp K)
    → ((B : K' → K → Type 0) → SameCoexp B c' c) → Rests A ks' ks → Rests A (ks' ++ c' ∷ []) (ks ++ c ∷ [])
rest_more A [] [] c' c g h = (g (A 0), tt)
rest_more A [] (d ∷ ks) c' c g h = absurd h
rest_more A (d' ∷ ks') [] c' c g h = absurd h
rest_more A (d' ∷ ks') (d ∷ ks) c' c g h = (h.0, rest_more (λ i. A (suc i)) ks' ks c' c g h.1)

-- of a number where there is none, each has one of its own
pub rest_at : {K' K : Type 0} (A : ℕ → K' → K → Type 0) (ks' : List (Coexp K')) (ks : List (Coexp K)) (n : ℕ) (d' : Coexp K') (d : Coexp K)
    → ((B : K' → K → Type 0) → SameCoexp B d' d) → Rests A ks' ks → SameCoexp (A n) (slice_index_or ks' n d') (slice_index_or ks n d)
rest_at A [] [] n d' d g h = g (A n)
rest_at A [] (c ∷ ks) n d' d g h = absurd h
rest_at A (c' ∷ ks') [] n d' d g h = absurd h
rest_at A (c' ∷ ks') (c ∷ ks) zero d' d g h = h.0
rest_at A (c' ∷ ks') (c ∷ ks) (suc n) d' d g h = rest_at (λ i. A (suc i)) ks' ks n d' d g h.1

pub same_status : {K' K : Type 0} (A : K' → K → Type 0) (c' : Coexp K') (c : Coexp K) → SameCoexp A c' c → SameStatus A c'.status c.status
same_status A c' c (alike s' s a vs p q h) = h

pub same_activator : {K' K : Type 0} (A : K' → K → Type 0) (c' : Coexp K') (c : Coexp K) → SameCoexp A c' c → c'.activator ≡ c.activator
same_activator A c' c (alike s' s a vs p q h) = refl

pub status_set : {K' K : Type 0} (A B : K' → K → Type 0) (c' : Coexp K') (c : Coexp K) (d' : Status K') (d : Status K) → SameCoexp A c' c → SameStatus B d' d
    → SameCoexp B (record c' { status = d' }) (record c { status = d })
status_set A B c' c d' d (alike s' s a vs p q h) g = alike d' d a vs p q g

pub activator_set : {K' K : Type 0} (A : K' → K → Type 0) (c' : Coexp K') (c : Coexp K) (n : ℕ) → SameCoexp A c' c
    → SameCoexp A (record c' { activator = n }) (record c { activator = n })
activator_set A c' c n (alike s' s a vs p q h) = alike s' s n vs p q h
