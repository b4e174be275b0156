-- The shapes that earlier places carry to a place.
use Rattle.std.proofs.Common.{◌≡◌, ℕ, ◌+◌, ◌<◌, ◌≤◌, false, ◌⊎◌, inl, inr, List, refl, sym, subst, arith}
use Rattle.std.proofs.lemmas.Bool.{cases_lt}
use Rattle.icn_code.specs.declared.instr.Instr.{Instr}
use Rattle.icn_verify.specs.Shapes.{PlainShape, start_shape}
use Rattle.icn_verify.specs.ReachingShapes.{Reaches, starts, goes, Carries}

module _ (instrs : List Instr) where
  -- a shape that a place before this bound carries here
  pub record CameFrom (bound place : ℕ) (shape : PlainShape) : Type 0 where
    pub from : ℕ
    pub before : PlainShape
    pub earlier : from < bound
    pub reaches : Reaches instrs from before
    pub carries : Carries instrs from before place shape

  abbrev pub Arrives : ℕ → ℕ → PlainShape → Type 0
  Arrives bound place shape = ((place ≡ 0) × (shape ≡ start_shape false)) ⊎ CameFrom bound place shape

  -- a shape that this place carries there
  abbrev pub IsSent : ℕ → ℕ → PlainShape → Type 0
  IsSent from place shape = (before : PlainShape) × Reaches instrs from before × Carries instrs from before place shape

  pub reaches_arrives : (place : ℕ) (shape : PlainShape) → Reaches instrs place shape → (bound : ℕ) → place ≤ bound → Arrives bound place shape
  reaches_arrives _ _ starts bound h = inl (refl, refl)
  reaches_arrives _ _ (goes place shape to carried reaches carries) bound h =
      let later : place < to = carries.later in
      inr (record { from = place; before = shape; earlier = omega arith; reaches = reaches; carries = carries })

  pub arrives_reaches : (bound place : ℕ) (shape : PlainShape) → Arrives bound place shape → Reaches instrs place shape
  arrives_reaches bound place shape (inl h) = subst (λ p. Reaches instrs p shape) (sym h.0) (subst (Reaches instrs 0) (sym h.1) starts)
  arrives_reaches bound place shape (inr came) = goes came.from came.before place shape came.reaches came.carries

  pub arrives_more : (bound place : ℕ) (shape : PlainShape) → Arrives bound place shape → Arrives (bound + 1) place shape
  arrives_more bound place shape (inl h) = inl h
  arrives_more bound place shape (inr came) =
      let earlier : came.from < bound = came.earlier in
      inr (record { from = came.from; before = came.before; earlier = omega arith; reaches = came.reaches; carries = came.carries })

  pub arrives_sent : (bound place : ℕ) (shape : PlainShape) → IsSent bound place shape → Arrives (bound + 1) place shape
  arrives_sent bound place shape sent = inr (record { from = bound; before = sent.0; earlier = omega arith; reaches = sent.1; carries = sent.2 })

  pub arrives_split : (bound place : ℕ) (shape : PlainShape) → Arrives (bound + 1) place shape → Arrives bound place shape ⊎ IsSent bound place shape
  arrives_split bound place shape (inl h) = inl (inl h)
  arrives_split bound place shape (inr came) = by (cases_lt came.from bound)
    where
      by : (came.from < bound) ⊎ (bound ≤ came.from) → Arrives bound place shape ⊎ IsSent bound place shape
      by (inl lt) = inl (inr (record { from = came.from; before = came.before; earlier = lt; reaches = came.reaches; carries = came.carries }))
      by (inr ge) =
          let earlier : came.from < bound + 1 = came.earlier in
          let is : came.from ≡ bound = omega arith in
          inr (subst (λ from. IsSent from place shape) is (came.before, came.reaches, came.carries))
