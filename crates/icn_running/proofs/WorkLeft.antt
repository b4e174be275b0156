-- How much is left after some steps.
use Rattle.std.proofs.Common.{◌≡◌, ◌⊎◌, inl, inr, ℕ, ◌<◌, ◌≤◌, List, [], ◌∷◌, ◌++◌, Ok, refl, sym, subst, arith}
use Rattle.icn_value.specs.Store.{Outside, bare_outside}
use Rattle.icn_value.specs.declared.limits.Limits.{Limits}
use Rattle.icn_code.specs.Codes.{Tables}
use Rattle.icn_run.specs.Stacks.{Frames, flat}
use Rattle.icn_run.specs.Step.{State, running, failing, hopping, over, stuck, step}
use Rattle.law_stacks.specs.Measure.{IsEnd}
use Rattle.icn_run.specs.AnyOutside.{over_outside, run_over}
use Rattle.law_safe.proofs.AnyOutside.{over_twice}
use Rattle.law_safe.specs.StepMeasure.{Falls, ends, turned, lighter, left_of, turns_of}
use Rattle.icn_streams.specs.Handed.{CallStreams}
use Rattle.icn_control.specs.declared.machine.Machine.{Machine}
use Rattle.icn_control.specs.declared.machine.RunState.TheVariants as RunStates
use Rattle.icn_machine.specs.Stepping.{Advances, IsAny}
use Rattle.icn_running.specs.WorkLeft.{AlwaysFalls, Lasts, MadeTurn, left_now, state_seen}

-- Runs over some outsides, and then over others

pub run_append : (tables : Tables) (xs ys : List Outside) (s : State Frames Frames) → run_over tables (xs ++ ys) s ≡ run_over tables ys (run_over tables xs s)
run_append tables [] ys s = refl
run_append tables (x ∷ xs) ys s = run_append tables xs ys (step flat tables (over_outside x s))

module _ (tables : Tables) (bound : ℕ) where
  turns_over : (outside : Outside) (s : State Frames Frames) → turns_of (over_outside outside s) ≡ turns_of s
  turns_over outside (running m st) = refl
  turns_over outside (failing m st) = refl
  turns_over outside (hopping m st) = refl
  turns_over outside (over ending left) = refl
  turns_over outside stuck = refl

  left_over : (outside : Outside) (s : State Frames Frames) → left_of tables (over_outside outside s) ≡ left_of tables s
  left_over outside (running m st) = refl
  left_over outside (failing m st) = refl
  left_over outside (hopping m st) = refl
  left_over outside (over ending left) = refl
  left_over outside stuck = refl

  -- what some steps came to
  pub data Fell (before after : State Frames Frames) : Type 0 where
    ended : IsEnd after → Fell before after
    made : turns_of before < turns_of after → turns_of after ≤ bound → Fell before after
    less : turns_of after ≡ turns_of before → left_of tables after < left_of tables before → Fell before after

  of_step : (outside : Outside) (s t : State Frames Frames) → Falls tables bound (over_outside outside s) t → Fell s t
  of_step outside s t (ends e) = ended e
  of_step outside s t (turned low e) = let a = turns_over outside s in made (omega (arith, a, e)) (omega (arith, low, e))
  of_step outside s t (lighter e l) = let a = turns_over outside s in let b = left_over outside s in less (omega (arith, e, a)) (omega (arith, l, b))

  end_stays : (outside : Outside) (s : State Frames Frames) → IsEnd s → IsEnd (step flat tables (over_outside outside s))
  end_stays outside (running m st) e = absurd e
  end_stays outside (failing m st) e = absurd e
  end_stays outside (hopping m st) e = absurd e
  end_stays outside (over ending left) e = tt
  end_stays outside stuck e = tt

  ends_run : (outsides : List Outside) (s : State Frames Frames) → IsEnd s → IsEnd (run_over tables outsides s)
  ends_run [] s e = e
  ends_run (outside ∷ later) s e = ends_run later (step flat tables (over_outside outside s)) (end_stays outside s e)

  fell_then : (s t u : State Frames Frames) → Fell s t → Fell t u → (IsEnd t → IsEnd u) → Fell s u
  fell_then s t u (ended e) q stays = ended (stays e)
  fell_then s t u (made a b) (ended e) stays = ended e
  fell_then s t u (made a b) (made c d) stays = made (omega (arith, a, c)) d
  fell_then s t u (made a b) (less c d) stays = made (omega (arith, a, c)) (omega (arith, b, c))
  fell_then s t u (less a b) (ended e) stays = ended e
  fell_then s t u (less a b) (made c d) stays = made (omega (arith, a, c)) d
  fell_then s t u (less a b) (less c d) stays = less (omega (arith, a, c)) (omega (arith, b, d))

  pub falls_behind : (outsides : List Outside) (s : State Frames Frames) → AlwaysFalls tables bound s → AlwaysFalls tables bound (run_over tables outsides s)
  falls_behind outsides s falls more outside =
      subst (λ x. Falls tables bound (over_outside outside x) (step flat tables (over_outside outside x)))
      (run_append tables outsides more s) (falls (outsides ++ more) outside)

  pub fell : (s : State Frames Frames) → AlwaysFalls tables bound s → (first : Outside) (later : List Outside) → Fell s (run_over tables (first ∷ later) s)
  fell s falls first [] = of_step first s (step flat tables (over_outside first s)) (falls [] first)
  fell s falls first (next ∷ later) =
      let t = step flat tables (over_outside first s) in
      fell_then s t (run_over tables (next ∷ later) t) (of_step first s t (falls [] first))
      (fell t (falls_behind (first ∷ []) s falls) next later) (ends_run (next ∷ later) t)

  pub falls_elsewhere : (outside : Outside) (s : State Frames Frames) → AlwaysFalls tables bound s → AlwaysFalls tables bound (over_outside outside s)
  falls_elsewhere was s falls [] outside =
      subst (λ x. Falls tables bound x (step flat tables x)) (sym (over_twice was outside s)) (falls [] outside)
  falls_elsewhere was s falls (first ∷ later) outside =
      subst (λ x. Falls tables bound (over_outside outside (run_over tables later (step flat tables x)))
      (step flat tables (over_outside outside (run_over tables later (step flat tables x))))) (sym (over_twice was first s)) (falls (first ∷ later) outside)

-- Of a machine

-- where a machine stands after some steps
record After {K : Type 0} (tables : Tables) (m n : Machine K) : Type 0 where
  first : Outside
  later : List Outside
  now : Outside
  is : run_over tables (first ∷ later) (state_seen tables bare_outside m) ≡ state_seen tables now n

after : {K : Type 0} (tables : Tables) (m : Machine K) (b : CallStreams) (n : Machine K) (c : CallStreams)
    → Advances IsAny tables m RunStates.Running b n c (Ok RunStates.Running)
    → After tables m n
after tables m b n c advances =
    let l = advances.meant bare_outside (state_seen tables bare_outside m) refl in
    record { first = l.first; later = l.later; now = l.now; is = l.is }

pub lasts_on : {K : Type 0} (tables : Tables) (m : Machine K) (b : CallStreams) (n : Machine K) (c : CallStreams) → Lasts tables m → n.limits ≡ m.limits
    → Advances IsAny tables m RunStates.Running b n c (Ok RunStates.Running) → Lasts tables n
lasts_on tables m b n c lasts limits advances outside =
    let a = after tables m b n c advances in
    let bound = m.limits.turns in
    let here = falls_behind tables bound (a.first ∷ a.later) (state_seen tables bare_outside m) (lasts bare_outside) in
    let there = subst (AlwaysFalls tables bound) a.is here in
    subst (λ (l : Limits). AlwaysFalls tables l.turns (state_seen tables outside n)) (sym limits)
    (falls_elsewhere tables bound outside (state_seen tables a.now n) there)

falls_on : {K : Type 0} (tables : Tables) (m n : Machine K) (now : Outside)
    → Fell tables m.limits.turns (state_seen tables bare_outside m) (state_seen tables now n)
    → MadeTurn m n ⊎ ((n.turns ≡ m.turns) × (left_now tables n < left_now tables m))
falls_on tables m n now (ended e) = absurd e
falls_on tables m n now (made a b) = inl (record { more = a; within = b })
falls_on tables m n now (less a b) = inr (a, b)

-- a turn was made, or less is left to do
pub falls_by : {K : Type 0} (tables : Tables) (m : Machine K) (b : CallStreams) (n : Machine K) (c : CallStreams) → Lasts tables m
    → Advances IsAny tables m RunStates.Running b n c (Ok RunStates.Running)
    → MadeTurn m n ⊎ ((n.turns ≡ m.turns) × (left_now tables n < left_now tables m))
falls_by tables m b n c lasts advances =
    let a = after tables m b n c advances in
    falls_on tables m n a.now
    (subst (Fell tables m.limits.turns (state_seen tables bare_outside m)) a.is
    (fell tables m.limits.turns (state_seen tables bare_outside m) (lasts bare_outside) a.first a.later))
