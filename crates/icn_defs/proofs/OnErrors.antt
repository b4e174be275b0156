-- What holds where an error ends the run, and where it becomes failure, holds where it comes.
use Rattle.std.proofs.Common.{◌≡◌, ℕ, zero, suc, Bool, true, false, Option, refl, sym, subst}
use Rattle.std.specs.Prelude.{ℤ, pos, negsuc}
use Rattle.icn_value.specs.Values.{Value}
use Rattle.icn_value.specs.Store.{World}
use Rattle.icn_defs.specs.Errors.{is_fatal, ends_run, with_kept, ended_or_failed, on_error}

-- a claim on states
pub on_one : {S : Type 0} (T : S → Type 0) (n : ℕ) (v : Option Value) (w : World) (ended : S) (failed : World → S) → T ended → T (failed (with_kept n v w))
    → T (on_error n v w ended failed)
on_one {S} T n v w ended failed e f = by_end (ends_run n w.error)
  where
    by_end : (b : Bool) → T (ended_or_failed b n v w ended failed)
    by_end true = e
    by_end false = f

-- a claim on the states of two runs
pub on_both : {S R : Type 0} (T : S → R → Type 0) (n : ℕ) (v : Option Value) (w : World) (ended : S) (failed : World → S) (ended' : R) (failed' : World → R)
    → T ended ended' → T (failed (with_kept n v w)) (failed' (with_kept n v w)) → T (on_error n v w ended failed) (on_error n v w ended' failed')
on_both {S} {R} T n v w ended failed ended' failed' e f = by_end (ends_run n w.error)
  where
    by_end : (b : Bool) → T (ended_or_failed b n v w ended failed) (ended_or_failed b n v w ended' failed')
    by_end true = e
    by_end false = f

-- an error that ends every run, whatever `&error` is
pub fatal_ends : (n : ℕ) (e : ℤ) → is_fatal n ≡ true → ends_run n e ≡ true
fatal_ends n (pos zero) f = refl
fatal_ends n (pos (suc k)) f = f
fatal_ends n (negsuc k) f = f

-- what comes of an error that ends the run
pub is_ended : {S : Type 0} (n : ℕ) (v : Option Value) (w : World) (ended : S) (failed : World → S) → ends_run n w.error ≡ true
    → on_error n v w ended failed ≡ ended
is_ended {S} n v w ended failed e = subst (λ b. ended_or_failed b n v w ended failed ≡ ended) (sym e) refl
