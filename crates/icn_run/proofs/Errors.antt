-- What holds of an end, and of failing with an error kept, holds where a run comes to that error.
use Rattle.std.proofs.Common.{◌≡◌, ℕ, true, Option, sym, subst}
use Rattle.icn_defs.specs.Errors.{ends_run, with_kept}
use Rattle.icn_defs.proofs.OnErrors.{on_one, is_ended}
use Rattle.icn_run.specs.Rows.{Value}
use Rattle.icn_run.specs.Step.{Store, State, ended_by, errs, failing, with_world}

-- the store with the error kept
abbrev pub kept_in : {K : Type 0} → ℕ → Option Value → Store K → Store K
kept_in n v st = with_world (with_kept n v st.world) st

pub at_error : {K M : Type 0} (T : State K M → Type 0) (n : ℕ) (v : Option Value) (m : M) (st : Store K) → T (ended_by n v st)
    → T (failing m (kept_in n v st)) → T (errs n v m st)
at_error T n v m st e f = on_one T n v st.world (ended_by n v st) (λ world. failing m (with_world world st)) e f

-- an error that ends the run for sure
pub at_end : {K M : Type 0} (T : State K M → Type 0) (n : ℕ) (v : Option Value) (m : M) (st : Store K) → ends_run n st.world.error ≡ true → T (ended_by n v st)
    → T (errs n v m st)
at_end T n v m st e h = subst T (sym (is_ended n v st.world (ended_by n v st) (λ world. failing m (with_world world st)) e)) h
