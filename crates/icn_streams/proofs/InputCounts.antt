-- Which counts of the input a reading raises.
use Rattle.std.proofs.Common.{◌≡◌, ◌∙◌, refl, ap, sym, subst, ℕ, Bool, Option, Result, Ok, Err}
use Rattle.std.specs.Prelude.{IsErrAnd, IsErrOf}
use Rattle.icn_host.specs.Counts.{CountsOnce, one_more}
use Rattle.icn_host.specs.Sources.{SourceCounts}
use Rattle.icn_host.specs.declared.fault.Fault.{Fault}
use Rattle.icn_host.specs.declared.fault.Fault.TheVariants.{Failed, NoMemory}
use Rattle.icn_value.specs.declared.val.Span.{Span}
use Rattle.icn_vars.specs.Stops.{halt_of}
use Rattle.icn_vars.specs.declared.outcome.Halt.{Halt}
use Rattle.icn_vars.specs.declared.stop.Stop.{Stop}
use Rattle.icn_vars.specs.declared.stop.Stop.TheVariants.{Error as ErrorStop, NoMemory as NoMemoryStop}
use Rattle.icn_streams.specs.Handed.{FaultCounts, failed_once, faults_of}
use Rattle.icn_streams.specs.Readings.{InputCause, InputWants, input_wants, others_want}

ok_not_err : (there : Bool) (fault : Fault) → IsErrOf {T = Bool} (Ok there) fault → ⊥
ok_not_err there fault h = cc h

failed_no_want : IsErrOf {T = Bool} (Err Failed) NoMemory → ⊥
failed_no_want h = cc h

want_not_failed : IsErrOf {T = Bool} (Err NoMemory) Failed → ⊥
want_not_failed h = cc h

abbrev counted : ℕ → ℕ → FaultCounts
counted faults wants = record { faults = faults; wants = wants }

-- both counts together
counts_are : (b : SourceCounts) (faults wants : ℕ) → b.faults ≡ faults → b.wants ≡ wants → faults_of b ≡ counted faults wants
counts_are b faults wants f w = ap (λ (n : ℕ). counted n b.wants) f ∙ ap (counted faults) w

-- something was read, or nothing was there
pub read_ok : (there : Bool) (a b : SourceCounts) → CountsOnce a.faults b.faults (IsErrOf {T = Bool} (Ok there) Failed)
    → CountsOnce a.wants b.wants (IsErrOf {T = Bool} (Ok there) NoMemory) → faults_of b ≡ faults_of a
read_ok there a b faults wants =
    counts_are b a.faults a.wants (faults.stayed (ok_not_err there Failed)) (wants.stayed (ok_not_err there NoMemory))

-- the input failed
pub read_failed : (fault : Fault) (a b : SourceCounts) → fault ≡ Failed → CountsOnce a.faults b.faults (IsErrOf {T = Bool} (Err fault) Failed)
    → CountsOnce a.wants b.wants (IsErrOf {T = Bool} (Err fault) NoMemory) → faults_of b ≡ failed_once (faults_of a)
read_failed Failed a b is faults wants = counts_are b (one_more a.faults) a.wants (faults.rose refl) (wants.stayed failed_no_want)
read_failed NoMemory a b is faults wants = absurd (cc is)

-- it wanted memory
pub read_wanted : (fault : Fault) (a b : SourceCounts) → fault ≡ NoMemory → CountsOnce a.faults b.faults (IsErrOf {T = Bool} (Err fault) Failed)
    → CountsOnce a.wants b.wants (IsErrOf {T = Bool} (Err fault) NoMemory) → InputWants (faults_of a) (faults_of b)
read_wanted Failed a b is faults wants = absurd (cc is)
read_wanted NoMemory a b is faults wants = input_wants (counts_are b a.faults (one_more a.wants) (faults.stayed want_not_failed) (wants.rose refl))

-- something was read, and what was read could not be kept
pub read_stopped : (there : Bool) (a b : SourceCounts) (stop : Stop) (result : Result (Option Span) Halt)
    → CountsOnce a.faults b.faults (IsErrOf {T = Bool} (Ok there) Failed) → CountsOnce a.wants b.wants (IsErrOf {T = Bool} (Ok there) NoMemory)
    → IsErrAnd result (λ halt. halt ≡ halt_of stop) → InputCause a b result
read_stopped there a b stop (Ok found) faults wants is = absurd is
read_stopped there a b stop (Err halt) faults wants is =
    subst (λ (h : Halt). InputCause a b (Err h)) (sym is) (by_stop stop (read_ok there a b faults wants))
  where
    by_stop : (s : Stop) → faults_of b ≡ faults_of a → InputCause a b (Err (halt_of s))
    by_stop (ErrorStop number offending) same = same
    by_stop NoMemoryStop same = others_want same
