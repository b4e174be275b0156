-- How a put is told.
use Rattle.std.proofs.Common.{List, [], ℕ, Result, Ok, Err, OnOk, OnErr, IfErr, IsErrOf, inl, inr, refl, ◌∙◌, ap}
use Rattle.icn_host.specs.declared.fault.Fault.{Fault}
use Rattle.icn_host.specs.declared.fault.Fault.TheVariants.{Failed, NoMemory}
use Rattle.std.specs.Io.KnownBytes.{Keeps}
use Rattle.icn_host.specs.Counts.{CountsOnce, one_more}
use Rattle.icn_host.specs.Sinks.{Gains, GainsPart, SinkState}
use Rattle.icn_host.proofs.SinkSteps.{gains_nothing}
use Rattle.icn_host.proofs.KeptSteps.{gains_keeps, part_pending}
use Rattle.icn_host.specs.Puts.{PutsAll, StopsBy, PutsFirstPart, broken, wanted, Puts, all, part, Leads, LeadsBy}

-- what an answer is not

ok_not_err : (done : Unit {0}) (fault : Fault) → IsErrOf {T = Unit {0}} (Ok done) fault → ⊥
ok_not_err done fault e = cc

failed_no_want : IsErrOf {T = Unit {0}} (Err Failed) NoMemory → ⊥
failed_no_want e = cc

want_not_failed : IsErrOf {T = Unit {0}} (Err NoMemory) Failed → ⊥
want_not_failed e = cc

-- nothing was put
pub puts_nothing : (sink : SinkState) → PutsAll sink sink []
puts_nothing sink = record { gains = gains_nothing sink.held; faults = refl; wants = refl }

-- a put of all
pub all_of : (before after : SinkState) (line : List ℕ) (r : Result (Unit {0}) Fault) → OnOk r (Gains before.held after.held line)
    → CountsOnce before.faults after.faults (IsErrOf r Failed) → CountsOnce before.wants after.wants (IsErrOf r NoMemory) → OnOk r (PutsAll before after line)
all_of before after line (Ok done) ok cause want =
    record { gains = ok; faults = cause.stayed (ok_not_err done Failed); wants = want.stayed (ok_not_err done NoMemory) }
all_of before after line (Err fault) ok cause want = tt

-- a put that gave up
pub stops_by : (before after : SinkState) (line : List ℕ) (r : Result (Unit {0}) Fault) → OnErr r (GainsPart before.held after.held line)
    → CountsOnce before.faults after.faults (IsErrOf r Failed) → CountsOnce before.wants after.wants (IsErrOf r NoMemory)
    → IfErr r (λ fault. StopsBy fault before after line)
stops_by before after line (Ok done) err cause want = tt
stops_by before after line (Err Failed) err cause want = record { part = err; faults = cause.rose refl; wants = want.stayed failed_no_want }
stops_by before after line (Err NoMemory) err cause want = record { part = err; faults = cause.stayed want_not_failed; wants = want.rose refl }

-- a put of all, and then a flush

flushed : (before between after : SinkState) (line : List ℕ) (r : Result (Unit {0}) Fault) → PutsAll before between line
    → Keeps between.held after.held → CountsOnce between.faults after.faults (IsErrOf r Failed)
    → CountsOnce between.wants after.wants (IsErrOf r NoMemory) → OnOk r (PutsAll before after line)
flushed before between after line (Ok done) puts same cause want = record {
  gains = gains_keeps puts.gains same;
  faults = cause.stayed (ok_not_err done Failed) ∙ puts.faults;
  wants = want.stayed (ok_not_err done NoMemory) ∙ puts.wants;
}
flushed before between after line (Err fault) puts same cause want = tt

pub all_flushed : {before between : SinkState} (after : SinkState) (line : List ℕ) (r : Result (Unit {0}) Fault) → PutsAll before between line
    → Keeps between.held after.held → CountsOnce between.faults after.faults (IsErrOf r Failed)
    → CountsOnce between.wants after.wants (IsErrOf r NoMemory) → OnOk r (PutsAll before after line)
all_flushed {before} {between} after line r puts same cause want = flushed before between after line r puts same cause want

stopped : (before between after : SinkState) (line : List ℕ) (r : Result (Unit {0}) Fault) → PutsAll before between line
    → Keeps between.held after.held → CountsOnce between.faults after.faults (IsErrOf r Failed)
    → CountsOnce between.wants after.wants (IsErrOf r NoMemory) → IfErr r (λ fault. StopsBy fault before after line)
stopped before between after line (Ok done) puts same cause want = tt
stopped before between after line (Err Failed) puts same cause want = record {
  part = part_pending puts.gains same;
  faults = cause.rose refl ∙ ap one_more puts.faults;
  wants = want.stayed failed_no_want ∙ puts.wants;
}
stopped before between after line (Err NoMemory) puts same cause want = record {
  part = part_pending puts.gains same;
  faults = cause.stayed want_not_failed ∙ puts.faults;
  wants = want.rose refl ∙ ap one_more puts.wants;
}

pub stops_flushed : {before between : SinkState} (after : SinkState) (line : List ℕ) (r : Result (Unit {0}) Fault) → PutsAll before between line
    → Keeps between.held after.held → CountsOnce between.faults after.faults (IsErrOf r Failed)
    → CountsOnce between.wants after.wants (IsErrOf r NoMemory) → IfErr r (λ fault. StopsBy fault before after line)
stops_flushed {before} {between} after line r puts same cause want = stopped before between after line r puts same cause want

pub stops_of : (before after : SinkState) (line : List ℕ) (fault : Fault) → StopsBy fault before after line → PutsFirstPart before after line
stops_of before after line Failed stops = broken stops
stops_of before after line NoMemory stops = wanted stops

-- whatever a put of a line and a flush answer
pub puts_by : (before after : SinkState) (line : List ℕ) (r : Result (Unit {0}) Fault) → OnOk r (PutsAll before after line)
    → IfErr r (λ fault. StopsBy fault before after line) → Puts before after line
puts_by before after line (Ok done) ok err = all ok
puts_by before after line (Err fault) ok err = part (stops_of before after line fault err)

pub leads_of : (before after : SinkState) (line : List ℕ) (fault : Fault) → LeadsBy fault before after line → Leads before after line
leads_of before after line Failed stops = inr (broken stops)
leads_of before after line NoMemory (inl same) = inl same
leads_of before after line NoMemory (inr stops) = inr (wanted stops)
