use Rattle.std.proofs.Common.{◌^◌, ◌<◌, ◌≤◌, IfSome, MatchOption, length, sym, subst, arith}
use Rattle.icn_code.specs.Codes.{proc_of}
use Rattle.icn_verify.specs.ReachingShapes.{AreWithin}
use Rattle.icn_verify.specs.Faults.{IsSound, IsFirstOf}
use Rattle.icn_verify.proofs.ProcedureChecks.{proc_at, sound_on, sound_all}
use Rattle.icn_verify.proofs.check.check_procs.Goals as goal

pub first_fault-requires-clause-short : goal.first_fault-requires-clause-short
first_fault-requires-clause-short c =
    subst (λ instrs. length instrs < 2 ^ 32) (sym c.deref.ensures.value)
    (c.requires.short c.loop-number.number
    _ (proc_at c.args.procs.now c.loop-number.number c.index-procs-number.result c.loop-number-test.true c.index-procs-number.is))

pub first_fault-requires-clause-labels : goal.first_fault-requires-clause-labels
first_fault-requires-clause-labels c =
    subst AreWithin (sym c.deref.ensures.value)
    (c.requires.labels c.loop-number.number
    _ (proc_at c.args.procs.now c.loop-number.number c.index-procs-number.result c.loop-number-test.true c.index-procs-number.is))

pub overflow_cast-result-in-Some : goal.overflow_cast-result-in-Some
overflow_cast-result-in-Some c =
    let within : c.in-Some.address
    ≤ length c.deref.result.now = subst (λ found. IfSome found (λ f. f.1 ≤ length c.deref.result.now)) c.in-Some.is c.in_ok-found.ensures.within in
    let short : length c.deref.result.now < 2 ^ 32 =
    subst (λ instrs. length instrs < 2 ^ 32) (sym c.deref.ensures.value)
    (c.requires.short c.loop-number.number
    _ (proc_at c.args.procs.now c.loop-number.number c.index-procs-number.result c.loop-number-test.true c.index-procs-number.is)) in
    omega arith

pub returns-in-Some-clause-refused : goal.returns-in-Some-clause-refused
returns-in-Some-clause-refused c = record {
  proc = proc_of c.index-procs-number.result;
  stands = proc_at c.args.procs.now c.loop-number.number c.index-procs-number.result c.loop-number-test.true c.index-procs-number.is;
  here = subst (λ instrs. IsFirstOf instrs c.in-Some.rule c.in-Some.address) c.deref.ensures.value
      (subst (λ found. MatchOption found (IsSound c.deref.result.now) (λ f. IsFirstOf c.deref.result.now f.0 f.1)) c.in-Some.is c.in_ok-found.ensures.first);
  earlier = c.loop-number.invariant;
}

pub loop-number-preserved : goal.loop-number-preserved
loop-number-preserved c =
    sound_on c.args.procs.now c.loop-number.number c.index-procs-number.result
    (proc_at c.args.procs.now c.loop-number.number c.index-procs-number.result c.loop-number-test.true c.index-procs-number.is) c.loop-number.invariant
    (subst IsSound c.deref.ensures.value
    (subst (λ found. MatchOption found (IsSound c.deref.result.now) (λ f. IsFirstOf c.deref.result.now f.0 f.1)) c.in-None.is c.in_ok-found.ensures.first))

pub returns-clause-sound : goal.returns-clause-sound
returns-clause-sound c = sound_all c.args.procs.now c.loop-number.number c.loop-number-test.false c.loop-number.invariant
