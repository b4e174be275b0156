use Rattle.std.proofs.Common.{IfSome, sym, subst, arith}
use Rattle.icn_code.specs.Codes.{proc_of, procs_of}
use Rattle.test_code.specs.Known.{IsKnown, AreKnown}
use Rattle.test_code.proofs.KnownCodes.{known_none, known_push}
use Rattle.test_code.proofs.verify.codes.procedures.Goals as goal

pub loop-body-init : goal.loop-body-init
loop-body-init c = subst (λ items. AreKnown (procs_of items)) (sym c.new-procs.ensures.items) known_none

pub loop-body-preserved : goal.loop-body-preserved
loop-body-preserved c =
    subst (λ items. AreKnown (procs_of items)) (sym c.in_ok-push-in-Some.ensures.items)
    (known_push c.loop-body.procs.items c.in-Some.proc c.loop-body.invariant
    (λ h. let e = c.len.ensures in let ok = c.loop-body.procs.ok in let differ = c.if-len-eq65535.false in absurd (omega arith))
    (subst (λ found. IfSome found (λ proc. IsKnown (proc_of proc))) c.in-Some.is c.in_ok-proc.ensures))
