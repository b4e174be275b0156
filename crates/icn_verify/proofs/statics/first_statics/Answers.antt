use Rattle.std.proofs.Common.{◌≡◌, ◌+◌, ◌≤◌, ◌∷◌, ◌∙◌, get_or, drop, sym, ap, add-one, arith, length-drop}
use Rattle.std.specs.List.{sum_by}
use Rattle.std.proofs.lemmas.List.{nil_from_length}
use Rattle.std.proofs.Math.Seq.{drop-cons}
use Rattle.icn_code.specs.declared.code.LinkedProcedure.{LinkedProcedure}
use Rattle.icn_code.specs.Codes.{proc_of, procs_of}
use Rattle.icn_verify.specs.FirstStatics.{first_statics_from}
use Rattle.icn_verify.proofs.StaticsLoop.{statics_in, statics_sum, first_more, firsts_done}
use Rattle.icn_verify.proofs.statics.first_statics.Goals as goal

pub overflow_add-before : goal.overflow_add-before
overflow_add-before c =
    let procs = c.args.procs.now in
    let i = c.loop-proc.proc-index in
    let d = c.proc-item.result in
    let front : drop i procs ≡ get_or procs i d ∷ drop (i + 1) procs = rw add-one (drop-cons procs i d c.loop-proc-test.true) in
    let split : procs_of (drop i procs) ≡ proc_of d ∷ procs_of (drop (i + 1) procs) = ap procs_of front
    ∙ ap (λ (p : LinkedProcedure). proc_of p ∷ procs_of (drop (i + 1) procs)) (sym c.proc-item.is) in
    let few : (c.loop-proc.before + d.statics) + sum_by statics_in (procs_of (drop (i + 1) procs)) ≤ 4294967295 = statics_sum c.loop-proc.before (proc_of d)
    (procs_of (drop i procs)) (procs_of (drop (i + 1) procs)) split c.loop-proc.invariant.few in
    omega (arith, few)

pub loop-proc-preserved : goal.loop-proc-preserved
loop-proc-preserved c =
    let procs = c.args.procs.now in
    let i = c.loop-proc.proc-index in
    let d = c.proc-item.result in
    let front : drop i procs ≡ get_or procs i d ∷ drop (i + 1) procs = rw add-one (drop-cons procs i d c.loop-proc-test.true) in
    let split : procs_of (drop i procs) ≡ proc_of d ∷ procs_of (drop (i + 1) procs) = ap procs_of front
    ∙ ap (λ (p : LinkedProcedure). proc_of p ∷ procs_of (drop (i + 1) procs)) (sym c.proc-item.is) in
    record {
      made = rw c.in_ok-push.ensures.items (first_more c.loop-proc.firsts.items c.loop-proc.before (proc_of d) (procs_of (drop i procs))
          (procs_of (drop (i + 1) procs)) (first_statics_from 0 (procs_of procs)) split c.loop-proc.invariant.made);
      few = statics_sum c.loop-proc.before (proc_of d) (procs_of (drop i procs)) (procs_of (drop (i + 1) procs)) split c.loop-proc.invariant.few;
    }

pub returns : goal.returns
returns c =
    let procs = c.args.procs.now in
    let i = c.loop-proc.proc-index in
    firsts_done c.loop-proc.firsts.items c.loop-proc.before (procs_of (drop i procs)) (first_statics_from 0 (procs_of procs))
    (ap procs_of (nil_from_length (drop i procs) (omega (arith, c.loop-proc-test.false, length-drop i procs)))) c.loop-proc.invariant.made
