use Rattle.std.proofs.Common.{◌≡◌, ◌+◌, false, [], ◌∷◌, ◌++◌, get_or, drop, add-one, arith, length-drop}
use Rattle.icn_image.specs.Versions.{width_of}
use Rattle.std.proofs.lemmas.Result.{err_from_is_err_and}
use Rattle.std.proofs.lemmas.List.{map_push, nil_from_length}
use Rattle.std.proofs.Math.Seq.{drop-cons}
use Rattle.icn_code.specs.Codes.{proc_of, procs_of}
use Rattle.icn_image.specs.declared.head.ImageHead.{ImageHead}
use Rattle.icn_image.specs.Fronts.{tables_in}
use Rattle.icn_image.specs.Reading.{procs_at}
use Rattle.icn_image.proofs.ProcedureLoop.{proc_goes_on, proc_ends, procs_done}
use Rattle.icn_image.proofs.procs.procs_at.Goals as goal

-- what the code reads where there is no head
absent : ImageHead
absent = record { name = 0; parameters = 0; collects = false; locals = 0; statics = 0; instrs = 0 }

pub loop-head-preserved : goal.loop-head-preserved
unfolding absent
loop-head-preserved c =
    let i = c.loop-head.head-index in
    let heads = c.args.heads.now in
    let split : drop i heads ≡ get_or heads i absent ∷ drop (i + 1) heads = rw add-one (drop-cons heads i absent c.loop-head-test.true) in
    let grown : procs_of c.push.new.self.items ≡ procs_of c.loop-head.procs.items ++ proc_of c.in_ok-proc.proc
    ∷ [] = rw c.in_ok-push.ensures.items (map_push _ c.loop-head.procs.items c.in_ok-proc.proc) in
    rw grown (proc_goes_on (width_of c.args.version) (tables_in c.args.front.now) (procs_of c.loop-head.procs.items)
    (get_or heads i absent) (drop (i + 1) heads) (drop i heads) c.loop-head.rest.now (proc_of c.in_ok-proc.proc) c.in_ok-proc.after.now
    (procs_at (width_of c.args.version) (tables_in c.args.front.now) heads c.args.bytes.now) split c.in_ok-proc.ensures c.loop-head.invariant)

pub returns-in_err-proc : goal.returns-in_err-proc
unfolding absent
returns-in_err-proc c =
    let i = c.loop-head.head-index in
    let heads = c.args.heads.now in
    let split : drop i heads ≡ get_or heads i absent ∷ drop (i + 1) heads = rw add-one (drop-cons heads i absent c.loop-head-test.true) in
    let p = err_from_is_err_and c.from_residual.result c.from_residual.ensures.1 in
    rw (p.1, p.2)
    (proc_ends (width_of c.args.version) (tables_in c.args.front.now) c.in_err-proc.field-0.0 (procs_of c.loop-head.procs.items) (get_or heads i absent) (drop (i + 1) heads)
    (drop i heads) c.loop-head.rest.now (procs_at (width_of c.args.version) (tables_in c.args.front.now) heads c.args.bytes.now) split c.in_err-proc.ensures c.loop-head.invariant)

pub returns : goal.returns
returns c = procs_done (width_of c.args.version) (tables_in c.args.front.now) (procs_of c.loop-head.procs.items) (drop c.loop-head.head-index c.args.heads.now) c.loop-head.rest.now
    (procs_at (width_of c.args.version) (tables_in c.args.front.now) c.args.heads.now c.args.bytes.now) (nil_from_length (drop c.loop-head.head-index c.args.heads.now)
    (omega (arith, c.loop-head-test.false, length-drop c.loop-head.head-index c.args.heads.now))) c.loop-head.invariant
