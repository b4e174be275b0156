use Rattle.std.proofs.Common.{◌≡◌, ◌+◌, ◌≤◌, ℕ, sym, ap, subst}
use Rattle.std.proofs.lemmas.Result.{err_from_is_err_and}
use Rattle.icn_image.specs.Reading.{heads_from}
use Rattle.icn_image.specs.Versions.{width_of}
use Rattle.icn_image.proofs.HeadLoop.{head_goes_on, head_ends, heads_done}
use Rattle.icn_image.proofs.procs.so_many_heads.Goals as goal

pub returns-in_err-head : goal.returns-in_err-head
returns-in_err-head c =
    let p = err_from_is_err_and c.from_residual.result c.from_residual.ensures.1 in
    rw (p.1, p.2) (head_ends (width_of c.args.version) c.args.strings c.loop.statics c.in_err-head.field-0.0 c.loop.heads.items c.args.count c.loop.counter
    c.loop.rest.now (heads_from (width_of c.args.version) c.args.strings 0 c.args.count c.args.bytes.now) c.loop-test.true c.in_err-head.ensures.gives
    c.loop.invariant.reads)

pub loop-preserved : goal.loop-preserved
loop-preserved c =
    let added : c.from-statics.result ≡ c.in_ok-head.head.statics = c.from-statics.ensures in
    record {
      reads = rw c.in_ok-push.ensures.items (head_goes_on (width_of c.args.version) c.args.strings c.loop.statics (c.loop.statics + c.from-statics.result) c.loop.heads.items
          c.args.count c.loop.counter c.loop.rest.now c.in_ok-head.head c.in_ok-head.after.now
          (heads_from (width_of c.args.version) c.args.strings 0 c.args.count c.args.bytes.now) c.loop-test.true c.in_ok-head.ensures.gives
          (ap (λ (n : ℕ). c.loop.statics + n) added) c.loop.invariant.reads);
      within = subst (λ (n : ℕ). c.loop.statics + n ≤ 4294967295) (sym added) c.in_ok-head.ensures.within;
    }

pub returns : goal.returns
returns c = heads_done (width_of c.args.version) c.args.strings c.loop.statics c.loop.heads.items c.args.count c.loop.counter c.loop.rest.now
    (heads_from (width_of c.args.version) c.args.strings 0 c.args.count c.args.bytes.now) c.loop-test.false c.loop.invariant.reads
