use Rattle.icn_image.specs.Versions.{width_of}
use Rattle.std.proofs.lemmas.Result.{err_from_is_err_and}
use Rattle.icn_tree.specs.NameSets.{has, none_met}
use Rattle.icn_image.specs.Reading.{globals_from}
use Rattle.icn_image.proofs.GlobalLoop.{global_goes_on, global_ends, globals_done}
use Rattle.icn_image.proofs.global.so_many_globals.Goals as goal

pub returns-in_err-global : goal.returns-in_err-global
returns-in_err-global c =
    let p = err_from_is_err_and c.from_residual.result c.from_residual.ensures.1 in
    rw (p.1, p.2) (global_ends (width_of c.args.version) c.args.strings.now c.args.records
    (has c.loop.met) c.in_err-global.field-0.0 c.loop.globals.items c.args.count c.loop.counter c.loop.rest.now
    (globals_from (width_of c.args.version) c.args.strings.now c.args.records none_met c.args.count c.args.bytes.now) c.loop-test.true c.in_err-global.ensures.gives c.loop.invariant)

pub loop-preserved : goal.loop-preserved
loop-preserved c = rw c.in_ok-push.ensures.items (global_goes_on (width_of c.args.version) c.args.strings.now c.args.records (has c.loop.met) (has c.global_at.new.met)
    c.loop.globals.items c.args.count c.loop.counter c.loop.rest.now c.in_ok-global.global c.in_ok-global.after.now (globals_from (width_of c.args.version) c.args.strings.now
    c.args.records none_met c.args.count c.args.bytes.now) c.loop-test.true c.in_ok-global.ensures.gives c.in_ok-global.ensures.has c.loop.invariant)

pub returns : goal.returns
returns c = globals_done (width_of c.args.version) c.args.strings.now c.args.records (has c.loop.met) c.loop.globals.items c.args.count c.loop.counter c.loop.rest.now
    (globals_from (width_of c.args.version) c.args.strings.now c.args.records none_met c.args.count c.args.bytes.now) c.loop-test.false c.loop.invariant
