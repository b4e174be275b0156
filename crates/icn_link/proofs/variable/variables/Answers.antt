use Rattle.std.proofs.Common.{◌≡◌, ◌+◌, ◌++◌, List, ℕ, drop, arith, ◌∙◌}
use Rattle.icn_unit.specs.declared.unit.UnitName.{UnitName}
use Rattle.icn_link.specs.Joined.{locals_in, statics_in, variables}
use Rattle.icn_link.specs.Views.{texts_seen}
use Rattle.icn_link.proofs.GatheringLoops.{next_item}
use Rattle.icn_link.proofs.variable.variables.Goals as goal

pub loop-entry-preserved : goal.loop-entry-preserved
loop-entry-preserved c =
    let globals : List (List ℕ) = texts_seen c.args.globals.now.keys in
    let rest : List UnitName = drop (c.loop-entry.entry-index + 1) c.args.names.now in
    let locals : c.put_variable.new.locals + locals_in globals rest
    ≡ c.loop-entry.locals + locals_in globals (drop c.loop-entry.entry-index c.args.names.now) =
    next_item (λ all. c.loop-entry.locals + locals_in globals all) c.args.names.now c.loop-entry.entry-index c.entry-item.result _ c.loop-entry-test.true
    c.entry-item.is (c.in_ok-put_variable.ensures.locals rest) in
    let statics : c.put_variable.new.statics + statics_in globals rest
    ≡ c.loop-entry.statics + statics_in globals (drop c.loop-entry.entry-index c.args.names.now) =
    next_item (λ all. c.loop-entry.statics + statics_in globals all) c.args.names.now c.loop-entry.entry-index c.entry-item.result _
    c.loop-entry-test.true c.entry-item.is (c.in_ok-put_variable.ensures.statics rest) in
    record {
      instrs = next_item (λ all. c.loop-entry.instrs.items ++ variables globals c.loop-entry.locals c.loop-entry.statics all) c.args.names.now
          c.loop-entry.entry-index c.entry-item.result _ c.loop-entry-test.true c.entry-item.is (c.in_ok-put_variable.ensures.instrs rest)
          ∙ c.loop-entry.invariant.instrs;
      locals = omega (arith, locals, c.loop-entry.invariant.locals);
      statics = omega (arith, statics, c.loop-entry.invariant.statics);
    }
