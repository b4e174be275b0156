use Rattle.std.proofs.Common.{[], sym, ◌∙◌}
use Rattle.icn_vars.specs.Worlds.{reach_of}
use Rattle.icn_control.proofs.LiveCalls.{live_pop}
use Rattle.icn_control.proofs.ScanSteps.{open_after, escan_runs, escan_live}
use Rattle.icn_control.proofs.scans.scan_left.Goals as goal

pub scan_left_plain-requires-clause-plain : goal.scan_left_plain-requires-clause-plain
scan_left_plain-requires-clause-plain g c = sym c.is_plain_operand.ensures ∙ c.if-is_plain_operand.true

pub swap_pairs-requires-clause-scan : goal.swap_pairs-requires-clause-scan
swap_pairs-requires-clause-scan g c = open_after c.args.frames.now.flat c.pop-x.new.self.flat c.pop-x.result c.pop-x.ensures.flat c.requires.scan

pub swap_pairs-requires-clause-live : goal.swap_pairs-requires-clause-live
swap_pairs-requires-clause-live g c = (
  c.requires.live.0,
  (live_pop c.requires.live.0
      (reach_of c.args.world.now []) c.args.frames.now.flat c.pop-x.new.self.flat c.pop-x.result c.pop-x.ensures.flat c.requires.live.1).rest,
)

pub returns-clause-step : goal.returns-clause-step
returns-clause-step g c =
    escan_runs c.args.world.now c.swap_pairs.new.world c.args.frames.now.flat c.pop-x.new.self.flat c.swap_pairs.new.frames.flat c.suspend.new.self.flat
    c.pop-x.result c.pop-x.ensures.flat c.swap_pairs.ensures.stack
    c.swap_pairs.ensures.world c.swap_pairs.ensures.same.heap c.in_ok-suspend.ensures.ok

pub returns-clause-live : goal.returns-clause-live
returns-clause-live g c t k =
    escan_live t c.args.world.now c.swap_pairs.new.world c.args.frames.now.flat c.pop-x.new.self.flat c.swap_pairs.new.frames.flat c.suspend.new.self.flat
    c.pop-x.result c.pop-x.ensures.flat c.swap_pairs.ensures.stack
    c.in_ok-suspend.ensures.ok c.swap_pairs.ensures.same.reach k
