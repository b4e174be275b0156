use Rattle.std.proofs.Common.{◌≡◌, [], Option, Some, sym, ap, ◌∙◌}
use Rattle.icn_value.specs.declared.item.Item.{Item}
use Rattle.icn_vars.specs.Worlds.{reach_of}
use Rattle.icn_frames.specs.Stacks.{FlatStack, pop}
use Rattle.icn_control.proofs.LiveCalls.{live_pop}
use Rattle.icn_control.proofs.ScanSteps.{open_after, escan_runs, escan_live}
use Rattle.icn_control.proofs.StackSteps.{plain_top}
use Rattle.icn_control.proofs.scans.scan_left_plain.Goals as goal

pub swap_pairs-requires-clause-scan : goal.swap_pairs-requires-clause-scan
swap_pairs-requires-clause-scan g c =
    let m = c.args.frames.now.flat in
    let top = plain_top m c.args.slot c.requires.operand c.requires.plain c.requires.told in
    let F : FlatStack → Option (Item × FlatStack) = λ x. Some (top.item, x) in
    let pops : pop m ≡ Some (top.item, c.drop_top.new.self.flat) = top.pops ∙ ap F (sym (c.drop_top.ensures.flat top.item top.rest top.pops)) in
    open_after m c.drop_top.new.self.flat top.item pops c.requires.scan

pub swap_pairs-requires-clause-live : goal.swap_pairs-requires-clause-live
swap_pairs-requires-clause-live g c =
    let m = c.args.frames.now.flat in
    let t = c.requires.live.0 in
    let top = plain_top m c.args.slot c.requires.operand c.requires.plain c.requires.told in
    let F : FlatStack → Option (Item × FlatStack) = λ x. Some (top.item, x) in
    let pops : pop m ≡ Some (top.item, c.drop_top.new.self.flat) = top.pops ∙ ap F (sym (c.drop_top.ensures.flat top.item top.rest top.pops)) in
    (t, (live_pop t (reach_of c.args.world.now []) m c.drop_top.new.self.flat top.item pops c.requires.live.1).rest)

pub returns-clause-step : goal.returns-clause-step
returns-clause-step g c =
    let m = c.args.frames.now.flat in
    let top = plain_top m c.args.slot c.requires.operand c.requires.plain c.requires.told in
    let F : FlatStack → Option (Item × FlatStack) = λ x. Some (top.item, x) in
    let pops : pop m ≡ Some (top.item, c.drop_top.new.self.flat) = top.pops ∙ ap F (sym (c.drop_top.ensures.flat top.item top.rest top.pops)) in
    escan_runs c.args.world.now c.swap_pairs.new.world m c.drop_top.new.self.flat c.swap_pairs.new.frames.flat c.suspend_escan.new.self.flat top.item pops
    c.swap_pairs.ensures.stack c.swap_pairs.ensures.world c.swap_pairs.ensures.same.heap (c.in_ok-suspend_escan.ensures.ok top.item top.tells)

pub returns-clause-live : goal.returns-clause-live
returns-clause-live g c t k =
    let m = c.args.frames.now.flat in
    let top = plain_top m c.args.slot c.requires.operand c.requires.plain c.requires.told in
    let F : FlatStack → Option (Item × FlatStack) = λ x. Some (top.item, x) in
    let pops : pop m ≡ Some (top.item, c.drop_top.new.self.flat) = top.pops ∙ ap F (sym (c.drop_top.ensures.flat top.item top.rest top.pops)) in
    escan_live t c.args.world.now c.swap_pairs.new.world m c.drop_top.new.self.flat c.swap_pairs.new.frames.flat c.suspend_escan.new.self.flat top.item pops
    c.swap_pairs.ensures.stack (c.in_ok-suspend_escan.ensures.ok top.item top.tells) c.swap_pairs.ensures.same.reach k

pub suspend_escan-requires : goal.suspend_escan-requires
suspend_escan-requires g c = record { plain = c.requires.plain }
