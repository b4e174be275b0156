use Rattle.std.proofs.Common.{[], sym, subst, rules, refl}
use Rattle.icn_heap.specs.Heaps.{heap_of}
use Rattle.icn_vars.specs.Worlds.{Reach, reach_of}
use Rattle.icn_frames.specs.Stacks.{FlatStack}
use Rattle.icn_control.specs.LiveStacks.{IsLiveStack}
use Rattle.icn_control.proofs.CountedSteps.{turn_more}
use Rattle.icn_control.proofs.LiveCalls.{live_go}
use Rattle.icn_control.proofs.MachineSteps.{stacks_on}
use Rattle.icn_control.proofs.turns.go_back.Goals as goal

pub returns-clause-keeps : goal.returns-clause-keeps
returns-clause-keeps g c = record {
  sound = λ tables k. (
      let m = c.args.m.now in
      let reach : Reach = reach_of m.world [] in
      record {
        stacks = stacks_on tables reach m.stacks.table c.frames.result.now.flat c.go.new.self.flat c.frames.ensures.running
            (λ l. subst (λ (x : FlatStack). IsLiveStack tables reach x) (sym c.go.ensures.flat) (live_go tables reach c.frames.result.now.flat c.args.label l))
            k.stacks;
        bounds = k.bounds;
        counts = k.counts;
        counted =
            record { results = turn_more m.turns m.stacks.table.active (heap_of m.world.heap).coexps k.counted.results; activators = k.counted.activators };
      });
  limits = refl;
  stack = search rules;
}
