use Rattle.std.proofs.Common.{◌≡◌, ℕ, ◌<◌, ◌≤◌, length, [], sym, ap, ◌∙◌, subst}
use Rattle.icn_value.specs.Store.{Heap}
use Rattle.icn_heap.specs.Heaps.{extent_of, heap_of}
use Rattle.icn_vars.specs.Worlds.{IsLiveItem, reach_of}
use Rattle.icn_coexp.specs.Transfers.{source}
use Rattle.icn_run.specs.Step.{all_names}
use Rattle.icn_control.specs.LiveStacks.{with_locals}
use Rattle.icn_control.proofs.LiveCalls.{own_locals}
use Rattle.icn_control.proofs.LiveFrames.{level_low}
use Rattle.icn_control.proofs.KeywordSteps.{counts_stay, keyword_fails, keyword_pushed, keyword_runs, keyword_stays}
use Rattle.icn_control.proofs.LiteralSteps.{coexps_counted, active_there, if_there, running_live}
use Rattle.icn_control.proofs.keywords.push_keyword.Goals as goal

pub keyword_item-requires : goal.keyword_item-requires
keyword_item-requires g c =
    let m = c.args.m.now in
    let t = c.requires.stands.sound.0 in
    let low = level_low t (reach_of m.world []) c.frames-frames.result.now.flat
    (running_live t (reach_of m.world []) m.stacks.table c.frames-frames.result.now.flat c.frames-frames.ensures.running c.requires.stands.sound.1.stacks) in
    subst (λ (n : ℕ). n ≤ 4294967295) (sym c.level-level.ensures) low

pub returns-in-None-clause-step : goal.returns-in-None-clause-step
returns-in-None-clause-step g c tables outside =
    let m = c.args.m.now in
    let t = c.requires.stands.sound.0 in
    keyword_fails t tables (all_names tables) outside m.world c.keyword_item.new.world m.turns m.begun.items m.stacks.table c.frames-frames.result.now.flat
    c.args.word c.level-level.result c.active-active.result c.source-source.result c.in_ok-item.item c.frames-frames.ensures.running c.level-level.ensures
    c.active-active.ensures.number c.source-source.ensures c.in_ok-item.ensures.item c.in-None.is c.keyword_item.ensures.kept c.keyword_item.ensures.world
    c.requires.stands.sound.1.stacks
    (running_live t (reach_of m.world []) m.stacks.table c.frames-frames.result.now.flat c.frames-frames.ensures.running c.requires.stands.sound.1.stacks)

pub returns-in-None-clause-sound : goal.returns-in-None-clause-sound
returns-in-None-clause-sound g c tables k =
    let m = c.args.m.now in
    record {
      stacks = keyword_stays tables m.world c.keyword_item.new.world m.stacks.table c.frames-frames.result.now.flat c.frames-frames.ensures.running
          c.keyword_item.ensures.kept k.stacks;
      bounds = ap (λ (h : Heap). h.bounds) c.keyword_item.ensures.heap ∙ k.bounds;
      counts = ap (λ (h : Heap). length h.coexps) c.keyword_item.ensures.heap ∙ k.counts;
      counted = record {
        results = counts_stay m.turns m.stacks.table.active (heap_of m.world.heap) (heap_of c.keyword_item.new.world.heap) c.keyword_item.ensures.heap
            k.counted.results;
        activators = k.counted.activators;
      };
    }

pub returns-in_ok-push-in-Some-clause-step : goal.returns-in_ok-push-in-Some-clause-step
returns-in_ok-push-in-Some-clause-step g c tables outside =
    let m = c.args.m.now in
    let t = c.requires.stands.sound.0 in
    keyword_runs t tables (all_names tables) outside m.world c.keyword_item.new.world m.turns m.begun.items m.stacks.table c.frames-frames.result.now.flat
    c.push.new.self.flat c.args.word c.level-level.result c.active-active.result c.source-source.result c.in_ok-item.item c.in-Some.x
    c.frames-frames.ensures.running c.level-level.ensures c.active-active.ensures.number c.source-source.ensures c.in_ok-item.ensures.item c.in-Some.is
    c.in_ok-push-in-Some.ensures.ok c.keyword_item.ensures.kept c.keyword_item.ensures.world c.requires.stands.sound.1.stacks
    (running_live t (reach_of m.world []) m.stacks.table c.frames-frames.result.now.flat c.frames-frames.ensures.running c.requires.stands.sound.1.stacks)

pub returns-in_ok-push-in-Some-clause-sound : goal.returns-in_ok-push-in-Some-clause-sound
returns-in_ok-push-in-Some-clause-sound g c tables k =
    let m = c.args.m.now in
    let v = c.keyword_item.new.world in
    let count : (extent_of m.world.heap).coexps ≡ length m.stacks.table.coexps = coexps_counted m.world.heap ∙ k.counts in
    let active : c.active-active.result < (extent_of m.world.heap).coexps
    = subst (λ (n : ℕ). n < (extent_of m.world.heap).coexps) (sym c.active-active.ensures.number) (subst (λ (n : ℕ). m.stacks.table.active < n) (sym count)
    (active_there m.stacks.table c.frames-frames.result.now.flat c.frames-frames.ensures.running c.active-active.ensures.one)) in
    let giver : c.source-source.result < (extent_of m.world.heap).coexps
    = subst (λ (n : ℕ). n < (extent_of m.world.heap).coexps) (sym c.source-source.ensures)
    (subst (λ (n : ℕ). source m.stacks.table < n) (sym count) c.active-active.ensures.source) in
    let item : IsLiveItem (with_locals (own_locals c.frames-frames.result.now.flat) (reach_of v [])) c.in-Some.x =
    if_there c.in_ok-item.item c.in-Some.x (λ x. (n : ℕ) → IsLiveItem (with_locals n (reach_of v [])) x) c.in-Some.is
    (c.in_ok-item.ensures.live active giver) (own_locals c.frames-frames.result.now.flat) in
    record {
      stacks = keyword_pushed tables m.world v m.stacks.table c.frames-frames.result.now.flat c.push.new.self.flat c.in-Some.x
          c.frames-frames.ensures.running c.in_ok-push-in-Some.ensures.ok c.keyword_item.ensures.kept item k.stacks;
      bounds = ap (λ (h : Heap). h.bounds) c.keyword_item.ensures.heap ∙ k.bounds;
      counts = ap (λ (h : Heap). length h.coexps) c.keyword_item.ensures.heap ∙ k.counts;
      counted = record {
        results = counts_stay m.turns m.stacks.table.active (heap_of m.world.heap) (heap_of v.heap) c.keyword_item.ensures.heap k.counted.results;
        activators = k.counted.activators;
      };
    }
