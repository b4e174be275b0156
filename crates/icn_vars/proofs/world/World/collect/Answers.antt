use Rattle.std.proofs.Common.{inl, inr, ap, List, ◌++◌, length, arith}
use Rattle.std.proofs.lemmas.List.Elements.{Contains-append_left, Contains-append_right}
use Rattle.std.proofs.lemmas.Result.{on_ok_weaker}
use Rattle.icn_value.specs.declared.val.Val.{Val}
use Rattle.icn_value.specs.Store.{Heap}
use Rattle.icn_heap.specs.Heaps.{extent_of}
use Rattle.icn_heap.specs.NeededValues.{needed_structures}
use Rattle.icn_heap.proofs.CollectedHeaps.{leaves_more}
use Rattle.icn_heap.proofs.GrowingHeaps.{means_refl}
use Rattle.icn_vars.specs.NeededItems.{world_vals}
use Rattle.icn_vars.specs.Worlds.{Reach, field_counts}
use Rattle.icn_vars.proofs.CollectedItems.{collected_same, collected_sound, world_live}
use Rattle.icn_vars.proofs.world.World.collect.Goals as goal

pub returns-in_err-add_world-clause-means : goal.returns-in_err-add_world-clause-means
returns-in_err-add_world-clause-means c = means_refl (extent_of c.args.self.now.heap)

pub collect-requires : goal.collect-requires
collect-requires c =
    let old = c.args.self.now in
    c.in_ok-add_world.ensures.of_heap (extent_of old.heap)
    (world_live (extent_of old.heap) old.pair old.words old.globals.items old.statics.items old.sound) c.requires

pub invariant_of-self : goal.invariant_of-self
invariant_of-self c =
    let old = c.args.self.now in
    let swept = c.collect.ensures in
    record {
      sound = collected_sound (extent_of old.heap) (extent_of c.collect.new.self) c.add_world.new.needed swept.means swept.live
          old.pair old.words old.globals.items old.statics.items old.sound c.in_ok-add_world.ensures.each;
    }

pub returns-clause-world : goal.returns-clause-world
returns-clause-world c =
    let old = c.args.self.now in
    collected_same old.heap c.collect.new.self old.pair old.words old.globals.items old.statics.items c.collect.ensures.means
    c.collect.ensures.heap old.sound

pub returns-clause-live : goal.returns-clause-live
returns-clause-live c = λ val is needed. c.collect.ensures.live val is (c.in_ok-add_world.ensures.more val needed)

pub returns-clause-reach : goal.returns-clause-reach
returns-clause-reach c = λ locals.
    let old = c.args.self.now in
    ap (λ (heap : Heap).
    let reach : Reach = record {
      extent = extent_of c.collect.new.self;
      fields = field_counts heap;
      globals = length old.globals.items;
      statics = length old.statics.items;
      locals = length locals;
    } in reach) c.collect.ensures.heap

pub returns-clause-reached : goal.returns-clause-reached
returns-clause-reached c =
    let old = c.args.self.now in
    let all : List Val = needed_structures c.args.needed ++ world_vals old in
    on_ok_weaker c.collect.result
    (leaves_more old.heap c.collect.new.self (needed_structures c.add_world.new.needed) all
    (λ val is. elim (c.in_ok-add_world.ensures.only val is) [
      | inl was ↦ Contains-append_left (needed_structures c.args.needed) (world_vals old) val was
      | inr one ↦ Contains-append_right (needed_structures c.args.needed) (world_vals old) val one
    ])) c.collect.ensures.reached

pub returns-clause-few : goal.returns-clause-few
returns-clause-few c =
    on_ok_weaker c.collect.result (λ few. omega (arith, few, c.in_ok-add_world.ensures.bytes)) c.collect.ensures.few
