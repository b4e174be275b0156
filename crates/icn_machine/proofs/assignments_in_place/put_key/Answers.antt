use Rattle.std.proofs.Common.{refl}
use Rattle.std.proofs.lemmas.List.Elements.{All-nil}
use Rattle.std.specs.Prelude.{is_some}
use Rattle.icn_value.specs.Changes.{value_at_key, with_pair}
use Rattle.icn_heap.specs.Extents.{IsLive, value_in}
use Rattle.icn_heap.specs.Heaps.{extent_of, heap_of}
use Rattle.icn_vars.proofs.HeapChanges.{fields_behind, unless_change}
use Rattle.icn_vars.proofs.RootChanges.{key_assigned}
use Rattle.icn_machine.proofs.AssignmentSteps.{stored_counted}
use Rattle.icn_machine.proofs.assignments_in_place.put_key.Goals as goal

pub store-requires-clause-table : goal.store-requires-clause-table
store-requires-clause-table c = c.requires.live.1.live.0

pub store-requires-clause-key : goal.store-requires-clause-key
store-requires-clause-key c = c.requires.live.1.live.1

pub returns-in-Ok-clause-puts : goal.returns-in-Ok-clause-puts
returns-in-Ok-clause-puts c q outside locals live refused next =
    let w = c.args.world.now in
    let all = extent_of w.heap in
    key_assigned outside w.heap c.store.new.self w.pair w.words w.globals.items w.statics.items locals c.store.ensures.kept w.sound live c.args.table
    (value_in all c.args.key) (value_in all c.args.val) c.in-Ok.ensures.step refused next

pub returns-in-Ok-clause-kept : goal.returns-in-Ok-clause-kept
returns-in-Ok-clause-kept c q =
    let w = c.args.world.now in
    let all = extent_of w.heap in
    let h = heap_of w.heap in
    record {
      locals = All-nil (IsLive (extent_of c.store.new.self));
      items = record {
        extent = c.store.ensures.kept;
        fields = fields_behind (unless_change (is_some (value_at_key h c.args.table (value_in all c.args.key))))
            (with_pair c.args.table (value_in all c.args.key) (value_in all c.args.val)) (λ heap. refl) h (heap_of c.store.new.self) c.in-Ok.ensures.step;
        globals = refl;
        statics = refl;
        locals = refl;
      };
    }

pub returns-in-Ok-clause-counts : goal.returns-in-Ok-clause-counts
returns-in-Ok-clause-counts c q =
    let w = c.args.world.now in
    let counted = stored_counted (heap_of w.heap) (heap_of c.store.new.self) c.args.table (value_in (extent_of w.heap) c.args.key)
    (value_in (extent_of w.heap) c.args.val) c.in-Ok.ensures.step in
    record { bounds = counted.bounds; coexps = counted.coexps }
