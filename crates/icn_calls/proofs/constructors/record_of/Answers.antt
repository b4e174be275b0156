use Rattle.std.proofs.Common.{map}
use Rattle.icn_defs.specs.Structures.{new_record_of}
use Rattle.icn_heap.specs.Extents.{value_in}
use Rattle.icn_heap.specs.Heaps.{extent_of}
use Rattle.icn_frames.specs.Stacks as held
use Rattle.icn_control.proofs.OperandValues.{live_locals}
use Rattle.icn_control.proofs.TakenOperandSteps.{makes_value, keeps_without_locals}
use Rattle.icn_calls.proofs.RecordSteps.{record_counted}
use Rattle.icn_calls.proofs.constructors.record_of.Goals as goal

pub new_record-requires-clause-locals : goal.new_record-requires-clause-locals
new_record-requires-clause-locals g c = live_locals c.requires.stack.0 _ c.args.frames.now.flat c.requires.stack.1

pub returns-clause-kept : goal.returns-clause-kept
returns-clause-kept g c = keeps_without_locals c.args.world.now c.new_record.new.w (held.locals c.args.frames.now.flat) c.new_record.ensures.kept.items

pub returns-clause-counts : goal.returns-clause-counts
returns-clause-counts g c =
    record_counted c.args.world.now c.new_record.new.w (held.locals c.args.frames.now.flat) c.args.kind
    (map (value_in (extent_of c.args.world.now.heap)) c.args.fields.now) c.new_record.result c.new_record.ensures.found

pub returns-clause-made : goal.returns-clause-made
returns-clause-made g c =
    makes_value c.requires.stack.0 c.args.world.now c.new_record.new.w c.args.frames.now.flat
    (new_record_of (record { kind = c.args.kind; fields = map (value_in (extent_of c.args.world.now.heap)) c.args.fields.now })) c.new_record.result
    c.new_record.ensures.kept.items c.requires.stack.1 c.local_count.ensures.same c.new_record.ensures.found
