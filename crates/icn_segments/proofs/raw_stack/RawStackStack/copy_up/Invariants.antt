use Rattle.std.proofs.Common.{◌≡◌, ◌+◌, ◌-◌}
use Rattle.icn_frames.specs.Heights.{with_copy}
use Rattle.icn_segments.specs.RawStacks.{values_of, room_of}
use Rattle.icn_segments.proofs.raw_stack.RawStackStack.copy_up.Given as goal

abbrev pub invariant-loop-i : goal.invariant-loop-i
invariant-loop-i g l = record {
  cells : values_of l.self ≡ with_copy l.from l.i (values_of l.initial.self);
  spare : room_of l.self + (l.i - l.from) ≡ room_of l.initial.self;
}
