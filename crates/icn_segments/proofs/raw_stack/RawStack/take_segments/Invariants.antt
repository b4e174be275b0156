use Rattle.std.proofs.Common.{◌≡◌, ◌-◌, ◌≤◌}
use Rattle.icn_segments.specs.RawStacks.{values_of, room_of}
use Rattle.icn_segments.proofs.raw_stack.RawStack.take_segments.Given as goal

abbrev pub invariant-loop-self : goal.invariant-loop-self
invariant-loop-self g l = record {
  values : values_of l.self ≡ values_of l.initial.self;
  room : room_of l.initial.self ≤ room_of l.self;
}

abbrev pub decreases-loop-self : goal.decreases-loop-self
decreases-loop-self g l = l.n - room_of l.self
