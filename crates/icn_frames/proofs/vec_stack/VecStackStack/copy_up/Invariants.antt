use Rattle.std.proofs.Common.{◌≡◌, ◌+◌, ◌-◌, ◌++◌, take, drop, vec_len, vec_capacity}
use Rattle.icn_frames.proofs.vec_stack.VecStackStack.copy_up.Given as goal

abbrev pub invariant-loop-i : goal.invariant-loop-i
invariant-loop-i g l = record {
  items : l.self.items.items ≡ l.initial.self.items.items ++ take (l.i - l.from) (drop l.from l.initial.self.items.items);
  len : vec_len l.self.items ≡ vec_len l.initial.self.items + (l.i - l.from);
  capacity : vec_capacity l.self.items ≡ vec_capacity l.initial.self.items;
}
