use Rattle.std.proofs.Common.{◌≡◌, ◌<◌, ◌≤◌, ◌+◌, ◌-◌, ◌*◌, ◌++◌, ℕ, take, drop}
use Rattle.icn_strings.specs.Chunks.{HasRoom}
use Rattle.icn_strings.specs.RepeatedBytes.{copies}
use Rattle.icn_strings.proofs.chunk.Chunk.repeat_behind.Given as goal

-- so many copies stand there, with room for the others
abbrev pub invariant-loop-done : goal.invariant-loop-done
invariant-loop-done l = record {
  some : 0 < l.done;
  few : l.done ≤ l.count;
  first : l.self.first ≡ l.initial.self.first;
  bytes : l.self.bytes.items ≡ take l.kept l.initial.self.bytes.items ++ copies l.done (drop l.kept l.initial.self.bytes.items);
  room : (more : ℕ) → HasRoom l.initial.self ((l.done - 1) * l.unit + more) → HasRoom l.self more;
}

abbrev pub decreases-loop-done : goal.decreases-loop-done
decreases-loop-done l = l.count - l.done
