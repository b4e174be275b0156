use Rattle.std.proofs.Common.{◌≡◌, ◌++◌, take}
use Rattle.std.specs.Int.{w32}
use Rattle.std.specs.List.{flat_map}
use Rattle.icn_code.specs.Codes.{procs_of}
use Rattle.icn_image.specs.Spelling.{body}
use Rattle.icn_image.proofs.writing.put_bodies.Given as goal

abbrev pub invariant-loop-proc : goal.invariant-loop-proc
invariant-loop-proc l = l.out.items ≡ l.fn.out.items ++ flat_map (body w32) (procs_of (take l.proc-index l.procs))
