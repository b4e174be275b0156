use Rattle.std.proofs.Common.{◌≡◌, ◌++◌, length, take, map}
use Rattle.std.specs.Int.{w32, to_le_bytes}
use Rattle.std.specs.List.{flat_map}
use Rattle.icn_code.specs.Codes.{procs_of}
use Rattle.icn_image.specs.Fronts.{head_of}
use Rattle.icn_image.specs.Spelling.{head}
use Rattle.icn_image.proofs.writing.put_heads.Given as goal

abbrev pub invariant-loop-proc : goal.invariant-loop-proc
invariant-loop-proc l =
    l.out.items ≡ l.fn.out.items ++ (to_le_bytes w32 (length l.procs) ++ flat_map (head w32) (map head_of (procs_of (take l.proc-index l.procs))))
