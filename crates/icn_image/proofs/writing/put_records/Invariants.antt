use Rattle.std.proofs.Common.{◌≡◌, ◌++◌, length, take}
use Rattle.std.specs.Int.{w32, to_le_bytes}
use Rattle.std.specs.List.{flat_map}
use Rattle.icn_code.specs.Codes.{records_of}
use Rattle.icn_image.specs.Spelling.{record_type}
use Rattle.icn_image.proofs.writing.put_records.Given as goal

abbrev pub invariant-loop-kind : goal.invariant-loop-kind
invariant-loop-kind l =
    l.out.items ≡ l.fn.out.items ++ (to_le_bytes w32 (length l.records) ++ flat_map (record_type w32) (records_of (take l.kind-index l.records)))
