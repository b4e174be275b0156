use Rattle.std.proofs.Common.{ap, List}
use Rattle.icn_strings.specs.declared.packed.PackedRun.{PackedRun}
use Rattle.icn_strings.specs.PackedRuns.{parts_of}
use Rattle.icn_strings.proofs.PackedBytes.{laid_none}
use Rattle.icn_strings.proofs.packed.Packed.nothing.Goals as goal

pub invariant_of-result : goal.invariant_of-result
invariant_of-result c = laid_none _ _ c.new-2.ensures.items c.new.ensures.items

pub returns : goal.returns
returns c = ap (λ (runs : List PackedRun). parts_of c.new-2.result.items runs) c.new.ensures.items
