use Rattle.std.proofs.Common.{◌∙◌, List, sym, ap, arith}
use Rattle.icn_strings.specs.declared.packed.PackedRun.{PackedRun}
use Rattle.icn_strings.specs.PackedRuns.{parts_of}
use Rattle.icn_strings.proofs.PackedBytes.{no_items}
use Rattle.icn_strings.proofs.packed.Packed.is_empty.Goals as goal

pub returns-then-len-eq0 : goal.returns-then-len-eq0
returns-then-len-eq0 c = λ _.
    sym c.self.view_is
    ∙ ap (λ (runs : List PackedRun). parts_of c.self.inside.bytes.items runs)
    (no_items c.self.inside.runs.items (omega (arith, c.if-len-eq0.true, c.len.ensures, c.self.inside.runs.ok)))
