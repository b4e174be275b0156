use Rattle.std.proofs.Common.{arith}
use Rattle.icn_code.specs.Codes.{procs_of}
use Rattle.icn_image.specs.Fronts.{tables_in, with_procs}
use Rattle.icn_image.proofs.WholeImage.{image_takes, kept_by}
use Rattle.icn_image.proofs.reading.read_image.Goals as goal

pub invariant_of-result : goal.invariant_of-result
invariant_of-result c =
    let tables = with_procs (tables_in c.in_ok-front.front) (procs_of c.in_ok-front.procs.items) in
    let held = image_takes c.args.bytes.now tables (λ i. omega (arith, c.type_inv.bytes i)) c.in_ok-front.ensures in
    record { rules = kept_by held.0 tables held.1.0 }
