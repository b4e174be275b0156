use Rattle.std.proofs.Common.{List, refl}
use Rattle.icn_code.specs.declared.code.LinkedProcedure.{LinkedProcedure}
use Rattle.icn_code.specs.Codes.{procs_of}
use Rattle.icn_link.specs.ImageSizes.{bodies_size}
use Rattle.icn_link.proofs.ToldCounts.{told_all}
use Rattle.icn_link.proofs.image_size.bodies_size.Goals as goal

pub returns : goal.returns
returns c =
    told_all (λ (procs : List LinkedProcedure). bodies_size (procs_of procs)) c.args.procs.now c.loop-proc.proc-index c.loop-proc.size _ refl
    c.loop-proc-test.false c.loop-proc.invariant.fits c.loop-proc.invariant.sum
