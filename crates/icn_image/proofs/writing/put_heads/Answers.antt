use Rattle.std.proofs.Common.{length, ◌++◌, ap, ◌∙◌}
use Rattle.std.specs.Int.{w32, to_le_bytes}
use Rattle.icn_code.specs.Codes.{proc_of}
use Rattle.icn_image.specs.Fronts.{head_of}
use Rattle.icn_image.specs.Spelling.{head}
use Rattle.icn_code.specs.declared.code.LinkedProcedure.{LinkedProcedure}
use Rattle.icn_image.proofs.WritingLoop.{put_head_more}
use Rattle.icn_image.proofs.writing.put_heads.Goals as goal

pub loop-proc-preserved : goal.loop-proc-preserved
loop-proc-preserved c =
    let procs = c.args.procs.now in
    let i = c.loop-proc.proc-index in
    let d = c.proc-item.result in
    put_head_more w32 c.args.out.now.items (to_le_bytes w32 (length procs)) procs i d c.loop-proc.out.items c.put_head.new.out.items c.loop-proc-test.true
    c.loop-proc.invariant (c.in_ok-put_head.ensures ∙ ap (λ (p : LinkedProcedure). c.loop-proc.out.items ++ head w32 (head_of (proc_of p))) c.proc-item.is)
