use Rattle.icn_ucode.proofs.DeclLines.{names_done}
use Rattle.icn_ucode.proofs.reader.same_names.Goals as goal

pub returns : goal.returns
returns c = names_done c.is_empty.result c.loop-decl.rest.now c.args.procs.now c.args.decls.now c.loop-decl.decl-index c.is_empty.ensures c.loop-decl-test.false
    c.loop-decl.invariant
