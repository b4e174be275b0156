use Rattle.std.proofs.Common.{List, [], Option, ap, sym, ◌∙◌}
use Rattle.std.specs.Option.{option_map_or}
use Rattle.icn_calls.proofs.CallSteps.{entry_at}
use Rattle.icn_code.specs.Codes.{Proc, proc_of}
use Rattle.icn_code.specs.declared.instr.Instr.{Instr}
use Rattle.icn_machine.proofs.stepping.instrs_at.Goals as goal

pub returns : goal.returns
returns c =
    let F : Option Proc → List Instr = λ o. option_map_or (λ (entry : Proc). entry.instrs) o [] in
    c.deref.ensures.value ∙ sym (ap F (entry_at proc_of c.args.code.now.procs.items c.args.proc c.index-entry.result.now c.requires c.index-entry.ensures))
