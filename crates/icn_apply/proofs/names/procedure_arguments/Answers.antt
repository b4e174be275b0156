use Rattle.std.proofs.Common.{◌∙◌, ap, sym, Some}
use Rattle.icn_code.specs.Codes.{proc_of}
use Rattle.icn_code.specs.CodeTables.{tables_of}
use Rattle.icn_defs.specs.NamedValues.{arguments_taken}
use Rattle.icn_apply.specs.CodeNaming.{proc_arguments}
use Rattle.icn_apply.proofs.NameLists.{seen_once, seen_twice}
use Rattle.icn_apply.proofs.RuleCounts.{as_many, collecting, few_parameters}
use Rattle.icn_apply.proofs.names.procedure_arguments.Goals as goal

pub returns-then-entry : goal.returns-then-entry
returns-then-entry c =
    let code = c.args.code.now in
    let entry = c.index-entry.result.now in
    let few = few_parameters (tables_of code) c.args.place (proc_of entry) code.rules
    (seen_once proc_of code.procs.items c.args.place entry c.requires c.index-entry.ensures) in
    seen_twice proc_of proc_arguments code.procs.items c.args.place entry c.requires c.index-entry.ensures
    ∙ ap Some (ap (arguments_taken entry.parameters) c.if-entry.true ∙ sym (collecting entry.parameters c.from-parameters.result c.from-parameters.ensures few))

pub returns-else-entry : goal.returns-else-entry
returns-else-entry c =
    let code = c.args.code.now in
    let entry = c.index-entry.result.now in
    let few = few_parameters (tables_of code) c.args.place (proc_of entry) code.rules
    (seen_once proc_of code.procs.items c.args.place entry c.requires c.index-entry.ensures) in
    seen_twice proc_of proc_arguments code.procs.items c.args.place entry c.requires c.index-entry.ensures
    ∙ ap Some (ap (arguments_taken entry.parameters) c.if-entry.false ∙ sym (as_many entry.parameters c.from-parameters.result c.from-parameters.ensures few))
