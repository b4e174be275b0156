use Rattle.std.proofs.Common.{◌≡◌, ◌∙◌, FitsSigned, length, map, pos, rules, w64, arith}
use Rattle.std.proofs.lemmas.Int.{to_z-of_z}
use Rattle.std.proofs.lemmas.List.{length-map}
use Rattle.icn_defs.specs.Images.{functions}
use Rattle.icn_defs.specs.NamedValues.{function_arguments}
use Rattle.icn_code.specs.CodeTables.{tables_of}
use Rattle.icn_apply.specs.CodeNaming.{proc_arguments, record_arguments}
use Rattle.icn_apply.proofs.NameLists.{first_of_three, second_of_three, third_of_three}
use Rattle.icn_apply.proofs.code_names.CodeNamesNames.arguments.Goals as goal

pub returns-then-place-procs : goal.returns-then-place-procs
returns-then-place-procs c =
    let tables = tables_of c.args.self.now.code.now in
    let fits : FitsSigned w64 c.procedure_arguments.result = search rules in
    to_z-of_z w64 c.procedure_arguments.result fits
    ∙ first_of_three (map proc_arguments tables.procs) (map record_arguments tables.records) (map function_arguments functions) c.args.number
    c.procedure_arguments.result (pos 0) c.procedure_arguments.ensures

pub returns-then-place-procs-2 : goal.returns-then-place-procs-2
returns-then-place-procs-2 c =
    let tables = tables_of c.args.self.now.code.now in
    let fits : FitsSigned w64 c.record_arguments.result = search rules in
    let first : length (map proc_arguments tables.procs)
    ≡ c.len-procs.result = simp length-map (let ok = c.args.self.now.code.now.procs.ok in let len = c.len-procs.ensures in omega arith) in
    to_z-of_z w64 c.record_arguments.result fits
    ∙ second_of_three (map proc_arguments tables.procs) (map record_arguments tables.records) (map function_arguments functions) c.args.number
    c.len-procs.result c.record_arguments.result (pos 0) first (omega arith) c.record_arguments.ensures

pub returns-else-place-procs-2 : goal.returns-else-place-procs-2
returns-else-place-procs-2 c =
    let tables = tables_of c.args.self.now.code.now in
    let fits : FitsSigned w64 c.arguments_of_function.result = search rules in
    let first : length (map proc_arguments tables.procs)
    ≡ c.len-procs.result = simp length-map (let ok = c.args.self.now.code.now.procs.ok in let len = c.len-procs.ensures in omega arith) in
    let second : length (map record_arguments tables.records)
    ≡ c.len-records.result = simp length-map (let ok = c.args.self.now.code.now.records.ok in let len = c.len-records.ensures in omega arith) in
    to_z-of_z w64 c.arguments_of_function.result fits
    ∙ third_of_three (map proc_arguments tables.procs) (map record_arguments tables.records)
    (map function_arguments functions) c.args.number c.len-procs.result c.len-records.result
    c.arguments_of_function.result (pos 0) first second (omega arith) c.arguments_of_function.ensures
