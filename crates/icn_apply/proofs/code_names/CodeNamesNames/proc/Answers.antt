use Rattle.std.proofs.Common.{◌≡◌, length, map, [], arith}
use Rattle.std.proofs.lemmas.List.{length-map}
use Rattle.icn_text.specs.Funcs.{func_name}
use Rattle.icn_defs.specs.Images.{functions}
use Rattle.icn_code.specs.CodeTables.{tables_of}
use Rattle.icn_apply.specs.CodeNaming.{names_of}
use Rattle.icn_apply.proofs.NameLists.{behind_two}
use Rattle.icn_apply.proofs.code_names.CodeNamesNames.proc.Goals as goal

pub returns-else-place-procs-2 : goal.returns-else-place-procs-2
returns-else-place-procs-2 c =
    let first : length (names_of (tables_of c.args.self.now.code.now)).procedures
    ≡ c.len-procs.result = simp length-map (let ok = c.args.self.now.code.now.procs.ok in let len = c.len-procs.ensures in omega arith) in
    let second : length (names_of (tables_of c.args.self.now.code.now)).records
    ≡ c.len-records.result = simp length-map (let ok = c.args.self.now.code.now.records.ok in let len = c.len-records.ensures in omega arith) in
    behind_two (names_of (tables_of c.args.self.now.code.now)).procedures (names_of (tables_of c.args.self.now.code.now)).records
    (map func_name functions) c.args.number c.len-procs.result c.len-records.result
    c.function_name.result.now [] first second (omega arith) c.function_name.ensures
