-- The procedures that globals begin with, and the one that a program begins with.
use Rattle.std.specs.Prelude.{ℕ, codes, find, Option, Some, None}
use Rattle.std.specs.Option.{option_and_then}
use Rattle.std.specs.Str.{bytes_eq}
use Rattle.icn_code.specs.declared.code.Global.{Global as GlobalEntry}
use Rattle.icn_code.specs.declared.code.Start.{Start}
use Rattle.icn_code.specs.declared.code.Start.TheVariants as Starts
use Rattle.icn_code.specs.Codes.{Tables}
use Rattle.icn_code.specs.Rules.{name_of}

-- the procedure that a global begins with
abbrev pub procedure_at : Start → Option ℕ
procedure_at (Starts.Procedure number) = Some number
procedure_at start = None

-- the procedure that the global `main` begins with, if there is one
abbrev pub main_of : Tables → Option ℕ
main_of tables = option_and_then (λ (global : GlobalEntry). procedure_at global.start)
    (find (λ global. bytes_eq (name_of tables.strings global) (codes "main")) tables.globals)
