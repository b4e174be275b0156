-- Joined codes of small programs, each table in its order.
use Rattle.std.specs.Prelude.{List, [], ◌∷◌, pos, false, codes}
use Rattle.icn_text.specs.declared.func.Func.TheVariants.{Write}
use Rattle.icn_text.specs.declared.op.Op.TheVariants as Ops
use Rattle.icn_tree.specs.Trees.{Declaration}
use Rattle.icn_code.specs.Codes.{Tables}
use Rattle.icn_code.specs.declared.code.Start.TheVariants as Starts
use Rattle.icn_code.specs.declared.instr.Instr.TheVariants as I
use Rattle.law_simulation.specs.JoinedFiles.{IsJoined}
use Rattle.cases_programs.specs.Words.{int, text, name, assign, write, field, return, globals, kind, statics, first, procedure_of, procedure, main}

-- the files of a program, and their code
pub record Joining : Type 0 where
  pub files : List (List Declaration)
  pub code : Tables

-- the code is the joined code of the files
abbrev pub HasItsCode : Joining → Type 0
HasItsCode joining = IsJoined joining.files joining.code

-- procedure main(); write("hi"); end
abbrev pub one_file : Joining
one_file = record {
  files = (main (write (text "hi" ∷ []) ∷ []) ∷ []) ∷ [];
  code = record {
    strings = codes "main" ∷ codes "write" ∷ codes "hi" ∷ [];
    csets = [];
    integers = [];
    fields = [];
    records = [];
    globals =
        record { name = 0; start = Starts.Procedure 0 } ∷ record { name = 1; start = Starts.Function Write }
        ∷ [];
    procs = record {
      name = 0;
      parameters = 0;
      collects = false;
      locals = 0;
      statics = 0;
      instrs = I.Mark 5 ∷ I.Global 1 ∷ I.Str 2 ∷ I.Invoke 1 ∷ I.Unmark ∷ I.Pfail ∷ [];
    } ∷ [];
  };
}

-- global g; procedure main(); static s; initial s := 7; x := s; write(x.b); end, and in another file
-- record r(a, b); procedure p(); return g; end
abbrev pub two_files : Joining
two_files = record {
  files =
      (globals ("g" ∷ [])
      ∷ procedure_of "main" [] false (statics ("s" ∷ []) ∷ []) (first (assign (name "s") (int 7)))
      (assign (name "x") (name "s") ∷ write (field (name "x") "b" ∷ []) ∷ [])
      ∷ [])
      ∷ (kind "r" ("a" ∷ "b" ∷ []) ∷ procedure "p" [] (return (name "g") ∷ []) ∷ [])
      ∷ [];
  code = record {
    strings =
        codes "a" ∷ codes "b" ∷ codes "r" ∷ codes "g" ∷ codes "main" ∷ codes "p" ∷ codes "write" ∷ [];
    csets = [];
    integers = pos 7 ∷ [];
    fields = 0 ∷ 1 ∷ [];
    records = record { name = 2; fields = 0 ∷ 1 ∷ [] } ∷ [];
    globals =
        record { name = 3; start = Starts.Null } ∷ record { name = 4; start = Starts.Procedure 0 }
        ∷ record { name = 2; start = Starts.Record 0 }
        ∷ record { name = 5; start = Starts.Procedure 1 } ∷ record { name = 6; start = Starts.Function Write }
        ∷ [];
    procs = record {
      name = 4;
      parameters = 0;
      collects = false;
      locals = 1;
      statics = 1;
      instrs =
          I.Init 6 ∷ I.Mark 6 ∷ I.Static 0 ∷ I.Int 0 ∷ I.Op Ops.Assign ∷ I.Unmark
          ∷ I.Mark 11 ∷ I.Local 0 ∷ I.Static 0 ∷ I.Op Ops.Assign ∷ I.Unmark
          ∷ I.Mark 17 ∷ I.Global 4 ∷ I.Local 0 ∷ I.Field 1 ∷ I.Invoke 1 ∷ I.Unmark ∷ I.Pfail ∷ [];
    } ∷ record {
      name = 5;
      parameters = 0;
      collects = false;
      locals = 0;
      statics = 0;
      instrs = I.Mark 6 ∷ I.Mark 4 ∷ I.Global 0 ∷ I.Pret ∷ I.Pfail ∷ I.Unmark ∷ I.Pfail ∷ [];
    } ∷ [];
  };
}

-- the cases
abbrev pub joinings : List Joining
joinings = one_file ∷ two_files ∷ []
