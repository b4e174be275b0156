-- Errors that become failure: where failing goes on, what is kept, and what was done before the error.
use Rattle.std.specs.Prelude.{List, [], ◌∷◌}
use Rattle.icn_tree.specs.declared.token.Operator.TheVariants as Signs
use Rattle.icn_tree.specs.declared.tree.SectionKind.TheVariants as Sections
use Rattle.cases_programs.specs.Words.{int, text, name, key, before, between, assign, call, write, element, section, list, to, when, every, create, return, suspend, procedure, main}
use Rattle.cases_programs.specs.Cases.{ProgramCase, case, under, ends_done, ends_errored, most_strings, most_levels}

-- each case has its program above it
abbrev pub failures : List ProgramCase
failures =
    -- procedure main(); &error := 1; write("a" + 1); write(&errornumber, " ", &errortext, " ", &errorvalue, " ", &error); end
    case
    (main
    (assign (key "error") (int 1) ∷
    write (between (text "a") Signs.Plus (int 1) ∷ []) ∷
    write
    (key "errornumber" ∷ text " " ∷ key "errortext" ∷ text " " ∷ key "errorvalue" ∷ text " " ∷ key "error" ∷
    []) ∷
    []) ∷
    [])
    80
    (ends_done "102 numeric expected a 0\n" 3 0 1) ∷
    -- procedure main(); &error := -1; every write(1 to 3) + "x"; write(&error); end
    case
    (main
    (assign (key "error") (before Signs.Minus (int 1)) ∷
    every (between (write (to (int 1) (int 3) ∷ [])) Signs.Plus (text "x")) ∷
    write (key "error" ∷ []) ∷
    []) ∷
    [])
    120
    (ends_done "1\n2\n3\n-4\n" 13 0 1) ∷
    -- procedure main(); write(&errornumber | "none"); end
    case (main (write (between (key "errornumber") Signs.Bar (text "none") ∷ []) ∷ []) ∷ [])
    40
    (ends_done "none\n" 1 0 1) ∷
    -- procedure main(); &error := 9; write(1 / 0); write(&errorvalue | "no value"); errorclear(); write(&errornumber | "none"); end
    case
    (main
    (assign (key "error") (int 9) ∷
    write (between (int 1) Signs.Slash (int 0) ∷ []) ∷
    write (between (key "errorvalue") Signs.Bar (text "no value") ∷ []) ∷
    call (name "errorclear") [] ∷
    write (between (key "errornumber") Signs.Bar (text "none") ∷ []) ∷
    []) ∷
    [])
    120
    (ends_done "no value\nnone\n" 5 0 1) ∷
    -- procedure p(n); if n > 0 then p(n - 1); end
    -- procedure main(); &error := 1; p(9); end
    under (most_levels 10)
    (procedure "p" ("n" ∷ [])
    (when (between (name "n") Signs.Greater (int 0))
    (call (name "p") (between (name "n") Signs.Minus (int 1) ∷ [])) ∷
    []) ∷
    main (assign (key "error") (int 1) ∷ call (name "p") (int 9 ∷ []) ∷ []) ∷
    [])
    440
    (ends_errored 301 "" "Run-time error 301\nevaluation stack overflow\n" 29 0 1) ∷
    -- procedure main(); &error := -1; write("abc" || "def"); end
    under (most_strings 5)
    (main
    (assign (key "error") (before Signs.Minus (int 1)) ∷
    write (between (text "abc") Signs.BarBar (text "def") ∷ []) ∷
    []) ∷
    [])
    80
    (ends_errored 306 "" "Run-time error 306\ninadequate space in string region\n" 3 0 1) ∷
    -- procedure main(); &error := "x"; end
    case (main (assign (key "error") (text "x") ∷ []) ∷ [])
    40
    (ends_errored 101 ""
    "Run-time error 101\ninteger expected or out of range\noffending value: \"x\"\n"
    1
    0
    1) ∷
    -- The row that errs is resumed: its choice is gone.
    -- procedure main(); &error := -1; every write(seq(9223372036854775807)); write(&errornumber); end
    case
    (main
    (assign (key "error") (before Signs.Minus (int 1)) ∷
    every (write (call (name "seq") (int 9223372036854775807 ∷ []) ∷ [])) ∷
    write (key "errornumber" ∷ []) ∷
    []) ∷
    [])
    120
    (ends_done "9223372036854775807\n203\n" 6 0 1) ∷
    -- procedure main(); L := [1]; &error := 1; (L[1] <- 2) & pop(L) & &fail; write(&errornumber, &errorvalue | "none"); end
    case
    (main
    (assign (name "L") (list (int 1 ∷ [])) ∷
    assign (key "error") (int 1) ∷
    between
    (between (between (element (name "L") (int 1 ∷ [])) Signs.ReversibleAssign (int 2)) Signs.Ampersand
    (call (name "pop") (name "L" ∷ []))) Signs.Ampersand (key "fail") ∷
    write (key "errornumber" ∷ between (key "errorvalue") Signs.Bar (text "none") ∷ []) ∷
    []) ∷
    [])
    160
    (ends_done "205none\n" 8 0 3) ∷
    -- What was done before the error stays.
    -- procedure main(); x := []; &error := 1; x :=: &subject; write(image(x)); end
    case
    (main
    (assign (name "x") (list []) ∷
    assign (key "error") (int 1) ∷
    between (name "x") Signs.Swap (key "subject") ∷
    write (call (name "image") (name "x" ∷ []) ∷ []) ∷
    []) ∷
    [])
    120
    (ends_done "\"\"\n" 6 2 2) ∷
    -- A result of a co-expression that can not be dereferenced: its turn is made, and it is not counted.
    -- procedure main(); &error := 1; L := [1]; c := create 1(L[1], pop(L)) | 7; write(@c, *c); end
    case
    (main
    (assign (key "error") (int 1) ∷
    assign (name "L") (list (int 1 ∷ [])) ∷
    assign (name "c")
    (create
    (between
    (call (int 1) (element (name "L") (int 1 ∷ []) ∷ call (name "pop") (name "L" ∷ []) ∷ [])) Signs.Bar
    (int 7))) ∷
    write (before Signs.At (name "c") ∷ before Signs.Star (name "c") ∷ []) ∷
    []) ∷
    [])
    240
    (ends_done "71\n" 13 0 6) ∷
    -- procedure p(); s := "abc"; return 1(s[2:4], s := ""); end
    -- procedure main(); &error := 1; write(p() | "failed"); write(&errornumber); end
    case
    (procedure "p" []
    (assign (name "s") (text "abc") ∷
    return
    (call (int 1)
    (section Sections.Between (name "s") (int 2) (int 4) ∷ assign (name "s") (text "") ∷ [])) ∷
    []) ∷
    main
    (assign (key "error") (int 1) ∷
    write (between (call (name "p") []) Signs.Bar (text "failed") ∷ []) ∷
    write (key "errornumber" ∷ []) ∷
    []) ∷
    [])
    240
    (ends_done "failed\n205\n" 8 0 1) ∷
    -- procedure p(); s := "abc"; suspend 1(s[2:4], s := "") | 5; end
    -- procedure main(); &error := 1; every write(p()); write(&errornumber); end
    case
    (procedure "p" []
    (assign (name "s") (text "abc") ∷
    suspend
    (between
    (call (int 1)
    (section Sections.Between (name "s") (int 2) (int 4) ∷ assign (name "s") (text "") ∷ [])) Signs.Bar
    (int 5)) ∷
    []) ∷
    main
    (assign (key "error") (int 1) ∷
    every (write (call (name "p") [] ∷ [])) ∷
    write (key "errornumber" ∷ []) ∷
    []) ∷
    [])
    240
    (ends_done "5\n205\n" 9 0 1) ∷
    -- Without an error that is kept the left side fails first.
    -- procedure main(); (&errornumber := 5) | write("f"); end
    case
    (main (between (assign (key "errornumber") (int 5)) Signs.Bar (write (text "f" ∷ [])) ∷ []) ∷ [])
    40
    (ends_done "f\n" 1 0 1) ∷
    -- procedure main(); &error := 2; 1 / 0; &errornumber := 5; write(&errornumber, &errorvalue, &error); end
    case
    (main
    (assign (key "error") (int 2) ∷
    between (int 1) Signs.Slash (int 0) ∷
    assign (key "errornumber") (int 5) ∷
    write (key "errornumber" ∷ key "errorvalue" ∷ key "error" ∷ []) ∷
    []) ∷
    [])
    120
    (ends_done "1112010\n" 4 0 1) ∷
    -- The least integer stays.
    -- procedure main(); &error := -9223372036854775807 - 1; 1 / 0; write(&error); end
    case
    (main
    (assign (key "error")
    (between (before Signs.Minus (int 9223372036854775807)) Signs.Minus (int 1)) ∷
    between (int 1) Signs.Slash (int 0) ∷
    write (key "error" ∷ []) ∷
    []) ∷
    [])
    120
    (ends_done "-9223372036854775808\n" 5 0 1) ∷
    []
