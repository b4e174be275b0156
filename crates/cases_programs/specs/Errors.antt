-- Each error of a form, and of the limits.
use Rattle.std.specs.Prelude.{List, [], ◌∷◌, true, codes}
use Rattle.icn_tree.specs.declared.token.Operator.TheVariants as Signs
use Rattle.icn_tree.specs.Trees.{NoInitial}
use Rattle.cases_programs.specs.Words.{int, text, letters, name, key, before, between, assign, call, write, element, field, list, to_by, when, every, create, globals, kind, procedure_of, procedure, main}
use Rattle.cases_programs.specs.Cases.{ProgramCase, case, under, run_of, ends_done, ends_errored, at_bound, most_turns, most_strings, most_cells, most_levels}

-- programs that end by an error
abbrev pub errors : List ProgramCase
errors =
    -- procedure main(); write(9223372036854775807 + 1); end
    case
    (main (write (between (int 9223372036854775807) Signs.Plus (int 1) ∷ []) ∷ []) ∷ [])
    80
    (ends_errored 203 "" "Run-time error 203\ninteger overflow\n" 1 0 1) ∷
    -- procedure main(); write("a" + 1); end
    case (main (write (between (text "a") Signs.Plus (int 1) ∷ []) ∷ []) ∷ [])
    80
    (ends_errored 102 "" "Run-time error 102\nnumeric expected\noffending value: \"a\"\n" 1 0 1) ∷
    -- global write
    -- procedure main(); write("x"); end
    case (globals ("write" ∷ []) ∷ main (write (text "x" ∷ []) ∷ []) ∷ []) 72
    (ends_errored 106 "" "Run-time error 106\nprocedure or integer expected\noffending value: &null\n" 1 0 1)
    ∷
    -- procedure main(); write(1 \ -1); end
    case
    (main (write (between (int 1) Signs.Backslash (before Signs.Minus (int 1)) ∷ []) ∷ []) ∷ [])
    80
    (ends_errored 205 "" "Run-time error 205\ninvalid value\noffending value: -1\n" 1 0 1) ∷
    -- procedure main(); ^&main; end
    case (main (before Signs.Caret (key "main") ∷ []) ∷ []) 66
    (ends_errored 215 ""
    "Run-time error 215\nattempt to refresh &main\noffending value: co-expression_1(0)\n"
    1
    0
    1) ∷
    case [] 60 (ends_errored 117 "" "Run-time error 117\nmissing main procedure\n" 0 0 0) ∷
    -- procedure p(n); if n > 0 then p(n - 1); end
    -- procedure main(); p(9); end
    under (most_levels 10)
    (procedure "p" ("n" ∷ [])
    (when (between (name "n") Signs.Greater (int 0))
    (call (name "p") (between (name "n") Signs.Minus (int 1) ∷ [])) ∷
    []) ∷
    main (call (name "p") (int 9 ∷ []) ∷ []) ∷
    [])
    432
    (ends_errored 301 "" "Run-time error 301\nevaluation stack overflow\n" 28 0 1) ∷
    -- procedure p(n); if n > 0 then p(n - 1); end
    -- procedure main(); p(8); end
    under (most_levels 10)
    (procedure "p" ("n" ∷ [])
    (when (between (name "n") Signs.Greater (int 0))
    (call (name "p") (between (name "n") Signs.Minus (int 1) ∷ [])) ∷
    []) ∷
    main (call (name "p") (int 8 ∷ []) ∷ []) ∷
    [])
    434
    (ends_done "" 26 0 1) ∷
    -- procedure main(); write("abc" || "def"); end
    under (most_strings 5)
    (main (write (between (text "abc") Signs.BarBar (text "def") ∷ []) ∷ []) ∷ [])
    80
    (ends_errored 306 "" "Run-time error 306\ninadequate space in string region\n" 1 0 1) ∷
    -- procedure main(); write("abc" || "def"); end
    under (most_strings 6)
    (main (write (between (text "abc") Signs.BarBar (text "def") ∷ []) ∷ []) ∷ [])
    86
    (ends_done "abcdef\n" 2 6 1) ∷
    -- procedure main(); L := list(99); end
    under (most_cells 100)
    (main (assign (name "L") (call (name "list") (int 99 ∷ [])) ∷ []) ∷ [])
    80
    (ends_errored 307 "" "Run-time error 307\ninadequate space in block region\n" 1 0 1) ∷
    -- procedure main(); L := list(98); end
    under (most_cells 100)
    (main (assign (name "L") (call (name "list") (int 98 ∷ [])) ∷ []) ∷ [])
    86
    (ends_done "" 2 0 100) ∷
    -- record p(x, y)
    -- procedure main(); r := p(1); write(r.z); end
    case
    (kind "p" ("x" ∷ "y" ∷ []) ∷
    main (assign (name "r") (call (name "p") (int 1 ∷ [])) ∷ write (field (name "r") "z" ∷ []) ∷ []) ∷
    [])
    100
    (ends_errored 207 "" "Run-time error 207\ninvalid field name\noffending value: record p_1(2)\n" 3 0 4) ∷
    -- procedure main(); r := 1; write(r.z); end
    case
    (main (assign (name "r") (int 1) ∷ write (field (name "r") "z" ∷ []) ∷ []) ∷ [])
    90
    (ends_errored 107 "" "Run-time error 107\nrecord expected\noffending value: 1\n" 2 0 1) ∷
    -- procedure main(); x := [1]; x(2); end
    case
    (main (assign (name "x") (list (int 1 ∷ [])) ∷ call (name "x") (int 2 ∷ []) ∷ []) ∷ [])
    92
    (ends_errored 106 ""
    "Run-time error 106\nprocedure or integer expected\noffending value: list_2(1)\n"
    3
    0
    3) ∷
    -- procedure main(); foo(1); end
    case (main (call (name "foo") (int 1 ∷ []) ∷ []) ∷ []) 72
    (ends_errored 106 "" "Run-time error 106\nprocedure or integer expected\noffending value: &null\n" 1 0 1)
    ∷
    -- procedure main(); write ! 3; end
    case (main (between (name "write") Signs.Bang (int 3) ∷ []) ∷ []) 72
    (ends_errored 126 "" "Run-time error 126\nlist or record expected\noffending value: 3\n" 1 0 1) ∷
    -- procedure main(); @5; end
    case (main (before Signs.At (int 5) ∷ []) ∷ []) 72
    (ends_errored 118 "" "Run-time error 118\nco-expression expected\noffending value: 5\n" 1 0 1) ∷
    -- procedure main(); write(1 \ "a"); end
    case
    (main (write (between (int 1) Signs.Backslash (text "a") ∷ []) ∷ []) ∷ [])
    74
    (ends_errored 101 ""
    "Run-time error 101\ninteger expected or out of range\noffending value: \"a\"\n"
    0
    0
    1) ∷
    -- procedure main(); [] ? 1; end
    case (main (between (list []) Signs.Question (int 1) ∷ []) ∷ []) 66
    (ends_errored 103 "" "Run-time error 103\nstring expected\noffending value: list_2(0)\n" 1 0 2) ∷
    -- procedure main(); 1 := 2; end
    case (main (assign (int 1) (int 2) ∷ []) ∷ []) 72
    (ends_errored 111 "" "Run-time error 111\nvariable expected\noffending value: 1\n" 1 0 1) ∷
    -- procedure main(); every write(1 to 2 by 0); end
    case (main (every (write (to_by (int 1) (int 2) (int 0) ∷ [])) ∷ []) ∷ [])
    86
    (ends_errored 211 "" "Run-time error 211\nby value equal to zero\n" 1 0 1) ∷
    -- procedure main(); write(1); end
    run_of ((main (write (int 1 ∷ []) ∷ []) ∷ []) ∷ [])
    (codes "ab" ∷ codes "cde" ∷ [])
    (most_strings 4)
    []
    60
    (ends_errored 306 "" "Run-time error 306\ninadequate space in string region\n" 0 0 0) ∷
    -- procedure main(); write(1); end
    run_of ((main (write (int 1 ∷ []) ∷ []) ∷ []) ∷ []) (codes "ab" ∷ [])
    (most_cells 1)
    []
    60
    (ends_errored 307 "" "Run-time error 307\ninadequate space in block region\n" 0 2 0) ∷
    -- procedure main(); ^5; end
    case (main (before Signs.Caret (int 5) ∷ []) ∷ []) 40
    (ends_errored 118 "" "Run-time error 118\nco-expression expected\noffending value: 5\n" 1 0 1) ∷
    -- procedure main(); '1'(2); end
    case (main (call (letters "1") (int 2 ∷ []) ∷ []) ∷ []) 40
    (ends_errored 106 "" "Run-time error 106\nprocedure or integer expected\noffending value: '1'\n" 1 0 1) ∷
    -- procedure main(); "x"(2); end
    case (main (call (text "x") (int 2 ∷ []) ∷ []) ∷ []) 40
    (ends_errored 106 "" "Run-time error 106\nprocedure or integer expected\noffending value: \"x\"\n" 1 0 1)
    ∷
    -- procedure main(); 3 ! 4; end
    case (main (between (int 3) Signs.Bang (int 4) ∷ []) ∷ []) 40
    (ends_errored 126 "" "Run-time error 126\nlist or record expected\noffending value: 4\n" 1 0 1) ∷
    -- procedure main(); write(1 / 0); end
    case (main (write (between (int 1) Signs.Slash (int 0) ∷ []) ∷ []) ∷ [])
    40
    (ends_errored 201 "" "Run-time error 201\ndivision by zero\n" 1 0 1) ∷
    -- procedure main(); [1, 2]; end
    under (most_cells 3) (main (list (int 1 ∷ int 2 ∷ []) ∷ []) ∷ []) 40
    (ends_errored 307 "" "Run-time error 307\ninadequate space in block region\n" 1 0 1) ∷
    -- procedure main(); create 1; end
    under (most_cells 1) (main (create (int 1) ∷ []) ∷ []) 40
    (ends_errored 307 "" "Run-time error 307\ninadequate space in block region\n" 1 0 1) ∷
    -- procedure p(a[]); a; end
    -- procedure main(); p(1); end
    under (most_cells 2)
    (procedure_of "p" ("a" ∷ []) true [] NoInitial (name "a" ∷ []) ∷
    main (call (name "p") (int 1 ∷ []) ∷ []) ∷
    [])
    40
    (ends_errored 307 "" "Run-time error 307\ninadequate space in block region\n" 1 0 1) ∷
    -- procedure main(); L := [1]; c := (create 1(L[1], pop(L))); @c; end
    case
    (main
    (assign (name "L") (list (int 1 ∷ [])) ∷
    assign (name "c")
    (create
    (call (int 1) (element (name "L") (int 1 ∷ []) ∷ call (name "pop") (name "L" ∷ []) ∷ []))) ∷
    before Signs.At (name "c") ∷
    []) ∷
    [])
    160
    (ends_errored 205 "" "Run-time error 205\ninvalid value\n" 9 0 6) ∷
    -- procedure main(); L := [1]; c := (create 1(L[1], pop(L))); @c; end
    under (most_turns 8)
    (main
    (assign (name "L") (list (int 1 ∷ [])) ∷
    assign (name "c")
    (create
    (call (int 1) (element (name "L") (int 1 ∷ []) ∷ call (name "pop") (name "L" ∷ []) ∷ []))) ∷
    before Signs.At (name "c") ∷
    []) ∷
    [])
    160
    (at_bound "" 8 0 6) ∷
    []
