-- Alternatives, repeated alternation, limits, `to`, elements, and what is taken back.
use Rattle.std.specs.Prelude.{List, [], ◌∷◌, false}
use Rattle.icn_tree.specs.declared.token.Operator.TheVariants as Signs
use Rattle.icn_tree.specs.Trees.{Empty, NoInitial}
use Rattle.cases_programs.specs.Words.{int, text, name, key, before, between, assign, update, call, write, element, list, to, all_of, block, when, while_do, every, return, fail, suspend, suspend_do, globals, locals, procedure_of, procedure, main}
use Rattle.cases_programs.specs.Cases.{ProgramCase, case, ends_done, ends_errored}

-- programs with generators
abbrev pub generators : List ProgramCase
generators =
    -- procedure main(); every write((1 to 2) + (10 | 20)); end
    case
    (main
    (every
    (write (between (to (int 1) (int 2)) Signs.Plus (between (int 10) Signs.Bar (int 20)) ∷ [])) ∷
    []) ∷
    [])
    154
    (ends_done "11\n21\n12\n22\n" 11 0 1) ∷
    -- procedure main(); x := 1; every write(x <- 2 | 3); write(x); end
    case
    (main
    (assign (name "x") (int 1) ∷
    every
    (write (between (name "x") Signs.ReversibleAssign (between (int 2) Signs.Bar (int 3)) ∷ [])) ∷
    write (name "x" ∷ []) ∷
    []) ∷
    [])
    142
    (ends_done "2\n3\n1\n" 8 0 1) ∷
    -- procedure main(); write(2 to 1); write("z"); end
    case (main (write (to (int 2) (int 1) ∷ []) ∷ write (text "z" ∷ []) ∷ []) ∷ []) 104
    (ends_done "z\n" 2 0 1) ∷
    -- procedure main(); every write(|(1 to 2) \ 5); end
    case
    (main
    (every (write (between (before Signs.Bar (to (int 1) (int 2))) Signs.Backslash (int 5) ∷ [])) ∷
    []) ∷
    [])
    202
    (ends_done "1\n2\n1\n2\n1\n" 14 0 1) ∷
    -- procedure main(); x := 1; every write((x <- 2) \ 1); write(x); end
    case
    (main
    (assign (name "x") (int 1) ∷
    every
    (write
    (between (between (name "x") Signs.ReversibleAssign (int 2)) Signs.Backslash (int 1) ∷ [])) ∷
    write (name "x" ∷ []) ∷
    []) ∷
    [])
    132
    (ends_done "2\n2\n" 4 0 1) ∷
    -- procedure main(); x := 0; x <- 1 & x <- 2 & &fail; write(x); end
    case
    (main
    (assign (name "x") (int 0) ∷
    between
    (between (between (name "x") Signs.ReversibleAssign (int 1))
    Signs.Ampersand
    (between (name "x") Signs.ReversibleAssign (int 2)))
    Signs.Ampersand
    (key "fail") ∷
    write (name "x" ∷ []) ∷
    []) ∷
    [])
    136
    (ends_done "0\n" 6 0 1) ∷
    -- procedure main(); every write((1 to 3) \ (1 | 2)); end
    case
    (main
    (every
    (write
    (between (to (int 1) (int 3)) Signs.Backslash (between (int 1) Signs.Bar (int 2)) ∷ [])) ∷
    []) ∷
    [])
    152
    (ends_done "1\n1\n2\n" 6 0 1) ∷
    -- procedure main(); every write(|&fail); write("z"); end
    case
    (main (every (write (before Signs.Bar (key "fail") ∷ [])) ∷ write (text "z" ∷ []) ∷ []) ∷ [])
    96
    (ends_done "z\n" 1 0 1) ∷
    -- procedure main(); a := 1; b := 2; a <-> b & &fail; write(a, b); end
    case
    (main
    (assign (name "a") (int 1) ∷
    assign (name "b") (int 2) ∷
    between (between (name "a") Signs.ReversibleSwap (name "b")) Signs.Ampersand (key "fail") ∷
    write (name "a" ∷ name "b" ∷ []) ∷
    []) ∷
    [])
    136
    (ends_done "12\n" 5 0 1) ∷
    -- procedure main(); every write((1 to 4) \ 2 + (10 | 20)); write((1 to 3) \ 0 | "none"); every
    --   write(|(1 \ 1) \ 3); every write(!"abc" \ 2); end
    case
    (main
    (every
    (write
    (between (between (to (int 1) (int 4)) Signs.Backslash (int 2))
    Signs.Plus
    (between (int 10) Signs.Bar (int 20)) ∷
    [])) ∷
    write
    (between (between (to (int 1) (int 3)) Signs.Backslash (int 0)) Signs.Bar (text "none") ∷ []) ∷
    every
    (write
    (between
    (before Signs.Bar (between (int 1) Signs.Backslash (int 1)))
    Signs.Backslash
    (int 3) ∷
    [])) ∷
    every (write (between (before Signs.Bang (text "abc")) Signs.Backslash (int 2) ∷ [])) ∷
    []) ∷
    [])
    332
    (ends_done "11\n21\n12\n22\nnone\n1\n1\n1\na\nb\n" 20 0 1) ∷
    -- procedure main(); i := 0; every write(|(3 > (i +:= 1))); every write(|(1 | &fail) \ 3); end
    case
    (main
    (assign (name "i") (int 0) ∷
    every
    (write
    (before Signs.Bar (between (int 3) Signs.Greater (update (name "i") Signs.Plus (int 1))) ∷
    [])) ∷
    every
    (write
    (between (before Signs.Bar (between (int 1) Signs.Bar (key "fail"))) Signs.Backslash (int 3) ∷
    [])) ∷
    []) ∷
    [])
    272
    (ends_done "1\n2\n1\n1\n1\n" 19 0 1) ∷
    -- procedure main(); L := [1, 2, 3]; every !L +:= 10; every writes(!L, " "); write(L[2], L[-1]);
    --   write(L[9] | "none"); s := "abc"; !s := "xy" & write(s); every (!s := "q") \ 2; write(s); end
    case
    (main
    (assign (name "L") (list (int 1 ∷ int 2 ∷ int 3 ∷ [])) ∷
    every (update (before Signs.Bang (name "L")) Signs.Plus (int 10)) ∷
    every (call (name "writes") (before Signs.Bang (name "L") ∷ text " " ∷ [])) ∷
    write
    (element (name "L") (int 2 ∷ []) ∷ element (name "L") (before Signs.Minus (int 1) ∷ []) ∷ []) ∷
    write (between (element (name "L") (int 9 ∷ [])) Signs.Bar (text "none") ∷ []) ∷
    assign (name "s") (text "abc") ∷
    between (assign (before Signs.Bang (name "s")) (text "xy"))
    Signs.Ampersand
    (write (name "s" ∷ [])) ∷
    every (between (assign (before Signs.Bang (name "s")) (text "q")) Signs.Backslash (int 2)) ∷
    write (name "s" ∷ []) ∷
    []) ∷
    [])
    404
    (ends_done "11 12 13 1213\nnone\nxybc\nqqbc\n" 34 12 5) ∷
    -- procedure main(); s := "abc"; s[2] <- "zz" & &fail; write(s); every s[1] <- "q" & write(s); end
    case
    (main
    (assign (name "s") (text "abc") ∷
    between
    (between (element (name "s") (int 2 ∷ [])) Signs.ReversibleAssign (text "zz"))
    Signs.Ampersand
    (key "fail") ∷
    write (name "s" ∷ []) ∷
    every
    (between
    (between (element (name "s") (int 1 ∷ [])) Signs.ReversibleAssign (text "q"))
    Signs.Ampersand
    (write (name "s" ∷ []))) ∷
    []) ∷
    [])
    176
    (ends_done "abc\nqbc\n" 9 13 1) ∷
    -- procedure upto3(a); local i; i := a; while i < 4 do {suspend i; i +:= 1}; end
    -- procedure main(); every write(upto3(1 to 3) \ 4); every write(upto3(2) + upto3(3)); end
    case
    (procedure_of "upto3" ("a" ∷ []) false (locals ("i" ∷ []) ∷ [])
    NoInitial
    (assign (name "i") (name "a") ∷
    while_do (between (name "i") Signs.Less (int 4))
    (block (suspend (name "i") ∷ update (name "i") Signs.Plus (int 1) ∷ [])) ∷
    []) ∷
    main
    (every
    (write (between (call (name "upto3") (to (int 1) (int 3) ∷ [])) Signs.Backslash (int 4) ∷ [])) ∷
    every
    (write
    (between (call (name "upto3") (int 2 ∷ [])) Signs.Plus (call (name "upto3") (int 3 ∷ [])) ∷
    [])) ∷
    []) ∷
    [])
    756
    (ends_done "1\n2\n3\n2\n5\n6\n" 60 0 1) ∷
    -- procedure p(); suspend 1 to 2 do write("d"); end
    -- procedure main(); every write(p()); end
    case
    (procedure "p" [] (suspend_do (to (int 1) (int 2)) (write (text "d" ∷ [])) ∷ []) ∷
    main (every (write (call (name "p") [] ∷ [])) ∷ []) ∷
    [])
    160
    (ends_done "1\nd\n2\nd\n" 10 0 1) ∷
    -- procedure p(); local x; x := "ab"; suspend x | x[1] | !x; x := 9; end
    -- global g
    -- procedure q(); suspend g; end
    -- procedure main(); every write(p()); every q() := 4 | 5; write(g); p() := 1; end
    case
    (procedure_of "p" [] false (locals ("x" ∷ []) ∷ []) NoInitial
    (assign (name "x") (text "ab") ∷
    suspend
    (between (name "x") Signs.Bar
    (between (element (name "x") (int 1 ∷ [])) Signs.Bar (before Signs.Bang (name "x")))) ∷
    assign (name "x") (int 9) ∷
    []) ∷
    globals ("g" ∷ []) ∷
    procedure "q" [] (suspend (name "g") ∷ []) ∷
    main
    (every (write (call (name "p") [] ∷ [])) ∷
    every (assign (call (name "q") []) (between (int 4) Signs.Bar (int 5))) ∷
    write (name "g" ∷ []) ∷
    assign (call (name "p") []) (int 1) ∷
    []) ∷
    [])
    300
    (ends_errored 111 "ab\na\na\nb\n5\n"
    "Run-time error 111\nvariable expected\noffending value: \"ab\"\n"
    23
    0
    1) ∷
    -- procedure p(n); if n = 0 then return "r"; every suspend n to 2; return 7; end
    -- procedure main(); every write(p(0 | 1)); end
    case
    (procedure "p" ("n" ∷ [])
    (when (between (name "n") Signs.Equal (int 0)) (return (text "r")) ∷
    every (suspend (to (name "n") (int 2))) ∷
    return (int 7) ∷
    []) ∷
    main (every (write (call (name "p") (between (int 0) Signs.Bar (int 1) ∷ []) ∷ [])) ∷ []) ∷
    [])
    206
    (ends_done "r\n1\n2\n7\n" 13 0 1) ∷
    -- procedure p(x); "xyz" ? {suspend x <- 2 to 3; suspend x}; fail; end
    -- procedure q(); return 2 < 1; end
    -- procedure main(); every write(p(7), " ", &pos); write(q() | "q failed"); every write((p(8) + p(9)) \
    --   3); end
    case
    (procedure "p" ("x" ∷ [])
    (between (text "xyz") Signs.Question
    (block
    (suspend (between (name "x") Signs.ReversibleAssign (to (int 2) (int 3))) ∷
    suspend (name "x") ∷
    [])) ∷
    fail ∷
    []) ∷
    procedure "q" [] (return (between (int 2) Signs.Less (int 1)) ∷ []) ∷
    main
    (every (write (call (name "p") (int 7 ∷ []) ∷ text " " ∷ key "pos" ∷ [])) ∷
    write (between (call (name "q") (Empty ∷ [])) Signs.Bar (text "q failed") ∷ []) ∷
    every
    (write
    (between
    (all_of
    (between (call (name "p") (int 8 ∷ [])) Signs.Plus (call (name "p") (int 9 ∷ [])) ∷ []))
    Signs.Backslash
    (int 3) ∷
    [])) ∷
    []) ∷
    [])
    700
    (ends_done "2 1\n3 1\n7 1\nq failed\n4\n5\n11\n" 36 0 1) ∷
    []
