-- Programs without generators: operations, calls, conditions, declarations.
use Rattle.std.specs.Prelude.{List, [], ◌∷◌, true, false, codes}
use Rattle.icn_tree.specs.declared.token.Operator.TheVariants as Signs
use Rattle.icn_tree.specs.declared.tree.SectionKind.TheVariants.{Between, Forward, Backward}
use Rattle.icn_tree.specs.Trees.{Empty, NoInitial}
use Rattle.icn_value.specs.Limited.{default_limits}
use Rattle.cases_programs.specs.Words.{int, text, name, key, before, between, assign, update, call, write, element, section, field, list, to, all_of, block, not, when, either, select, on, otherwise, every, every_do, return, globals, kind, locals, statics, first, procedure_of, procedure, main}
use Rattle.cases_programs.specs.Cases.{ProgramCase, case, run_of, ends_done, ends_errored}

-- programs without generators
abbrev pub plain : List ProgramCase
plain =
    -- procedure main(); write("hi"); end
    case (main (write (text "hi" ∷ []) ∷ []) ∷ []) 76 (ends_done "hi\n" 1 0 1) ∷
    -- procedure main(); end
    case (main [] ∷ []) 62 (ends_done "" 0 0 1) ∷
    -- procedure main(); x := 1; -x; write(x); end
    case
    (main (assign (name "x") (int 1) ∷ before Signs.Minus (name "x") ∷ write (name "x" ∷ []) ∷ []) ∷ [])
    102
    (ends_done "1\n" 3 0 1) ∷
    -- procedure main(); x := 1; write(x + (x := 5)); end
    case
    (main
    (assign (name "x") (int 1) ∷
    write (between (name "x") Signs.Plus (assign (name "x") (int 5)) ∷ []) ∷
    []) ∷
    [])
    112
    (ends_done "10\n" 4 0 1) ∷
    -- global g
    -- procedure main(); g := 7; p(); end
    -- and in another file
    -- procedure p(); write(g); end
    run_of
    ((globals ("g" ∷ []) ∷ main (assign (name "g") (int 7) ∷ call (name "p") [] ∷ []) ∷ []) ∷
    (procedure "p" [] (write (name "g" ∷ []) ∷ []) ∷ []) ∷
    [])
    []
    default_limits
    []
    102
    (ends_done "7\n" 3 0 1) ∷
    -- procedure main(); a := 1; b := 2; a :=: b; write(a, b); end
    case
    (main
    (assign (name "a") (int 1) ∷
    assign (name "b") (int 2) ∷
    between (name "a") Signs.Swap (name "b") ∷
    write (name "a" ∷ name "b" ∷ []) ∷
    []) ∷
    [])
    126
    (ends_done "21\n" 4 0 1) ∷
    -- procedure main(); write(2(10, 20, 30)); end
    case
    (main (write (call (int 2) (int 10 ∷ int 20 ∷ int 30 ∷ []) ∷ []) ∷ []) ∷ [])
    96
    (ends_done "20\n" 2 0 1) ∷
    -- procedure main(); write(-1(10, 20)); end
    case
    (main (write (before Signs.Minus (call (int 1) (int 10 ∷ int 20 ∷ [])) ∷ []) ∷ []) ∷ [])
    96
    (ends_done "-10\n" 3 0 1) ∷
    -- procedure main(); write("a" == "a", not 1, "z"); end
    case
    (main (write (between (text "a") Signs.EqualEqual (text "a") ∷ not (int 1) ∷ text "z" ∷ []) ∷ []) ∷
    [])
    94
    (ends_done "" 1 0 1) ∷
    -- procedure main(); s := "abc"; s[1] :=: s[2:4]; write(s); end
    case
    (main
    (assign (name "s") (text "abc") ∷
    between (element (name "s") (int 1 ∷ [])) Signs.Swap
    (section Between (name "s") (int 2) (int 4)) ∷
    write (name "s" ∷ []) ∷
    []) ∷
    [])
    132
    (ends_done "bca\n" 5 7 1) ∷
    -- procedure main(); write({1; 2; 3}); write((1, 2, 3)); write(); write({}, "x"); 1 & &fail &
    --   write("no"); end
    case
    (main
    (write (block (int 1 ∷ int 2 ∷ int 3 ∷ []) ∷ []) ∷
    write (all_of (int 1 ∷ int 2 ∷ int 3 ∷ []) ∷ []) ∷
    write (Empty ∷ []) ∷
    write (block (Empty ∷ []) ∷ text "x" ∷ []) ∷
    between (between (int 1) Signs.Ampersand (key "fail")) Signs.Ampersand (write (text "no" ∷ [])) ∷
    []) ∷
    [])
    174
    (ends_done "3\n3\n\nx\n" 4 0 1) ∷
    -- procedure main(); write(if 1 < 2 then "a" else "b", if 2 < 1 then "a" else "b"); write(if 2 < 1 then
    --   3); every write(if 1 then 1 to 2 else 3); end
    case
    (main
    (write
    (either (between (int 1) Signs.Less (int 2)) (text "a") (text "b") ∷
    either (between (int 2) Signs.Less (int 1)) (text "a") (text "b") ∷
    []) ∷
    write (when (between (int 2) Signs.Less (int 1)) (int 3) ∷ []) ∷
    every (write (either (int 1) (to (int 1) (int 2)) (int 3) ∷ [])) ∷
    []) ∷
    [])
    194
    (ends_done "ab\n1\n2\n" 9 0 1) ∷
    -- procedure main(); every x := 1 to 4 do write(case x of { default: "d"; 1 | 3: "odd"; "2": "no"; 2: 1
    --   to 3 }); write(case 5 of { 1: 2 }); end
    case
    (main
    (every_do (assign (name "x") (to (int 1) (int 4)))
    (write
    (select (name "x")
    (otherwise (text "d") ∷
    on (between (int 1) Signs.Bar (int 3)) (text "odd") ∷
    on (text "2") (text "no") ∷
    on (int 2) (to (int 1) (int 3)) ∷
    []) ∷
    [])) ∷
    write (select (int 5) (on (int 1) (int 2) ∷ []) ∷ []) ∷
    []) ∷
    [])
    344
    (ends_done "odd\n1\nodd\nd\n" 26 0 1) ∷
    -- procedure main(); case 2 of { 1: write("a"); default: write("d"); 2 | 3: write("b") }; end
    case
    (main
    (select (int 2)
    (on (int 1) (write (text "a" ∷ [])) ∷
    otherwise (write (text "d" ∷ [])) ∷
    on (between (int 2) Signs.Bar (int 3)) (write (text "b" ∷ [])) ∷
    []) ∷
    []) ∷
    [])
    102
    (ends_done "b\n" 3 0 1) ∷
    -- procedure main(); write(not 1 | "one"); write(not &fail, "null"); every write(not (1 to 2) | 3); end
    case
    (main
    (write (between (not (int 1)) Signs.Bar (text "one") ∷ []) ∷
    write (not (key "fail") ∷ text "null" ∷ []) ∷
    every (write (between (not (to (int 1) (int 2))) Signs.Bar (int 3) ∷ [])) ∷
    []) ∷
    [])
    162
    (ends_done "one\nnull\n3\n" 4 0 1) ∷
    -- global write2, x
    -- record r(a)
    -- procedure p(); local writes; writes := write; writes(x, y, "p"); end
    -- procedure main(); write2 := write; write2("w"); x := 3; y := 4; p(); write := 5; write2(write); r :=
    --   6; write2(r); end
    case
    (globals ("write2" ∷ "x" ∷ []) ∷
    kind "r" ("a" ∷ []) ∷
    procedure_of "p" [] false (locals ("writes" ∷ []) ∷ []) NoInitial
    (assign (name "writes") (name "write") ∷
    call (name "writes") (name "x" ∷ name "y" ∷ text "p" ∷ []) ∷
    []) ∷
    main
    (assign (name "write2") (name "write") ∷
    call (name "write2") (text "w" ∷ []) ∷
    assign (name "x") (int 3) ∷
    assign (name "y") (int 4) ∷
    call (name "p") [] ∷
    assign (name "write") (int 5) ∷
    call (name "write2") (name "write" ∷ []) ∷
    assign (name "r") (int 6) ∷
    call (name "write2") (name "r" ∷ []) ∷
    []) ∷
    [])
    232
    (ends_done "w\n3p\n5\n6\n" 11 0 1) ∷
    -- procedure main(); writes(&digits, &lcase, &ucase, &letters, *&ascii, *&cset, &null, &random);
    --   write(not (&errout === &output), &input === &input & 1); end
    case
    (main
    (call (name "writes")
    (key "digits" ∷
    key "lcase" ∷
    key "ucase" ∷
    key "letters" ∷
    before Signs.Star (key "ascii") ∷
    before Signs.Star (key "cset") ∷
    key "null" ∷
    key "random" ∷
    []) ∷
    write
    (not (between (key "errout") Signs.EqualEqualEqual (key "output")) ∷
    between (between (key "input") Signs.EqualEqualEqual (key "input")) Signs.Ampersand (int 1) ∷
    []) ∷
    []) ∷
    [])
    174
    (ends_done
    "0123456789abcdefghijklmnopqrstuvwxyzABCDEFGHIJKLMNOPQRSTUVWXYZABCDEFGHIJKLMNOPQRSTUVWXYZabcdefghijklmnopqrstuvwxyz12825601\n"
    6
    0
    1) ∷
    -- procedure main(); &subject := "xyz"; &pos := 2; write(&pos, &subject); write(&pos := 9 | "no");
    --   write(&pos := -1); write(&pos); end
    case
    (main
    (assign (key "subject") (text "xyz") ∷
    assign (key "pos") (int 2) ∷
    write (key "pos" ∷ key "subject" ∷ []) ∷
    write (assign (key "pos") (between (int 9) Signs.Bar (text "no")) ∷ []) ∷
    write (assign (key "pos") (before Signs.Minus (int 1)) ∷ []) ∷
    write (key "pos" ∷ []) ∷
    []) ∷
    [])
    140
    (ends_errored 101 "2xyz\n"
    "Run-time error 101\ninteger expected or out of range\noffending value: \"no\"\n"
    5
    0
    1) ∷
    -- procedure main(); s := "abcdef"; write(s[2:4], s[2+:3], s[-1-:2], s[2, 1]); L := [[1, 2], [3]];
    --   write(L[1, 2]); end
    case
    (main
    (assign (name "s") (text "abcdef") ∷
    write
    (section Between (name "s") (int 2) (int 4) ∷
    section Forward (name "s") (int 2) (int 3) ∷
    section Backward (name "s") (before Signs.Minus (int 1)) (int 2) ∷
    element (name "s") (int 2 ∷ int 1 ∷ []) ∷
    []) ∷
    assign (name "L") (list (list (int 1 ∷ int 2 ∷ []) ∷ list (int 3 ∷ []) ∷ [])) ∷
    write (element (name "L") (int 1 ∷ int 2 ∷ []) ∷ []) ∷
    []) ∷
    [])
    252
    (ends_done "bcbcddeb\n2\n" 15 0 9) ∷
    -- record p(x, y)
    -- procedure main(); r := p(1); r.y := r.x + 4; write(r.x, r.y, *r, image(r)); every write(p ! [7, 8,
    --   9].x | 2); end
    case
    (kind "p" ("x" ∷ "y" ∷ []) ∷
    main
    (assign (name "r") (call (name "p") (int 1 ∷ [])) ∷
    assign (field (name "r") "y") (between (field (name "r") "x") Signs.Plus (int 4)) ∷
    write
    (field (name "r") "x" ∷
    field (name "r") "y" ∷
    before Signs.Star (name "r") ∷
    call (name "image") (name "r" ∷ []) ∷
    []) ∷
    every
    (write
    (between
    (between (name "p") Signs.Bang (field (list (int 7 ∷ int 8 ∷ int 9 ∷ [])) "x"))
    Signs.Bar
    (int 2) ∷
    [])) ∷
    []) ∷
    [])
    216
    (ends_errored 107 "152record p_1(2)\n"
    "Run-time error 107\nrecord expected\noffending value: list_2(3)\n"
    13
    13
    8) ∷
    -- procedure p(); local k; static n, m; initial {n := 5; m := "m"}; k := n; n +:= 1; return k; end
    -- procedure q(); static n; /n; n := 1; return n; end
    -- procedure main(); write(p(), p(), p()); write(q()); end
    case
    (procedure_of "p" [] false
    (locals ("k" ∷ []) ∷ statics ("n" ∷ "m" ∷ []) ∷ [])
    (first (block (assign (name "n") (int 5) ∷ assign (name "m") (text "m") ∷ [])))
    (assign (name "k") (name "n") ∷ update (name "n") Signs.Plus (int 1) ∷ return (name "k") ∷ []) ∷
    procedure_of "q" [] false (statics ("n" ∷ []) ∷ []) NoInitial
    (before Signs.Slash (name "n") ∷ assign (name "n") (int 1) ∷ return (name "n") ∷ []) ∷
    main
    (write (call (name "p") [] ∷ call (name "p") [] ∷ call (name "p") [] ∷ []) ∷
    write (call (name "q") [] ∷ []) ∷
    []) ∷
    [])
    310
    (ends_done "567\n1\n" 19 0 1) ∷
    -- procedure p(a, b[]); write(a, "-", *b, b[1] | "none"); end
    -- procedure main(); p(1, 2, 3); p(1); p(); p ! ["x", "y"]; end
    case
    (procedure_of "p" ("a" ∷ "b" ∷ []) true [] NoInitial
    (write
    (name "a" ∷
    text "-" ∷
    before Signs.Star (name "b") ∷
    between (element (name "b") (int 1 ∷ [])) Signs.Bar (text "none") ∷
    []) ∷
    []) ∷
    main
    (call (name "p") (int 1 ∷ int 2 ∷ int 3 ∷ []) ∷
    call (name "p") (int 1 ∷ []) ∷
    call (name "p") [] ∷
    between (name "p") Signs.Bang (list (text "x" ∷ text "y" ∷ [])) ∷
    []) ∷
    [])
    336
    (ends_done "1-22\n1-0none\n-0none\nx-1y\n" 17 0 11) ∷
    -- procedure main(); write("2"(7, 8)); write(-1(7, 8), 1(9)); write(3(7, 8)); x := 1; 1(x, 2) := 6;
    --   write(x); every write((1 | 2)(5, 6)); end
    case
    (main
    (write (call (text "2") (int 7 ∷ int 8 ∷ []) ∷ []) ∷
    write (before Signs.Minus (call (int 1) (int 7 ∷ int 8 ∷ [])) ∷ call (int 1) (int 9 ∷ []) ∷ []) ∷
    write (call (int 3) (int 7 ∷ int 8 ∷ []) ∷ []) ∷
    assign (name "x") (int 1) ∷
    assign (call (int 1) (name "x" ∷ int 2 ∷ [])) (int 6) ∷
    write (name "x" ∷ []) ∷
    every (write (call (between (int 1) Signs.Bar (int 2)) (int 5 ∷ int 6 ∷ []) ∷ [])) ∷
    []) ∷
    [])
    290
    (ends_done "8\n-79\n6\n5\n6\n" 15 0 1) ∷
    -- procedure f(n); if n < 2 then return 1; return n * f(n - 1); end
    -- procedure main(); write(f(6)); end
    case
    (procedure "f" ("n" ∷ [])
    (when (between (name "n") Signs.Less (int 2)) (return (int 1)) ∷
    return
    (between (name "n") Signs.Star
    (call (name "f") (between (name "n") Signs.Minus (int 1) ∷ []))) ∷
    []) ∷
    main (write (call (name "f") (int 6 ∷ []) ∷ []) ∷ []) ∷
    [])
    386
    (ends_done "720\n" 23 0 1) ∷
    -- procedure main(a); write(*a, a[1], a[-1]); end
    run_of
    ((procedure "main" ("a" ∷ [])
    (write
    (before Signs.Star (name "a") ∷
    element (name "a") (int 1 ∷ []) ∷
    element (name "a") (before Signs.Minus (int 1) ∷ []) ∷
    []) ∷
    []) ∷
    []) ∷
    [])
    (codes "ab" ∷ codes "cde" ∷ [])
    default_limits
    []
    116
    (ends_done "2abcde\n" 5 5 3) ∷
    []
