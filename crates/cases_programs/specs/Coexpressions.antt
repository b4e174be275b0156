-- Co-expressions: made, refreshed, activated, in a ring, and exhausted.
use Rattle.std.specs.Prelude.{List, [], ◌∷◌, false}
use Rattle.icn_tree.specs.declared.token.Operator.TheVariants as Signs
use Rattle.icn_tree.specs.Trees.{Empty, NoInitial}
use Rattle.cases_programs.specs.Words.{int, text, name, key, before, between, assign, update, call, write, cocall, element, to, block, when, while, every_do, break, next, create, return, globals, locals, procedure_of, procedure, main}
use Rattle.cases_programs.specs.Cases.{ProgramCase, case, under, ends_done, at_bound, most_turns}

-- programs that create and activate co-expressions
abbrev pub coexpressions : List ProgramCase
coexpressions =
    -- procedure main(); c := (create 1 to 2); write(@c); write(@c); write(@c | "end"); write(*c); end
    case
    (main
    (assign (name "c") (create (to (int 1) (int 2))) ∷
    write (before Signs.At (name "c") ∷ []) ∷
    write (before Signs.At (name "c") ∷ []) ∷
    write (between (before Signs.At (name "c")) Signs.Bar (text "end") ∷ []) ∷
    write (before Signs.Star (name "c") ∷ []) ∷
    []) ∷
    [])
    210
    (ends_done "1\n2\nend\n2\n" 16 0 3) ∷
    -- procedure main(); c := (create 1 to 3); @c; d := ^c; write(@d, @c); end
    case
    (main
    (assign (name "c") (create (to (int 1) (int 3))) ∷
    before Signs.At (name "c") ∷
    assign (name "d") (before Signs.Caret (name "c")) ∷
    write (before Signs.At (name "d") ∷ before Signs.At (name "c") ∷ []) ∷
    []) ∷
    [])
    196
    (ends_done "12\n" 14 0 7) ∷
    -- procedure main(); c := (create write("got ", "a" @ &source)); write(@c); "b" @ c; end
    case
    (main
    (assign (name "c")
    (create (write (text "got " ∷ between (text "a") Signs.At (key "source") ∷ []))) ∷
    write (before Signs.At (name "c") ∷ []) ∷
    between (text "b") Signs.At (name "c") ∷
    []) ∷
    [])
    146
    (ends_done "a\ngot b\n" 8 0 3) ∷
    -- procedure p(); return &level; end
    -- procedure main(); write(&level, p()); c := (create p()); write(@c); end
    case
    (procedure "p" [] (return (key "level") ∷ []) ∷
    main
    (write (key "level" ∷ call (name "p") [] ∷ []) ∷
    assign (name "c") (create (call (name "p") [])) ∷
    write (before Signs.At (name "c") ∷ []) ∷
    []) ∷
    [])
    152
    (ends_done "12\n2\n" 8 0 3) ∷
    -- procedure main(); c := (create |(1 to 2)); every 1 to 5 do writes(@c, " "); write(*c); end
    case
    (main
    (assign (name "c") (create (before Signs.Bar (to (int 1) (int 2)))) ∷
    every_do (to (int 1) (int 5))
    (call (name "writes") (before Signs.At (name "c") ∷ text " " ∷ [])) ∷
    write (before Signs.Star (name "c") ∷ []) ∷
    []) ∷
    [])
    390
    (ends_done "1 2 1 2 1 5\n" 34 0 3) ∷
    -- global a, b
    -- procedure main(); a := (create {write("a1"); @b; write("a2"); "ra"}); b := (create {write("b1"); @a;
    --   write("b2")}); write(@a, "m"); write(@b | "f"); end
    under (most_turns 60)
    (globals ("a" ∷ "b" ∷ []) ∷
    main
    (assign (name "a")
    (create
    (block
    (write (text "a1" ∷ []) ∷
    before Signs.At (name "b") ∷
    write (text "a2" ∷ []) ∷
    text "ra" ∷
    []))) ∷
    assign (name "b")
    (create
    (block (write (text "b1" ∷ []) ∷ before Signs.At (name "a") ∷ write (text "b2" ∷ []) ∷ []))) ∷
    write (before Signs.At (name "a") ∷ text "m" ∷ []) ∷
    write (between (before Signs.At (name "b")) Signs.Bar (text "f") ∷ []) ∷
    []) ∷
    [])
    346
    (at_bound "a1\nb1\na2\nb2\n" 60 0 3) ∷
    -- global a, b
    -- procedure main(); a := (create {@b; &fail}); b := (create @a | 3); write(@a | "f1"); write(@a |
    --   "f2"); write(@b | "f3"); write("end"); end
    under (most_turns 60)
    (globals ("a" ∷ "b" ∷ []) ∷
    main
    (assign (name "a") (create (block (before Signs.At (name "b") ∷ key "fail" ∷ []))) ∷
    assign (name "b") (create (between (before Signs.At (name "a")) Signs.Bar (int 3))) ∷
    write (between (before Signs.At (name "a")) Signs.Bar (text "f1") ∷ []) ∷
    write (between (before Signs.At (name "a")) Signs.Bar (text "f2") ∷ []) ∷
    write (between (before Signs.At (name "b")) Signs.Bar (text "f3") ∷ []) ∷
    write (text "end" ∷ []) ∷
    []) ∷
    [])
    282
    (at_bound "" 60 0 3) ∷
    -- global a, b
    -- procedure main(); a := (create @b & 7); b := (create @a & 8); write(@a); write(@b); write(@a | "x");
    --   write(@b | "y"); end
    under (most_turns 60)
    (globals ("a" ∷ "b" ∷ []) ∷
    main
    (assign (name "a") (create (between (before Signs.At (name "b")) Signs.Ampersand (int 7))) ∷
    assign (name "b") (create (between (before Signs.At (name "a")) Signs.Ampersand (int 8))) ∷
    write (before Signs.At (name "a") ∷ []) ∷
    write (before Signs.At (name "b") ∷ []) ∷
    write (between (before Signs.At (name "a")) Signs.Bar (text "x") ∷ []) ∷
    write (between (before Signs.At (name "b")) Signs.Bar (text "y") ∷ []) ∷
    []) ∷
    [])
    280
    (at_bound "" 60 0 3) ∷
    -- procedure main(); c := (create {x := 5 @ &current; x}); write(@c); write(image(&main),
    --   image(&current), image(&source)); end
    case
    (main
    (assign (name "c")
    (create
    (block (assign (name "x") (between (int 5) Signs.At (key "current")) ∷ name "x" ∷ []))) ∷
    write (before Signs.At (name "c") ∷ []) ∷
    write
    (call (name "image") (key "main" ∷ []) ∷
    call (name "image") (key "current" ∷ []) ∷
    call (name "image") (key "source" ∷ []) ∷
    []) ∷
    []) ∷
    [])
    192
    (ends_done "5\nco-expression_1(0)co-expression_1(0)co-expression_1(0)\n" 11 54 4) ∷
    -- procedure p(n); local c; c := (create {n +:= 1; n}); n := 100; return c; end
    -- procedure main(); c := p(3); write(@c); c := ^c; write(@c, @p(1)); end
    case
    (procedure_of "p" ("n" ∷ []) false (locals ("c" ∷ []) ∷ []) NoInitial
    (assign (name "c") (create (block (update (name "n") Signs.Plus (int 1) ∷ name "n" ∷ []))) ∷
    assign (name "n") (int 100) ∷
    return (name "c") ∷
    []) ∷
    main
    (assign (name "c") (call (name "p") (int 3 ∷ [])) ∷
    write (before Signs.At (name "c") ∷ []) ∷
    assign (name "c") (before Signs.Caret (name "c")) ∷
    write (before Signs.At (name "c") ∷ before Signs.At (call (name "p") (int 1 ∷ [])) ∷ []) ∷
    []) ∷
    [])
    340
    (ends_done "4\n42\n" 25 0 10) ∷
    -- global c
    -- procedure main(); every i := 1 to 3 do {c := (create {every j := i | 9 do {if j < 2 then next; if j
    --   > 8 then break; suspendless(j)}; i}); write(@c, *c, @c | "f")}; end
    -- procedure suspendless(x); write("s", x); end
    under (most_turns 90)
    (globals ("c" ∷ []) ∷
    main
    (every_do (assign (name "i") (to (int 1) (int 3)))
    (block
    (assign (name "c")
    (create
    (block
    (every_do
    (assign (name "j") (between (name "i") Signs.Bar (int 9)))
    (block
    (when (between (name "j") Signs.Less (int 2)) next ∷
    when (between (name "j") Signs.Greater (int 8)) (break Empty) ∷
    call (name "suspendless") (name "j" ∷ []) ∷
    [])) ∷
    name "i" ∷
    []))) ∷
    write
    (before Signs.At (name "c") ∷
    before Signs.Star (name "c") ∷
    between (before Signs.At (name "c")) Signs.Bar (text "f") ∷
    []) ∷
    [])) ∷
    []) ∷
    procedure "suspendless" ("x" ∷ []) (write (text "s" ∷ name "x" ∷ []) ∷ []) ∷
    [])
    790
    (ends_done "11f\ns2\n21f\ns3\n31f\n" 52 0 10) ∷
    -- procedure main(); x := (create 1 to 3); y := "v"; y @:= x; write(y); end
    case
    (main
    (assign (name "x") (create (to (int 1) (int 3))) ∷
    assign (name "y") (text "v") ∷
    update (name "y") Signs.At (name "x") ∷
    write (name "y" ∷ []) ∷
    []) ∷
    [])
    144
    (ends_done "1\n" 8 0 4) ∷
    -- procedure p(L); while write(@L[1], @L[2]); end
    -- procedure main(); p{1 to 3, "a" | "b"}; end
    case
    (procedure "p" ("L" ∷ [])
    (while
    (write
    (before Signs.At (element (name "L") (int 1 ∷ [])) ∷
    before Signs.At (element (name "L") (int 2 ∷ [])) ∷
    [])) ∷
    []) ∷
    main (cocall (name "p") (to (int 1) (int 3) ∷ between (text "a") Signs.Bar (text "b") ∷ []) ∷ []) ∷
    [])
    320
    (ends_done "1a\n2b\n" 29 0 6) ∷
    -- procedure main(); x := 1; c := (create x); x := 2; write(@c); d := ^c; write(@d); end
    case
    (main
    (assign (name "x") (int 1) ∷
    assign (name "c") (create (name "x")) ∷
    assign (name "x") (int 2) ∷
    write (before Signs.At (name "c") ∷ []) ∷
    assign (name "d") (before Signs.Caret (name "c")) ∷
    write (before Signs.At (name "d") ∷ []) ∷
    []) ∷
    [])
    186
    (ends_done "1\n1\n" 12 0 9) ∷
    -- procedure main(); write(image(create 1)); end
    case
    (main (write (call (name "image") (create (int 1) ∷ []) ∷ []) ∷ []) ∷ [])
    86
    (ends_done "co-expression_2(0)\n" 3 18 2) ∷
    []
