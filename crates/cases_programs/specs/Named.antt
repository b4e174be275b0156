-- Calls by name: what a text names, and procedures that nothing needs, which none names.
use Rattle.std.specs.Prelude.{List, [], ◌∷◌}
use Rattle.icn_tree.specs.declared.token.Operator.TheVariants as Signs
use Rattle.cases_programs.specs.Words.{int, text, name, before, between, assign, call, write, list, return, invocable, kind, procedure, main}
use Rattle.cases_programs.specs.Cases.{ProgramCase, case, ends_done, ends_errored}

-- programs that call by name
abbrev pub named_calls : List ProgramCase
named_calls =
    -- procedure main(); write("abs"(-3)); write(args(write), args(main))
    -- p := proc("nosuch") | "no"; write(p); end
    case
    (main
    (write (call (text "abs") (before Signs.Minus (int 3) ∷ []) ∷ []) ∷
    write (call (name "args") (name "write" ∷ []) ∷ call (name "args") (name "main" ∷ []) ∷ []) ∷
    assign (name "p") (between (call (name "proc") (text "nosuch" ∷ [])) Signs.Bar (text "no")) ∷
    write (name "p" ∷ []) ∷
    []) ∷
    [])
    400
    (ends_done "3\n-10\nno\n" 9 0 1) ∷
    -- invocable "q"; procedure q(); write("q"); end; procedure r(); write("r"); end
    -- procedure main(); "q"(); "r"(); end
    case
    (invocable ("q" ∷ []) ∷
    procedure "q" [] (write (text "q" ∷ []) ∷ []) ∷
    procedure "r" [] (write (text "r" ∷ []) ∷ []) ∷
    main (call (text "q") [] ∷ call (text "r") [] ∷ []) ∷
    [])
    300
    (ends_errored 106 "q\n"
    "Run-time error 106\nprocedure or integer expected\noffending value: \"r\"\n" 3 0 1) ∷
    -- procedure abs(x); return "own"; end; procedure main(); write("abs"(-3)); end
    case
    (procedure "abs" ("x" ∷ []) (return (text "own") ∷ []) ∷
    main (write (call (text "abs") (before Signs.Minus (int 3) ∷ []) ∷ []) ∷ []) ∷
    [])
    300
    (ends_done "3\n" 3 0 1) ∷
    -- the same behind invocable "abs"
    case
    (invocable ("abs" ∷ []) ∷
    procedure "abs" ("x" ∷ []) (return (text "own") ∷ []) ∷
    main (write (call (text "abs") (before Signs.Minus (int 3) ∷ []) ∷ []) ∷ []) ∷
    [])
    300
    (ends_done "own\n" 3 0 1) ∷
    -- invocable "all"; record point(x, y); procedure f(a, b); return a + b; end
    -- procedure main(); write("f" ! [1, 2]); write(args(proc("point"))); end
    case
    (invocable ("all" ∷ []) ∷
    kind "point" ("x" ∷ "y" ∷ []) ∷
    procedure "f" ("a" ∷ "b" ∷ []) (return (between (name "a") Signs.Plus (name "b")) ∷ []) ∷
    main
    (write (between (text "f") Signs.Bang (list (int 1 ∷ int 2 ∷ [])) ∷ []) ∷
    write (call (name "args") (call (name "proc") (text "point" ∷ []) ∷ []) ∷ []) ∷
    []) ∷
    [])
    500
    (ends_done "3\n2\n" 7 0 4) ∷
    []
