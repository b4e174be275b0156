-- Loops, and the ways out of them.
use Rattle.std.specs.Prelude.{List, [], ◌∷◌}
use Rattle.icn_tree.specs.declared.token.Operator.TheVariants as Signs
use Rattle.icn_tree.specs.Trees.{Empty}
use Rattle.cases_programs.specs.Words.{int, text, name, between, assign, update, write, to, block, when, while, while_do, until, until_do, every, every_do, repeat, break, next, main}
use Rattle.cases_programs.specs.Cases.{ProgramCase, case, under, ends_done, at_bound, most_turns}

-- programs with loops
abbrev pub loops : List ProgramCase
loops =
    -- procedure main(); repeat {}; end
    under (most_turns 10) (main (repeat (block (Empty ∷ [])) ∷ []) ∷ []) 190 (at_bound "" 10 0 1) ∷
    -- procedure main(); i := 0; while i < 6 do {i +:= 1; if i = 2 then next; if i = 5 then break;
    --   write(i)}; write("e", i); end
    case
    (main
    (assign (name "i") (int 0) ∷
    while_do (between (name "i") Signs.Less (int 6))
    (block
    (update (name "i") Signs.Plus (int 1) ∷
    when (between (name "i") Signs.Equal (int 2)) next ∷
    when (between (name "i") Signs.Equal (int 5)) (break Empty) ∷
    write (name "i" ∷ []) ∷
    [])) ∷
    write (text "e" ∷ name "i" ∷ []) ∷
    []) ∷
    [])
    526
    (ends_done "1\n3\n4\ne5\n" 33 0 1) ∷
    -- procedure main(); i := 0; until (i +:= 1) > 3 do write(i); write(until i > 0); end
    case
    (main
    (assign (name "i") (int 0) ∷
    until_do
    (between (update (name "i") Signs.Plus (int 1)) Signs.Greater (int 3))
    (write (name "i" ∷ [])) ∷
    write (until (between (name "i") Signs.Greater (int 0)) ∷ []) ∷
    []) ∷
    [])
    272
    (ends_done "1\n2\n3\n" 20 0 1) ∷
    -- procedure main(); i := 0; write(repeat {i +:= 1; if i > 3 then break i * 2}); end
    case
    (main
    (assign (name "i") (int 0) ∷
    write
    (repeat
    (block
    (update (name "i") Signs.Plus (int 1) ∷
    when (between (name "i") Signs.Greater (int 3))
    (break (between (name "i") Signs.Star (int 2))) ∷
    [])) ∷
    []) ∷
    []) ∷
    [])
    274
    (ends_done "8\n" 18 0 1) ∷
    -- procedure main(); every i := 1 to 4 do {if i = 2 then next; if i = 4 then break; write(i)};
    --   write((every 1 to 2) | "no"); write(i); end
    case
    (main
    (every_do (assign (name "i") (to (int 1) (int 4)))
    (block
    (when (between (name "i") Signs.Equal (int 2)) next ∷
    when (between (name "i") Signs.Equal (int 4)) (break Empty) ∷
    write (name "i" ∷ []) ∷
    [])) ∷
    write (between (every (to (int 1) (int 2))) Signs.Bar (text "no") ∷ []) ∷
    write (name "i" ∷ []) ∷
    []) ∷
    [])
    366
    (ends_done "1\n3\nno\n4\n" 22 0 1) ∷
    -- procedure main(); write(every i := 1 to 3 do {while 1 do break break i; write("no")}); end
    case
    (main
    (write
    (every_do (assign (name "i") (to (int 1) (int 3)))
    (block (while_do (int 1) (break (break (name "i"))) ∷ write (text "no" ∷ []) ∷ [])) ∷
    []) ∷
    []) ∷
    [])
    124
    (ends_done "1\n" 3 0 1) ∷
    -- procedure main(); i := 0; while (i +:= 1) < 4; until (i -:= 1) < 0; every i := 1 to 3; write(i); end
    case
    (main
    (assign (name "i") (int 0) ∷
    while (between (update (name "i") Signs.Plus (int 1)) Signs.Less (int 4)) ∷
    until (between (update (name "i") Signs.Minus (int 1)) Signs.Less (int 0)) ∷
    every (assign (name "i") (to (int 1) (int 3))) ∷
    write (name "i" ∷ []) ∷
    []) ∷
    [])
    416
    (ends_done "3\n" 43 0 1) ∷
    -- procedure main(); every write(1 to 5); end
    under (most_turns 6)
    (main (every (write (to (int 1) (int 5) ∷ [])) ∷ []) ∷ [])
    122
    (at_bound "1\n2\n3\n" 6 0 1) ∷
    []
