-- Scanning, and scans that are left by `break`, `next`, `return`, `fail` and `suspend`.
use Rattle.std.specs.Prelude.{List, [], ◌∷◌}
use Rattle.icn_tree.specs.declared.token.Operator.TheVariants as Signs
use Rattle.icn_tree.specs.Trees.{Empty}
use Rattle.cases_programs.specs.Words.{int, text, name, key, before, between, assign, update, call, write, to, all_of, block, when, while_do, every, every_do, break, next, return, fail, suspend, suspend_do, procedure, main}
use Rattle.cases_programs.specs.Cases.{ProgramCase, case, ends_done}

-- programs that scan
abbrev pub scans : List ProgramCase
scans =
    -- procedure main(); "abc" ? {tab(3) & find("z"); write(&pos)}; end
    case
    (main
    (between (text "abc") Signs.Question
    (block
    (between (call (name "tab") (int 3 ∷ [])) Signs.Ampersand
    (call (name "find") (text "z" ∷ [])) ∷
    write (key "pos" ∷ []) ∷
    [])) ∷
    []) ∷
    [])
    126
    (ends_done "1\n" 4 0 1) ∷
    -- procedure main(); "ab" ? {every write("xy" ? move(1 to 2)) do &pos := 3; write(&pos)}; end
    case
    (main
    (between (text "ab") Signs.Question
    (block
    (every_do
    (write
    (between (text "xy") Signs.Question (call (name "move") (to (int 1) (int 2) ∷ [])) ∷ []))
    (assign (key "pos") (int 3)) ∷
    write (key "pos" ∷ []) ∷
    [])) ∷
    []) ∷
    [])
    204
    (ends_done "x\nxy\n3\n" 12 0 1) ∷
    -- procedure p(); "xyz" ? (suspend tab(2 | 3)); end
    -- procedure main(); "ab" ? {every write(p(), &pos); write(&subject)}; end
    case
    (procedure "p" []
    (between (text "xyz") Signs.Question
    (suspend (call (name "tab") (between (int 2) Signs.Bar (int 3) ∷ []))) ∷
    []) ∷
    main
    (between (text "ab") Signs.Question
    (block
    (every (write (call (name "p") [] ∷ key "pos" ∷ [])) ∷ write (key "subject" ∷ []) ∷ [])) ∷
    []) ∷
    [])
    184
    (ends_done "x1\nxy1\nab\n" 10 0 1) ∷
    -- procedure main(); "ab" ? {while 1 do "xyz" ? {move(1); break}; write(&subject, &pos)}; end
    case
    (main
    (between (text "ab") Signs.Question
    (block
    (while_do (int 1)
    (between (text "xyz") Signs.Question
    (block (call (name "move") (int 1 ∷ []) ∷ break Empty ∷ []))) ∷
    write (key "subject" ∷ key "pos" ∷ []) ∷
    [])) ∷
    []) ∷
    [])
    140
    (ends_done "ab1\n" 2 0 1) ∷
    -- procedure main(); x := "abc"; x ?:= {move(1); tab(0)}; write(x); x &:= 5; write(x); end
    case
    (main
    (assign (name "x") (text "abc") ∷
    update (name "x") Signs.Question
    (block (call (name "move") (int 1 ∷ []) ∷ call (name "tab") (int 0 ∷ []) ∷ [])) ∷
    write (name "x" ∷ []) ∷
    update (name "x") Signs.Ampersand (int 5) ∷
    write (name "x" ∷ []) ∷
    []) ∷
    [])
    172
    (ends_done "bc\n5\n" 7 0 1) ∷
    -- procedure main(); "abcd" ? {move(1); "xy" ? {move(1); write(&subject, &pos)}; write(&subject, &pos);
    --   every write("pq" ? move(1 | 2))}; end
    case
    (main
    (between (text "abcd") Signs.Question
    (block
    (call (name "move") (int 1 ∷ []) ∷
    between (text "xy") Signs.Question
    (block (call (name "move") (int 1 ∷ []) ∷ write (key "subject" ∷ key "pos" ∷ []) ∷ [])) ∷
    write (key "subject" ∷ key "pos" ∷ []) ∷
    every
    (write
    (between (text "pq") Signs.Question
    (call (name "move") (between (int 1) Signs.Bar (int 2) ∷ [])) ∷
    [])) ∷
    [])) ∷
    []) ∷
    [])
    236
    (ends_done "xy2\nabcd2\np\npq\n" 10 0 1) ∷
    -- procedure p(); "xyz" ? {move(2); fail}; end
    -- procedure q(); "xyz" ? (return move(2)); end
    -- procedure r(); "uv" ? {move(1); "w" ? (suspend 1 | &pos)}; end
    -- procedure main(); "ab" ? {p(); write(&subject, &pos); write(q(), &subject, &pos); every write(r(),
    --   &subject, &pos) do move(1); write(&subject, &pos)}; end
    case
    (procedure "p" []
    (between (text "xyz") Signs.Question (block (call (name "move") (int 2 ∷ []) ∷ fail ∷ [])) ∷ []) ∷
    procedure "q" []
    (between (text "xyz") Signs.Question (return (call (name "move") (int 2 ∷ []))) ∷ []) ∷
    procedure "r" []
    (between (text "uv") Signs.Question
    (block
    (call (name "move") (int 1 ∷ []) ∷
    between (text "w") Signs.Question (suspend (between (int 1) Signs.Bar (key "pos"))) ∷
    [])) ∷
    []) ∷
    main
    (between (text "ab") Signs.Question
    (block
    (call (name "p") [] ∷
    write (key "subject" ∷ key "pos" ∷ []) ∷
    write (call (name "q") [] ∷ key "subject" ∷ key "pos" ∷ []) ∷
    every_do
    (write (call (name "r") [] ∷ key "subject" ∷ key "pos" ∷ []))
    (call (name "move") (int 1 ∷ [])) ∷
    write (key "subject" ∷ key "pos" ∷ []) ∷
    [])) ∷
    []) ∷
    [])
    364
    (ends_done "ab1\nxyab1\n1ab1\n2ab2\nab3\n" 15 0 1) ∷
    -- procedure main(); every i := 1 to 3 do "abc" ? {move(i); "d" ? {if i = 2 then next;
    --   write(&subject)}; write(&pos)}; write(&subject, "|", &pos); end
    case
    (main
    (every_do (assign (name "i") (to (int 1) (int 3)))
    (between (text "abc") Signs.Question
    (block
    (call (name "move") (name "i" ∷ []) ∷
    between (text "d") Signs.Question
    (block
    (when (between (name "i") Signs.Equal (int 2)) next ∷
    write (key "subject" ∷ []) ∷
    [])) ∷
    write (key "pos" ∷ []) ∷
    []))) ∷
    write (key "subject" ∷ text "|" ∷ key "pos" ∷ []) ∷
    []) ∷
    [])
    386
    (ends_done "d\n2\nd\n4\n|1\n" 18 0 1) ∷
    -- procedure main(); "abc" ? {every ("de" ? move(1 to 2)) || (1 | 2) do &subject := "zz";
    --   write(&subject)}; end
    case
    (main
    (between (text "abc") Signs.Question
    (block
    (every_do
    (between
    (between (text "de") Signs.Question (call (name "move") (to (int 1) (int 2) ∷ [])))
    Signs.BarBar
    (between (int 1) Signs.Bar (int 2)))
    (assign (key "subject") (text "zz")) ∷
    write (key "subject" ∷ []) ∷
    [])) ∷
    []) ∷
    [])
    264
    (ends_done "zz\n" 16 14 1) ∷
    -- procedure p(); "abc" ? (move(1), "xyz" ? (tab(3), suspend &pos | &subject do write(&subject))); end
    -- procedure q(); "abc" ? ("xyz" ? (move(2), return &subject)); end
    -- procedure r(); "abc" ? ("xyz" ? (move(2), fail)); end
    -- procedure main(); "0123" ? {move(2); every write(p(), " ", &subject, &pos); write(q(), &subject,
    --   &pos); r() | write(&subject, &pos); while 1 do "abc" ? (move(1), "xyz" ? (move(2), break));
    --   write(&subject, &pos); every i := 1 to 2 do "abc" ? ("de" ? ("f" ? next)); write(&subject, &pos)};
    --   end
    case
    (procedure "p" []
    (between (text "abc") Signs.Question
    (all_of
    (call (name "move") (int 1 ∷ []) ∷
    between (text "xyz") Signs.Question
    (all_of
    (call (name "tab") (int 3 ∷ []) ∷
    suspend_do (between (key "pos") Signs.Bar (key "subject"))
    (write (key "subject" ∷ [])) ∷
    [])) ∷
    [])) ∷
    []) ∷
    procedure "q" []
    (between (text "abc") Signs.Question
    (between (text "xyz") Signs.Question
    (all_of (call (name "move") (int 2 ∷ []) ∷ return (key "subject") ∷ []))) ∷
    []) ∷
    procedure "r" []
    (between (text "abc") Signs.Question
    (between (text "xyz") Signs.Question (all_of (call (name "move") (int 2 ∷ []) ∷ fail ∷ []))) ∷
    []) ∷
    main
    (between (text "0123") Signs.Question
    (block
    (call (name "move") (int 2 ∷ []) ∷
    every (write (call (name "p") (Empty ∷ []) ∷ text " " ∷ key "subject" ∷ key "pos" ∷ [])) ∷
    write (call (name "q") (Empty ∷ []) ∷ key "subject" ∷ key "pos" ∷ []) ∷
    between (call (name "r") (Empty ∷ [])) Signs.Bar (write (key "subject" ∷ key "pos" ∷ [])) ∷
    while_do (int 1)
    (between (text "abc") Signs.Question
    (all_of
    (call (name "move") (int 1 ∷ []) ∷
    between (text "xyz") Signs.Question
    (all_of (call (name "move") (int 2 ∷ []) ∷ break Empty ∷ [])) ∷
    []))) ∷
    write (key "subject" ∷ key "pos" ∷ []) ∷
    every_do (assign (name "i") (to (int 1) (int 2)))
    (between (text "abc") Signs.Question
    (between (text "de") Signs.Question (between (text "f") Signs.Question next))) ∷
    write (key "subject" ∷ key "pos" ∷ []) ∷
    [])) ∷
    []) ∷
    [])
    700
    (ends_done "3 01233\nxyz\n0123 01233\nxyz\n012301233\n01233\n01233\n01233\n" 27 0 1) ∷
    -- procedure main(); write(12 ? &subject); end
    case
    (main (write (between (int 12) Signs.Question (key "subject") ∷ []) ∷ []) ∷ [])
    60
    (ends_done "\n" 1 2 1) ∷
    -- procedure main(); write(12 ? .&subject); end
    case
    (main (write (between (int 12) Signs.Question (before Signs.Dot (key "subject")) ∷ []) ∷ []) ∷ [])
    60
    (ends_done "12\n" 2 2 1) ∷
    []
