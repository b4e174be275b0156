-- Reading, structures and functions in programs.
use Rattle.std.specs.Prelude.{List, [], ◌∷◌}
use Rattle.icn_tree.specs.declared.token.Operator.TheVariants as Signs
use Rattle.icn_tree.specs.declared.tree.SectionKind.TheVariants.{Between}
use Rattle.cases_programs.specs.Words.{int, text, letters, name, key, before, between, assign, update, call, write, element, section, field, list, while, while_do, every, kind, main}
use Rattle.cases_programs.specs.Cases.{ProgramCase, case, with_input, ends_done}

-- programs that read, make structures and call functions
abbrev pub library : List ProgramCase
library =
    -- procedure main(); while write(read()); end
    with_input "a\n\nb"
    (main (while (write (call (name "read") [] ∷ [])) ∷ []) ∷ [])
    150
    (ends_done "a\n\nb\n" 10 2 1) ∷
    -- procedure main(); t := table(0); while line := read() do line ? (while tab(upto(&letters)) do
    --   t[tab(many(&letters))] +:= 1); every write(k := key(t), " ", t[k]); end
    with_input "to be or not to be\n"
    (main
    (assign (name "t") (call (name "table") (int 0 ∷ [])) ∷
    while_do (assign (name "line") (call (name "read") []))
    (between (name "line") Signs.Question
    (while_do
    (call (name "tab") (call (name "upto") (key "letters" ∷ []) ∷ []))
    (update
    (element (name "t")
    (call (name "tab") (call (name "many") (key "letters" ∷ []) ∷ []) ∷ []))
    Signs.Plus
    (int 1)))) ∷
    every
    (write
    (assign (name "k") (call (name "key") (name "t" ∷ [])) ∷
    text " " ∷
    element (name "t") (name "k" ∷ []) ∷
    [])) ∷
    []) ∷
    [])
    766
    (ends_done "to 2\nbe 2\nor 1\nnot 1\n" 72 18 6) ∷
    -- procedure main(); write(?6, " ", &random); end
    case
    (main (write (before Signs.Question (int 6) ∷ text " " ∷ key "random" ∷ []) ∷ []) ∷ [])
    92
    (ends_done "2 453816694\n" 2 0 1) ∷
    -- procedure main(); L := [3, "a", 1]; put(L, 2); every writes(!sort(L), " "); write(*L); end
    case
    (main
    (assign (name "L") (list (int 3 ∷ text "a" ∷ int 1 ∷ [])) ∷
    call (name "put") (name "L" ∷ int 2 ∷ []) ∷
    every
    (call (name "writes")
    (before Signs.Bang (call (name "sort") (name "L" ∷ [])) ∷ text " " ∷ [])) ∷
    write (before Signs.Star (name "L") ∷ []) ∷
    []) ∷
    [])
    212
    (ends_done "1 2 3 a 4\n" 15 0 11) ∷
    -- procedure main(); write(image("a\x09b"), " ", image('ab'), " ", image([1])); end
    case
    (main
    (write
    (call (name "image") (text "a\tb" ∷ []) ∷
    text " " ∷
    call (name "image") (letters "ab" ∷ []) ∷
    text " " ∷
    call (name "image") (list (int 1 ∷ []) ∷ []) ∷
    []) ∷
    []) ∷
    [])
    132
    (ends_done "\"a\\tb\" 'ab' list_2(1)\n" 5 19 3) ∷
    -- procedure main(); s := "hello"; s[2:4] := "ipp"; write(s); s[-1] := ""; write(s); end
    case
    (main
    (assign (name "s") (text "hello") ∷
    assign (section Between (name "s") (int 2) (int 4)) (text "ipp") ∷
    write (name "s" ∷ []) ∷
    assign (element (name "s") (before Signs.Minus (int 1) ∷ [])) (text "") ∷
    write (name "s" ∷ []) ∷
    []) ∷
    [])
    166
    (ends_done "hipplo\nhippl\n" 8 11 1) ∷
    -- procedure main(); S := set([1, 2]) ++ set([2, 3]); delete(S, 1); every writes(!S); write(member(S,
    --   3), *copy(S)); end
    case
    (main
    (assign (name "S")
    (between (call (name "set") (list (int 1 ∷ int 2 ∷ []) ∷ []))
    Signs.PlusPlus
    (call (name "set") (list (int 2 ∷ int 3 ∷ []) ∷ []))) ∷
    call (name "delete") (name "S" ∷ int 1 ∷ []) ∷
    every (call (name "writes") (before Signs.Bang (name "S") ∷ [])) ∷
    write
    (call (name "member") (name "S" ∷ int 3 ∷ []) ∷
    before Signs.Star (call (name "copy") (name "S" ∷ [])) ∷
    []) ∷
    []) ∷
    [])
    232
    (ends_done "2332\n" 16 0 20) ∷
    -- procedure main(); t := table(0); t["b"] := 1; t["a"] := 2; L := sort(t, 3); write(L[1], L[2], L[3],
    --   L[4]); write(pull(L), pop(L), right(7, 3, "0"), map("Ab")); end
    case
    (main
    (assign (name "t") (call (name "table") (int 0 ∷ [])) ∷
    assign (element (name "t") (text "b" ∷ [])) (int 1) ∷
    assign (element (name "t") (text "a" ∷ [])) (int 2) ∷
    assign (name "L") (call (name "sort") (name "t" ∷ int 3 ∷ [])) ∷
    write
    (element (name "L") (int 1 ∷ []) ∷
    element (name "L") (int 2 ∷ []) ∷
    element (name "L") (int 3 ∷ []) ∷
    element (name "L") (int 4 ∷ []) ∷
    []) ∷
    write
    (call (name "pull") (name "L" ∷ []) ∷
    call (name "pop") (name "L" ∷ []) ∷
    call (name "right") (int 7 ∷ int 3 ∷ text "0" ∷ []) ∷
    call (name "map") (text "Ab" ∷ []) ∷
    []) ∷
    []) ∷
    [])
    316
    (ends_done "a2b1\n1a007ab\n" 18 6 9) ∷
    -- record p(x)
    -- procedure main(); r := p(4); write(r.x, image(r)); end
    case
    (kind "p" ("x" ∷ []) ∷
    main
    (assign (name "r") (call (name "p") (int 4 ∷ [])) ∷
    write (field (name "r") "x" ∷ call (name "image") (name "r" ∷ []) ∷ []) ∷
    []) ∷
    [])
    122
    (ends_done "4record p_1(1)\n" 5 13 3) ∷
    []
