-- Small programs under each bound of turns: what was put and charged by then.
use Rattle.std.specs.Prelude.{ℕ, List, [], ◌∷◌}
use Rattle.icn_tree.specs.declared.token.Operator.TheVariants as Signs
use Rattle.icn_tree.specs.Trees.{Declaration}
use Rattle.cases_programs.specs.Words.{int, name, before, between, assign, write, to, all_of, every, create, main}
use Rattle.cases_programs.specs.Cases.{ProgramCase, Expectation, under, most_turns, ends_done, at_bound}

-- procedure main(); every write((1 to 2) + (10 | 20)); end
abbrev pub sums : List Declaration
sums =
    main
    (every
    (write
    (between (all_of (to (int 1) (int 2) ∷ [])) Signs.Plus
    (all_of (between (int 10) Signs.Bar (int 20) ∷ [])) ∷
    [])) ∷
    []) ∷
    []

-- procedure main(); every write(|(1 to 2) \ 3); end
abbrev pub rounds : List Declaration
rounds =
    main
    (every
    (write
    (between (before Signs.Bar (all_of (to (int 1) (int 2) ∷ []))) Signs.Backslash (int 3) ∷ [])) ∷
    []) ∷
    []

-- procedure main(); c := create 1 | 2; every write(|@c); end
abbrev pub results : List Declaration
results =
    main
    (assign (name "c") (create (between (int 1) Signs.Bar (int 2))) ∷
    every (write (before Signs.Bar (before Signs.At (name "c")) ∷ [])) ∷
    []) ∷
    []

-- the sums under this bound of turns
abbrev pub sums_under : ℕ → Expectation → ProgramCase
sums_under turns wanted = under (most_turns turns) sums 160 wanted

-- the rounds under this bound of turns
abbrev pub rounds_under : ℕ → Expectation → ProgramCase
rounds_under turns wanted = under (most_turns turns) rounds 160 wanted

-- the results under this bound of turns
abbrev pub results_under : ℕ → Expectation → ProgramCase
results_under turns wanted = under (most_turns turns) results 200 wanted

-- one small program under bounds of 0, 1, 2 and more turns
abbrev pub bounded_cases : List ProgramCase
bounded_cases =
    sums_under 0 (at_bound "" 0 0 1) ∷
    sums_under 1 (at_bound "" 1 0 1) ∷
    sums_under 2 (at_bound "" 2 0 1) ∷
    sums_under 3 (at_bound "11\n" 3 0 1) ∷
    sums_under 4 (at_bound "11\n" 4 0 1) ∷
    sums_under 5 (at_bound "11\n21\n" 5 0 1) ∷
    sums_under 6 (at_bound "11\n21\n" 6 0 1) ∷
    sums_under 7 (at_bound "11\n21\n" 7 0 1) ∷
    sums_under 8 (at_bound "11\n21\n12\n" 8 0 1) ∷
    sums_under 9 (at_bound "11\n21\n12\n" 9 0 1) ∷
    sums_under 10 (at_bound "11\n21\n12\n22\n" 10 0 1) ∷
    sums_under 11 (ends_done "11\n21\n12\n22\n" 11 0 1) ∷
    rounds_under 1 (at_bound "" 1 0 1) ∷
    rounds_under 2 (at_bound "1\n" 2 0 1) ∷
    rounds_under 3 (at_bound "1\n" 3 0 1) ∷
    rounds_under 4 (at_bound "1\n2\n" 4 0 1) ∷
    rounds_under 5 (at_bound "1\n2\n" 5 0 1) ∷
    rounds_under 6 (at_bound "1\n2\n" 6 0 1) ∷
    rounds_under 7 (at_bound "1\n2\n" 7 0 1) ∷
    rounds_under 8 (ends_done "1\n2\n1\n" 8 0 1) ∷
    results_under 0 (at_bound "" 0 0 1) ∷
    results_under 1 (at_bound "" 1 0 3) ∷
    results_under 2 (at_bound "" 2 0 3) ∷
    results_under 3 (at_bound "" 3 0 3) ∷
    results_under 4 (at_bound "" 4 0 3) ∷
    results_under 5 (at_bound "1\n" 5 0 3) ∷
    results_under 6 (at_bound "1\n" 6 0 3) ∷
    results_under 7 (at_bound "1\n" 7 0 3) ∷
    results_under 8 (at_bound "1\n" 8 0 3) ∷
    results_under 9 (at_bound "1\n2\n" 9 0 3) ∷
    results_under 10 (at_bound "1\n2\n" 10 0 3) ∷
    results_under 11 (at_bound "1\n2\n" 11 0 3) ∷
    results_under 12 (ends_done "1\n2\n" 12 0 3) ∷
    []
