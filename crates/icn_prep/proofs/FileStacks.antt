-- The lines of a file, and of the files on a stack.
use Rattle.std.proofs.Common.{◌≡◌, ℕ, ◌+◌, ◌-◌, ◌<◌, ◌≤◌, zero, suc, List, [], ◌∷◌, ◌++◌, length, get_or, drop, reverse, Some, Result, Ok, Err, refl, sym, ap, ◌∙◌, arith, ◌⊎◌, inl, inr, false, nat_lt, subst}
use Rattle.std.specs.Prelude.{All}
use Rattle.std.proofs.lemmas.Bool.{cond-false}
use Rattle.std.proofs.lemmas.Bool.Decides.{nat_tests}
use Rattle.std.proofs.lemmas.List.{reverse-append, length-append, length-reverse, get_or_append_left}
use Rattle.std.proofs.lemmas.List.Elements.{All-append}
use Rattle.icn_host.specs.FileMaps.{FileMap}
use Rattle.icn_tree.specs.declared.lines.Lines.{Lines}
use Rattle.icn_prep.specs.Answers.{IsOutside, IsAnswer, outcome_of}
use Rattle.icn_prep.specs.declared.fault.PrepFault.{PrepFault}
use Rattle.icn_prep.specs.declared.open_file.OpenFile.{OpenFile}
use Rattle.icn_prep.specs.FileLines.{lines_of}
use Rattle.icn_prep.specs.RefusedSteps.{◌>>=◌}
use Rattle.icn_prep.specs.Cursors.{Cursor, next_line, start_of}
use Rattle.icn_prep.specs.CursorViews.{cursor_of}
use Rattle.icn_prep.specs.Refusals.{Refuses, rest_of_lines}
use Rattle.icn_prep.specs.SourceLines.{LineState, Preprocessed, Step, IncludeStep, line_read, lines_read, left_empty, file_read, include_file, include_found, source_of}

then_then : {A B C : Type 0} (a : Result A PrepFault) (f : A → Result B PrepFault) (g : B → Result C PrepFault) → ((a >>= f) >>= g) ≡ (a >>= λ x. f x >>= g)
then_then (Ok a) f g = refl
then_then (Err e) f g = refl

-- the next line
step_of : (includes : IncludeStep) (s : LineState) (cursor : Cursor) (line : List ℕ) (rest : List (List ℕ)) (step : Step)
    → line_read includes s cursor line ≡ step
    → lines_read includes s cursor (line ∷ rest) ≡ (step >>= λ after. lines_read includes after.0 after.1 rest)
step_of includes s cursor line rest step is = ap (λ o. o >>= λ after. lines_read includes after.0 after.1 rest) is

-- the lines of the files on a stack, the innermost first
abbrev pub stack_read : FileMap → List OpenFile → LineState → Preprocessed
stack_read files [] s = Ok s
stack_read files (f ∷ outer) s =
    lines_read (include_file files (32 - length outer)) s (cursor_of f.cursor) (lines_of (drop f.at f.content.items)) >>= stack_read files outer

-- so far reading files gives what reading them all gives
abbrev pub StackSo : FileMap → Preprocessed → List OpenFile → LineState → Type 0
StackSo files whole stack s = whole ≡ stack_read files (reverse stack) s

top_of : (stack others : List OpenFile) (f : OpenFile) → stack ≡ others ++ f ∷ [] → reverse stack ≡ f ∷ reverse others
top_of stack others f is = ap reverse is ∙ reverse-append others (f ∷ [])

-- the file on top
pub on_top : (files : FileMap) (whole : Preprocessed) (stack others : List OpenFile) (f : OpenFile) (s : LineState) → StackSo files whole stack s
    → stack ≡ others ++ f ∷ []
    → whole ≡ (lines_read (include_file files (32 - length others)) s (cursor_of f.cursor) (lines_of (drop f.at f.content.items))
    >>= stack_read files (reverse others))
on_top files whole stack others f s so is =
    so ∙ (ap (λ fs. stack_read files fs s) (top_of stack others f is)
    ∙ ap (λ n. lines_read (include_file files (32 - n)) s (cursor_of f.cursor) (lines_of (drop f.at f.content.items)) >>= stack_read files (reverse others))
    (length-reverse others))

-- the file on top ended
pub file_ended : (files : FileMap) (whole : Preprocessed) (stack others : List OpenFile) (f : OpenFile) (s s' : LineState) → StackSo files whole stack s
    → stack ≡ others ++ f ∷ []
    → lines_read (include_file files (32 - length others)) s (cursor_of f.cursor) (lines_of (drop f.at f.content.items)) ≡ Ok s' → StackSo files whole others s'
file_ended files whole stack others f s s' so is step =
    on_top files whole stack others f s so is ∙ ap (λ o. o >>= stack_read files (reverse others)) step

-- it was refused
pub file_refused : (files : FileMap) (whole : Preprocessed) (stack others : List OpenFile) (f : OpenFile) (s : LineState) (fault : PrepFault)
    → StackSo files whole stack s → stack ≡ others ++ f ∷ []
    → Refuses (lines_read (include_file files (32 - length others)) s (cursor_of f.cursor) (lines_of (drop f.at f.content.items))) fault → IsAnswer whole fault
file_refused files whole stack others f s fault so is (inl e) = inl (inr e)
file_refused files whole stack others f s fault so is (inr e) =
    inr (on_top files whole stack others f s so is ∙ ap (λ o. o >>= stack_read files (reverse others)) e)

-- it includes a file: what including gives, and then the rest
abbrev pub including_so : FileMap → Preprocessed → List OpenFile → Cursor → List ℕ → Preprocessed → Type 0
including_so files whole others cursor rest outcome =
    whole ≡ ((outcome >>= λ t. lines_read (include_file files (32 - length others)) t (next_line cursor) (lines_of rest)) >>= stack_read files (reverse others))

pub file_includes : (files : FileMap) (whole : Preprocessed) (stack others : List OpenFile) (f : OpenFile) (s s' : LineState) (cursor : Cursor) (name : List ℕ)
    (at : ℕ)
    → StackSo files whole stack s → stack ≡ others ++ f ∷ []
    → lines_read (include_file files (32 - length others)) s (cursor_of f.cursor) (lines_of (drop f.at f.content.items))
    ≡ rest_of_lines (include_file files (32 - length others)) (Some (name, at)) s' cursor f.content.items
    → including_so files whole others cursor (drop at f.content.items) (include_file files (32 - length others) name s' cursor)
file_includes files whole stack others f s s' cursor name at so is step =
    on_top files whole stack others f s so is ∙ ap (λ o. o >>= stack_read files (reverse others)) step

-- including gives a fault
pub including_refused : (files : FileMap) (whole : Preprocessed) (others : List OpenFile) (cursor : Cursor) (rest : List ℕ) (outcome : Preprocessed)
    (fault : PrepFault)
    → including_so files whole others cursor rest outcome → IsAnswer outcome fault → IsAnswer whole fault
including_refused files whole others cursor rest outcome fault so (inl e) = inl e
including_refused files whole others cursor rest outcome fault so (inr e) =
    inr (so
    ∙ ap (λ o. (o >>= λ t. lines_read (include_file files (32 - length others)) t (next_line cursor) (lines_of rest)) >>= stack_read files (reverse others)) e)

-- the file is there
pub included_is : (files : FileMap) (depth : ℕ) (name bytes : List ℕ) (s : LineState) (cursor : Cursor) → depth < 32 → files name ≡ Some bytes
    → length bytes ≤ 16777216
    → include_file files (32 - depth) name s cursor ≡ (left_empty s cursor >>= λ t. file_read (include_file files (32 - (depth + 1))) name t bytes)
included_is files depth name bytes s cursor l there short =
    let level : 32 - depth ≡ suc (32 - (depth + 1)) = omega arith in
    let within : nat_lt 16777216 (length bytes) ≡ false = grind (arith, nat_tests) in
    ap (λ n. include_file files n name s cursor) level
    ∙ (ap (include_found (include_file files (32 - (depth + 1))) name s cursor) there
    ∙ cond-false (nat_lt 16777216 (length bytes)) _ _ within)

pub line_refused : (files : FileMap) (depth : ℕ) (name bytes : List ℕ) (s : LineState) (cursor : Cursor) (fault : PrepFault) → depth < 32
    → files name ≡ Some bytes
    → length bytes ≤ 16777216
    → Refuses (left_empty s cursor) fault → IsAnswer (include_file files (32 - depth) name s cursor) fault
line_refused files depth name bytes s cursor fault l there short (inl e) = inl (inr e)
line_refused files depth name bytes s cursor fault l there short (inr e) =
    inr (included_is files depth name bytes s cursor l there short ∙ ap (λ o. o >>= λ t. file_read (include_file files (32 - (depth + 1))) name t bytes) e)

-- the included file stands on top, and behind it the file that goes on
pub file_begun : (files : FileMap) (whole : Preprocessed) (others : List OpenFile) (cursor : Cursor) (name bytes rest : List ℕ) (s t u : LineState)
    (onward next : OpenFile)
    → including_so files whole others cursor rest (include_file files (32 - length others) name s cursor) → length others < 32 → files name ≡ Some bytes
    → length bytes ≤ 16777216
    → left_empty s cursor ≡ Ok t → u ≡ record t { names = t.names ++ name ∷ [] }
    → cursor_of onward.cursor ≡ next_line cursor → drop onward.at onward.content.items ≡ rest
    → cursor_of next.cursor ≡ start_of (length t.names) → drop next.at next.content.items ≡ bytes
    → StackSo files whole ((others ++ onward ∷ []) ++ next ∷ []) u
file_begun files whole others cursor name bytes rest s t u onward next so l there short given named goes left starts all =
    let m = 32 - (length others + 1) in
    let inner : include_file files (32 - length others) name s cursor
    ≡ lines_read (include_file files m) u (cursor_of next.cursor) (lines_of (drop next.at next.content.items)) =
    included_is files (length others) name bytes s cursor l there short
    ∙ (ap (λ o. o >>= λ v. file_read (include_file files m) name v bytes) given
    ∙ (ap (λ v. lines_read (include_file files m) v (start_of (length t.names)) (lines_of bytes)) (sym named)
    ∙ (ap (λ p. lines_read (include_file files m) u p (lines_of bytes)) (sym starts)
    ∙ ap (λ b. lines_read (include_file files m) u (cursor_of next.cursor) (lines_of b)) (sym all)))) in
    let len : length (reverse others) ≡ length others = length-reverse others in
    let outer : length (onward ∷ reverse others) ≡ length others + 1 = omega arith in
    let back : reverse ((others ++ onward ∷ []) ++ next ∷ []) ≡ next ∷ onward ∷ reverse others =
    reverse-append (others ++ onward ∷ []) (next ∷ []) ∙ ap (λ fs. next ∷ fs) (reverse-append others (onward ∷ [])) in
    so
    ∙ (ap (λ o. (o >>= λ v. lines_read (include_file files (32 - length others)) v (next_line cursor) (lines_of rest)) >>= stack_read files (reverse others))
    inner
    ∙ (then_then (lines_read (include_file files m) u (cursor_of next.cursor) (lines_of (drop next.at next.content.items)))
    (λ v. lines_read (include_file files (32 - length others)) v (next_line cursor) (lines_of rest)) (stack_read files (reverse others))
    ∙ (ap (λ p. lines_read (include_file files m) u (cursor_of next.cursor) (lines_of (drop next.at next.content.items))
    >>= λ v. lines_read (include_file files (32 - length others)) v p (lines_of rest) >>= stack_read files (reverse others)) (sym goes)
    ∙ (ap (λ b. lines_read (include_file files m) u (cursor_of next.cursor) (lines_of (drop next.at next.content.items))
    >>= λ v. lines_read (include_file files (32 - length others)) v (cursor_of onward.cursor) (lines_of b) >>= stack_read files (reverse others)) (sym left)
    ∙ (ap (λ n. lines_read (include_file files m) u (cursor_of next.cursor) (lines_of (drop next.at next.content.items)) >>= λ v. lines_read (include_file files
    (32 - n)) v (cursor_of onward.cursor) (lines_of (drop onward.at onward.content.items)) >>= stack_read files (reverse others)) (sym len)
    ∙ (ap (λ n. lines_read (include_file files (32 - n)) u (cursor_of next.cursor) (lines_of (drop next.at next.content.items))
    >>= stack_read files (onward ∷ reverse others)) (sym outer)
    ∙ ap (λ fs. stack_read files fs u) (sym back)))))))

-- the whole, as it is answered
pub answered_err : (whole : Preprocessed) (fault : PrepFault) → IsAnswer whole fault → let result : Result Lines PrepFault = Err fault in
    IsOutside result ⊎ (outcome_of result ≡ source_of whole)
answered_err whole fault (inl (inl e)) = inl (inl (ap Err e))
answered_err whole fault (inl (inr e)) = inl (inr (ap Err e))
answered_err whole fault (inr e) = inr (sym (ap source_of e))

-- what the exit of a `?` returns
pub answered : (whole : Preprocessed) (result : Result Lines PrepFault) (fault given : PrepFault) → result ≡ Err given → given ≡ fault → IsAnswer whole fault
    → IsOutside result ⊎ (outcome_of result ≡ source_of whole)
answered whole result fault given is same h = subst (λ r. IsOutside r ⊎ (outcome_of r ≡ source_of whole)) (sym (is ∙ ap Err same)) (answered_err whole fault h)

-- the files' names stand among the names
abbrev pub AllNamed : ℕ → List OpenFile → Type 0
AllNamed names files = All (λ f. f.cursor.file < names) files

pub named_front : (names more : ℕ) (stack others : List OpenFile) (f : OpenFile) → AllNamed names stack → stack ≡ others ++ f ∷ [] → names ≤ more
    → AllNamed more others
named_front names more stack others f all is l = λ k d h.
    let len : length stack ≡ length others + 1 = ap length is ∙ length-append others (f ∷ []) in
    let same : get_or stack k d ≡ get_or others k d = ap (λ fs. get_or fs k d) is ∙ get_or_append_left others (f ∷ []) d k h in
    let there : (get_or stack k d).cursor.file < names = all k d (omega arith) in
    let here : (get_or others k d).cursor.file < names = rw same at there in
    omega arith

alone : (more : ℕ) (f : OpenFile) → f.cursor.file < more → AllNamed more (f ∷ [])
alone more f h zero d g = h
alone more f h (suc k) d g = absurd (omega arith)

pub named_push : (names more : ℕ) (others : List OpenFile) (f : OpenFile) → AllNamed names others → names ≤ more → f.cursor.file < more
    → AllNamed more (others ++ f ∷ [])
named_push names more others f all l h =
    All-append (λ f. f.cursor.file < more) others (f ∷ []) (λ k d g. let there = all k d g in omega (arith, there)) (alone more f h)
