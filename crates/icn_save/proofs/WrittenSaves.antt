-- How the last fields of a save are put: what a run took and put.
use Rattle.std.proofs.Common.{◌≡◌, ℕ, List, [], ◌∷◌, ◌++◌, Result, Ok, Err, ap, ◌∙◌, append_assoc}
use Rattle.std.specs.Prelude.{OnOk}
use Rattle.std.specs.Int.{w64, to_le_bytes}
use Rattle.icn_save.specs.FileCalls.{FileCall}
use Rattle.icn_save.specs.Saves.{SavedRun}
use Rattle.icn_save.specs.Spelling.{call, flag, outside, string, table}

regrouped : (o a b c d : List ℕ) (n : ℕ) → ((((o ++ a) ++ n ∷ []) ++ b) ++ c) ++ d ≡ o ++ (a ++ (n ∷ (b ++ (c ++ d))))
regrouped o a b c d n = simp append_assoc

pub outside_written : {E : Type 0} (r : Result (Unit {0}) E) (saved : SavedRun) (n : ℕ) (text : List ℕ) (calls : List FileCall) (o0 o1 o2 o3 o4 o5 : List ℕ)
    → text ≡ saved.input → calls ≡ saved.calls → n ≡ flag saved.ended → o1 ≡ o0 ++ string w64 text → o2 ≡ o1 ++ n ∷ []
    → o3 ≡ o2 ++ to_le_bytes w64 saved.output → o4 ≡ o3 ++ to_le_bytes w64 saved.errors → OnOk r (o5 ≡ o4 ++ table call calls)
    → OnOk r (o5 ≡ o0 ++ outside saved)
outside_written (Ok done) saved n text calls o0 o1 o2 o3 o4 o5 same_text same_calls same_flag e1 e2 e3 e4 e5 =
    let a1 : o1 ≡ o0 ++ string w64 saved.input = e1 ∙ ap (λ (l : List ℕ). o0 ++ string w64 l) same_text in
    let a2 : o2 ≡ (o0 ++ string w64 saved.input) ++ flag saved.ended ∷ [] =
    e2 ∙ (ap (λ (l : List ℕ). l ++ n ∷ []) a1 ∙ ap (λ (m : ℕ). (o0 ++ string w64 saved.input) ++ m ∷ []) same_flag) in
    let a3 : o3 ≡ ((o0 ++ string w64 saved.input) ++ flag saved.ended ∷ []) ++ to_le_bytes w64 saved.output =
    e3 ∙ ap (λ (l : List ℕ). l ++ to_le_bytes w64 saved.output) a2 in
    let a4 : o4 ≡ (((o0 ++ string w64 saved.input) ++ flag saved.ended ∷ []) ++ to_le_bytes w64 saved.output) ++ to_le_bytes w64 saved.errors =
    e4 ∙ ap (λ (l : List ℕ). l ++ to_le_bytes w64 saved.errors) a3 in
    e5 ∙ (ap (λ (l : List ℕ). l ++ table call calls) a4
    ∙ (ap (λ (cs : List FileCall). ((((o0 ++ string w64 saved.input) ++ flag saved.ended ∷ []) ++ to_le_bytes w64 saved.output) ++ to_le_bytes w64 saved.errors)
    ++ table call cs) same_calls
    ∙ regrouped o0 (string w64 saved.input) (to_le_bytes w64 saved.output) (to_le_bytes w64 saved.errors) (table call saved.calls) (flag saved.ended)))
outside_written (Err e) saved n text calls o0 o1 o2 o3 o4 o5 same_text same_calls same_flag e1 e2 e3 e4 e5 = tt
