-- A text that grows by pieces.
use Rattle.std.proofs.Common.{◌≡◌, ℕ, cond, List, [], ◌∷◌, ◌++◌, Result, Ok, Err, OnOk, is_ok, ◌∙◌, append_assoc}
use Rattle.std.specs.Prelude.{codes}

pub put_last : {E : Type 0} (result : Result (Unit {0}) E) (old new piece wanted : List ℕ) → new ≡ cond (is_ok result) (old ++ piece) old
    → old ++ piece ≡ wanted → OnOk result (new ≡ wanted)
put_last (Ok x) old new piece wanted e h = e ∙ h
put_last (Err x) old new piece wanted e h = tt

pub proc_pieces : (old head names instrs a b c d : List ℕ) → a ≡ old ++ head → b ≡ a ++ names → c ≡ b ++ (codes "code" ++ 10 ∷ []) → d ≡ c ++ instrs
    → d ++ (codes "end" ++ 10 ∷ []) ≡ old ++ (head ++ names ++ codes "code" ++ 10 ∷ instrs ++ codes "end" ++ 10 ∷ [])
proc_pieces old head names instrs a b c d ea eb ec ed =
    rw (ed, ec, eb, ea) (simp append_assoc)
