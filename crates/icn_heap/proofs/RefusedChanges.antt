-- Structures that stay as they were, as a change of them is refused.
use Rattle.std.proofs.Common.{◌≡◌, ◌∙◌, ap, ℕ, get_or, Result, Ok, Err, OnOk, OnErr}
use Rattle.std.proofs.lemmas.List.{set-get_or}
use Rattle.icn_structs.specs.Shelves.{Shelved, with_other}

-- the thing that stands there in its own place
pub other_same : {X : Type 0} (shelf : Shelved X) (number : ℕ) (d thing : X) → thing ≡ get_or shelf.things number d → with_other shelf number thing ≡ shelf
other_same {X} shelf number d thing is =
    ap (with_other shelf number) is
    ∙ ap (λ things. let same : Shelved X = record { things = things; held = shelf.held } in same) (set-get_or shelf.things number d)

-- what holds anyway holds where a call is answered
pub on_ok : {A E : Type 0} {P : Type 0} (result : Result A E) → P → OnOk result P
on_ok (Ok value) is = is
on_ok (Err why) is = tt

-- and where it is refused
pub on_err : {A E : Type 0} {P : Type 0} (result : Result A E) → P → OnErr result P
on_err (Ok value) is = tt
on_err (Err why) is = is
