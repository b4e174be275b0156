-- What is said of content where it is told.
use Rattle.std.proofs.Common.{◌≡◌, Option, None, Some, IfSome, refl}

-- what holds of the value, if there is one, holds of the option
pub if_some_intro : {T : Type 0} (o : Option T) (P : T → Type 0) → ((x : T) → o ≡ Some x → P x) → IfSome o P
if_some_intro None P f = tt
if_some_intro (Some x) P f = f x refl

-- what holds of an option that has a value holds of the value
pub if_some_elim : {T : Type 0} (P : T → Type 0) (o : Option T) (x : T) → o ≡ Some x → IfSome o P → P x
if_some_elim P o x e h = rw e at h
