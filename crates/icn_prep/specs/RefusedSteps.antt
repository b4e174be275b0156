-- Steps that may be refused.
use Rattle.std.specs.Prelude.{Result, Ok, Err}
use Rattle.icn_prep.specs.declared.fault.PrepFault.{PrepFault}

infixl 10 ◌>>=◌
-- a step and then another one, unless the first is refused
abbrev pub ◌>>=◌ : {A B : Type 0} → Result A PrepFault → (A → Result B PrepFault) → Result B PrepFault
Ok a >>= f = f a
Err e >>= f = Err e
