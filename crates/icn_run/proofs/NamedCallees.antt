-- What a text names when it is called.
use Rattle.std.proofs.Common.{◌≡◌, ◌∙◌, ap, ℕ, ℤ, Option, None, Some}
use Rattle.icn_value.specs.Values.{Value, Null, Integer, Text, Chars, Std, Procedure, ARecord, AList, ASet, ATable, ACoexp}
use Rattle.icn_value.specs.Store.{Names}
use Rattle.icn_defs.specs.NamedValues.{named_by}
use Rattle.icn_defs.specs.Running.{callee_number, name_called, number_of, unless_number}

-- what is no number and names something is called by that name
pub name_is : (names : Names) (v : Value) (n : ℕ) → number_of v ≡ None → named_by names v ≡ Some n → name_called names v ≡ Some n
name_is names v n e i = ap (λ (o : Option ℤ). unless_number o (named_by names v)) e ∙ i

-- and it is the procedure, constructor or function that is called
pub named_is : (names : Names) (v : Value) (n : ℕ) → number_of v ≡ None → named_by names v ≡ Some n → callee_number names v ≡ Some n
named_is names (Procedure k) n e i = let none : ⊥ = cc in absurd none
named_is names Null n e i = name_is names Null n e i
named_is names (Integer k) n e i = name_is names (Integer k) n e i
named_is names (Text text) n e i = name_is names (Text text) n e i
named_is names (Chars bytes) n e i = name_is names (Chars bytes) n e i
named_is names (Std file) n e i = name_is names (Std file) n e i
named_is names (ARecord id) n e i = name_is names (ARecord id) n e i
named_is names (AList id) n e i = name_is names (AList id) n e i
named_is names (ASet id) n e i = name_is names (ASet id) n e i
named_is names (ATable id) n e i = name_is names (ATable id) n e i
named_is names (ACoexp id) n e i = name_is names (ACoexp id) n e i
