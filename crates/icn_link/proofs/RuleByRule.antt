-- Rules that are looked at one after the other.
use Rattle.std.proofs.Common.{◌≡◌, inl, inr, Option, None, Result, Ok, Err, OnOk, IfErr, IsErrAnd, ap, ◌∙◌, sym, subst}
use Rattle.std.specs.Option.{option_or}
use Rattle.icn_link.specs.declared.fault.LinkFault.{LinkFault}
use Rattle.icn_link.specs.LinkFaults.{IsFault}

-- a fault of the first rule is one of all
pub first_fault_is : (a b : Option LinkFault) (fault : LinkFault) → IsFault a fault → IsFault (option_or a b) fault
first_fault_is a b fault (inl e) = inl e
first_fault_is a b fault (inr e) = inr (ap (λ x. option_or x b) e)

-- and where the first is kept, a fault of the others is
pub later_fault_is : (a b : Option LinkFault) (fault : LinkFault) → a ≡ None → IsFault b fault → IsFault (option_or a b) fault
later_fault_is a b fault kept (inl e) = inl e
later_fault_is a b fault kept (inr e) = inr (ap (λ x. option_or x b) kept ∙ e)

pub both_kept : (a b : Option LinkFault) → a ≡ None → b ≡ None → option_or a b ≡ None
both_kept a b e f = ap (λ x. option_or x b) e ∙ f

-- What a check says of one list, where that is the list asked for

pub list_kept : {A : Type 0} (result : Result A LinkFault) (a b : Option LinkFault) → a ≡ b → OnOk result (a ≡ None) → OnOk result (b ≡ None)
list_kept result a b same h = subst (λ x. OnOk result (x ≡ None)) same h

pub list_fault : {A : Type 0} (result : Result A LinkFault) (a b : Option LinkFault) → a ≡ b → IfErr result (IsFault a) → IfErr result (IsFault b)
list_fault result a b same h = subst (λ x. IfErr result (IsFault x)) same h

-- what holds of a known error holds of the result's error
pub if_err_known : {T : Type 0} (r : Result T LinkFault) (P : LinkFault → Type 0) (fault : LinkFault) → IsErrAnd r (λ other. other ≡ fault) → P fault
    → IfErr r P
if_err_known (Ok value) P fault same is = tt
if_err_known (Err other) P fault same is = subst P (sym same) is
