-- The csets that stand for arguments of `bal` that are null.
use Rattle.std.proofs.Common.{◌≡◌, ◌∙◌, refl, ap, ℕ, ◌==◌, ◌||◌, Bool, true, false, codes}
use Rattle.std.specs.Prelude.{not}
use Rattle.icn_value.specs.declared.cset.Cset.{Cset}
use Rattle.icn_value.specs.Csets.{has, HasMembers}
use Rattle.icn_value.specs.Members.{members, members_of}
use Rattle.icn_value.proofs.Bits.{members_by}

or_false : (a : Bool) → (a || false) ≡ a
or_false true = refl
or_false false = refl

one_byte : (empty one : Cset) (byte : ℕ) → HasMembers empty (λ other. false) → HasMembers one (λ other. other == byte || has empty other)
    → members_of one ≡ members (λ other. other == byte)
one_byte empty one byte none is = members_by one (λ other. other == byte)
    (record { is = λ other few. is.is other few ∙ (ap (λ b. (other == byte) || b) (none.is other few) ∙ or_false (other == byte)) })

pub opening_members : (empty one : Cset) → HasMembers empty (λ other. false) → HasMembers one (λ other. other == 40 || has empty other)
    → members_of one ≡ codes "("
opening_members empty one none is = one_byte empty one 40 none is

pub closing_members : (empty one : Cset) → HasMembers empty (λ other. false) → HasMembers one (λ other. other == 41 || has empty other)
    → members_of one ≡ codes ")"
closing_members empty one none is = one_byte empty one 41 none is

pub all_members : (empty all : Cset) → HasMembers empty (λ byte. false) → HasMembers all (λ byte. not (has empty byte))
    → members_of all ≡ members (λ byte. true)
all_members empty all none is = members_by all (λ byte. true) (record { is = λ byte few. is.is byte few ∙ ap not (none.is byte few) })
