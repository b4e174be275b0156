-- Bytes at the end of a text that a cset has.
use Rattle.std.proofs.Common.{◌≡◌, ◌∙◌, refl, ap, ℕ, ◌<◌, ◌==◌, ◌||◌, Bool, true, false, codes}
use Rattle.icn_value.specs.declared.cset.Cset.{Cset}
use Rattle.icn_value.specs.Csets.{has, HasMembers}
use Rattle.icn_value.specs.Members.{contains, members_of}
use Rattle.icn_value.proofs.Bits.{members_by}
use Rattle.icn_value.proofs.CsetMembers.{members_pass}

-- a byte stands among the members where the cset has it
pub is_member : (cset : Cset) (byte : ℕ) → byte < 256 → contains (members_of cset) byte ≡ has cset byte
unfolding members_of
is_member cset byte few = members_pass (has cset) byte few

or_false : (a : Bool) → (a || false) ≡ a
or_false true = refl
or_false false = refl

-- the cset of a blank
pub blank_members : (empty blank : Cset) → HasMembers empty (λ byte. false) → HasMembers blank (λ other. other == 32 || has empty other)
    → members_of blank ≡ codes " "
blank_members empty blank none is =
    members_by blank (λ other. other == 32)
    (record { is = λ byte few. is.is byte few ∙ (ap (λ b. (byte == 32) || b) (none.is byte few) ∙ or_false (byte == 32)) })
