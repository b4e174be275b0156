-- The members of the csets that keywords give.
use Rattle.std.proofs.Common.{◌≡◌, refl, [], ◌∷◌}
use Rattle.std.specs.List.{range_with_len}
use Rattle.icn_value.specs.Members.{members_of}
use Rattle.icn_defs.specs.Images.{digit_bytes, lcase, letters, ucase}

pub ascii_members : members_of (record { words = 18446744073709551615 ∷ 18446744073709551615 ∷ 0 ∷ 0 ∷ [] }) ≡ range_with_len 0 128
unfolding members_of
ascii_members = refl

pub all_members : members_of (record { words = 18446744073709551615 ∷ 18446744073709551615 ∷ 18446744073709551615 ∷ 18446744073709551615 ∷ [] }) ≡ range_with_len 0 256
unfolding members_of
all_members = refl

pub digits_members : members_of (record { words = 287948901175001088 ∷ 0 ∷ 0 ∷ 0 ∷ [] }) ≡ digit_bytes
unfolding members_of
digits_members = refl

pub lower_members : members_of (record { words = 0 ∷ 576460743713488896 ∷ 0 ∷ 0 ∷ [] }) ≡ lcase
unfolding members_of
lower_members = refl

pub upper_members : members_of (record { words = 0 ∷ 134217726 ∷ 0 ∷ 0 ∷ [] }) ≡ ucase
unfolding members_of
upper_members = refl

pub letters_members : members_of (record { words = 0 ∷ 576460743847706622 ∷ 0 ∷ 0 ∷ [] }) ≡ letters
unfolding members_of
letters_members = refl
