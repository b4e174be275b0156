-- The members of a cset, one byte after the other.
use Rattle.std.proofs.Common.{◌≡◌, ◌∙◌, ap, sym, ℕ, ◌+◌, ◌≤◌, List, [], ◌∷◌, ◌++◌, append-nil, append_assoc, arith}
use Rattle.std.specs.Prelude.{if◌then◌else◌}
use Rattle.icn_value.specs.declared.cset.Cset.{Cset}
use Rattle.icn_value.specs.Csets.{has, members_below}
use Rattle.icn_value.specs.Members.{members_of}
use Rattle.icn_value.proofs.Bits.{below_more, all_below}

pub none_yet : (cset : Cset) (front : List ℕ) → front ≡ front ++ members_below cset 0
unfolding members_below
none_yet cset front = sym (append-nil front)

pub one_more : (cset : Cset) (front now later : List ℕ) (n : ℕ) → now ≡ front ++ members_below cset n → later ≡ now ++ (if has cset n then n ∷ [] else [])
    → later ≡ front ++ members_below cset (n + 1)
one_more cset front now later n before is =
    is ∙ (ap (λ text. text ++ (if has cset n then n ∷ [] else [])) before
    ∙ (append_assoc front (members_below cset n) (if has cset n then n ∷ [] else []) ∙ ap (λ text. front ++ text) (sym (below_more cset n))))

pub all_members : (cset : Cset) (front now : List ℕ) (n : ℕ) → 256 ≤ n → n ≤ 256 → now ≡ front ++ members_below cset n → now ≡ front ++ members_of cset
all_members cset front now n low high is =
    let last : n ≡ 256 = omega arith in is ∙ ap (λ text. front ++ text) (ap (members_below cset) last ∙ all_below cset)
