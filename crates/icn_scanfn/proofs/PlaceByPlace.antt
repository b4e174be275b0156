-- Searches over the places of a text, place by place.
use Rattle.std.proofs.Common.{◌≡◌, ◌∙◌, refl, sym, ap, ℕ, zero, suc, ◌+◌, ◌-◌, ◌<◌, ◌≤◌, Bool, true, false, cond, List, [], ◌∷◌, length, drop, get_or, arith, Option, Some, None}
use Rattle.std.specs.List.{find, prefix_len, range_with_len}
use Rattle.icn_value.specs.declared.cset.Cset.{Cset}
use Rattle.icn_value.specs.Csets.{has}
use Rattle.icn_value.specs.Members.{contains, members_of}
use Rattle.icn_value.proofs.CsetMembers.{members_pass}
use Rattle.icn_defs.specs.Scanning.{balanced_position, between, close_one, count_behind}
use Rattle.std.specs.Prelude.{◌==◌, ◌&&◌, nat_lt, option_and_then}
use Rattle.std.proofs.lemmas.Bool.{lt-ltb}

-- a byte stands among the members where the cset has it
pub is_member : (cset : Cset) (byte : ℕ) → byte < 256 → contains (members_of cset) byte ≡ has cset byte
unfolding members_of
is_member cset byte few = members_pass (has cset) byte few

-- a search looks at its first place, and then goes on behind it
pub found_or_later : (test : ℕ → Bool) (at last : ℕ) → at < last
    → find test (range_with_len at (last - at)) ≡ cond (test at) (Some at) (find test (range_with_len (at + 1) (last - (at + 1))))
found_or_later test at last less =
    let more : last - at ≡ suc (last - (at + 1)) = omega arith in
    ap (λ n. find test (range_with_len at n)) more

pub found_here : (test : ℕ → Bool) (at last : ℕ) → at < last → test at ≡ true → find test (range_with_len at (last - at)) ≡ Some at
found_here test at last less is = found_or_later test at last less ∙ ap (λ b. cond b (Some at) (find test (range_with_len (at + 1) (last - (at + 1))))) is

pub found_later : (test : ℕ → Bool) (at last : ℕ) → at < last → test at ≡ false
    → find test (range_with_len at (last - at)) ≡ find test (range_with_len (at + 1) (last - (at + 1)))
found_later test at last less is = found_or_later test at last less ∙ ap (λ b. cond b (Some at) (find test (range_with_len (at + 1) (last - (at + 1))))) is

-- The bytes between two places are the one behind the first, and those between the next place and the last.
drop_here : (text : List ℕ) (k : ℕ) → k < length text → drop k text ≡ get_or text k 0 ∷ drop (suc k) text
drop_here [] k less = absurd (omega arith)
drop_here (byte ∷ text) zero less = refl
drop_here (byte ∷ text) (suc k) less = drop_here text k (omega arith)

pub between_from : (text : List ℕ) (at last : ℕ) → 1 ≤ at → at < last → last ≤ length text + 1
    → between text at last ≡ get_or text (at - 1) 0 ∷ between text (at + 1) last
between_from text at last low less high =
    let count : last - 1 - (at - 1) ≡ suc (last - 1 - (at + 1 - 1)) = omega arith in
    let from : at + 1 - 1 ≡ suc (at - 1) = omega arith in
    rw (count, drop_here text (at - 1) (omega arith), from) refl

pub between_none : (text : List ℕ) (at last : ℕ) → last ≤ at → between text at last ≡ []
between_none text at last less =
    let none : last - 1 - (at - 1) ≡ 0 = omega arith in
    rw none refl

-- How many bytes in a row pass

pub runs_on : (test : ℕ → Bool) (text : List ℕ) (at to : ℕ) → 1 ≤ at → at < to → to ≤ length text + 1 → test (get_or text (at - 1) 0) ≡ true
    → prefix_len test (between text at to) ≡ 1 + prefix_len test (between text (at + 1) to)
runs_on test text at to low less high is =
    ap (prefix_len test) (between_from text at to low less high) ∙ ap (λ b. cond b (1 + prefix_len test (between text (at + 1) to)) 0) is

pub runs_no_more : (test : ℕ → Bool) (text : List ℕ) (at to : ℕ) → 1 ≤ at → at < to → to ≤ length text + 1 → test (get_or text (at - 1) 0) ≡ false
    → prefix_len test (between text at to) ≡ 0
runs_no_more test text at to low less high is =
    ap (prefix_len test) (between_from text at to low less high) ∙ ap (λ b. cond b (1 + prefix_len test (between text (at + 1) to)) 0) is

-- The count behind a byte

pub counts_up : (opening closing : List ℕ) (byte count : ℕ) → contains opening byte ≡ true → Some (count + 1) ≡ count_behind opening closing byte count
counts_up opening closing byte count is = sym (ap (λ b. cond b (Some (count + 1)) (cond (contains closing byte) (close_one count) (Some count))) is)

counts_closed : (opening closing : List ℕ) (byte count : ℕ) → contains opening byte ≡ false → contains closing byte ≡ true
    → count_behind opening closing byte count ≡ close_one count
counts_closed opening closing byte count absent is =
    ap (λ b. cond b (Some (count + 1)) (cond (contains closing byte) (close_one count) (Some count))) absent
    ∙ ap (λ b. cond b (close_one count) (Some count)) is

pub counts_none : (opening closing : List ℕ) (byte count : ℕ) → contains opening byte ≡ false → contains closing byte ≡ true → count ≡ 0
    → None ≡ count_behind opening closing byte count
counts_none opening closing byte count absent is none = sym (counts_closed opening closing byte count absent is ∙ ap close_one none)

closed_above : (count : ℕ) → 0 < count → close_one count ≡ Some (count - 1)
closed_above zero some = absurd (omega arith)
closed_above (suc count) some = let same : count ≡ suc count - 1 = omega arith in ap Some same

pub counts_down : (opening closing : List ℕ) (byte count : ℕ) → contains opening byte ≡ false → contains closing byte ≡ true → 0 < count
    → Some (count - 1) ≡ count_behind opening closing byte count
counts_down opening closing byte count absent is some = sym (counts_closed opening closing byte count absent is ∙ closed_above count some)

pub counts_same : (opening closing : List ℕ) (byte count : ℕ) → contains opening byte ≡ false → contains closing byte ≡ false
    → Some count ≡ count_behind opening closing byte count
counts_same opening closing byte count absent not =
    sym (ap (λ b. cond b (Some (count + 1)) (cond (contains closing byte) (close_one count) (Some count))) absent
    ∙ ap (λ b. cond b (close_one count) (Some count)) not)

-- The first balanced place

module _ (wanted opening closing text : List ℕ) (at last count : ℕ) (low : 1 ≤ at) (less : at < last) (high : last ≤ length text + 1) where
  byte : ℕ
  byte = get_or text (at - 1) 0

  later : Option ℕ → Option ℕ
  later counted = option_and_then (λ behind. balanced_position wanted opening closing (between text (at + 1) last) (at + 1) behind) counted

  balanced_by : balanced_position wanted opening closing (between text at last) at count
      ≡ cond ((count == 0) && contains wanted byte) (Some at) (later (count_behind opening closing byte count))
  unfolding byte later
  balanced_by = ap (λ bytes. balanced_position wanted opening closing bytes at count) (between_from text at last low less high)

  pub balanced_here : ((count == 0) && contains wanted (get_or text (at - 1) 0)) ≡ true
      → balanced_position wanted opening closing (between text at last) at count ≡ Some at
  unfolding byte later
  balanced_here is = balanced_by ∙ ap (λ b. cond b (Some at) (later (count_behind opening closing byte count))) is

  pub balanced_later : ((count == 0) && contains wanted (get_or text (at - 1) 0)) ≡ false → (behind : ℕ)
      → count_behind opening closing (get_or text (at - 1) 0) count ≡ Some behind
      → balanced_position wanted opening closing (between text at last) at count
      ≡ balanced_position wanted opening closing (between text (at + 1) last) (at + 1) behind
  unfolding byte later
  balanced_later absent behind is = balanced_by ∙ (ap (λ b. cond b (Some at) (later (count_behind opening closing byte count))) absent ∙ ap later is)

  pub balanced_over : ((count == 0) && contains wanted (get_or text (at - 1) 0)) ≡ false → count_behind opening closing (get_or text (at - 1) 0) count ≡ None
      → balanced_position wanted opening closing (between text at last) at count ≡ None
  unfolding byte later
  balanced_over absent is = balanced_by ∙ (ap (λ b. cond b (Some at) (later (count_behind opening closing byte count))) absent ∙ ap later is)

-- where the count is 0, a byte is balanced where it is of the cset
pub balanced_at_zero : (wanted : Cset) (byte count : ℕ) (result : Bool) → byte < 256 → count ≡ 0 → result ≡ has wanted byte
    → result ≡ ((count == 0) && contains (members_of wanted) byte)
balanced_at_zero wanted byte count result few none is =
    is ∙ (sym (is_member wanted byte few) ∙ sym (ap (λ n. (n == 0) && contains (members_of wanted) byte) none))

-- where a place is below another one, a byte stands there where it is of the cset
pub member_below : (wanted : Cset) (byte from to : ℕ) (result : Bool) → byte < 256 → from < to → result ≡ has wanted byte
    → result ≡ (nat_lt from to && contains (members_of wanted) byte)
member_below wanted byte from to result few less is =
    is ∙ (sym (is_member wanted byte few) ∙ sym (ap (λ t. t && contains (members_of wanted) byte) (lt-ltb from to less)))
