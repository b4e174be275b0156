-- Maps by names, and where names stand first.
use Rattle.std.proofs.Common.{◌≡◌, ℕ, suc, ◌+◌, Bool, true, false, cond, List, map, Option, Some, None, if◌then◌else◌, refl, sym, ap, ◌∙◌, arith}
use Rattle.std.specs.Prelude.{is_some}
use Rattle.std.specs.Borrow.{Bor}
use Rattle.std.specs.HashMap.{HashMap, Updates}
use Rattle.std.specs.Option.{option_map, option_or}
use Rattle.std.specs.Str.{bytes_eq}
use Rattle.std.proofs.lemmas.Bool.{false≢true}
use Rattle.std.proofs.lemmas.Slice.Eq.{bytes_eq-Decides}
use Rattle.icn_link.specs.Joined.{global_entry, global_with, index_of}
use Rattle.icn_link.specs.Mentions.{AllMentions}
use Rattle.icn_link.specs.Views.{entry_in}

-- what a map has after an insert
pub inserted_at : {X S : Type 0} (key : Bor (List ℕ)) (m n : HashMap (Bor (List ℕ)) X S) (w : Option X)
    → Updates (λ a b. bytes_eq a.now b.now) m n key w
    → (name : List ℕ) → entry_in n name ≡ cond (bytes_eq key.now name) w (entry_in m name)
inserted_at key m n w h name = h.0 (record { ref_ptr = (0, 0); now = name })

pub or_none : {X : Type 0} (x : Option X) → option_or x None ≡ x
or_none None = refl
or_none (Some x) = refl

other_way : (a b : List ℕ) (test : Bool) → bytes_eq a b ≡ test → bytes_eq b a ≡ test
other_way a b true e = (bytes_eq-Decides b a).1 (sym ((bytes_eq-Decides a b).0 e))
other_way a b false e = by (bytes_eq b a) refl
  where
    by : (t : Bool) → bytes_eq b a ≡ t → t ≡ false
    by true f = absurd (false≢true (sym e ∙ (bytes_eq-Decides a b).1 (sym ((bytes_eq-Decides b a).0 f))))
    by false f = refl

-- a name that is held keeps what it has
pub stays : {X : Type 0} (has : List ℕ → Option X) (name : List ℕ) (x : X) → is_some (has name) ≡ true → (other : List ℕ)
    → has other ≡ option_or (has other) (if bytes_eq other name then Some x else None)
stays has name x h other = by (bytes_eq other name) refl
  where
    held : (found : Option _) → is_some found ≡ true → found ≡ option_or found (Some x)
    held (Some y) t = refl
    held None t = absurd (false≢true t)

    by : (test : Bool) → bytes_eq other name ≡ test → has other ≡ option_or (has other) (if test then Some x else None)
    by true e = held (has other) (ap (λ n. is_some (has n)) ((bytes_eq-Decides other name).0 e) ∙ h)
    by false e = sym (or_none (has other))

-- and one that is not held gets it
pub name_comes : {X : Type 0} (has new : List ℕ → Option X) (name : List ℕ) (x : X) → is_some (has name) ≡ false
    → ((other : List ℕ) → new other ≡ cond (bytes_eq name other) (Some x) (has other)) → (other : List ℕ)
    → new other ≡ option_or (has other) (if bytes_eq other name then Some x else None)
name_comes has new name x h now other = by (bytes_eq other name) refl
  where
    lacks : (found : Option _) → is_some found ≡ false → Some x ≡ option_or found (Some x)
    lacks None t = refl
    lacks (Some y) t = absurd (false≢true (sym t))

    by : (test : Bool) → bytes_eq other name ≡ test → new other ≡ option_or (has other) (if test then Some x else None)
    by true e =
        now other ∙ ap (λ t. cond t (Some x) (has other)) (other_way other name true e)
        ∙ lacks (has other) (ap (λ n. is_some (has n)) ((bytes_eq-Decides other name).0 e) ∙ h)
    by false e = now other ∙ ap (λ t. cond t (Some x) (has other)) (other_way other name false e) ∙ sym (or_none (has other))

-- where a name stands, behind so many others
abbrev pub numbered : ℕ → List (List ℕ) → List ℕ → Option ℕ
numbered n names name = option_map (λ k. n + k) (index_of names name)

next_by : (n : ℕ) (p : Option ℕ) → option_map (λ k. suc n + k) p ≡ option_map (λ k. n + k) (option_map suc p)
next_by n None = refl
next_by n (Some k) = ap Some (omega arith)

from_zero : (p : Option ℕ) → option_map (λ k. 0 + k) p ≡ p
from_zero None = refl
from_zero (Some k) = ap Some (omega arith)

-- globals by maps that say where names stand first
pub entries_same : (M : AllMentions) (f g : List ℕ → Option ℕ) (ps rs names : List (List ℕ)) → ((name : List ℕ) → f name ≡ index_of ps name)
    → ((name : List ℕ) → g name ≡ index_of rs name) → map (global_with M f g) names ≡ map (global_entry M ps rs) names
entries_same M f g ps rs names h k =
    ap (λ (p : List ℕ → Option ℕ). map (global_with M p g) names) (λ i name. h name i)
    ∙ ap (λ (r : List ℕ → Option ℕ). map (global_with M (index_of ps) r) names) (λ i name. k name i)
